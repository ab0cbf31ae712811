-- The containers of a part, written again: what the container that stands next asks and leaves.
-- The idea: it was read, so its first word begins a container, and its contents are read where the iterator gives them. Which of the two kinds
-- it is the state tells; code asks the word (`event_begins`).
use mathlib.Core.Path.{◌≡◌, refl, sym, ap, ap₂, ◌∙◌, subst}
use mathlib.Core.Bool.{Bool, false}
use mathlib.Core.List.{List, [], ◌∷◌}
use Prim.Native.Nat.{ℕ, ◌+◌, ◌<◌}
use native.Mathlib.Omega.{arith}
use lib.ListN.{length, take, drop}
use lib.Seq.{sets}
use Rattle.theory.specs.declared.Order.{Order}
use Rattle.theory.specs.Words.{Bytes}
use Rattle.theory.specs.Tests.{ok}
use Rattle.theory.proofs.WordLaws.{Bytes-part}
use Rattle.theory.proofs.Items.{Item, Whole, Oks}
use Rattle.theory.proofs.LoopLaws.{whole}
use Rattle.theory.proofs.StructureLaws.{structure, inside, Opened, opens, length-is}
use Rattle.note.specs.Words.{word}
use Rattle.note.specs.Records.{Record, Context, read_record, read_records}
use Rattle.note.specs.Events.{Container, container_bytes, container_size}
use Rattle.note.specs.Writers.{closing_bytes}
use Rattle.demands.specs.Outputs.{Laid, HasRoom}
use Rattle.demands.proofs.Bundles.{records, event_item, same-records}
use Rattle.structures.specs.declared.Structure.{Structure}
use Rattle.structures.specs.declared.Sequence.{Sequence}
use Rattle.structures.specs.Standing.{stands, Given}
use Rattle.structures.proofs.StandingLaws.{given_some, given_length, in_order}
use Rattle.rewriting.specs.Ready.{container_head, container_late, contents_in, read_container, read_containers, Begins, RecordsReady, Stands}
use Rattle.rewriting.proofs.CopyLoop.{Copying, rest_has_room, ended, here, given_room, next}
use Rattle.rewriting.proofs.ContainerCopy.{head-laid, container_copied}
use Rattle.note.specs.Faults.{too_short}
use Rattle.note.proofs.FaultLaws.{short-some}

-- What stands in a container.
abbrev contents : Order → Whole (Bool × ℕ) (List Record)
contents o = inside (λ s. contents_in s.0) (records o)

abbrev pub container_item : Order → Item Bool Container
container_item o = structure o too_short short-some container_head container_late (contents o) (λ s c. false)

pub same_containers : (o : Order) (first : Bool) (at : ℕ) (bs : List ℕ) → read_containers o first at bs ≡ whole (container_item o) first at bs
unfolding read_containers read_container read_records read_record
same_containers o first at bs = refl

-- Behind the configuration, events are containers.
pub events_are : (o : Order) (es : List Container) → Oks (event_item o) tt es → Oks (container_item o) false es
events_are o [] h = tt
events_are o (e ∷ es) (h, hs) = (
  record { head_ok = h.head_ok; late_ok = h.late_ok; kind-word = h.kind-word; length-word = h.length-word; body_ok = h.body_ok },
  events_are o es hs,
)

module _ {o : Order} {old : List ℕ} {place : ℕ} {part out : List ℕ} {s : Sequence} (i : Copying (container_item o) o old place part out s) where
  abbrev rest : List ℕ
  rest = s.rest.now

  item : 0 < length rest → Container
  item l = (here (container_item o) o i l).item

  reads : (l : 0 < length rest) → (container_item o).read i.state s.at rest ≡ ok (item l)
  unfolding item
  reads l = (here (container_item o) o i l).reads_item

  opened : (l : 0 < length rest) → Opened o too_short short-some container_head container_late (contents o).read i.state s.at rest (item l)
  opened l = opens o too_short short-some container_head container_late (contents o).read i.state s.at rest (item l) (reads l)

  pub done : stands s.order rest ≡ false → Stands part old place out
  done none = ended (container_item o) o i none (λ l. (opened l).fits)

  module _ {t : Sequence} {x : Structure} (given : Given s.order s x t) where
    g : Given o s x t
    g = in_order i.order given

    abbrev own : Container
    own = item (given_some g)

    abbrev context : Context
    context = contents_in i.state

    abbrev inner : List ℕ
    inner = x.body.now

    abbrev end : ℕ
    end = x.place + 8 + length inner

    inner-reads : read_records o context (x.place + 8) inner ≡ ok own.body
    inner-reads =
        ap₂ (λ (n : ℕ) (b : List ℕ). read_records o context (n + 8) b) g.place_is g.body_is
        ∙ same-records o context (s.at + 8) (take (word o 4 rest) (drop 8 rest)) ∙ (opened (given_some g)).body_is

    same : record { word = x.word; body = own.body } ≡ own
    same = λ j. record { word = (g.word_is ∙ sym (opened (given_some g)).kind-is) j; body = own.body }

    -- Its two words have room, and its first word may begin a container.
    pub begin_ready : HasRoom (length out) x.place end × Begins x.word
    begin_ready = (
      (omega arith, omega (arith, given_room (container_item o) o i g), (rest_has_room (container_item o) o i).1),
      (i.state, ap (container_head i.state) g.word_is ∙ (opened (given_some g)).head_ok),
    )

    -- They were stored: its contents are next.
    module _ (mid : List ℕ) (e : mid ≡ sets out x.place (closing_bytes o x.word x.place end)) where
      begun : Laid out mid x.place (x.place + 8) (closing_bytes o x.word x.place end)
      begun = head-laid o out mid x.place end x.word begin_ready.0 e

      pub records_ready : RecordsReady o (x.place + 8) inner (length mid)
      records_ready = (
        context,
        record {
          is = own.body;
          reads = inner-reads;
          room = omega (arith, begun.size, begin_ready.0.1);
          limit = omega (arith, begun.size, begin_ready.0.2);
        },
      )

      pub container_next : (new : List ℕ) → Stands inner mid (x.place + 8) new → Copying (container_item o) o old place part new t
      unfolding item
      container_next new stands =
          let written =
          length-is o too_short short-some container_head container_late (contents o) i.state s.at rest own i.bytes (reads (given_some g)) in
          let size : container_size o own ≡ 8 + length inner = ap (λ (n : ℕ). 8 + n) (written ∙ sym (given_length g)) in
          let inner-bytes : Bytes inner = rw g.body_is (Bytes-part (word o 4 rest) 8 rest i.bytes) in
          next (container_item o) o i g size new
          (subst (λ (c : Container). Laid out new x.place end (container_bytes o c)) same
          (container_copied o out mid x.place end x.word begin_ready.0 e context inner new own.body inner-bytes inner-reads stands))
