-- The records of a part, written again: what the record that stands next asks and leaves.
-- The idea: it was read, so its kind word and its body are what the iterator gives, and its body follows its kind's rule.
use mathlib.Core.Path.{◌≡◌, refl, sym, ap, ◌∙◌, subst}
use mathlib.Core.Bool.{false}
use mathlib.Core.List.{List}
use Prim.Native.Nat.{ℕ, ◌+◌, ◌<◌}
use native.Mathlib.Omega.{arith}
use lib.ListN.{length, take, drop}
use Rattle.theory.specs.declared.Order.{Order}
use Rattle.theory.proofs.WordLaws.{Bytes-part}
use Rattle.note.specs.Words.{word}
use Rattle.note.specs.Records.{Record, record_bytes, record_size, record_rule, kind_of}
use Rattle.note.proofs.KindCases.{kind_cases}
use Rattle.demands.specs.Outputs.{Laid}
use Rattle.demands.proofs.Bundles.{record_item, same_record}
use Rattle.record.proofs.StepLaws.{Read, read-shows}
use Rattle.structures.specs.declared.Structure.{Structure}
use Rattle.structures.specs.declared.Sequence.{Sequence}
use Rattle.structures.specs.Standing.{stands, Given}
use Rattle.structures.proofs.StandingLaws.{given_some, in_order}
use Rattle.copies.specs.Copying.{Copyable, Copied}
use Rattle.rewriting.specs.Ready.{Stands}
use Rattle.rewriting.proofs.CopyLoop.{Copying, rest_has_room, ended, here, given_room, next}

-- An admitted kind has the kind word that names it.
named : (o : Order) (w : ℕ) (b : List ℕ) → record_rule o w b ≡ 0 → (kind_of w).word ≡ w
named o w b =
    kind_cases (λ w x. x.rule o b ≡ 0 → x.word ≡ w) w
    (λ e. refl) (λ e. refl) (λ e. refl) (λ e. refl) (λ e. refl) (λ e. refl) (λ e. refl) (λ e. refl) (λ e. absurd (omega arith))

module _ {o : Order} {old : List ℕ} {place : ℕ} {part out : List ℕ} {s : Sequence} (i : Copying (record_item o) o old place part out s) where
  abbrev rest : List ℕ
  rest = s.rest.now

  abbrev kind : ℕ
  kind = word o 0 rest

  abbrev body : List ℕ
  body = take (word o 4 rest) (drop 8 rest)

  shown : (l : 0 < length rest)
      → Read o i.state s.at rest kind (word o 4 rest) × ((here (record_item o) o i l).item ≡ record { word = kind; body = body })
  shown l =
      let a = here (record_item o) o i l in read-shows o i.state s.at rest a.item (same_record o i.state s.at rest ∙ a.reads_item)

  pub done : stands s.order rest ≡ false → Stands part old place out
  done none = ended (record_item o) o i none (λ l. (shown l).0.fits)

  module _ {t : Sequence} {x : Structure} (given : Given s.order s x t) where
    g : Given o s x t
    g = in_order i.order given

    follows : record_rule o x.word x.body.now ≡ 0
    follows = rw (g.word_is, g.body_is) (shown (given_some g)).0.follows

    pub copyable : Copyable o (kind_of x.word) x.body.now (length out) x.place
    copyable = record {
      bytes = rw g.body_is (Bytes-part (word o 4 rest) 8 rest i.bytes);
      follows = follows;
      room = given_room (record_item o) o i g;
      limit = (rest_has_room (record_item o) o i).1;
    }

    pub copied_next : (new : List ℕ) → Copied o (kind_of x.word) x.body.now out x.place new → Copying (record_item o) o old place part new t
    copied_next new h =
        let own : Record = record { word = (kind_of x.word).word; body = x.body.now } in
        let is : own ≡ (here (record_item o) o i (given_some g)).item =
        (λ j. record { word = (named o x.word x.body.now follows ∙ g.word_is) j; body = g.body_is j }) ∙ sym (shown (given_some g)).1 in
        next (record_item o) o i g (sym (ap record_size is)) new
        (subst (λ (r : Record). Laid out new x.place (x.place + (8 + length x.body.now)) (record_bytes o r)) is h)
