-- What a count says of what was read; and one law for each way through a container's reader, once for configurations and events.
-- The idea: a container is its two words, in order, and then its records; the two sorts differ in the tests of the words and in the records' context.
use mathlib.Core.Path.{◌≡◌, refl, sym, ap, ◌∙◌}
use mathlib.Core.List.{List}
use Prim.Native.Nat.{ℕ, ◌+◌, ◌-◌, ◌≤◌, ◌<◌}
use native.Mathlib.Omega.{arith}
use lib.ListN.{length, take, drop, length-drop}
use lib.Seq.{length-take-le}
use borrow.Author.Tests.{le-leb, lt-leb}
use Rattle.theory.specs.declared.Order.{Order}
use Rattle.theory.specs.Words.{Bytes}
use Rattle.theory.specs.Tests.{Res, ok, bad, bind}
use Rattle.theory.proofs.WordLaws.{Bytes-part}
use Rattle.theory.proofs.TestLaws.{ok_inj, positive}
use Rattle.theory.proofs.StructureLaws.{stateless, opens, length-is, inside}
use Rattle.note.specs.Words.{word}
use Rattle.note.specs.Faults.{too_short}
use Rattle.note.specs.Records.{Record, records_bytes, read_record, read_records}
use Rattle.note.specs.Events as Note
use Rattle.note.specs.Events.{event_late, read_event}
use Rattle.note.specs.Files.{configuration_late, read_configuration}
use Rattle.note.proofs.FaultLaws.{short-some}
use Rattle.demands.proofs.Bundles.{records, same-records}
use Rattle.demands.proofs.ClosingLaws.{reader}
use Rattle.record.proofs.StepLaws.{cut_body, cut}
use Rattle.containers.specs.declared.Container.{Container}
use Rattle.containers.specs.declared.Container.TheVariants.{Configuration, Event}
use Rattle.containers.specs.declared.Holding.{Holding}
use Rattle.containers.specs.Counts.{container_rule, least_of, context_in, read_container, count_of, record_count, container_step}

-- What a count says of what was read: records, events or a file.
module _ {A : Type 0} (size : A → ℕ) where
  pub count-good : {r : Res A} {m : ℕ} → ok m ≡ count_of size r → (x : A) × (r ≡ ok x) × (size x ≡ m)
  unfolding count_of
  count-good {r = ok x} e = (x, refl, cc)
  count-good {r = bad c p} e = cc

  pub count-bad : {r : Res A} {c p : ℕ} → bad c p ≡ count_of size r → r ≡ bad c p
  unfolding count_of
  count-bad {r = ok x} e = cc
  count-bad {r = bad c' p'} e = cc

-- What a container's answer says of what was read.
pub holding_good : (o : Order) (r : Res Note.Container) (h : Holding) → ok h ≡ container_step o r
    → (e : Note.Container) × (r ≡ ok e) × (e.word ≡ h.word) × (length (records_bytes o e.body) ≡ h.length) × (length e.body ≡ h.count)
unfolding container_step
holding_good o (ok e) h q =
    let is : h ≡ record { word = e.word; length = length (records_bytes o e.body); count = length e.body } = ok_inj q in (
      e,
      refl,
      sym (ap (λ (x : Holding). x.word) is),
      sym (ap (λ (x : Holding). x.length) is),
      sym (ap (λ (x : Holding). x.count) is),
    )
holding_good o (bad c p) h q = cc

pub holding_bad : (o : Order) (r : Res Note.Container) (c p : ℕ) → bad c p ≡ container_step o r → r ≡ bad c p
unfolding container_step
holding_bad o (ok e) c p q = cc
holding_bad o (bad c' p') c p q = cc

-- The test of the length: an event isn't empty.
abbrev late_of : Container → ℕ → ℕ → ℕ
late_of Configuration = configuration_late
late_of Event = event_late

late_passes : (sort : Container) (w n : ℕ) → least_of sort ≤ n → late_of sort w n ≡ 0
late_passes Configuration w n l = refl
late_passes Event w n l = rw (le-leb 1 n l)

late-fails : (sort : Container) (w n : ℕ) → n < least_of sort → late_of sort w n ≡ 9
late-fails Configuration w n l = absurd (omega (arith, l))
late-fails Event w n l = rw (lt-leb 1 n l)

-- A container of either sort is read so.
reads_so : (sort : Container) (o : Order) (at : ℕ) (bs : List ℕ)
    → read_container sort o at bs ≡ reader o (container_rule sort) (late_of sort) (context_in sort) at bs
unfolding read_configuration read_event
reads_so Configuration o at bs = refl
reads_so Event o at bs = refl

-- What the records' reader answers of a container's contents, as code cuts them: n bytes behind the two words.
abbrev pub contents_answer : Container → Order → ℕ → List ℕ → ℕ → Res ℕ
contents_answer sort o at bs n = record_count (read_records o (context_in sort) (at + 8) (cut_body n bs))

module _ (sort : Container) (o : Order) where
  -- A container that was read: its length word is its contents' length, and it fits.
  pub sized : (at : ℕ) (bs : List ℕ) (c : Note.Container) → Bytes bs → read_container sort o at bs ≡ ok c
      → (length (records_bytes o c.body) ≡ word o 4 bs) × (8 + word o 4 bs ≤ length bs)
  unfolding read_records read_record
  sized at bs c h q =
      let e : reader o (container_rule sort) (late_of sort) (context_in sort) at bs ≡ ok c = sym (reads_so sort o at bs) ∙ q in (
        length-is o too_short short-some (stateless (container_rule sort)) (stateless (late_of sort))
            (inside (λ s. context_in sort) (records o)) tt at bs c h e,
        (opens o too_short short-some (stateless (container_rule sort)) (stateless (late_of sort))
            (inside (λ s. context_in sort) (records o)).read tt at bs c e).fits,
      )

  -- Each test of the two words that fails is the refusal; the tests before it have passed.
  module _ (at : ℕ) (bs : List ℕ) where
    pub short : length bs < 8 → bad 2 at ≡ container_step o (read_container sort o at bs)
    unfolding container_step
    short h = rw (reads_so sort o at bs, lt-leb 8 (length bs) h)

    module _ (h : 8 ≤ length bs) where
      pub fault : (c : ℕ) → c ≡ container_rule sort (word o 0 bs) → (c ≡ 0 → ⊥) → bad c at ≡ container_step o (read_container sort o at bs)
      unfolding container_step
      fault c ec z = rw (reads_so sort o at bs, ← ec, le-leb 8 (length bs) h, positive c z)

      module _ (z : container_rule sort (word o 0 bs) ≡ 0) (n : ℕ) (en : n ≡ word o 4 bs) where
        pub long : length bs - 8 < n → bad 2 at ≡ container_step o (read_container sort o at bs)
        unfolding container_step
        long l = rw (reads_so sort o at bs, ← en, le-leb 8 (length bs) h, z, lt-leb (8 + n) (length bs) (omega arith))

        pub empty : n ≤ length bs - 8 → n < least_of sort → bad 9 at ≡ container_step o (read_container sort o at bs)
        unfolding container_step
        empty l m =
            rw (
              reads_so sort o at bs,
              ← en,
              le-leb 8 (length bs) h,
              z,
              le-leb (8 + n) (length bs) (omega arith),
              late-fails sort (word o 0 bs) n m,
            )

-- A part whose two words k and n pass each test: they begin a container of n bytes of contents.
pub record Begun (sort : Container) (o : Order) (bs : List ℕ) (k n : ℕ) : Type 0 where
  pub bytes : Bytes bs
  pub room : 8 ≤ length bs
  pub kind-is : k ≡ word o 0 bs
  pub allowed : container_rule sort (word o 0 bs) ≡ 0
  pub length-is : n ≡ word o 4 bs
  pub fits : n ≤ length bs - 8
  pub placed : least_of sort ≤ n

-- The container is then what its contents are read as.
module _ {sort : Container} {o : Order} {bs : List ℕ} {k n : ℕ} (b : Begun sort o bs k n) (at : ℕ) where
  begun-reads : (r : Res (List Record)) → read_records o (context_in sort) (at + 8) (cut_body n bs) ≡ r
      → read_container sort o at bs ≡ bind {B = Note.Container} r (λ xs. ok (record { word = k; body = xs }))
  begun-reads r e =
      let same : read_records o (context_in sort) (at + 8) (take n (drop 8 bs)) ≡ r =
      ap (read_records o (context_in sort) (at + 8)) (sym (cut n bs)) ∙ e in
      rw (
        reads_so sort o at bs,
        ← b.length-is,
        le-leb 8 (length bs) b.room,
        b.allowed,
        le-leb (8 + n) (length bs) (omega (arith, b.fits, b.room)),
        late_passes sort (word o 0 bs) n b.placed,
        same,
        ← b.kind-is,
      )

  pub contents-fault : (x p : ℕ) → bad x p ≡ contents_answer sort o at bs n → bad x p ≡ container_step o (read_container sort o at bs)
  unfolding container_step
  contents-fault x p e = rw (begun-reads (bad x p) (count-bad length e))

  pub held : (m : ℕ) → ok m ≡ contents_answer sort o at bs n
      → ok (record { word = k; length = n; count = m }) ≡ container_step o (read_container sort o at bs)
  unfolding container_step
  held m e =
      let contents : List ℕ = take n (drop 8 bs) in
      let (xs, q, size) = count-good length e in
      let r : (records o).read (context_in sort) (at + 8) contents ≡ ok xs =
      sym (same-records o (context_in sort) (at + 8) contents) ∙ ap (read_records o (context_in sort) (at + 8)) (sym (cut n bs)) ∙ q in
      let by : Bytes contents = Bytes-part n 8 bs b.bytes in
      let is : contents ≡ records_bytes o xs = ((records o).sound (context_in sort) (at + 8) contents xs by r).0 in
      let len : length (records_bytes o xs) ≡ n = ap length (sym is) ∙ length-take-le n (drop 8 bs) (omega (arith, length-drop 8 bs, b.fits)) in
      rw (begun-reads (ok xs) q, len, size)
