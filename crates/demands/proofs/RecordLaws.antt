-- What Record finds at a place: a record that is valid in a file, whatever its context; 5 at a header and at a container.
use mathlib.Core.Path.{◌≡◌, refl, sym, ap, ◌∙◌}
use mathlib.Core.Bool.{Bool, true, false, ◌||◌}
use mathlib.Core.List.{List, ◌++◌}
use Prim.Native.Nat.{ℕ, ◌/◌, ◌≤◌}
use native.Mathlib.Omega.{arith}
use lib.Dec.{leb}
use lib.ListN.{length, take, drop, length-append}
use lib.Seq.{drop_at}
use borrow.Author.Tests.{le-leb, ne_eqb}
use Rattle.theory.specs.declared.Order.{Order}
use Rattle.theory.specs.Words.{Fits, word_at, put}
use Rattle.theory.specs.Tests.{Res, ok, bad, unless, among}
use Rattle.theory.proofs.WordLaws.{word_after_put}
use Rattle.theory.proofs.TestLaws.{need-ok, ok_inj, first-at, equal_passed}
use Rattle.theory.proofs.StructureLaws.{opens, ruled}
use Rattle.note.specs.Limits.{file_limit}
use Rattle.note.specs.Records.{Record, Context, entry, event, alone, is_kind, is_allowed, entry_kinds, record_kinds}
use Rattle.note.specs.Records.{record_bytes, records_bytes, record_head, record_late, record_rule, read_record}
use Rattle.note.specs.Events.{Container, container_bytes, event_mark, event_word_rule}
use Rattle.note.specs.Files.{configuration_word, file_mark}
use Rattle.note.specs.Calls.{record_found}
use Rattle.demands.specs.Valid.{ValidRecord}
use Rattle.demands.proofs.Bundles.{record_item, same_record, record_ok}
use Rattle.demands.proofs.OutputLaws.{structure_apart}
use Rattle.demands.proofs.RowLaws.{container_size_lem}
use Rattle.note.specs.Faults.{too_short}
use Rattle.note.proofs.FaultLaws.{short-some}

-- ---- a record in any context is one alone

or_left : (a b : Bool) → a ≡ true → (a || b) ≡ true
or_left a b e = rw e

or_right : (a b : Bool) → b ≡ true → (a || b) ≡ true
or_right true b e = refl
or_right false b e = e

kind-alone : (c : Context) (k : ℕ) → is_kind c k ≡ true → is_kind alone k ≡ true
unfolding is_kind
kind-alone entry k e = or_left (among k entry_kinds) (among k record_kinds) e
kind-alone (event seen) k e = or_right (among k entry_kinds) (among k record_kinds) e
kind-alone alone k e = e

pub valid-alone : (o : Order) (c : Context) (r : Record) → ValidRecord o c r → ValidRecord o alone r
unfolding is_allowed
valid-alone o c r v = record {
  kind_allowed = kind-alone c r.word v.kind_allowed;
  place_allowed = refl;
  kind_fits = v.kind_fits;
  length-fits = v.length-fits;
  body_bytes = v.body_bytes;
  body-rule = v.body-rule;
}

-- ---- at a place

-- the bytes from the place on decide what is found
pub found_from : (o : Order) (bs before rest : List ℕ) (r : Res Record) → length bs ≤ file_limit → bs ≡ before ++ rest
    → read_record o alone (length before) rest ≡ r → record_found o bs (length before) ≡ r
unfolding record_found
found_from o bs before rest r l e q =
    rw (le-leb (length bs) file_limit l)
    (ap (λ (x : List ℕ). read_record o alone (length before) (drop (length before) x)) e
    ∙ ap (read_record o alone (length before)) (drop_at before rest (length before) refl) ∙ q)

pub reads_record : (o : Order) (c : Context) (r : Record) (at : ℕ) (rest : List ℕ) → ValidRecord o c r
    → read_record o alone at (record_bytes o r ++ rest) ≡ ok r
reads_record o c r at rest v =
    same_record o alone at (record_bytes o r ++ rest) ∙ (record_item o).complete alone at r rest (record_ok o alone r (valid-alone o c r v))

-- a structure of a kind that no record has
pub reads_none : (o : Order) (at : ℕ) (bs : List ℕ) → 8 ≤ length bs → is_kind alone (word_at o 4 0 bs) ≡ false → read_record o alone at bs ≡ bad 5 at
unfolding read_record
reads_none o at bs l e = rw (le-leb 8 (length bs) l, e)

-- An event's first word has the mark in its upper half, and so is above every kind word.
pub event_mark_lem : (w : ℕ) → event_word_rule w ≡ 0 → w / 65536 ≡ event_mark
unfolding event_word_rule
event_mark_lem w e = equal_passed (w / 65536) event_mark 4 (first-at _ e 0)

pub no_kind : (w : ℕ) → w / 65536 ≡ event_mark → is_kind alone w ≡ false
unfolding is_kind
no_kind w mark =
    rw (
      ne_eqb w 0x00010001 (λ e. omega arith),
      ne_eqb w 0x00010002 (λ e. omega arith),
      ne_eqb w 0x02 (λ e. omega arith),
      ne_eqb w 0x11 (λ e. omega arith),
      ne_eqb w 0x21 (λ e. omega arith),
      ne_eqb w 0x60 (λ e. omega arith),
      ne_eqb w 0x80 (λ e. omega arith),
      ne_eqb w 0x81 (λ e. omega arith),
    )

pub no_configuration : is_kind alone configuration_word ≡ false
unfolding is_kind
no_configuration = refl

pub no_header : is_kind alone file_mark ≡ false
unfolding is_kind
no_header = refl

-- So Record finds no record at a container.
pub reads_container : (o : Order) (at : ℕ) (c : Container) (rest : List ℕ) → Fits 4 c.word → is_kind alone c.word ≡ false
    → read_record o alone at (container_bytes o c ++ rest) ≡ bad 5 at
reads_container o at c rest f k =
    let bs : List ℕ = container_bytes o c ++ rest in
    let n : List ℕ = put o 4 (length (records_bytes o c.body)) in
    let w : word_at o 4 0 bs ≡ c.word =
    ap (word_at o 4 0) (structure_apart o (records_bytes o) c rest)
    ∙ word_after_put o 4 c.word (n ++ (records_bytes o c.body ++ rest)) f in
    reads_none o at bs (omega (arith, length-append (container_bytes o c) rest, container_size_lem o c)) (rw w k)

-- ---- what was read

-- A record that was read: its kind is the first word, its body follows the two words.
pub record_opens : (o : Order) (c : Context) (at : ℕ) (bs : List ℕ) (r : Record) → (record_item o).read c at bs ≡ ok r
    → (r.word ≡ word_at o 4 0 bs) × (r.body ≡ take (word_at o 4 4 bs) (drop 8 bs))
record_opens o c at bs r e =
    let shown = opens o too_short short-some record_head record_late (ruled (λ s. record_rule o s.1)).read c at bs r e in
    let b : List ℕ = take (word_at o 4 4 bs) (drop 8 bs) in
    let (passed, same) = need-ok (record_rule o (word_at o 4 0 bs) b) at (ok b) shown.body_is in
    (shown.kind-is, sym (ok_inj same))

-- What is found at a place are the bytes there.
pub found-body : (o : Order) (bs : List ℕ) (place : ℕ) (r : Record) → record_found o bs place ≡ ok r
    → r.body ≡ take (word_at o 4 4 (drop place bs)) (drop 8 (drop place bs))
unfolding record_found
found-body o bs place r e =
    let from : List ℕ = drop place bs in
    let (l, q) = need-ok (unless (leb (length bs) file_limit) 1) 0 (read_record o alone place from) e in
    (record_opens o alone place from r (sym (same_record o alone place from) ∙ q)).1
