-- A file is accepted exactly when it is the bytes of a valid tree, and bytes have one meaning.
-- The idea: each direction is the theory's, for the whole that the file is; the limit is one test in front.
use mathlib.Core.Path.{◌≡◌, refl, sym, ap, ◌∙◌, subst}
use mathlib.Core.Logic.{◌↔◌}
use mathlib.Core.List.{List, [], ◌++◌, append-nil}
use Prim.Native.Nat.{ℕ, ◌≤◌}
use native.Mathlib.Omega.{arith}
use lib.Dec.{leb}
use lib.ListN.{length}
use Rattle.theory.specs.declared.Order.{Order}
use Rattle.theory.specs.declared.Order.TheVariants.{Little}
use Rattle.theory.specs.Tests.{Res, ok, bind, unless}
use Rattle.theory.specs.Words.{Bytes}
use Rattle.theory.proofs.TestLaws.{ok_inj, need-ok, bind_ok, equal_passed, equal_passes, most_passed, most_passes}
use Rattle.note.specs.Limits.{file_limit}
use Rattle.note.specs.Records.{entry}
use Rattle.note.specs.Files.{Parts, File, order_in, configuration_of, events_of, configuration_word, file_bytes, read_parts, order_of, read_file}
use Rattle.demands.specs.Valid.{Valid}
use Rattle.demands.proofs.Bundles.{parts, same_parts, records-valid, records-ok, events-valid, events-ok}

-- A valid file's first bytes show its order, whatever stands behind it.
pub order_shown : (f : File) (rest : List ℕ) → Valid f → order_of (file_bytes f ++ rest) ≡ order_in f
unfolding order_of
order_shown f rest v = sym v.byte-order

-- The order that bytes show is one that a file may have.
pub order_admitted : (bs : List ℕ) → order_of bs ≡ Little
unfolding order_of
order_admitted bs = refl

-- What the parts ask is validity, but for the order and the limit.
pub parts-valid : (f : File) → order_in f ≡ Little → (parts (order_in f)).Ok tt f.1 → length (file_bytes f) ≤ file_limit → Valid f
parts-valid f b v l = record {
  byte-order = b;
  version-rule = v.0.0;
  version-fits = v.0.1;
  configuration-word = equal_passed (configuration_of f).word configuration_word 4 v.1.0.head_ok;
  configuration-fits = v.1.0.length-word;
  entries-valid = records-valid (order_in f) entry (configuration_of f).body v.1.0.body_ok;
  events-valid = events-valid (order_in f) (events_of f) v.1.1;
  within-limit = l;
}

pub parts-ok : (f : File) → Valid f → (parts (order_in f)).Ok tt f.1
parts-ok f v =
    let e : (configuration_of f).word ≡ configuration_word = v.configuration-word in (
      (v.version-rule, v.version-fits),
      (
        record {
          head_ok = equal_passes 5 e;
          late_ok = refl;
          kind-word = rw e (omega arith);
          length-word = v.configuration-fits;
          body_ok = records-ok (order_in f) entry (configuration_of f).body v.entries-valid;
        },
        events-ok (order_in f) (events_of f) v.events-valid,
      ),
    )

-- An accepted file is within the limit, its order is the one that its bytes show, and its parts were read in that order.
pub record Accepted (bs : List ℕ) (f : File) : Type 0 where
  pub within-limit : length bs ≤ file_limit
  pub order_is : order_in f ≡ order_of bs
  pub parts-read : (parts (order_in f)).read tt 0 bs ≡ ok f.1

pub accepted_means : (bs : List ℕ) (f : File) → read_file bs ≡ ok f → Accepted bs f
unfolding read_file
accepted_means bs f e =
    let named : Parts → Res File = λ p. ok (order_of bs, p) in
    let (l, q) = need-ok (unless (leb (length bs) file_limit) 1) 0 (bind (read_parts (order_of bs) bs) named) e in
    let (p, is, same) = bind_ok (read_parts (order_of bs) bs) named q in
    let whole : (order_of bs, p) ≡ f = ok_inj same in
    subst (Accepted bs) whole (record {
      within-limit = most_passed (length bs) file_limit 0 l;
      order_is = refl;
      parts-read = sym (same_parts (order_of bs) bs) ∙ is;
    })

-- So it is its parts with that order.
pub in_its_order : (bs : List ℕ) (f : File) → read_file bs ≡ ok f → f ≡ (order_of bs, f.1)
in_its_order bs f e = ap (λ (o : Order). (o, f.1)) (accepted_means bs f e).order_is

-- And what its parts give within the limit is what the file gives.
pub read-within : (bs : List ℕ) (r : Res Parts) → length bs ≤ file_limit → (parts (order_of bs)).read tt 0 bs ≡ r
    → read_file bs ≡ bind r (λ p. ok (order_of bs, p))
unfolding read_file
read-within bs r l e = rw (most_passes 1 l) (ap (λ (q : Res Parts). bind q (λ p. ok (order_of bs, p))) (same_parts (order_of bs) bs ∙ e))

-- Sound: what was accepted is the bytes of a valid tree.
pub file_sound : (bs : List ℕ) (f : File) → Bytes bs → read_file bs ≡ ok f → (bs ≡ file_bytes f) × Valid f
file_sound bs f h e =
    let a = accepted_means bs f e in
    let (b, v) = (parts (order_in f)).sound tt 0 bs f.1 h a.parts-read in
    (b, parts-valid f (a.order_is ∙ order_admitted bs) v (subst (λ (x : List ℕ). length x ≤ file_limit) b a.within-limit))

-- Complete: the bytes of a valid tree are accepted, and read as that tree.
pub file_complete : (f : File) → Valid f → read_file (file_bytes f) ≡ ok f
file_complete f v =
    let bs : List ℕ = file_bytes f in
    let same : order_of bs ≡ order_in f = ap order_of (sym (append-nil bs)) ∙ order_shown f [] v in
    read-within bs (ok f.1) v.within-limit
    (ap (λ (o : Order). (parts o).read tt 0 bs) same ∙ (parts (order_in f)).complete tt 0 f.1 (parts-ok f v))
    ∙ ap (λ (o : Order). ok (o, f.1)) same

-- Accepted exactly when it follows the note.
pub accepted_iff_follows : (bs : List ℕ) (f : File) → Bytes bs → (read_file bs ≡ ok f) ↔ ((bs ≡ file_bytes f) × Valid f)
accepted_iff_follows bs f h = (λ e. file_sound bs f h e, λ p. subst (λ (x : List ℕ). read_file x ≡ ok f) (sym p.0) (file_complete f p.1))

-- A file has one meaning.
pub one_meaning : (f g : File) → Valid f → Valid g → file_bytes f ≡ file_bytes g → f ≡ g
one_meaning f g vf vg e = ok_inj (sym (file_complete f vf) ∙ ap read_file e ∙ file_complete g vg)
