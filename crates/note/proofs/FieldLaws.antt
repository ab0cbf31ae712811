-- The kinds whose body is k words: the fields read from an accepted body write that body again; fields without a fault, written and
-- read, are the same and their body is accepted. One pair of lemmas over any k words and any fields, then two lines for each kind.
use mathlib.Core.Path.{◌≡◌, refl, sym, ap, ◌∙◌}
use mathlib.Core.List.{List, [], ◌∷◌, map, append-nil}
use Prim.Native.Nat.{ℕ, ◌*◌}
use native.Mathlib.Omega.{arith}
use lib.Dec.{eqb}
use lib.IntN.{ℤ, pos}
use lib.ListN.{length, get_or}
use Rattle.theory.specs.declared.Order.{Order}
use Rattle.theory.specs.Words.{Bytes, words_at, AllFit}
use Rattle.theory.specs.Tests.{first, unless}
use Rattle.theory.proofs.TestLaws.{Passed, first-at, first_passes, equal_passed, equal_passes}
use Rattle.theory.proofs.WordLaws.{words_of_puts, puts_fill, words_fit, length-puts}
use Rattle.note.specs.Words.{word, words, signed, unsigned, AllSigned}
use Rattle.note.specs.declared.Phonon.{Phonon}
use Rattle.note.specs.Phonon.{phonon_words, phonon_of, phonon_bytes, phonon_fault, phonon_rule}
use Rattle.note.specs.declared.Charge.{Charge}
use Rattle.note.specs.Charge.{charge_words, charge_of, charge_bytes, charge_fault, charge_rule}
use Rattle.note.specs.declared.Administrative.{Administrative}
use Rattle.note.specs.Administrative.{administrative_words, administrative_of, administrative_bytes}
use Rattle.note.specs.Administrative.{administrative_fault, administrative_rule}
use Rattle.note.specs.declared.Trigger.{Trigger}
use Rattle.note.specs.Trigger.{trigger_masks, trigger_of, trigger_bytes, trigger_rule}
use Rattle.note.specs.declared.Tlb.{Tlb}
use Rattle.note.specs.Tlb.{tlb_words, tlb_of, tlb_bytes, tlb_fault, tlb_rule}
use Rattle.note.proofs.SignedLaws.{all-signed-again, all-unsigned-again, all_unsigned_fit}

-- ---- any k words

-- The k words of a body, and a rule that asks for k words before its other tests.
abbrev pub read : Order → ℕ → List ℕ → List ℕ
read o k b = words_at o 4 k 0 b

abbrev pub rule : ℕ → List ℕ → List ℕ → ℕ
rule k b tests = first (unless (eqb (length b) (k * 4)) 6 ∷ tests)

-- A body that passes has k words, and these words written again are the body.
pub sized : (k : ℕ) (b tests : List ℕ) → rule k b tests ≡ 0 → length b ≡ k * 4
sized k b tests e = equal_passed (length b) (k * 4) 5 (first-at _ e 0)

pub restored : (o : Order) → (k : ℕ) (b tests : List ℕ) → Bytes b → rule k b tests ≡ 0 → words o (read o k b) ≡ b
restored o k b tests h e = puts_fill o 4 k b h (sized k b tests e)

signed_restored : (o : Order) → (k : ℕ) (b tests : List ℕ) → Bytes b → rule k b tests ≡ 0 → words o (map unsigned (map signed (read o k b))) ≡ b
signed_restored o k b tests h e =
    let l : length b ≡ k * 4 = sized k b tests e in
    ap (words o) (all-signed-again (read o k b) (words_fit o 4 k 0 b h (omega arith))) ∙ restored o k b tests h e

-- Numbers written as words and read back.
abbrev pub reread : Order → List ℕ → List ℕ
reread o ns = read o (length ns) (words o ns)

pub words-read : (o : Order) → (ns : List ℕ) → AllFit 4 ns → reread o ns ≡ ns
words-read o ns h = ap (read o (length ns)) (sym (append-nil (words o ns))) ∙ words_of_puts o 4 ns [] h

-- Number j of a list, as a field is found in it; lists that are the same have the same.
abbrev at : List ℕ → ℕ → ℕ
at ns j = get_or ns j 0

pub number_at : {ms ns : List ℕ} → ms ≡ ns → (j : ℕ) → at ms j ≡ at ns j
number_at e j = ap (λ (l : List ℕ). at l j) e

abbrev signed_at : List ℤ → ℕ → ℤ
signed_at zs j = get_or zs j (pos 0)

-- The tests and the fields are functions of the words.
module _ (o : Order) {F : Type 0} (tests : List ℕ → List ℕ) where
  pub read_back : (fields : List ℕ → F) (ns : List ℕ) → AllFit 4 ns → Passed (tests ns)
      → (rule (length ns) (words o ns) (tests (reread o ns)) ≡ 0) × (fields (reread o ns) ≡ fields ns)
  read_back fields ns h e =
      let r : reread o ns ≡ ns = words-read o ns h in
      (first_passes _ (equal_passes 6 (length-puts o 4 ns), rw r e), ap fields r)

  signed_read_back : (fields : List ℤ → F) (zs : List ℤ) → AllSigned zs → Passed (tests (map unsigned zs))
      → (rule (length (map unsigned zs)) (words o (map unsigned zs)) (tests (reread o (map unsigned zs))) ≡ 0)
      × (fields (map signed (reread o (map unsigned zs))) ≡ fields zs)
  signed_read_back fields zs h e =
      let r = read_back (λ ns. fields (map signed ns)) (map unsigned zs) (all_unsigned_fit zs h) e in
      (r.0, r.1 ∙ ap fields (all-unsigned-again zs h))

-- ---- phonon

pub phonon_restored : (o : Order) → (b : List ℕ) → Bytes b → phonon_rule o b ≡ 0 → phonon_bytes o (phonon_of o b) ≡ b
unfolding phonon_rule phonon_bytes phonon_of words_at
phonon_restored o b h e = signed_restored o 11 b _ h e

pub phonon_read_back : (o : Order) → (f : Phonon) → AllSigned (phonon_words f) → phonon_fault (unsigned f.code) ≡ 0
    → (phonon_rule o (phonon_bytes o f) ≡ 0) × (phonon_of o (phonon_bytes o f) ≡ f)
unfolding phonon_rule phonon_bytes phonon_of words_at
phonon_read_back o f h e = signed_read_back o (λ ns. phonon_fault (at ns 0) ∷ []) (λ zs. record {
  code = signed_at zs 0;
  tower = signed_at zs 1;
  gain = signed_at zs 2;
  qet_bias = signed_at zs 3;
  squid_bias = signed_at zs 4;
  lockpoint = signed_at zs 5;
  rtf_offset = signed_at zs 6;
  variable_gain = signed_at zs 7;
  delta_t = signed_at zs 8;
  t0 = signed_at zs 9;
  trace_length = signed_at zs 10;
}) (phonon_words f) h (e, tt)

-- ---- charge

pub charge_restored : (o : Order) → (b : List ℕ) → Bytes b → charge_rule o b ≡ 0 → charge_bytes o (charge_of o b) ≡ b
unfolding charge_rule charge_bytes charge_of words_at
charge_restored o b h e = signed_restored o 8 b _ h e

pub charge_read_back : (o : Order) → (f : Charge) → AllSigned (charge_words f) → charge_fault (unsigned f.code) ≡ 0
    → (charge_rule o (charge_bytes o f) ≡ 0) × (charge_of o (charge_bytes o f) ≡ f)
unfolding charge_rule charge_bytes charge_of words_at
charge_read_back o f h e = signed_read_back o (λ ns. charge_fault (at ns 0) ∷ []) (λ zs. record {
  code = signed_at zs 0;
  tower = signed_at zs 1;
  gain = signed_at zs 2;
  bias = signed_at zs 3;
  rtf_offset = signed_at zs 4;
  delta_t = signed_at zs 5;
  t0 = signed_at zs 6;
  trace_length = signed_at zs 7;
}) (charge_words f) h (e, tt)

-- ---- administrative

pub administrative_restored : (o : Order) → (b : List ℕ) → Bytes b → administrative_rule o b ≡ 0 → administrative_bytes o (administrative_of o b) ≡ b
unfolding administrative_rule administrative_bytes administrative_of words_at
administrative_restored o b h e = restored o 6 b _ h e

pub administrative_read_back : (o : Order) → (f : Administrative) → AllFit 4 (administrative_words f) → administrative_fault f.date f.clock ≡ 0
    → (administrative_rule o (administrative_bytes o f) ≡ 0) × (administrative_of o (administrative_bytes o f) ≡ f)
unfolding administrative_rule administrative_bytes administrative_of words_at
administrative_read_back o f h e = read_back o (λ ns. administrative_fault (at ns 0) (at ns 1) ∷ []) (λ ns. record {
  date = at ns 0;
  clock = at ns 1;
  number = at ns 2;
  time = at ns 3;
  since = at ns 4;
  live = at ns 5;
}) (administrative_words f) h (e, tt)

-- ---- trigger

pub trigger_restored : (o : Order) → (b : List ℕ) → Bytes b → trigger_rule o b ≡ 0 → trigger_bytes o (trigger_of o b) ≡ b
unfolding trigger_rule trigger_bytes trigger_of words_at
trigger_restored o b h e =
    let z : word o 0 b ≡ 0 = equal_passed (word o 0 b) 0 9 (first-at _ e 1) in
    ap (λ (t : ℕ). words o (t ∷ trigger_masks (trigger_of o b))) (sym z) ∙ restored o 7 b _ h e

pub trigger_read_back : (o : Order) → (f : Trigger) → AllFit 4 (trigger_masks f)
    → (trigger_rule o (trigger_bytes o f) ≡ 0) × (trigger_of o (trigger_bytes o f) ≡ f)
unfolding trigger_rule trigger_bytes trigger_of words_at
trigger_read_back o f h = read_back o (λ ns. unless (eqb (at ns 0) 0) 10 ∷ []) (λ ns. record {
  mask1 = at ns 1;
  mask2 = at ns 2;
  mask3 = at ns 3;
  mask4 = at ns 4;
  mask5 = at ns 5;
  mask6 = at ns 6;
}) (0 ∷ trigger_masks f) (omega arith, h) (refl, tt)

-- ---- tlb

pub tlb_restored : (o : Order) → (b : List ℕ) → Bytes b → tlb_rule o b ≡ 0 → tlb_bytes o (tlb_of o b) ≡ b
unfolding tlb_rule tlb_bytes tlb_of words_at
tlb_restored o b h e = restored o 6 b _ h e

abbrev tlb_from : List ℕ → Tlb
tlb_from ns = record {
  tower1 = at ns 0;
  tower2 = at ns 1;
  tower3 = at ns 2;
  tower4 = at ns 3;
  tower5 = at ns 4;
  tower6 = at ns 5;
}

pub tlb_read_back : (o : Order) → (f : Tlb) → AllFit 4 (tlb_words f) → tlb_fault f ≡ 0 → (tlb_rule o (tlb_bytes o f) ≡ 0)
    × (tlb_of o (tlb_bytes o f) ≡ f)
unfolding tlb_rule tlb_bytes tlb_of words_at
tlb_read_back o f h e = read_back o (λ ns. tlb_fault (tlb_from ns) ∷ []) tlb_from (tlb_words f) h (e, tt)
