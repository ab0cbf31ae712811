-- What holds of each of the eight kinds, and of no kind at all, holds of the kind of any kind word.
-- The idea: the choice of a kind is eight tests of the kind word, and each test is taken apart once, here.
use Prim.Native.Nat.{ℕ}
use mathlib.Core.Path.{◌≡◌, refl, sym, ◌∙◌, subst}
use mathlib.Core.Bool.{Bool, true, false, cond}
use lib.Dec.{eqb}
use borrow.Author.Tests.{eqb-true}
use Rattle.note.specs.Kinds.{Kind}
use Rattle.note.specs.Phonon.{phonon_kind}
use Rattle.note.specs.Charge.{charge_kind}
use Rattle.note.specs.Administrative.{administrative_kind}
use Rattle.note.specs.Trace.{trace_kind}
use Rattle.note.specs.History.{history_kind}
use Rattle.note.specs.Gps.{gps_kind}
use Rattle.note.specs.Trigger.{trigger_kind}
use Rattle.note.specs.Tlb.{tlb_kind}
use Rattle.note.specs.Records.{unknown_kind, kind_of}

-- one test of the kind word
test_case : (P : ℕ → Kind → Type 0) (k w : ℕ) (x y : Kind) → P w x → P k y → P k (cond (eqb k w) x y)
test_case P k w x y here there = go (eqb k w) refl
  where
    go : (t : Bool) → eqb k w ≡ t → P k (cond t x y)
    go true e = subst (λ (n : ℕ). P n x) (sym (eqb-true k w e)) here
    go false e = there

pub kind_cases : (P : ℕ → Kind → Type 0) (k : ℕ)
    → P phonon_kind.word phonon_kind → P charge_kind.word charge_kind → P administrative_kind.word administrative_kind
    → P trace_kind.word trace_kind → P history_kind.word history_kind → P gps_kind.word gps_kind
    → P trigger_kind.word trigger_kind → P tlb_kind.word tlb_kind → P k unknown_kind → P k (kind_of k)
unfolding kind_of
kind_cases P k phonon charge administrative trace history gps trigger tlb unknown =
    test_case P k phonon_kind.word phonon_kind _ phonon
    (test_case P k charge_kind.word charge_kind _ charge
    (test_case P k administrative_kind.word administrative_kind _ administrative
    (test_case P k trace_kind.word trace_kind _ trace
    (test_case P k history_kind.word history_kind _ history
    (test_case P k gps_kind.word gps_kind _ gps
    (test_case P k trigger_kind.word trigger_kind _ trigger
    (test_case P k tlb_kind.word tlb_kind unknown_kind tlb
    unknown)))))))

-- A word that is none of the eight kind words names no kind.
skip : (k w : ℕ) (x y : Kind) → (k ≡ w → ⊥) → cond (eqb k w) x y ≡ y
skip k w x y h = go (eqb k w) refl
  where
    go : (t : Bool) → eqb k w ≡ t → cond t x y ≡ y
    go true e = absurd (h (eqb-true k w e))
    go false e = refl

pub no_kind : (k : ℕ) → (k ≡ phonon_kind.word → ⊥) → (k ≡ charge_kind.word → ⊥) → (k ≡ administrative_kind.word → ⊥)
    → (k ≡ trace_kind.word → ⊥) → (k ≡ history_kind.word → ⊥) → (k ≡ gps_kind.word → ⊥) → (k ≡ trigger_kind.word → ⊥)
    → (k ≡ tlb_kind.word → ⊥) → kind_of k ≡ unknown_kind
unfolding kind_of
no_kind k phonon charge administrative trace history gps trigger tlb =
    skip k phonon_kind.word phonon_kind _ phonon
    ∙ skip k charge_kind.word charge_kind _ charge
    ∙ skip k administrative_kind.word administrative_kind _ administrative
    ∙ skip k trace_kind.word trace_kind _ trace
    ∙ skip k history_kind.word history_kind _ history
    ∙ skip k gps_kind.word gps_kind _ gps
    ∙ skip k trigger_kind.word trigger_kind _ trigger
    ∙ skip k tlb_kind.word tlb_kind unknown_kind tlb
