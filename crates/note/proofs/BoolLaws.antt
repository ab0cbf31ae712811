-- What a Boolean test tells: `Tells t A` says that t comes out true exactly where A holds. Tests joined by `&&` and `||` tell what
-- their parts tell, so a rule of the note is read as a statement part by part.
use mathlib.Core.Path.{◌≡◌, refl}
use mathlib.Core.Logic.Iff
use mathlib.Core.Logic.{◌↔◌, ◌⊎◌, inl, inr, ⊎_elim, ⊎_map}
use mathlib.Core.Bool.{Bool, true, false, ◌&&◌, ◌||◌, false≢true, and-eq-true_iff}
use mathlib.Core.List.{List, [], ◌∷◌}
use Prim.Native.Nat.{ℕ, ◌≤◌}
use native.Mathlib.Omega.{arith}
use lib.Dec.{leb, eqb}
use borrow.Author.Tests.{leb-true, le-leb, eqb-true, eq-eqb}
use Rattle.theory.specs.Tests.{among}
use Rattle.note.specs.Asked.{OneOf}

abbrev pub Tells : Bool → Type 0 → Type 0
Tells t A = (t ≡ true) ↔ A

pub both_tell : {a b : Bool} {A B : Type 0} → Tells a A → Tells b B → Tells (a && b) (A × B)
both_tell {a} {b} p q = Iff.trans (and-eq-true_iff a b) (Iff.and p q)

or_true_iff : (a b : Bool) → Tells (a || b) ((a ≡ true) ⊎ (b ≡ true))
or_true_iff true b = (λ e. inl refl, λ h. refl)
or_true_iff false b = (inr, ⊎_elim (λ e. absurd (false≢true e)) (λ e. e))

pub either_tells : {a b : Bool} {A B : Type 0} → Tells a A → Tells b B → Tells (a || b) (A ⊎ B)
either_tells {a} {b} p q = Iff.trans (or_true_iff a b) (⊎_map p.0 q.0, ⊎_map p.1 q.1)

pub le_tells : (m n : ℕ) → Tells (leb m n) (m ≤ n)
le_tells m n = (leb-true m n, le-leb m n)

pub eq_tells : (m n : ℕ) → Tells (eqb m n) (m ≡ n)
eq_tells m n = (eqb-true m n, eq-eqb m n)

-- n is in the list exactly where it is one of its numbers.
pub among_tells : (xs : List ℕ) (n : ℕ) → (among n xs ≡ true) ↔ OneOf xs n
among_tells [] n = (λ e. absurd (false≢true e), λ h. absurd h)
among_tells (x ∷ xs) n = either_tells (eq_tells n x) (among_tells xs n)

-- Each of these numbers is at most m, so what is one of them is.
abbrev pub up_to : ℕ → List ℕ → Bool
up_to m [] = true
up_to m (x ∷ xs) = leb x m && up_to m xs

pub one-up-to : (m : ℕ) (xs : List ℕ) (n : ℕ) → up_to m xs ≡ true → OneOf xs n → n ≤ m
one-up-to m [] n t h = absurd h
one-up-to m (x ∷ xs) n t (inl e) = let l = leb-true x m ((and-eq-true_iff (leb x m) (up_to m xs)).0 t).0 in omega arith
one-up-to m (x ∷ xs) n t (inr h) = one-up-to m xs n ((and-eq-true_iff (leb x m) (up_to m xs)).0 t).1 h
