-- A list of tests gives the number that is given for what they ask: test by test, each test telling its statement.
use Prim.Native.Nat.{ℕ, zero, suc, ◌/◌, ◌%◌}
use mathlib.Core.Path.{◌≡◌, refl, sym, ap, ◌∙◌, subst}
use mathlib.Core.Logic.Iff
use mathlib.Core.Logic.{◌↔◌, inl, inr, ⊎_elim, ⊎_map, ◌≢◌}
use mathlib.Core.Bool.{Bool, true, false, not, false≢true}
use mathlib.Core.List.{List, [], ◌∷◌, ◌++◌}
use native.Mathlib.Omega.{arith}
use native.Mathlib.Nat.{div-add-mod, mul-mod_right}
use lib.Dec.{eqb}
use borrow.Author.Tests.{eqb-true, eq-eqb}
use Rattle.theory.specs.Tests.{Res, bad, need, unless, first}
use Rattle.theory.proofs.TestLaws.{first_of_part, last}
use Rattle.note.specs.Asked.{asks, fine, Divides, Answers}
use Rattle.note.proofs.BoolLaws.{Tells}

-- The tests give the number c exactly where what is asked gives it.
pub record Gives (cs : List ℕ) (asked : ℕ → Type 0) : Type 0 where
  pub exactly : (c : ℕ) → (first cs ≡ c) ↔ asked c

-- No test more.
pub no_more : Gives [] fine
unfolding first
no_more = record { exactly = λ c. (sym, sym) }

-- One test more in front; what is behind it is asked where it holds.
pub asked_where : {t : Bool} {A : Type 0} {n : ℕ} {cs : List ℕ} {rest : ℕ → Type 0} → Tells t A → (A → Gives cs rest)
    → Gives (unless t (suc n) ∷ cs) (asks A (suc n) rest)
unfolding first
asked_where {t} {A} {n} {cs} {rest} tells given = record { exactly = λ c. go c t tells }
  where
    go : (c : ℕ) (t : Bool) → Tells t A → (first (unless t (suc n) ∷ cs) ≡ c) ↔ asks A (suc n) rest c
    go c true told = (
      λ e. inl (told.0 refl, ((given (told.0 refl)).exactly c).0 e),
      ⊎_elim (λ h. ((given (told.0 refl)).exactly c).1 h.1) (λ h. absurd (h.0 (told.0 refl))),
    )
    go c false told = (
      λ e. inr (λ a. false≢true (told.1 a), sym e),
      ⊎_elim (λ h. absurd (false≢true (told.1 h.0))) (λ h. sym h.1),
    )

pub asked : {t : Bool} {A : Type 0} {n : ℕ} {cs : List ℕ} {rest : ℕ → Type 0} → Tells t A → Gives cs rest
    → Gives (unless t (suc n) ∷ cs) (asks A (suc n) rest)
asked tells given = asked_where tells (λ a. given)

-- One test more with the number of those behind it: both are asked at once.
pub asked_too : {t : Bool} {A B : Type 0} {n : ℕ} {cs : List ℕ} → Tells t A → Gives cs (asks B (suc n) fine)
    → Gives (unless t (suc n) ∷ cs) (asks (A × B) (suc n) fine)
unfolding first
asked_too {t} {A} {B} {n} {cs} tells given = record { exactly = λ c. go c t tells }
  where
    go : (c : ℕ) (t : Bool) → Tells t A → (first (unless t (suc n) ∷ cs) ≡ c) ↔ asks (A × B) (suc n) fine c
    go c true told = (
      λ e. ⊎_elim (λ h. inl ((told.0 refl, h.0), h.1)) (λ h. inr (λ g. h.0 g.1, h.1)) ((given.exactly c).0 e),
      λ s. (given.exactly c).1 (⊎_elim (λ h. inl (h.0.1, h.1)) (λ h. inr (λ b. h.0 (told.0 refl, b), h.1)) s),
    )
    go c false told = (
      λ e. inr (λ h. false≢true (told.1 h.0), sym e),
      ⊎_elim (λ h. absurd (false≢true (told.1 h.0.0))) (λ h. sym h.1),
    )

-- What is asked may be said in other words.
pub said_so : {A B : Type 0} {n : ℕ} {cs : List ℕ} {rest : ℕ → Type 0} → A ↔ B → Gives cs (asks A n rest) → Gives cs (asks B n rest)
said_so {A} {B} {n} {cs} {rest} same given = record {
  exactly = λ c. Iff.trans (given.exactly c) (
    ⊎_map (λ h. (same.0 h.0, h.1)) (λ h. (λ b. h.0 (same.1 b), h.1)),
    ⊎_map (λ h. (same.1 h.0, h.1)) (λ h. (λ a. h.0 (same.0 a), h.1)),
  );
}

-- A rule in front of other tests is its tests in front of them.
pub asked_of_part : (cs : List ℕ) {ds : List ℕ} {rest : ℕ → Type 0} → Gives (cs ++ ds) rest → Gives (first cs ∷ ds) rest
asked_of_part cs {ds} {rest} given = record {
  exactly = λ c. subst (λ (n : ℕ). (n ≡ c) ↔ rest c) (sym (first_of_part cs ds)) (given.exactly c);
}

-- A single test is a list of one.
pub alone_gives : {n : ℕ} {rest : ℕ → Type 0} → Gives (n ∷ []) rest → (c : ℕ) → (n ≡ c) ↔ rest c
alone_gives {n} {rest} given c = subst (λ (m : ℕ). (m ≡ c) ↔ rest c) (sym (last n)) (given.exactly c)

pub gives_alone : {n : ℕ} {rest : ℕ → Type 0} → ((c : ℕ) → (n ≡ c) ↔ rest c) → Gives (n ∷ []) rest
gives_alone {n} {rest} given = record { exactly = λ c. subst (λ (m : ℕ). (m ≡ c) ↔ rest c) (last n) (given c) }

-- No remainder is left exactly where the number is a multiple.
pub divides_tells : (k n : ℕ) → Tells (eqb (n % k) 0) (Divides k n)
divides_tells k n = (
  λ e. let z = eqb-true (n % k) 0 e in (n / k, omega (arith, div-add-mod n k)),
  λ h. eq-eqb (n % k) 0 (ap (λ (x : ℕ). x % k) h.1 ∙ mul-mod_right k h.0),
)

-- A test turned round tells that it isn't so.
pub not_tells : {t : Bool} {A : Type 0} → Tells t A → Tells (not t) (A → ⊥)
not_tells {t} {A} tells = go t tells
  where
    go : (t : Bool) → Tells t A → Tells (not t) (A → ⊥)
    go true told = (λ e. absurd (false≢true e), λ h. absurd (h (told.0 refl)))
    go false told = (λ e a. false≢true (told.1 a), λ h. refl)

-- ---- readers

-- A chain of tests that a reader takes at one place is one rule.
pub gate : {A : Type 0} {r : Res A} (n at : ℕ) (cs : List ℕ) (rest : Res A) → r ≡ need (first cs) at rest
    → need n at r ≡ need (first (n ∷ cs)) at rest
unfolding first
gate zero at cs rest e = e
gate (suc n) at cs rest e = refl

pub last_gate : {A : Type 0} (n at : ℕ) (rest : Res A) → need n at rest ≡ need (first (n ∷ [])) at rest
last_gate n at rest = ap (λ (m : ℕ). need m at rest) (last n)

-- So the reader answers what is asked.
pub answers : {A : Type 0} {r rest : Res A} {place : ℕ} (cs : List ℕ) {asked : ℕ → Type 0} → Gives cs asked → r ≡ need (first cs) place rest
    → Answers r place asked rest
answers {A} {r} {rest} {place} cs {asked} given e = record {
  number = first cs;
  given = (given.exactly (first cs)).0 refl;
  only = λ n h. sym ((given.exactly n).1 h);
  passes = λ z. e ∙ ap (λ (n : ℕ). need n place rest) z;
  refuses = λ d. e ∙ go (first cs) d;
}
  where
    go : (n : ℕ) → n ≢ 0 → need n place rest ≡ bad n place
    go zero d = absurd (d refl)
    go (suc n) d = refl
