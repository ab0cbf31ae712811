-- What the round trips ask of fields, with plain bounds: words of 32 bits, signed or not; exactly.
-- The idea: number by number; a signed word's magnitude is below 2^31.
use Prim.Native.Nat.{ℕ}
use mathlib.Core.Path.{refl, sym, subst}
use mathlib.Core.Logic.{◌↔◌, inl, inr}
use mathlib.Core.List.{List, [], ◌∷◌}
use lib.IntN.{ℤ, pos, negsuc}
use mir.Val.{SFits}
use mir.Syntax.{w32}
use Rattle.theory.specs.Words.{Fits, AllFit}
use Rattle.note.specs.Words.{AllSigned}
use Rattle.note.specs.Sizes.{Each, Word, SignedWord}
use Rattle.note.specs.Trace.{Trace, TraceFits}
use Rattle.note.proofs.ByteLaws.{fits_exact}

-- Where each element is so by P exactly where it is by Q, so are all.
each_exact : {A : Type 0} (P Q : A → Type 0) (All : List A → Type 0) → ((x : A) → P x ↔ Q x) → All [] ↔ Unit {0}
    → ((x : A) (xs : List A) → All (x ∷ xs) ↔ (P x × All xs)) → (xs : List A) → All xs ↔ Each Q xs
each_exact P Q All one none more [] = none
each_exact P Q All one none more (x ∷ xs) =
    let rest = each_exact P Q All one none more xs in (
      λ h. let (p, a) = (more x xs).0 h in ((one x).0 p, rest.0 a),
      λ h. (more x xs).1 ((one x).1 h.0, rest.1 h.1),
    )

signed-fits : (z : ℤ) → SignedWord z → SFits w32 z
signed-fits z (n, l, inl e) = subst (SFits w32) (sym e) (record { sfits = l })
signed-fits z (n, l, inr e) = subst (SFits w32) (sym e) (record { sfits = l })

signed_exact : (z : ℤ) → SFits w32 z ↔ SignedWord z
signed_exact (pos n) = (λ h. (n, h.sfits, inl refl), signed-fits (pos n))
signed_exact (negsuc n) = (λ h. (n, h.sfits, inr refl), signed-fits (negsuc n))

pub all_signed_exact : (zs : List ℤ) → AllSigned zs ↔ Each SignedWord zs
all_signed_exact = each_exact (SFits w32) SignedWord AllSigned signed_exact ((λ h. h), (λ h. h)) (λ z zs. ((λ h. h), (λ h. h)))

pub all_fit_exact : (ns : List ℕ) → AllFit 4 ns ↔ Each Word ns
all_fit_exact = each_exact (Fits 4) Word (AllFit 4) fits_exact ((λ h. h), (λ h. h)) (λ n ns. ((λ h. h), (λ h. h)))

pub trace_fits_exact : (f : Trace)
    → TraceFits f ↔ (Each Word (f.address ∷ f.channel ∷ f.code ∷ f.delta ∷ f.n ∷ []) × SignedWord f.t0)
trace_fits_exact f = (
  λ h. (
    (
      (fits_exact f.address).0 h.address,
      (
        (fits_exact f.channel).0 h.channel,
        ((fits_exact f.code).0 h.code, ((fits_exact f.delta).0 h.delta, ((fits_exact f.n).0 h.n, tt))),
      ),
    ),
    (signed_exact f.t0).0 h.t0,
  ),
  λ h. let w = h.0 in
      record {
        address = (fits_exact f.address).1 w.0;
        channel = (fits_exact f.channel).1 w.1.0;
        code = (fits_exact f.code).1 w.1.1.0;
        t0 = (signed_exact f.t0).1 h.1;
        delta = (fits_exact f.delta).1 w.1.1.1.0;
        n = (fits_exact f.n).1 w.1.1.1.1.0;
      },
)
