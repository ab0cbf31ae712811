-- What is known where a structure stands at the front, where none does, and of the one that is given.
use mathlib.Core.Path.{◌≡◌, ap, ◌∙◌, subst}
use mathlib.Core.Bool.{true, false, and-eq-true_iff}
use mathlib.Core.List.{List}
use Prim.Native.Nat.{ℕ, ◌+◌, ◌≤◌, ◌<◌}
use native.Mathlib.Decide.{dec_lt}
use native.Mathlib.Omega.{arith}
use lib.Dec.{leb}
use lib.ListN.{length, drop, length-drop}
use lib.Seq.{length-take-le}
use borrow.Author.Tests.{le-leb, lt-leb, leb-true}
use Rattle.theory.specs.declared.Order.{Order}
use Rattle.note.specs.Words.{word}
use Rattle.structures.specs.declared.Structure.{Structure}
use Rattle.structures.specs.declared.Sequence.{Sequence}
use Rattle.structures.specs.Standing.{stands, Given}

pub too_short : (o : Order) (bs : List ℕ) → length bs < 8 → stands o bs ≡ false
unfolding stands
too_short o bs h = rw (lt-leb 8 (length bs) h)

pub long_enough : (o : Order) (bs : List ℕ) → 8 ≤ length bs → stands o bs ≡ leb (8 + word o 4 bs) (length bs)
unfolding stands
long_enough o bs h = rw (le-leb 8 (length bs) h)

pub standing : (o : Order) (bs : List ℕ) → stands o bs ≡ true → 8 + word o 4 bs ≤ length bs
unfolding stands
standing o bs e = leb-true (8 + word o 4 bs) (length bs) ((and-eq-true_iff (leb 8 (length bs)) (leb (8 + word o 4 bs) (length bs))).0 e).1

-- Where none stands at the front of a part that structures fill, nothing is left.
pub none_over : (o : Order) (bs : List ℕ) → stands o bs ≡ false → (0 < length bs → 8 + word o 4 bs ≤ length bs) → length bs ≤ 0
none_over o bs e fits = elim (dec_lt 0 (length bs)) [
  | yes l ↦
      let whole = fits l in
      let here : stands o bs ≡ true = long_enough o bs (omega (arith, whole)) ∙ le-leb (8 + word o 4 bs) (length bs) whole in
      cc
  | no n ↦ omega (arith, n)
]

-- The structure that was given: something was left, and its length word is its body's length, which fits.
module _ {o : Order} {s t : Sequence} {x : Structure} (g : Given o s x t) where
  pub given_fits : 8 + word o 4 s.rest.now ≤ length s.rest.now
  given_fits = standing o s.rest.now g.standing

  pub given_some : 0 < length s.rest.now
  given_some = omega (arith, given_fits)

  pub given_length : length x.body.now ≡ word o 4 s.rest.now
  given_length =
      ap length g.body_is ∙ length-take-le (word o 4 s.rest.now) (drop 8 s.rest.now) (omega (arith, length-drop 8 s.rest.now, given_fits))

-- In the order that the sequence has.
pub in_order : {o : Order} {s t : Sequence} {x : Structure} → s.order ≡ o → Given s.order s x t → Given o s x t
in_order {o} {s} {t} {x} e g = subst (λ (q : Order). Given q s x t) e g
