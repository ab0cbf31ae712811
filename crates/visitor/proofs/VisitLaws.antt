-- Passing over rows and storing them, turn by turn, of a walk whose yields are known; and the visitor's two answers.
-- The idea: a walk that stands before rows yields the first of them, and stands before the others one step on.
use mathlib.Core.Logic.{◌≢◌}
use mathlib.Core.Path.{◌≡◌, refl, sym, ap, ap₂, ◌∙◌, subst}
use mathlib.Core.List.{List, [], ◌∷◌, ◌++◌, append-nil, append_assoc}
use Prim.Native.Nat.{ℕ, ◌+◌, ◌-◌, ◌/◌, ◌≤◌, ◌<◌}
use native.Mathlib.Nat.{min-le_left}
use native.Mathlib.Omega.{arith}
use lib.ListN.{length, take, drop, length-append, length-take, take-append-drop}
use lib.Seq.{drop-drop, drop-nil, take_all, take_at}
use Rattle.theory.specs.Words.{Bytes}
use Rattle.theory.specs.Tests.{Res, ok, bad}
use Rattle.theory.specs.Layout.{Row, no_row}
use Rattle.note.specs.Limits.{row_width}
use Rattle.note.specs.Files.{File, read_file}
use Rattle.note.specs.Rows.{rows_of}
use Rattle.note.specs.Visitor.{rows_visited, visit_given, visit_answer, visit_filled, visit_buffer}
use Rattle.note.specs.declared.WalkerYield.{WalkerYield}
use Rattle.note.specs.declared.WalkerYield.TheVariants as Yield
use Rattle.rows.specs.Buffers.{row_of, stored}
use Rattle.rows.proofs.StoreLaws.{stored-append, stored-nil, length-stored, stored-first}
use Rattle.walk.specs.declared.Spot.{Spot}
use Rattle.walk.specs.Steps.{start_given, start_of, step_of, steps_from, opened_of, row_yield, Yields}
use Rattle.demands.proofs.RefusalLaws.{refusal-is-numbered}
use Rattle.walk.proofs.WalkLaws.{file_yields}
use Rattle.visitor.specs.Visits.{Stored}

-- ---- what stands next

abbrev row_of_yield : WalkerYield → Row
row_of_yield (Yield.Row k s w p a b) = record { kind = k; start = s; whole = w; parent = p; one = a; two = b }
row_of_yield Yield.End = no_row
row_of_yield (Yield.Refused c p) = no_row

-- Of a walk that stands before rows: where it yields a row, that one is next.
coming : (bs : List ℕ) (at : Spot) (xs : List Row) → Yields bs at xs → {a b c d e f : ℕ} → at.last ≡ Yield.Row a b c d e f
    → (others : List Row) × (xs ≡ row_of_yield at.last ∷ others) × Yields bs (step_of bs at) others
unfolding Yields steps_from
coming bs at [] h r = let never : Yield.End ≡ _ = sym (h 0) ∙ r in cc
coming bs at (x ∷ xs) h r = (xs, ap (λ (z : Row). z ∷ xs) (sym (ap row_of_yield h.0)), h.1)

-- Where it yields none, none is left.
none_left : (bs : List ℕ) (at : Spot) (xs : List Row) → Yields bs at xs → ((a b c d e f : ℕ) → at.last ≡ Yield.Row a b c d e f → ⊥) → xs ≡ []
unfolding Yields
none_left bs at [] h n = refl
none_left bs at (x ∷ xs) h n = absurd (n _ _ _ _ _ _ h.0)

-- ---- pieces of lists

behind-one : (rs : List Row) (n : ℕ) (r : Row) (xs : List Row) → drop n rs ≡ r ∷ xs → drop (n + 1) rs ≡ xs
behind-one rs n r xs e = sym (drop-drop 1 n rs) ∙ ap (drop 1) e

take-one : (xs : List Row) (n : ℕ) (r : Row) (ys : List Row) → drop n xs ≡ r ∷ ys → length (take n xs) ≡ n
    → take (n + 1) xs ≡ take n xs ++ (r ∷ [])
take-one xs n r ys e l =
    let front : List Row = take n xs ++ (r ∷ []) in
    let whole : xs ≡ front ++ ys =
    sym (take-append-drop n xs) ∙ ap (λ (y : List Row). take n xs ++ y) e ∙ sym (append_assoc (take n xs) (r ∷ []) ys) in
    let size : length front ≡ n + 1 = length-append (take n xs) (r ∷ []) ∙ ap (λ (m : ℕ). m + 1) l in
    ap (take (n + 1)) whole ∙ take_at front ys (n + 1) size

-- ---- passing over rows and storing them

-- k rows were passed over and n stored, and the walk stands before the others.
record Running (bs : List ℕ) (rs : List Row) (first : ℕ) (old new : List ℕ) (at : Spot) (k n : ℕ) : Type 0 where
  ahead : Yields bs (step_of bs at) (drop (k + n) rs)
  held : new ≡ stored old 0 (take n (drop first rs))
  some : length (take n (drop first rs)) ≡ n
  low : k ≤ first

module _ {bs : List ℕ} {rs : List Row} {first : ℕ} {old new : List ℕ} {at : Spot} {k n : ℕ} (i : Running bs rs first old new at k n)
    {next : Spot} (s : next ≡ step_of bs at) where
  yields : Yields bs next (drop (k + n) rs)
  yields = subst (λ (x : Spot). Yields bs x (drop (k + n) rs)) (sym s) i.ahead

  finished : (room : ℕ) → n ≤ room → ((a b c d e f : ℕ) → next.last ≡ Yield.Row a b c d e f → ⊥)
      → (new ≡ stored old 0 (take room (drop first rs))) × (n ≡ length (take room (drop first rs)))
  finished room l none =
      let xs : List Row = drop first rs in
      let z : drop (k + n) rs ≡ [] = none_left bs next (drop (k + n) rs) yields none in
      let m : k + n + (first - k) ≡ first + n = omega (arith, i.low) in
      let gone : drop n xs ≡ [] =
      drop-drop n first rs ∙ ap (λ (q : ℕ). drop q rs) (sym m) ∙ sym (drop-drop (first - k) (k + n) rs)
      ∙ ap (drop (first - k)) z ∙ drop-nil (first - k) in
      let whole : take n xs ≡ xs = sym (append-nil (take n xs)) ∙ ap (λ (t : List Row). take n xs ++ t) (sym gone) ∙ take-append-drop n xs in
      let size : length xs ≡ n = ap length (sym whole) ∙ i.some in
      let all : take room xs ≡ take n xs = take_all room xs (omega (arith, size)) ∙ sym whole in
      (i.held ∙ ap (stored old 0) (sym all), sym i.some ∙ ap length (sym all))

  module _ {a b c d e f : ℕ} (r : next.last ≡ Yield.Row a b c d e f) where
    abbrev one : Row
    one = row_of_yield next.last

    on_from : (m : ℕ) → m ≡ k + n + 1 → Yields bs (step_of bs next) (drop m rs)
    on_from m em =
        let (others, splits, on) = coming bs next (drop (k + n) rs) yields r in
        let others-are : others ≡ drop m rs = sym (behind-one rs (k + n) one others splits) ∙ ap (λ (q : ℕ). drop q rs) (sym em) in
        subst (Yields bs (step_of bs next)) others-are on

    passed : k < first → Running bs rs first old new next (k + 1) n
    passed l = record { ahead = on_from (k + 1 + n) (omega arith); held = i.held; some = i.some; low = omega arith }

    kept : first ≤ k → (new' : List ℕ) → new' ≡ stored new n (one ∷ []) → Running bs rs first old new' next k (n + 1)
    kept l new' ew =
        let (others, splits, on) = coming bs next (drop (k + n) rs) yields r in
        let xs : List Row = drop first rs in
        let m : first + n ≡ k + n = omega (arith, i.low, l) in
        let here : drop n xs ≡ one ∷ others = drop-drop n first rs ∙ ap (λ (q : ℕ). drop q rs) m ∙ splits in
        let place : n ≡ 0 + length (take n xs) = omega (arith, i.some) in
        let all : take (n + 1) xs ≡ take n xs ++ (one ∷ []) = take-one xs n one others here i.some in
        record {
          ahead = on_from (k + (n + 1)) (omega arith);
          held = ew ∙ ap₂ (λ (z : List ℕ) (q : ℕ). stored z q (one ∷ [])) i.held place
              ∙ sym (stored-append old 0 (take n xs) (one ∷ [])) ∙ ap (stored old 0) (sym all);
          some = ap length all ∙ length-append (take n xs) (one ∷ []) ∙ ap (λ (q : ℕ). q + 1) i.some;
          low = i.low;
        }

-- ---- the loop that stores

-- What the loop holds on to: there is room for what was stored, the buffer keeps its length, and whatever rows the walk yields from its
-- beginning on, so many were passed over and so many stored.
pub record Storing (bs : List ℕ) (from : Spot) (first room : ℕ) (old new : List ℕ) (at : Spot) (k n : ℕ) : Type 0 where
  pub fits : n ≤ room
  pub size : length new ≡ length old
  runs : (rs : List Row) → Yields bs (step_of bs from) rs → Running bs rs first old new at k n

pub begin : (bs : List ℕ) (from : Spot) (first room : ℕ) (old : List ℕ) → Storing bs from first room old old from 0 0
begin bs from first room old = record {
  fits = omega arith;
  size = refl;
  runs = λ rs h. record { ahead = h; held = sym (stored-nil old 0); some = refl; low = omega arith };
}

-- A turn that passes over a row, and one that stores it; the walk has taken one step, to `next`.
module _ {bs : List ℕ} {from : Spot} {first room : ℕ} {old new : List ℕ} {at : Spot} {k n : ℕ} (i : Storing bs from first room old new at k n)
    {next : Spot} (s : next ≡ step_of bs at) {a b c d e f : ℕ} (r : next.last ≡ Yield.Row a b c d e f) where
  pub passes : k < first → Storing bs from first room old new next (k + 1) n
  passes l = record { fits = i.fits; size = i.size; runs = λ rs h. passed (i.runs rs h) s r l }

  pub keeps : first ≤ k → n < room
      → (new' : List ℕ) → new' ≡ stored new n (row_of (record { kind = a; start = b; whole = c; parent = d; one = e; two = f }) ∷ [])
      → Storing bs from first room old new' next k (n + 1)
  unfolding row_of
  keeps l m new' ew = record {
    fits = omega arith;
    size = ap length ew ∙ length-stored new n _ ∙ i.size;
    runs = λ rs h. kept (i.runs rs h) s r l new' (ew ∙ ap (λ (z : WalkerYield). stored new n (row_of_yield z ∷ [])) (sym r));
  }

-- Where the buffer is full, or no row came, what is stored is what was asked.
module _ {bs : List ℕ} {from : Spot} {first : ℕ} {old new : List ℕ} {at : Spot} {k n : ℕ}
    (i : Storing bs from first (length old / row_width) old new at k n) where
  pub full : length old / row_width ≤ n → Stored bs from first old new n
  full l rs h =
      let t = i.runs rs h in
      let e : n ≡ length old / row_width = omega (arith, i.fits) in
      (t.held ∙ ap (λ (q : ℕ). stored old 0 (take q (drop first rs))) e, sym t.some ∙ ap (λ (q : ℕ). length (take q (drop first rs))) e)

  pub ends : {next : Spot} → next ≡ step_of bs at → ((a b c d e f : ℕ) → next.last ≡ Yield.Row a b c d e f → ⊥) → Stored bs from first old new n
  ends s none rs h = finished (i.runs rs h) s (length old / row_width) i.fits none

-- ---- the visitor

start-refusal : (bs : List ℕ) (c p : ℕ) → read_file bs ≡ bad c p → (start_of bs).number ≡ c
unfolding start_of
start-refusal bs c p e = rw e

length-piece : (m : ℕ) (xs : List Row) → length (take m xs) ≤ m
length-piece m xs = omega (arith, length-take m xs, min-le_left m (length xs))

module _ (bs old : List ℕ) (k : ℕ) where
  pub visit_refused : (start_of bs).number ≢ 0
      → (record { number = (start_of bs).number; count = 0; place = (start_of bs).fault } ≡ visit_answer bs k (length old))
      × (old ≡ visit_buffer bs k old)
  unfolding visit_answer visit_buffer start_of
  visit_refused n = go (read_file bs) refl
    where
      go : (r : Res File) → read_file bs ≡ r
          → (record { number = (start_given (read_file bs)).number; count = 0; place = (start_given (read_file bs)).fault }
          ≡ visit_given bs k (length old) (read_file bs))
          × (old ≡ visit_filled k old (read_file bs))
      go (ok f) e = absurd (n (ap (λ (x : Res File). (start_given x).number) e))
      go (bad c p) e = (rw e, rw e)

  pub visit_accepted : Bytes bs → (start_of bs).number ≡ 0 → (new : List ℕ) (n : ℕ) → Stored bs (start_of bs) k old new n
      → (record { number = 0; count = n; place = length bs } ≡ visit_answer bs k (length old)) × (new ≡ visit_buffer bs k old)
  unfolding visit_answer visit_buffer opened_of
  visit_accepted h z new n t = go (read_file bs) refl
    where
      go : (r : Res File) → read_file bs ≡ r
          → (record { number = 0; count = n; place = length bs } ≡ visit_given bs k (length old) (read_file bs))
          × (new ≡ visit_filled k old (read_file bs))
      go (ok f) e =
          let (held, some) = t (rows_of f) (file_yields bs f h e) in
          let xs : List Row = rows_visited k (length old) (rows_of f) in
          (rw (e, some), held ∙ stored-first old xs (omega (arith, length-piece (length old / row_width) (drop k (rows_of f)))) ∙ rw e)
      go (bad c p) e = absurd (omega (arith, start-refusal bs c p e, z, refusal-is-numbered bs c p e))
