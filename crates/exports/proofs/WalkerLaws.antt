-- A walker for C goes the walker's way: its numbers carry all that a step asks, so from opening its k-th yield is the table's k-th row,
-- then the end.
-- The idea: a step does not ask what was yielded last, and the numbers that are 32 bits wide fit them: a refusal's is at most 11, rows are few.
use mathlib.Core.Path.{◌≡◌, refl, ap, ◌∙◌}
use mathlib.Core.Bool.{Bool, true, false, cond, and-eq-true_iff}
use mathlib.Core.List.{List}
use Prim.Native.Nat.{ℕ, zero, suc, ◌≤◌, ◌<◌}
use native.Mathlib.Omega.{arith}
use lib.Dec.{leb, ltb, eqb}
use lib.ListN.{length}
use borrow.Author.Tests.{leb-true}
use Rattle.theory.specs.declared.Order.{Order}
use Rattle.theory.specs.Words.{Bytes}
use Rattle.theory.specs.Tests.{Res, ok, bad}
use Rattle.note.specs.Limits.{file_limit}
use Rattle.note.specs.Words.{word}
use Rattle.note.specs.Answers.{given_yield}
use Rattle.note.specs.Files.{File, order_of, read_file}
use Rattle.note.specs.Rows.{yield_at}
use Rattle.rows.specs.Values.{has_values}
use Rattle.demands.proofs.RefusalLaws.{refusal-is-small}
use Rattle.walk.specs.declared.Spot.{Spot}
use Rattle.walk.specs.Steps.{stands, body_in, stayed, ended, header_step, record_step, container_step, usable, step_in, step_of}
use Rattle.walk.specs.Steps.{start_given, start_of, opened_of, steps_from}
use Rattle.walk.proofs.WalkLaws.{walk_yields, steps_more}
use Rattle.exports.specs.Walkers.{numbers_of, narrow, spot_of, walker_after}

-- A spot whose 32-bit numbers are such.
abbrev Narrow : Spot → Type 0
Narrow at = (at.number < 4294967296) × (at.parent < 4294967296) × (at.rows < 4294967296)

-- A step does not ask what was yielded last.
last_unasked : (bs : List ℕ) (at : Spot) → step_of bs (ended at) ≡ step_of bs at
unfolding step_of step_in usable stayed header_step record_step container_step
last_unasked bs at = refl

narrow-is : (n : ℕ) → n < 4294967296 → narrow n ≡ n
narrow-is n h = omega arith

carried : (at : Spot) → Narrow at → spot_of (numbers_of at) ≡ ended at
unfolding spot_of numbers_of stayed
carried at h = rw (narrow-is at.number h.0, narrow-is at.parent h.1, narrow-is at.rows h.2)

-- What holds of both ways of a test, where it was taken and where not.
both : (P : Spot → Type 0) (b : Bool) (x y : Spot) → (b ≡ true → P x) → P y → P (cond b x y)
both P true x y f g = f refl
both P false x y f g = g

-- Numbers that a walk can have tell of no more rows than the limit, so a step's numbers fit, by each way that it can go.
usable-rows : (bs : List ℕ) (at : Spot) → usable bs at ≡ true → at.rows ≤ file_limit
unfolding usable
usable-rows bs at u =
    let rest = ((and-eq-true_iff (leb (length bs) file_limit) _).0 u).1 in
    leb-true at.rows file_limit ((and-eq-true_iff (leb at.rows file_limit) _).0 rest).0

module _ (o : Order) (at : Spot) (h : Narrow at) (r : at.rows ≤ file_limit) where
  header-narrow : (bs : List ℕ) → Narrow (header_step o bs at)
  unfolding header_step stayed
  header-narrow bs = both Narrow (leb 8 (length bs)) _ _ (λ l. (h.0, omega arith, omega (arith, r))) h

  record_narrow : (bs : List ℕ) → Narrow (record_step o bs at)
  unfolding record_step stayed
  record_narrow bs =
      both Narrow (stands o bs) _ _
      (λ s. both Narrow (has_values o (word o 0 bs) (body_in o bs)) _ _ (λ v. (h.0, h.1, omega (arith, r))) h) h

  container_narrow : (bs : List ℕ) → Narrow (container_step o bs at)
  unfolding container_step stayed
  container_narrow bs = both Narrow (stands o bs) _ _ (λ s. (h.0, omega (arith, r), omega (arith, r))) h

step_narrow : (bs : List ℕ) (at : Spot) → Narrow at → Narrow (step_of bs at)
unfolding step_of step_in stayed
step_narrow bs at h =
    both Narrow (eqb at.number 0) _ _ (λ z.
    both Narrow (usable bs at) _ _ (λ u.
    let r = usable-rows bs at u in
    both Narrow (eqb at.place 0) _ _ (λ p. header-narrow (order_of bs) at h r bs)
    (both Narrow (ltb at.place at.end) _ _ (λ i. record_narrow (order_of bs) at h r _) (container_narrow (order_of bs) at h r _))) h) h

steps-narrow : (bs : List ℕ) (k : ℕ) (at : Spot) → Narrow at → Narrow (steps_from bs k at)
unfolding steps_from
steps-narrow bs zero at h = h
steps-narrow bs (suc k) at h = steps-narrow bs k (step_of bs at) (step_narrow bs at h)

-- A walk starts with no row behind it, and with 0 or a refusal's number, which is small.
opened-narrow : (bs : List ℕ) → Narrow (opened_of bs)
unfolding opened_of start_of
opened-narrow bs = step_narrow bs (start_given (read_file bs)) (go (read_file bs) refl)
  where
    go : (r : Res File) → read_file bs ≡ r → Narrow (start_given r)
    go (ok f) e = (omega arith, omega arith, omega arith)
    go (bad c p) e = (omega (arith, refusal-is-small bs c p e), omega arith, omega arith)

-- The numbers after opening and k steps are those of the walk.
numbers_follow : (bs : List ℕ) (k : ℕ) → walker_after bs k ≡ numbers_of (steps_from bs k (opened_of bs))
unfolding walker_after steps_from
numbers_follow bs zero = refl
numbers_follow bs (suc k) =
    let at : Spot = steps_from bs k (opened_of bs) in
    ap (λ (ns : List ℕ). numbers_of (step_of bs (spot_of ns))) (numbers_follow bs k)
    ∙ ap (λ (x : Spot). numbers_of (step_of bs x)) (carried at (steps-narrow bs k (opened_of bs) (opened-narrow bs)))
    ∙ ap numbers_of (last_unasked bs at ∙ steps_more bs k (opened_of bs))

-- The C walker's theorem: what dwj_next tells after opening and k calls before it is the definition's yield with the number k + 1.
pub c_walker_yields : (bs : List ℕ) → Bytes bs → (k : ℕ) → given_yield (step_of bs (spot_of (walker_after bs k))).last ≡ yield_at bs (suc k)
c_walker_yields bs b k =
    let at : Spot = steps_from bs k (opened_of bs) in
    ap (λ (ns : List ℕ). given_yield (step_of bs (spot_of ns)).last) (numbers_follow bs k)
    ∙ ap (λ (x : Spot). given_yield (step_of bs x).last) (carried at (steps-narrow bs k (opened_of bs) (opened-narrow bs)))
    ∙ ap (λ (x : Spot). given_yield x.last) (last_unasked bs at ∙ steps_more bs k (opened_of bs))
    ∙ walk_yields bs (suc k) b
