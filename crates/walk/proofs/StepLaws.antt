-- One law for each way through a step, and the count of structures turn by turn.
-- The idea: each premise is a test that the code has taken, so the definition computes to the answer.
use mathlib.Core.Path.{◌≡◌, refl, sym, ap, ap₂, ◌∙◌, subst}
use mathlib.Core.Bool.{Bool, true, false, cond}
use mathlib.Core.List.{List, [], ◌∷◌}
use Prim.Native.Nat.{ℕ, zero, suc, ◌+◌, ◌-◌, ◌≤◌, ◌<◌}
use native.Mathlib.Omega.{arith}
use lib.Dec.{eqb}
use lib.ListN.{length, take, drop, length-drop}
use Rattle.std.proofs.Common.{inl, inr, None}
use Rattle.std.proofs.lemmas.Bool.{cases_Bool}
use borrow.Author.Tests.{le-leb, lt-ltb, le-ltb, eq-eqb, ne_eqb}
use Rattle.theory.specs.declared.Order.{Order}
use Rattle.theory.specs.Tests.{ok, bad}
use Rattle.note.specs.Limits.{file_limit}
use Rattle.note.specs.Words.{word}
use Rattle.note.specs.Files.{read_file}
use Rattle.note.specs.declared.WalkerYield.{WalkerYield}
use Rattle.note.specs.declared.WalkerYield.TheVariants.{Row, End}
use Rattle.record.proofs.StepLaws.{cut_body, cut}
use Rattle.containers.proofs.RecordLoop.{behind_of, left}
use Rattle.containers.proofs.ContainerLaws.{count-good, count-bad}
use Rattle.containers.specs.Counts.{rows_of_file, file_rows}
use Rattle.rows.specs.Values.{has_values, values_of}
use Rattle.rows.specs.declared.Values.{Values}
use Rattle.walk.specs.declared.Spot.{Spot}
use Rattle.std.specs.Iterator.{Yields, Drains}
use Rattle.structures.specs.declared.Structure.{Structure}
use Rattle.structures.specs.declared.Sequence.{Sequence}
use Rattle.structures.specs.Standing.{stands, GivesStructure}
use Rattle.structures.proofs.StandingLaws.{too_short, standing}
use Rattle.walk.specs.Steps.{count_from, count_in, container_row, ended, refused_at, moved, usable, start_of}
use Rattle.walk.specs.Steps.{header_step, body_in, record_step, container_step, step_in}

-- ---- counting

-- No more are counted than there are bytes.
pub few_counted : (o : Order) (bs : List ℕ) → count_in o bs ≤ length bs
unfolding count_in count_from
few_counted o bs = go (length bs) bs
  where
    more : (b : Bool) (f n : ℕ) → n ≤ f → cond b (suc n) 0 ≤ suc f
    more true f n h = omega arith
    more false f n h = omega arith

    go : (f : ℕ) (bs : List ℕ) → count_from o f bs ≤ f
    go zero bs = omega arith
    go (suc f) bs = more (stands o bs) f (count_from o f (drop (8 + word o 4 bs) bs)) (go f (drop (8 + word o 4 bs) bs))

-- Where none stands, none is counted.
none_from : (o : Order) (f : ℕ) (bs : List ℕ) → stands o bs ≡ false → count_from o f bs ≡ 0
unfolding count_from
none_from o zero bs e = refl
none_from o (suc f) bs e = rw e

pub none_counted : (o : Order) (bs : List ℕ) → stands o bs ≡ false → count_in o bs ≡ 0
unfolding count_in
none_counted o bs e = none_from o (length bs) bs e

-- The number of steps is any that is enough.
same_from : (o : Order) (f g : ℕ) (bs : List ℕ) → length bs ≤ f → length bs ≤ g → count_from o f bs ≡ count_from o g bs
unfolding count_from
same_from o zero g bs l m = sym (none_from o g bs (too_short o bs (omega arith)))
same_from o (suc f) zero bs l m = none_from o (suc f) bs (too_short o bs (omega arith))
same_from o (suc f) (suc g) bs l m =
    let next : List ℕ = drop (8 + word o 4 bs) bs in
    let size : length next ≡ length bs - (8 + word o 4 bs) = length-drop (8 + word o 4 bs) bs in
    elim (cases_Bool (stands o bs)) [
      | inl e ↦
          let fits = standing o bs e in
          ap (λ (n : ℕ). cond (stands o bs) (suc n) 0) (same_from o f g next (omega (arith, size, fits)) (omega (arith, size, fits)))
      | inr e ↦ rw e
    ]

-- Where one stands, it is counted, and the rest counts on.
pub counted_on : (o : Order) (bs : List ℕ) → stands o bs ≡ true → count_in o bs ≡ suc (count_in o (drop (8 + word o 4 bs) bs))
unfolding count_in count_from
counted_on o bs e = go (length bs) refl
  where
    next : List ℕ
    next = drop (8 + word o 4 bs) bs

    go : (f : ℕ) → length bs ≡ f → count_from o f bs ≡ suc (count_from o (length next) next)
    go zero l = absurd (omega (arith, standing o bs e, l))
    go (suc f) l =
        let size : length next ≡ length bs - (8 + word o 4 bs) = length-drop (8 + word o 4 bs) bs in
        let fits = standing o bs e in
        rw e (ap suc (same_from o f (length next) next (omega (arith, size, fits)) (omega arith)))

-- So many as are given before none stands.
run_counted : (s : Sequence) (xs : List Structure) (t u : Sequence) → Yields GivesStructure s xs t → GivesStructure t None u
    → length xs ≡ count_in s.order s.rest.now
run_counted s [] t u e n = sym (none_counted _ _ (subst (λ (x : Sequence). stands x.order x.rest.now ≡ false) (sym e) n.0))
run_counted s (x ∷ xs) t u (j, g, y) n =
    ap suc (run_counted j xs t u y n ∙ ap₂ count_in g.order_is g.rest_is) ∙ sym (counted_on _ _ g.standing)

pub drained : (s : Sequence) (xs : List Structure) → Drains GivesStructure s xs → length xs ≡ count_in s.order s.rest.now
drained s xs (u, (t, y, n)) = run_counted s xs t u y n

-- ---- the steps

pub opens_refused : (bs : List ℕ) (c p : ℕ) → bad c p ≡ file_rows (read_file bs)
    → ◌≡◌ {A = Spot} (record { number = c; fault = p; place = 0; end = 0; parent = 0; rows = 0; last = End }) (start_of bs)
unfolding start_of
opens_refused bs c p e = rw (count-bad rows_of_file e)

pub opens_accepted : (bs : List ℕ) (n : ℕ) → ok n ≡ file_rows (read_file bs)
    → ◌≡◌ {A = Spot} (record { number = 0; fault = 0; place = 0; end = 0; parent = 0; rows = 0; last = End }) (start_of bs)
unfolding start_of
opens_accepted bs n e = let (f, r, s) = count-good rows_of_file e in rw r

module _ (o : Order) (bs : List ℕ) (at : Spot) where
  pub header-here : 8 ≤ length bs → (v : ℕ) → v ≡ word o 4 bs → moved at 8 8 0 (Row 1 0 8 0 v 0) ≡ header_step o bs at
  unfolding header_step
  header-here h v e = rw (le-leb 8 (length bs) h, e)

  pub container_none : stands o bs ≡ false → ended at ≡ container_step o bs at
  unfolding container_step
  container_none e = rw e

-- A structure stands at the front of the bytes, and n is its length word.
pub record Found (o : Order) (bs : List ℕ) (n : ℕ) : Type 0 where
  pub is-here : stands o bs ≡ true
  pub length-is : n ≡ word o 4 bs

module _ {o : Order} {bs : List ℕ} {n : ℕ} (f : Found o bs n) where
  cut-is : cut_body n bs ≡ body_in o bs
  cut-is = cut n bs ∙ ap (λ (m : ℕ). take m (drop 8 bs)) f.length-is

  module _ (at : Spot) (k : ℕ) (ek : k ≡ word o 0 bs) where
    pub record_here : has_values o k (cut_body n bs) ≡ true → (v : Values) → v ≡ values_of o k (cut_body n bs)
        → moved at (at.place + (8 + n)) at.end at.parent (Row v.kind at.place (8 + n) at.parent v.one v.two)
        ≡ record_step o bs at
    unfolding record_step
    record_here h v ev =
        let h' : has_values o (word o 0 bs) (body_in o bs) ≡ true = rw (ek, cut-is) at h in
        let v' : v ≡ values_of o (word o 0 bs) (body_in o bs) = rw (ek, cut-is) at ev in
        rw (f.is-here, h', v', f.length-is)

    pub container_here : (c : ℕ) → c ≡ count_in o (cut_body n bs) → (row : WalkerYield) → row ≡ container_row at.place (8 + n) k c
        → moved at (at.place + 8) (at.place + (8 + n)) (at.rows + 1) row ≡ container_step o bs at
    unfolding container_step
    container_here c ec row er =
        let c' : c ≡ count_in o (body_in o bs) = rw cut-is at ec in
        rw (f.is-here, er, ek, c', f.length-is)

-- ---- which step it is

pub step_refused : (o : Order) (bs : List ℕ) (at : Spot) → (at.number ≡ 0 → ⊥) → refused_at at ≡ step_in o bs at
unfolding step_in
step_refused o bs at n = rw (ne_eqb at.number 0 n)

-- The numbers of a walk over an accepted file, where all those tests were passed.
pub record Usable (bs : List ℕ) (at : Spot) : Type 0 where
  pub accepted : at.number ≡ 0
  pub limit : length bs ≤ file_limit
  pub rows-low : at.rows ≤ file_limit
  pub end_within : at.end ≤ length bs
  pub place-within : at.place ≤ length bs

module _ {bs : List ℕ} {at : Spot} (u : Usable bs at) where
  used : usable bs at ≡ true
  unfolding usable
  used = rw (
    le-leb (length bs) file_limit u.limit,
    le-leb at.rows file_limit u.rows-low,
    le-leb at.end (length bs) u.end_within,
    le-leb at.place (length bs) u.place-within,
  )

  zero_is : eqb at.number 0 ≡ true
  zero_is = eq-eqb at.number 0 u.accepted

module _ (o : Order) {bs : List ℕ} {at : Spot} (u : Usable bs at) where
  pub step_header : at.place ≡ 0 → header_step o bs at ≡ step_in o bs at
  unfolding step_in
  step_header h = rw (zero_is u, used u, eq-eqb at.place 0 h)

  module _ (h : at.place ≡ 0 → ⊥) where
    pub step_record : at.place < at.end → record_step o (take (at.end - at.place) (drop at.place bs)) at ≡ step_in o bs at
    unfolding step_in
    step_record m = rw (zero_is u, used u, ne_eqb at.place 0 h, lt-ltb at.place at.end m)

    pub step_container : at.end ≤ at.place → container_step o (behind_of at.place bs) at ≡ step_in o bs at
    unfolding step_in
    step_container m =
        let all : behind_of at.place bs ≡ drop at.place bs = sym (left at.place bs) in
        rw (zero_is u, used u, ne_eqb at.place 0 h, le-ltb at.place at.end m, all)
