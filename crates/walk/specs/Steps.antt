-- Where a walk stands, what it yields there, and where it goes, as one step over plain numbers. Opening has read the whole file, so a step moves
-- on by length words and tests no rule again; it is defined for any numbers all the same. That from opening on the yields are the table's rows,
-- and then the end, is proved (proofs/WalkLaws.antt).
use Rattle.std.specs.Prelude.{ℕ, zero, suc, ◌+◌, ◌-◌, ◌%◌, Bool, cond, ◌&&◌, ◌≡◌, List, [], ◌∷◌, leb, ltb, eqb, length, take, drop}
use Rattle.theory.specs.declared.Order.{Order}
use Rattle.theory.specs.Tests.{Res, ok, bad}
use Rattle.theory.specs.Layout as Layout
use Rattle.note.specs.Limits.{file_limit}
use Rattle.note.specs.Words.{word}
use Rattle.note.specs.Files.{File, order_of, read_file}
use Rattle.note.specs.declared.WalkerYield.{WalkerYield}
use Rattle.note.specs.declared.WalkerYield.TheVariants.{Row, End, Refused}
pub use Rattle.structures.specs.Standing.{stands}
use Rattle.rows.specs.Values.{has_values, values_of}
use Rattle.walk.specs.declared.Spot.{Spot}

-- Structures back to back, by their length words alone; the first number only bounds the steps.
unfoldable pub count_from : Order → ℕ → List ℕ → ℕ
count_from o zero bs = 0
count_from o (suc f) bs = cond (stands o bs) (suc (count_from o f (drop (8 + word o 4 bs) bs))) 0

unfoldable pub count_in : Order → List ℕ → ℕ
count_in o bs = count_from o (length bs) bs

-- FORMAT 7.2: a container's row: at byte 8 the configuration's, anywhere else an event's.
unfoldable pub container_row : ℕ → ℕ → ℕ → ℕ → WalkerYield
container_row place whole w count = cond (eqb place 8) (Row 2 8 whole 0 count 0) (Row 5 place whole 0 (w % 65536) count)

-- The walk stays where it is; it yields the end, or the file's refusal.
unfoldable pub stayed : Spot → WalkerYield → Spot
stayed at y = record { number = at.number; fault = at.fault; place = at.place; end = at.end; parent = at.parent; rows = at.rows; last = y }

abbrev pub ended : Spot → Spot
ended at = stayed at End

abbrev pub refused_at : Spot → Spot
refused_at at = stayed at (Refused at.number at.fault)

-- It moves on, one row further, and yields that row.
abbrev pub moved : Spot → ℕ → ℕ → ℕ → WalkerYield → Spot
moved at place end parent row = record {
  number = at.number;
  fault = at.fault;
  place = place;
  end = end;
  parent = parent;
  rows = at.rows + 1;
  last = row;
}

-- The header's row; a record's, at the front of what is left of its container; a container's, of what is left of the file.
unfoldable pub header_step : Order → List ℕ → Spot → Spot
header_step o bs at = cond (leb 8 (length bs)) (moved at 8 8 0 (Row 1 0 8 0 (word o 4 bs) 0)) (ended at)

abbrev pub body_in : Order → List ℕ → List ℕ
body_in o bs = take (word o 4 bs) (drop 8 bs)

abbrev pub record_row : Order → List ℕ → Spot → WalkerYield
record_row o bs at =
    Row (values_of o (word o 0 bs) (body_in o bs)).kind at.place (8 + word o 4 bs) at.parent
    (values_of o (word o 0 bs) (body_in o bs)).one (values_of o (word o 0 bs) (body_in o bs)).two

unfoldable pub record_step : Order → List ℕ → Spot → Spot
record_step o bs at =
    cond (stands o bs)
    (cond (has_values o (word o 0 bs) (body_in o bs)) (moved at (at.place + (8 + word o 4 bs)) at.end at.parent (record_row o bs at)) (ended at))
    (ended at)

unfoldable pub container_step : Order → List ℕ → Spot → Spot
container_step o bs at =
    cond (stands o bs)
    (moved at (at.place + 8) (at.place + (8 + word o 4 bs)) (at.rows + 1)
    (container_row at.place (8 + word o 4 bs) (word o 0 bs) (count_in o (body_in o bs))))
    (ended at)

-- Numbers that a walk over this file can have.
unfoldable pub usable : List ℕ → Spot → Bool
usable bs at = leb (length bs) file_limit && (leb at.rows file_limit && (leb at.end (length bs) && leb at.place (length bs)))

-- FORMAT 8.3: one step, over a file whose words are of that order. Of a file that was refused every step gives the refusal.
unfoldable pub step_in : Order → List ℕ → Spot → Spot
step_in o bs at =
    cond (eqb at.number 0)
    (cond (usable bs at)
    (cond (eqb at.place 0) (header_step o bs at)
    (cond (ltb at.place at.end) (record_step o (take (at.end - at.place) (drop at.place bs)) at)
    (container_step o (drop at.place bs) at)))
    (ended at))
    (refused_at at)

-- One step, in the order that the file's bytes show.
unfoldable pub step_of : List ℕ → Spot → Spot
step_of bs at = step_in (order_of bs) bs at

-- FORMAT 8.3: where a walk starts, by what reading the file gave; and its first yield. A caller has no other way to begin one.
abbrev pub start_given : Res File → Spot
start_given (ok f) = record { number = 0; fault = 0; place = 0; end = 0; parent = 0; rows = 0; last = End }
start_given (bad c p) = record { number = c; fault = p; place = 0; end = 0; parent = 0; rows = 0; last = End }

unfoldable pub start_of : List ℕ → Spot
start_of bs = start_given (read_file bs)

unfoldable pub opened_of : List ℕ → Spot
opened_of bs = step_of bs (start_of bs)

-- k steps on.
unfoldable pub steps_from : List ℕ → ℕ → Spot → Spot
steps_from bs zero at = at
steps_from bs (suc k) at = steps_from bs k (step_of bs at)

-- A row as a yield.
abbrev pub row_yield : Layout.Row → WalkerYield
row_yield r = Row r.kind r.start r.whole r.parent r.one r.two

-- FORMAT 8.3: what a walk yields from a spot on: these rows, the one at hand first, and then nothing but the end.
unfoldable pub Yields : List ℕ → Spot → List Layout.Row → Type 0
Yields bs at [] = (k : ℕ) → (steps_from bs k at).last ≡ End
Yields bs at (r ∷ rs) = (at.last ≡ row_yield r) × Yields bs (step_of bs at) rs
