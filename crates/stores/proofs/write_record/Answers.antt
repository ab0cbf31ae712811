-- `stores::write_record` meets its contract: a refusal of `granted` is its own, and the next place tells that there is room.
-- The idea: what is stored into the lent rest of the output is the structure, and the laws of writers say the rest.
use mathlib.Core.Path.{refl}
use native.Mathlib.Omega.{arith}
use Rattle.note.specs.Faults.{fault_in}
use Rattle.rules.specs.Kinds.{kind_word}
use Rattle.stores.specs.Structures.{structure_draft}
use Rattle.stores.proofs.WriterLaws.{Admitted, refuses, has_room, writes}
use Rattle.stores.proofs.StructureLaws.{structured-size}
use Rattle.stores.proofs.write_record.Goals as goal
use Rattle.stores.proofs.write_record.Goals.{After-granted}

-- `granted` was asked the structure's fault and size.
granted : (c : After-granted) → (let a = c.args in
    Admitted a.out.now a.place (structure_draft a.order (fault_in a.fault) (kind_word a.kind) a.ws.now a.bytes.now) c.granted.result)
granted c = record { fault = _; size = _; fault-is = refl; size_is = λ z. structured-size _ _ _ _; said = c.granted.ensures }

pub returns-in_err-next : goal.returns-in_err-next
returns-in_err-next c =
    refuses (granted (goal.at.returns-in_err-next c).After-granted) _ c.in_err-next.was c.from_residual.ensures.1

pub slice_bounds-put_structure-count : goal.slice_bounds-put_structure-count
slice_bounds-put_structure-count c =
    omega (arith, has_room (granted (goal.at.slice_bounds-put_structure-count c).After-granted) c.in_ok-next.was)

pub slice_bounds-put_structure-start : goal.slice_bounds-put_structure-start
slice_bounds-put_structure-start c =
    omega (arith, has_room (granted (goal.at.slice_bounds-put_structure-start c).After-granted) c.in_ok-next.was)

pub put_structure-requires : goal.put_structure-requires
put_structure-requires c =
    let a = c.args in
    let (limit, fits) = has_room (granted (goal.at.put_structure-requires c).After-granted) c.in_ok-next.was in
    omega (arith, limit, fits, structured-size a.order (kind_word a.kind) a.ws.now a.bytes.now)

pub returns : goal.returns
returns c =
    writes (granted (goal.at.returns c).After-granted) c.in_ok-next.was _ (rw c.into.ensures at c.put_structure.ensures)
