-- `stores::write_structure` meets its contract: a refusal of `admitted` is its own, and the next place tells that there is room.
-- The idea: `admitted` answered for the structure's draft.
use mathlib.Core.Path.{◌≡◌, sym, ap, ◌∙◌}
use native.Mathlib.Omega.{arith}
use lib.ListN.{length}
use Rattle.note.specs.Faults.{numbered_in}
use Rattle.note.specs.Writers.{writer_next, record_next}
use Rattle.stores.specs.Structures.{structure_draft}
use Rattle.stores.proofs.NumberedLaws.{number_back}
use Rattle.stores.proofs.WriterLaws.{refusal_kept, next_room, next_written}
use Rattle.stores.proofs.StructureLaws.{structured-size}
use Rattle.stores.proofs.write_structure.Goals as goal
use Rattle.stores.proofs.write_structure.Goals.{After-admitted}

-- `admitted` was asked the structure's fault and size.
answered : (c : After-admitted) → (let a = c.args in
    numbered_in c.admitted.result ≡ record_next a.out.now a.place (structure_draft a.order a.fault a.word a.ws.now a.bytes.now))
unfolding record_next
answered c =
    let a = c.args in
    c.admitted.ensures ∙ ap (writer_next (length a.out.now) a.place a.fault) (sym (structured-size a.order a.word a.ws.now a.bytes.now))

pub returns-in_err-next : goal.returns-in_err-next
returns-in_err-next c =
    let told = rw c.in_err-next.was at (answered (goal.at.returns-in_err-next c).After-admitted) in
    (sym (number_back _ _ c.from_residual.ensures.1) ∙ told, refusal_kept _ _ _ told)

pub slice_bounds-put_structure-count : goal.slice_bounds-put_structure-count
slice_bounds-put_structure-count c =
    omega (arith, next_room _ _ _ (rw c.in_ok-next.was at (answered (goal.at.slice_bounds-put_structure-count c).After-admitted)))

pub slice_bounds-put_structure-start : goal.slice_bounds-put_structure-start
slice_bounds-put_structure-start c =
    omega (arith, next_room _ _ _ (rw c.in_ok-next.was at (answered (goal.at.slice_bounds-put_structure-start c).After-admitted)))

pub put_structure-requires : goal.put_structure-requires
put_structure-requires c =
    let a = c.args in
    let (limit, fits) = next_room _ _ _ (rw c.in_ok-next.was at (answered (goal.at.put_structure-requires c).After-admitted)) in
    omega (arith, limit, fits, structured-size a.order a.word a.ws.now a.bytes.now)

pub returns : goal.returns
returns c =
    let told = rw c.in_ok-next.was at (answered (goal.at.returns c).After-admitted) in
    (told, next_written _ _ _ told _ c.put_structure.ensures)
