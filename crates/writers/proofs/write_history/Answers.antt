-- `writers::write_history` meets its contract: fault and size are the history's, and `put_history` stores its bytes.
-- The idea: the size is known where there is no fault, and no more is asked; the laws of writers say the rest.
use Prim.Native.Nat.{◌+◌, ◌≤◌, ◌<◌}
use mathlib.Core.Path.{sym, ◌∙◌}
use native.Mathlib.Omega.{arith}
use lib.ListN.{length}
use borrow.Author.Rules.{rules}
use Rattle.note.specs.Limits.{file_limit}
use Rattle.note.specs.Writers.{history_draft, history_handed}
use Rattle.stores.proofs.WriterLaws.{Admitted, refuses, has_room, writes}
use Rattle.writers.proofs.HistoryLaws.{parts_size, history-size, size_fits}
use Rattle.writers.proofs.write_history.Goals as goal
use Rattle.writers.proofs.write_history.Goals.{After-granted, In_ok-next}

-- `granted` was asked the history's fault and, where it has none, its size.
asked : (c : After-granted) → (let a = c.args in Admitted a.out.now a.place (history_draft a.order (history_handed a.fields)) c.granted.result)
unfolding history_draft
asked c = record {
  fault = _;
  size = _;
  fault-is = c.history_fault-fault.ensures;
  size_is = λ z. history-size _ (history_handed c.args.fields) ∙ sym (c.history_size.ensures z);
  said = c.granted.ensures;
}

-- Where the next place was answered: the limit, and room for the parts.
room : (c : In_ok-next) → (let a = c.args in
    (length a.out.now ≤ file_limit) × (a.place + (24 + parts_size (history_handed a.fields)) ≤ length a.out.now))
room c =
    let (limit, fits) = has_room (asked (goal.at.slice_bounds-put_history-count c).After-granted) c.in_ok-next.was in
    (limit, omega (arith, fits, history-size c.args.order (history_handed c.args.fields)))

pub history_size-requires : goal.history_size-requires
history_size-requires c =
    let l : length c.args.fields.veto.masks.now < 0x8000000000000000 = search rules in
    λ z. size_fits (history_handed c.args.fields) (sym c.history_fault-fault.ensures ∙ z) l

pub returns-in_err-next : goal.returns-in_err-next
returns-in_err-next c = refuses (asked (goal.at.returns-in_err-next c).After-granted) _ c.in_err-next.was c.from_residual.ensures.1

pub slice_bounds-put_history-count : goal.slice_bounds-put_history-count
slice_bounds-put_history-count c = omega (arith, (room c).1)

pub slice_bounds-put_history-start : goal.slice_bounds-put_history-start
slice_bounds-put_history-start c = omega (arith, (room c).1)

pub put_history-requires : goal.put_history-requires
put_history-requires c =
    let (limit, fits) = room (goal.at.put_history-requires c).In_ok-next in
    omega (arith, limit, fits)

pub returns : goal.returns
returns c = writes (asked (goal.at.returns c).After-granted) c.in_ok-next.was _ c.put_history.ensures
