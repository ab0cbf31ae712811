-- `closings::close` meets its contract: what `bounded` refuses is refused, then what the contents refuse; the end tells that there is room.
-- The idea: a law for each way; the contents are read where they stand in the output.
use Rattle.std.proofs.Common.{◌≡◌, ◌∙◌, sym, ap, ℕ, List}
use Prim.Native.Nat.{◌+◌, ◌-◌}
use native.Mathlib.Omega.{arith}
use lib.ListN.{length, drop, length-take}
use Rattle.note.specs.Faults.{fault_in, res_of}
use Rattle.note.specs.Records.{read_records}
use Rattle.note.specs.Writers.{contents_of}
use Rattle.containers.specs.declared.Container.{Container}
use Rattle.containers.specs.Counts.{record_count, least_of, context_in}
use Rattle.demands.specs.Outputs.{HasRoom}
use Rattle.closings.proofs.CloseLaws.{Call, refuses, told, contents_refuse, shuts}
use Rattle.closings.proofs.close.Goals as goal
use Rattle.closings.proofs.close.Goals.{In_ok-next, After-records_in}

-- What the closing is asked.
abbrev call : List ℕ → ℕ → ℕ → ℕ → Container → ℕ → Call
call out place end fault sort word = record {
  out = out;
  place = place;
  end = end;
  fault = fault;
  least = least_of sort;
  word = word;
  context = context_in sort;
}

-- Where the end was answered: there is room.
room : (c : In_ok-next) → HasRoom (length c.args.out.now) c.args.place c.args.end
room c = let a = c.args in (told a.order (call a.out.now a.place a.end (fault_in a.fault) a.sort a.word) c.in_ok-next.ensures).room

pub overflow_add-from : goal.overflow_add-from
overflow_add-from c = omega (arith, room c)

pub slice_bounds-records_in-count : goal.slice_bounds-records_in-count
slice_bounds-records_in-count c = omega (arith, room c)

pub slice_bounds-records_in-start : goal.slice_bounds-records_in-start
slice_bounds-records_in-start c = omega (arith, room c)

pub slice_bounds-records_in-end : goal.slice_bounds-records_in-end
slice_bounds-records_in-end c = (room c).1

pub records_in-requires : goal.records_in-requires
records_in-requires c =
    let a = c.args in
    omega (arith, room (goal.at.records_in-requires c).In_ok-next, length-take (a.end - (a.place + 8)) (drop (a.place + 8) a.out.now))

pub begin_container-requires : goal.begin_container-requires
begin_container-requires c = room (goal.at.begin_container-requires c).In_ok-next

-- How many the contents are, or their refusal, is asked in their context.
counted : (c : After-records_in) → (let a = c.args in
    res_of c.records_in.result
    ≡ record_count (read_records a.order (context_in a.sort) (a.place + 8) (contents_of a.out.now a.place a.end)))
counted c = rw (← c.context.ensures) c.records_in.ensures

pub returns-in_err-next : goal.returns-in_err-next
returns-in_err-next c =
    let a = c.args in
    let (answer, output) =
    refuses a.order (call a.out.now a.place a.end (fault_in a.fault) a.sort a.word) _ _ c.from_residual.ensures.1 c.in_err-next.ensures in
    record { answer = answer; output = output }

pub returns-in_err-records_in : goal.returns-in_err-records_in
returns-in_err-records_in c =
    let a = c.args in
    let e = counted (goal.at.returns-in_err-records_in c).After-records_in in
    let (answer, output) =
    contents_refuse a.order (call a.out.now a.place a.end (fault_in a.fault) a.sort a.word) _ _ c.in_ok-next.ensures
    c.from_residual-in_err-records_in.ensures.1
    (sym (ap res_of c.in_err-records_in.was) ∙ e) in
    record { answer = answer; output = output }

pub returns : goal.returns
returns c =
    let a = c.args in
    let e = counted (goal.at.returns c).After-records_in in
    let (answer, output) =
    shuts a.order (call a.out.now a.place a.end (fault_in a.fault) a.sort a.word) c.in_ok-next.ensures
    (sym (ap res_of c.in_ok-records_in.was) ∙ e) c.begin_container.ensures in
    record { answer = answer; output = output }
