-- Each way out is one law of FileLaws; behind the header and behind the configuration a record says what the tests on the way have shown.
use mathlib.Core.Path.{sym, ap, ◌∙◌}
use Prim.Native.Nat.{ℕ, ◌%◌}
use native.Mathlib.Omega.{arith}
use Rattle.std.proofs.Common.{rules}
use Rattle.theory.proofs.WordLaws.{Bytes-from}
use Rattle.containers.proofs.FileLaws.{short, unmarked, other_format, Headed, configuration-fault, configured}
use Rattle.containers.proofs.FileLaws.{Configured, events-fault, few_events, whole}
use Rattle.containers.proofs.parts_in.Goals as goal
use Rattle.containers.proofs.parts_in.Goals.{Else-word_at-ne-FORMAT, In_ok-configuration}

-- Behind the header: each of its tests has passed.
headed : (c : Else-word_at-ne-FORMAT) → Headed c.args.order c.args.file.now
headed c = record {
  bytes = Bytes-from c.args.file.now (λ i l. omega (arith, c.type_inv.file i));
  within = c.requires;
  room = c.if-room-lt-FRONT.false;
  marked = sym c.word_at.ensures ∙ c.if-word_at-ne-FILE_MARK.false;
  formatted = ap (λ (v : ℕ). v % 65536) (sym c.word_at-2.ensures) ∙ c.if-word_at-ne-FORMAT.false;
}

configuration : (c : In_ok-configuration) → Configured c.args.order c.args.file.now
    c.in_ok-configuration.configuration.length c.in_ok-configuration.configuration.count
configuration c = configured (record {
  bytes = Bytes-from c.args.file.now (λ i l. omega (arith, c.type_inv.file i));
  within = c.requires;
  room = c.if-room-lt-FRONT.false;
  marked = sym c.word_at.ensures ∙ c.if-word_at-ne-FILE_MARK.false;
  formatted = ap (λ (v : ℕ). v % 65536) (sym c.word_at-2.ensures) ∙ c.if-word_at-ne-FORMAT.false;
}) _ c.in_ok-configuration.ensures

pub returns-then-room-lt-FRONT : goal.returns-then-room-lt-FRONT
returns-then-room-lt-FRONT c = rw c.at.ensures (short c.args.order c.args.file.now c.if-room-lt-FRONT.true)

pub returns-then-word_at-ne-FILE_MARK : goal.returns-then-word_at-ne-FILE_MARK
returns-then-word_at-ne-FILE_MARK c =
    rw c.at-then-word_at-ne-FILE_MARK.ensures
    (unmarked c.args.order c.args.file.now c.if-room-lt-FRONT.false _ c.word_at.ensures c.if-word_at-ne-FILE_MARK.true)

pub returns-then-word_at-ne-FORMAT : goal.returns-then-word_at-ne-FORMAT
returns-then-word_at-ne-FORMAT c =
    rw c.at-then-word_at-ne-FORMAT.ensures
    (other_format c.args.order c.args.file.now c.if-room-lt-FRONT.false _ c.word_at.ensures c.if-word_at-ne-FILE_MARK.false
    _ c.word_at-2.ensures c.if-word_at-ne-FORMAT.true)

pub returns-in_err-configuration : goal.returns-in_err-configuration
returns-in_err-configuration c =
    let e = configuration-fault (headed (goal.at.returns-in_err-configuration c).Else-word_at-ne-FORMAT) _ _ c.in_err-configuration.ensures in
    search (rules, e)

pub overflow_add-from : goal.overflow_add-from
overflow_add-from c = omega (arith, (configuration (goal.at.overflow_add-from c).In_ok-configuration).fits)

pub slice_bounds-events_in-count : goal.slice_bounds-events_in-count
slice_bounds-events_in-count c = (configuration (goal.at.slice_bounds-events_in-count c).In_ok-configuration).fits

pub slice_bounds-events_in-start : goal.slice_bounds-events_in-start
slice_bounds-events_in-start c = (configuration (goal.at.slice_bounds-events_in-start c).In_ok-configuration).fits

pub events_in-requires : goal.events_in-requires
events_in-requires c = omega (arith, (configuration (goal.at.events_in-requires c).In_ok-configuration).fits)

pub returns-in_err-rows : goal.returns-in_err-rows
returns-in_err-rows c =
    let e = events-fault (configuration (goal.at.returns-in_err-rows c).In_ok-configuration) _ _ c.in_err-rows.ensures in search (rules, e)

pub overflow_add-result : goal.overflow_add-result
overflow_add-result c = let i = configuration (goal.at.overflow_add-result c).In_ok-configuration in omega (arith, i.fits, i.few_entries)

pub overflow_add-result-2 : goal.overflow_add-result-2
overflow_add-result-2 c =
    let i = configuration (goal.at.overflow_add-result-2 c).In_ok-configuration in
    omega (arith, i.fits, i.few_entries, few_events i _ c.in_ok-rows.ensures)

pub returns : goal.returns
returns c = whole (configuration (goal.at.returns c).In_ok-configuration) _ c.in_ok-rows.ensures
