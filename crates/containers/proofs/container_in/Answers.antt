-- Each way out is one law of ContainerLaws; behind the two words a record says what their tests have shown.
use mathlib.Core.Path.{◌≡◌, sym, ap, ◌∙◌}
use native.Mathlib.Omega.{arith}
use Rattle.std.proofs.Common.{rules}
use Rattle.theory.proofs.WordLaws.{Bytes-from}
use Rattle.note.specs.Words.{word}
use Rattle.record.proofs.StepLaws.{fault-some}
use Rattle.containers.specs.Counts.{container_rule}
use Rattle.containers.proofs.ContainerLaws.{short, fault, long, empty, Begun, contents-fault, held}
use Rattle.containers.proofs.container_in.Goals as goal
use Rattle.containers.proofs.container_in.Goals.{Else-length-least, In_default}

-- Behind the first word, and behind both.
allowed : (c : In_default) → container_rule c.args.sort (word c.args.order 0 c.args.part.now) ≡ 0
allowed c = ap (container_rule c.args.sort) (sym c.word_at-word.ensures) ∙ sym c.in_default.ensures

begun : (c : Else-length-least) → Begun c.args.sort c.args.order c.args.part.now c.word_at-word.result c.word_at-length.result
begun c = record {
  bytes = Bytes-from c.args.part.now (λ i l. omega (arith, c.type_inv.part i));
  room = c.if-room-lt-FRONT.false;
  kind-is = c.word_at-word.ensures;
  allowed = ap (container_rule c.args.sort) (sym c.word_at-word.ensures) ∙ sym c.in_default.ensures;
  length-is = c.word_at-length.ensures;
  fits = c.if-room-length.false;
  placed = omega (arith, c.least.ensures);
}

pub returns-then-room-lt-FRONT : goal.returns-then-room-lt-FRONT
returns-then-room-lt-FRONT c =
    let a = c.args in rw c.at.ensures (short a.sort a.order a.at a.part.now c.if-room-lt-FRONT.true)

pub returns-in-Err : goal.returns-in-Err
returns-in-Err c =
    let a = c.args in
    rw c.at-in-Err.ensures
    (fault a.sort a.order a.at a.part.now c.if-room-lt-FRONT.false
    _ (c.in-Err.ensures ∙ ap (container_rule a.sort) c.word_at-word.ensures) (fault-some c.in-Err.fault))

pub returns-then-room-length : goal.returns-then-room-length
returns-then-room-length c =
    let a = c.args in
    rw c.at-then-room-length.ensures
    (long a.sort a.order a.at a.part.now c.if-room-lt-FRONT.false (allowed (goal.at.returns-then-room-length c).In_default)
    _ c.word_at-length.ensures c.if-room-length.true)

pub returns-then-length-least : goal.returns-then-length-least
returns-then-length-least c =
    let a = c.args in
    rw c.at-then-length-least.ensures
    (empty a.sort a.order a.at a.part.now c.if-room-lt-FRONT.false (allowed (goal.at.returns-then-length-least c).In_default)
    _ c.word_at-length.ensures c.if-room-length.false (omega (arith, c.least.ensures)))

pub returns-in_err-count : goal.returns-in_err-count
returns-in_err-count c =
    let e =
    contents-fault (begun (goal.at.returns-in_err-count c).Else-length-least) c.args.at _ _ (rw c.context.ensures at c.in_err-count.ensures) in
    search (rules, e)

pub returns : goal.returns
returns c = held (begun (goal.at.returns c).Else-length-least) c.args.at _ (rw c.context.ensures at c.in_ok-count.ensures)
