-- `rows::has_values` meets its contract: each way is one of the definition's cases.
use mathlib.Core.Path.{sym, ◌∙◌}
use native.Mathlib.Omega.{arith}
use Rattle.rows.proofs.ValueLaws.{none_has, history_has, others_have, second_fits}
use Rattle.rows.proofs.has_values.Goals as goal

pub returns-in_default : goal.returns-in_default
returns-in_default c = sym (none_has _ _ _ c.in_default.ensures.1)

pub returns-in-History : goal.returns-in-History
returns-in-History c =
    c.is_ok.ensures.value
    ∙ history_has c.args.order c.args.b.now c.in-Ok.kind c.in-Ok.ensures c.in-History.is c.history_rule.result c.history_rule.ensures

pub overflow_add-result : goal.overflow_add-result
overflow_add-result c = let f = second_fits c.in-Ok.kind in rw c.value_places.ensures (omega arith)

pub returns-in_default-kind : goal.returns-in_default-kind
returns-in_default-kind c = others_have c.args.order c.args.b.now c.in-Ok.kind c.in-Ok.ensures c.in_default-kind.not-History c.value_places.ensures
