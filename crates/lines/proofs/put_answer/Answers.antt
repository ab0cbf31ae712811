-- `lines::put_answer` meets its contract: three numbers, each stored behind the one before it.
use Rattle.lines.proofs.TextLaws.{answer_put}
use Rattle.lines.proofs.put_answer.Goals as goal

pub returns-clause-put : goal.returns-clause-put
returns-clause-put c =
    answer_put _ _ _ _ _ _ _ _ _ _ _ c.from.ensures c.put_number-behind_number.ensures.put c.put_number-behind_count.ensures.put
    c.put_number.ensures.put
