-- `cold_name` meets its contract.
-- The idea: the code's table is the one that antt computes from the lists, and of that one a law says what is looked up.
use mathlib.Core.Path.{◌∙◌}
use Rattle.note.proofs.Computing.{computing}
use Rattle.channels.proofs.TableLaws.{cold_table}
use Rattle.channels.proofs.cold_name.Goals as goal

pub returns : goal.returns
unfolding computing
returns c =
    let a = c.args in
    c.look_up.ensures ∙ cold_table a.detector_type a.channel
