-- `lines::put_number` meets its contract: the digits that `io::decimal` made, and the byte behind them.
-- The idea: the fewest digits that hold a number are its text.
use mathlib.Core.Path.{◌≡◌, ap, ◌∙◌}
use lib.ListN.{length, take}
use Rattle.note.specs.Listing.{decimal_text}
use Rattle.lines.proofs.TextLaws.{digits_are_text, number_put}
use Rattle.lines.proofs.put_number.Goals as goal

pub returns-clause-put : goal.returns-clause-put
returns-clause-put c =
    let a = c.args in
    let made = c.decimal-size in
    let spelled : take made.result made.new.out ≡ decimal_text a.number =
    made.ensures.digits ∙ digits_are_text made.result a.number made.ensures.len in
    number_put a.out.now a.at made.result a.number a.behind _ _ spelled (made.ensures.in_bounds.1 ∙ ap length spelled) c.put_part.ensures
