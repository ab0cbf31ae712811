-- P1 to P14 hold, and the slips are shut out (FORMAT 10): the definitions, computed.
use mathlib.Core.Path.{refl}
use lib.ListN.{drop}
use Rattle.note.specs.Examples.{AllHold, examples}
use Rattle.note.specs.Slips.{slips}
use Rattle.note.proofs.Computing.{computing}

-- One theorem for the table of examples: P1 to P5, which are codes; P6 to P11, words and samples; P12 to P14, files; then
-- counts of samples, the worked refusal with what stands beside it, and a byte too many.
pub examples_hold : AllHold examples
unfolding computing
examples_hold =
    let further : AllHold (drop 20 examples) = (refl, (refl, (refl, (refl, (refl, (refl, (refl, (refl, (refl, tt))))))))) in
    let files : AllHold (drop 15 examples) = (refl, (refl, (refl, (refl, (refl, further))))) in
    let words : AllHold (drop 6 examples) = (refl, (refl, (refl, (refl, (refl, (refl, (refl, (refl, ((refl, refl), files))))))))) in
    (refl, (refl, (refl, (refl, (refl, (refl, words))))))

-- The files that a slip would read otherwise.
pub slips_shut_out : AllHold slips
unfolding computing
slips_shut_out = (refl, (refl, tt))
