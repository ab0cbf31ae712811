-- `exports::dwj_record` meets its contract. A phonon entry's eleven words are more than the search finds at once, so it is told what the answer is.
use Rattle.std.proofs.Common.{rules}
use Rattle.note.specs.Answers.{given_record}
use Rattle.exports.proofs.dwj_record.Goals as goal

pub returns-in-Phonon-clause-values : goal.returns-in-Phonon-clause-values
unfolding given_record
returns-in-Phonon-clause-values c = rw (← c.«record».ensures, c.in-Phonon.is) (search rules)
