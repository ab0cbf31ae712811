-- `writers::write_administrative` meets its contract: the words handed on are the fields'.
-- The idea: a structure of those words is the kind's own, and computes to it.
use borrow.Author.Rules.{rules}
use Rattle.note.specs.Administrative.{administrative_bytes}
use Rattle.note.specs.Writers.{administrative_draft}
use Rattle.writers.proofs.Drafts.{bare}
use Rattle.writers.proofs.write_administrative.Goals as goal

pub returns : goal.returns
unfolding administrative_draft administrative_bytes
returns c = search (rules, bare)
