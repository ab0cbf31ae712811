-- `writers::write_charge` meets its contract: the words handed on are the fields'.
-- The idea: a structure of those words is the kind's own, and computes to it.
use borrow.Author.Rules.{rules}
use Rattle.note.specs.Charge.{charge_bytes}
use Rattle.note.specs.Writers.{charge_draft}
use Rattle.stores.proofs.WriterLaws.{bytes_unasked}
use Rattle.stores.proofs.StructureLaws.{structured_bare}
use Rattle.writers.proofs.write_charge.Goals as goal

pub returns : goal.returns
unfolding charge_draft charge_bytes
returns c = bytes_unasked _ (search rules) (λ z. search (rules, structured_bare)) c.write_entry.ensures
