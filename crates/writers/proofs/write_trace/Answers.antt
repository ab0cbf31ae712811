-- `writers::write_trace` meets its contract: the words handed on are the fields'.
-- The idea: a structure of those words is the kind's own, and computes to it.
use borrow.Author.Rules.{rules}
use Rattle.note.specs.Trace.{trace_bytes}
use Rattle.note.specs.Writers.{trace_draft}
use Rattle.stores.proofs.WriterLaws.{bytes_unasked}
use Rattle.stores.specs.Structures.{structured}
use Rattle.writers.proofs.write_trace.Goals as goal

pub returns : goal.returns
unfolding structured trace_draft trace_bytes
returns c = bytes_unasked _ (search rules) (λ z. search rules) c.write_record.ensures
