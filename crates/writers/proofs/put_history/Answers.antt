-- `writers::put_history` meets its contract: kind and length, the veto section and the trigger section are stored in a row.
-- The idea: stores in a row are one store of the history's bytes.
use native.Mathlib.Omega.{arith}
use Rattle.note.specs.Writers.{history_handed}
use Rattle.writers.proofs.HistoryLaws.{history-stored}
use Rattle.writers.proofs.put_history.Goals as goal

pub returns : goal.returns
returns c =
    let first = rw c.into.ensures at c.put_words.ensures in
    let third = rw c.section_size-veto.ensures at c.put_section-2.ensures in
    history-stored _ (history_handed c.args.fields) c.args.part.now _ (omega arith) first c.put_section.ensures third
