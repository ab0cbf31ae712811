-- `writers::put_section` meets its contract: count, times, width and masks are stored in a row.
-- The idea: stores in a row are one store of the section's bytes.
use Rattle.note.specs.Writers.{section_handed}
use Rattle.writers.proofs.HistoryLaws.{section_stored}
use Rattle.writers.proofs.put_section.Goals as goal

pub returns : goal.returns
returns c =
    let a = c.args in
    section_stored _ a.part.now a.at (section_handed a.section) c.put_words.ensures c.put_part.ensures c.put_words-2.ensures c.put_part-2.ensures
