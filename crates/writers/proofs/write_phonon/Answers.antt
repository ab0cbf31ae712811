-- `writers::write_phonon` meets its contract: the words handed on are the fields'.
-- The idea: a structure of those words is the kind's own, and computes to it.
use mathlib.Core.Path.{◌≡◌}
use mathlib.Core.List.{map}
use borrow.Author.Rules.{rules}
use Rattle.note.specs.Words.{unsigned}
use Rattle.note.specs.Phonon.{phonon_words, phonon_bytes}
use Rattle.note.specs.Writers.{phonon_draft}
use Rattle.stores.proofs.WriterLaws.{bytes_unasked}
use Rattle.stores.proofs.StructureLaws.{structured_bare}
use Rattle.writers.proofs.write_phonon.Goals as goal

pub returns : goal.returns
unfolding phonon_draft phonon_bytes
returns c =
    let ws : c.words_of-ws.result ≡ map unsigned (phonon_words c.args.fields) = search rules in
    bytes_unasked _ (search rules) (λ z. rw ws (structured_bare _ _ _)) c.write_entry.ensures
