-- `stores::put_words` meets its contract: after i turns the first i words are stored.
-- The idea: a turn stores one word more.
use Rattle.std.proofs.Common.{◌≡◌, take}
use Rattle.std.proofs.lemmas.List.Edits.{sets}
use Rattle.note.specs.Words.{words}
use Rattle.stores.proofs.put_words.Given as goal

abbrev pub invariant-loop-i : goal.invariant-loop-i
invariant-loop-i l = l.out ≡ sets l.initial.out l.at (words l.order (take l.i l.ws))
