-- A word that names no kind for the code names none for the note.
use Rattle.std.proofs.Common.{◌≡◌, ℕ, false, arith}
use Rattle.std.proofs.lemmas.Grind.{common_steps}
use Rattle.note.specs.Records.{unknown_kind, alone, is_kind, kind_of}

pub unnamed : (k : ℕ) → is_kind alone k ≡ false → kind_of k ≡ unknown_kind
unfolding is_kind kind_of
unnamed k h = grind (arith, common_steps)
