-- A record's writer: its answer, and the output afterwards, as one statement for the contracts of all eight.
use Rattle.std.specs.Prelude.{ℕ, ◌≡◌, List, Result}
use Rattle.note.specs.declared.Refusal.{Refusal}
use Rattle.note.specs.declared.Numbered.{Numbered}
use Rattle.note.specs.Faults.{res_of, numbered_in}
use Rattle.note.specs.Writers.{Draft, record_next, record_output}

-- FORMAT 9.1: from a place of the output `out`, the fields w were written: the answer is the definition's, and so is the output after it.
abbrev pub WriterDid : List ℕ → ℕ → Draft → Result ℕ Refusal → List ℕ → Type 0
WriterDid out place w answer after = (res_of answer ≡ record_next out place w) × (after ≡ record_output out place w)

-- FORMAT 9.1: the same of a call that is handed any number for a fault, and any kind word.
abbrev pub NumberedDid : List ℕ → ℕ → Draft → Result ℕ Numbered → List ℕ → Type 0
NumberedDid out place w answer after = (numbered_in answer ≡ record_next out place w) × (after ≡ record_output out place w)
