-- Which record each row is: beside the rows of a file, in the same order, the record or entry of that row, and none for the header,
-- the configuration and the events. It joins the table, which has numbers, to the file, which has records.
use Rattle.std.specs.Prelude.{ℕ, List, [], ◌∷◌, ◌++◌, map}
use Rattle.std.proofs.Math.Option.{Option, some, none}
use Rattle.theory.specs.Tests.{Res, ok, bad}
use Rattle.note.specs.Records.{Record}
use Rattle.note.specs.Events.{Container}
use Rattle.note.specs.Files.{File, configuration_of, events_of}

-- FORMAT 7.3: a container's rows: itself, then what it holds.
abbrev pub container_records : Container → List (Option Record)
container_records c = none ∷ map some c.body

abbrev pub events_records : List Container → List (Option Record)
events_records [] = []
events_records (e ∷ es) = container_records e ++ events_records es

unfoldable pub row_records : File → List (Option Record)
row_records f = none ∷ (container_records (configuration_of f) ++ events_records (events_of f))

-- FORMAT 8.5: what Record finds at a row's first byte: the record; 5 where the row is none: Record knows no container's kind and no header's.
abbrev pub found_as : ℕ → Option Record → Res Record
found_as place none = bad 5 place
found_as place (some r) = ok r
