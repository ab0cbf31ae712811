-- What the code answers of the note's readers: how many records, a container's word, length and count, how many rows. The code keeps no tree, so
-- what it has in hand after reading is measures of one.
use Rattle.std.specs.Prelude.{ℕ, ◌+◌, List, [], ◌∷◌, length}
use Rattle.theory.specs.declared.Order.{Order}
use Rattle.theory.specs.Tests.{Res, ok, bad}
use Rattle.note.specs.Records.{Record, records_bytes, Context, entry, event, unseen}
use Rattle.note.specs.Events.{event_word_rule, read_event}
use Rattle.note.specs.Events as Note
use Rattle.note.specs.Files.{Parts, File, configuration_rule, read_configuration}
use Rattle.containers.specs.declared.Container.{Container}
use Rattle.containers.specs.declared.Container.TheVariants.{Configuration, Event}
use Rattle.containers.specs.declared.Holding.{Holding}

-- FORMAT 6.2, 6.3: what differs between the two containers: what the first word must be, the fewest bytes of the contents, where the records are
-- read; and so the reader.
abbrev pub container_rule : Container → ℕ → ℕ
container_rule Configuration = configuration_rule
container_rule Event = event_word_rule

abbrev pub least_of : Container → ℕ
least_of Configuration = 0
least_of Event = 1

abbrev pub context_in : Container → Context
context_in Configuration = entry
context_in Event = event unseen

abbrev pub read_container : Container → Order → ℕ → List ℕ → Res Note.Container
read_container Configuration = read_configuration
read_container Event = read_event

-- What was read, measured in records or in rows; or the refusal.
unfoldable pub count_of : {A : Type 0} → (A → ℕ) → Res A → Res ℕ
count_of size (ok x) = ok (size x)
count_of size (bad c p) = bad c p

abbrev pub record_count : Res (List Record) → Res ℕ
record_count = count_of length

unfoldable pub container_step : Order → Res Note.Container → Res Holding
container_step o (ok c) = ok (record { word = c.word; length = length (records_bytes o c.body); count = length c.body })
container_step o (bad c p) = bad c p

-- FORMAT 7.3: the rows of events: each its own and one for each record.
abbrev pub rows_of_events : List Note.Container → ℕ
rows_of_events [] = 0
rows_of_events (e ∷ es) = 1 + length e.body + rows_of_events es

abbrev pub event_rows : Res (List Note.Container) → Res ℕ
event_rows = count_of rows_of_events

-- FORMAT 7.3: the rows of a file: the header's, the configuration's and its entries', the events'.
abbrev pub rows_of_parts : Parts → ℕ
rows_of_parts p = 2 + length p.1.0.body + rows_of_events p.1.1

abbrev pub part_rows : Res Parts → Res ℕ
part_rows = count_of rows_of_parts

abbrev pub rows_of_file : File → ℕ
rows_of_file f = rows_of_parts f.1

abbrev pub file_rows : Res File → Res ℕ
file_rows = count_of rows_of_file
