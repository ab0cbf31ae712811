-- An event: a first word that tells its class, category and type, a length word, and records. What its records must be is asked while they are read
-- (Records), so here are the first word and the one rule that is the event's own: it isn't empty. A configuration has the same form, and so
-- containers of both sorts are defined here.
use Rattle.std.specs.Prelude.{ℕ, ◌+◌, ◌*◌, ◌/◌, ◌%◌, not, List, [], ◌∷◌, leb, eqb}
use Rattle.theory.specs.declared.Order.{Order}
use Rattle.theory.specs.Tests.{Res, unless, first, among}
use Rattle.theory.specs.Structures.{Structure, read_structure, structure_bytes, structure_size, read_each, sequence_bytes}
use Rattle.note.specs.Faults.{too_short, wrong_kind, not_admitted, monitoring, misplaced}
use Rattle.note.specs.Records.{Record, event, unseen, read_records, records_bytes}

-- FORMAT 6.2, 6.3: a container: its first word, and the records or entries that fill it.
abbrev pub Container : Type 0
Container = Structure (List Record)

abbrev pub container_bytes : Order → Container → List ℕ
container_bytes o c = structure_bytes o (records_bytes o) c

abbrev pub container_size : Order → Container → ℕ
container_size o c = structure_size (records_bytes o) c

-- FORMAT 6.2: the first word: the mark in its upper half; below it four bits of class, four of category, eight of type.
abbrev pub event_mark : ℕ
event_mark = 0xA980

abbrev pub class_of : ℕ → ℕ
class_of w = w / 4096 % 16

abbrev pub category_of : ℕ → ℕ
category_of w = w / 256 % 16

abbrev pub event_type_of : ℕ → ℕ
event_type_of w = w % 256

abbrev pub event_word : ℕ → ℕ → ℕ → ℕ
event_word class category type = event_mark * 65536 + class * 4096 + category * 256 + type

-- FORMAT 6.2: two classes, three categories and the types up to 0xA are admitted, any other is 7; then type 7, which is monitoring, is 8.
unfoldable pub event_fault : ℕ → ℕ → ℕ → ℕ
event_fault class category type = first (
    unless (among class (0 ∷ 2 ∷ [])) not_admitted ∷
    unless (among category (0 ∷ 1 ∷ 6 ∷ [])) not_admitted ∷
    unless (leb type 0xA) not_admitted ∷
    unless (not (eqb type 7)) monitoring ∷ [])

unfoldable pub event_word_rule : ℕ → ℕ
event_word_rule w = first (unless (eqb (w / 65536) event_mark) wrong_kind ∷ event_fault (class_of w) (category_of w) (event_type_of w) ∷ [])

-- FORMAT 6.2: an event whose length is 0 is 9, and at fault itself.
abbrev pub event_late : ℕ → ℕ → ℕ
event_late w n = unless (leb 1 n) misplaced

unfoldable pub read_event : Order → ℕ → List ℕ → Res Container
read_event o at bs = read_structure o too_short event_word_rule event_late (λ w at bs. read_records o (event unseen) (at + 8) bs) at bs

-- FORMAT 6.5: events one behind the other, none or more, to the end.
unfoldable pub read_events : Order → ℕ → List ℕ → Res (List Container)
read_events o at bs = read_each (container_size o) (read_event o) at bs

abbrev pub events_bytes : Order → List Container → List ℕ
events_bytes o es = sequence_bytes (container_bytes o) es
