-- The file: a header, one configuration, events to the end. The header is two words and no structure: it has no length word. The order of a file's
-- words is part of what is read, and every definition that reads words is handed it; in this format it is little-endian.
use Rattle.std.specs.Prelude.{ℕ, ◌+◌, ◌*◌, ◌/◌, ◌%◌, List, ◌++◌, leb, eqb, length, drop}
use Rattle.theory.specs.declared.Order.{Order}
use Rattle.theory.specs.declared.Order.TheVariants.{Little}
use Rattle.theory.specs.Tests.{Res, ok, need, bind, unless}
use Rattle.theory.specs.Words.{put}
use Rattle.theory.specs.Structures.{read_structure}
use Rattle.note.specs.Limits.{file_limit}
use Rattle.note.specs.Words.{word}
use Rattle.note.specs.Faults.{too_large, too_short, not_a_file, wrong_format, wrong_kind}
use Rattle.note.specs.Records.{entry, read_records}
use Rattle.note.specs.Events.{Container, container_bytes, container_size, read_events, events_bytes}

-- FORMAT 6.4: the header: a first word that is always the same, or 3; a version word, with the two bytes of the DAQ version above, major first,
-- which may be anything, and the format below them, 2.0, or 4.
abbrev pub file_mark : ℕ
file_mark = 0x01020304

abbrev pub format : ℕ
format = 0x0200

abbrev pub version_word : ℕ → ℕ → ℕ
version_word major minor = major * 16777216 + minor * 65536 + format

abbrev pub daq_major_of : ℕ → ℕ
daq_major_of v = v / 16777216

abbrev pub daq_minor_of : ℕ → ℕ
daq_minor_of v = v / 65536 % 256

abbrev pub version_rule : ℕ → ℕ
version_rule v = unless (eqb (v % 65536) format) wrong_format

unfoldable pub read_header : Order → ℕ → List ℕ → Res ℕ
read_header o at bs =
    need (unless (leb 8 (length bs)) too_short) at (
    need (unless (eqb (word o 0 bs) file_mark) not_a_file) at (
    need (version_rule (word o 4 bs)) at (
    ok (word o 4 bs))))

abbrev pub header_bytes : Order → ℕ → List ℕ
header_bytes o v = put o 4 file_mark ++ put o 4 v

-- FORMAT 6.3: the configuration, behind the header: its kind word, or 5; its entries, of which there may be none.
abbrev pub configuration_word : ℕ
configuration_word = 0x00010000

abbrev pub configuration_rule : ℕ → ℕ
configuration_rule w = unless (eqb w configuration_word) wrong_kind

abbrev pub configuration_late : ℕ → ℕ → ℕ
configuration_late w n = 0

unfoldable pub read_configuration : Order → ℕ → List ℕ → Res Container
read_configuration o at bs = read_structure o too_short configuration_rule configuration_late (λ w at bs. read_records o entry (at + 8) bs) at bs

-- FORMAT 6.5: a file: the order of its words; the version word, the configuration, the events.
abbrev pub Parts : Type 0
Parts = ℕ × (Container × List Container)

abbrev pub File : Type 0
File = Order × Parts

abbrev pub order_in : File → Order
order_in f = f.0

abbrev pub version_of : File → ℕ
version_of f = f.1.0

abbrev pub configuration_of : File → Container
configuration_of f = f.1.1.0

abbrev pub events_of : File → List Container
events_of f = f.1.1.1

-- FORMAT 6.5: its bytes.
abbrev pub file_bytes : File → List ℕ
file_bytes f =
    header_bytes (order_in f) (version_of f)
    ++ (container_bytes (order_in f) (configuration_of f) ++ events_bytes (order_in f) (events_of f))

-- FORMAT 2.2, 6.5: header, configuration and events, each from where the one before it ends; the first that is refused is the file's refusal.
unfoldable pub read_parts : Order → List ℕ → Res Parts
read_parts o bs =
    bind (read_header o 0 bs) (λ v.
    bind (read_configuration o 8 (drop 8 bs)) (λ c.
    bind (read_events o (8 + container_size o c) (drop (8 + container_size o c) bs)) (λ es.
    ok (v, (c, es)))))

-- FORMAT 1.2: the order of the words in these bytes: always little-endian.
unfoldable pub order_of : List ℕ → Order
order_of bs = Little

-- FORMAT 1.1, 6.5: a file longer than the limit is 1 at 0, whatever stands in it.
unfoldable pub read_file : List ℕ → Res File
read_file bs = need (unless (leb (length bs) file_limit) too_large) 0 (bind (read_parts (order_of bs) bs) (λ p. ok (order_of bs, p)))
