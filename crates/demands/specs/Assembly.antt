-- A whole file made in one output by the writers: header, entries, closing, then for each event records and closing, each call from the place that
-- the call before it answered. What is handed over is a tree of pieces; what is asked of it is split by who asks: the caller's types (Fits), the
-- writers (Faultless), the closings (Placed). So the theorem can say exactly when the calls succeed, and what then stands in the output.
use Rattle.std.specs.Prelude.{ℕ, ◌+◌, ◌≤◌, ◌<◌, ◌≡◌, true, List, [], ◌∷◌, map, length, take, drop}
use Rattle.theory.specs.declared.Order.{Order}
use Rattle.theory.specs.Tests.{Res, ok, bind}
use Rattle.note.specs.Records.{Context, entry, event, unseen, is_kind, is_allowed, behind}
use Rattle.note.specs.Events.{Container, event_word, event_fault}
use Rattle.note.specs.Files.{File, version_word, configuration_word, read_file}
use Rattle.note.specs.Writers.{record_next, record_output, header_next, header_output}
use Rattle.note.specs.Writers.{configuration_closed, configuration_output, event_closed, event_output}
use Rattle.demands.specs.Pieces.{Piece, draft_of, record_of, PieceFits}

-- ---- the pieces

-- FORMAT 9.4: what makes an event: the three numbers that its closing takes, and its records.
pub record EventPieces : Type 0 where
  pub class : ℕ
  pub category : ℕ
  pub type : ℕ
  pub records : List Piece

-- FORMAT 9.3: what makes a file: the two bytes that the header's writer takes; the configuration's entries; the events.
pub record FilePieces : Type 0 where
  pub major : ℕ
  pub minor : ℕ
  pub entries : List Piece
  pub events : List EventPieces

-- What a caller's types say of them.
abbrev pub AllFitting : List Piece → Type 0
AllFitting [] = Unit {0}
AllFitting (p ∷ ps) = PieceFits p × AllFitting ps

abbrev pub EventsFitting : List EventPieces → Type 0
EventsFitting [] = Unit {0}
EventsFitting (e ∷ es) = AllFitting e.records × EventsFitting es

pub record FileFits (f : FilePieces) : Type 0 where
  pub major : f.major < 256
  pub minor : f.minor < 256
  pub entries : AllFitting f.entries
  pub events : EventsFitting f.events

-- FORMAT 9.1: what the writers ask: the fields of each piece are without fault, and so are an event's class, category and type. The tree's words
-- alone don't say so: a number may be larger than its bits.
abbrev pub AllFaultless : Order → List Piece → Type 0
AllFaultless o [] = Unit {0}
AllFaultless o (p ∷ ps) = ((draft_of o p).fault ≡ 0) × AllFaultless o ps

pub record EventFaultless (o : Order) (e : EventPieces) : Type 0 where
  pub word : event_fault e.class e.category e.type ≡ 0
  pub records : AllFaultless o e.records

abbrev pub EventsFaultless : Order → List EventPieces → Type 0
EventsFaultless o [] = Unit {0}
EventsFaultless o (e ∷ es) = EventFaultless o e × EventsFaultless o es

pub record FileFaultless (o : Order) (f : FilePieces) : Type 0 where
  pub entries : AllFaultless o f.entries
  pub events : EventsFaultless o f.events

-- FORMAT 9.4: what the closings ask beyond the fields: each kind is one of this container's and stands where it may, and no event is empty.
abbrev pub AllPlaced : Order → Context → List Piece → Type 0
AllPlaced o c [] = Unit {0}
AllPlaced o c (p ∷ ps) =
    (is_kind c (record_of o p).word ≡ true) × (is_allowed c (record_of o p).word ≡ true) × AllPlaced o (behind c (record_of o p).word) ps

pub record EventPlaced (o : Order) (e : EventPieces) : Type 0 where
  pub some : 1 ≤ length e.records
  pub records : AllPlaced o (event unseen) e.records

abbrev pub EventsPlaced : Order → List EventPieces → Type 0
EventsPlaced o [] = Unit {0}
EventsPlaced o (e ∷ es) = EventPlaced o e × EventsPlaced o es

pub record FilePlaced (o : Order) (f : FilePieces) : Type 0 where
  pub entries : AllPlaced o entry f.entries
  pub events : EventsPlaced o f.events

-- The tree that they make.
abbrev pub container_of : Order → ℕ → List Piece → Container
container_of o word ps = record { word = word; body = map (record_of o) ps }

abbrev pub event_of : Order → EventPieces → Container
event_of o e = container_of o (event_word e.class e.category e.type) e.records

unfoldable pub file_of : Order → FilePieces → File
file_of o f = (o, (version_word f.major f.minor, (container_of o configuration_word f.entries, map (event_of o) f.events)))

-- ---- the calls in their order

-- Where the calls so far have come to: the next place, and the output.
pub record Built : Type 0 where
  pub next : ℕ
  pub out : List ℕ

-- Records one after the other; the first refusal ends it.
unfoldable pub records_assembled : Order → Built → List Piece → Res Built
records_assembled o b [] = ok b
records_assembled o b (p ∷ ps) =
    bind (record_next b.out b.next (draft_of o p)) (λ next.
    records_assembled o (record { next = next; out = record_output b.out b.next (draft_of o p) }) ps)

-- FORMAT 9.4: eight bytes are left free, the contents follow, and then the closing, with its answer and its output.
unfoldable pub container_assembled : Order → (List ℕ → ℕ → ℕ → Res ℕ) → (List ℕ → ℕ → ℕ → List ℕ)
    → Built → List Piece → Res Built
container_assembled o closed output b ps =
    bind (records_assembled o (record { next = b.next + 8; out = b.out }) ps) (λ filled.
    bind (closed filled.out b.next filled.next) (λ next.
    ok (record { next = next; out = output filled.out b.next filled.next })))

abbrev pub configuration_assembled : Order → Built → List Piece → Res Built
configuration_assembled o = container_assembled o (configuration_closed o) (configuration_output o)

abbrev pub event_assembled : Order → Built → EventPieces → Res Built
event_assembled o b e =
    container_assembled o
    (λ out place end. event_closed o out place end e.class e.category e.type)
    (λ out place end. event_output o out place end e.class e.category e.type) b e.records

unfoldable pub events_assembled : Order → Built → List EventPieces → Res Built
events_assembled o b [] = ok b
events_assembled o b (e ∷ es) = bind (event_assembled o b e) (λ after. events_assembled o after es)

-- FORMAT 9.3: the header at byte 0; the configuration; the events.
unfoldable pub file_assembled : Order → List ℕ → FilePieces → Res Built
file_assembled o out f =
    bind (header_next out) (λ next.
    bind (configuration_assembled o (record { next = next; out = header_output o out f.major f.minor }) f.entries) (λ b.
    events_assembled o b f.events))

-- ---- what then stands in the output

-- The bytes from byte 0 up to the last next place are accepted as the file of the pieces, and so with its rows; the rest of the output
-- stays.
pub record Assembled (o : Order) (out : List ℕ) (f : FilePieces) (b : Built) : Type 0 where
  pub accepted : read_file (take b.next b.out) ≡ ok (file_of o f)
  pub whole : length (take b.next b.out) ≡ b.next
  pub behind : drop b.next b.out ≡ drop b.next out
  pub size : length b.out ≡ length out
