-- One record or entry where it stands, and records one behind the other. There are three contexts, and they differ in what may stand there: a
-- configuration's entry; an event's record, with what came before it in mind; a record or entry that a call reads alone, of which it knows no
-- surroundings. One reader is handed the context, so that a record reads the same in all three.
use Rattle.std.specs.Prelude.{ℕ, Bool, true, false, not, cond, ◌&&◌, ◌||◌, List, [], ◌∷◌, map, eqb, length}
use Rattle.theory.specs.declared.Order.{Order}
use Rattle.theory.specs.Tests.{Res, ok, need, unless, among}
use Rattle.theory.specs.Structures.{Structure, read_structure, structure_bytes, structure_size, read_sequence, sequence_bytes}
use Rattle.note.specs.Faults.{too_short, wrong_kind, misplaced}
use Rattle.note.specs.Kinds.{Kind}
use Rattle.note.specs.Phonon.{phonon_kind}
use Rattle.note.specs.Charge.{charge_kind}
use Rattle.note.specs.Administrative.{administrative_kind}
use Rattle.note.specs.Trace.{trace_kind}
use Rattle.note.specs.History.{history_kind}
use Rattle.note.specs.Gps.{gps_kind}
use Rattle.note.specs.Trigger.{trigger_kind}
use Rattle.note.specs.Tlb.{tlb_kind}

-- FORMAT 6.1: the kind words of the two entries, 0x00010001 and 0x00010002, and of the six records, 0x02, 0x11, 0x21, 0x60, 0x80 and 0x81.
abbrev pub entry_kinds : List ℕ
entry_kinds = map (λ (k : Kind). k.word) (phonon_kind ∷ charge_kind ∷ [])

abbrev pub record_kinds : List ℕ
record_kinds = map (λ (k : Kind). k.word) (administrative_kind ∷ trace_kind ∷ history_kind ∷ gps_kind ∷ trigger_kind ∷ tlb_kind ∷ [])

-- FORMAT 6.1: what no kind word names. No structure of it is ever read.
abbrev pub unknown_kind : Kind
unknown_kind = record { word = 0; row = 0; rule = λ o b. wrong_kind; one = λ o b. 0; two = λ o b. 0; values = λ o place b. []; again = λ o b. [] }

-- FORMAT 6.1: the kind of a kind word.
unfoldable pub kind_of : ℕ → Kind
kind_of k =
    cond (eqb k phonon_kind.word) phonon_kind
    (cond (eqb k charge_kind.word) charge_kind
    (cond (eqb k administrative_kind.word) administrative_kind
    (cond (eqb k trace_kind.word) trace_kind
    (cond (eqb k history_kind.word) history_kind
    (cond (eqb k gps_kind.word) gps_kind
    (cond (eqb k trigger_kind.word) trigger_kind
    (cond (eqb k tlb_kind.word) tlb_kind
    unknown_kind)))))))

-- FORMAT 6.1: a record or an entry: its kind word and its body's bytes.
abbrev pub Record : Type 0
Record = Structure (List ℕ)

abbrev pub record_bytes : Order → Record → List ℕ
record_bytes o r = structure_bytes o (λ b. b) r

abbrev pub record_size : Record → ℕ
record_size r = structure_size (λ b. b) r

-- FORMAT 6.2: which kinds that occur at most once came before in an event.
pub record Seen : Type 0 where
  pub administrative : Bool
  pub history : Bool
  pub gps : Bool
  pub trigger : Bool
  pub tlb : Bool

abbrev pub unseen : Seen
unseen = record { administrative = false; history = false; gps = false; trigger = false; tlb = false }

-- FORMAT 6.1: where a record is read: as an entry of a configuration; in an event, after what came before; alone, where all that is lent is its
-- parent.
pub data Context : Type 0 where
  entry : Context
  event : Seen → Context
  alone : Context

-- FORMAT 6.1: the kinds that may stand there; another is 5.
unfoldable pub is_kind : Context → ℕ → Bool
is_kind entry k = among k entry_kinds
is_kind (event seen) k = among k record_kinds
is_kind alone k = among k entry_kinds || among k record_kinds

-- FORMAT 6.2: in an event the administrative record comes first, and no kind but trace comes a second time, or 9. In the other contexts any order
-- goes.
unfoldable pub is_placed : Seen → ℕ → Bool
is_placed seen k =
    cond (eqb k administrative_kind.word) (not seen.administrative)
    (seen.administrative &&
    cond (eqb k history_kind.word) (not seen.history)
    (cond (eqb k gps_kind.word) (not seen.gps)
    (cond (eqb k trigger_kind.word) (not seen.trigger)
    (cond (eqb k tlb_kind.word) (not seen.tlb)
    true))))

unfoldable pub is_allowed : Context → ℕ → Bool
is_allowed entry k = true
is_allowed (event seen) k = is_placed seen k
is_allowed alone k = true

-- FORMAT 6.2: what came before, with one record more.
unfoldable pub noted : Seen → ℕ → Seen
noted seen k = record {
  administrative = eqb k administrative_kind.word || seen.administrative;
  history = eqb k history_kind.word || seen.history;
  gps = eqb k gps_kind.word || seen.gps;
  trigger = eqb k trigger_kind.word || seen.trigger;
  tlb = eqb k tlb_kind.word || seen.tlb;
}

unfoldable pub behind : Context → ℕ → Context
behind entry k = entry
behind (event seen) k = event (noted seen k)
behind alone k = alone

-- FORMAT 6.1: a record's own tests among those of a structure (FORMAT 2.3): behind the room its kind, or 5; behind its length within the parent its
-- turn in the event, or 9; then its kind's rule, which asks for the length first.
abbrev pub record_head : Context → ℕ → ℕ
record_head c k = unless (is_kind c k) wrong_kind

abbrev pub record_late : Context → ℕ → ℕ → ℕ
record_late c k n = unless (is_allowed c k) misplaced

abbrev pub record_rule : Order → ℕ → List ℕ → ℕ
record_rule o k b = (kind_of k).rule o b

unfoldable pub read_record : Order → Context → ℕ → List ℕ → Res Record
read_record o c at bs = read_structure o too_short (record_head c) (record_late c) (λ k at b. need (record_rule o k b) at (ok b)) at bs

-- FORMAT 6.1: records one behind the other up to the end of bs.
abbrev pub next_context : Context → Record → Context
next_context c r = behind c r.word

unfoldable pub read_records : Order → Context → ℕ → List ℕ → Res (List Record)
read_records o c at bs = read_sequence next_context record_size (read_record o) (length bs) c at bs

abbrev pub records_bytes : Order → List Record → List ℕ
records_bytes o rs = sequence_bytes (record_bytes o) rs
