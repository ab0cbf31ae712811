-- The calls that ask for one thing. Record, Setting, Samples and a sample by number start from what is read at the place asked as if nothing stood
-- around it, Find from the whole file. Each definition takes what was read, and says what is given for it.
use Rattle.std.specs.Prelude.{ℕ, ◌+◌, ◌-◌, Bool, cond, ◌&&◌, List, [], ◌∷◌, ◌++◌, leb, eqb, Float, ℤ, pos, length, take, drop}
use Rattle.std.specs.Float.{binary64}
use Rattle.std.specs.Float.Ieee.{div, of_int}
use Rattle.theory.specs.declared.Order.{Order}
use Rattle.theory.specs.Tests.{Res, ok, bad, need, unless}
use Rattle.note.specs.Faults.{too_large, wrong_kind, wrong_count}
use Rattle.note.specs.Limits.{file_limit}
use Rattle.note.specs.Answers.{Value, whole, float, Given, accepted, refused, count, counts, wholes}
use Rattle.note.specs.declared.Phonon.{Phonon}
use Rattle.note.specs.Phonon.{phonon_kind, phonon_of}
use Rattle.note.specs.declared.Charge.{Charge}
use Rattle.note.specs.Charge.{charge_kind, charge_of}
use Rattle.note.specs.Administrative.{administrative_of}
use Rattle.note.specs.Trace.{trace_kind, trace_of, sample_in}
use Rattle.note.specs.Records.{Record, record_size, alone, read_record, kind_of}
use Rattle.note.specs.Events.{Container, container_size}
use Rattle.note.specs.Files.{File, order_in, configuration_of, events_of, read_file}

-- FORMAT 8.5: what is read at a place: its parent is all that is lent, and nothing is asked that only an event asks. Over the limit 1 at 0; past
-- the end there are no bytes, so 2 at that very place.
unfoldable pub record_found : Order → List ℕ → ℕ → Res Record
record_found o bs place = need (unless (leb (length bs) file_limit) too_large) 0 (read_record o alone place (drop place bs))

-- FORMAT 8.5: Record's answer: the row kind and the kind's values; or the refusal.
abbrev pub record_given : Order → ℕ → Res Record → Given
record_given o place (bad c p) = refused c p
record_given o place (ok r) = accepted (count (kind_of r.word).row ∷ (kind_of r.word).values o place r.body)

unfoldable pub record_at : Order → List ℕ → ℕ → Given
record_at o bs place = record_given o place (record_found o bs place)

-- FORMAT 8.6: a word stored times 100 in working units: the quotient by 100 as a 64-bit float, with a single rounding.
unfoldable pub hundredth : ℤ → Float
hundredth z = div binary64 (of_int binary64 z) (of_int binary64 (pos 100))

-- FORMAT 8.6: an entry's words in working units: of a phonon entry gain, both biases and lockpoint, of a charge entry the gain; any other word
-- stays the whole number that it was.
unfoldable pub phonon_setting : Phonon → List Value
phonon_setting f =
    whole f.code ∷ whole f.tower ∷
    float (hundredth f.gain) ∷ float (hundredth f.qet_bias) ∷ float (hundredth f.squid_bias) ∷ float (hundredth f.lockpoint) ∷
    wholes (f.rtf_offset ∷ f.variable_gain ∷ f.delta_t ∷ f.t0 ∷ f.trace_length ∷ [])

unfoldable pub charge_setting : Charge → List Value
charge_setting f =
    whole f.code ∷ whole f.tower ∷
    float (hundredth f.gain) ∷
    wholes (f.bias ∷ f.rtf_offset ∷ f.delta_t ∷ f.t0 ∷ f.trace_length ∷ [])

-- FORMAT 8.6: Setting's answer: after Record's refusals 5, at the place, for a record of an event.
abbrev pub setting_given : Order → ℕ → Res Record → Given
setting_given o place (bad c p) = refused c p
setting_given o place (ok r) =
    cond (eqb r.word phonon_kind.word) (accepted (count phonon_kind.row ∷ phonon_setting (phonon_of o r.body)))
    (cond (eqb r.word charge_kind.word) (accepted (count charge_kind.row ∷ charge_setting (charge_of o r.body)))
    (refused wrong_kind place))

unfoldable pub setting_at : Order → List ℕ → ℕ → Given
setting_at o bs place = setting_given o place (record_found o bs place)

-- FORMAT 8.7: a trace, among records.
abbrev pub is_trace : Record → Bool
is_trace r = eqb r.word trace_kind.word

-- FORMAT 8.7: where the samples of a trace found at the place start in the lent bytes, and how many bytes they are; none where no trace is found.
-- Then those bytes.
abbrev pub part_given : ℕ → Res Record → ℕ × ℕ
part_given place (bad c p) = (0, 0)
part_given place (ok r) = cond (is_trace r) (place + 56, length r.body - 48) (0, 0)

unfoldable pub samples_part : Order → List ℕ → ℕ → ℕ × ℕ
samples_part o bs place = part_given place (record_found o bs place)

unfoldable pub samples_at : Order → List ℕ → ℕ → List ℕ
samples_at o bs place = take (samples_part o bs place).1 (drop (samples_part o bs place).0 bs)

-- FORMAT 8.7: sample k, from 1: after Record's refusals, at the place, 5 for what is no trace and 11 for a k that isn't 1 to n.
abbrev pub sample_given : Order → ℕ → ℕ → Res Record → Given
sample_given o place k (bad c p) = refused c p
sample_given o place k (ok r) =
    cond (is_trace r)
    (cond (leb 1 k && leb k (trace_of o r.body).n)
    (accepted (counts (sample_in o (trace_of o r.body).samples k ∷ [])))
    (refused wrong_count place))
    (refused wrong_kind place)

unfoldable pub sample_at : Order → List ℕ → ℕ → ℕ → Given
sample_at o bs place k = sample_given o place k (record_found o bs place)

-- FORMAT 8.8: a trace of a file: the number that its event carries, its code, its place.
pub record TraceAt : Type 0 where
  pub number : ℕ
  pub code : ℕ
  pub place : ℕ

-- FORMAT 8.8: one more in front of the others, or not.
abbrev pub kept_if : Bool → TraceAt → List TraceAt → List TraceAt
kept_if keep t ts = cond keep (t ∷ ts) ts

-- FORMAT 8.8: the traces among an event's records from the place `at` on; among events; of a file. An event carries the number of its
-- administrative record, which is its first.
unfoldable pub traces_in : Order → ℕ → ℕ → List Record → List TraceAt
traces_in o number at [] = []
traces_in o number at (r ∷ rs) =
    kept_if (is_trace r) (record { number = number; code = (trace_of o r.body).code; place = at }) (traces_in o number (at + record_size r) rs)

abbrev pub event_number : Order → List Record → ℕ
event_number o [] = 0
event_number o (r ∷ rs) = (administrative_of o r.body).number

unfoldable pub traces_from : Order → ℕ → List Container → List TraceAt
traces_from o at [] = []
traces_from o at (e ∷ es) = traces_in o (event_number o e.body) (at + 8) e.body ++ traces_from o (at + container_size o e) es

unfoldable pub traces_of : File → List TraceAt
traces_of f = traces_from (order_in f) (8 + container_size (order_in f) (configuration_of f)) (events_of f)

-- FORMAT 8.8: Find: of the file's traces, in order, the place of the first with that number and that code; no value where there is none. A file
-- that is refused gives its refusal.
abbrev pub matches : ℕ → ℕ → TraceAt → Bool
matches number code t = eqb t.number number && eqb t.code code

unfoldable pub first_match : ℕ → ℕ → List TraceAt → List ℕ
first_match number code [] = []
first_match number code (t ∷ ts) = cond (matches number code t) (t.place ∷ []) (first_match number code ts)

abbrev pub find_given : ℕ → ℕ → Res File → Given
find_given number code (bad c p) = refused c p
find_given number code (ok f) = accepted (counts (first_match number code (traces_of f)))

unfoldable pub find_at : List ℕ → ℕ → ℕ → Given
find_at bs number code = find_given number code (read_file bs)
