-- The writers of records and entries, the header's, the closings and Rewrite: of each its answer, and the output afterwards, for every input. The
-- output is defined by the answer: the bytes stand there where it is a next place, and nothing has changed where it is a refusal.
use Rattle.std.specs.Prelude.{ℕ, ◌+◌, ◌-◌, List, [], ◌∷◌, ◌++◌, map, leb, length, take, drop}
use Rattle.theory.specs.declared.Order.{Order}
use Rattle.theory.specs.Tests.{Res, ok, bad, need, bind, unless}
use Rattle.theory.specs.Structures.{structure_bytes, sequence_bytes}
use Rattle.note.specs.Faults.{too_large, no_room}
use Rattle.note.specs.Limits.{file_limit}
use Rattle.note.specs.Words.{words, unsigned}
use Rattle.note.specs.Answers.{Given, accepted, refused, counts}
use Rattle.note.specs.Kinds.{Kind}
use Rattle.note.specs.declared.Phonon.{Phonon}
use Rattle.note.specs.Phonon.{phonon_kind, phonon_bytes, phonon_fault}
use Rattle.note.specs.declared.Charge.{Charge}
use Rattle.note.specs.Charge.{charge_kind, charge_bytes, charge_fault}
use Rattle.note.specs.declared.Administrative.{Administrative}
use Rattle.note.specs.Administrative.{administrative_kind, administrative_bytes, administrative_fault}
use Rattle.note.specs.declared.Trace as LentTrace
use Rattle.note.specs.declared.Section as LentSection
use Rattle.note.specs.declared.History as LentHistory
use Rattle.note.specs.Trace.{Trace, trace_kind, trace_bytes, trace_fault}
use Rattle.note.specs.History.{History, Section, history_kind, history_bytes, history_fault}
use Rattle.note.specs.declared.Gps.{Gps}
use Rattle.note.specs.Gps.{gps_kind, gps_bytes, gps_fault}
use Rattle.note.specs.declared.Trigger.{Trigger}
use Rattle.note.specs.Trigger.{trigger_kind, trigger_bytes}
use Rattle.note.specs.declared.Tlb.{Tlb}
use Rattle.note.specs.Tlb.{tlb_kind, tlb_bytes, tlb_fault}
use Rattle.note.specs.Records.{Record, record_bytes, records_bytes, entry, event, unseen, read_records, kind_of}
use Rattle.note.specs.Events.{Container, event_fault, event_word, event_late}
use Rattle.note.specs.Files.{File, order_in, version_of, configuration_of, events_of, configuration_word, header_bytes, version_word, read_file}

-- ---- what every writer answers, and what it leaves

-- FORMAT 9.1: a writer of `size` bytes from the place on, over an output of n bytes: 1 at 0 over the limit; the fields' fault; 13 where they don't
-- fit; both at the place. Else the next place.
abbrev pub limited : ℕ → Res ℕ → Res ℕ
limited n r = need (unless (leb n file_limit) too_large) 0 r

unfoldable pub writer_next : ℕ → ℕ → ℕ → ℕ → Res ℕ
writer_next n place fault size =
    limited n (
    need fault place (
    need (unless (leb (place + size) n) no_room) place (
    ok (place + size))))

-- FORMAT 9.1: the answer, as a number and values.
unfoldable pub writer_given : Res ℕ → Given
writer_given (ok next) = accepted (counts (next ∷ []))
writer_given (bad c p) = refused c p

-- FORMAT 9.1: the output afterwards: the bytes from the place on, around them what stood there. A refusal changes no byte.
unfoldable pub output_after : Res ℕ → List ℕ → ℕ → List ℕ → List ℕ
output_after (ok next) out place bytes = take place out ++ (bytes ++ drop (place + length bytes) out)
output_after (bad c p) out place bytes = out

-- ---- the eight record and entry writers

-- FORMAT 9.2: the fields that hold bytes, as a caller hands them over.
abbrev pub trace_handed : LentTrace.Trace → Trace
trace_handed f = record {
  address = f.address;
  channel = f.channel;
  code = f.code;
  t0 = f.t0;
  delta = f.delta_t;
  n = f.n;
  samples = f.samples.now;
}

abbrev pub section_handed : LentSection.Section → Section
section_handed s = record { count = s.count; times = s.times.now; width = s.width; masks = s.masks.now }

abbrev pub history_handed : LentHistory.History → History
history_handed h = record { veto = section_handed h.veto; trigger = section_handed h.trigger }

-- FORMAT 9.2: a kind's structure around its body.
abbrev pub wrapped : Order → Kind → List ℕ → List ℕ
wrapped o k body = record_bytes o (record { word = k.word; body = body })

-- FORMAT 9.2: a writer of fields: their first fault, and the bytes of the whole record.
pub record Draft : Type 0 where
  pub fault : ℕ
  pub bytes : List ℕ

unfoldable pub phonon_draft : Order → Phonon → Draft
phonon_draft o f = record { fault = phonon_fault (unsigned f.code); bytes = wrapped o phonon_kind (phonon_bytes o f) }

unfoldable pub charge_draft : Order → Charge → Draft
charge_draft o f = record { fault = charge_fault (unsigned f.code); bytes = wrapped o charge_kind (charge_bytes o f) }

unfoldable pub administrative_draft : Order → Administrative → Draft
administrative_draft o f =
    record { fault = administrative_fault f.date f.clock; bytes = wrapped o administrative_kind (administrative_bytes o f) }

unfoldable pub trace_draft : Order → Trace → Draft
trace_draft o f = record { fault = trace_fault f; bytes = wrapped o trace_kind (trace_bytes o f) }

unfoldable pub history_draft : Order → History → Draft
history_draft o f = record { fault = history_fault f; bytes = wrapped o history_kind (history_bytes o f) }

unfoldable pub gps_draft : Order → Gps → Draft
gps_draft o f = record { fault = gps_fault f; bytes = wrapped o gps_kind (gps_bytes o f) }

unfoldable pub trigger_draft : Order → Trigger → Draft
trigger_draft o f = record { fault = 0; bytes = wrapped o trigger_kind (trigger_bytes o f) }

unfoldable pub tlb_draft : Order → Tlb → Draft
tlb_draft o f = record { fault = tlb_fault f; bytes = wrapped o tlb_kind (tlb_bytes o f) }

-- FORMAT 9.2: a record's or an entry's writer, from any place of any output: what it answers, and what it leaves.
unfoldable pub record_next : List ℕ → ℕ → Draft → Res ℕ
record_next out place w = writer_next (length out) place w.fault (length w.bytes)

unfoldable pub record_output : List ℕ → ℕ → Draft → List ℕ
record_output out place w = output_after (record_next out place w) out place w.bytes

-- ---- the header

-- FORMAT 9.3: the header's writer, always at byte 0: its two DAQ bytes may be anything, so it refuses with 1 or 13 alone.
unfoldable pub header_next : List ℕ → Res ℕ
header_next out = writer_next (length out) 0 0 8

unfoldable pub header_output : Order → List ℕ → ℕ → ℕ → List ℕ
header_output o out major minor = output_after (header_next out) out 0 (header_bytes o (version_word major minor))

-- ---- the closings

-- FORMAT 9.4: a closing over contents that stand from eight bytes behind the place to the end. The tests: 1; 13, where place and end don't lie in
-- the output with eight bytes between them; an event's three numbers, and 9 where it has no contents; then the contents, by the rules of reading.
-- The answer is the end.
abbrev pub contents_of : List ℕ → ℕ → ℕ → List ℕ
contents_of out place end = take (end - (place + 8)) (drop (place + 8) out)

abbrev pub end_given : ℕ → Res (List Record) → Res ℕ
end_given end r = bind r (λ rs. ok end)

abbrev pub within : ℕ → ℕ → ℕ → Res ℕ → Res ℕ
within n place end r =
    limited n (
    need (unless (leb place n) no_room) place (
    need (unless (leb end n) no_room) place (
    need (unless (leb (place + 8) end) no_room) place r)))

unfoldable pub configuration_closed : Order → List ℕ → ℕ → ℕ → Res ℕ
configuration_closed o out place end =
    within (length out) place end (
    end_given end (read_records o entry (place + 8) (contents_of out place end)))

unfoldable pub event_closed : Order → List ℕ → ℕ → ℕ → ℕ → ℕ → ℕ → Res ℕ
event_closed o out place end class category type =
    within (length out) place end (
    need (event_fault class category type) place (
    need (event_late (event_word class category type) (end - (place + 8))) place (
    end_given end (read_records o (event unseen) (place + 8) (contents_of out place end)))))

-- FORMAT 9.4: what a closing writes: the container's two words, and no byte of its contents.
abbrev pub closing_bytes : Order → ℕ → ℕ → ℕ → List ℕ
closing_bytes o w place end = words o (w ∷ (end - (place + 8)) ∷ [])

unfoldable pub configuration_output : Order → List ℕ → ℕ → ℕ → List ℕ
configuration_output o out place end = output_after (configuration_closed o out place end) out place (closing_bytes o configuration_word place end)

unfoldable pub event_output : Order → List ℕ → ℕ → ℕ → ℕ → ℕ → ℕ → List ℕ
event_output o out place end class category type =
    output_after (event_closed o out place end class category type) out place (closing_bytes o (event_word class category type) place end)

-- ---- Rewrite

-- FORMAT 9.5: the file that Rewrite writes: each record's body made again from its fields, the rest around them as it was.
unfoldable pub record_again : Order → Record → Record
record_again o r = record { word = r.word; body = (kind_of r.word).again o r.body }

abbrev pub container_again : Order → Container → Container
container_again o c = record { word = c.word; body = map (record_again o) c.body }

abbrev pub container_rewritten : Order → Container → List ℕ
container_rewritten o c = structure_bytes o (records_bytes o) (container_again o c)

unfoldable pub file_rewritten : File → List ℕ
file_rewritten f =
    header_bytes (order_in f) (version_of f)
    ++ (container_rewritten (order_in f) (configuration_of f) ++ sequence_bytes (container_rewritten (order_in f)) (events_of f))

-- FORMAT 9.5: Rewrite's answer: 1 at 0 for the output over the limit; the file's refusal; 13 at 0 for too little room; else the length written.
unfoldable pub rewrite_next : List ℕ → List ℕ → Res ℕ
rewrite_next bs out =
    limited (length out) (
    bind (read_file bs) (λ f.
    need (unless (leb (length (file_rewritten f)) (length out)) no_room) 0 (
    ok (length (file_rewritten f)))))

abbrev pub rewritten : Res File → List ℕ
rewritten (ok f) = file_rewritten f
rewritten (bad c p) = []

unfoldable pub rewrite_output : List ℕ → List ℕ → List ℕ
rewrite_output bs out = output_after (rewrite_next bs out) out 0 (rewritten (read_file bs))
