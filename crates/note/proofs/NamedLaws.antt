-- Fields by their names: in which order a writer lays them down, and which value of an answer each field of a struct or of an enum's case is; a
-- name's bytes.
-- Two fields exchanged wherever they stand together would leave every other law true.
-- The idea: each computes, with the names written out.
use Prim.Native.Nat.{ℕ, ◌+◌, ◌*◌, ◌^◌}
use mathlib.Core.Path.{◌≡◌, refl}
use mathlib.Core.List.{List, [], ◌∷◌, ◌++◌, map}
use lib.IntN.{ℤ, pos}
use lib.ListN.{length, take}
use Rattle.std.proofs.Common.{Ok, Err, Some, None}
use Rattle.theory.specs.declared.Order.{Order}
use Rattle.theory.specs.Layout.{Row}
use Rattle.note.specs.Words.{words, unsigned}
use Rattle.note.specs.Faults.{fault_number}
use Rattle.note.specs.Answers.{whole, float, count, counts, wholes, accepted, refused, given_record, given_setting}
use Rattle.note.specs.Answers.{given_number, given_find, given_yield}
use Rattle.note.specs.Channels.{name_of}
use Rattle.note.specs.declared.Phonon.{Phonon}
use Rattle.note.specs.Phonon.{phonon_bytes}
use Rattle.note.specs.declared.Charge.{Charge}
use Rattle.note.specs.Charge.{charge_bytes}
use Rattle.note.specs.declared.Administrative.{Administrative}
use Rattle.note.specs.Administrative.{administrative_bytes}
use Rattle.note.specs.Trace.{Trace, trace_bytes}
use Rattle.note.specs.History.{History, section_bytes, history_bytes}
use Rattle.note.specs.declared.Gps.{Gps}
use Rattle.note.specs.Gps.{bcd, gps_bytes}
use Rattle.note.specs.declared.Trigger.{Trigger}
use Rattle.note.specs.Trigger.{trigger_bytes}
use Rattle.note.specs.declared.Tlb.{Tlb}
use Rattle.note.specs.Tlb.{tlb_bytes}
use Rattle.note.specs.Calls.{hundredth}
use Rattle.note.specs.Writers.{trace_handed, history_handed}
use Rattle.note.specs.declared.Trace as LentTrace
use Rattle.note.specs.declared.History as LentHistory
use Rattle.note.specs.Places.{section_parts}
use Rattle.note.specs.declared.Refusal.{Refusal}
use Rattle.note.specs.declared.RecordAnswer.TheVariants as Record
use Rattle.note.specs.declared.SettingAnswer.TheVariants as Setting
use Rattle.note.specs.declared.WalkerYield.TheVariants as Yield

-- ---- an entry

module _ (o : Order) (f : Phonon) where
  pub phonon-words : phonon_bytes o f ≡ words o (map unsigned (f.code ∷ f.tower ∷ f.gain ∷ f.qet_bias ∷ f.squid_bias ∷ f.lockpoint
      ∷ f.rtf_offset ∷ f.variable_gain ∷ f.delta_t ∷ f.t0 ∷ f.trace_length ∷ []))
  unfolding phonon_bytes
  phonon-words = refl

  pub phonon-answer : given_record (Record.Phonon f)
      ≡ accepted (count 3 ∷ wholes (f.code ∷ f.tower ∷ f.gain ∷ f.qet_bias ∷ f.squid_bias ∷ f.lockpoint
      ∷ f.rtf_offset ∷ f.variable_gain ∷ f.delta_t ∷ f.t0 ∷ f.trace_length ∷ []))
  unfolding given_record
  phonon-answer = refl

  pub phonon_setting_answer : given_setting (Ok (Setting.Phonon f.code f.tower (hundredth f.gain) (hundredth f.qet_bias)
      (hundredth f.squid_bias) (hundredth f.lockpoint) f.rtf_offset f.variable_gain f.delta_t f.t0 f.trace_length))
      ≡ accepted (count 3 ∷ whole f.code ∷ whole f.tower ∷ float (hundredth f.gain) ∷ float (hundredth f.qet_bias)
      ∷ float (hundredth f.squid_bias) ∷ float (hundredth f.lockpoint)
      ∷ wholes (f.rtf_offset ∷ f.variable_gain ∷ f.delta_t ∷ f.t0 ∷ f.trace_length ∷ []))
  unfolding given_setting
  phonon_setting_answer = refl

module _ (o : Order) (f : Charge) where
  pub charge-words : charge_bytes o f
      ≡ words o (map unsigned (f.code ∷ f.tower ∷ f.gain ∷ f.bias ∷ f.rtf_offset ∷ f.delta_t ∷ f.t0 ∷ f.trace_length ∷ []))
  unfolding charge_bytes
  charge-words = refl

  pub charge-answer : given_record (Record.Charge f)
      ≡ accepted (count 4 ∷ wholes (f.code ∷ f.tower ∷ f.gain ∷ f.bias ∷ f.rtf_offset ∷ f.delta_t ∷ f.t0 ∷ f.trace_length ∷ []))
  unfolding given_record
  charge-answer = refl

  pub charge_setting_answer : given_setting (Ok (Setting.Charge f.code f.tower (hundredth f.gain) f.bias f.rtf_offset
      f.delta_t f.t0 f.trace_length))
      ≡ accepted (count 4 ∷ whole f.code ∷ whole f.tower ∷ float (hundredth f.gain)
      ∷ wholes (f.bias ∷ f.rtf_offset ∷ f.delta_t ∷ f.t0 ∷ f.trace_length ∷ []))
  unfolding given_setting
  charge_setting_answer = refl

-- ---- a record

module _ (o : Order) (f : Administrative) where
  pub administrative-words : administrative_bytes o f ≡ words o (f.date ∷ f.clock ∷ f.number ∷ f.time ∷ f.since ∷ f.live ∷ [])
  unfolding administrative_bytes
  administrative-words = refl

  pub administrative-answer : given_record (Record.Administrative f)
      ≡ accepted (count 6 ∷ counts (f.date ∷ f.clock ∷ f.number ∷ f.time ∷ f.since ∷ f.live ∷ []))
  unfolding given_record
  administrative-answer = refl

-- A history's two sections; the veto section stands first.
pub history-words : (o : Order) (f : History) → history_bytes o f ≡ section_parts o f.veto ++ section_parts o f.trigger
unfolding history_bytes section_bytes
history-words o f = refl

pub trace-answer : (f : Trace) → given_record (Record.Trace f.address f.channel f.code f.t0 f.delta f.n)
    ≡ accepted (count 7 ∷ count f.address ∷ count f.channel ∷ count f.code ∷ whole f.t0 ∷ count f.delta ∷ count f.n ∷ [])
unfolding given_record
trace-answer f = refl

pub gps-answer : (f : Gps) → given_record (Record.Gps f)
    ≡ accepted (count 9 ∷ counts (f.year ∷ f.day ∷ f.status ∷ f.hour ∷ f.minute ∷ f.second ∷ f.tenths ∷ []))
unfolding given_record
gps-answer f = refl

pub gps-words : (o : Order) (f : Gps) → gps_bytes o f ≡ words o (
    (bcd 4 f.year * 2 ^ 16 + bcd 4 f.day) ∷
    (f.status * 2 ^ 28 + bcd 2 f.hour * 2 ^ 16 + bcd 2 f.minute * 2 ^ 8 + bcd 2 f.second) ∷ bcd 8 f.tenths ∷ [])
unfolding gps_bytes
gps-words o f = refl

pub trace-words : (o : Order) (f : Trace)
    → trace_bytes o f ≡ words o (0x11 ∷ 12 ∷ f.address ∷ f.channel ∷ f.code ∷ 0x12 ∷ 12 ∷ unsigned f.t0 ∷ f.delta
    ∷ f.n ∷ 0x13 ∷ f.n ∷ []) ++ f.samples
unfolding trace_bytes
trace-words o f = refl

-- What a caller hands over as a trace, and as a history, is laid down by the names of its own fields.
pub trace-handed : (o : Order) (f : LentTrace.Trace)
    → trace_bytes o (trace_handed f) ≡ words o (0x11 ∷ 12 ∷ f.address ∷ f.channel ∷ f.code ∷ 0x12 ∷ 12 ∷ unsigned f.t0 ∷ f.delta_t
    ∷ f.n ∷ 0x13 ∷ f.n ∷ []) ++ f.samples.now
unfolding trace_bytes
trace-handed o f = refl

pub history-handed : (o : Order) (h : LentHistory.History) → history_bytes o (history_handed h)
    ≡ (words o (h.veto.count ∷ []) ++ (h.veto.times.now ++ (words o (h.veto.width ∷ []) ++ h.veto.masks.now)))
    ++ (words o (h.trigger.count ∷ []) ++ (h.trigger.times.now ++ (words o (h.trigger.width ∷ []) ++ h.trigger.masks.now)))
unfolding history_bytes section_bytes
history-handed o h = refl

module _ (o : Order) (f : Trigger) where
  pub trigger-words : trigger_bytes o f ≡ words o (0 ∷ f.mask1 ∷ f.mask2 ∷ f.mask3 ∷ f.mask4 ∷ f.mask5 ∷ f.mask6 ∷ [])
  unfolding trigger_bytes
  trigger-words = refl

  pub trigger-answer : given_record (Record.Trigger f)
      ≡ accepted (count 10 ∷ counts (f.mask1 ∷ f.mask2 ∷ f.mask3 ∷ f.mask4 ∷ f.mask5 ∷ f.mask6 ∷ []))
  unfolding given_record
  trigger-answer = refl

module _ (o : Order) (f : Tlb) where
  pub tlb-words : tlb_bytes o f ≡ words o (f.tower1 ∷ f.tower2 ∷ f.tower3 ∷ f.tower4 ∷ f.tower5 ∷ f.tower6 ∷ [])
  unfolding tlb_bytes
  tlb-words = refl

  pub tlb-answer : given_record (Record.Tlb f)
      ≡ accepted (count 11 ∷ counts (f.tower1 ∷ f.tower2 ∷ f.tower3 ∷ f.tower4 ∷ f.tower5 ∷ f.tower6 ∷ []))
  unfolding given_record
  tlb-answer = refl

-- ---- a row, and a name

pub row_yield_lem : (r : Row) → given_yield (Yield.Row r.kind r.start r.whole r.parent r.one r.two)
    ≡ accepted (counts (r.kind ∷ r.start ∷ r.whole ∷ r.parent ∷ r.one ∷ r.two ∷ []))
unfolding given_yield
row_yield_lem r = refl

-- The values of an answer stand in the order of its numbers, one for each, and are those numbers.
pub values_in_order : (n : ℕ) (ns : List ℕ) (z : ℤ) (zs : List ℤ)
    → (count n ≡ whole (pos n)) × (counts [] ≡ []) × (counts (n ∷ ns) ≡ whole (pos n) ∷ counts ns)
    × (wholes [] ≡ []) × (wholes (z ∷ zs) ≡ whole z ∷ wholes zs)
values_in_order n ns z zs = (refl, refl, refl, refl, refl)

-- A name's bytes stand at the front of four, zeros behind them, with its length.
pub name-bytes : (name : List ℕ) → name_of name ≡ record { bytes = take 4 (name ++ (0 ∷ 0 ∷ 0 ∷ 0 ∷ [])); length = length name }
name-bytes [] = refl
name-bytes (a ∷ []) = refl
name-bytes (a ∷ b ∷ []) = refl
name-bytes (a ∷ b ∷ c ∷ []) = refl
name-bytes (a ∷ b ∷ c ∷ d ∷ rest) = refl

-- ---- the other answers

pub history-answer : (veto_times veto_times_at veto_width veto_masks_at trigger_times trigger_times_at trigger_width trigger_masks_at : ℕ)
    → given_record (Record.History veto_times veto_times_at veto_width veto_masks_at
    trigger_times trigger_times_at trigger_width trigger_masks_at)
    ≡ accepted (counts (8 ∷ veto_times ∷ veto_times_at ∷ veto_width ∷ veto_masks_at ∷ trigger_times ∷ trigger_times_at ∷ trigger_width
    ∷ trigger_masks_at ∷ []))
unfolding given_record
history-answer a b c d e f g h = refl

-- A refusal's number is its fault's.
pub refusals-told : (r : Refusal) (n p : ℕ) → (given_record (Record.Refused r) ≡ refused (fault_number r.fault) r.place)
    × (given_setting (Err r) ≡ refused (fault_number r.fault) r.place) × (given_number (Err r) ≡ refused (fault_number r.fault) r.place)
    × (given_find (Err r) ≡ refused (fault_number r.fault) r.place) × (given_yield (Yield.Refused n p) ≡ refused n p)
unfolding given_record given_setting given_number given_find given_yield
refusals-told r n p = (refl, refl, refl, refl, refl)

pub values-told : (n : ℕ) → (given_number (Ok n) ≡ accepted (counts (n ∷ []))) × (given_find (Ok (Some n)) ≡ accepted (counts (n ∷ [])))
    × (given_find (Ok None) ≡ accepted []) × (given_yield Yield.End ≡ accepted [])
unfolding given_number given_find given_yield
values-told n = (refl, refl, refl, refl)
