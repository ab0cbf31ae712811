-- Each call answers with a result or a type of its own. Here each becomes a number and values, the terms in which FORMAT speaks: so one
-- form of promise, `given r ≡ ..`, serves all calls, and a caller in C finds the same numbers. Each of these definitions is one-to-one, so that
-- such a promise determines r (proofs/AnswerLaws.antt).
use Rattle.std.specs.Prelude.{ℕ, List, [], ◌∷◌, map, ℤ, pos, Float, Result, Ok, Err, Option, Some, None}
use Rattle.note.specs.Faults.{fault_number}
use Rattle.note.specs.declared.Refusal.{Refusal}
use Rattle.note.specs.declared.RecordAnswer.{RecordAnswer}
use Rattle.note.specs.declared.RecordAnswer.TheVariants as Record
use Rattle.note.specs.declared.SettingAnswer.{SettingAnswer}
use Rattle.note.specs.declared.SettingAnswer.TheVariants as Setting
use Rattle.note.specs.declared.WalkerYield.{WalkerYield}
use Rattle.note.specs.declared.WalkerYield.TheVariants as Yield

-- FORMAT 8.1: a value of an answer: a whole number, or a 64-bit float, which Setting alone gives.
pub data Value : Type 0 where
  whole : ℤ → Value
  float : Float → Value

-- FORMAT 8.1: what a call gives back: 0 with values, or a refusal's number and place.
pub data Given : Type 0 where
  accepted : List Value → Given
  refused : ℕ → ℕ → Given

-- FORMAT 8.1: values that are not negative, and values that may be.
abbrev pub count : ℕ → Value
count n = whole (pos n)

abbrev pub counts : List ℕ → List Value
counts ns = map count ns

abbrev pub wholes : List ℤ → List Value
wholes zs = map whole zs

-- FORMAT 8.1: a result by the values of what was granted; a refusal by its number and place.
abbrev pub given : {A : Type 0} → (A → List Value) → Result A Refusal → Given
given values (Ok a) = accepted (values a)
given values (Err r) = refused (fault_number r.fault) r.place

-- FORMAT 8.5: Record's answer: the row kind, then the fields in the order of their words; or the refusal.
unfoldable pub given_record : RecordAnswer → Given
given_record (Record.Phonon f) =
    accepted (count 3 ∷ wholes (
    f.code ∷ f.tower ∷ f.gain ∷ f.qet_bias ∷ f.squid_bias ∷ f.lockpoint ∷ f.rtf_offset ∷ f.variable_gain ∷ f.delta_t ∷ f.t0 ∷ f.trace_length ∷ []))
given_record (Record.Charge f) =
    accepted (count 4 ∷ wholes (f.code ∷ f.tower ∷ f.gain ∷ f.bias ∷ f.rtf_offset ∷ f.delta_t ∷ f.t0 ∷ f.trace_length ∷ []))
given_record (Record.Administrative f) = accepted (count 6 ∷ counts (f.date ∷ f.clock ∷ f.number ∷ f.time ∷ f.since ∷ f.live ∷ []))
given_record (Record.Trace address channel code t0 delta n) =
    accepted (count 7 ∷ count address ∷ count channel ∷ count code ∷ whole t0 ∷ count delta ∷ count n ∷ [])
given_record (Record.History veto_times veto_times_at veto_width veto_masks_at trigger_times trigger_times_at trigger_width trigger_masks_at) =
    accepted (count 8 ∷ counts (
    veto_times ∷ veto_times_at ∷ veto_width ∷ veto_masks_at ∷
    trigger_times ∷ trigger_times_at ∷ trigger_width ∷ trigger_masks_at ∷ []))
given_record (Record.Gps f) = accepted (count 9 ∷ counts (f.year ∷ f.day ∷ f.status ∷ f.hour ∷ f.minute ∷ f.second ∷ f.tenths ∷ []))
given_record (Record.Trigger f) = accepted (count 10 ∷ counts (f.mask1 ∷ f.mask2 ∷ f.mask3 ∷ f.mask4 ∷ f.mask5 ∷ f.mask6 ∷ []))
given_record (Record.Tlb f) = accepted (count 11 ∷ counts (f.tower1 ∷ f.tower2 ∷ f.tower3 ∷ f.tower4 ∷ f.tower5 ∷ f.tower6 ∷ []))
given_record (Record.Refused r) = refused (fault_number r.fault) r.place

-- FORMAT 8.6: Setting's answer: the row kind, then the words in order, those stored times 100 as floats.
abbrev pub setting_values : SettingAnswer → List Value
setting_values (Setting.Phonon code tower gain qet squid lock rtf variable delta t0 trace) =
    count 3 ∷ whole code ∷ whole tower ∷ float gain ∷ float qet ∷ float squid ∷ float lock
    ∷ wholes (rtf ∷ variable ∷ delta ∷ t0 ∷ trace ∷ [])
setting_values (Setting.Charge code tower gain bias rtf delta t0 trace) =
    count 4 ∷ whole code ∷ whole tower ∷ float gain ∷ wholes (bias ∷ rtf ∷ delta ∷ t0 ∷ trace ∷ [])

unfoldable pub given_setting : Result SettingAnswer Refusal → Given
given_setting r = given setting_values r

-- FORMAT 3.4, 8.7, 9.1: the answer of Code, the code; for a sample by number, the sample; of a writer, the next place.
unfoldable pub given_number : Result ℕ Refusal → Given
given_number r = given (λ n. counts (n ∷ [])) r

-- FORMAT 8.8: Find's answer: a place, or no value for nothing.
abbrev pub place_values : Option ℕ → List Value
place_values (Some place) = counts (place ∷ [])
place_values None = []

unfoldable pub given_find : Result (Option ℕ) Refusal → Given
given_find r = given place_values r

-- FORMAT 8.3: a walker's yield: a row's six numbers, or no value for the end.
unfoldable pub given_yield : WalkerYield → Given
given_yield (Yield.Row kind start size parent one two) = accepted (counts (kind ∷ start ∷ size ∷ parent ∷ one ∷ two ∷ []))
given_yield Yield.End = accepted []
given_yield (Yield.Refused number place) = refused number place
