-- What a writer asks of its fields, in word order, said a second time.
-- The idea: as for the rules (RuleLaws), test by test.
use Prim.Native.Nat.{ℕ, ◌*◌, ◌≤◌}
use mathlib.Core.Path.{◌≡◌, refl}
use mathlib.Core.Logic.{◌↔◌}
use mathlib.Core.Bool.{Bool, true, false}
use mathlib.Core.List.{List, [], ◌∷◌}
use lib.Dec.{eqb}
use lib.ListN.{length}
use Rattle.theory.specs.declared.Order.{Order}
use Rattle.theory.specs.Tests.{unless}
use Rattle.note.specs.Asked.{asks, fine}
use Rattle.note.specs.Words.{unsigned}
use Rattle.note.specs.declared.Phonon.{Phonon}
use Rattle.note.specs.Phonon.{phonon_fault}
use Rattle.note.specs.declared.Charge.{Charge}
use Rattle.note.specs.Charge.{charge_fault}
use Rattle.note.specs.declared.Administrative.{Administrative}
use Rattle.note.specs.Administrative.{administrative_fault}
use Rattle.note.specs.Trace.{Trace, count_fault, trace_fault}
use Rattle.note.specs.History.{Section, History, is_width, not_negative, section_fault, history_fault}
use Rattle.note.specs.declared.Gps.{Gps}
use Rattle.note.specs.Gps.{gps_fault}
use Rattle.note.specs.declared.Trigger.{Trigger}
use Rattle.note.specs.declared.Tlb.{Tlb}
use Rattle.note.specs.Tlb.{tlb_fault}
use Rattle.note.specs.ChannelTable.{charge_lines, phonon_lines, CodeListed}
use Rattle.note.specs.Writers.{phonon_draft, charge_draft, administrative_draft, trace_draft, history_draft}
use Rattle.note.specs.Writers.{gps_draft, trigger_draft, tlb_draft}
use Rattle.note.specs.Series.{ClockTime, SeriesDate}
use Rattle.note.specs.Rules.{TraceFieldsAsked, VetoWidth, TriggerWidth, SectionFieldsAsked, DayOfYear, TowerWord}
use Rattle.note.proofs.BoolLaws.{both_tell, le_tells, eq_tells}
use Rattle.note.proofs.AskedLaws.{Gives, no_more, asked, asked_too, asked_of_part, alone_gives, divides_tells}
use Rattle.note.proofs.ChannelLaws.{code-is-listed, phonon-code-is-listed, charge-code-is-listed}
use Rattle.note.proofs.HistoryLaws.{Width}
use Rattle.note.proofs.SeriesLaws.{series-is-date, clock-is-time}
use Rattle.note.proofs.RuleLaws.{width_tells}
use Rattle.note.proofs.GpsRuleLaws.{day_tells}
use Rattle.note.proofs.TlbLaws.{tower-word}

-- ---- what a writer asks of its fields

-- A field's fault, of which the round trips speak, is the writer's.
module _ (o : Order) (f : Phonon) (g : Charge) (a : Administrative) (t : Trace) (h : History) (c : Gps) (m : Tlb) where
  pub faults_of_writers : ((phonon_draft o f).fault ≡ phonon_fault (unsigned f.code))
      × ((charge_draft o g).fault ≡ charge_fault (unsigned g.code))
      × ((administrative_draft o a).fault ≡ administrative_fault a.date a.clock) × ((trace_draft o t).fault ≡ trace_fault t)
      × ((history_draft o h).fault ≡ history_fault h) × ((gps_draft o c).fault ≡ gps_fault c) × ((tlb_draft o m).fault ≡ tlb_fault m)
  unfolding phonon_draft charge_draft administrative_draft trace_draft history_draft gps_draft tlb_draft
  faults_of_writers = (refl, refl, refl, refl, refl, refl, refl)

pub phonon_fault_exact : (o : Order) (f : Phonon) (c : ℕ)
    → ((phonon_draft o f).fault ≡ c) ↔ asks (CodeListed phonon_lines (unsigned f.code)) 10 fine c
unfolding phonon_draft phonon_fault
phonon_fault_exact o f = alone_gives (asked (phonon-code-is-listed (unsigned f.code)) no_more)

pub charge_fault_exact : (o : Order) (f : Charge) (c : ℕ)
    → ((charge_draft o f).fault ≡ c) ↔ asks (CodeListed charge_lines (unsigned f.code)) 10 fine c
unfolding charge_draft charge_fault
charge_fault_exact o f = alone_gives (asked (charge-code-is-listed (unsigned f.code)) no_more)

pub administrative_fault_exact : (o : Order) (f : Administrative) (c : ℕ)
    → ((administrative_draft o f).fault ≡ c) ↔ asks (SeriesDate f.date) 10 (asks (ClockTime f.clock) 10 fine) c
unfolding administrative_draft administrative_fault
administrative_fault_exact o f = (asked (series-is-date f.date) (asked (clock-is-time f.clock) no_more)).exactly

pub trace_fault_exact : (o : Order) (f : Trace) (c : ℕ) → ((trace_draft o f).fault ≡ c) ↔ TraceFieldsAsked f c
unfolding trace_draft trace_fault count_fault
trace_fault_exact o f =
    (asked (both_tell (le_tells 1 f.channel) (le_tells f.channel 8)) (
    asked (code-is-listed f.code) (
    asked (le_tells 1 f.delta) (
    asked_of_part (_ ∷ _ ∷ _ ∷ []) (
    asked (divides_tells 2 f.n) (
    asked (le_tells 2 f.n) (
    asked (le_tells f.n 32768) (
    asked (eq_tells (length f.samples) (2 * f.n))
    no_more)))))))).exactly

section : (trigger : Bool) (s : Section) {ds : List ℕ} {rest : ℕ → Type 0} → Gives ds rest
    → Gives (
    not_negative s.count
    ∷ unless (eqb (length s.times) (4 * s.count)) 6
    ∷ not_negative s.width
    ∷ unless (is_width trigger s.count s.width) 10
    ∷ unless (eqb (length s.masks) (4 * (s.count * s.width))) 6 ∷ ds
    ) (SectionFieldsAsked (Width trigger) s rest)
section trigger s given =
    asked (le_tells s.count 0x7FFFFFFF) (
    asked (eq_tells (length s.times) (4 * s.count)) (
    asked (le_tells s.width 0x7FFFFFFF) (
    asked (width_tells trigger s.count s.width) (
    asked (eq_tells (length s.masks) (4 * (s.count * s.width)))
    given))))

pub history_fault_exact : (o : Order) (f : History) (c : ℕ)
    → ((history_draft o f).fault ≡ c) ↔ SectionFieldsAsked VetoWidth f.veto (SectionFieldsAsked TriggerWidth f.trigger fine) c
unfolding history_draft history_fault section_fault
history_fault_exact o f =
    (asked_of_part (_ ∷ _ ∷ _ ∷ _ ∷ _ ∷ []) (section false f.veto (
    asked_of_part (_ ∷ _ ∷ _ ∷ _ ∷ _ ∷ []) (section true f.trigger
    no_more)))).exactly

-- GPS: seven numbers, each 10.
pub gps_fault_exact : (o : Order) (f : Gps) (c : ℕ)
    → ((gps_draft o f).fault ≡ c)
    ↔ asks ((f.year ≤ 9999) × (DayOfYear f.year f.day × ((f.status ≤ 15) × ((f.hour ≤ 23) × ((f.minute ≤ 59)
    × ((f.second ≤ 59) × (f.tenths ≤ 9999999))))))) 10 fine c
unfolding gps_draft gps_fault
gps_fault_exact o f =
    (asked_too (le_tells f.year 9999) (
    asked_too (day_tells f.year f.day) (
    asked_too (le_tells f.status 15) (
    asked_too (le_tells f.hour 23) (
    asked_too (le_tells f.minute 59) (
    asked_too (le_tells f.second 59) (
    asked (le_tells f.tenths 9999999)
    no_more))))))).exactly

-- A trigger's masks are free.
pub trigger-faultless : (o : Order) (f : Trigger) → (trigger_draft o f).fault ≡ 0
unfolding trigger_draft
trigger-faultless o f = refl

pub tlb_fault_exact : (o : Order) (f : Tlb) (c : ℕ)
    → ((tlb_draft o f).fault ≡ c)
    ↔ asks (TowerWord 1 f.tower1) 10 (asks (TowerWord 2 f.tower2) 10 (asks (TowerWord 3 f.tower3) 10 (
    asks (TowerWord 4 f.tower4) 10 (asks (TowerWord 5 f.tower5) 10 (asks (TowerWord 6 f.tower6) 10 fine))))) c
unfolding tlb_draft tlb_fault
tlb_fault_exact o f =
    (asked (tower-word 1 f.tower1) (
    asked (tower-word 2 f.tower2) (
    asked (tower-word 3 f.tower3) (
    asked (tower-word 4 f.tower4) (
    asked (tower-word 5 f.tower5) (
    asked (tower-word 6 f.tower6)
    no_more)))))).exactly
