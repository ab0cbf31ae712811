-- The rule of each kind said a second time: of what is asked of a body's words (specs/Rules), the first that isn't so gives its number.
-- The idea: each test of a rule tells its statement, so the list of tests gives what is asked.
use Prim.Native.Nat.{ℕ, ◌+◌, ◌*◌}
use mathlib.Core.Path.{◌≡◌}
use mathlib.Core.Logic.{◌↔◌}
use mathlib.Core.Bool.{Bool, true, false}
use mathlib.Core.List.{List, [], ◌∷◌, ◌++◌}
use lib.ListN.{length}
use Rattle.theory.specs.declared.Order.{Order}
use Rattle.note.specs.Words.{word}
use Rattle.note.specs.Phonon.{phonon_fault, phonon_rule}
use Rattle.note.specs.Charge.{charge_fault, charge_rule}
use Rattle.note.specs.Administrative.{administrative_fault, administrative_rule}
use Rattle.note.specs.Trace.{count_fault, bookkeeping_rule, timebase_rule, samples_rule, trace_rule}
use Rattle.note.specs.History.{width_at, width_of, end_at, is_width, section_tests, section_rule, history_rule}
use Rattle.note.specs.Trigger.{trigger_rule}
use Rattle.note.specs.Tlb.{tlb_of, tlb_fault, tlb_rule}
use Rattle.note.specs.Places.{times_in, width_in, section_end}
use Rattle.note.specs.Rules.{PhononAsked, ChargeAsked, AdministrativeAsked, TraceAsked, SectionAsked, HistoryAsked, TriggerAsked, TlbAsked}
use Rattle.note.proofs.BoolLaws.{Tells, both_tell, le_tells, eq_tells}
use Rattle.note.proofs.AskedLaws.{Gives, no_more, asked, asked_of_part, divides_tells}
use Rattle.note.proofs.ChannelLaws.{code-is-listed, phonon-code-is-listed, charge-code-is-listed}
use Rattle.note.proofs.HistoryLaws.{Width, width_means, means_width}
use Rattle.note.proofs.SeriesLaws.{series-is-date, clock-is-time}
use Rattle.note.proofs.TlbLaws.{tower-word}

-- ---- the entries

pub phonon_rule_exact : (o : Order) (b : List ℕ) (c : ℕ) → (phonon_rule o b ≡ c) ↔ PhononAsked o b c
unfolding phonon_rule phonon_fault
phonon_rule_exact o b = (asked (eq_tells (length b) 44) (asked (phonon-code-is-listed (word o 0 b)) no_more)).exactly

pub charge_rule_exact : (o : Order) (b : List ℕ) (c : ℕ) → (charge_rule o b ≡ c) ↔ ChargeAsked o b c
unfolding charge_rule charge_fault
charge_rule_exact o b = (asked (eq_tells (length b) 32) (asked (charge-code-is-listed (word o 0 b)) no_more)).exactly

-- ---- administrative

pub administrative_rule_exact : (o : Order) (b : List ℕ) (c : ℕ) → (administrative_rule o b ≡ c) ↔ AdministrativeAsked o b c
unfolding administrative_rule administrative_fault
administrative_rule_exact o b =
    (asked (eq_tells (length b) 24) (asked_of_part (_ ∷ _ ∷ [])
    (asked (series-is-date (word o 0 b)) (asked (clock-is-time (word o 4 b)) no_more)))).exactly

-- ---- trace

pub trace_rule_exact : (o : Order) (b : List ℕ) (c : ℕ) → (trace_rule o b ≡ c) ↔ TraceAsked o b c
unfolding trace_rule bookkeeping_rule timebase_rule samples_rule count_fault
trace_rule_exact o b =
    (asked (le_tells 48 (length b)) (
    asked_of_part (_ ∷ _ ∷ _ ∷ _ ∷ []) (
    asked (eq_tells (word o 0 b) 0x11) (
    asked (eq_tells (word o 4 b) 12) (
    asked (both_tell (le_tells 1 (word o 12 b)) (le_tells (word o 12 b) 8)) (
    asked (code-is-listed (word o 16 b)) (
    asked_of_part (_ ∷ _ ∷ _ ∷ []) (
    asked (eq_tells (word o 20 b) 0x12) (
    asked (eq_tells (word o 24 b) 12) (
    asked (le_tells 1 (word o 32 b)) (
    asked_of_part (_ ∷ _ ∷ _ ∷ []) (
    asked (eq_tells (word o 40 b) 0x13) (
    asked_of_part (_ ∷ _ ∷ _ ∷ []) (
    asked (divides_tells 2 (word o 44 b)) (
    asked (le_tells 2 (word o 44 b)) (
    asked (le_tells (word o 44 b) 32768) (
    asked (eq_tells (word o 36 b) (word o 44 b)) (
    asked (eq_tells (length b) (48 + 2 * word o 44 b))
    no_more)))))))))))))))))).exactly

-- ---- history

pub width_tells : (trigger : Bool) (n w : ℕ) → Tells (is_width trigger n w) (Width trigger n w)
width_tells trigger n w = (width_means trigger n w, means_width trigger n w)

section_gives : (o : Order) (trigger : Bool) (p : ℕ) (b ds : List ℕ) (rest : ℕ → Type 0) → Gives ds rest
    → Gives (section_tests o trigger p b ++ ds) (SectionAsked o (Width trigger) p b rest)
unfolding width_at width_of
section_gives o trigger p b ds rest given =
    asked (le_tells (p + 4) (length b)) (
    asked (le_tells (times_in o p b) 0x7FFFFFFF) (
    asked (le_tells (p + 4 + 4 * times_in o p b + 4) (length b)) (
    asked (le_tells (width_in o p b) 0x7FFFFFFF) (
    asked (width_tells trigger (times_in o p b) (width_in o p b))
    given))))

pub history_rule_exact : (o : Order) (b : List ℕ) (c : ℕ) → (history_rule o b ≡ c) ↔ HistoryAsked o b c
unfolding history_rule section_rule end_at width_at width_of
history_rule_exact o b =
    (asked (le_tells 16 (length b)) (
    asked (divides_tells 4 (length b)) (
    asked_of_part (section_tests o false 0 b) (section_gives o false 0 b _ _ (
    asked_of_part (section_tests o true (section_end o 0 b) b) (section_gives o true (section_end o 0 b) b _ _ (
    asked (eq_tells (length b) (section_end o (section_end o 0 b) b))
    no_more))))))).exactly

-- ---- trigger and TLB

pub trigger_rule_exact : (o : Order) (b : List ℕ) (c : ℕ) → (trigger_rule o b ≡ c) ↔ TriggerAsked o b c
unfolding trigger_rule
trigger_rule_exact o b = (asked (eq_tells (length b) 28) (asked (eq_tells (word o 0 b) 0) no_more)).exactly

pub tlb_rule_exact : (o : Order) (b : List ℕ) (c : ℕ) → (tlb_rule o b ≡ c) ↔ TlbAsked o b c
unfolding tlb_rule tlb_fault tlb_of
tlb_rule_exact o b =
    (asked (eq_tells (length b) 24) (
    asked_of_part (_ ∷ _ ∷ _ ∷ _ ∷ _ ∷ _ ∷ []) (
    asked (tower-word 1 (word o 0 b)) (
    asked (tower-word 2 (word o 4 b)) (
    asked (tower-word 3 (word o 8 b)) (
    asked (tower-word 4 (word o 12 b)) (
    asked (tower-word 5 (word o 16 b)) (
    asked (tower-word 6 (word o 20 b))
    no_more)))))))).exactly
