-- Which numbers the rule and the writer's fault of each kind, and an event's first word, can give.
-- The idea: each is the first of a list of tests, and a test gives no fault or its own number.
use mathlib.Core.Path.{◌≡◌, refl}
use mathlib.Core.Bool.{Bool, true, false≢true}
use mathlib.Core.List.{List, [], ◌∷◌}
use Prim.Native.Nat.{ℕ}
use Rattle.theory.specs.declared.Order.{Order}
use Rattle.theory.specs.Tests.{among}
use Rattle.theory.proofs.TestLaws.{Numbered, unless-numbered, one-numbered, first-numbered, numbered_wider}
use Rattle.note.specs.Phonon.{phonon_fault, phonon_rule}
use Rattle.note.specs.Charge.{charge_fault, charge_rule}
use Rattle.note.specs.Administrative.{administrative_fault, administrative_rule}
use Rattle.note.specs.Trace.{Trace, count_fault, bookkeeping_rule, timebase_rule, samples_rule, trace_rule, trace_fault}
use Rattle.note.specs.History.{Section, History, section_rule, history_rule, section_fault, history_fault}
use Rattle.note.specs.declared.Gps.{Gps}
use Rattle.note.specs.Gps.{gps_fault, gps_rule}
use Rattle.note.specs.Trigger.{trigger_rule}
use Rattle.note.specs.declared.Tlb.{Tlb}
use Rattle.note.specs.Tlb.{tlb_fault, tlb_rule}
use Rattle.note.specs.Events.{event_fault, event_word_rule}
use Rattle.note.specs.Records.{entry_kinds, record_rule}
use Rattle.note.proofs.KindCases.{kind_cases}

-- ---- the fields of each kind, as a writer asks them

pub phonon_fault_numbers : (code : ℕ) → Numbered (10 ∷ []) (phonon_fault code)
unfolding phonon_fault
phonon_fault_numbers code = search unless-numbered

pub charge_fault_numbers : (code : ℕ) → Numbered (10 ∷ []) (charge_fault code)
unfolding charge_fault
charge_fault_numbers code = search unless-numbered

pub administrative_fault_numbers : (date clock : ℕ) → Numbered (10 ∷ []) (administrative_fault date clock)
unfolding administrative_fault
administrative_fault_numbers date clock = search (first-numbered, unless-numbered)

count_fault_numbers : (n : ℕ) → Numbered (11 ∷ []) (count_fault n)
unfolding count_fault
count_fault_numbers n = search (first-numbered, unless-numbered)

pub trace_fault_numbers : (f : Trace) → Numbered (6 ∷ 10 ∷ 11 ∷ []) (trace_fault f)
unfolding trace_fault
trace_fault_numbers f =
    let counts : Numbered (6 ∷ 10 ∷ 11 ∷ []) (count_fault f.n) = numbered_wider (11 ∷ []) _ _ refl (count_fault_numbers f.n) in
    search (first-numbered, unless-numbered, counts) depth 9

section_fault_numbers : (trigger : Bool) (s : Section) → Numbered (6 ∷ 10 ∷ []) (section_fault trigger s)
unfolding section_fault
section_fault_numbers trigger s = search (first-numbered, unless-numbered) depth 9

pub history_fault_numbers : (f : History) → Numbered (6 ∷ 10 ∷ []) (history_fault f)
unfolding history_fault
history_fault_numbers f = search (first-numbered, section_fault_numbers)

pub gps_fault_numbers : (f : Gps) → Numbered (10 ∷ []) (gps_fault f)
unfolding gps_fault
gps_fault_numbers f = search (first-numbered, unless-numbered) depth 12

pub tlb_fault_numbers : (f : Tlb) → Numbered (10 ∷ []) (tlb_fault f)
unfolding tlb_fault
tlb_fault_numbers f = search (first-numbered, unless-numbered) depth 12

-- ---- the rule of each kind

phonon_rule_numbers : (o : Order) (b : List ℕ) → Numbered (6 ∷ 10 ∷ []) (phonon_rule o b)
unfolding phonon_rule phonon_fault
phonon_rule_numbers o b = search (first-numbered, unless-numbered)

charge_rule_numbers : (o : Order) (b : List ℕ) → Numbered (6 ∷ 10 ∷ []) (charge_rule o b)
unfolding charge_rule charge_fault
charge_rule_numbers o b = search (first-numbered, unless-numbered)

administrative_rule_numbers : (o : Order) (b : List ℕ) → Numbered (6 ∷ 10 ∷ []) (administrative_rule o b)
unfolding administrative_rule administrative_fault
administrative_rule_numbers o b = search (first-numbered, unless-numbered) depth 9

trace_rule_numbers : (o : Order) (b : List ℕ) → Numbered (5 ∷ 6 ∷ 10 ∷ 11 ∷ []) (trace_rule o b)
unfolding trace_rule bookkeeping_rule timebase_rule samples_rule count_fault
trace_rule_numbers o b = search (first-numbered, unless-numbered) depth 20 fits 4000

history_rule_numbers : (o : Order) (b : List ℕ) → Numbered (6 ∷ 10 ∷ []) (history_rule o b)
unfolding history_rule section_rule
history_rule_numbers o b = search (first-numbered, unless-numbered) depth 20 fits 4000

gps_rule_numbers : (o : Order) (b : List ℕ) → Numbered (6 ∷ 10 ∷ []) (gps_rule o b)
unfolding gps_rule gps_fault
gps_rule_numbers o b = search (first-numbered, unless-numbered) depth 20 fits 4000

trigger_rule_numbers : (o : Order) (b : List ℕ) → Numbered (6 ∷ 10 ∷ []) (trigger_rule o b)
unfolding trigger_rule
trigger_rule_numbers o b = search (first-numbered, unless-numbered)

tlb_rule_numbers : (o : Order) (b : List ℕ) → Numbered (6 ∷ 10 ∷ []) (tlb_rule o b)
unfolding tlb_rule tlb_fault
tlb_rule_numbers o b = search (first-numbered, unless-numbered) depth 20 fits 4000

-- Of any kind word; of an entry's, where no count of samples is asked, so no 11. What no kind word names says 5.
pub rule_numbers : (o : Order) (k : ℕ) (b : List ℕ) → Numbered (5 ∷ 6 ∷ 10 ∷ 11 ∷ []) (record_rule o k b)
rule_numbers o k =
    let wide : (rule : List ℕ → ℕ) → ((b : List ℕ) → Numbered (6 ∷ 10 ∷ []) (rule b)) → (b : List ℕ) → Numbered (5 ∷ 6 ∷ 10 ∷ 11 ∷ []) (rule b) =
    λ rule h b. numbered_wider (6 ∷ 10 ∷ []) (5 ∷ 6 ∷ 10 ∷ 11 ∷ []) (rule b) refl (h b) in
    kind_cases (λ w x. (b : List ℕ) → Numbered (5 ∷ 6 ∷ 10 ∷ 11 ∷ []) (x.rule o b)) k
    (wide (phonon_rule o) (phonon_rule_numbers o)) (wide (charge_rule o) (charge_rule_numbers o))
    (wide (administrative_rule o) (administrative_rule_numbers o)) (trace_rule_numbers o) (wide (history_rule o) (history_rule_numbers o))
    (wide (gps_rule o) (gps_rule_numbers o)) (wide (trigger_rule o) (trigger_rule_numbers o))
    (wide (tlb_rule o) (tlb_rule_numbers o)) (λ b. one-numbered _ 5 refl)

pub entry_rule_numbers : (o : Order) (k : ℕ) (b : List ℕ) → among k entry_kinds ≡ true → Numbered (5 ∷ 6 ∷ 10 ∷ []) (record_rule o k b)
entry_rule_numbers o k b =
    let wide : (c : ℕ) → Numbered (6 ∷ 10 ∷ []) c → Numbered (5 ∷ 6 ∷ 10 ∷ []) c = λ c. numbered_wider (6 ∷ 10 ∷ []) _ c refl in
    kind_cases (λ w x. among w entry_kinds ≡ true → Numbered (5 ∷ 6 ∷ 10 ∷ []) (x.rule o b)) k
    (λ e. wide _ (phonon_rule_numbers o b)) (λ e. wide _ (charge_rule_numbers o b))
    (λ e. absurd (false≢true e)) (λ e. absurd (false≢true e)) (λ e. absurd (false≢true e)) (λ e. absurd (false≢true e))
    (λ e. absurd (false≢true e)) (λ e. absurd (false≢true e)) (λ e. one-numbered _ 5 refl)

-- ---- an event's first word, as a writer and as a reader asks it

pub event_fault_numbers : (class category type : ℕ) → Numbered (7 ∷ 8 ∷ []) (event_fault class category type)
unfolding event_fault
event_fault_numbers class category type = search (first-numbered, unless-numbered) depth 9

pub event_word_numbers : (w : ℕ) → Numbered (5 ∷ 7 ∷ 8 ∷ []) (event_word_rule w)
unfolding event_word_rule event_fault
event_word_numbers w = search (first-numbered, unless-numbered) depth 12
