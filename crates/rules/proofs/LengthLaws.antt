-- What a body that follows its kind's rule shows to the code that reads its fields: how long it is.
-- The idea: a rule that passes has passed each of its tests, and each kind's first test asks for a length.
use mathlib.Core.Path.{◌≡◌}
use mathlib.Core.Bool.{cond}
use mathlib.Core.List.{List, ◌∷◌}
use Prim.Native.Nat.{ℕ, ◌≤◌}
use native.Mathlib.Omega.{arith}
use lib.Dec.{leb, eqb}
use lib.ListN.{length}
use Rattle.theory.specs.declared.Order.{Order}
use Rattle.theory.specs.Tests.{unless, first}
use Rattle.theory.proofs.TestLaws.{first-at, equal_passed, most_passed}
use Rattle.note.specs.Phonon.{phonon_rule, phonon_kind}
use Rattle.note.specs.Charge.{charge_rule, charge_kind}
use Rattle.note.specs.Administrative.{administrative_rule, administrative_kind}
use Rattle.note.specs.Trace.{trace_rule, trace_kind}
use Rattle.note.specs.History.{history_rule, history_kind}
use Rattle.note.specs.Gps.{gps_rule, gps_kind}
use Rattle.note.specs.Trigger.{trigger_rule, trigger_kind}
use Rattle.note.specs.Tlb.{tlb_rule, tlb_kind}
use Rattle.note.specs.Records.{record_rule}
use Rattle.note.proofs.KindCases.{kind_cases}

-- The least length of a body, by kind word.
abbrev pub least : ℕ → ℕ
least k =
    cond (eqb k phonon_kind.word) 44
    (cond (eqb k charge_kind.word) 32
    (cond (eqb k administrative_kind.word) 24
    (cond (eqb k trace_kind.word) 48
    (cond (eqb k history_kind.word) 16
    (cond (eqb k gps_kind.word) 12
    (cond (eqb k trigger_kind.word) 28
    (cond (eqb k tlb_kind.word) 24
    0)))))))

exactly : (n : ℕ) (cs b : List ℕ) → first (unless (eqb (length b) n) 6 ∷ cs) ≡ 0 → n ≤ length b
exactly n cs b e = let l : length b ≡ n = equal_passed (length b) n 5 (first-at _ e 0) in omega arith

at_least : (n : ℕ) (cs b : List ℕ) → first (unless (leb n (length b)) 6 ∷ cs) ≡ 0 → n ≤ length b
at_least n cs b e = most_passed n (length b) 5 (first-at _ e 0)

pub long_enough : (o : Order) (k : ℕ) (b : List ℕ) → record_rule o k b ≡ 0 → least k ≤ length b
unfolding phonon_rule charge_rule administrative_rule trace_rule history_rule gps_rule trigger_rule tlb_rule
long_enough o k b =
    kind_cases (λ w x. x.rule o b ≡ 0 → least w ≤ length b) k
    (exactly 44 _ b) (exactly 32 _ b) (exactly 24 _ b) (at_least 48 _ b) (at_least 16 _ b) (exactly 12 _ b) (exactly 28 _ b) (exactly 24 _ b)
    (λ e. absurd (omega arith))
