-- Over all kinds: the fields read from an accepted body, written again, restore the body.
-- The idea: what holds of each kind holds of the kind that a kind word names.
use mathlib.Core.Path.{◌≡◌}
use mathlib.Core.List.{List}
use Prim.Native.Nat.{ℕ}
use native.Mathlib.Omega.{arith}
use Rattle.theory.specs.declared.Order.{Order}
use Rattle.theory.specs.Words.{Bytes}
use Rattle.note.specs.Kinds.{Kind}
use Rattle.note.specs.Records.{kind_of, record_rule}
use Rattle.note.proofs.KindCases.{kind_cases}
use Rattle.note.proofs.FieldLaws.{phonon_restored, charge_restored, administrative_restored, trigger_restored, tlb_restored}
use Rattle.note.proofs.TraceLaws.{trace_restored}
use Rattle.note.proofs.HistoryLaws.{history_restored}
use Rattle.note.proofs.GpsLaws.{gps_restored}

abbrev Restores : Order → Kind → Type 0
Restores o x = (b : List ℕ) → Bytes b → x.rule o b ≡ 0 → x.again o b ≡ b

-- No kind word is asked for: what no kind word names is never accepted.
pub again_restores : (o : Order) → (k : ℕ) (b : List ℕ) → Bytes b → record_rule o k b ≡ 0 → (kind_of k).again o b ≡ b
again_restores o k =
    kind_cases (λ w x. Restores o x) k
    (phonon_restored o) (charge_restored o) (administrative_restored o) (trace_restored o)
    (history_restored o) (gps_restored o) (trigger_restored o) (tlb_restored o)
    (λ b h e. absurd (omega arith))
