-- Where the samples stand: a part of the file, which is empty exactly where no trace was found.
-- The idea: what Record finds is either a refusal, or another kind, or a trace, whose body has 48 bytes before at least two samples.
use Prim.Native.Nat.{ℕ, ◌+◌, ◌≤◌, ◌<◌}
use mathlib.Core.Path.{◌≡◌, refl, ap, subst, ◌∙◌}
use mathlib.Core.List.{List}
use native.Mathlib.Decide.{ℕ_discrete}
use native.Mathlib.Omega.{arith}
use lib.ListN.{length}
use borrow.Author.Tests.{ne_eqb}
use Rattle.theory.specs.declared.Order.{Order}
use Rattle.theory.specs.Tests.{Res, ok, bad}
use Rattle.note.specs.Limits.{file_limit}
use Rattle.note.specs.Records.{Record}
use Rattle.note.specs.Calls.{record_found, samples_part, samples_at}
use Rattle.record.specs.Steps.{step_of}
use Rattle.answers.proofs.FoundLaws.{Found, good-found}
use Rattle.samples.proofs.SampleLaws.{empty-part, long, part_long, part-found, part-bytes}

-- What stands at a place, for one who asks for samples: none, or a part within the file.
pub data Stands (o : Order) (bs : List ℕ) (place : ℕ) : Type 0 where
  none : samples_part o bs place ≡ (0, 0) → length (samples_at o bs place) ≡ 0 → Stands o bs place
  part : (n : ℕ) → samples_part o bs place ≡ (place + 56, n) → length (samples_at o bs place) ≡ n → 0 < n → place + 56 + n ≤ file_limit
      → Stands o bs place

module _ (o : Order) (bs : List ℕ) (place : ℕ) where
  empty : samples_part o bs place ≡ (0, 0) → Stands o bs place
  empty e = none e (ap length (empty-part o bs place e))

  -- A trace that was found stands there with its samples.
  whole : (n : ℕ) → Found o bs place 0x11 n → Stands o bs place
  whole n g =
      part _ (part-found g) (ap length (part-bytes g) ∙ part_long g) (omega (arith, long g)) (omega (arith, g.fits, g.within, long g))

  pub stands : Stands o bs place
  unfolding step_of samples_part
  stands = go (record_found o bs place) refl
    where
      go : (r : Res Record) → record_found o bs place ≡ r → Stands o bs place
      go (bad c p) e = empty (rw e)
      go (ok r) e = elim (ℕ_discrete r.word 0x11) [
        | yes trace ↦ (let g : Found o bs place r.word (length r.body) = good-found o bs place _ _ (rw e) in
            whole _ (subst (λ (k : ℕ). Found o bs place k (length r.body)) trace g))
        | no other ↦ empty (rw (e, ne_eqb r.word 0x11 other))
      ]

-- The same as the code asks it: by the length of the part alone.
module _ (o : Order) (bs : List ℕ) (place : ℕ) {samples : List ℕ} (given : samples ≡ samples_at o bs place) where
  pub part_length : length samples ≡ (samples_part o bs place).1
  part_length = elim (stands o bs place) [
    | none e l ↦ rw (given, e) l
    | part n e l s w ↦ rw (given, e) l
  ]

  pub starts_at_none : length samples ≡ 0 → 0 ≡ (samples_part o bs place).0
  starts_at_none z = elim (stands o bs place) [
    | none e l ↦ rw e
    | part n e l s w ↦ absurd (omega (arith, z, ap length given, l, s))
  ]

  module _ (some : length samples ≡ 0 → ⊥) where
    pub starts_at_place : place + 56 ≡ (samples_part o bs place).0
    starts_at_place = elim (stands o bs place) [
      | none e l ↦ absurd (some (ap length given ∙ l))
      | part n e l s w ↦ rw e
    ]

    pub place-within : place + 56 ≤ file_limit
    place-within = elim (stands o bs place) [
      | none e l ↦ absurd (some (ap length given ∙ l))
      | part n e l s w ↦ omega (arith, w)
    ]

-- These laws, for the search.
pub ruleset places = (part_length, starts_at_none, starts_at_place, place-within)
