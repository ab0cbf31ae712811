-- A run: records of one length word, one after the other; what is known at each turn in it, and one law for each way of a turn.
-- The idea: whatever was counted where the run begins, its records are counted behind that; a good record is as long as its length word says, so
-- the step over it is the known one.
use mathlib.Core.Path.{◌≡◌, sym, ◌∙◌, subst}
use mathlib.Core.List.{List}
use Prim.Native.Nat.{ℕ, ◌+◌, ◌≤◌, ◌<◌}
use native.Mathlib.Omega.{arith}
use lib.ListN.{length}
use Rattle.theory.specs.declared.Order.{Order}
use Rattle.theory.specs.Tests.{ok, bad}
use Rattle.note.specs.Words.{word}
use Rattle.note.specs.Records.{Context, behind, read_record, read_records}
use Rattle.record.specs.Steps.{step_of}
use Rattle.record.proofs.StepLaws.{measure, read-good}
use Rattle.containers.specs.Counts.{record_count}
use Rattle.containers.proofs.RecordLoop as loop
use Rattle.containers.proofs.RecordLoop.{Counting, behind_of, length-behind}

-- The rest goes on with the known length word, if it has one.
abbrev pub Alike : Order → ℕ → List ℕ → Type 0
Alike o known rest = (0 < length rest) × (8 ≤ length rest → known ≡ word o 4 rest)

-- The run began at s₁, at₁, rest₁, count₁.
pub record Run (o : Order) (from : ℕ) (bs : List ℕ) (s₁ : Context) (at₁ : ℕ) (rest₁ : List ℕ) (count₁ known : ℕ)
    (s : Context) (at : ℕ) (rest : List ℕ) (count : ℕ) : Type 0 where
  pub counts : (s₀ : Context) → Counting o s₀ from bs s₁ at₁ rest₁ count₁ → Counting o s₀ from bs s at rest count
  pub alike : Alike o known rest
  pub within : length rest ≤ length rest₁

pub begin : (o : Order) (from : ℕ) (bs : List ℕ) (s : Context) (at : ℕ) (rest : List ℕ) (count known : ℕ) → Alike o known rest
    → Run o from bs s at rest count known s at rest count
begin o from bs s at rest count known a = record { counts = λ s₀ i. i; alike = a; within = omega arith }

module _ {o : Order} {from : ℕ} {bs : List ℕ} {s₁ : Context} {at₁ : ℕ} {rest₁ : List ℕ} {count₁ known : ℕ}
    {s : Context} {at : ℕ} {rest : List ℕ} {count : ℕ} (r : Run o from bs s₁ at₁ rest₁ count₁ known s at rest count) where
  -- What is left behind the known step.
  abbrev rest' : List ℕ
  rest' = behind_of (8 + known) rest

  pub refused : (s₀ : Context) → Counting o s₀ from bs s₁ at₁ rest₁ count₁
      → (c p : ℕ) → bad c p ≡ step_of (read_record o s at rest)
      → bad c p ≡ record_count (read_records o s₀ from bs)
  refused s₀ i c p e = loop.refused (r.counts s₀ i) r.alike.0 c p e

  module _ (k n : ℕ) (e : ok (measure k n) ≡ step_of (read_record o s at rest)) where
    known_is : n ≡ known
    known_is = let g = read-good o s at rest k n e in g.length-is ∙ sym (r.alike.1 (omega (arith, g.fits)))

    step : ok (measure k known) ≡ step_of (read_record o s at rest)
    step = subst (λ (x : ℕ). ok (measure k x) ≡ step_of (read_record o s at rest)) known_is e

    pub fits : 8 + known ≤ length rest
    fits = (read-good o s at rest k known step).fits

    -- Behind the record, whether or not the run goes on.
    pub more : (s₀ : Context) → Counting o s₀ from bs s₁ at₁ rest₁ count₁
        → (s' : Context) → s' ≡ behind s k → Counting o s₀ from bs s' (at + (8 + known)) rest' (count + 1)
    more s₀ i s' q = loop.next (r.counts s₀ i) r.alike.0 k known step s' q

    pub shorter : length rest' < length rest₁
    shorter = omega (arith, length-behind (8 + known) rest, fits, r.within)

    pub next : (s' : Context) → s' ≡ behind s k → (8 ≤ length rest') × (known ≡ word o 4 rest')
        → Run o from bs s₁ at₁ rest₁ count₁ known s' (at + (8 + known)) rest' (count + 1)
    next s' q a = record {
      counts = λ s₀ i. more s₀ i s' q;
      alike = (omega (arith, a.0), λ l. a.1);
      within = omega (arith, shorter);
    }
