-- The tables of letters say what the lists of channels say.
-- The idea: nothing is listed past type 11 or channel 11, and antt computes both sides at the 144 places that are left.
use Prim.Native.Nat.{ℕ, ◌≤◌}
use mathlib.Core.Path.{◌≡◌, refl, ap}
use mathlib.Core.Logic.{by_cases}
use mathlib.Core.Bool.{Bool, true, false, false≢true, and-eq-true_iff}
use mathlib.Core.List.{List}
use mathlib.Core.Option.{none, some}
use mathlib.Core.Option as Lists
use native.Mathlib.Omega.{arith}
use native.Mathlib.Decide.{dec_le}
use lib.Dec.{eqb}
use borrow.Author.Tests.{eqb-true}
use borrow.Author.Rules.{rules}
use Rattle.std.proofs.Common.{Option, Some, None}
use Rattle.note.specs.Channels.{Channel, numbered, same}
use Rattle.note.specs.declared.Name.{Name}
use Rattle.note.proofs.ChannelLaws.{number_small, same_equal}
use Rattle.note.proofs.Computing.{computing}
use Rattle.note.proofs.Sweep.{all_pairs, all_pairs_at}
use Rattle.channels.specs.Tables.{looked_up, table_of, analysis_of, cold_of, same_name}

-- Two names that may be missing are the same.
abbrev equal : Option Name → Option Name → Bool
equal None None = true
equal None (Some n) = false
equal (Some m) None = false
equal (Some m) (Some n) = same_name m n

pub same-name-true : (m n : Name) → same_name m n ≡ true → m ≡ n
same-name-true m n e =
    let s = (and-eq-true_iff (same m.bytes n.bytes) (eqb m.length n.length)).0 e in
    let p = same_equal m.bytes n.bytes s.0 in
    let q = eqb-true m.length n.length s.1 in
    λ i. record { bytes = p i; length = q i }

equal-true : (a b : Option Name) → equal a b ≡ true → a ≡ b
equal-true None None e = refl
equal-true None (Some n) e = absurd (false≢true e)
equal-true (Some m) None e = absurd (false≢true e)
equal-true (Some m) (Some n) e = ap (λ (n : Name). Some n) (same-name-true m n e)

-- A table that agrees with the lists up to type 11 and channel 11 agrees with them everywhere.
module _ (t : List ℕ) (f : Lists.Option Channel → Option Name) (nothing : f none ≡ None) where
  abbrev equal_at : ℕ → ℕ → Bool
  equal_at k c = equal (looked_up t k c) (f (numbered k c))

  past : (k c : ℕ) → ((k ≤ 11) × (c ≤ 11) → ⊥) → looked_up t k c ≡ f (numbered k c)
  unfolding looked_up
  past k c h = go (numbered k c) refl
    where
      go : (o : Lists.Option Channel) → numbered k c ≡ o → looked_up t k c ≡ f o
      go none q = by_cases (dec_le k 11) (λ l. rw nothing (search rules)) (λ g. rw nothing (search rules))
      go (some x) q = absurd (h (number_small k c x q))

  table_agrees : all_pairs equal_at 12 ≡ true → (k c : ℕ) → looked_up t k c ≡ f (numbered k c)
  table_agrees e k c =
      by_cases (dec_le k 11)
      (λ h. by_cases (dec_le c 11)
      (λ l. equal-true _ _ (all_pairs_at equal_at 12 e k c (omega arith) (omega arith)))
      (λ g. past k c (λ s. g s.1)))
      (λ g. past k c (λ s. g s.0))

-- The tables that the lists give.
pub analysis_table : (k c : ℕ) → looked_up (table_of (λ x. x.analysis)) k c ≡ analysis_of (numbered k c)
unfolding computing looked_up analysis_of
analysis_table = table_agrees (table_of (λ x. x.analysis)) analysis_of refl refl

pub cold_table : (k c : ℕ) → looked_up (table_of (λ x. x.cold)) k c ≡ cold_of (numbered k c)
unfolding computing looked_up cold_of
cold_table = table_agrees (table_of (λ x. x.cold)) cold_of refl refl
