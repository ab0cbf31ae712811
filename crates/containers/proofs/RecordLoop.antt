-- The loop over records: what is known at each turn, and one law for each way of a turn.
-- The idea: the theory's loop over items, for the note's record item; a good step moves it on whatever else is done with the record.
use mathlib.Core.Path.{◌≡◌, refl, sym, ap, ◌∙◌, subst}
use mathlib.Core.List.{List, [], ◌∷◌, ◌++◌}
use Prim.Native.Nat.{ℕ, ◌+◌, ◌-◌, ◌≤◌, ◌<◌}
use native.Mathlib.Omega.{arith}
use lib.ListN.{length, take, drop, length-drop, length-append}
use lib.Seq.{take-length}
use Rattle.theory.specs.declared.Order.{Order}
use Rattle.theory.specs.Words.{Bytes}
use Rattle.theory.specs.Tests.{ok, bad}
use Rattle.theory.proofs.WordLaws.{Bytes-drop}
use Rattle.theory.proofs.LoopLaws.{At, start, ended, stopped, more}
use Rattle.note.specs.Records.{Record, Context, record_size, behind, read_record, read_records}
use Rattle.demands.proofs.Bundles.{record_item, same-records}
use Rattle.record.specs.Steps.{step_of}
use Rattle.record.proofs.StepLaws.{measure, Read, read-good, step_bad}
use Rattle.containers.specs.Counts.{count_of, record_count}

-- The record at the front, as its step says it.
abbrev pub record_at : ℕ → ℕ → List ℕ → Record
record_at k n rest = record { word = k; body = take n (drop 8 rest) }

-- What is left of a list after n bytes, as code cuts it.
abbrev pub behind_of : ℕ → List ℕ → List ℕ
behind_of n rest = take (length rest - n) (drop n rest)

pub left : (n : ℕ) (rest : List ℕ) → drop n rest ≡ behind_of n rest
left n rest = sym (take-length (drop n rest)) ∙ ap (λ (x : ℕ). take x (drop n rest)) (length-drop n rest)

pub length-behind : (n : ℕ) (rest : List ℕ) → length (behind_of n rest) ≡ length rest - n
length-behind n rest = ap length (sym (left n rest)) ∙ length-drop n rest

pub Bytes-behind : (n : ℕ) (rest : List ℕ) → Bytes rest → Bytes (behind_of n rest)
Bytes-behind n rest h = subst Bytes (left n rest) (Bytes-drop n rest h)

-- A record that was read moves the loop on.
pub on : {o : Order} {s₀ : Context} {from : ℕ} {bs : List ℕ} {s : Context} {at : ℕ} {rest : List ℕ} {xs : List Record}
    → At (record_item o) s₀ from bs s at rest xs → 0 < length rest
    → (k n : ℕ) → Read o s at rest k n → (s' : Context) → s' ≡ behind s k
    → At (record_item o) s₀ from bs s' (at + (8 + n)) (behind_of (8 + n) rest) (xs ++ record_at k n rest ∷ [])
unfolding read_record
on {o} {s₀} {from} {bs} {s} {at} {rest} {xs} i l k n g s' q =
    let a : Record = record_at k n rest in
    let z : record_size a ≡ 8 + n = ap (λ (x : ℕ). 8 + x) g.size in
    let m : At (record_item o) s₀ from bs (behind s k) (at + record_size a) (drop (record_size a) rest) (xs ++ a ∷ []) =
    more (record_item o) i l a g.reads (omega arith) (omega (arith, g.fits, z)) in
    let next : At (record_item o) s₀ from bs (behind s k) (at + (8 + n)) (drop (8 + n) rest) (xs ++ a ∷ []) =
    subst (λ (x : ℕ). At (record_item o) s₀ from bs (behind s k) (at + x) (drop x rest) (xs ++ a ∷ [])) z m in
    subst (λ (t : Context). At (record_item o) s₀ from bs t (at + (8 + n)) (behind_of (8 + n) rest) (xs ++ a ∷ [])) (sym q)
    (subst (λ (r : List ℕ). At (record_item o) s₀ from bs (behind s k) (at + (8 + n)) r (xs ++ a ∷ [])) (left (8 + n) rest) next)

-- Counting: so many records were read.
pub record Counting (o : Order) (s₀ : Context) (from : ℕ) (bs : List ℕ) (s : Context) (at : ℕ) (rest : List ℕ) (count : ℕ) : Type 0 where
  pub xs : List Record
  pub is : At (record_item o) s₀ from bs s at rest xs
  pub size : length xs ≡ count
  pub low : from + count ≤ at

pub begin : (o : Order) (s : Context) (from : ℕ) (bs : List ℕ) → Counting o s from bs s from bs 0
begin o s from bs = record { xs = []; is = start (record_item o) s from bs; size = refl; low = omega arith }

module _ {o : Order} {s₀ : Context} {from : ℕ} {bs : List ℕ} {s : Context} {at : ℕ} {rest : List ℕ} {count : ℕ}
    (i : Counting o s₀ from bs s at rest count) where
  pub place : at + length rest ≡ from + length bs
  place = i.is.place

  pub low : from + count ≤ at
  low = i.low

  pub done : length rest ≤ 0 → ok count ≡ record_count (read_records o s₀ from bs)
  unfolding count_of
  done h = ap ok (sym i.size) ∙ ap record_count (ended (record_item o) i.is (omega arith) ∙ sym (same-records o s₀ from bs))

  pub refused : 0 < length rest → (c p : ℕ) → bad c p ≡ step_of (read_record o s at rest)
      → bad c p ≡ record_count (read_records o s₀ from bs)
  unfolding count_of read_record
  refused l c p e = ap record_count (stopped (record_item o) i.is l c p (step_bad (read_record o s at rest) c p e) ∙ sym (same-records o s₀ from bs))

  module _ (l : 0 < length rest) (k n : ℕ) (e : ok (measure k n) ≡ step_of (read_record o s at rest)) where
    pub next : (s' : Context) → s' ≡ behind s k
        → Counting o s₀ from bs s' (at + (8 + n)) (behind_of (8 + n) rest) (count + 1)
    next s' q = record {
      xs = i.xs ++ record_at k n rest ∷ [];
      is = on i.is l k n (read-good o s at rest k n e) s' q;
      size = length-append i.xs (record_at k n rest ∷ []) ∙ omega (arith, i.size);
      low = omega (arith, i.low);
    }
