-- What may follow in an event, said a second time: by counting kinds in place of what a reader keeps in mind.
-- The idea: what it keeps in mind is, for each of five kinds, whether that kind occurs among those before.
use Prim.Native.Nat.{ℕ, ◌+◌, ◌≤◌}
use mathlib.Core.Path.{◌≡◌, refl, sym, subst}
use mathlib.Core.Logic.Iff
use mathlib.Core.Logic.{◌↔◌, ◌⊎◌, inl, inr, ⊎_elim, ◌≢◌, by_cases}
use mathlib.Core.Bool.{Bool, true, false, not, cond, ◌&&◌, ◌||◌, false≢true}
use mathlib.Core.List.{List, [], ◌∷◌}
use native.Mathlib.Omega.{arith}
use native.Mathlib.Decide.{dec_le}
use lib.Dec.{eqb}
use borrow.Author.Tests.{eqb-false}
use Rattle.note.specs.Asked.{OneOf}
use Rattle.note.specs.EventKinds.{IsEntryKind, IsRecordKind, occurs, MayFollow}
use Rattle.note.specs.Records.{Seen, entry_kinds, record_kinds, entry, event, alone, is_kind, is_placed, is_allowed, noted}
use Rattle.note.specs.Readings.{has_kind, seen_after}
use Rattle.note.proofs.BoolLaws.{Tells, both_tell, either_tells, among_tells}

-- One record more, kept in mind, is one kind more in front.
pub one_more_seen : (ks : List ℕ) (k : ℕ) → noted (seen_after ks) k ≡ seen_after (k ∷ ks)
unfolding noted
one_more_seen ks k = refl

has_tells : (k : ℕ) (ks : List ℕ) → Tells (has_kind k ks) (1 ≤ occurs k ks)
has_tells k [] = (λ e. absurd (false≢true e), λ h. absurd (omega arith))
has_tells k (x ∷ xs) = go (eqb x k) (has_tells k xs)
  where
    go : (t : Bool) → Tells (has_kind k xs) (1 ≤ occurs k xs) → Tells (t || has_kind k xs) (1 ≤ cond t 1 0 + occurs k xs)
    go true rest = (λ e. omega arith, λ h. refl)
    go false rest = (λ e. let l = rest.0 e in omega arith, λ h. rest.1 (omega arith))

hasn't_tells : (k : ℕ) (ks : List ℕ) → Tells (not (has_kind k ks)) (occurs k ks ≡ 0)
hasn't_tells k ks = go (has_kind k ks) (has_tells k ks)
  where
    go : (t : Bool) → Tells t (1 ≤ occurs k ks) → Tells (not t) (occurs k ks ≡ 0)
    go true told = (λ e. absurd (false≢true e), λ h. absurd (let l = told.0 refl in omega arith))
    go false told = (λ e. by_cases (dec_le (occurs k ks) 0) (λ z. omega arith) (λ g. absurd (false≢true (told.1 (omega arith)))), λ h. refl)

-- The kinds that a reader admits are these.
one_of : (x y k : ℕ) → OneOf (x ∷ y ∷ []) k ↔ ((k ≡ x) ⊎ (k ≡ y))
one_of x y k = (⊎_elim inl (⊎_elim inr (λ h. absurd h)), ⊎_elim inl (λ e. inr (inl e)))

pub entry_kinds_exact : (k : ℕ) → (is_kind entry k ≡ true) ↔ IsEntryKind k
unfolding is_kind
entry_kinds_exact k = Iff.trans (among_tells entry_kinds k) (one_of 0x00010001 0x00010002 k)

record_kinds_lem : (k : ℕ) → OneOf record_kinds k ↔ IsRecordKind k
record_kinds_lem k = (
  ⊎_elim inl (λ a. inr (⊎_elim inl (λ b. inr (⊎_elim inl (λ c. inr (⊎_elim inl (λ d. inr (⊎_elim inl
      (λ e. inr (⊎_elim (λ f. f) (λ h. absurd h) e)) d)) c)) b)) a)),
  ⊎_elim inl (λ a. inr (⊎_elim inl (λ b. inr (⊎_elim inl (λ c. inr (⊎_elim inl (λ d. inr (⊎_elim inl
      (λ e. inr (inl e)) d)) c)) b)) a)),
)

pub record_kinds_exact : (seen : Seen) (k : ℕ) → (is_kind (event seen) k ≡ true) ↔ IsRecordKind k
unfolding is_kind
record_kinds_exact seen k = Iff.trans (among_tells record_kinds k) (record_kinds_lem k)

pub all_kinds_exact : (k : ℕ) → (is_kind alone k ≡ true) ↔ (IsEntryKind k ⊎ IsRecordKind k)
unfolding is_kind
all_kinds_exact k =
    either_tells (Iff.trans (among_tells entry_kinds k) (one_of 0x00010001 0x00010002 k))
    (Iff.trans (among_tells record_kinds k) (record_kinds_lem k))

-- A record is allowed after others exactly where it may follow them.
module _ (before : List ℕ) where
  abbrev Right : ℕ → Type 0
  Right k = Tells (is_allowed (event (seen_after before)) k) (MayFollow before k)

  -- A kind that isn't administrative and occurs once.
  later : (k : ℕ) → k ≢ 0x02 → k ≢ 0x11 → Tells (has_kind 0x02 before && not (has_kind k before)) (MayFollow before k)
  later k a t =
      let told : Tells (has_kind 0x02 before && not (has_kind k before)) ((1 ≤ occurs 0x02 before) × (occurs k before ≡ 0)) =
      both_tell (has_tells 0x02 before) (hasn't_tells k before) in (
        λ e. let (l, z) = told.0 e in record { first = λ none. absurd (omega arith); once = λ d. z },
        λ m. told.1 (by_cases (dec_le 1 (occurs 0x02 before)) (λ l. l) (λ g. absurd (a (m.first (omega arith)))), m.once t),
      )

  administrative_right : Right 0x02
  unfolding is_allowed is_placed
  administrative_right = (
    λ e. record { first = λ none. refl; once = λ d. (hasn't_tells 0x02 before).0 e },
    λ m. (hasn't_tells 0x02 before).1 (m.once (λ e. absurd (omega arith))),
  )

  trace_right : Right 0x11
  unfolding is_allowed is_placed
  trace_right =
      let told : Tells (has_kind 0x02 before && true) ((1 ≤ occurs 0x02 before) × Unit {0}) =
      both_tell (has_tells 0x02 before) (λ e. tt, λ u. refl) in (
        λ e. let (l, u) = told.0 e in record { first = λ none. absurd (omega arith); once = λ d. absurd (d refl) },
        λ m. told.1 (by_cases (dec_le 1 (occurs 0x02 before)) (λ l. l) (λ g. let z = m.first (omega arith) in absurd (omega arith)), tt),
      )

  pub place_exact : (k : ℕ) → IsRecordKind k → (is_allowed (event (seen_after before)) k ≡ true) ↔ MayFollow before k
  unfolding is_allowed is_placed
  place_exact k h =
      let other : (x : ℕ) → k ≡ x → Right x → Right k = λ x e r. subst Right (sym e) r in
      let differ : (x y : ℕ) → eqb x y ≡ false → x ≢ y = λ x y e. eqb-false x y e in
      ⊎_elim (λ e. other 0x02 e administrative_right) (
      ⊎_elim (λ e. other 0x11 e trace_right) (
      ⊎_elim (λ e. other 0x21 e (later 0x21 (differ _ _ refl) (differ _ _ refl))) (
      ⊎_elim (λ e. other 0x60 e (later 0x60 (differ _ _ refl) (differ _ _ refl))) (
      ⊎_elim (λ e. other 0x80 e (later 0x80 (differ _ _ refl) (differ _ _ refl)))
      (λ e. other 0x81 e (later 0x81 (differ _ _ refl) (differ _ _ refl))))))) h
