-- An event's records are valid one after the other exactly where their kinds are an event's and each is valid by itself.
-- The idea: by induction, with the kinds that came before in mind: what is still to come may follow them.
use Prim.Native.Nat.{ℕ, ◌+◌, ◌≤◌}
use mathlib.Core.Path.{◌≡◌, refl, sym, ◌∙◌, subst}
use mathlib.Core.Logic.{◌↔◌, ◌⊎◌, inl, inr, ⊎_elim, ◌≢◌}
use mathlib.Core.Bool.{Bool, true, false}
use mathlib.Core.List.{List, [], ◌∷◌}
use native.Mathlib.Omega.{arith}
use lib.Dec.{eqb}
use borrow.Author.Tests.{eqb-true, eqb-false, eq-eqb}
use Rattle.theory.specs.declared.Order.{Order}
use Rattle.note.specs.EventKinds.{IsEntryKind, IsRecordKind, occurs, MayFollow, StartsWith, EventKinds}
use Rattle.note.specs.Records.{Record, Context, entry, event, alone, unseen, is_kind, is_allowed, behind}
use Rattle.note.specs.Readings.{seen_after}
use Rattle.note.proofs.PlaceLaws.{one_more_seen, entry_kinds_exact, record_kinds_exact, all_kinds_exact, place_exact}
use Rattle.demands.specs.Valid.{ValidRecord, ValidRecords}
use Rattle.demands.specs.EventRecords.{kinds_of, EachValid, EventRecords, ConfigurationEntries}

-- ---- one record

-- A record that is valid in a context is valid alone; and alone it needs only the context's two tests.
by_itself : (o : Order) (c : Context) (r : Record) → IsEntryKind r.word ⊎ IsRecordKind r.word → ValidRecord o c r → ValidRecord o alone r
unfolding is_allowed
by_itself o c r k v = record {
  kind_allowed = (all_kinds_exact r.word).1 k;
  place_allowed = refl;
  kind_fits = v.kind_fits;
  length-fits = v.length-fits;
  body_bytes = v.body_bytes;
  body-rule = v.body-rule;
}

in_context : (o : Order) (c : Context) (r : Record) → is_kind c r.word ≡ true → is_allowed c r.word ≡ true → ValidRecord o alone r
    → ValidRecord o c r
in_context o c r k p v = record {
  kind_allowed = k;
  place_allowed = p;
  kind_fits = v.kind_fits;
  length-fits = v.length-fits;
  body_bytes = v.body_bytes;
  body-rule = v.body-rule;
}

-- ---- entries

pub configuration_entries_exact : (o : Order) (rs : List Record) → ValidRecords o entry rs ↔ ConfigurationEntries o rs
unfolding is_allowed behind
configuration_entries_exact o [] = (λ v. tt, λ v. tt)
configuration_entries_exact o (r ∷ rs) =
    let rest = configuration_entries_exact o rs in (
      λ v. let k = (entry_kinds_exact r.word).0 v.0.kind_allowed in ((k, by_itself o entry r (inl k) v.0), rest.0 v.1),
      λ v. (in_context o entry r ((entry_kinds_exact r.word).1 v.0.0) refl v.0.1, rest.1 v.1),
    )

-- ---- records

-- What is still to come may follow, one after the other.
abbrev Follow : List ℕ → List ℕ → Type 0
Follow before [] = Unit {0}
Follow before (k ∷ ks) = MayFollow before k × Follow (k ∷ before) ks

follow_valid : (o : Order) (before : List ℕ) (rs : List Record)
    → ValidRecords o (event (seen_after before)) rs ↔ (Follow before (kinds_of rs) × EachValid o IsRecordKind rs)
unfolding behind
follow_valid o before [] = (λ v. (tt, tt), λ v. tt)
follow_valid o before (r ∷ rs) =
    let c : Context = event (seen_after before) in
    let rest : ValidRecords o (behind c r.word) rs ↔ (Follow (r.word ∷ before) (kinds_of rs) × EachValid o IsRecordKind rs) =
    rw (one_more_seen before r.word) (follow_valid o (r.word ∷ before) rs) in (
      λ v.
          let k = (record_kinds_exact (seen_after before) r.word).0 v.0.kind_allowed in
          let (f, e) = rest.0 v.1 in
          (((place_exact before r.word k).0 v.0.place_allowed, f), ((k, by_itself o c r (inr k) v.0), e)),
      λ h.
          let ((m, f), ((k, v), e)) = h in
          (in_context o c r ((record_kinds_exact (seen_after before) r.word).1 k) ((place_exact before r.word k).1 m) v, rest.1 (f, e)),
    )

-- How often k occurs with one number more.
here : (x k : ℕ) (ks : List ℕ) → x ≡ k → occurs k (x ∷ ks) ≡ 1 + occurs k ks
here x k ks e = rw (eq-eqb x k e)

same_or_not : (x k : ℕ) → (x ≡ k) ⊎ (eqb x k ≡ false)
same_or_not x k = go (eqb x k) refl
  where
    go : (t : Bool) → eqb x k ≡ t → (x ≡ k) ⊎ (eqb x k ≡ false)
    go true e = inl (eqb-true x k e)
    go false e = inr e

there : (x k : ℕ) (ks : List ℕ) → eqb x k ≡ false → occurs k (x ∷ ks) ≡ occurs k ks
there x k ks e = rw e (omega arith)

-- Counted: the first is administrative where none came before, and before and behind together a kind but trace occurs once at most.
record Counted (before ks : List ℕ) : Type 0 where
  first : occurs 0x02 before ≡ 0 → StartsWith 0x02 ks
  once : (k : ℕ) → k ≢ 0x11 → occurs k before ≤ 1 → occurs k before + occurs k ks ≤ 1

follow_counted : (before ks : List ℕ) → Follow before ks → Counted before ks
follow_counted before [] f = record { first = λ z. tt; once = λ k d l. omega arith }
follow_counted before (x ∷ ks) f =
    let r : Counted (x ∷ before) ks = follow_counted (x ∷ before) ks f.1 in
    record {
      first = f.0.first;
      once = λ k d l. ⊎_elim
          (λ e.
          let none : occurs k before ≡ 0 = subst (λ (n : ℕ). occurs n before ≡ 0) e (f.0.once (λ t. d (sym e ∙ t))) in
          let b = here x k before e in
          let a = here x k ks e in
          let s = r.once k d (omega arith) in
          omega arith)
          (λ e.
          let b = there x k before e in
          let a = there x k ks e in
          let s = r.once k d (omega arith) in
          omega arith)
          (same_or_not x k);
    }

counted_follow : (before ks : List ℕ) → (occurs 0x02 before ≡ 0 → StartsWith 0x02 ks)
    → ((k : ℕ) → k ≢ 0x11 → occurs k before + occurs k ks ≤ 1) → Follow before ks
counted_follow before [] first once = tt
counted_follow before (x ∷ ks) first once = (
  record { first = first; once = λ d. let a = here x x ks refl in let s = once x d in omega arith },
  counted_follow (x ∷ before) ks
      (λ none. absurd (⊎_elim
      (λ e. let b = here x 0x02 before e in omega arith)
      (λ e. let b = there x 0x02 before e in let s = first (omega arith) in eqb-false x 0x02 e s)
      (same_or_not x 0x02)))
      (λ k d. let s = once k d in ⊎_elim
      (λ e. let b = here x k before e in let a = here x k ks e in omega arith)
      (λ e. let b = there x k before e in let a = there x k ks e in omega arith)
      (same_or_not x k)),
)

follow_exact : (ks : List ℕ) → Follow [] ks ↔ EventKinds ks
follow_exact ks = (
  λ f. let r = follow_counted [] ks f in record { first = r.first refl; once = λ k d. let s = r.once k d (omega arith) in omega arith },
  λ e. counted_follow [] ks (λ z. e.first) (λ k d. let s = e.once k d in omega arith),
)

-- What an event asks of its records' kinds is what counting them says (FORMAT 6.2): no more, and no less.
pub event_records_exact : (o : Order) (rs : List Record) → ValidRecords o (event unseen) rs ↔ EventRecords o rs
event_records_exact o rs =
    let v = follow_valid o [] rs in
    let k = follow_exact (kinds_of rs) in (
      λ h. let (f, e) = v.0 h in record { kinds = k.0 f; each = e },
      λ r. v.1 (k.1 r.kinds, r.each),
    )
