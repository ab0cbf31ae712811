-- The order within a structure: what is asked of a header, of a record or entry, of a configuration and of an event, with the number
-- given at its first byte where something isn't so; else it is read on.
-- The idea: a reader's chain of tests is one list, and each test tells its statement.
use Prim.Native.Nat.{ℕ, zero, suc, ◌+◌}
use mathlib.Core.Path.{◌≡◌, refl, sym, subst}
use mathlib.Core.Logic.{◌↔◌, ◌⊎◌, inl, inr, ⊎_elim}
use mathlib.Core.List.{List, [], ◌∷◌}
use lib.Dec.{leb}
use lib.ListN.{length}
use Rattle.theory.specs.declared.Order.{Order}
use Rattle.theory.specs.Tests.{ok, need, bind, unless, first}
use Rattle.note.specs.Asked.{Answers}
use Rattle.note.specs.EventKinds.{IsEntryKind, IsRecordKind, MayFollow}
use Rattle.note.specs.Words.{word}
use Rattle.note.specs.Records.{Record, Seen, Context, entry, event, alone, unseen, is_kind, is_allowed, kind_of, record_rule, read_record}
use Rattle.note.specs.Events.{read_event}
use Rattle.note.specs.Files.{version_rule, read_header, read_configuration}
use Rattle.note.specs.Rules.{PhononAsked, ChargeAsked, AdministrativeAsked, TraceAsked, HistoryAsked, GpsAsked, TriggerAsked, TlbAsked, RuleAsked}
use Rattle.note.specs.Readings.{
  seen_after,
  body_of,
  RecordAsked,
  record_read,
  VersionParts,
  HeaderAsked,
  contents_read,
  ConfigurationAsked,
  EventParts,
  EventOwnAsked,
}
use Rattle.note.proofs.BoolLaws.{Tells, le_tells, eq_tells}
use Rattle.note.proofs.AskedLaws.{Gives, no_more, asked, asked_where, gives_alone, gate, last_gate, answers}
use Rattle.note.proofs.RuleLaws.{phonon_rule_exact, charge_rule_exact, administrative_rule_exact, trace_rule_exact}
use Rattle.note.proofs.RuleLaws.{history_rule_exact, trigger_rule_exact, tlb_rule_exact}
use Rattle.note.proofs.GpsRuleLaws.{gps_rule_exact}
use Rattle.note.proofs.WordRuleLaws.{word_gives, version_gives}
use Rattle.note.proofs.PlaceLaws.{entry_kinds_exact, record_kinds_exact, all_kinds_exact, place_exact}

-- ---- a record or an entry

module _ (o : Order) (k : ℕ) (b : List ℕ) (c : ℕ) where
  -- A kind word stands for its number, and its rule gives what is asked.
  at-kind : {Asked : ℕ → Type 0} (x : ℕ) → ((c : ℕ) → (record_rule o x b ≡ c) ↔ Asked c) → k ≡ x → (record_rule o k b ≡ c) ↔ Asked c
  at-kind {Asked} x exact e = subst (λ (n : ℕ). (record_rule o n b ≡ c) ↔ Asked c) (sym e) (exact c)

  phonon : k ≡ 0x00010001 → (record_rule o k b ≡ c) ↔ PhononAsked o b c
  unfolding kind_of
  phonon = at-kind 0x00010001 (phonon_rule_exact o b)

  charge : k ≡ 0x00010002 → (record_rule o k b ≡ c) ↔ ChargeAsked o b c
  unfolding kind_of
  charge = at-kind 0x00010002 (charge_rule_exact o b)

  administrative : k ≡ 0x02 → (record_rule o k b ≡ c) ↔ AdministrativeAsked o b c
  unfolding kind_of
  administrative = at-kind 0x02 (administrative_rule_exact o b)

  trace : k ≡ 0x11 → (record_rule o k b ≡ c) ↔ TraceAsked o b c
  unfolding kind_of
  trace = at-kind 0x11 (trace_rule_exact o b)

  history : k ≡ 0x21 → (record_rule o k b ≡ c) ↔ HistoryAsked o b c
  unfolding kind_of
  history = at-kind 0x21 (history_rule_exact o b)

  gps : k ≡ 0x60 → (record_rule o k b ≡ c) ↔ GpsAsked o b c
  unfolding kind_of
  gps = at-kind 0x60 (gps_rule_exact o b)

  trigger : k ≡ 0x80 → (record_rule o k b ≡ c) ↔ TriggerAsked o b c
  unfolding kind_of
  trigger = at-kind 0x80 (trigger_rule_exact o b)

  tlb : k ≡ 0x81 → (record_rule o k b ≡ c) ↔ TlbAsked o b c
  unfolding kind_of
  tlb = at-kind 0x81 (tlb_rule_exact o b)

  -- The rule of a listed kind gives what is asked of that kind's body.
  pub rule_exact : IsEntryKind k ⊎ IsRecordKind k → (record_rule o k b ≡ c) ↔ RuleAsked o k b c
  rule_exact listed = (
    λ h. ⊎_elim
        (⊎_elim (λ e. inl (e, (phonon e).0 h)) (λ e. inr (inl (e, (charge e).0 h))))
        (λ r. inr (inr (
        ⊎_elim (λ e. inl (e, (administrative e).0 h)) (λ r. inr (
        ⊎_elim (λ e. inl (e, (trace e).0 h)) (λ r. inr (
        ⊎_elim (λ e. inl (e, (history e).0 h)) (λ r. inr (
        ⊎_elim (λ e. inl (e, (gps e).0 h)) (λ r. inr (
        ⊎_elim (λ e. inl (e, (trigger e).0 h)) (λ e. inr (e, (tlb e).0 h)) r)) r)) r)) r)) r))) listed,
    ⊎_elim (λ g. (phonon g.0).1 g.1) (
        ⊎_elim (λ g. (charge g.0).1 g.1) (
        ⊎_elim (λ g. (administrative g.0).1 g.1) (
        ⊎_elim (λ g. (trace g.0).1 g.1) (
        ⊎_elim (λ g. (history g.0).1 g.1) (
        ⊎_elim (λ g. (gps g.0).1 g.1) (
        ⊎_elim (λ g. (trigger g.0).1 g.1) (
        λ g. (tlb g.0).1 g.1))))))),
  )

-- In any context whose two tests tell these.
module _ (o : Order) (c : Context) (Allowed Placed : ℕ → Type 0) (kinds : (k : ℕ) → Tells (is_kind c k) (Allowed k))
    (places : (k : ℕ) → Allowed k → Tells (is_allowed c k) (Placed k)) (listed : (k : ℕ) → Allowed k → IsEntryKind k ⊎ IsRecordKind k) where
  tests : List ℕ → List ℕ
  tests bs =
      unless (leb 8 (length bs)) 2 ∷
      unless (is_kind c (word o 0 bs)) 5 ∷
      unless (leb (8 + word o 4 bs) (length bs)) 2 ∷
      unless (is_allowed c (word o 0 bs)) 9 ∷
      record_rule o (word o 0 bs) (body_of o bs) ∷ []

  tests_give : (bs : List ℕ) → Gives (tests bs) (RecordAsked o Allowed Placed bs)
  unfolding tests
  tests_give bs =
      asked (le_tells 8 (length bs)) (
      asked_where (kinds (word o 0 bs)) (λ a.
      asked (le_tells (8 + word o 4 bs) (length bs)) (
      asked (places (word o 0 bs) a) (
      gives_alone (λ n. rule_exact o (word o 0 bs) (body_of o bs) n (listed (word o 0 bs) a))))))

  -- A body's fault is the record's.
  body-need : (n at k : ℕ) (b : List ℕ)
      → bind {B = Record} (need n at (ok b)) (λ x. ok (record { word = k; body = x }))
      ≡ need (first (n ∷ [])) at (ok (record { word = k; body = b }))
  unfolding first
  body-need zero at k b = refl
  body-need (suc n) at k b = refl

  record_answers : (at : ℕ) (bs : List ℕ) → Answers (read_record o c at bs) at (RecordAsked o Allowed Placed bs) (record_read o bs)
  unfolding read_record tests
  record_answers at bs =
      answers (tests bs) (tests_give bs) (
      gate _ at _ _ (gate _ at _ _ (gate _ at _ _ (gate _ at _ _
      (body-need (record_rule o (word o 0 bs) (body_of o bs)) at (word o 0 bs) (body_of o bs))))))

-- As an entry of a configuration, in an event after records of these kinds, and alone, as Record reads it: up to the end of the bytes, and
-- nothing asked of what came before.
pub entry_answers : (o : Order) (at : ℕ) (bs : List ℕ)
    → Answers (read_record o entry at bs) at (RecordAsked o IsEntryKind (λ k. Unit {0}) bs) (record_read o bs)
unfolding is_allowed
entry_answers o = record_answers o entry IsEntryKind (λ k. Unit {0}) entry_kinds_exact (λ k a. (λ e. tt, λ u. refl)) (λ k a. inl a)

pub record_in_event_answers : (o : Order) (before : List ℕ) (at : ℕ) (bs : List ℕ)
    → Answers (read_record o (event (seen_after before)) at bs) at (RecordAsked o IsRecordKind (MayFollow before) bs) (record_read o bs)
record_in_event_answers o before =
    let seen : Seen = seen_after before in
    record_answers o (event seen) IsRecordKind (MayFollow before) (record_kinds_exact seen) (place_exact before) (λ k a. inr a)

pub record_alone_answers : (o : Order) (at : ℕ) (bs : List ℕ)
    → Answers (read_record o alone at bs) at (RecordAsked o (λ k. IsEntryKind k ⊎ IsRecordKind k) (λ k. Unit {0}) bs) (record_read o bs)
unfolding is_allowed
record_alone_answers o =
    record_answers o alone (λ k. IsEntryKind k ⊎ IsRecordKind k) (λ k. Unit {0}) all_kinds_exact (λ k a. (λ e. tt, λ u. refl)) (λ k a. a)

-- ---- the header and the containers

pub header_answers : (o : Order) (at : ℕ) (bs : List ℕ) (daq_major daq_minor major minor : ℕ)
    → VersionParts (word o 4 bs) daq_major daq_minor major minor
    → Answers (read_header o at bs) at (HeaderAsked o major minor bs) (ok (word o 4 bs))
unfolding read_header
header_answers o at bs daq_major daq_minor major minor p =
    answers (_ ∷ _ ∷ _ ∷ []) (
    asked (le_tells 8 (length bs)) (asked (eq_tells (word o 0 bs) 0x01020304) (version_gives (word o 4 bs) daq_major daq_minor major minor p))) (
    gate _ at _ _ (gate _ at _ _ (last_gate (version_rule (word o 4 bs)) at (ok (word o 4 bs)))))

pub configuration_answers : (o : Order) (at : ℕ) (bs : List ℕ)
    → Answers (read_configuration o at bs) at (ConfigurationAsked o bs) (contents_read o entry at bs)
unfolding read_configuration
configuration_answers o at bs =
    answers (_ ∷ _ ∷ _ ∷ []) (
    asked (le_tells 8 (length bs)) (asked (eq_tells (word o 0 bs) 0x00010000) (asked (le_tells (8 + word o 4 bs) (length bs)) no_more))) (
    gate _ at _ _ (gate _ at _ _ (last_gate _ at (contents_read o entry at bs))))

pub event_answers : (o : Order) (at : ℕ) (bs : List ℕ) (mark class category type : ℕ) → EventParts (word o 0 bs) mark class category type
    → Answers (read_event o at bs) at (EventOwnAsked o mark class category type bs) (contents_read o (event unseen) at bs)
unfolding read_event
event_answers o at bs mark class category type p =
    answers (_ ∷ _ ∷ _ ∷ _ ∷ []) (
    asked (le_tells 8 (length bs)) (
    word_gives (word o 0 bs) mark class category type p (
    asked (le_tells (8 + word o 4 bs) (length bs)) (
    asked (le_tells 1 (word o 4 bs)) no_more)))) (
    gate _ at _ _ (gate _ at _ _ (gate _ at _ _ (last_gate _ at (contents_read o (event unseen) at bs)))))
