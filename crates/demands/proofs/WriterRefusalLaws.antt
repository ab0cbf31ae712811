-- What a writer or a closing refuses, exactly.
-- The idea: a test in front of an answer refuses by itself or leaves the answer; each definition is such tests one after the other.
use Prim.Native.Nat.{ℕ, zero, suc, ◌+◌, ◌-◌, ◌≤◌, ◌<◌}
use mathlib.Core.Path.{◌≡◌, refl, sym, ap₂, ◌∙◌}
use mathlib.Core.Logic.{◌↔◌, ◌⊎◌, inl, inr, ⊎_elim, ◌≢◌, by_cases}
use mathlib.Core.Bool.{Bool, true, false}
use mathlib.Core.List.{List, [], ◌∷◌}
use native.Mathlib.Omega.{arith}
use native.Mathlib.Decide.{dec_le}
use lib.Dec.{leb}
use lib.ListN.{length}
use borrow.Author.Tests.{leb-true, leb-false}
use Rattle.theory.specs.declared.Order.{Order}
use Rattle.theory.specs.Tests.{Res, ok, bad, need, unless, first}
use Rattle.theory.proofs.TestLaws.{ok-bad, ok_inj, need-ok, most_passed, most_passes}
use Rattle.note.specs.Limits.{file_limit}
use Rattle.note.specs.Records.{Record, Context, entry, event, unseen, read_records}
use Rattle.note.specs.Events.{event_fault, event_word, event_late}
use Rattle.note.specs.Writers.{Draft, writer_next, record_next, header_next, contents_of, end_given, within, configuration_closed, event_closed}
use Rattle.note.specs.Asked.{asks, fine}
use Rattle.note.specs.Readings.{EventAsked}
use Rattle.note.proofs.AskedLaws.{Gives, no_more, asked, gate, last_gate}
use Rattle.note.proofs.BoolLaws.{Tells, le_tells}
use Rattle.note.proofs.WordRuleLaws.{event_gives}
use Rattle.demands.specs.WriterRefusals.{WriterRefused, output_over, field_fault, no_room, WriterGranted}
use Rattle.demands.specs.WriterRefusals.{Lies, ClosingRefused, closing-over, closing-room, own-word, contents}

-- ---- one test in front of an answer

bad-same : {A : Type 0} {c p d q : ℕ} → ◌≡◌ {A = Res A} (bad c p) (bad d q) → (c ≡ d) × (p ≡ q)
bad-same e = (cc, cc)

-- A number in front: it refuses by itself, or the answer behind it does.
abbrev Refuses : {A : Type 0} → ℕ → ℕ → Res A → ℕ → ℕ → Type 0
Refuses n at r c p = ((n ≢ 0) × (c ≡ n) × (p ≡ at)) ⊎ ((n ≡ 0) × (r ≡ bad c p))

need-bad : {A : Type 0} (n at : ℕ) (r : Res A) (c p : ℕ) → (need n at r ≡ bad c p) ↔ Refuses n at r c p
need-bad zero at r c p = (λ e. inr (refl, e), ⊎_elim (λ h. absurd (h.0 refl)) (λ h. h.1))
need-bad {A} (suc n) at r c p = (
  λ e. let same : (suc n ≡ c) × (at ≡ p) = bad-same e in inl (λ z. absurd (omega arith), sym same.0, sym same.1),
  ⊎_elim (λ h. ap₂ (λ (x y : ℕ). bad x y) (sym h.1) (sym h.2)) (λ h. let z = h.0 in absurd (omega arith)),
)

-- A bound in front.
abbrev Bounded : {A : Type 0} → ℕ → ℕ → ℕ → ℕ → Res A → ℕ → ℕ → Type 0
Bounded a b n at r c p = ((b < a) × (c ≡ n) × (p ≡ at)) ⊎ ((a ≤ b) × (r ≡ bad c p))

bound_bad : {A : Type 0} (a b n at : ℕ) (r : Res A) (c p : ℕ) → (need (unless (leb a b) (suc n)) at r ≡ bad c p) ↔ Bounded a b (suc n) at r c p
bound_bad {A} a b n at r c p = go (leb a b) refl
  where
    go : (t : Bool) → leb a b ≡ t → (need (unless t (suc n)) at r ≡ bad c p) ↔ Bounded a b (suc n) at r c p
    go true e =
        let l = leb-true a b e in
        (λ h. inr (l, h), ⊎_elim (λ h. let m = h.0 in absurd (omega arith)) (λ h. h.1))
    go false e =
        let l = leb-false a b e in (
          λ h. let same : (suc n ≡ c) × (at ≡ p) = bad-same h in inl (l, sym same.0, sym same.1),
          ⊎_elim (λ h. ap₂ (λ (x y : ℕ). bad x y) (sym h.1) (sym h.2)) (λ h. let m = h.0 in absurd (omega arith)),
        )

-- ---- the record writers and the header's

module _ (out : List ℕ) (place fault size : ℕ) where
  last_test : (c p : ℕ) → Bounded (place + size) (length out) 13 place (ok (place + size)) c p
      → (length out < place + size) × (c ≡ 13) × (p ≡ place)
  last_test c p = ⊎_elim (λ h. h) (λ h. absurd (ok-bad h.1))

  writer_refused : (c p : ℕ) → (writer_next (length out) place fault size ≡ bad c p) ↔ WriterRefused out place fault size c p
  unfolding writer_next
  writer_refused c p =
      let room = bound_bad {A = ℕ} (place + size) (length out) 12 place (ok (place + size)) c p in
      let field = need-bad {A = ℕ} fault place (need (unless (leb (place + size) (length out)) 13) place (ok (place + size))) c p in
      let limit = bound_bad {A = ℕ} (length out) file_limit 0 0 _ c p in (
        λ e. ⊎_elim
            (λ h. output_over h.0 h.1 h.2)
            (λ h. ⊎_elim
            (λ g. field_fault h.0 g.0 g.1 g.2)
            (λ g. let (l, n, q) = last_test c p (room.0 g.1) in no_room h.0 g.0 l n q)
            (field.0 h.1))
            (limit.0 e),
        λ w. limit.1 (elim w [
          | output_over l n q ↦ inl (l, n, q)
          | field_fault l d n q ↦ inr (l, field.1 (inl (d, n, q)))
          | no_room l z s n q ↦ inr (l, field.1 (inr (z, room.1 (inl (s, n, q)))))
        ]),
      )

  writer_granted : (next : ℕ) → (writer_next (length out) place fault size ≡ ok next) ↔ WriterGranted out place fault size next
  unfolding writer_next
  writer_granted next = (
    λ e.
        let (l, e1) = need-ok (unless (leb (length out) file_limit) 1) 0 _ e in
        let (f, e2) = need-ok fault place _ e1 in
        let (s, e3) = need-ok (unless (leb (place + size) (length out)) 13) place _ e2 in
        record {
          within = most_passed (length out) file_limit 0 l;
          faultless = f;
          room = most_passed (place + size) (length out) 12 s;
          ends = sym (ok_inj e3);
        },
    λ g. rw (most_passes 1 g.within, g.faultless, most_passes 13 g.room, g.ends),
  )

pub writer_refused_exact : (out : List ℕ) (place : ℕ) (w : Draft) (c p : ℕ)
    → (record_next out place w ≡ bad c p) ↔ WriterRefused out place w.fault (length w.bytes) c p
unfolding record_next
writer_refused_exact out place w c p = writer_refused out place w.fault (length w.bytes) c p

pub writer_granted_exact : (out : List ℕ) (place : ℕ) (w : Draft) (next : ℕ)
    → (record_next out place w ≡ ok next) ↔ WriterGranted out place w.fault (length w.bytes) next
unfolding record_next
writer_granted_exact out place w next = writer_granted out place w.fault (length w.bytes) next

pub header_refused_exact : (out : List ℕ) (c p : ℕ) → (header_next out ≡ bad c p) ↔ WriterRefused out 0 0 8 c p
unfolding header_next
header_refused_exact out c p = writer_refused out 0 0 8 c p

pub header_granted_exact : (out : List ℕ) (next : ℕ) → (header_next out ≡ ok next) ↔ WriterGranted out 0 0 8 next
unfolding header_next
header_granted_exact out next = writer_granted out 0 0 8 next

-- ---- the closings

ended-bad : (end : ℕ) (r : Res (List Record)) (c p : ℕ) → (end_given end r ≡ bad c p) ↔ (r ≡ bad c p)
ended-bad end (ok rs) c p = (λ e. absurd (ok-bad e), λ e. absurd (ok-bad e))
ended-bad end (bad d q) c p = (
  λ e. let same : (d ≡ c) × (q ≡ p) = bad-same e in ap₂ (λ (x y : ℕ). bad x y) same.0 same.1,
  λ e. let same : (d ≡ c) × (q ≡ p) = bad-same e in ap₂ (λ (x y : ℕ). bad x y) same.0 same.1,
)

-- Any container: its own tests, and what they ask.
module _ (o : Order) (c : Context) (Own : ℕ → Type 0) (cs : List ℕ) (given : Gives cs Own) (out : List ℕ) (place end n p : ℕ) where
  inner : Res ℕ
  inner = end_given end (read_records o c (place + 8) (contents_of out place end))

  behind_tests : Res ℕ
  behind_tests = need (first cs) place inner

  own-refused : Lies out place end → behind_tests ≡ bad n p → ClosingRefused o c Own out place end n p
  unfolding inner behind_tests
  own-refused l e =
      ⊎_elim
      (λ h. own-word l ((given.exactly n).0 (sym h.1)) (λ z. h.0 (sym h.1 ∙ z)) h.2)
      (λ h. contents l ((given.exactly 0).0 h.0) ((ended-bad end _ n p).0 h.1))
      ((need-bad (first cs) place inner n p).0 e)

  closing-refused : (within (length out) place end behind_tests ≡ bad n p) ↔ ClosingRefused o c Own out place end n p
  unfolding inner behind_tests
  closing-refused =
      let low = bound_bad {A = ℕ} (place + 8) end 12 place behind_tests n p in
      let last = bound_bad {A = ℕ} end (length out) 12 place _ n p in
      let start = bound_bad {A = ℕ} place (length out) 12 place _ n p in
      let limit = bound_bad {A = ℕ} (length out) file_limit 0 0 _ n p in
      let own = need-bad (first cs) place inner n p in (
        λ e. ⊎_elim (λ h. closing-over h.0 h.1 h.2) (λ l.
            ⊎_elim (λ h. closing-room l.0 (inl h.0) h.1 h.2) (λ s.
            ⊎_elim (λ h. closing-room l.0 (inr (inl h.0)) h.1 h.2) (λ t.
            ⊎_elim (λ h. closing-room l.0 (inr (inr h.0)) h.1 h.2) (λ w.
            own-refused (record { within = l.0; place_inside = s.0; end_inside = t.0; eight = w.0 }) w.1)
            (low.0 t.1)) (last.0 s.1)) (start.0 l.1)) (limit.0 e),
        λ w.
            let inside : Lies out place end → behind_tests ≡ bad n p → within (length out) place end behind_tests ≡ bad n p =
            λ l e. limit.1 (inr (l.within, start.1 (inr (l.place_inside, last.1 (inr (l.end_inside, low.1 (inr (l.eight, e)))))))) in
            elim w [
              | closing-over l e q ↦ limit.1 (inl (l, e, q))
              | closing-room l s e q ↦ limit.1 (inr (
                l,
                start.1 (by_cases (dec_le place (length out))
                    (λ a. inr (
                      a,
                      last.1 (by_cases (dec_le end (length out))
                          (λ b. inr (b, low.1 (inl (⊎_elim (λ h. absurd (omega arith)) (⊎_elim (λ h. absurd (omega arith)) (λ h. h)) s, e, q))))
                          (λ b. inl (omega arith, e, q))),
                    ))
                    (λ a. inl (omega arith, e, q))),
              ))
              | own-word l o d q ↦ inside l (own.1 (let e = (given.exactly n).1 o in inl (λ z. d (sym e ∙ z), sym e, q)))
              | contents l h e ↦ inside l (own.1 (inr ((given.exactly 0).1 h, (ended-bad end _ n p).1 e)))
            ],
      )

-- A configuration's word is given, so its closing asks nothing of its own.
pub configuration_refused_exact : (o : Order) (out : List ℕ) (place end n p : ℕ)
    → (configuration_closed o out place end ≡ bad n p) ↔ ClosingRefused o entry fine out place end n p
unfolding configuration_closed first inner behind_tests
configuration_refused_exact o out place end n p = closing-refused o entry fine [] no_more out place end n p

-- That there are contents: the end lies behind the two words.
some_tells : (place end : ℕ) → Tells (leb 1 (end - (place + 8))) (place + 9 ≤ end)
some_tells place end = let t = le_tells 1 (end - (place + 8)) in (λ e. let l = t.0 e in omega arith, λ h. t.1 (omega arith))

-- An event's closing asks for class, category and type, then for contents.
pub event_refused_exact : (o : Order) (out : List ℕ) (place end class category type n p : ℕ)
    → (event_closed o out place end class category type ≡ bad n p)
    ↔ ClosingRefused o (event unseen) (EventAsked class category type (asks (place + 9 ≤ end) 9 fine)) out place end n p
unfolding event_closed inner behind_tests
event_refused_exact o out place end class category type n p =
    let late : ℕ = event_late (event_word class category type) (end - (place + 8)) in
    let tests : List ℕ = event_fault class category type ∷ late ∷ [] in
    let rest : Res ℕ = end_given end (read_records o (event unseen) (place + 8) (contents_of out place end)) in
    let chain : need (event_fault class category type) place (need late place rest) ≡ need (first tests) place rest =
    gate _ place _ rest (last_gate _ place rest) in
    rw chain (
    closing-refused o (event unseen) _ tests (event_gives class category type (asked (some_tells place end) no_more)) out place end n p)
