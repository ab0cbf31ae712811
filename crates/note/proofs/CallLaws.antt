-- Which answers Table, Record, Setting and a sample by number give, exactly.
-- The idea: by cases on what was read, and on each test behind it.
use Prim.Native.Nat.{ℕ, ◌+◌, ◌-◌, ◌*◌, ◌≤◌, ◌<◌}
use mathlib.Core.Path.{◌≡◌, refl, sym, ap₂, ◌∙◌}
use mathlib.Core.Logic.{◌↔◌, ◌⊎◌, inl, inr, ⊎_elim, ◌≢◌, by_cases}
use mathlib.Core.Bool.{Bool, true, false, cond, ◌&&◌, false≢true}
use mathlib.Core.List.{List, [], ◌∷◌}
use native.Mathlib.Omega.{arith}
use native.Mathlib.Decide.{dec_le}
use lib.Dec.{leb, eqb}
use lib.ListN.{length, take, drop}
use borrow.Author.Tests.{leb-true, leb-false, eqb-true, eqb-false, eq-eqb, ne_eqb}
use Rattle.theory.specs.declared.Order.{Order}
use Rattle.theory.specs.Tests.{Res, ok, bad, need, unless}
use Rattle.theory.proofs.TestLaws.{bad-ok}
use Rattle.note.specs.Limits.{file_limit}
use Rattle.note.specs.Words.{word}
use Rattle.note.specs.Answers.{Value, accepted, refused, counts}
use Rattle.note.specs.Trace.{trace_of}
use Rattle.note.specs.Records.{Record, alone, read_record}
use Rattle.note.specs.Files.{File, read_file}
use Rattle.note.specs.Rows.{rows_of, fits, table_given, table_answer}
use Rattle.note.specs.Calls.{record_found, record_given, record_at, setting_given, setting_at, sample_given, sample_at, samples_part, samples_at}
use Rattle.note.specs.Writers.{writer_given}
use Rattle.note.specs.CallAnswers.{TableGives, file-refused, rows_fit, rows_too_many, RecordRefused, file-over, not-read}
use Rattle.note.specs.CallAnswers.{SettingRefused, no_record, no_entry, SampleRefused, nothing-found, no_trace, no_sample}
use Rattle.note.proofs.AnswerLaws.{counts_determined}
use Rattle.note.proofs.BoolLaws.{both_tell, le_tells}

-- ---- Table

module _ (bs : List ℕ) (capacity : ℕ) where
  by-file : (r : Res File) → read_file bs ≡ r → TableGives bs capacity (table_given bs capacity r)
  by-file (bad c p) e = file-refused c p e refl
  by-file (ok f) e = go (fits capacity (rows_of f)) refl
    where
      go : (t : Bool) → fits capacity (rows_of f) ≡ t
          → TableGives bs capacity (record { number = cond t 0 12; count = length (rows_of f); place = length bs })
      go true q = rows_fit f e (leb-true (6 * length (rows_of f)) capacity q) refl
      go false q = rows_too_many f e (leb-false (6 * length (rows_of f)) capacity q) refl

  pub table_gives : TableGives bs capacity (table_answer bs capacity)
  unfolding table_answer
  table_gives = by-file (read_file bs) refl

-- ---- Record

refused-same : {c p d q : ℕ} → refused c p ≡ refused d q → (c ≡ d) × (p ≡ q)
refused-same e = (cc, cc)

bad-same : {A : Type 0} {c p d q : ℕ} → ◌≡◌ {A = Res A} (bad c p) (bad d q) → (c ≡ d) × (p ≡ q)
bad-same e = (cc, cc)

not-refused : {vs : List Value} {c p : ℕ} → accepted vs ≡ refused c p → ⊥
not-refused e = let z : ◌≡◌ {A = ℕ} 0 1 = cc in omega arith

module _ (o : Order) (bs : List ℕ) (place c p : ℕ) where
  pub found_refused_exact : (record_found o bs place ≡ bad c p) ↔ RecordRefused o bs place c p
  unfolding record_found
  found_refused_exact = go (leb (length bs) file_limit) refl
    where
      go : (t : Bool) → leb (length bs) file_limit ≡ t
          → (need (unless t 1) 0 (read_record o alone place (drop place bs)) ≡ bad c p) ↔ RecordRefused o bs place c p
      go true q =
          let l = leb-true (length bs) file_limit q in
          (λ e. not-read l e, λ h. elim h [ file-over m n s ↦ absurd (omega arith) | not-read m e ↦ e ])
      go false q =
          let l = leb-false (length bs) file_limit q in (
            λ e. let same : (1 ≡ c) × (0 ≡ p) = bad-same e in file-over l (sym same.0) (sym same.1),
            λ h. elim h [ file-over m n s ↦ ap₂ (λ (x y : ℕ). bad x y) (sym n) (sym s) | not-read m e ↦ absurd (omega arith) ],
          )

  pub record_refused_exact : (record_at o bs place ≡ refused c p) ↔ RecordRefused o bs place c p
  unfolding record_at
  record_refused_exact = (λ e. found_refused_exact.0 (go (record_found o bs place) e), λ h. rw (found_refused_exact.1 h))
    where
      go : (r : Res Record) → record_given o place r ≡ refused c p → r ≡ bad c p
      go (bad d q) e = let same = refused-same e in ap₂ (λ (x y : ℕ). bad x y) same.0 same.1
      go (ok r) e = absurd (not-refused e)

  -- ---- Setting

  pub setting_refused_exact : (setting_at o bs place ≡ refused c p) ↔ SettingRefused o bs place c p
  unfolding setting_at
  setting_refused_exact = (
    go (record_found o bs place) refl,
    λ h. elim h [
      | no_record e ↦ rw e
      | no_entry r e d f n q ↦ rw (e, ne_eqb r.word 0x00010001 d, ne_eqb r.word 0x00010002 f, n, q)
    ],
  )
    where
      tests : (r : Record) → record_found o bs place ≡ ok r → (t u : Bool) → eqb r.word 0x00010001 ≡ t → eqb r.word 0x00010002 ≡ u
          → (x y : List Value)
          → cond t (accepted x) (cond u (accepted y) (refused 5 place)) ≡ refused c p → SettingRefused o bs place c p
      tests r f true u a b x y e = absurd (not-refused e)
      tests r f false true a b x y e = absurd (not-refused e)
      tests r f false false a b x y e =
          let same = refused-same e in
          no_entry r f (eqb-false r.word 0x00010001 a) (eqb-false r.word 0x00010002 b) (sym same.0) (sym same.1)

      go : (r : Res Record) → record_found o bs place ≡ r → setting_given o place r ≡ refused c p → SettingRefused o bs place c p
      go (bad d q) f e = let same = refused-same e in no_record (f ∙ ap₂ (λ (x y : ℕ). bad x y) same.0 same.1)
      go (ok r) f e = tests r f (eqb r.word 0x00010001) (eqb r.word 0x00010002) refl refl _ _ e

-- ---- a sample by number

module _ (o : Order) (bs : List ℕ) (place k c p : ℕ) where
  both_hold : (n : ℕ) → leb 1 k && leb k n ≡ true → (1 ≤ k) × (k ≤ n)
  both_hold n e = (both_tell (le_tells 1 k) (le_tells k n)).0 e

  out_of_range : (n : ℕ) → (k ≡ 0) ⊎ (n < k) → leb 1 k && leb k n ≡ false
  out_of_range n s = go (leb 1 k && leb k n) refl
    where
      go : (t : Bool) → leb 1 k && leb k n ≡ t → t ≡ false
      go false e = refl
      go true e = let h = both_hold n e in absurd (⊎_elim (λ z. omega arith) (λ z. omega arith) s)

  range : (n : ℕ) → leb 1 k && leb k n ≡ false → (k ≡ 0) ⊎ (n < k)
  range n e =
      by_cases (dec_le 1 k)
      (λ l. by_cases (dec_le k n)
      (λ m. absurd (false≢true (sym e ∙ (both_tell (le_tells 1 k) (le_tells k n)).1 (l, m)))) (λ m. inr (omega arith)))
      (λ l. inl (omega arith))

  pub sample_refused_exact : (sample_at o bs place k ≡ refused c p) ↔ SampleRefused o bs place k c p
  unfolding sample_at trace_of
  sample_refused_exact = (
    go (record_found o bs place) refl,
    λ h. elim h [
      | nothing-found e ↦ rw e
      | no_trace r e d n q ↦ rw (e, ne_eqb r.word 0x11 d, n, q)
      | no_sample r e t s n q ↦ rw (e, eq-eqb r.word 0x11 t, out_of_range (word o 44 r.body) s, n, q)
    ],
  )
    where
      tests : (r : Record) → record_found o bs place ≡ ok r → (t u : Bool) → eqb r.word 0x11 ≡ t → leb 1 k && leb k (word o 44 r.body) ≡ u
          → (x : List Value)
          → cond t (cond u (accepted x) (refused 11 place)) (refused 5 place) ≡ refused c p → SampleRefused o bs place k c p
      tests r f true true a b x e = absurd (not-refused e)
      tests r f true false a b x e =
          let same = refused-same e in
          no_sample r f (eqb-true r.word 0x11 a) (range (word o 44 r.body) b)
          (sym same.0) (sym same.1)
      tests r f false u a b x e =
          let same = refused-same e in no_trace r f (eqb-false r.word 0x11 a) (sym same.0) (sym same.1)

      go : (r : Res Record) → record_found o bs place ≡ r → sample_given o place k r ≡ refused c p → SampleRefused o bs place k c p
      go (bad d q) f e = let same = refused-same e in nothing-found (f ∙ ap₂ (λ (x y : ℕ). bad x y) same.0 same.1)
      go (ok r) f e = tests r f (eqb r.word 0x11) (leb 1 k && leb k (word o 44 r.body)) refl refl _ e

-- ---- Samples

-- A trace's samples are its body behind the first 48 bytes, which stands 8 bytes behind the place; all else has none.
module _ (o : Order) (bs : List ℕ) (place : ℕ) where
  pub samples_of_trace : (r : Record) → record_found o bs place ≡ ok r → r.word ≡ 0x11
      → samples_part o bs place ≡ (place + 56, length r.body - 48)
  unfolding samples_part
  samples_of_trace r f k = rw (f, eq-eqb r.word 0x11 k)

  pub other_has_no_samples : (r : Record) → record_found o bs place ≡ ok r → r.word ≢ 0x11 → samples_part o bs place ≡ (0, 0)
  unfolding samples_part
  other_has_no_samples r f k = rw (f, ne_eqb r.word 0x11 k)

  pub refused_has_no_samples : (c p : ℕ) → record_found o bs place ≡ bad c p → samples_part o bs place ≡ (0, 0)
  unfolding samples_part
  refused_has_no_samples c p f = rw f

  -- The part's bytes.
  pub samples_stand : samples_at o bs place ≡ take (samples_part o bs place).1 (drop (samples_part o bs place).0 bs)
  unfolding samples_at
  samples_stand = refl

-- ---- Record and Setting answer what is found

-- A record is found where it is read alone, up to the end of bytes within the limit.
pub found_exact : (o : Order) (bs : List ℕ) (place : ℕ) (r : Record)
    → (record_found o bs place ≡ ok r) ↔ ((length bs ≤ 16777216) × (read_record o alone place (drop place bs) ≡ ok r))
unfolding record_found
found_exact o bs place r = go (leb (length bs) file_limit) refl
  where
    read : Res Record
    read = read_record o alone place (drop place bs)

    go : (t : Bool) → leb (length bs) file_limit ≡ t → (need (unless t 1) 0 read ≡ ok r) ↔ ((length bs ≤ 16777216) × (read ≡ ok r))
    go true q = (λ e. (leb-true (length bs) file_limit q, e), λ h. h.1)
    go false q = (λ e. absurd (bad-ok e), λ h. absurd (omega (arith, leb-false (length bs) file_limit q, h.0)))

module _ (o : Order) (bs : List ℕ) (place : ℕ) (r : Record) (found : record_found o bs place ≡ ok r) where
  pub record_as_found : record_at o bs place ≡ record_given o place (ok r)
  unfolding record_at
  record_as_found = rw found

  pub setting_as_found : setting_at o bs place ≡ setting_given o place (ok r)
  unfolding setting_at
  setting_as_found = rw found

-- ---- a writer's answer

-- A writer, a closing and Rewrite answer the next place where there is one, and otherwise the refusal, its number and its place.
pub writer_answers : (r : Res ℕ) (next : ℕ) → (writer_given r ≡ accepted (counts (next ∷ []))) ↔ (r ≡ ok next)
unfolding writer_given
writer_answers r next = (go r, λ e. rw e)
  where
    go : (r : Res ℕ) → writer_given r ≡ accepted (counts (next ∷ [])) → r ≡ ok next
    go (ok n) e = let same : ◌≡◌ {A = List ℕ} (n ∷ []) (next ∷ []) = counts_determined (n ∷ []) (next ∷ []) e in cc
    go (bad c p) e = absurd (not-refused (sym e))

pub writer_refuses : (r : Res ℕ) (c p : ℕ) → (writer_given r ≡ refused c p) ↔ (r ≡ bad c p)
unfolding writer_given
writer_refuses r c p = (go r, λ e. rw e)
  where
    go : (r : Res ℕ) → writer_given r ≡ refused c p → r ≡ bad c p
    go (ok n) e = absurd (not-refused e)
    go (bad d q) e = cc
