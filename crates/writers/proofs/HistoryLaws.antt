-- A history's parts: their sizes, and the stores of a section and of the two sections behind kind and length.
-- The idea: words and parts stand in a row; of fields without a fault only the veto's masks can be long.
use Prim.Native.Nat.{ℕ, zero, suc, ◌+◌, ◌*◌, ◌≤◌, ◌<◌}
use mathlib.Core.Path.{◌≡◌, refl, sym, ap, ap₂, ◌∙◌}
use mathlib.Core.Bool.{Bool, true, false}
use mathlib.Core.List.{List, [], ◌∷◌, ◌++◌}
use native.Mathlib.Nat.{zero-mul}
use native.Mathlib.Omega.{arith}
use borrow.Author.Tests.{eqb-true}
use lib.Dec.{eqb-suc-zero}
use lib.ListN.{length, length-append}
use lib.Seq.{sets}
use Rattle.theory.specs.declared.Order.{Order}
use Rattle.theory.proofs.TestLaws.{first-at, holds_at, equal_passed, most_passed}
use Rattle.theory.proofs.WordLaws.{length-puts}
use Rattle.note.specs.Words.{words, greatest_signed}
use Rattle.note.specs.History.{Section, History, is_width, section_bytes, section_fault, history_bytes, history_fault}
use Rattle.note.specs.Writers.{history_draft}
use Rattle.stores.proofs.StoreLaws.{in_a_row}
use Rattle.stores.proofs.StructureLaws.{record_length, two-words}

-- ---- a section

-- The bytes of a section's two parts: its times and its masks.
abbrev pub part_size : Section → ℕ
part_size s = length s.times + length s.masks

pub section_size_lem : (o : Order) (s : Section) → length (section_bytes o s) ≡ 8 + part_size s
unfolding section_bytes
section_size_lem o s = simp length-append (omega (arith, length-puts o 4 (s.count ∷ []), length-puts o 4 (s.width ∷ [])))

-- Count, times, width and masks stored in a row are the section stored.
pub section_stored : (o : Order) (l : List ℕ) (at : ℕ) (s : Section) {counted timed wide full : List ℕ}
    → counted ≡ sets l at (words o (s.count ∷ []))
    → timed ≡ sets counted (at + 4) s.times
    → wide ≡ sets timed (at + 4 + length s.times) (words o (s.width ∷ []))
    → full ≡ sets wide (at + 4 + length s.times + 4) s.masks
    → full ≡ sets l at (section_bytes o s)
unfolding section_bytes
section_stored o l at s count times width masks =
    let C : List ℕ = words o (s.count ∷ []) in
    let T : List ℕ = s.times in
    let W : List ℕ = words o (s.width ∷ []) in
    let c : 4 ≡ length C = omega (arith, length-puts o 4 (s.count ∷ [])) in
    let w : 4 ≡ length W = omega (arith, length-puts o 4 (s.width ∷ [])) in
    rw (masks, width, times, count)
    (ap₂ (λ (j k : ℕ). sets (sets (sets (sets l at C) (at + j) T) (at + j + length T) W) (at + j + length T + k) s.masks) c w
    ∙ in_a_row l at (C ∷ T ∷ W ∷ s.masks ∷ []))

-- Without a fault, the times and the trigger's masks are few.
few_times : (trigger : Bool) (s : Section) → section_fault trigger s ≡ 0 → length s.times ≤ 4 * greatest_signed
unfolding section_fault
few_times trigger s e =
    let n : s.count ≤ greatest_signed = most_passed s.count greatest_signed 9 (first-at _ e 0) in
    omega (arith, equal_passed (length s.times) (4 * s.count) 5 (first-at _ e 1))

six-each : (n w : ℕ) → is_width true n w ≡ true → n * w ≡ n * 6
unfolding is_width
six-each zero w e = omega (arith, zero-mul w)
six-each (suc n) w e = ap (λ (k : ℕ). suc n * k) (eqb-true w 6 (rw (eqb-suc-zero n) at e))

few_masks : (s : Section) → section_fault true s ≡ 0 → length s.masks ≤ 24 * greatest_signed
unfolding section_fault
few_masks s e =
    let n : s.count ≤ greatest_signed = most_passed s.count greatest_signed 9 (first-at _ e 0) in
    let fits : is_width true s.count s.width ≡ true = holds_at _ e 3 (is_width true s.count s.width) 9 refl in
    let w : s.count * s.width ≡ s.count * 6 = six-each s.count s.width fits in
    omega (arith, equal_passed (length s.masks) (4 * (s.count * s.width)) 5 (first-at _ e 4))

-- ---- both

module _ (h : History) where
  abbrev pub parts_size : ℕ
  parts_size = part_size h.veto + part_size h.trigger

  -- The masks of a veto section are a slice, so the sum is a machine number.
  pub size_fits : history_fault h ≡ 0 → length h.veto.masks < 0x8000000000000000 → 24 + parts_size < 0x10000000000000000
  unfolding history_fault
  size_fits e l =
      let veto = first-at _ e 0 in
      let trigger = first-at _ e 1 in
      omega (arith, few_times false h.veto veto, few_times true h.trigger trigger, few_masks h.trigger trigger)

module _ (o : Order) (h : History) where
  -- What the length word says.
  both_size : length (section_bytes o h.veto ++ section_bytes o h.trigger) ≡ (8 + part_size h.veto) + (8 + part_size h.trigger)
  both_size = simp (length-append, section_size_lem o) (omega arith)

  pub history-size : length (history_draft o h).bytes ≡ 24 + parts_size h
  unfolding history_draft history_bytes
  history-size =
      omega (arith, both_size, record_length o (record { word = 0x21; body = section_bytes o h.veto ++ section_bytes o h.trigger }))

  -- Kind and length and the two sections stored in a row are the history stored.
  pub history-stored : (l : List ℕ) (n : ℕ) → n ≡ (8 + part_size h.veto) + (8 + part_size h.trigger) → {begun half full : List ℕ}
      → begun ≡ sets l 0 (words o (0x21 ∷ n ∷ []))
      → half ≡ sets begun 8 (section_bytes o h.veto)
      → full ≡ sets half (8 + (8 + part_size h.veto)) (section_bytes o h.trigger)
      → full ≡ sets l 0 (history_draft o h).bytes
  unfolding history_draft history_bytes
  history-stored l n e first second third =
      let head : List ℕ = words o (0x21 ∷ n ∷ []) in
      let veto : List ℕ = section_bytes o h.veto in
      let trigger : List ℕ = section_bytes o h.trigger in
      let eight : 8 ≡ 0 + length head = omega (arith, length-puts o 4 (0x21 ∷ n ∷ [])) in
      rw (third, second, first)
      (ap₂ (λ (j k : ℕ). sets (sets (sets l 0 head) j veto) (j + k) trigger) eight (sym (section_size_lem o h.veto))
      ∙ in_a_row l 0 (head ∷ veto ∷ trigger ∷ [])
      ∙ ap (λ (k : ℕ). sets l 0 (words o (0x21 ∷ k ∷ []) ++ (veto ++ trigger))) (e ∙ sym both_size)
      ∙ ap (sets l 0) (two-words o 0x21 (length (veto ++ trigger)) (veto ++ trigger)))
