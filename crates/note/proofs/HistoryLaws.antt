-- The history: fields written and read back, and its rule said a second time, as two sections that fill the body.
-- All of it from laws of one section at any place p of a body: what the rule says of it, written again, and read back.
use mathlib.Core.Path.{◌≡◌, refl, sym, ap, ap₂, ◌∙◌}
use mathlib.Core.Logic.{◌↔◌, ◌⊎◌, inl, inr, ◌≢◌}
use mathlib.Core.Bool.{Bool, true, false}
use mathlib.Core.List.{List, [], ◌∷◌, ◌++◌, append_assoc, append-nil}
use Prim.Native.Nat.{ℕ, zero, suc, ◌+◌, ◌*◌, ◌%◌, ◌≤◌, ◌<◌}
use native.Mathlib.Omega.{arith}
use borrow.Author.Tests.{eqb-true, eqb-false, eq-eqb, ne_eqb, not-true}
use lib.Dec.{eqb, eqb-suc-zero}
use lib.ListN.{length, take, drop, length-append, length-drop, take-append-drop, drop_of_length-le}
use lib.Seq.{length-take-le, drop-drop, drop_at, take_at}
use Rattle.theory.specs.declared.Order.{Order}
use Rattle.theory.specs.Words.{Bytes, words_at}
use Rattle.theory.proofs.TestLaws.{first-at, first_passes, holds_at, unless_holds, equal_passed, equal_passes, most_passed, most_passes}
use Rattle.theory.proofs.WordLaws.{words_of_puts, puts_of_words, length-puts, word-past}
use Rattle.note.specs.Words.{word, words, greatest_signed}
use Rattle.note.specs.History.{Section, History, width_at, width_of, end_at, trigger_at, section_of, history_of}
use Rattle.note.specs.History.{section_bytes, history_bytes, is_width, section_rule, history_rule, section_fault, history_fault}
use Rattle.note.specs.Rules.{Fills}
use Rattle.note.proofs.FieldLaws.{number_at}

-- ---- a section without a fault

-- What a width may be (FORMAT 5.3): a veto section has no times exactly where it has no width; a trigger section has both, six wide, or neither.
abbrev pub Width : Bool → ℕ → ℕ → Type 0
Width false times width = (times ≡ 0) ↔ (width ≡ 0)
Width true times width = ((times ≡ 0) × (width ≡ 0)) ⊎ ((0 < times) × (width ≡ 6))

pub width_means : (trigger : Bool) (t w : ℕ) → is_width trigger t w ≡ true → Width trigger t w
unfolding is_width
width_means false zero w e = (λ z. eqb-true w 0 e, λ z. refl)
width_means false (suc t) w e =
    let h : w ≢ 0 = eqb-false w 0 (not-true (eqb w 0) (rw (eqb-suc-zero t) at e)) in
    (λ z. absurd (omega arith), λ z. absurd (h z))
width_means true zero w e = inl (refl, eqb-true w 0 e)
width_means true (suc t) w e = inr (omega arith, eqb-true w 6 (rw (eqb-suc-zero t) at e))

pub means_width : (trigger : Bool) (t w : ℕ) → Width trigger t w → is_width trigger t w ≡ true
unfolding is_width
means_width false zero w h = eq-eqb w 0 (h.0 refl)
means_width false (suc t) w h = rw (eqb-suc-zero t, ne_eqb w 0 (λ z. let z' : suc t ≡ 0 = h.1 z in omega arith))
means_width true zero w (inl h) = eq-eqb w 0 h.1
means_width true zero w (inr h) = absurd (omega arith)
means_width true (suc t) w (inl h) = absurd (omega arith)
means_width true (suc t) w (inr h) = rw (eqb-suc-zero t) (eq-eqb w 6 h.1)

record Whole (trigger : Bool) (s : Section) : Type 0 where
  count : s.count ≤ greatest_signed
  times : length s.times ≡ 4 * s.count
  width : s.width ≤ greatest_signed
  widths : Width trigger s.count s.width
  masks : length s.masks ≡ 4 * (s.count * s.width)

module _ (trigger : Bool) (s : Section) where
  fault-whole : section_fault trigger s ≡ 0 → Whole trigger s
  unfolding section_fault
  fault-whole e = record {
    count = most_passed s.count greatest_signed 9 (first-at _ e 0);
    times = equal_passed (length s.times) (4 * s.count) 5 (first-at _ e 1);
    width = most_passed s.width greatest_signed 9 (first-at _ e 2);
    widths = width_means trigger s.count s.width (holds_at _ e 3 (is_width trigger s.count s.width) 9 refl);
    masks = equal_passed (length s.masks) (4 * (s.count * s.width)) 5 (first-at _ e 4);
  }

  whole-fault : Whole trigger s → section_fault trigger s ≡ 0
  unfolding section_fault
  whole-fault h =
      let widths = unless_holds _ 10 (means_width trigger s.count s.width h.widths) in
      first_passes _ (most_passes 10 h.count, (equal_passes 6 h.times, (most_passes 10 h.width, (widths, (equal_passes 6 h.masks, tt)))))

-- ---- a section at place p of a body

-- The rule at p is the rule of the section read there, where its masks end within the body.
module _ (o : Order) (trigger : Bool) (p : ℕ) (b : List ℕ) (room : end_at o p b ≤ length b) where
  rule-whole : section_rule o trigger p b ≡ 0 → Whole trigger (section_of o p b)
  unfolding section_rule section_of end_at width_at
  rule-whole e =
      let l : (n q : ℕ) → q + n ≤ length b → length (take n (drop q b)) ≡ n =
      λ n q h. length-take-le n (drop q b) (omega (arith, length-drop q b)) in
      record {
        count = most_passed (word o p b) greatest_signed 9 (first-at _ e 1);
        times = l (4 * word o p b) (p + 4) (omega arith);
        width = most_passed (width_of o p b) greatest_signed 9 (first-at _ e 3);
        widths = width_means trigger (word o p b) (width_of o p b) (holds_at _ e 4 (is_width trigger (word o p b) (width_of o p b)) 9 refl);
        masks = l (4 * (word o p b * width_of o p b)) (p + 4 + 4 * word o p b + 4) (omega arith);
      }

  whole-rule : Whole trigger (section_of o p b) → section_rule o trigger p b ≡ 0
  unfolding section_rule section_of end_at width_at
  whole-rule h =
      let counted : p + 4 ≤ length b = omega arith in
      let wide : p + 4 + 4 * word o p b + 4 ≤ length b = omega arith in
      let widths = unless_holds _ 10 (means_width trigger (word o p b) (width_of o p b) h.widths) in
      first_passes _ (most_passes 6 counted, (most_passes 10 h.count, (most_passes 6 wide, (most_passes 10 h.width, (widths, tt)))))

-- Written again it restores its bytes.
section_restored : (o : Order) (p : ℕ) (b : List ℕ) → end_at o p b ≤ length b → Bytes b
    → section_bytes o (section_of o p b) ++ drop (end_at o p b) b ≡ drop p b
unfolding section_bytes section_of end_at width_of width_at words_at
section_restored o p b room h =
    let one : (q : ℕ) → q + 4 ≤ length b → words o (word o q b ∷ []) ++ drop (q + 4) b ≡ drop q b = λ q l. puts_of_words o 4 1 q b h l in
    let part : (q n : ℕ) → take n (drop q b) ++ drop (q + n) b ≡ drop q b =
    λ q n. ap (λ (r : List ℕ). take n (drop q b) ++ r) (sym (drop-drop n q b)) ∙ take-append-drop n (drop q b) in
    let w : ℕ = p + 4 + 4 * word o p b in
    simp (append_assoc, part (w + 4) (4 * (word o p b * word o w b)), one w (omega arith), part (p + 4) (4 * word o p b)) (one p (omega arith))

-- What stands behind a part of that length is read there: a word, and a list.
module _ (o : Order) (b pre rest : List ℕ) (p : ℕ) (l : length pre ≡ p) where
  word-behind : (n : ℕ) → n ≤ greatest_signed → b ≡ pre ++ (words o (n ∷ []) ++ rest) → word o p b ≡ n
  unfolding words_at
  word-behind n f e =
      let q : p ≡ length pre + 0 = omega arith in
      ap₂ (word o) q e
      ∙ word-past o 4 0 pre (words o (n ∷ []) ++ rest)
      ∙ number_at (words_of_puts o 4 (n ∷ []) rest (omega arith)) 0

  part-behind : (x : List ℕ) (n : ℕ) → length x ≡ n → b ≡ pre ++ (x ++ rest) → take n (drop p b) ≡ x
  part-behind x n k e = ap (λ (r : List ℕ). take n (drop p r)) e ∙ ap (take n) (drop_at pre (x ++ rest) p l) ∙ take_at x rest n k

-- Read back it is the same.
module _ (o : Order) (trigger : Bool) (s : Section) (h : Whole trigger s) where
  section_size_lem : length (section_bytes o s) ≡ 8 + 4 * s.count + 4 * (s.count * s.width)
  unfolding section_bytes
  section_size_lem = simp length-append (omega (arith, length-puts o 4 (s.count ∷ []), length-puts o 4 (s.width ∷ [])))

  module _ (p : ℕ) (b pre rest : List ℕ) (l : length pre ≡ p) (e : b ≡ pre ++ (section_bytes o s ++ rest)) where
    section_read : (section_of o p b ≡ s) × (end_at o p b ≡ p + length (section_bytes o s))
    unfolding section_bytes section_of end_at width_of width_at
    section_read =
        let c : List ℕ = words o (s.count ∷ []) in
        let w : List ℕ = words o (s.width ∷ []) in
        let t : List ℕ = s.times in
        let m : List ℕ = s.masks in
        let flat : b ≡ pre ++ (c ++ (t ++ (w ++ (m ++ rest)))) = e ∙ simp append_assoc in
        let lc : length c ≡ 4 = length-puts o 4 (s.count ∷ []) in
        let lw : length w ≡ 4 = length-puts o 4 (s.width ∷ []) in
        let at : ℕ = p + 4 + 4 * s.count in
        let count : word o p b ≡ s.count = word-behind o b pre (t ++ (w ++ (m ++ rest))) p l s.count h.count flat in
        let times : take (4 * s.count) (drop (p + 4) b) ≡ t =
        part-behind o b (pre ++ c) (w ++ (m ++ rest)) (p + 4) (simp length-append (omega arith))
        t (4 * s.count) h.times (flat ∙ sym (simp append_assoc)) in
        let width : word o at b ≡ s.width =
        word-behind o b (pre ++ (c ++ t)) (m ++ rest) at (simp length-append (omega arith))
        s.width h.width (flat ∙ sym (simp append_assoc)) in
        let masks : take (4 * (s.count * s.width)) (drop (at + 4) b) ≡ m =
        part-behind o b (pre ++ (c ++ (t ++ w))) rest (at + 4) (simp length-append (omega arith))
        m (4 * (s.count * s.width)) h.masks (flat ∙ sym (simp append_assoc)) in
        rw (count, width) (λ i. record { count = s.count; times = times i; width = s.width; masks = masks i }, omega (arith, section_size_lem))

-- ---- the whole body

after_past : (o : Order) (p : ℕ) (b : List ℕ) → p ≤ end_at o p b
unfolding end_at width_at
after_past o p b = omega arith

-- In an accepted body both sections have room, and the second ends with the body.
pub history-ends : (o : Order) (b : List ℕ) → history_rule o b ≡ 0 → (trigger_at o b ≤ length b) × (length b ≡ end_at o (trigger_at o b) b)
unfolding history_rule
history-ends o b e =
    let end : length b ≡ end_at o (trigger_at o b) b = equal_passed (length b) (end_at o (trigger_at o b) b) 5 (first-at _ e 4) in
    (omega (arith, after_past o (trigger_at o b) b), end)

-- An accepted body is its fields, written.
pub history_restored : (o : Order) (b : List ℕ) → Bytes b → history_rule o b ≡ 0 → history_bytes o (history_of o b) ≡ b
unfolding history_bytes history_of
history_restored o b h e =
    let (first, end) = history-ends o b e in
    let past : length b ≤ end_at o (trigger_at o b) b = omega arith in
    let second : section_bytes o (section_of o (trigger_at o b) b) ++ [] ≡ drop (trigger_at o b) b =
    rw (← drop_of_length-le b past) (section_restored o (trigger_at o b) b (omega arith) h) in
    ap (λ (r : List ℕ). section_bytes o (section_of o 0 b) ++ r) (sym (append-nil _) ∙ second) ∙ section_restored o 0 b first h

-- The fields of an accepted body have no fault.
pub history-faultless : (o : Order) (b : List ℕ) → history_rule o b ≡ 0 → history_fault (history_of o b) ≡ 0
unfolding history_rule history_fault history_of
history-faultless o b e =
    let (room, end) = history-ends o b e in
    first_passes _ (
      whole-fault false (section_of o 0 b) (rule-whole o false 0 b room (first-at _ e 2)),
      (whole-fault true (section_of o (trigger_at o b) b) (rule-whole o true (trigger_at o b) b (omega arith) (first-at _ e 3)), tt),
    )

-- What a writer accepts is read back: its body passes the rule, and its fields are those that were written.
pub history_read_back : (o : Order) (f : History) → history_fault f ≡ 0 → (history_rule o (history_bytes o f) ≡ 0)
    × (history_of o (history_bytes o f) ≡ f)
unfolding history_fault history_rule history_bytes history_of
history_read_back o f e =
    let b : List ℕ = history_bytes o f in
    let one : List ℕ = section_bytes o f.veto in
    let two : List ℕ = section_bytes o f.trigger in
    let v : Whole false f.veto = fault-whole false f.veto (first-at _ e 0) in
    let t : Whole true f.trigger = fault-whole true f.trigger (first-at _ e 1) in
    let veto = section_read o false f.veto v 0 b [] two refl refl in
    let at : length one ≡ trigger_at o b = omega arith in
    let last : b ≡ one ++ (two ++ []) = ap (λ (r : List ℕ). one ++ r) (sym (append-nil two)) in
    let trigger = section_read o true f.trigger t (trigger_at o b) b one [] at last in
    let size : length b ≡ length one + length two = length-append one two in
    let sv = section_size_lem o false f.veto v in
    let st = section_size_lem o true f.trigger t in
    let least : 16 ≤ length b = omega arith in
    let fours : length b % 4 ≡ 0 = omega arith in
    let end : length b ≡ end_at o (trigger_at o b) b = omega arith in
    let first : section_rule o false 0 b ≡ 0 = whole-rule o false 0 b (omega arith) (rw veto.0 v) in
    let second : section_rule o true (trigger_at o b) b ≡ 0 = whole-rule o true (trigger_at o b) b (omega arith) (rw trigger.0 t) in
    let rule : history_rule o b ≡ 0 = first_passes _ (most_passes 6 least, (equal_passes 6 fours, (first, (second, (equal_passes 6 end, tt))))) in
    (rule, λ i. record { veto = veto.0 i; trigger = trigger.0 i })

-- ---- the rule said a second time

accepted_fills : (o : Order) (b : List ℕ) → Bytes b → history_rule o b ≡ 0 → Fills o b
unfolding history_rule history_bytes history_of section_bytes
accepted_fills o b h e =
    let (room, end) = history-ends o b e in
    let veto : Section = section_of o 0 b in
    let trigger : Section = section_of o (trigger_at o b) b in
    let v : Whole false veto = rule-whole o false 0 b room (first-at _ e 2) in
    let t : Whole true trigger = rule-whole o true (trigger_at o b) b (omega arith) (first-at _ e 3) in
    record {
      nvt = veto.count;
      nvw = veto.width;
      ntt = trigger.count;
      ntw = trigger.width;
      veto_times = veto.times;
      veto_masks = veto.masks;
      trigger_times = trigger.times;
      trigger_masks = trigger.masks;
      filled = sym (history_restored o b h e) ∙ simp append_assoc;
      lengths = (v.times, v.masks, t.times, t.masks);
      counts = (v.count, v.width, t.count, t.width);
      missing = v.widths;
      six = t.widths;
    }

fills_accepted : (o : Order) (b : List ℕ) → Fills o b → history_rule o b ≡ 0
unfolding history_fault history_bytes section_bytes
fills_accepted o b f =
    let veto : Section = record { count = f.nvt; times = f.veto_times; width = f.nvw; masks = f.veto_masks } in
    let trigger : Section = record { count = f.ntt; times = f.trigger_times; width = f.ntw; masks = f.trigger_masks } in
    let v : Whole false veto = record {
      count = f.counts.0;
      times = f.lengths.0;
      width = f.counts.1;
      widths = f.missing;
      masks = f.lengths.1;
    } in
    let t : Whole true trigger = record {
      count = f.counts.2;
      times = f.lengths.2;
      width = f.counts.3;
      widths = f.six;
      masks = f.lengths.3;
    } in
    let g : History = record { veto = veto; trigger = trigger } in
    let same : history_bytes o g ≡ b = simp append_assoc (sym f.filled) in
    rw same at (history_read_back o g (first_passes _ (whole-fault false veto v, (whole-fault true trigger t, tt)))).0

-- A body is accepted exactly where two sections fill it.
pub history_fills : (o : Order) (b : List ℕ) → Bytes b → (history_rule o b ≡ 0) ↔ Fills o b
history_fills o b h = (accepted_fills o b h, fills_accepted o b)
