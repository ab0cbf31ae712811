-- The history: kind 0x21, a body of two sections, veto and trigger: a count of times, the times, a width, and so many masks for each time. No word
-- says where a list starts: that follows from the counts before it, and so the rule goes through the body count by count. The times are signed
-- words that no rule bounds, and so are the masks, as plain words.
use Rattle.std.specs.Prelude.{ℕ, ◌+◌, ◌*◌, ◌%◌, Bool, true, false, not, cond, List, [], ◌∷◌, ◌++◌, leb, eqb, length, take, drop}
use Rattle.theory.specs.declared.Order.{Order}
use Rattle.theory.specs.Tests.{unless, first}
use Rattle.note.specs.Faults.{wrong_length, wrong_field}
use Rattle.note.specs.Words.{word, words, greatest_signed}
use Rattle.note.specs.Answers.{counts}
use Rattle.note.specs.Kinds.{Kind}

-- FORMAT 5.3: a section: how many times (nvt, ntt), the times, how many masks for each (nvw, ntw), the masks. Lists are the bytes as they stand.
pub record Section : Type 0 where
  pub count : ℕ
  pub times : List ℕ
  pub width : ℕ
  pub masks : List ℕ

pub record History : Type 0 where
  pub veto : Section
  pub trigger : Section

-- FORMAT 5.3: a section whose count stands at place p of the body: where its width stands, its width, and the place after its masks.
unfoldable pub width_at : Order → ℕ → List ℕ → ℕ
width_at o p b = p + 4 + 4 * word o p b

unfoldable pub width_of : Order → ℕ → List ℕ → ℕ
width_of o p b = word o (width_at o p b) b

unfoldable pub end_at : Order → ℕ → List ℕ → ℕ
end_at o p b = width_at o p b + 4 + 4 * (word o p b * width_of o p b)

-- FORMAT 5.3: the trigger section stands after the veto section.
abbrev pub trigger_at : Order → List ℕ → ℕ
trigger_at o b = end_at o 0 b

unfoldable pub section_of : Order → ℕ → List ℕ → Section
section_of o p b = record {
  count = word o p b;
  times = take (4 * word o p b) (drop (p + 4) b);
  width = width_of o p b;
  masks = take (4 * (word o p b * width_of o p b)) (drop (width_at o p b + 4) b);
}

-- FORMAT 5.3: the fields of a body, and the body of fields.
unfoldable pub history_of : Order → List ℕ → History
history_of o b = record { veto = section_of o 0 b; trigger = section_of o (trigger_at o b) b }

unfoldable pub section_bytes : Order → Section → List ℕ
section_bytes o s = words o (s.count ∷ []) ++ (s.times ++ (words o (s.width ∷ []) ++ s.masks))

unfoldable pub history_bytes : Order → History → List ℕ
history_bytes o h = section_bytes o h.veto ++ section_bytes o h.trigger

-- FORMAT 5.3: a count is signed, and one below 0 is 10.
abbrev pub not_negative : ℕ → ℕ
not_negative n = unless (leb n greatest_signed) wrong_field

-- FORMAT 5.3: the width that goes with so many times: 0 with none, which makes the section a missing one; with some, any but 0 in the veto section
-- (false), and 6 in the trigger section (true).
unfoldable pub is_width : Bool → ℕ → ℕ → Bool
is_width false times width = cond (eqb times 0) (eqb width 0) (not (eqb width 0))
is_width true times width = cond (eqb times 0) (eqb width 0) (eqb width 6)

-- FORMAT 5.3: a section's tests: its count of times, then its width: within the body, or 6; not negative, or 10; last the width for those times, or
-- 10. The Bool says whether it is the trigger section.
abbrev pub section_tests : Order → Bool → ℕ → List ℕ → List ℕ
section_tests o trigger p b =
    unless (leb (p + 4) (length b)) wrong_length ∷
    not_negative (word o p b) ∷
    unless (leb (width_at o p b + 4) (length b)) wrong_length ∷
    not_negative (width_of o p b) ∷
    unless (is_width trigger (word o p b) (width_of o p b)) wrong_field ∷ []

unfoldable pub section_rule : Order → Bool → ℕ → List ℕ → ℕ
section_rule o trigger p b = first (section_tests o trigger p b)

-- FORMAT 5.3: the tests: 16 bytes at the least, and whole words, or 6; both sections; at the end exactly the bytes that the counts ask for, or 6.
abbrev pub history_tests : Order → List ℕ → List ℕ
history_tests o b =
    unless (leb 16 (length b)) wrong_length ∷
    unless (eqb (length b % 4) 0) wrong_length ∷
    section_rule o false 0 b ∷
    section_rule o true (trigger_at o b) b ∷
    unless (eqb (length b) (end_at o (trigger_at o b) b)) wrong_length ∷ []

unfoldable pub history_rule : Order → List ℕ → ℕ
history_rule o b = first (history_tests o b)

-- FORMAT 5.3, 9.2: what the writer tests, in the same order: each count and, behind it, the part of bytes that holds its list, 6 where that has
-- another size.
unfoldable pub section_fault : Bool → Section → ℕ
section_fault trigger s = first (
    not_negative s.count ∷
    unless (eqb (length s.times) (4 * s.count)) wrong_length ∷
    not_negative s.width ∷
    unless (is_width trigger s.count s.width) wrong_field ∷
    unless (eqb (length s.masks) (4 * (s.count * s.width))) wrong_length ∷ [])

unfoldable pub history_fault : History → ℕ
history_fault h = first (section_fault false h.veto ∷ section_fault true h.trigger ∷ [])

-- FORMAT 5.3, 8.5: what Record answers of a section, the body standing at `from`: each count, and behind it the place in the lent bytes at which its
-- list starts. The list of a missing section starts there too, and is empty.
unfoldable pub section_values : Order → ℕ → ℕ → List ℕ → List ℕ
section_values o from p b = word o p b ∷ (from + (p + 4)) ∷ width_of o p b ∷ (from + (width_at o p b + 4)) ∷ []

-- FORMAT 5.3, 7.2: row kind 8; its values are both counts of times.
abbrev pub history_kind : Kind
history_kind = record {
  word = 0x21;
  row = 8;
  rule = history_rule;
  one = λ o b. (history_of o b).veto.count;
  two = λ o b. (history_of o b).trigger.count;
  values = λ o place b. counts (section_values o (place + 8) 0 b ++ section_values o (place + 8) (trigger_at o b) b);
  again = λ o b. history_bytes o (history_of o b);
}
