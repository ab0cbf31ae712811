-- Text stored piece by piece: what is stored, and what is still to be stored; the digits that `io::decimal` makes; lines, by their numbers and
-- by a buffer's rows; the room that Table's answer and buffer ask for.
-- The idea: a loop's invariant says that what is left, stored from here on, makes the whole; a piece stored takes it from what is left.
use Prim.Native.Nat.{ℕ, zero, suc, ◌+◌, ◌-◌, ◌*◌, ◌/◌, ◌%◌, ◌^◌, ◌≤◌, ◌<◌}
use mathlib.Core.Path.{◌≡◌, refl, sym, ap, ◌∙◌, subst}
use mathlib.Core.Bool.{Bool, true, false, cond, and-eq-true_iff}
use mathlib.Core.List.{List, [], ◌∷◌, ◌++◌, append_assoc}
use native.Mathlib.Omega.{arith}
use native.Mathlib.Nat.{pow-suc, pow-zero, one-le-pow, mod-eq_of_lt}
use native.Mathlib.Numerals.{add-one}
use lib.Dec.{leb, eqb}
use lib.ListN.{length, take, drop, get_or, set, length-append, length-drop}
use lib.Seq.{sets, sets-eq, drop-cons, length-take-le}
use borrow.Author.Tests.{lt-ltb, le-leb, lt-leb, leb-true, leb-false, ne_eqb}
use Rattle.io.specs.Counts.{IsPrefixLen}
use Rattle.io.specs.Digits.{hex_digit_ascii, last_digits, IsDigitCount}
use Rattle.theory.proofs.StoreLaws.{sets-append}
use Rattle.note.specs.Listing.{decimal_text, separator, line_text, lines_text}
use Rattle.note.proofs.ListingLaws.{decimal-one, decimal_more, decimal-short}
use Rattle.note.specs.declared.TableAnswer.{TableAnswer}
use Rattle.std.specs.Simd.{first_chunks}
use Rattle.lines.specs.Texts.{buffer_lines, numbered, listed_rows, table_lines, has_room, table_text, Put}

-- ---- piece by piece

-- One text behind another is both.
pub put_both : (out : List ℕ) (at : ℕ) (a b : List ℕ) (next end : ℕ) (after last : List ℕ)
    → Put out at a next after → Put after next b end last → Put out at (a ++ b) end last
put_both out at a b next end after last p q = (
  omega (arith, p.0, q.0, length-append a b),
  q.1 ∙ ap (λ (l : List ℕ). sets l next b) p.1 ∙ ap (λ (k : ℕ). sets (sets out at a) k b) p.0 ∙ sets-append out at a b,
)

-- What is left, stored from `next` on, makes the whole, stored from `at` on in the output as it was first.
abbrev pub Left : List ℕ → ℕ → List ℕ → List ℕ → ℕ → List ℕ → Type 0
Left first at whole out next rest = (next + length rest ≡ at + length whole) × (sets out next rest ≡ sets first at whole)

pub left-piece : (first : List ℕ) (at : ℕ) (whole out : List ℕ) (next : ℕ) (a b : List ℕ) (end : ℕ) (after : List ℕ)
    → Left first at whole out next (a ++ b) → Put out next a end after → Left first at whole after end b
left-piece first at whole out next a b end after l p = (
  omega (arith, l.0, p.0, length-append a b),
  ap (λ (m : List ℕ). sets m end b) p.1 ∙ ap (λ (k : ℕ). sets (sets out next a) k b) p.0 ∙ sets-append out next a b ∙ l.1,
)

pub left-none : (first : List ℕ) (at : ℕ) (whole out : List ℕ) (next : ℕ) → Left first at whole out next [] → Put first at whole next out
left-none first at whole out next l = (omega (arith, l.0), l.1)

-- ---- digits

glyph_digit : (d : ℕ) → d < 10 → hex_digit_ascii d ≡ 48 + d
glyph_digit d h = rw (lt-ltb d 10 h)

-- The fewest digits that hold a number are its text.
pub digits_are_text : (k n : ℕ) → IsDigitCount 10 1 n k → last_digits 10 k n ≡ decimal_text n
digits_are_text zero n f = absurd (omega (arith, f.0))
digits_are_text (suc zero) n f =
    let small : n < 10 = omega (arith, f.1, pow-suc 10 0, pow-zero 10) in
    let same : n % 10 ≡ n = mod-eq_of_lt small in
    ap (λ (d : ℕ). d ∷ []) (glyph_digit (n % 10) (omega arith) ∙ ap (λ (m : ℕ). 48 + m) same) ∙ sym (decimal-one n small)
digits_are_text (suc (suc j)) n f =
    let one_less : suc (suc j) - 1 ≡ suc j = omega arith in
    let none-less : suc j - 1 ≡ j = omega arith in
    let held : 10 ^ suc j ≤ n = subst (λ (e : ℕ). 10 ^ e ≤ n) one_less (f.2 (omega arith)) in
    let some : 1 ≤ 10 ^ j = one-le-pow j 10 (omega arith) in
    let below : n < 10 ^ suc j * 10 = rw pow-suc at f.1 in
    let above : 10 ^ j * 10 ≤ n = rw pow-suc at held in
    let fewest : IsDigitCount 10 1 (n / 10) (suc j) = (
      omega arith,
      omega arith,
      λ h. subst (λ (e : ℕ). 10 ^ e ≤ n / 10) (sym none-less) (omega arith),
    ) in
    ap (λ (l : List ℕ). l ++ (hex_digit_ascii (n % 10) ∷ [])) (digits_are_text (suc j) (n / 10) fewest)
    ∙ ap (λ (d : ℕ). decimal_text (n / 10) ++ (d ∷ [])) (glyph_digit (n % 10) (omega arith))
    ∙ sym (decimal_more n (omega arith))

-- A number of 32 bits has at most ten digits, one of 64 bits at most twenty.
pub word_digits : (n : ℕ) → n < 4294967296 → length (decimal_text n) ≤ 10
word_digits n h = let fits : n < 10000000000 = omega arith in decimal-short n 9 fits

pub long_digits : (n : ℕ) → n < 18446744073709551616 → length (decimal_text n) ≤ 20
long_digits n h = let fits : n < 100000000000000000000 = omega arith in decimal-short n 19 fits

-- Digits stored, and the byte behind them.
pub number_put : (out : List ℕ) (at k n behind : ℕ) (ds mid : List ℕ) → ds ≡ decimal_text n → k ≡ length (decimal_text n) → mid ≡ sets out at ds
    → Put out at (decimal_text n ++ (behind ∷ [])) (at + k + 1) (set mid (at + k) behind)
number_put out at k n behind ds mid e l m = (
  omega (arith, length-append (decimal_text n) (behind ∷ [])),
  ap (λ (x : List ℕ). set x (at + k) behind) (m ∙ ap (sets out at) e)
      ∙ ap (λ (j : ℕ). sets (sets out at (decimal_text n)) (at + j) (behind ∷ [])) l
      ∙ sets-append out at (decimal_text n) (behind ∷ []),
)

-- ---- lines

-- The byte behind a number, as the code's test has it.
blank_behind : (following : ℕ) → (following ≡ 0 → ⊥) → ◌≡◌ {A = ℕ} 32 (cond (eqb following 0) 10 32)
blank_behind following e = sym (ap (λ (t : Bool). cond t 10 32) (ne_eqb following 0 e))

behind-number : (ns : List ℕ) → separator ns ≡ cond (eqb (length ns) 0) 10 32
behind-number [] = refl
behind-number (n ∷ ns) = blank_behind (suc (length ns)) (λ e. omega arith)

-- A line from one of its numbers on: the number and the byte behind it, then the rest of the line.
line_from : (ns : List ℕ) (i following : ℕ) → i < length ns → following ≡ length ns - i - 1
    → line_text (drop i ns) ≡ (decimal_text (get_or ns i 0) ++ (cond (eqb following 0) 10 32 ∷ [])) ++ line_text (drop (i + 1) ns)
unfolding line_text
line_from ns i following h e =
    let left : length (drop (suc i) ns) ≡ following = omega (arith, length-drop (suc i) ns) in
    let byte : separator (drop (suc i) ns) ≡ cond (eqb following 0) 10 32 =
    behind-number (drop (suc i) ns) ∙ ap (λ (k : ℕ). cond (eqb k 0) 10 32) left in
    ap line_text (drop-cons ns i 0 h)
    ∙ ap (λ (b : ℕ). decimal_text (get_or ns i 0) ++ (b ∷ line_text (drop (suc i) ns))) byte
    ∙ sym (append_assoc (decimal_text (get_or ns i 0)) (cond (eqb following 0) 10 32 ∷ []) (line_text (drop (suc i) ns)))
    ∙ ap (λ (k : ℕ). (decimal_text (get_or ns i 0) ++ (cond (eqb following 0) 10 32 ∷ [])) ++ line_text (drop k ns)) (sym (add-one i))

none_left : {A : Type 0} (l : List A) → length l ≤ 0 → l ≡ []
none_left [] h = refl
none_left (x ∷ l) h = absurd (omega arith)

-- A turn of a line's loop, and its end.
pub line_turn : (first : List ℕ) (at : ℕ) (whole out ns : List ℕ) (next i following b n end : ℕ) (after : List ℕ)
    → i < length ns → following ≡ length ns - i - 1 → b ≡ cond (eqb following 0) 10 32 → n ≡ get_or ns i 0
    → Left first at whole out next (line_text (drop i ns)) → Put out next (decimal_text n ++ (b ∷ [])) end after
    → Left first at whole after end (line_text (drop (i + 1) ns))
line_turn first at whole out ns next i following b n end after h e s m l p =
    let text : List ℕ = decimal_text (get_or ns i 0) ++ (cond (eqb following 0) 10 32 ∷ []) in
    left-piece first at whole out next text (line_text (drop (i + 1) ns)) end after
    (subst (λ (x : List ℕ). Left first at whole out next x) (line_from ns i following h e) l)
    (subst (λ (x : ℕ). Put out next (decimal_text (get_or ns i 0) ++ (x ∷ [])) end after) s
    (subst (λ (x : ℕ). Put out next (decimal_text x ++ (b ∷ [])) end after) m p))

line_ends : (ns : List ℕ) (i : ℕ) → length ns ≤ i → line_text (drop i ns) ≡ []
unfolding line_text
line_ends ns i h = ap line_text (none_left (drop i ns) (omega (arith, length-drop i ns)))

pub line_done : (first : List ℕ) (at : ℕ) (whole out ns : List ℕ) (next i : ℕ) → length ns ≤ i
    → Left first at whole out next (line_text (drop i ns)) → Put first at whole next out
line_done first at whole out ns next i h l =
    left-none first at whole out next (subst (λ (x : List ℕ). Left first at whole out next x) (line_ends ns i h) l)

-- A number and a blank in front of a line that has a number.
line_behind : (n : ℕ) (ns : List ℕ) → 1 ≤ length ns → (decimal_text n ++ (32 ∷ [])) ++ line_text ns ≡ line_text (n ∷ ns)
unfolding line_text
line_behind n [] h = absurd (omega arith)
line_behind n (m ∷ ns) h = append_assoc (decimal_text n) (32 ∷ []) (line_text (m ∷ ns))

-- Three numbers, each stored with the byte behind it.
three_numbers : (a b c : ℕ)
    → (decimal_text a ++ (32 ∷ [])) ++ ((decimal_text b ++ (32 ∷ [])) ++ (decimal_text c ++ (10 ∷ []))) ≡ line_text (a ∷ b ∷ c ∷ [])
unfolding line_text
three_numbers a b c =
    append_assoc (decimal_text a) (32 ∷ []) ((decimal_text b ++ (32 ∷ [])) ++ (decimal_text c ++ (10 ∷ [])))
    ∙ ap (λ (l : List ℕ). decimal_text a ++ (32 ∷ l)) (append_assoc (decimal_text b) (32 ∷ []) (decimal_text c ++ (10 ∷ [])))

pub answer_put : (out : List ℕ) (number a b c behind_a behind_b end : ℕ) (after_a after_b last : List ℕ) → number ≡ a
    → Put out 0 (decimal_text number ++ (32 ∷ [])) behind_a after_a
    → Put after_a behind_a (decimal_text b ++ (32 ∷ [])) behind_b after_b
    → Put after_b behind_b (decimal_text c ++ (10 ∷ [])) end last
    → Put out 0 (line_text (a ∷ b ∷ c ∷ [])) end last
answer_put out number a b c behind_a behind_b end after_a after_b last e p q r =
    subst (λ (x : List ℕ). Put out 0 x end last) (three_numbers a b c)
    (put_both out 0 (decimal_text a ++ (32 ∷ [])) ((decimal_text b ++ (32 ∷ [])) ++ (decimal_text c ++ (10 ∷ []))) behind_a end after_a last
    (subst (λ (n : ℕ). Put out 0 (decimal_text n ++ (32 ∷ [])) behind_a after_a) e p)
    (put_both after_a behind_a (decimal_text b ++ (32 ∷ [])) (decimal_text c ++ (10 ∷ [])) behind_b end after_b last q r))

-- ---- rows

-- A row's number, a blank, and its values.
pub row_put : (out : List ℕ) (at number next end : ℕ) (row mid last : List ℕ) → 1 ≤ length row
    → Put out at (decimal_text number ++ (32 ∷ [])) next mid → Put mid next (line_text row) end last
    → Put out at (line_text (number ∷ row)) end last
row_put out at number next end row mid last h p q =
    subst (λ (x : List ℕ). Put out at x end last) (line_behind number row h)
    (put_both out at (decimal_text number ++ (32 ∷ [])) (line_text row) next end mid last p q)

-- The lines of rows from the one with the index i on.
rows-from : (rows : List (List ℕ)) (i : ℕ) → i < length rows
    → lines_text (numbered (i + 1) (drop i rows)) ≡ line_text ((i + 1) ∷ get_or rows i []) ++ lines_text (numbered (i + 1 + 1) (drop (i + 1) rows))
unfolding numbered lines_text
rows-from rows i h =
    ap (λ (l : List (List ℕ)). lines_text (numbered (i + 1) l)) (drop-cons rows i [] h)
    ∙ ap (λ (k : ℕ). line_text ((i + 1) ∷ get_or rows i []) ++ lines_text (numbered (i + 1 + 1) (drop k rows))) (sym (add-one i))

rows_end : (rows : List (List ℕ)) (i n : ℕ) → length rows ≤ i → lines_text (numbered n (drop i rows)) ≡ []
unfolding numbered lines_text
rows_end rows i n h = ap (λ (l : List (List ℕ)). lines_text (numbered n l)) (none_left (drop i rows) (omega (arith, length-drop i rows)))

-- A turn of the rows' loop, and its end.
pub rows_turn : (first : List ℕ) (at : ℕ) (whole out : List ℕ) (rows : List (List ℕ)) (next i end : ℕ) (after : List ℕ) → i < length rows
    → Left first at whole out next (lines_text (numbered (i + 1) (drop i rows)))
    → Put out next (line_text ((i + 1) ∷ get_or rows i [])) end after
    → Left first at whole after end (lines_text (numbered (i + 1 + 1) (drop (i + 1) rows)))
rows_turn first at whole out rows next i end after h l p =
    left-piece first at whole out next (line_text ((i + 1) ∷ get_or rows i [])) (lines_text (numbered (i + 1 + 1) (drop (i + 1) rows))) end after
    (subst (λ (x : List ℕ). Left first at whole out next x) (rows-from rows i h) l) p

pub rows_done : (first : List ℕ) (at : ℕ) (whole out : List ℕ) (rows : List (List ℕ)) (next i : ℕ) → length rows ≤ i
    → Left first at whole out next (lines_text (numbered (i + 1) (drop i rows))) → Put first at whole next out
rows_done first at whole out rows next i h l =
    left-none first at whole out next (subst (λ (x : List ℕ). Left first at whole out next x) (rows_end rows i (i + 1) h) l)

-- A buffer's first n rows, as rows of their own.
chunks_numbered : (n i : ℕ) (rows : List ℕ) → numbered i (first_chunks 6 n rows) ≡ buffer_lines i n rows
unfolding numbered buffer_lines
chunks_numbered zero i rows = refl
chunks_numbered (suc n) i rows = ap (λ (ls : List (List ℕ)). (i ∷ take 6 rows) ∷ ls) (chunks_numbered n (i + 1) (drop 6 rows))

chunks_taken : (n k : ℕ) (rows : List ℕ) → n ≤ k → take n (first_chunks 6 k rows) ≡ first_chunks 6 n rows
chunks_taken zero k rows h = refl
chunks_taken (suc n) zero rows h = absurd (omega arith)
chunks_taken (suc n) (suc k) rows h = ap (λ (ls : List (List ℕ)). take 6 rows ∷ ls) (chunks_taken n k (drop 6 rows) (omega arith))

pub buffer_rows : (n k : ℕ) (rows : List ℕ) → n ≤ k → numbered 1 (take n (first_chunks 6 k rows)) ≡ buffer_lines 1 n rows
buffer_rows n k rows h = ap (numbered 1) (chunks_taken n k rows h) ∙ chunks_numbered n 1 rows

-- ---- Table's answer and buffer

-- The room that a listing asks for, as the tests of the code have it: too few rows, no room for a first line, room for the rows' lines or not.
pub few_rows_held : (n held room : ℕ) → held / 6 < n → false ≡ has_room n held room
unfolding has_room
few_rows_held n held room h = rw (lt-leb (n * 6) held (omega arith))

pub no_first_line : (n held room : ℕ) → n ≤ held / 6 → room < 63 → false ≡ has_room n held room
unfolding has_room
no_first_line n held room h r = rw (le-leb (n * 6) held (omega arith), lt-leb (63 + n * 87) room (omega arith))

pub room_of_rows : (n held room : ℕ) → n ≤ held / 6 → 63 ≤ room → leb n ((room - 63) / 87) ≡ has_room n held room
unfolding has_room
room_of_rows n held room h r = rw (le-leb (n * 6) held (omega arith)) (same (leb n ((room - 63) / 87)) refl)
  where
    same : (t : Bool) → leb n ((room - 63) / 87) ≡ t → leb n ((room - 63) / 87) ≡ leb (63 + n * 87) room
    same true e = let l = leb-true n ((room - 63) / 87) e in e ∙ sym (le-leb (63 + n * 87) room (omega arith))
    same false e = let l = leb-false n ((room - 63) / 87) e in e ∙ sym (lt-leb (63 + n * 87) room (omega arith))

pub room_shown : (n held room : ℕ) → has_room n held room ≡ true → (n * 6 ≤ held) × (63 + n * 87 ≤ room)
unfolding has_room
room_shown n held room e =
    let s = (and-eq-true_iff (leb (n * 6) held) (leb (63 + n * 87) room)).0 e in (leb-true (n * 6) held s.0, leb-true (63 + n * 87) room s.1)

-- The bytes at an output's front, as a count of its bytes.
counted : (n : ℕ) (text rest after : List ℕ) → n ≡ length text → after ≡ text ++ rest → IsPrefixLen n after
counted n text rest after e p =
    let fits : n ≤ length after = omega (arith, ap length p, length-append text rest) in (fits, sym (length-take-le n after fits))

-- Table's text at an output's front, and how many bytes it has.
abbrev pub TablePut : List ℕ → List ℕ → TableAnswer → ℕ → List ℕ → Type 0
TablePut out rows a next after =
    (next ≡ length (table_text a rows (length out))) × ((after ≡ table_text a rows (length out) ++ drop next out) × IsPrefixLen next after)

-- Without room nothing is made; with it the text is stored at the output's front.
pub nothing_put : (out rows : List ℕ) (a : TableAnswer) → has_room (listed_rows a.number a.count) (length rows) (length out) ≡ false
    → TablePut out rows a 0 out
unfolding table_text
nothing_put out rows a e = rw e (refl, (refl, (omega arith, refl)))

pub table_put : (out rows : List ℕ) (a : TableAnswer) (next : ℕ) (after : List ℕ)
    → has_room (listed_rows a.number a.count) (length rows) (length out) ≡ true
    → next ≤ length out → Put out 0 (lines_text (table_lines a rows)) next after → TablePut out rows a next after
unfolding table_text
table_put out rows a next after e fits p =
    let text : List ℕ = lines_text (table_lines a rows) in
    let long : next ≡ length text = omega (arith, p.0) in
    let front : after ≡ text ++ drop next out = p.1 ∙ sets-eq text out 0 (omega arith) ∙ ap (λ (k : ℕ). text ++ drop k out) (sym p.0) in
    rw e (long, (front, counted next text (drop next out) after long front))

-- The first line, and then the rows' lines.
pub both_put : (out rows : List ℕ) (a : TableAnswer) (n next end : ℕ) (mid last : List ℕ) → n ≡ listed_rows a.number a.count
    → has_room n (length rows) (length out) ≡ true → end ≤ length out
    → Put out 0 (line_text (a.number ∷ a.count ∷ a.place ∷ [])) next mid → Put mid next (lines_text (buffer_lines 1 n rows)) end last
    → TablePut out rows a end last
unfolding lines_text
both_put out rows a n next end mid last e room fits p q =
    let first : List ℕ = line_text (a.number ∷ a.count ∷ a.place ∷ []) in
    let others : List ℕ = lines_text (buffer_lines 1 (listed_rows a.number a.count) rows) in
    table_put out rows a end last (subst (λ (k : ℕ). has_room k (length rows) (length out) ≡ true) e room) fits
    (put_both out 0 first others next end mid last p (subst (λ (k : ℕ). Put mid next (lines_text (buffer_lines 1 k rows)) end last) e q))
