-- The listing's text and limit: a number's digits are read as that number and no other digits are, how many they are at the most, and which
-- files are listed.
-- The idea: one digit more is one division by ten more, so each law has a number below ten, and a number's tenth before the number.
use Prim.Native.Nat.{ℕ, zero, suc, ◌+◌, ◌-◌, ◌*◌, ◌/◌, ◌%◌, ◌^◌, ◌≤◌, ◌<◌}
use mathlib.Core.Path.{◌≡◌, refl, sym, ap, ◌∙◌, subst}
use mathlib.Core.Bool.{Bool, true, false}
use mathlib.Core.List.{List, [], ◌∷◌, ◌++◌, append-nil, append_assoc}
use native.Mathlib.Omega.{arith}
use native.Mathlib.Nat.{pow-suc, pow-zero, le_of_suc-le-suc, not-suc-le-zero}
use lib.Dec.{leb, eqb, ltb}
use lib.ListN.{length, get_or, length-append}
use borrow.Author.Tests.{ltb-true, ltb-false, eqb-true, eqb-false, le-leb, lt-leb}
use Rattle.note.specs.Limits.{listing_limit}
use Rattle.theory.specs.Tests.{ok, bad}
use Rattle.theory.specs.Layout.{Row, row}
use Rattle.note.specs.Files.{File, read_file}
use Rattle.note.specs.Rows.{rows_of, row_numbers}
use Rattle.note.specs.Listing.{row_lines, lines_given, listing, digits_of, decimal_text, line_text, lines_text, listing_text}
use Rattle.note.specs.Spelling.{digits_read, DigitBytes, NoZeroInFront}

-- ---- the two ways to have digits

-- Of 0 there are no digits, of any other number its tenth's and its last.
digits_none : (f : ℕ) → digits_of f 0 ≡ []
unfolding digits_of
digits_none zero = refl
digits_none (suc f) = refl

digits_step : (f n : ℕ) → 1 ≤ n → digits_of (suc f) n ≡ digits_of f (n / 10) ++ ((48 + n % 10) ∷ [])
unfolding digits_of
digits_step f zero h = absurd (omega arith)
digits_step f (suc n) h = refl

-- What holds of numbers below ten, and of a number where it holds of its tenth, holds of all.
module _ (P : ℕ → Type 0) (one : (n : ℕ) → n < 10 → P n) (more : (n : ℕ) → 10 ≤ n → P (n / 10) → P n) where
  bounded : (f n : ℕ) → n < f → P n
  bounded zero n h = absurd (omega arith)
  bounded (suc f) n h = way (bounded f (n / 10)) (ltb n 10) refl
    where
      way : (n / 10 < f → P (n / 10)) → (t : Bool) → ltb n 10 ≡ t → P n
      way tenth true e = one n (ltb-true n 10 e)
      way tenth false e = let ten : 10 ≤ n = ltb-false n 10 e in more n ten (tenth (omega arith))

  pub by-tenths : (n : ℕ) → P n
  by-tenths n = bounded (suc n) n (omega arith)

-- More steps than a number has digits change nothing.
enough : (n f g : ℕ) → n ≤ f → n ≤ g → digits_of f n ≡ digits_of g n
enough = by-tenths Enough one more
  where
    Enough : ℕ → Type 0
    Enough n = (f g : ℕ) → n ≤ f → n ≤ g → digits_of f n ≡ digits_of g n

    one : (n : ℕ) → n < 10 → Enough n
    one zero s f g h k = digits_none f ∙ sym (digits_none g)
    one (suc n) s zero g h k = absurd (omega arith)
    one (suc n) s (suc f) zero h k = absurd (omega arith)
    one (suc n) s (suc f) (suc g) h k =
        let tenth : suc n / 10 ≡ 0 = omega arith in
        let none : digits_of f (suc n / 10) ≡ digits_of g (suc n / 10) = rw tenth (digits_none f ∙ sym (digits_none g)) in
        digits_step f (suc n) (omega arith) ∙ ap (λ (l : List ℕ). l ++ ((48 + suc n % 10) ∷ [])) none ∙ sym (digits_step g (suc n) (omega arith))

    more : (n : ℕ) → 10 ≤ n → Enough (n / 10) → Enough n
    more n s i zero g h k = absurd (omega arith)
    more n s i (suc f) zero h k = absurd (omega arith)
    more n s i (suc f) (suc g) h k =
        let tenth : digits_of f (n / 10) ≡ digits_of g (n / 10) = i f g (omega arith) (omega arith) in
        digits_step f n (omega arith) ∙ ap (λ (l : List ℕ). l ++ ((48 + n % 10) ∷ [])) tenth ∙ sym (digits_step g n (omega arith))

-- The text of a number above 0 is its digits, by any bound that is enough.
text_digits : (f n : ℕ) → 1 ≤ n → n ≤ f → digits_of f n ≡ decimal_text n
unfolding decimal_text
text_digits f zero h k = absurd (omega arith)
text_digits f (suc n) h k = enough (suc n) f (suc n) k (omega arith)

pub decimal-one : (n : ℕ) → n < 10 → decimal_text n ≡ (48 + n) ∷ []
unfolding decimal_text
decimal-one zero h = refl
decimal-one (suc n) h =
    let tenth : suc n / 10 ≡ 0 = omega arith in
    let last : suc n % 10 ≡ suc n = omega arith in
    let none : digits_of n (suc n / 10) ≡ [] = rw tenth (digits_none n) in
    digits_step n (suc n) (omega arith) ∙ ap (λ (l : List ℕ). l ++ ((48 + suc n % 10) ∷ [])) none ∙ ap (λ (d : ℕ). (48 + d) ∷ []) last

pub decimal_more : (n : ℕ) → 10 ≤ n → decimal_text n ≡ decimal_text (n / 10) ++ ((48 + n % 10) ∷ [])
decimal_more n h =
    sym (text_digits (suc n) n (omega arith) (omega arith))
    ∙ digits_step n n (omega arith)
    ∙ ap (λ (l : List ℕ). l ++ ((48 + n % 10) ∷ [])) (text_digits n (n / 10) (omega arith) (omega arith))

-- ---- what they are read as

read_last : (v : ℕ) (ds : List ℕ) (d : ℕ) → digits_read v (ds ++ (d ∷ [])) ≡ digits_read v ds * 10 + (d - 48)
read_last v [] d = refl
read_last v (x ∷ ds) d = read_last (v * 10 + (x - 48)) ds d

digits_last : (ds : List ℕ) (d : ℕ) → DigitBytes ds → 48 ≤ d → d ≤ 57 → DigitBytes (ds ++ (d ∷ []))
digits_last [] d a l h = ((l, h), tt)
digits_last (x ∷ ds) d a l h = (a.0, digits_last ds d a.1 l h)

decimal-read : (n : ℕ) → digits_read 0 (decimal_text n) ≡ n
decimal-read = by-tenths (λ n. digits_read 0 (decimal_text n) ≡ n)
    (λ n h. ap (digits_read 0) (decimal-one n h) ∙ omega arith)
    (λ n h i. ap (digits_read 0) (decimal_more n h) ∙ read_last 0 (decimal_text (n / 10)) (48 + n % 10) ∙ omega (arith, i))

decimal_digits : (n : ℕ) → DigitBytes (decimal_text n)
decimal_digits = by-tenths (λ n. DigitBytes (decimal_text n))
    (λ n h. subst DigitBytes (sym (decimal-one n h)) ((omega arith, omega arith), tt))
    (λ n h i. subst DigitBytes (sym (decimal_more n h)) (digits_last (decimal_text (n / 10)) (48 + n % 10) i (omega arith) (omega arith)))

-- A digit that is no zero stands in front.
abbrev Leads : List ℕ → Type 0
Leads [] = ⊥
Leads (d ∷ ds) = 49 ≤ d

leads_before : (ds es : List ℕ) → Leads ds → Leads (ds ++ es)
leads_before [] es l = absurd l
leads_before (d ∷ ds) es l = l

leads_no_zero : (ds : List ℕ) → Leads ds → NoZeroInFront ds
leads_no_zero [] l = l
leads_no_zero (d ∷ ds) l = λ e. absurd (omega arith)

decimal_leads : (n : ℕ) → 1 ≤ n → Leads (decimal_text n)
decimal_leads = by-tenths (λ n. 1 ≤ n → Leads (decimal_text n))
    (λ n h p. subst Leads (sym (decimal-one n h)) (omega arith))
    (λ n h i p. subst Leads (sym (decimal_more n h)) (leads_before (decimal_text (n / 10)) ((48 + n % 10) ∷ []) (i (omega arith))))

decimal-front : (n : ℕ) → NoZeroInFront (decimal_text n)
decimal-front n = by-tenths NoFront
    (λ m h. subst NoZeroInFront (sym (decimal-one m h)) (λ e. refl))
    (λ m h i. leads_no_zero (decimal_text m) (decimal_leads m (omega arith))) n
  where
    NoFront : ℕ → Type 0
    NoFront m = NoZeroInFront (decimal_text m)

-- A number's text: digits, with no zero in front, that are read as the number ..
pub decimal_spells : (n : ℕ) → (digits_read 0 (decimal_text n) ≡ n) × DigitBytes (decimal_text n) × NoZeroInFront (decimal_text n)
decimal_spells n = (decimal-read n, decimal_digits n, decimal-front n)

digits_behind : (ds : List ℕ) (v : ℕ) → 1 ≤ v → DigitBytes ds → decimal_text v ++ ds ≡ decimal_text (digits_read v ds)
digits_behind [] v p a = append-nil (decimal_text v)
digits_behind (d ∷ ds) v p a =
    let next : ℕ = v * 10 + (d - 48) in
    let tenth : next / 10 ≡ v = omega arith in
    let last : 48 + next % 10 ≡ d = omega arith in
    let text : decimal_text next ≡ decimal_text v ++ (d ∷ []) = decimal_more next (omega arith) ∙ rw (tenth, last) in
    sym (append_assoc (decimal_text v) (d ∷ []) ds) ∙ ap (λ (l : List ℕ). l ++ ds) (sym text) ∙ digits_behind ds next (omega arith) a.1

-- .. and any such digits are the text of the number that they are read as.
pub one_spelling : (ds : List ℕ) → DigitBytes ds → NoZeroInFront ds → ds ≡ decimal_text (digits_read 0 ds)
one_spelling [] a z = absurd z
one_spelling (d ∷ ds) a z = way (eqb d 48) refl
  where
    way : (t : Bool) → eqb d 48 ≡ t → d ∷ ds ≡ decimal_text (digits_read 0 (d ∷ ds))
    way true e =
        let zeros : d ∷ ds ≡ 48 ∷ [] = ap (λ (x : ℕ). x ∷ ds) (eqb-true d 48 e) ∙ ap (λ (l : List ℕ). 48 ∷ l) (z (eqb-true d 48 e)) in
        subst (λ (l : List ℕ). l ≡ decimal_text (digits_read 0 l)) (sym zeros) (sym (decimal-one 0 (omega arith)))
    way false e =
        let not-zero = eqb-false d 48 e in
        let first : 1 ≤ 0 * 10 + (d - 48) = omega arith in
        let value : 48 + (0 * 10 + (d - 48)) ≡ d = omega arith in
        let text : decimal_text (0 * 10 + (d - 48)) ≡ d ∷ [] = decimal-one (0 * 10 + (d - 48)) (omega arith) ∙ ap (λ (x : ℕ). x ∷ []) value in
        ap (λ (l : List ℕ). l ++ ds) (sym text) ∙ digits_behind ds (0 * 10 + (d - 48)) first a.1

-- ---- how many they are

-- A number below 10 ^ k has at most k digits.
pub decimal-short : (n k : ℕ) → n < 10 ^ suc k → length (decimal_text n) ≤ suc k
decimal-short = by-tenths Short one more
  where
    Short : ℕ → Type 0
    Short n = (k : ℕ) → n < 10 ^ suc k → length (decimal_text n) ≤ suc k

    one : (n : ℕ) → n < 10 → Short n
    one n h k b = omega (arith, ap length (decimal-one n h))

    more : (n : ℕ) → 10 ≤ n → Short (n / 10) → Short n
    more n h i zero b = absurd (omega (arith, pow-suc 10 0, pow-zero 10))
    more n h i (suc k) b =
        let tenth : length (decimal_text (n / 10)) ≤ suc k = i k (omega (arith, pow-suc 10 (suc k))) in
        omega (arith, ap length (decimal_more n h), length-append (decimal_text (n / 10)) ((48 + n % 10) ∷ []))

-- ---- which files are listed

-- An input of 16,384 bytes or fewer is listed; a longer one is 1.
pub listing-within : (bs : List ℕ) → length bs ≤ 16384 → listing bs ≡ lines_given bs (read_file bs)
unfolding listing
listing-within bs h = let test : leb (length bs) listing_limit ≡ true = le-leb (length bs) listing_limit (omega arith) in rw test

pub listing-over : (bs : List ℕ) → 16384 < length bs → listing bs ≡ (1 ∷ 0 ∷ 0 ∷ []) ∷ []
unfolding listing
listing-over bs h = let test : leb (length bs) listing_limit ≡ false = lt-leb (length bs) listing_limit (omega arith) in rw test

-- ---- the lines of a file up to the limit

row_line : (i : ℕ) (rs : List Row) (j : ℕ) → j < length rs → get_or (row_lines i rs) j [] ≡ (i + j) ∷ row_numbers (row rs j)
unfolding row_lines
row_line i [] j h = absurd (not-suc-le-zero h)
row_line i (r ∷ rs) zero h = let e : i ≡ i + 0 = omega arith in ap (λ (n : ℕ). n ∷ row_numbers r) e
row_line i (r ∷ rs) (suc j) h =
    let e : i + 1 + j ≡ i + suc j = omega arith in
    row_line (i + 1) rs j (le_of_suc-le-suc h) ∙ ap (λ (n : ℕ). n ∷ row_numbers (row rs j)) e

length-lines : (i : ℕ) (rs : List Row) → length (row_lines i rs) ≡ length rs
unfolding row_lines
length-lines i [] = refl
length-lines i (r ∷ rs) = ap suc (length-lines (i + 1) rs)

module _ (bs : List ℕ) (within : length bs ≤ 16384) where
  -- Refused: the refusal alone.
  pub listing-refused : (c p : ℕ) → read_file bs ≡ bad c p → listing bs ≡ (c ∷ 0 ∷ p ∷ []) ∷ []
  listing-refused c p e = listing-within bs within ∙ ap (lines_given bs) e

  -- Accepted: the first line, then a line for each row, with its number from 1 and its six numbers, and no line more.
  module _ (f : File) (e : read_file bs ≡ ok f) where
    given : listing bs ≡ (0 ∷ length (rows_of f) ∷ length bs ∷ []) ∷ row_lines 1 (rows_of f)
    given = listing-within bs within ∙ ap (lines_given bs) e

    pub listing-first : get_or (listing bs) 0 [] ≡ 0 ∷ length (rows_of f) ∷ length bs ∷ []
    listing-first = ap (λ (ls : List (List ℕ)). get_or ls 0 []) given

    pub listing_line : (j : ℕ) → j < length (rows_of f)
        → let r : Row = row (rows_of f) j in
        get_or (listing bs) (suc j) [] ≡ suc j ∷ r.kind ∷ r.start ∷ r.whole ∷ r.parent ∷ r.one ∷ r.two ∷ []
    listing_line j h =
        let number : 1 + j ≡ suc j = omega arith in
        ap (λ (ls : List (List ℕ)). get_or ls (suc j) []) given
        ∙ row_line 1 (rows_of f) j h
        ∙ ap (λ (n : ℕ). n ∷ row_numbers (row (rows_of f) j)) number

    pub listing-length : length (listing bs) ≡ suc (length (rows_of f))
    listing-length = ap length given ∙ ap suc (length-lines 1 (rows_of f))

-- ---- the text of lines

-- One blank between two numbers, the line's end behind the last; lines one after the other; nothing else.
pub line_text_lem : (n m : ℕ) (ns : List ℕ)
    → (line_text (n ∷ []) ≡ decimal_text n ++ (10 ∷ [])) × (line_text (n ∷ m ∷ ns) ≡ decimal_text n ++ (32 ∷ line_text (m ∷ ns)))
unfolding line_text
line_text_lem n m ns = (refl, refl)

pub lines_text_lem : (l : List ℕ) (ls : List (List ℕ)) → (lines_text [] ≡ []) × (lines_text (l ∷ ls) ≡ line_text l ++ lines_text ls)
unfolding lines_text
lines_text_lem l ls = (refl, refl)

pub listing_text_lem : (bs : List ℕ) → listing_text bs ≡ lines_text (listing bs)
unfolding listing_text
listing_text_lem bs = refl
