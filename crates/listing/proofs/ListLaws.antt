-- What the lines make of Table's answer and buffer is the note's listing.
-- The idea: a file up to the limit has at most 2,048 rows, so Table has room for its rows and the output for their lines.
use Prim.Native.Nat.{ℕ, ◌+◌, ◌*◌, ◌≤◌, ◌<◌}
use mathlib.Core.Path.{◌≡◌, refl, sym, ap, ◌∙◌, subst}
use mathlib.Core.Bool.{Bool, true, false, cond}
use mathlib.Core.List.{List, [], ◌∷◌, ◌++◌}
use native.Mathlib.Omega.{arith}
use lib.Dec.{leb, eqb}
use lib.ListN.{length, drop, length-append}
use borrow.Author.Tests.{le-leb}
use Rattle.io.specs.Counts.{IsPrefixLen}
use Rattle.theory.specs.Words.{Bytes}
use Rattle.theory.specs.Tests.{Res, ok, bad}
use Rattle.theory.specs.Layout.{Row}
use Rattle.note.specs.Files.{File, read_file}
use Rattle.note.proofs.FlatLaws.{length-flat}
use Rattle.note.specs.Rows.{rows_of, row_numbers, flat, table_given, table_answer, table_filled, table_buffer}
use Rattle.note.specs.Listing.{row_lines, lines_given, lines_text, listing_text}
use Rattle.note.specs.declared.TableAnswer.{TableAnswer}
use Rattle.note.proofs.ListingLaws.{listing-within, listing-over}
use Rattle.demands.proofs.RowLaws.{few_rows_in_file}
use Rattle.lines.specs.Texts.{buffer_lines, listed_rows, has_room, table_text}

-- The lines of a buffer that begins with rows are the rows'.
buffer_lines_lem : (i : ℕ) (rs : List Row) (rest : List ℕ) → buffer_lines i (length rs) (flat rs ++ rest) ≡ row_lines i rs
unfolding buffer_lines flat row_lines
buffer_lines_lem i [] rest = refl
buffer_lines_lem i (r ∷ rs) rest = ap (λ (ls : List (List ℕ)). (i ∷ row_numbers r) ∷ ls) (buffer_lines_lem (i + 1) rs rest)

either_way : (t : Bool) → cond {A = ℕ} t 0 0 ≡ 0
either_way true = refl
either_way false = refl

listed-none : (c : ℕ) → listed_rows c 0 ≡ 0
unfolding listed_rows
listed-none c = either_way (eqb c 0)

-- The text where there is room for it.
with_room : (a : TableAnswer) (rows : List ℕ) (room n : ℕ) → listed_rows a.number a.count ≡ n → n * 6 ≤ length rows → 63 + n * 87 ≤ room
    → table_text a rows room ≡ lines_text ((a.number ∷ a.count ∷ a.place ∷ []) ∷ buffer_lines 1 n rows)
unfolding table_text has_room
with_room a rows room n e h r = rw (e, le-leb (n * 6) (length rows) h, le-leb (63 + n * 87) room r)

-- A refusal has its first line alone, whatever the buffer holds.
first_line : (c p : ℕ) (rows : List ℕ)
    → table_text (record { number = c; count = 0; place = p }) rows 178239 ≡ lines_text ((c ∷ 0 ∷ p ∷ []) ∷ [])
unfolding buffer_lines
first_line c p rows = with_room (record { number = c; count = 0; place = p }) rows 178239 0 (listed-none c) (omega arith) (omega arith)

-- An accepted file has its rows' lines too, where there is room for them.
accepted : (rs : List Row) (place : ℕ) (rest : List ℕ) → length rs ≤ 2048
    → table_text (record { number = 0; count = length rs; place = place }) (flat rs ++ rest) 178239
    ≡ lines_text ((0 ∷ length rs ∷ place ∷ []) ∷ row_lines 1 rs)
unfolding listed_rows
accepted rs place rest few =
    with_room (record { number = 0; count = length rs; place = place }) (flat rs ++ rest) 178239 (length rs) refl
    (omega (arith, length-append (flat rs) rest, length-flat rs)) (omega arith)
    ∙ ap (λ (ls : List (List ℕ)). lines_text ((0 ∷ length rs ∷ place ∷ []) ∷ ls)) (buffer_lines_lem 1 rs rest)

module _ (bs old : List ℕ) (b : Bytes bs) (within : length bs ≤ 16384) (lent : length old ≡ 12288) where
  given : (found : Res File) → read_file bs ≡ found
      → table_text (table_given bs (length old) found) (table_filled old found) 178239 ≡ lines_text (lines_given bs found)
  given (bad c p) e = first_line c p old
  given (ok f) e =
      let few : 8 * length (rows_of f) ≤ length bs = few_rows_in_file bs f b e in
      let fits : leb (6 * length (rows_of f)) (length old) ≡ true = le-leb (6 * length (rows_of f)) (length old) (omega arith) in
      rw fits (accepted (rows_of f) (length bs) (drop (6 * length (rows_of f)) old) (omega arith))

  table_is_listing : table_text (table_answer bs (length old)) (table_buffer bs old) 178239 ≡ listing_text bs
  unfolding table_answer table_buffer listing_text
  table_is_listing = given (read_file bs) refl ∙ ap lines_text (sym (listing-within bs within))

-- A file over the limit has the line of the refusal 1.
over-is-listing : (bs rows : List ℕ) → 16384 < length bs
    → table_text (record { number = 1; count = 0; place = 0 }) rows 178239 ≡ listing_text bs
unfolding listing_text
over-is-listing bs rows h = first_line 1 0 rows ∙ ap lines_text (sym (listing-over bs h))

-- ---- in the lent output

-- A text stands at the front of what was lent as `out`, whose rest stays; n counts its bytes.
abbrev pub Fronts : List ℕ → List ℕ → ℕ → List ℕ → Type 0
Fronts text out n after = (n ≡ length text) × ((after ≡ text ++ drop n out) × IsPrefixLen n after)

pub over-listed : (bs out rows after : List ℕ) (number n : ℕ) → number ≡ 1 → length out ≡ 178239 → 16384 < length bs
    → Fronts (table_text (record { number = number; count = 0; place = 0 }) rows (length out)) out n after → Fronts (listing_text bs) out n after
over-listed bs out rows after number n one long h p =
    subst (λ (text : List ℕ). Fronts text out n after)
    (ap (λ (k : ℕ). table_text (record { number = k; count = 0; place = 0 }) rows (length out)) one
    ∙ ap (table_text (record { number = 1; count = 0; place = 0 }) rows) long ∙ over-is-listing bs rows h) p

pub table_listed : (bs out old rows after : List ℕ) (a : TableAnswer) (n : ℕ) → length out ≡ 178239 → Bytes bs → length bs ≤ 16384
    → length old ≡ 12288 → a ≡ table_answer bs (length old) → rows ≡ table_buffer bs old
    → Fronts (table_text a rows (length out)) out n after → Fronts (listing_text bs) out n after
table_listed bs out old rows after a n long b within lent e f p =
    let same : table_text a rows (length out) ≡ listing_text bs =
    ap (table_text a rows) long
    ∙ ap (λ (x : TableAnswer). table_text x rows 178239) e
    ∙ ap (λ (l : List ℕ). table_text (table_answer bs (length old)) l 178239) f
    ∙ table_is_listing bs old b within lent in
    subst (λ (text : List ℕ). Fronts text out n after) same p
