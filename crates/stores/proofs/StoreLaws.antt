-- Runs of stores, one after the other: of lists, of words; and a part that is copied.
-- The idea: `sets` of one list after another is `sets` of both, whatever the room.
use Prim.Native.Nat.{ℕ, ◌+◌, ◌-◌, ◌*◌, ◌/◌, ◌≤◌, ◌<◌}
use mathlib.Core.Path.{◌≡◌, refl, sym, ap, ◌∙◌}
use mathlib.Core.List.{List, [], ◌∷◌, ◌++◌, append_assoc}
use native.Mathlib.Omega.{arith}
use native.Mathlib.Numerals.{add-one}
use lib.ListN.{length, take, drop, get_or}
use lib.Seq.{sets, sets-eq, length-take-le, take-suc}
use borrow.Rule.Slice.PartMut.{put_mid}
use Rattle.std.specs.Int.{w32, to_le_bytes}
use Rattle.std.proofs.lemmas.List.Edits.{paste_all}
use Rattle.std.proofs.lemmas.Slice.{put_mid-paste}
use Rattle.theory.specs.declared.Order.{Order}
use Rattle.theory.specs.Words.{bytes}
use Rattle.theory.proofs.WordLaws.{length-puts, puts-append}
use Rattle.theory.proofs.StoreLaws.{sets-append}
use Rattle.note.specs.Words.{words}

-- Stores from the place behind those before them.
stored_next : (l : List ℕ) (at next : ℕ) (a b : List ℕ) → at + length a ≡ next → sets (sets l at a) next b ≡ sets l at (a ++ b)
stored_next l at next a b e = ap (λ (k : ℕ). sets (sets l at a) k b) (sym e) ∙ sets-append l at a b

-- Several lists stored in a row are one list stored.
abbrev pub stored_in_row : List ℕ → ℕ → List (List ℕ) → List ℕ
stored_in_row l at [] = l
stored_in_row l at (x ∷ xs) = stored_in_row (sets l at x) (at + length x) xs

abbrev pub joined : List (List ℕ) → List ℕ
joined [] = []
joined (x ∷ []) = x
joined (x ∷ (y ∷ ys)) = x ++ joined (y ∷ ys)

pub in_a_row : (l : List ℕ) (at : ℕ) (xs : List (List ℕ)) → stored_in_row l at xs ≡ sets l at (joined xs)
in_a_row l at [] = refl
in_a_row l at (x ∷ []) = refl
in_a_row l at (x ∷ (y ∷ ys)) = in_a_row (sets l at x) (at + length x) (y ∷ ys) ∙ sets-append l at x (joined (y ∷ ys))

-- What was copied into `&mut l[at..end]`, seen in the whole.
pub copied : (l : List ℕ) (at end : ℕ) (part vs : List ℕ) → part ≡ vs → at + length vs ≡ end → end ≤ length l
    → put_mid at (end - at) l part ≡ sets l at vs
copied l at end part vs e size room =
    put_mid-paste at (end - at) l part vs (length vs) e (omega arith) refl
    ∙ paste_all l at vs (length vs) refl
    ∙ sym (sets-eq vs l at (omega arith) ∙ append_assoc (take at l) vs (drop (at + length vs) l))

-- A word's bytes, the lowest first, as the machine gives them.
pub low_first : (w : ℕ) → to_le_bytes w32 w ≡ bytes 4 w
unfolding bytes
low_first w =
    let third : w / 65536 ≡ w / 256 / 256 = omega arith in
    let fourth : w / 16777216 ≡ w / 256 / 256 / 256 = omega arith in
    rw (third, fourth)

-- The first i words are stored, and the next one's bytes were copied behind them.
pub word_more : (o : Order) (out ws : List ℕ) (at i : ℕ) {l part : List ℕ} → i < length ws → at + 4 * i + 4 ≤ length l
    → l ≡ sets out at (words o (take i ws)) → part ≡ words o (get_or ws i 0 ∷ [])
    → put_mid (at + 4 * i) (at + 4 * i + 4 - (at + 4 * i)) l part ≡ sets out at (words o (take (i + 1) ws))
word_more o out ws at i {l} {part} h room stored e =
    let word : List ℕ = words o (get_or ws i 0 ∷ []) in
    copied l (at + 4 * i) (at + 4 * i + 4) part word e (omega (arith, length-puts o 4 (get_or ws i 0 ∷ []))) room
    ∙ ap (λ (x : List ℕ). sets x (at + 4 * i) word) stored
    ∙ stored_next out at (at + 4 * i) (words o (take i ws)) word
    (omega (arith, length-puts o 4 (take i ws), length-take-le i ws (omega arith)))
    ∙ rw (add-one, take-suc ws i 0, puts-append)
