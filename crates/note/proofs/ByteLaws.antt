-- What the words of this format are in bytes, with the bytes written out; which lists are bytes, and which numbers fit a word; the limits.
-- The idea: each computes, but for the bytes of a list, which are gone through one by one.
use Prim.Native.Nat.{ℕ, zero, suc, ◌+◌, ◌*◌, ◌/◌, ◌%◌, ◌≤◌, ◌<◌, suc-le-suc}
use mathlib.Core.Path.{◌≡◌, refl, ◌∙◌}
use mathlib.Core.Logic.{◌↔◌}
use mathlib.Core.List.{List, [], ◌∷◌}
use native.Mathlib.Nat.{le_of_suc-le-suc, not-suc-le-zero}
use native.Mathlib.Omega.{arith}
use lib.ListN.{length, take, drop, get_or, length-drop}
use lib.Seq.{get_or-drop}
use Rattle.theory.specs.declared.Order.{Order}
use Rattle.theory.specs.declared.Order.TheVariants.{Little, Big}
use Rattle.theory.specs.Words.{Bytes, Fits, num, ordered, word_at, put, puts, bytes}
use Rattle.note.specs.Limits.{file_limit, fewest_samples, most_samples, row_width, listing_limit}
use Rattle.note.specs.Words.{word, words, byte_at}

-- Little-endian the lowest byte stands first, in reading and in writing; big-endian it stands last.
pub word_of_bytes : (a b c d : ℕ) (rest : List ℕ)
    → (word Little 0 (a ∷ b ∷ c ∷ d ∷ rest) ≡ a + 256 * (b + 256 * (c + 256 * d)))
    × (word Big 0 (a ∷ b ∷ c ∷ d ∷ rest) ≡ d + 256 * (c + 256 * (b + 256 * a)))
unfolding word_at
word_of_bytes a b c d rest = (omega arith, omega arith)

pub word-from-place : (o : Order) (p : ℕ) (bs : List ℕ) → word o p bs ≡ word o 0 (drop p bs)
unfolding word_at
word-from-place o p bs = refl

pub bytes_of_words : (n : ℕ) (ns : List ℕ)
    → (words Little (n ∷ ns) ≡ (n % 256) ∷ (n / 256 % 256) ∷ (n / 256 / 256 % 256) ∷ (n / 256 / 256 / 256 % 256) ∷ words Little ns)
    × (words Big (n ∷ ns) ≡ (n / 256 / 256 / 256 % 256) ∷ (n / 256 / 256 % 256) ∷ (n / 256 % 256) ∷ (n % 256) ∷ words Big ns)
unfolding puts put bytes
bytes_of_words n ns = (refl, refl)

-- A word by its bytes, wherever it stands and in either order: the byte that counts m-th, from the lowest up, stands at `byte_at`.
pub word-by-bytes : (o : Order) (p : ℕ) (bs : List ℕ) → p + 4 ≤ length bs
    → word o p bs
    ≡ get_or bs (p + byte_at o 0) 0 + 256 *
    (get_or bs (p + byte_at o 1) 0 + 256 * (get_or bs (p + byte_at o 2) 0 + 256 * get_or bs (p + byte_at o 3) 0))
unfolding word_at
word-by-bytes o p bs l = spelled o (drop p bs) (omega (arith, length-drop p bs)) ∙ rw (at 0, at 1, at 2, at 3)
  where
    at : (m : ℕ) → get_or (drop p bs) (byte_at o m) 0 ≡ get_or bs (p + byte_at o m) 0
    at m = get_or-drop p bs (byte_at o m) 0

    spelled : (o : Order) (xs : List ℕ) → 4 ≤ length xs
        → num (ordered o (take 4 xs))
        ≡ get_or xs (byte_at o 0) 0 + 256 * (get_or xs (byte_at o 1) 0 + 256 * (get_or xs (byte_at o 2) 0 + 256 * get_or xs (byte_at o 3) 0))
    spelled o [] h = absurd (omega arith)
    spelled o (a ∷ []) h = absurd (omega arith)
    spelled o (a ∷ b ∷ []) h = absurd (omega arith)
    spelled o (a ∷ b ∷ c ∷ []) h = absurd (omega arith)
    spelled Little (a ∷ b ∷ c ∷ d ∷ xs) h = omega arith
    spelled Big (a ∷ b ∷ c ∷ d ∷ xs) h = omega arith

-- Bytes are lists of numbers below 256, of any length; four bytes hold the numbers below 2^32.
pub bytes_exact : (bs : List ℕ) → Bytes bs ↔ ((i : ℕ) → i < length bs → get_or bs i 0 < 256)
bytes_exact bs = (there bs, back bs)
  where
    there : (bs : List ℕ) → Bytes bs → (i : ℕ) → i < length bs → get_or bs i 0 < 256
    there [] h i l = absurd (not-suc-le-zero l)
    there (b ∷ bs) h zero l = h.0
    there (b ∷ bs) h (suc i) l = there bs h.1 i (le_of_suc-le-suc l)

    back : (bs : List ℕ) → ((i : ℕ) → i < length bs → get_or bs i 0 < 256) → Bytes bs
    back [] h = tt
    back (b ∷ bs) h = (h 0 (omega arith), back bs (λ i l. h (suc i) (suc-le-suc l)))

pub fits_exact : (n : ℕ) → Fits 4 n ↔ (n < 4294967296)
fits_exact n = (λ h. omega (arith, h), λ h. omega (arith, h))

-- The limits, as numbers.
pub limits_in_numbers : (file_limit ≡ 16777216) × (fewest_samples ≡ 2) × (most_samples ≡ 32768) × (row_width ≡ 6) × (listing_limit ≡ 16384)
limits_in_numbers = (refl, refl, refl, refl, refl)
