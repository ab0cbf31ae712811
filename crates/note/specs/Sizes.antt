-- Bytes, words and signed words by plain bounds, for those who would rather read bounds than the library's definitions. What the laws of writing
-- ask of fields is said a second time with these; that both ask the same is proved.
use Rattle.std.specs.Prelude.{ℕ, ◌<◌, ◌≡◌, ◌⊎◌, Bool, true, false, List, [], ◌∷◌, ℤ, pos, negsuc}

-- FORMAT 1.2: P holds of each element.
abbrev pub Each : {A : Type 0} → (A → Type 0) → List A → Type 0
Each P [] = Unit {0}
Each P (x ∷ xs) = P x × Each P xs

-- FORMAT 1.2: a byte; a word; a signed word, from -2^31 to 2^31 - 1 (`negsuc n` is -(n + 1)).
abbrev pub Byte : ℕ → Type 0
Byte n = n < 256

abbrev pub Word : ℕ → Type 0
Word n = n < 4294967296

abbrev pub SignedWord : ℤ → Type 0
SignedWord z = (n : ℕ) × (n < 2147483648) × ((z ≡ pos n) ⊎ (z ≡ negsuc n))

-- FORMAT 8.6, a second time: the sign of a number, which its hundredth has too.
abbrev pub is_negative : ℤ → Bool
is_negative (pos n) = false
is_negative (negsuc n) = true
