-- The words of this format: 32 bits in four bytes, in one of two byte orders. theory/specs/Words has numbers of any width; here the width is
-- fixed, once, and every other definition of the note speaks of words by these names.
use Rattle.std.specs.Prelude.{ℕ, ◌+◌, ◌-◌, ◌*◌, ◌/◌, ◌%◌, List, [], ◌∷◌, ℤ}
use Rattle.std.proofs.Common.{to_z, of_z, SFits}
use Rattle.std.specs.Int.{w32}
use Rattle.theory.specs.declared.Order.{Order}
use Rattle.theory.specs.declared.Order.TheVariants.{Little, Big}
use Rattle.theory.specs.Words.{word_at, puts}

-- FORMAT 1.2: the word at place p.
abbrev pub word : Order → ℕ → List ℕ → ℕ
word o p bs = word_at o 4 p bs

-- FORMAT 1.2: the bytes of words one after the other.
abbrev pub words : Order → List ℕ → List ℕ
words o ns = puts o 4 ns

-- FORMAT 1.2: where a byte of words stands: byte m, each word's bytes counted from its lowest up. With the highest byte first a word's bytes
-- stand the other way round.
abbrev pub byte_at : Order → ℕ → ℕ
byte_at Little m = m
byte_at Big m = m / 4 * 4 + (3 - m % 4)

-- FORMAT 1.2: a word read as signed, and a signed number as a word: two's complement.
abbrev pub signed : ℕ → ℤ
signed w = to_z w32 w

abbrev pub unsigned : ℤ → ℕ
unsigned z = of_z w32 z

-- FORMAT 1.2: every number fits a signed word.
abbrev pub AllSigned : List ℤ → Type 0
AllSigned [] = Unit {0}
AllSigned (z ∷ zs) = SFits w32 z × AllSigned zs

-- FORMAT 1.2: the greatest signed word, 2^31 - 1. A word above it is negative where words are read as signed.
abbrev pub greatest_signed : ℕ
greatest_signed = 0x7FFFFFFF
