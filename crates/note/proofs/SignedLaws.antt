-- Signed words: a word read as signed and written again is the same word, a signed number written and read is the same number.
-- Of single words from the toolchain's laws of two's complement; then of lists, word by word.
use mathlib.Core.Path.{◌≡◌, refl, ap₂}
use mathlib.Core.List.{List, [], ◌∷◌, map}
use Prim.Native.Nat.{ℕ, suc, ◌+◌, ◌-◌, ◌^◌, ◌≤◌, ◌<◌}
use lib.IntN.{ℤ, pos, negsuc}
use lib.ListN.{length}
use mir.Val.{SFits}
use mir.Syntax.{w32}
use mir.Facts.{to_z_pos, to_z-neg, to_z-of_z, of_z-to_z, Fits-of_z}
use Rattle.theory.specs.declared.Order.{Order}
use Rattle.theory.specs.Words.{Bytes, Fits, AllFit}
use Rattle.theory.proofs.WordLaws.{word_fits}
use Rattle.note.specs.Words.{word, signed, unsigned, AllSigned}

-- What a word means as signed: below 2^31 itself; k + 1 below 2^32 it is minus k + 1.
pub signed_low : (w : ℕ) → w < 2 ^ 31 → signed w ≡ pos w
signed_low w h = to_z_pos w32 h

pub signed_high : (k : ℕ) → k < 2 ^ 31 → signed (2 ^ 32 - suc k) ≡ negsuc k
signed_high k h = to_z-neg w32 k h

pub signed-again : (w : ℕ) → Fits 4 w → unsigned (signed w) ≡ w
signed-again w h = of_z-to_z {w = w32} (record { fits = h })

-- A word that stands among bytes, read as signed, has its own bits.
pub word-again : (o : Order) (p : ℕ) (b : List ℕ) → Bytes b → p + 4 ≤ length b → unsigned (signed (word o p b)) ≡ word o p b
word-again o p b h l = signed-again (word o p b) (word_fits o 4 p b h l)

pub unsigned-again : (z : ℤ) → SFits w32 z → signed (unsigned z) ≡ z
unsigned-again z h = to_z-of_z h

pub unsigned-fits : (z : ℤ) → SFits w32 z → Fits 4 (unsigned z)
unsigned-fits z h = (Fits-of_z h).fits

pub all-signed-again : (ws : List ℕ) → AllFit 4 ws → map unsigned (map signed ws) ≡ ws
all-signed-again [] h = refl
all-signed-again (w ∷ ws) h = ap₂ (λ (x : ℕ) (xs : List ℕ). x ∷ xs) (signed-again w h.0) (all-signed-again ws h.1)

pub all-unsigned-again : (zs : List ℤ) → AllSigned zs → map signed (map unsigned zs) ≡ zs
all-unsigned-again [] h = refl
all-unsigned-again (z ∷ zs) h = ap₂ (λ (x : ℤ) (xs : List ℤ). x ∷ xs) (unsigned-again z h.0) (all-unsigned-again zs h.1)

pub all_unsigned_fit : (zs : List ℤ) → AllSigned zs → AllFit 4 (map unsigned zs)
all_unsigned_fit [] h = tt
all_unsigned_fit (z ∷ zs) h = (unsigned-fits z h.0, all_unsigned_fit zs h.1)
