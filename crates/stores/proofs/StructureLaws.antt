-- A structure's bytes as the writers store them: its size, and its three stores.
-- The idea: kind and length words, the body's words and the bytes behind them stand one after the other.
use Prim.Native.Nat.{ℕ, ◌+◌, ◌*◌}
use mathlib.Core.Path.{◌≡◌, sym, ap, ap₂, ◌∙◌}
use mathlib.Core.List.{List, [], ◌∷◌, ◌++◌, append_assoc, append-nil}
use native.Mathlib.Omega.{arith}
use lib.ListN.{length, length-append}
use lib.Seq.{sets}
use Rattle.theory.specs.declared.Order.{Order}
use Rattle.theory.specs.Words.{put, puts}
use Rattle.theory.proofs.WordLaws.{length-put, length-puts}
use Rattle.note.specs.Words.{words}
use Rattle.note.specs.Records.{Record, record_bytes}
use Rattle.stores.proofs.StoreLaws.{in_a_row}
use Rattle.stores.specs.Structures.{structured}

-- A record's bytes are two words and its body; the two words stored in a row.
pub record_length : (o : Order) (r : Record) → length (record_bytes o r) ≡ 8 + length r.body
record_length o r =
    let n : ℕ = length r.body in
    omega (
      arith,
      length-append (put o 4 r.word) (put o 4 n ++ r.body),
      length-append (put o 4 n) r.body,
      length-put o 4 r.word,
      length-put o 4 n,
    )

pub two-words : (o : Order) (kind n : ℕ) (rest : List ℕ) → words o (kind ∷ n ∷ []) ++ rest ≡ put o 4 kind ++ (put o 4 n ++ rest)
unfolding puts
two-words o kind n rest = simp (append_assoc, append-nil)

-- Where no bytes stand behind a structure's words.
pub structured_bare : (o : Order) (kind : ℕ) (ws : List ℕ) → structured o kind ws [] ≡ record_bytes o (record { word = kind; body = words o ws })
unfolding structured
structured_bare o kind ws = ap (λ (b : List ℕ). record_bytes o (record { word = kind; body = b })) (append-nil (words o ws))

module _ (o : Order) (kind : ℕ) (ws rest : List ℕ) where
  body-size : length (words o ws ++ rest) ≡ 4 * length ws + length rest
  body-size = omega (arith, length-append (words o ws) rest, length-puts o 4 ws)

  pub structured-size : length (structured o kind ws rest) ≡ 8 + (4 * length ws + length rest)
  unfolding structured
  structured-size = omega (arith, body-size, record_length o (record { word = kind; body = words o ws ++ rest }))

  pub structured-stored : (l : List ℕ) (n : ℕ) → n ≡ 4 * length ws + length rest
      → sets (sets (sets l 0 (words o (kind ∷ n ∷ []))) 8 (words o ws)) (8 + 4 * length ws) rest ≡ sets l 0 (structured o kind ws rest)
  unfolding structured
  structured-stored l n e =
      let head : List ℕ = words o (kind ∷ n ∷ []) in
      let size : 4 * length ws ≡ length (words o ws) = omega (arith, length-puts o 4 ws) in
      let eight : 8 ≡ 0 + length head = omega (arith, length-puts o 4 (kind ∷ n ∷ [])) in
      ap₂ (λ (j k : ℕ). sets (sets (sets l 0 head) j (words o ws)) (j + k) rest) eight size
      ∙ in_a_row l 0 (head ∷ words o ws ∷ rest ∷ [])
      ∙ ap (sets l 0) (two-words o kind n (words o ws ++ rest))
      ∙ ap (λ (k : ℕ). sets l 0 (put o 4 kind ++ (put o 4 k ++ (words o ws ++ rest)))) (e ∙ sym body-size)
