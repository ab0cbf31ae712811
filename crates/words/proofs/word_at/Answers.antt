-- The word is the number of its four bytes, in the order that the file has; and those are the part of the list at that place.
use Rattle.std.proofs.Common.{◌≡◌, ℕ, List, reverse, sym, ap, ◌∙◌}
use native.Mathlib.Omega.{arith}
use Rattle.theory.specs.Words.{num, word_at}
use Rattle.words.proofs.CellLaws.{cell, cells, cells_at}
use Rattle.words.proofs.word_at.Goals as goal

pub returns-in-Little : goal.returns-in-Little
unfolding word_at
returns-in-Little c =
    let s = c.args.s.now in
    let p = c.args.at in
    let e : c.from_le_bytes.result ≡ num (cells 4 s p 0) = omega (arith, c.from_le_bytes.ensures) in
    rw c.in-Little.is (e ∙ ap num (sym (cells_at 4 s p c.requires)))

pub returns-in-Big : goal.returns-in-Big
unfolding word_at
returns-in-Big c =
    let s = c.args.s.now in
    let p = c.args.at in
    let e : c.from_be_bytes.result ≡ num (reverse (cells 4 s p 0)) = omega (arith, c.from_be_bytes.ensures) in
    rw c.in-Big.is (e ∙ ap (λ (l : List ℕ). num (reverse l)) (sym (cells_at 4 s p c.requires)))
