-- The yield after k steps is the definition's k-th: the walk's theorem, of the bytes of the file.
use mathlib.Core.Path.{ap, ◌∙◌}
use native.Mathlib.Omega.{arith}
use Rattle.theory.specs.Words.{Bytes}
use Rattle.theory.proofs.WordLaws.{Bytes-from}
use Rattle.note.specs.Answers.{given_yield}
use Rattle.walk.proofs.WalkLaws.{walk_yields}
use Rattle.walking.proofs.yield_at.Goals as goal

pub returns : goal.returns
returns c =
    let s = c.args in
    let held : Bytes s.file.now = Bytes-from s.file.now (λ i l. omega (arith, c.type_inv.file i)) in
    ap given_yield c.after_steps.ensures ∙ walk_yields s.file.now s.k held
