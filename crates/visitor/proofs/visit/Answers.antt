-- The file's refusal, or its rows from a number on.
-- The idea: the walk's first numbers say whether the file is accepted; what was stored does the rest.
use native.Mathlib.Omega.{arith}
use Rattle.theory.specs.Words.{Bytes}
use Rattle.theory.proofs.WordLaws.{Bytes-from}
use Rattle.visitor.proofs.VisitLaws.{visit_refused, visit_accepted}
use Rattle.visitor.proofs.visit.Goals as goal
use Rattle.visitor.proofs.visit.Goals.{After-start-from}

-- The file is bytes.
held : (c : After-start-from) → Bytes c.args.file.now
held c = Bytes-from c.args.file.now (λ i l. omega (arith, c.type_inv.file i))

pub returns-then-from-ne0 : goal.returns-then-from-ne0
returns-then-from-ne0 c =
    let s = c.args in
    let e = c.start-from.ensures in
    let (answer, buffer) = visit_refused s.file.now s.rows.now s.first (rw e at c.if-from-ne0.true) in
    record { answer = rw e answer; buffer = buffer }

pub returns : goal.returns
returns c =
    let s = c.args in
    let e = c.start-from.ensures in
    let (answer, buffer) =
    visit_accepted s.file.now s.rows.now s.first (held (goal.at.returns c).After-start-from) (rw e at c.if-from-ne0.false) _ _
    (rw e at c.store-count.ensures) in
    record { answer = answer; buffer = buffer }
