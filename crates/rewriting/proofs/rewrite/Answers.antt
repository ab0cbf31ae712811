-- `rewriting::rewrite` meets its contract: each return is a way through the definition.
-- The idea: a law for each way, over the tests that led there and what was copied.
use Rattle.std.proofs.Common.{sym, ◌∙◌}
use native.Mathlib.Omega.{arith}
use Rattle.theory.proofs.WordLaws.{Bytes-from}
use Rattle.stores.proofs.WriterLaws.{given_back}
use Rattle.containers.proofs.FileParts.{Checked, checked}
use Rattle.rewriting.proofs.RewriteCall.{over, file-refuses, no_room, ready, rewrites}
use Rattle.rewriting.proofs.rewrite.Goals as goal
use Rattle.rewriting.proofs.rewrite.Goals.{In_ok-check}

-- Where the file was accepted: it is bytes, and it was read.
accepted : (c : In_ok-check) → Checked c.args.file.now
accepted c = checked (Bytes-from c.args.file.now (λ i l. omega (arith, c.type_inv.file i))) c.in_ok-check.ensures

pub returns-then-out-gt-FILE_LIMIT : goal.returns-then-out-gt-FILE_LIMIT
returns-then-out-gt-FILE_LIMIT c =
    let (answer, output) = over _ _ c.if-out-gt-FILE_LIMIT.true in record { answer = rw c.at.ensures answer; output = output }

pub returns-in_err-check : goal.returns-in_err-check
returns-in_err-check c =
    let (answer, output) = file-refuses c.args.file.now c.args.out.now c.if-out-gt-FILE_LIMIT.false c.in_err-check.ensures in
    record { answer = sym (given_back _ _ c.from_residual.ensures.1) ∙ answer; output = output }

pub returns-then-out-file : goal.returns-then-out-file
returns-then-out-file c =
    let (answer, output) = no_room (accepted (goal.at.returns-then-out-file c).In_ok-check) _ c.if-out-gt-FILE_LIMIT.false c.if-out-file.true in
    record { answer = rw c.at-then-out-file.ensures answer; output = output }

pub copy_file-requires : goal.copy_file-requires
copy_file-requires c =
    ready (accepted (goal.at.copy_file-requires c).In_ok-check) c.if-out-gt-FILE_LIMIT.false c.if-out-file.false c.order_of.ensures

pub returns : goal.returns
returns c =
    let (answer, output) = rewrites (accepted (goal.at.returns c).In_ok-check) _ c.if-out-gt-FILE_LIMIT.false c.if-out-file.false _
    c.copy_file.ensures in record { answer = answer; output = output }
