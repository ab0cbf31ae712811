-- `listing::list` meets its contract: over the limit the line of the refusal 1, else what Table answered and filled.
-- The idea: an array that is lent as a slice has the length that its type says.
use Prim.Native.Nat.{ℕ}
use native.Mathlib.Omega.{arith}
use lib.ListN.{replicate, length-replicate}
use Rattle.theory.proofs.WordLaws.{Bytes-from}
use Rattle.listing.proofs.ListLaws.{over-listed, table_listed}
use Rattle.listing.proofs.list.Goals as goal

pub returns-then-file-gt-LISTING_LIMIT : goal.returns-then-file-gt-LISTING_LIMIT
returns-then-file-gt-LISTING_LIMIT c =
    let a = c.args in
    let said = c.put_table.ensures in
    let (value, (out_after, prefix_len)) =
    over-listed a.file.now a.out.now (replicate 12288 0) c.put_table.new.out c.from.result c.put_table.result c.from.ensures (omega arith)
    c.if-file-gt-LISTING_LIMIT.true (said.value, (said.out_after, said.prefix_len)) in
    record { value = value; out_after = out_after; prefix_len = prefix_len }

pub returns : goal.returns
returns c =
    let a = c.args in
    let said = c.put_table-2.ensures in
    let (value, (out_after, prefix_len)) =
    table_listed a.file.now a.out.now (replicate 12288 0) c.table-answer.new.rows c.put_table-2.new.out c.table-answer.result
    c.put_table-2.result (omega arith) (Bytes-from a.file.now (λ i l. omega (arith, c.type_inv.file i)))
    c.if-file-gt-LISTING_LIMIT.false (length-replicate {A = ℕ} 12288 0) c.table-answer.ensures.answer c.table-answer.ensures.buffer
    (said.value, (said.out_after, said.prefix_len)) in
    record { value = value; out_after = out_after; prefix_len = prefix_len }
