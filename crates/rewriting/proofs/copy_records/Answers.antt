use Rattle.std.proofs.Common.{ap, arith, length, rules}
use Rattle.theory.proofs.WordLaws.{Bytes-from}
use Rattle.demands.proofs.Bundles.{record_item, same-records}
use Rattle.rewriting.proofs.CopyLoop.{begin}
use Rattle.rewriting.proofs.RecordCopy.{copyable, copied_next, done}
use Rattle.rewriting.proofs.copy_records.Goals as goal

pub loop-record-init : goal.loop-record-init
loop-record-init c =
    let (rest_is, at_is, order_is) = c.structures-record-items.ensures in
    let part_is = ap (λ r. r.now) rest_is in
    let (context, ready) = c.requires in
    let bytes = Bytes-from c.args.part.now (λ i l. omega (arith, c.type_inv.part i)) in
    rw c.into_iter-record-iterator.ensures.into_iter_gives (
      omega (arith, ap length part_is, at_is, ready.room, ready.limit),
      tt,
      begin (record_item _) _ _ _ part_is at_is order_is context (same-records _ context) ready bytes,
    )

pub copy_record-requires : goal.copy_record-requires
copy_record-requires c = copyable c.loop-record.invariant.2 c.in-Some.ensures.steps

pub loop-record-preserved : goal.loop-record-preserved
loop-record-preserved c = (
  search rules,
  tt,
  copied_next c.loop-record.invariant.2 c.in-Some.ensures.steps _ c.copy_record.ensures,
)

pub returns : goal.returns
returns c = done c.loop-record.invariant.2 c.in-None.ensures.steps.0
