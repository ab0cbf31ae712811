use Rattle.std.proofs.Common.{ap, arith, length, rules}
use Rattle.theory.proofs.WordLaws.{Bytes-from}
use Rattle.rewriting.proofs.CopyLoop.{begin}
use Rattle.rewriting.proofs.ContainerLoop.{container_item, same_containers, begin_ready, records_ready, container_next, done}
use Rattle.rewriting.proofs.copy_containers.Goals as goal

pub loop-container-init : goal.loop-container-init
loop-container-init c =
    let (rest_is, at_is, order_is) = c.structures-container-items.ensures in
    let part_is = ap (λ r. r.now) rest_is in
    let (first, ready) = c.requires in
    let bytes = Bytes-from c.args.part.now (λ i l. omega (arith, c.type_inv.part i)) in
    rw c.into_iter-container-iterator.ensures.into_iter_gives (
      omega (arith, ap length part_is, at_is, ready.room, ready.limit),
      tt,
      begin (container_item _) _ _ _ part_is at_is order_is first (same_containers _ first) ready bytes,
    )

pub begin_container-requires : goal.begin_container-requires
begin_container-requires c =
    let (room, word) = begin_ready c.loop-container.invariant.2 c.in-Some.ensures.steps in record { room = room; word = word }

pub copy_records-requires : goal.copy_records-requires
copy_records-requires c = records_ready c.loop-container.invariant.2 c.in-Some.ensures.steps _ c.begin_container.ensures

pub loop-container-preserved : goal.loop-container-preserved
loop-container-preserved c = (
  search rules,
  tt,
  container_next c.loop-container.invariant.2 c.in-Some.ensures.steps _ c.begin_container.ensures _ c.copy_records.ensures,
)

pub returns : goal.returns
returns c = done c.loop-container.invariant.2 c.in-None.ensures.steps.0
