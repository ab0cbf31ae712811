-- `copies::copy_record` meets its contract: each arm's fields are those of its kind, and no word comes that names no kind.
-- The idea: the law of copies, at the kind that the word names.
use Rattle.std.proofs.Common.{◌∙◌}
use Rattle.note.specs.Records.{kind_of}
use Rattle.rules.specs.declared.Kind.TheVariants.{Phonon, Charge, Administrative, Trace, History, Gps, Trigger, Tlb}
use Rattle.rules.proofs.KindLaws.{unnamed}
use Rattle.copies.proofs.CopyLaws.{follows, long, small, copied, never}
use Rattle.copies.proofs.copy_record.Goals as goal

pub returns-in_default : goal.returns-in_default
returns-in_default c = absurd (never c.requires (unnamed c.args.word c.in_default.ensures.1))

pub phonon_in-requires : goal.phonon_in-requires
phonon_in-requires c = long c.args.order Phonon (rw c.in-Phonon.is at c.in-Ok.ensures) _ c.requires

pub charge_in-requires : goal.charge_in-requires
charge_in-requires c = long c.args.order Charge (rw c.in-Charge.is at c.in-Ok.ensures) _ c.requires

pub administrative_in-requires : goal.administrative_in-requires
administrative_in-requires c = long c.args.order Administrative (rw c.in-Administrative.is at c.in-Ok.ensures) _ c.requires

pub trace_in-requires : goal.trace_in-requires
trace_in-requires c = long c.args.order Trace (rw c.in-Trace.is at c.in-Ok.ensures) _ c.requires

pub history_in-requires : goal.history_in-requires
unfolding kind_of
history_in-requires c =
    let named = rw c.in-History.is at c.in-Ok.ensures in
    record { rule = follows _ History named _ c.requires; size = small _ History named _ c.requires }

pub gps_in-requires : goal.gps_in-requires
gps_in-requires c = long c.args.order Gps (rw c.in-Gps.is at c.in-Ok.ensures) _ c.requires

pub trigger_in-requires : goal.trigger_in-requires
trigger_in-requires c = long c.args.order Trigger (rw c.in-Trigger.is at c.in-Ok.ensures) _ c.requires

pub tlb_in-requires : goal.tlb_in-requires
tlb_in-requires c = long c.args.order Tlb (rw c.in-Tlb.is at c.in-Ok.ensures) _ c.requires

pub returns-in-Phonon : goal.returns-in-Phonon
returns-in-Phonon c =
    let a = c.args in
    copied a.order Phonon (rw c.in-Phonon.is at c.in-Ok.ensures) a.out.now c.requires (c.write_phonon.ensures.1 ∙ rw c.phonon_in.ensures)

pub returns-in-Charge : goal.returns-in-Charge
returns-in-Charge c =
    let a = c.args in
    copied a.order Charge (rw c.in-Charge.is at c.in-Ok.ensures) a.out.now c.requires (c.write_charge.ensures.1 ∙ rw c.charge_in.ensures)

pub returns-in-Administrative : goal.returns-in-Administrative
returns-in-Administrative c =
    let a = c.args in
    copied a.order Administrative (rw c.in-Administrative.is at c.in-Ok.ensures) a.out.now c.requires
    (c.write_administrative.ensures.1 ∙ rw c.administrative_in.ensures)

pub returns-in-Trace : goal.returns-in-Trace
returns-in-Trace c =
    let a = c.args in
    copied a.order Trace (rw c.in-Trace.is at c.in-Ok.ensures) a.out.now c.requires (c.write_trace.ensures.1 ∙ rw c.trace_in.ensures)

pub returns-in-History : goal.returns-in-History
returns-in-History c =
    let a = c.args in
    copied a.order History (rw c.in-History.is at c.in-Ok.ensures) a.out.now c.requires (c.write_history.ensures.1 ∙ rw c.history_in.ensures)

pub returns-in-Gps : goal.returns-in-Gps
returns-in-Gps c =
    let a = c.args in
    copied a.order Gps (rw c.in-Gps.is at c.in-Ok.ensures) a.out.now c.requires (c.write_gps.ensures.1 ∙ rw c.gps_in.ensures)

pub returns-in-Trigger : goal.returns-in-Trigger
returns-in-Trigger c =
    let a = c.args in
    copied a.order Trigger (rw c.in-Trigger.is at c.in-Ok.ensures) a.out.now c.requires (c.write_trigger.ensures.1 ∙ rw c.trigger_in.ensures)

pub returns-in-Tlb : goal.returns-in-Tlb
returns-in-Tlb c =
    let a = c.args in
    copied a.order Tlb (rw c.in-Tlb.is at c.in-Ok.ensures) a.out.now c.requires (c.write_tlb.ensures.1 ∙ rw c.tlb_in.ensures)
