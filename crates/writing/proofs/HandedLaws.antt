-- The numbers of a lent array are the fields in the order of their words.
use mathlib.Core.Path.{◌≡◌, refl}
use mathlib.Core.List.{[], ◌∷◌}
use Rattle.note.specs.declared.Phonon.{Phonon}
use Rattle.note.specs.declared.Charge.{Charge}
use Rattle.note.specs.declared.Administrative.{Administrative}
use Rattle.note.specs.declared.Gps.{Gps}
use Rattle.note.specs.declared.Trigger.{Trigger}
use Rattle.note.specs.declared.Tlb.{Tlb}
use Rattle.writing.specs.Handed.{phonon_from, charge_from, administrative_from, gps_from, trigger_from, tlb_from}

pub phonon_handed : (f : Phonon) → phonon_from (f.code ∷ f.tower ∷ f.gain ∷ f.qet_bias ∷ f.squid_bias ∷ f.lockpoint ∷ f.rtf_offset
    ∷ f.variable_gain ∷ f.delta_t ∷ f.t0 ∷ f.trace_length ∷ []) ≡ f
unfolding phonon_from
phonon_handed f = refl

pub charge_handed : (f : Charge)
    → charge_from (f.code ∷ f.tower ∷ f.gain ∷ f.bias ∷ f.rtf_offset ∷ f.delta_t ∷ f.t0 ∷ f.trace_length ∷ []) ≡ f
unfolding charge_from
charge_handed f = refl

pub administrative_handed : (f : Administrative)
    → administrative_from (f.date ∷ f.clock ∷ f.number ∷ f.time ∷ f.since ∷ f.live ∷ []) ≡ f
unfolding administrative_from
administrative_handed f = refl

pub gps_handed : (f : Gps) → gps_from (f.year ∷ f.day ∷ f.status ∷ f.hour ∷ f.minute ∷ f.second ∷ f.tenths ∷ []) ≡ f
unfolding gps_from
gps_handed f = refl

pub trigger_handed : (f : Trigger) → trigger_from (f.mask1 ∷ f.mask2 ∷ f.mask3 ∷ f.mask4 ∷ f.mask5 ∷ f.mask6 ∷ []) ≡ f
unfolding trigger_from
trigger_handed f = refl

pub tlb_handed : (f : Tlb) → tlb_from (f.tower1 ∷ f.tower2 ∷ f.tower3 ∷ f.tower4 ∷ f.tower5 ∷ f.tower6 ∷ []) ≡ f
unfolding tlb_from
tlb_handed f = refl
