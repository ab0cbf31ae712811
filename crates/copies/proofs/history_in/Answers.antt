-- `copies::history_in` meets its contract: the sections are the body's.
-- The idea: the second section begins where the first ends, and ends with the body.
use Rattle.std.proofs.Common.{refl, le_refl, ap, ◌∙◌, ℕ}
use Rattle.note.specs.History.{end_at, section_of, history_of}
use Rattle.rules.proofs.RoomLaws.{veto-follows}
use Rattle.rules.proofs.SectionLaws.{room, thin}
use Rattle.copies.proofs.SectionLaws.{wide, ends, middle}
use Rattle.copies.proofs.history_in.Goals as goal

pub section_end-middle-requires : goal.section_end-middle-requires
section_end-middle-requires c =
    let e = veto-follows _ c.args.body.now c.requires.rule in
    (room _ _ 0 _ e, thin _ _ 0 _ e, c.requires.size)

pub section_in-requires : goal.section_in-requires
section_in-requires c =
    let b = c.args.body.now in
    let o = c.args.order in
    rw c.section_end-middle.ensures (wide o 0 b, refl, middle o b c.requires.rule)

pub section_in-requires-2 : goal.section_in-requires-2
section_in-requires-2 c =
    let b = c.args.body.now in
    let o = c.args.order in
    rw (c.section_end-middle.ensures, ends o b c.requires.rule) (wide o (end_at o 0 b) b, refl, le_refl _)

pub returns : goal.returns
unfolding history_of
returns c =
    let b = c.args.body.now in
    let o = c.args.order in
    λ i. record {
      veto = c.section_in.ensures i;
      trigger = (c.section_in-2.ensures ∙ ap (λ (p : ℕ). section_of o p b) c.section_end-middle.ensures) i;
    }
