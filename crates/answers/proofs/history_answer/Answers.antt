-- `answers::history_answer` meets its contract. A body that follows its rule has both sections, each with room for its width.
use native.Mathlib.Omega.{arith}
use Rattle.rules.proofs.RoomLaws.{veto-follows, trigger-follows}
use Rattle.rules.proofs.SectionLaws.{room, thin}
use Rattle.answers.proofs.history_answer.Goals as goal

pub section_of-veto-requires : goal.section_of-veto-requires
section_of-veto-requires c = (room _ _ 0 _ (veto-follows _ _ c.requires.0), c.requires.1)

pub section_end-requires : goal.section_end-requires
section_end-requires c =
    let veto = veto-follows _ c.args.b.now c.requires.0 in
    (room _ _ 0 _ veto, thin _ _ 0 _ veto, omega arith)

pub section_of-trigger-requires : goal.section_of-trigger-requires
section_of-trigger-requires c = (rw c.section_end.ensures (room _ _ _ _ (trigger-follows _ _ c.requires.0)), c.requires.1)
