-- `rows::values_in` meets its contract: the words that the code reads are the kind's row values, and stand in the body.
-- The idea: the places that were looked up are the kind's; what the body holds was asked for.
use mathlib.Core.Path.{sym, ◌∙◌}
use mathlib.Core.Bool.{true≢false}
use native.Mathlib.Omega.{arith}
use Rattle.theory.proofs.WordLaws.{Bytes-from}
use Rattle.rules.proofs.SectionLaws.{room, thin}
use Rattle.rules.proofs.RoomLaws.{veto-follows, trigger-count}
use Rattle.rows.proofs.ValueLaws.{none_has, history_follows, first_room, second_room, history_read, others_read}
use Rattle.rows.proofs.values_in.Goals as goal
use Rattle.rows.proofs.values_in.Goals.{In-History, in-History, in_default-kind}

pub returns-in_default : goal.returns-in_default
returns-in_default c = absurd (true≢false (sym c.requires.0 ∙ none_has _ _ _ c.in_default.ensures.1))

pub section_end-two-requires : goal.section_end-two-requires
section_end-two-requires c =
    let a = c.args in
    let v = veto-follows _ _ (history_follows a.order a.b.now c.in-Ok.kind c.in-Ok.ensures c.requires.0 c.in-History.is) in
    (room _ _ 0 _ v, thin _ _ 0 _ v, c.requires.1)

pub word_at-requires : goal.word_at-requires
word_at-requires c =
    let a = c.args in
    first_room a.order a.b.now c.in-Ok.kind c.in-Ok.ensures c.requires.0 c.value_places-standing.ensures

pub word_at-requires-2 : goal.word_at-requires-2
word_at-requires-2 c =
    let a = c.args in
    elim c.match-kind.branch [
      | in-History w ↦
          rw (w.two-is, w.section_end-two.ensures)
          (trigger-count _ _ (history_follows a.order a.b.now c.in-Ok.kind c.in-Ok.ensures c.requires.0 w.in-History.is))
      | in_default-kind w ↦
          rw w.two-is
          (second_room a.order a.b.now c.in-Ok.kind c.in-Ok.ensures c.requires.0 w.in_default-kind.not-History c.value_places-standing.ensures)
    ]

pub returns : goal.returns
returns c =
    let a = c.args in
    elim c.match-kind.branch [
      | in-History w ↦
          history_read a.order a.b.now c.in-Ok.kind c.in-Ok.ensures c.requires.0 w.in-History.is c.value_places-standing.ensures
          c.word_at.ensures (w.two-is ∙ w.section_end-two.ensures) c.word_at-2.ensures
      | in_default-kind w ↦
          others_read a.order a.b.now c.in-Ok.kind c.in-Ok.ensures c.requires.0 w.in_default-kind.not-History
          (Bytes-from a.b.now (λ i l. omega (arith, c.type_inv.b i))) c.value_places-standing.ensures c.word_at.ensures
          (rw w.two-is at c.word_at-2.ensures)
    ]
