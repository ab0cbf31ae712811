-- A configuration's word is the one that was asked for; any other begins an event, whose word is put together again.
use mathlib.Core.Path.{◌≡◌, sym, ap, ◌∙◌}
use Prim.Native.Nat.{ℕ}
use lib.Seq.{sets}
use Rattle.note.specs.Events.{event_fault, event_word}
use Rattle.note.specs.Writers.{closing_bytes}
use Rattle.rewriting.proofs.ContainerCopy.{event_begins}
use Rattle.rewriting.proofs.begin_container.Goals as goal
use Rattle.rewriting.proofs.begin_container.Goals.{After-event_type_of-event_type}

-- Where the word was taken apart: it is an event's.
apart : (c : After-event_type_of-event_type) → (let class = c.class_of-class.result in let category = c.category_of-category.result in
    let type = c.event_type_of-event_type.result in (event_fault class category type ≡ 0) × (event_word class category type ≡ c.args.word))
apart c =
    event_begins _ _ _ _ c.class_of-class.ensures c.category_of-category.ensures c.event_type_of-event_type.ensures
    c.requires.word c.if-word-eq-CONFIGURATION.false

pub returns-then-word-eq-CONFIGURATION : goal.returns-then-word-eq-CONFIGURATION
returns-then-word-eq-CONFIGURATION c =
    let a = c.args in
    c.begin_configuration.ensures
    ∙ ap (λ (w : ℕ). sets a.out.now a.place (closing_bytes a.order w a.place a.end)) (sym c.if-word-eq-CONFIGURATION.true)

pub begin_event-requires : goal.begin_event-requires
begin_event-requires c = record { room = c.requires.room; word = (apart (goal.at.begin_event-requires c).After-event_type_of-event_type).0 }

pub returns : goal.returns
returns c =
    let a = c.args in
    c.begin_event.ensures
    ∙ ap (λ (w : ℕ). sets a.out.now a.place (closing_bytes a.order w a.place a.end))
    (apart (goal.at.returns c).After-event_type_of-event_type).1
