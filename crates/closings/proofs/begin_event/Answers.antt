-- An admitted class, category and type are the word's; it and its length are the two words that are stored.
use mathlib.Core.Path.{ap, ◌∙◌}
use Prim.Native.Nat.{ℕ}
use lib.Seq.{sets}
use Rattle.note.specs.Writers.{closing_bytes}
use Rattle.closings.proofs.CloseLaws.{word-whole}
use Rattle.closings.proofs.begin_event.Goals as goal

pub begin_container-requires : goal.begin_container-requires
begin_container-requires c = c.requires.room

pub returns : goal.returns
returns c =
    let a = c.args in
    c.begin_container.ensures
    ∙ ap (λ (w : ℕ). sets a.out.now a.place (closing_bytes a.order w a.place a.end))
    (c.event_word.ensures ∙ word-whole a.class a.category a.event_type c.requires.word)
