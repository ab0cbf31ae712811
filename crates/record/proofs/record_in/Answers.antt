-- Each way out is one law of StepLaws; behind the kind word and behind the length word a record says what the tests have shown.
use mathlib.Core.Path.{◌≡◌, refl, sym, ◌∙◌}
use mathlib.Core.Bool.{true}
use Rattle.note.specs.Records.{is_allowed}
use Rattle.rules.specs.Kinds.{kind_word}
use Rattle.record.specs.Steps.{context_of}
use Rattle.record.proofs.StepLaws.{short, unknown, Named, long, Sized, misplaced, fault-some, fault, good}
use Rattle.record.proofs.record_in.Goals as goal
use Rattle.record.proofs.record_in.Goals.{Else-not-is_allowed, Else-room-length, In-Ok}

named : (c : In-Ok) → Named c.args.order (context_of c.args.context) c.args.part.now (kind_word c.in-Ok.kind)
named c =
    let (kind-is, known) = c.in-Ok.ensures in
    record { room = c.if-room-lt-FRONT.false; kind-is = kind-is ∙ c.word_at.ensures; known = rw kind-is known }

sized : (c : Else-room-length) → Sized c.args.order (context_of c.args.context) c.args.part.now (kind_word c.in-Ok.kind) c.word_at-length.result
sized c =
    let (kind-is, known) = c.in-Ok.ensures in
    record {
      named = record { room = c.if-room-lt-FRONT.false; kind-is = kind-is ∙ c.word_at.ensures; known = rw kind-is known };
      length-is = c.word_at-length.ensures;
      fits = c.if-room-length.false;
    }

-- Where the record may stand.
allowed : (c : Else-not-is_allowed) → is_allowed (context_of c.args.context) (kind_word c.in-Ok.kind) ≡ true
allowed c = sym c.is_allowed.ensures ∙ c.if-not-is_allowed.false

pub returns-then-room-lt-FRONT : goal.returns-then-room-lt-FRONT
returns-then-room-lt-FRONT c =
    let a = c.args in rw c.at.ensures (short a.order (context_of a.context) a.at a.part.now c.if-room-lt-FRONT.true)

pub returns-in_default : goal.returns-in_default
returns-in_default c =
    let a = c.args in
    rw c.at-in_default.ensures
    (unknown a.order (context_of a.context) a.at a.part.now c.if-room-lt-FRONT.false _ c.word_at.ensures (c.in_default.ensures).1)

pub returns-then-room-length : goal.returns-then-room-length
returns-then-room-length c =
    rw c.at-then-room-length.ensures
    (long (named (goal.at.returns-then-room-length c).In-Ok) c.args.at _ c.word_at-length.ensures c.if-room-length.true)

pub returns-then-not-is_allowed : goal.returns-then-not-is_allowed
returns-then-not-is_allowed c =
    rw c.at-then-not-is_allowed.ensures
    (misplaced (sized (goal.at.returns-then-not-is_allowed c).Else-room-length) c.args.at (sym c.is_allowed.ensures ∙ c.if-not-is_allowed.true))

pub returns-in-Err : goal.returns-in-Err
returns-in-Err c =
    rw c.at-in-Err.ensures
    (fault (sized (goal.at.returns-in-Err c).Else-room-length) c.args.at
    (allowed (goal.at.returns-in-Err c).Else-not-is_allowed) _ c.in-Err.ensures (fault-some c.in-Err.fault))

pub returns : goal.returns
returns c =
    good (sized (goal.at.returns c).Else-room-length) c.args.at (allowed (goal.at.returns c).Else-not-is_allowed) _ c.in_default-rule.ensures refl
