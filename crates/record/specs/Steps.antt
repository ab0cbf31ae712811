-- What the code's own types say in the note's terms: its state, its context, and what a step answers.
use Rattle.std.specs.Prelude.{ℕ, ◌≡◌, false, true, length, Result, Ok, Err, MatchResult}
use Rattle.theory.specs.Tests.{Res, ok, bad}
use Rattle.note.specs.Faults.{fault_number}
use Rattle.note.specs.Records as Note
use Rattle.note.specs.declared.Fault.{Fault}
use Rattle.note.specs.declared.Fault.TheVariants.{WrongKind}
use Rattle.note.specs.declared.Refusal.{Refusal}
use Rattle.rules.specs.declared.Kind.{Kind}
use Rattle.rules.specs.Kinds.{kind_word}
use Rattle.record.specs.declared.Seen.{Seen}
use Rattle.record.specs.declared.Context.{Context}
use Rattle.record.specs.declared.Head.{Head}

-- FORMAT 6.2: which kinds came before in an event.
abbrev pub seen_of : Seen → Note.Seen
seen_of s = record { administrative = s.administrative; history = s.history; gps = s.gps; trigger = s.trigger; tlb = s.tlb }

-- FORMAT 6.1: the context.
abbrev pub context_of : Context → Note.Context
context_of Context.Entry = Note.entry
context_of (Context.Event seen) = Note.event (seen_of seen)
context_of Context.Alone = Note.alone

-- FORMAT 6.1: the kind that a word names, where it is one of those allowed in a context; else 5.
abbrev pub KindIn : Note.Context → ℕ → Result Kind Fault → Type 0
KindIn c word r =
    MatchResult r (λ kind. (kind_word kind ≡ word) × (Note.is_kind c word ≡ true)) (λ fault. (fault ≡ WrongKind) × (Note.is_kind c word ≡ false))

-- A record's kind word and its body's length.
pub record Measure : Type 0 where
  pub word : ℕ
  pub length : ℕ

-- What the code's step answers, by the kind's word; and a record that was read, measured so; or the refusal.
abbrev pub head_in : Result Head Refusal → Res Measure
head_in (Ok h) = ok (record { word = kind_word h.kind; length = h.length })
head_in (Err r) = bad (fault_number r.fault) r.place

unfoldable pub step_of : Res Note.Record → Res Measure
step_of (ok r) = ok (record { word = r.word; length = length r.body })
step_of (bad c p) = bad c p
