-- The kinds that the code tells apart, and their kind words.
use Rattle.std.specs.Prelude.{ℕ, ◌≡◌, false, Result, MatchResult}
use Rattle.note.specs.Phonon.{phonon_kind}
use Rattle.note.specs.Charge.{charge_kind}
use Rattle.note.specs.Administrative.{administrative_kind}
use Rattle.note.specs.Trace.{trace_kind}
use Rattle.note.specs.History.{history_kind}
use Rattle.note.specs.Gps.{gps_kind}
use Rattle.note.specs.Trigger.{trigger_kind}
use Rattle.note.specs.Tlb.{tlb_kind}
use Rattle.note.specs.Records.{alone, is_kind}
use Rattle.note.specs.declared.Fault.{Fault}
use Rattle.note.specs.declared.Fault.TheVariants.{WrongKind}
use Rattle.rules.specs.declared.Kind.{Kind}

-- FORMAT 6.1: the kind word of a kind.
abbrev pub kind_word : Kind → ℕ
kind_word Kind.Phonon = phonon_kind.word
kind_word Kind.Charge = charge_kind.word
kind_word Kind.Administrative = administrative_kind.word
kind_word Kind.Trace = trace_kind.word
kind_word Kind.History = history_kind.word
kind_word Kind.Gps = gps_kind.word
kind_word Kind.Trigger = trigger_kind.word
kind_word Kind.Tlb = tlb_kind.word

-- FORMAT 6.1: the kind that a word names; 5 where it names none, which is then allowed nowhere.
abbrev pub Names : ℕ → Result Kind Fault → Type 0
Names word r = MatchResult r (λ kind. kind_word kind ≡ word) (λ fault. (fault ≡ WrongKind) × (is_kind alone word ≡ false))
