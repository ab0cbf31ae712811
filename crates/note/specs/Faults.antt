-- The numbers that are given back, each named once. Every definition says a refusal by its name; 0 means that nothing is wrong.
use Rattle.std.specs.Prelude.{ℕ, Result, Ok, Err}
use Rattle.theory.specs.Tests.{Res, ok, bad}
use Rattle.note.specs.declared.Fault.{Fault}
use Rattle.note.specs.declared.Refusal.{Refusal}
use Rattle.note.specs.declared.Numbered.{Numbered}

-- FORMAT 2.1: a lent file or output is over the limit.
abbrev pub too_large : ℕ
too_large = 1

-- FORMAT 2.1: fewer than eight bytes are left for a structure, or its length passes the end of what holds it.
abbrev pub too_short : ℕ
too_short = 2

-- FORMAT 2.1: the first word of the file is another one.
abbrev pub not_a_file : ℕ
not_a_file = 3

-- FORMAT 2.1: the version word says another format than 2.0.
abbrev pub wrong_format : ℕ
wrong_format = 4

-- FORMAT 2.1: a kind word, a trace's inner kind, or the upper half of an event's first word isn't one of those allowed there.
abbrev pub wrong_kind : ℕ
wrong_kind = 5

-- FORMAT 2.1: a length is wrong for its kind or for its counts.
abbrev pub wrong_length : ℕ
wrong_length = 6

-- FORMAT 2.1: an event's class, category or type isn't admitted.
abbrev pub not_admitted : ℕ
not_admitted = 7

-- FORMAT 2.1: an event of type 7, a monitoring event.
abbrev pub monitoring : ℕ
monitoring = 8

-- FORMAT 2.1: an event is empty, its first record isn't administrative, or a kind comes a second time.
abbrev pub misplaced : ℕ
misplaced = 9

-- FORMAT 2.1: a field is outside its rule.
abbrev pub wrong_field : ℕ
wrong_field = 10

-- FORMAT 2.1: a trace's count of samples is outside its rule, or the number of a sample is out of range.
abbrev pub wrong_count : ℕ
wrong_count = 11

-- FORMAT 2.1: Table's rows don't fit the lent buffer.
abbrev pub few_rows : ℕ
few_rows = 12

-- FORMAT 2.1: what is to be written doesn't lie in the output.
abbrev pub no_room : ℕ
no_room = 13

-- FORMAT 2.1: the number of the code's fault; and of what a test of the code found: 0 where it holds.
abbrev pub fault_number : Fault → ℕ
fault_number Fault.TooLarge = too_large
fault_number Fault.TooShort = too_short
fault_number Fault.NotAFile = not_a_file
fault_number Fault.WrongFormat = wrong_format
fault_number Fault.WrongKind = wrong_kind
fault_number Fault.WrongLength = wrong_length
fault_number Fault.NotAdmitted = not_admitted
fault_number Fault.Monitoring = monitoring
fault_number Fault.Misplaced = misplaced
fault_number Fault.WrongField = wrong_field
fault_number Fault.WrongCount = wrong_count
fault_number Fault.FewRows = few_rows
fault_number Fault.NoRoom = no_room

abbrev pub fault_in : Result Unit Fault → ℕ
fault_in (Ok u) = 0
fault_in (Err f) = fault_number f

-- FORMAT 2.2: what the code read, or its refusal, as the definitions say it.
abbrev pub res_of : {A : Type 0} → Result A Refusal → Res A
res_of (Ok a) = ok a
res_of (Err r) = bad (fault_number r.fault) r.place

-- FORMAT 2.2: the same of a refusal by its number, whatever the number is.
abbrev pub numbered_in : {A : Type 0} → Result A Numbered → Res A
numbered_in (Ok a) = ok a
numbered_in (Err r) = bad r.number r.place
