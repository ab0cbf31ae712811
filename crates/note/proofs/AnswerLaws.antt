-- The definitions that give an answer's number and values are one-to-one: a promise stated with one of them determines the answer.
-- The idea: each has a way back, from number and values to the answer; what has a way back loses nothing.
use Prim.Native.Nat.{ℕ}
use mathlib.Core.Path.{◌≡◌, refl, sym, ap, ◌∙◌}
use mathlib.Core.Bool.{cond}
use mathlib.Core.List.{List, [], ◌∷◌, map}
use lib.Dec.{eqb}
use lib.IntN.{ℤ, pos, negsuc}
use lib.Ieee.{Float, nan}
use lib.ListN.{get_or}
use Rattle.std.proofs.Common.{Result, Ok, Err, Option, Some, None}
use Rattle.note.specs.Answers.{Value, whole, float, Given, accepted, refused, counts, given}
use Rattle.note.specs.Answers.{given_record, setting_values, given_setting, given_number, place_values, given_find, given_yield}
use Rattle.note.specs.declared.Refusal.{Refusal}
use Rattle.note.specs.declared.Numbered.{Numbered}
use Rattle.note.specs.declared.RecordAnswer.{RecordAnswer}
use Rattle.note.specs.declared.RecordAnswer.TheVariants as Record
use Rattle.note.specs.declared.SettingAnswer.{SettingAnswer}
use Rattle.note.specs.declared.SettingAnswer.TheVariants as Setting
use Rattle.note.specs.Writers.{writer_given}
use Rattle.note.specs.declared.WalkerYield.{WalkerYield}
use Rattle.note.specs.declared.WalkerYield.TheVariants as Yield
use Rattle.theory.specs.Tests.{Res, ok, bad}
use Rattle.note.specs.Faults.{fault_number, res_of, numbered_in}
use Rattle.note.proofs.FaultLaws.{numbered_fault, fault_undone}

-- What has a way back is one-to-one.
way_back : {A : Type 0} (given : A → Given) (back : Given → A) → ((a : A) → back (given a) ≡ a)
    → (a b : A) → given a ≡ given b → a ≡ b
way_back given back undo a b e = sym (undo a) ∙ ap back e ∙ undo b

-- So a result is one-to-one where its values have a way back: a refusal's number has one to its fault.
abbrev back : {A : Type 0} → (List Value → A) → Given → Result A Refusal
back from (accepted vs) = Ok (from vs)
back from (refused number place) = Err (record { fault = numbered_fault number; place = place })

given_undone : {A : Type 0} (values : A → List Value) (from : List Value → A) → ((a : A) → from (values a) ≡ a)
    → (r : Result A Refusal) → back from (given values r) ≡ r
given_undone values from undo (Ok a) = ap Ok (undo a)
given_undone values from undo (Err r) = λ i. Err (record { fault = fault_undone r.fault i; place = r.place })

given_determined : {A : Type 0} (values : A → List Value) (from : List Value → A) → ((a : A) → from (values a) ≡ a)
    → (a b : Result A Refusal) → given values a ≡ given values b → a ≡ b
given_determined values from undo = way_back (given values) (back from) (given_undone values from undo)

-- A value as a whole number, as a count, as a float.
abbrev as_whole : Value → ℤ
as_whole (whole z) = z
as_whole (float x) = pos 0

abbrev magnitude : ℤ → ℕ
magnitude (pos n) = n
magnitude (negsuc n) = 0

abbrev as_float : Value → Float
as_float (whole z) = nan
as_float (float x) = x

abbrev z : List Value → ℕ → ℤ
z vs i = as_whole (get_or vs i (whole (pos 0)))

abbrev n : List Value → ℕ → ℕ
n vs i = magnitude (z vs i)

abbrev x : List Value → ℕ → Float
x vs i = as_float (get_or vs i (whole (pos 0)))

-- ---- the ways back

abbrev back_record : Given → RecordAnswer
back_record (accepted vs) =
    cond (eqb (n vs 0) 3) (Record.Phonon (record {
      code = z vs 1;
      tower = z vs 2;
      gain = z vs 3;
      qet_bias = z vs 4;
      squid_bias = z vs 5;
      lockpoint = z vs 6;
      rtf_offset = z vs 7;
      variable_gain = z vs 8;
      delta_t = z vs 9;
      t0 = z vs 10;
      trace_length = z vs 11;
    }))
    (cond (eqb (n vs 0) 4) (Record.Charge (record {
      code = z vs 1;
      tower = z vs 2;
      gain = z vs 3;
      bias = z vs 4;
      rtf_offset = z vs 5;
      delta_t = z vs 6;
      t0 = z vs 7;
      trace_length = z vs 8;
    }))
    (cond (eqb (n vs 0) 6) (Record.Administrative (record {
      date = n vs 1;
      clock = n vs 2;
      number = n vs 3;
      time = n vs 4;
      since = n vs 5;
      live = n vs 6;
    }))
    (cond (eqb (n vs 0) 7) (Record.Trace (n vs 1) (n vs 2) (n vs 3) (z vs 4) (n vs 5) (n vs 6))
    (cond (eqb (n vs 0) 8) (Record.History (n vs 1) (n vs 2) (n vs 3) (n vs 4) (n vs 5) (n vs 6) (n vs 7) (n vs 8))
    (cond (eqb (n vs 0) 9) (Record.Gps (record {
      year = n vs 1;
      day = n vs 2;
      status = n vs 3;
      hour = n vs 4;
      minute = n vs 5;
      second = n vs 6;
      tenths = n vs 7;
    }))
    (cond (eqb (n vs 0) 10) (Record.Trigger (record {
      mask1 = n vs 1;
      mask2 = n vs 2;
      mask3 = n vs 3;
      mask4 = n vs 4;
      mask5 = n vs 5;
      mask6 = n vs 6;
    }))
    (Record.Tlb (record {
      tower1 = n vs 1;
      tower2 = n vs 2;
      tower3 = n vs 3;
      tower4 = n vs 4;
      tower5 = n vs 5;
      tower6 = n vs 6;
    }))))))))
back_record (refused number place) = Record.Refused (record { fault = numbered_fault number; place = place })

record_undone : (a : RecordAnswer) → back_record (given_record a) ≡ a
unfolding given_record
record_undone (Record.Phonon f) = refl
record_undone (Record.Charge f) = refl
record_undone (Record.Administrative f) = refl
record_undone (Record.Trace a b c d e f) = refl
record_undone (Record.History a b c d e f g h) = refl
record_undone (Record.Gps f) = refl
record_undone (Record.Trigger f) = refl
record_undone (Record.Tlb f) = refl
record_undone (Record.Refused r) = λ i. Record.Refused (record { fault = fault_undone r.fault i; place = r.place })

abbrev back_setting : List Value → SettingAnswer
back_setting vs =
    cond (eqb (n vs 0) 3) (Setting.Phonon (z vs 1) (z vs 2) (x vs 3) (x vs 4) (x vs 5) (x vs 6) (z vs 7) (z vs 8) (z vs 9) (z vs 10) (z vs 11))
    (Setting.Charge (z vs 1) (z vs 2) (x vs 3) (z vs 4) (z vs 5) (z vs 6) (z vs 7) (z vs 8))

setting_undone : (a : SettingAnswer) → back_setting (setting_values a) ≡ a
setting_undone (Setting.Phonon a b c d e f g h i j k) = refl
setting_undone (Setting.Charge a b c d e f g h) = refl

abbrev back_place : List Value → Option ℕ
back_place [] = None
back_place (v ∷ vs) = Some (n (v ∷ vs) 0)

place_undone : (a : Option ℕ) → back_place (place_values a) ≡ a
place_undone (Some place) = refl
place_undone None = refl

abbrev back_yield : Given → WalkerYield
back_yield (accepted []) = Yield.End
back_yield (accepted (v ∷ vs)) =
    Yield.Row (n (v ∷ vs) 0) (n (v ∷ vs) 1) (n (v ∷ vs) 2) (n (v ∷ vs) 3) (n (v ∷ vs) 4) (n (v ∷ vs) 5)
back_yield (refused number place) = Yield.Refused number place

yield_undone : (a : WalkerYield) → back_yield (given_yield a) ≡ a
unfolding given_yield
yield_undone (Yield.Row a b c d e f) = refl
yield_undone Yield.End = refl
yield_undone (Yield.Refused a b) = refl

-- Counts, however many.
abbrev back_counts : Given → List ℕ
back_counts (accepted vs) = map (λ (v : Value). magnitude (as_whole v)) vs
back_counts (refused number place) = []

counts_undone : (ns : List ℕ) → back_counts (accepted (counts ns)) ≡ ns
counts_undone [] = refl
counts_undone (n ∷ ns) = ap (λ (l : List ℕ). n ∷ l) (counts_undone ns)

-- ---- so each is one-to-one

pub record_determined : (a b : RecordAnswer) → given_record a ≡ given_record b → a ≡ b
record_determined = way_back given_record back_record record_undone

pub setting_determined : (a b : Result SettingAnswer Refusal) → given_setting a ≡ given_setting b → a ≡ b
unfolding given_setting
setting_determined = given_determined setting_values back_setting setting_undone

-- Of a number: Code's code, a sample, the next place of a writer.
pub number_determined : (a b : Result ℕ Refusal) → given_number a ≡ given_number b → a ≡ b
unfolding given_number
number_determined = given_determined (λ n. counts (n ∷ [])) (λ vs. n vs 0) (λ a. refl)

pub code_determined : (a b : Result ℕ Refusal) → given_number a ≡ given_number b → a ≡ b
code_determined = number_determined

pub sample_determined : (a b : Result ℕ Refusal) → given_number a ≡ given_number b → a ≡ b
sample_determined = number_determined

pub writer_determined : (a b : Result ℕ Refusal) → given_number a ≡ given_number b → a ≡ b
writer_determined = number_determined

pub find_determined : (a b : Result (Option ℕ) Refusal) → given_find a ≡ given_find b → a ≡ b
unfolding given_find
find_determined = given_determined place_values back_place place_undone

pub yield_determined : (a b : WalkerYield) → given_yield a ≡ given_yield b → a ≡ b
yield_determined = way_back given_yield back_yield yield_undone

pub counts_determined : (ms ns : List ℕ) → accepted (counts ms) ≡ accepted (counts ns) → ms ≡ ns
counts_determined = way_back (λ (ns : List ℕ). accepted (counts ns)) back_counts counts_undone

-- ---- a result in the note's terms

-- What was granted is read, a refusal is its fault's number at its place.
pub results-told : {A : Type 0} (a : A) (r : Refusal) → (res_of {A = A} (Ok a) ≡ ok a) × (res_of {A = A} (Err r) ≡ bad (fault_number r.fault) r.place)
results-told a r = (refl, refl)

-- And that says which result it was.
abbrev back_res : {A : Type 0} → Res A → Result A Refusal
back_res (ok a) = Ok a
back_res (bad number place) = Err (record { fault = numbered_fault number; place = place })

res_undone : {A : Type 0} (r : Result A Refusal) → back_res (res_of r) ≡ r
res_undone (Ok a) = refl
res_undone (Err r) = λ i. Err (record { fault = fault_undone r.fault i; place = r.place })

pub result_determined : {A : Type 0} (r s : Result A Refusal) → res_of r ≡ res_of s → r ≡ s
result_determined r s e = sym (res_undone r) ∙ ap back_res e ∙ res_undone s

-- A refusal by its number is told by the number that it has, whichever it is, and its place; and that says which result it was.
pub numbers_told : {A : Type 0} (a : A) (r : Numbered)
    → (numbered_in {A = A} (Ok a) ≡ ok a) × (numbered_in {A = A} (Err r) ≡ bad r.number r.place)
numbers_told a r = (refl, refl)

abbrev back_numbered : {A : Type 0} → Res A → Result A Numbered
back_numbered (ok a) = Ok a
back_numbered (bad number place) = Err (record { number = number; place = place })

numbered_undone : {A : Type 0} (r : Result A Numbered) → back_numbered (numbered_in r) ≡ r
numbered_undone (Ok a) = refl
numbered_undone (Err r) = refl

pub numbers_determined : {A : Type 0} (r s : Result A Numbered) → numbered_in r ≡ numbered_in s → r ≡ s
numbers_determined r s e = sym (numbered_undone r) ∙ ap back_numbered e ∙ numbered_undone s

-- A writer's result, in numbers and values, is that of what it reads as.
pub number_given : (r : Result ℕ Refusal) → given_number r ≡ writer_given (res_of r)
unfolding given_number writer_given
number_given (Ok next) = refl
number_given (Err r) = refl
