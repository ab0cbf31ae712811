-- What a C caller finds in the numbers that it lent to a writer: the next place, or a refusal's place; otherwise what stood there. Said once for
-- all writers, closings and Rewrite.
use Rattle.std.specs.Prelude.{ℕ, ◌≡◌, List, Result}
use Rattle.theory.specs.Tests.{Res, ok, bad}
use Rattle.note.specs.Faults.{res_of, numbered_in}
use Rattle.note.specs.declared.Refusal.{Refusal}
use Rattle.note.specs.declared.Numbered.{Numbered}

-- The two numbers that a caller lends, as they stand before the call.
pub record Before : Type 0 where
  pub next : ℕ
  pub refusal : ℕ

-- The number that a call returns, and the two lent numbers after it.
pub record After : Type 0 where
  pub number : ℕ
  pub next : ℕ
  pub refusal : ℕ

-- FORMAT 9.1: after a result: 0 and the next place; or a refusal's number and place.
unfoldable pub after_of : Res ℕ → Before → After
after_of (ok place) before = record { number = 0; next = place; refusal = before.refusal }
after_of (bad number place) before = record { number = number; next = before.next; refusal = place }

-- What a caller is told of a call with the result r, whose output is to be `output`: its numbers, and the output afterwards.
abbrev pub Told : Res ℕ → List ℕ → Before → After → List ℕ → Type 0
Told r output before after out = (after ≡ after_of r before) × (out ≡ output)

-- An answer told.
abbrev pub Tells : Result ℕ Refusal → Before → After → Type 0
Tells answer before after = after ≡ after_of (res_of answer) before

-- An answer told whose refusal has a number, whichever it is.
abbrev pub NumberTells : Result ℕ Numbered → Before → After → Type 0
NumberTells answer before after = after ≡ after_of (numbered_in answer) before
