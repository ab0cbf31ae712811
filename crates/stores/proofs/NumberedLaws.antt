-- A writer that is handed numbers: its refusal as `?` gives it back, and which numbers it refuses with. What its answer shows of the output,
-- stores/proofs/WriterLaws says of any writer.
-- The idea: tests one after the other give one of their numbers.
use Prim.Native.Nat.{ℕ, zero, suc, ◌+◌, ◌≤◌, ◌<◌}
use mathlib.Core.Path.{◌≡◌}
use mathlib.Core.Bool.{Bool, true, false}
use mathlib.Core.List.{List}
use native.Mathlib.Omega.{arith}
use lib.Dec.{leb}
use lib.ListN.{length}
use Rattle.std.proofs.Common.{Result, Ok, Err, IsErrAnd}
use Rattle.theory.specs.Tests.{Res, ok, bad, need, unless}
use Rattle.note.specs.declared.Numbered.{Numbered}
use Rattle.note.specs.Faults.{numbered_in, too_large, no_room}
use Rattle.note.specs.Writers.{Draft, writer_next, record_next}

-- What `?` gives back is the refusal as it was.
pub number_back : (s : Result ℕ Numbered) (f : Numbered) → IsErrAnd s (λ e. e ≡ f) → bad f.number f.place ≡ numbered_in s
number_back (Ok next) f h = absurd h
number_back (Err e) f h = rw h

-- ---- which numbers

-- FORMAT 2.1: a refusal's number is one of those that there are.
unfoldable pub Known : Res ℕ → Type 0
Known (ok next) = Unit {0}
Known (bad c p) = (0 < c) × (c ≤ no_room)

-- A test in front of others gives its own number, or what they give.
in_front : (n at : ℕ) (r : Res ℕ) → n ≤ no_room → Known r → Known (need n at r)
unfolding Known
in_front zero at r h known = known
in_front (suc n) at r h known = (omega arith, h)

unless_most : (t : Bool) (c : ℕ) → c ≤ no_room → unless t c ≤ no_room
unless_most true c h = omega arith
unless_most false c h = h

-- A writer that is handed the number of a fault of FORMAT 2.1, or 0, refuses with no other: its answer can be read as a fault again.
pub numbers_known : (out : List ℕ) (place : ℕ) (w : Draft) {r : Res ℕ} → w.fault ≤ no_room → r ≡ record_next out place w → Known r
unfolding Known record_next writer_next
numbers_known out place w h e =
    let next : ℕ = place + length w.bytes in
    let room = in_front (unless (leb next (length out)) no_room) place (ok next) (unless_most _ no_room (omega arith)) tt in
    rw e (in_front _ _ _ (unless_most _ too_large (omega arith)) (in_front w.fault _ _ h room))
