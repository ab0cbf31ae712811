-- One law for each way through record_found, and what a record that was found shows.
-- The idea: within the limit Record reads what stands behind the place, and past the end nothing stands there.
use mathlib.Core.Path.{◌≡◌, ap, ◌∙◌}
use mathlib.Core.List.{List}
use Rattle.std.proofs.Common.{Ok, Err}
use Prim.Native.Nat.{ℕ, ◌+◌, ◌-◌, ◌≤◌, ◌<◌}
use native.Mathlib.Decide.{dec_lt}
use native.Mathlib.Omega.{arith}
use lib.ListN.{length, take, drop, length-drop}
use lib.Seq.{drop-drop, take-length}
use borrow.Author.Tests.{le-leb, lt-leb}
use Rattle.theory.specs.declared.Order.{Order}
use Rattle.theory.specs.Tests.{Res, ok, bad}
use Rattle.note.specs.Limits.{file_limit}
use Rattle.note.specs.Faults.{fault_number}
use Rattle.note.specs.declared.Refusal.{Refusal}
use Rattle.note.specs.Records.{alone, record_rule, read_record}
use Rattle.note.specs.Calls.{record_found}
use Rattle.rules.specs.Kinds.{kind_word}
use Rattle.record.specs.declared.Head.{Head}
use Rattle.record.specs.Steps.{Measure, head_in, step_of}
use Rattle.record.proofs.StepLaws.{Read, short, step_bad, read-good}
use Rattle.answers.specs.Bodies.{body_at}

module _ (o : Order) (bs : List ℕ) (place : ℕ) where
  pub over : file_limit < length bs → bad 1 0 ≡ step_of (record_found o bs place)
  unfolding record_found step_of
  over h = rw (lt-leb (length bs) file_limit h)

  module _ (h : length bs ≤ file_limit) where
    found-behind : record_found o bs place ≡ read_record o alone place (drop place bs)
    unfolding record_found
    found-behind = rw (le-leb (length bs) file_limit h)

    pub past : length bs < place → bad 2 place ≡ step_of (record_found o bs place)
    past l = rw found-behind (short o alone place (drop place bs) (omega (arith, length-drop place bs)))

    pub inside : {r : Res Measure} → r ≡ step_of (read_record o alone place (take (length bs - place) (drop place bs)))
        → r ≡ step_of (record_found o bs place)
    inside e =
        let all : take (length bs - place) (drop place bs) ≡ drop place bs = rw (← length-drop place bs) (take-length (drop place bs)) in
        rw (found-behind, ← all) e

-- A record that was found: what it is, and what its body shows.
pub record Found (o : Order) (bs : List ℕ) (place k n : ℕ) : Type 0 where
  pub found : record_found o bs place ≡ ok (record { word = k; body = body_at bs place n })
  pub within : length bs ≤ file_limit
  pub fits : place + 8 + n ≤ length bs
  pub size : length (body_at bs place n) ≡ n
  pub follows : record_rule o k (body_at bs place n) ≡ 0

module _ (o : Order) (bs : List ℕ) (place k n : ℕ) (e : ok (record { word = k; length = n }) ≡ step_of (record_found o bs place)) where
  within-limit : length bs ≤ file_limit
  within-limit = elim (dec_lt file_limit (length bs)) [
    | yes h ↦ (let o = over o bs place h in cc)
    | no h ↦ omega arith
  ]

  -- A good step shows it.
  pub good-found : Found o bs place k n
  good-found =
      let g : Read o alone place (drop place bs) k n =
      read-good o alone place (drop place bs) k n (e ∙ ap step_of (found-behind o bs place within-limit)) in
      let same : drop 8 (drop place bs) ≡ drop (place + 8) bs = drop-drop 8 place bs in
      record {
        found = found-behind o bs place within-limit ∙ rw same at g.reads;
        within = within-limit;
        fits = omega (arith, g.fits, length-drop place bs);
        size = rw same at g.size;
        follows = rw same at g.follows;
      }

-- The same of the head that the code was answered: what was read, that its body lies in the file, and that it follows its kind's rule.
module _ (o : Order) (bs : List ℕ) (place : ℕ) (h : Head) (e : head_in (Ok h) ≡ step_of (record_found o bs place)) where
  pub head-found : Found o bs place (kind_word h.kind) h.length
  head-found = good-found o bs place (kind_word h.kind) h.length e

  pub found-is : record_found o bs place ≡ ok (record { word = kind_word h.kind; body = body_at bs place h.length })
  found-is = head-found.found

  pub found-fits : place + 8 + h.length ≤ length bs
  found-fits = head-found.fits

  pub found-ends : place + 8 + length (body_at bs place h.length) ≤ file_limit
  found-ends = rw head-found.size (omega (arith, head-found.fits, head-found.within))

  pub found-follows : record_rule o (kind_word h.kind) (body_at bs place h.length) ≡ 0
  found-follows = head-found.follows

-- A refused step is the call's refusal.
pub found-refused : (o : Order) (bs : List ℕ) (place : ℕ) (r : Refusal) → head_in (Err r) ≡ step_of (record_found o bs place)
    → record_found o bs place ≡ bad (fault_number r.fault) r.place
found-refused o bs place r e = step_bad (record_found o bs place) _ _ e

-- These laws, for the search: the ways through record_found, and what a caller of it knows.
pub ruleset ways = (over, past, inside)

pub ruleset founds = (found-is, found-fits, found-ends, found-follows, found-refused)
