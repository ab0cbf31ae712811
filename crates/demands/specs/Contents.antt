-- What a container's contents are read as, said without the loop that reads them: records back to back, or the first of them that is at fault.
-- All that is kept in mind is the context behind the records before the fault.
use Rattle.std.specs.Prelude.{ℕ, ◌+◌, ◌≤◌, ◌≡◌, List, ◌++◌, length}
use Rattle.theory.specs.declared.Order.{Order}
use Rattle.theory.specs.Tests.{bad}
use Rattle.note.specs.Records.{Record, Context, records_bytes, read_record}
use Rattle.demands.specs.Valid.{ValidRecords}
use Rattle.demands.specs.FirstFault.{past}

-- FORMAT 2.2, 6.1: contents whose first byte stands at the place `at` are refused with n at p: behind valid records there are bytes left, and what
-- is read of them, in the context behind those records, is refused so.
pub record ContentsFault (o : Order) (c : Context) (at : ℕ) (bs : List ℕ) (n p : ℕ) : Type 0 where
  pub before : List Record
  pub part : List ℕ
  pub valid : ValidRecords o c before
  pub left : 1 ≤ length part
  pub splits : bs ≡ records_bytes o before ++ part
  pub place : p ≡ at + length (records_bytes o before)
  pub fault : read_record o (past c before) p part ≡ bad n p
