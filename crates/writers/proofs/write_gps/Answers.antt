-- `writers::write_gps` meets its contract: the words handed on are the fields' where these have no fault.
-- The idea: a status without a fault is its own lowest four bits; the rest computes.
use Prim.Native.Nat.{◌%◌}
use mathlib.Core.Path.{◌≡◌, refl, sym, ◌∙◌}
use native.Mathlib.Omega.{arith}
use borrow.Author.Tests.{leb-true}
use Rattle.theory.proofs.TestLaws.{holds_at}
use Rattle.note.specs.declared.Gps.{Gps}
use Rattle.note.specs.Gps.{gps_bytes, gps_fault}
use Rattle.note.specs.Writers.{gps_draft}
use Rattle.stores.proofs.WriterLaws.{bytes_unasked}
use Rattle.stores.proofs.StructureLaws.{structured_bare}
use Rattle.writers.proofs.write_gps.Goals as goal

-- A status without a fault is its own lowest four bits.
status_kept : (f : Gps) → gps_fault f ≡ 0 → f.status % 16 ≡ f.status
unfolding gps_fault
status_kept f fine = omega (arith, leb-true f.status 15 (holds_at _ fine 2 _ 9 refl))

pub returns : goal.returns
unfolding gps_draft gps_bytes
returns c =
    bytes_unasked _ c.gps_fault.ensures
    (λ z.
    let status = status_kept c.args.fields (sym c.gps_fault.ensures ∙ z) in
    rw (c.digits.ensures.0, c.digits-2.ensures.0, c.digits-tenths.ensures.0, c.gps_clock-clock.ensures, status) (structured_bare _ _ _))
    c.write_record.ensures
