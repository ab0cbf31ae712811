-- Of the numbers that are given back: the one for what is too short is a refusal, as the laws of structures ask; which number is which fault's.
-- The idea: of thirteen faults, each computes.
use Prim.Native.Nat.{ℕ, ◌<◌}
use mathlib.Core.Path.{◌≡◌, refl, sym, ap, ◌∙◌}
use mathlib.Core.Bool.{cond}
use lib.Dec.{eqb}
use native.Mathlib.Omega.{arith}
use Rattle.note.specs.Faults.{too_short, fault_number}
use Rattle.note.specs.declared.Fault.{Fault}

pub short-some : 0 < too_short
short-some = omega arith

-- Each fault has the number of its name, 1 to 13.
pub faults_told : (fault_number Fault.TooLarge ≡ 1) × (fault_number Fault.TooShort ≡ 2) × (fault_number Fault.NotAFile ≡ 3)
    × (fault_number Fault.WrongFormat ≡ 4) × (fault_number Fault.WrongKind ≡ 5) × (fault_number Fault.WrongLength ≡ 6)
    × (fault_number Fault.NotAdmitted ≡ 7) × (fault_number Fault.Monitoring ≡ 8) × (fault_number Fault.Misplaced ≡ 9)
    × (fault_number Fault.WrongField ≡ 10) × (fault_number Fault.WrongCount ≡ 11) × (fault_number Fault.FewRows ≡ 12)
    × (fault_number Fault.NoRoom ≡ 13)
faults_told = (refl, refl, refl, refl, refl, refl, refl, refl, refl, refl, refl, refl, refl)

-- The fault that has a number.
abbrev pub numbered_fault : ℕ → Fault
numbered_fault n =
    cond (eqb n 1) Fault.TooLarge
    (cond (eqb n 2) Fault.TooShort
    (cond (eqb n 3) Fault.NotAFile
    (cond (eqb n 4) Fault.WrongFormat
    (cond (eqb n 5) Fault.WrongKind
    (cond (eqb n 6) Fault.WrongLength
    (cond (eqb n 7) Fault.NotAdmitted
    (cond (eqb n 8) Fault.Monitoring
    (cond (eqb n 9) Fault.Misplaced
    (cond (eqb n 10) Fault.WrongField
    (cond (eqb n 11) Fault.WrongCount
    (cond (eqb n 12) Fault.FewRows
    Fault.NoRoom)))))))))))

pub fault_undone : (f : Fault) → numbered_fault (fault_number f) ≡ f
fault_undone Fault.TooLarge = refl
fault_undone Fault.TooShort = refl
fault_undone Fault.NotAFile = refl
fault_undone Fault.WrongFormat = refl
fault_undone Fault.WrongKind = refl
fault_undone Fault.WrongLength = refl
fault_undone Fault.NotAdmitted = refl
fault_undone Fault.Monitoring = refl
fault_undone Fault.Misplaced = refl
fault_undone Fault.WrongField = refl
fault_undone Fault.WrongCount = refl
fault_undone Fault.FewRows = refl
fault_undone Fault.NoRoom = refl

-- No two faults have one number.
pub faults_differ : (f g : Fault) → fault_number f ≡ fault_number g → f ≡ g
faults_differ f g e = sym (fault_undone f) ∙ ap numbered_fault e ∙ fault_undone g
