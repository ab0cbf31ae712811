-- What a closing's answer tells that stood before its contents were asked: nothing stood against it.
use Prim.Native.Nat.{ℕ, ◌+◌, ◌-◌}
use mathlib.Core.Path.{◌≡◌}
use lib.Dec.{leb}
use Rattle.theory.specs.Tests.{ok, unless}
use Rattle.theory.proofs.TestLaws.{need-ok, ok_inj}
use Rattle.demands.specs.Outputs.{HasRoom}
use Rattle.demands.proofs.ClosingLaws.{within-ok}
use Rattle.closings.specs.Closing.{bounded}

module _ (n place end fault least : ℕ) where
  -- What is known where nothing stood against the closing.
  pub record Bounds (next : ℕ) : Type 0 where
    pub room : HasRoom n place end
    pub clean : fault ≡ 0
    pub is : end ≡ next

  pub bounds : (next : ℕ) → bounded n place end fault least ≡ ok next → Bounds next
  unfolding bounded
  bounds next e =
      let (room, e1) = within-ok n place end _ next e in
      let (f, e2) = need-ok fault place _ e1 in
      let (m, e3) = need-ok (unless (leb least (end - (place + 8))) 9) place _ e2 in
      record { room = room; clean = f; is = ok_inj e3 }
