-- `stores::put_part` meets its contract: what was copied into the lent part is stored.
use Rattle.std.proofs.Common.{refl}
use Rattle.stores.proofs.StoreLaws.{copied}
use Rattle.stores.proofs.put_part.Goals as goal

pub returns : goal.returns
returns c = copied _ _ _ _ _ c.copy_from_slice.ensures.after refl c.requires
