-- `stores::put_structure` meets its contract: kind and length, the words and the bytes are stored in a row.
-- The idea: stores in a row are one store of the structure.
use Rattle.std.proofs.Common.{refl}
use Rattle.stores.proofs.StructureLaws.{structured-stored}
use Rattle.stores.proofs.put_structure.Goals as goal

pub returns : goal.returns
returns c =
    let a = c.args in
    rw (c.put_part.ensures, c.put_words-2.ensures, c.put_words.ensures)
    (structured-stored _ _ a.ws.now a.bytes.now a.part.now _ refl)
