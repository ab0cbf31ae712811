-- What tells that a kind's own bytes were written, where no bytes stand behind its words.
use Rattle.stores.proofs.WriterLaws.{bytes_unasked}
use Rattle.stores.proofs.StructureLaws.{structured_bare}

pub ruleset bare = (bytes_unasked, structured_bare)
