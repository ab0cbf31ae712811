-- The bytes that the machine gives are those of the word, in the order that the file has.
use Rattle.std.proofs.Common.{append-nil}
use Rattle.theory.specs.Words.{put, puts}
use Rattle.stores.proofs.StoreLaws.{low_first}
use Rattle.stores.proofs.word_bytes.Goals as goal

pub returns-in-Little : goal.returns-in-Little
unfolding put puts
returns-in-Little c = rw (c.in-Little.is, append-nil, ← low_first) c.to_le_bytes.ensures

pub returns-in-Big : goal.returns-in-Big
unfolding put puts
returns-in-Big c = rw (c.in-Big.is, append-nil, ← low_first) c.to_be_bytes.ensures
