-- `writers::words_of` meets its contract: each field became its word.
-- The idea: the array's map was called at each of them.
use Prim.Native.Nat.{ℕ, ◌<◌}
use mathlib.Core.Path.{◌≡◌}
use native.Mathlib.Omega.{arith}
use lib.IntN.{pos}
use lib.ListN.{length}
use borrow.Author.Rules.{rules}
use Rattle.std.proofs.Common.{slice_index_or}
use Rattle.note.specs.Words.{unsigned}
use Rattle.writers.proofs.SignedLaws.{image}
use Rattle.writers.proofs.words_of.Goals as goal

pub returns : goal.returns
returns g c =
    let n : length c.args.fields ≡ g.row.N = search rules in
    let each : (i : ℕ) → i < g.row.N → slice_index_or c.map.result i 0 ≡ unsigned (slice_index_or c.args.fields i (pos 0)) =
    λ i l. let (p, q, called) = c.map.ensures.items.at i (pos 0) 0 l in search rules in
    image unsigned c.args.fields c.map.result (omega (arith, c.map.ensures.items.long, n)) (λ i l. each i (omega (arith, n)))
