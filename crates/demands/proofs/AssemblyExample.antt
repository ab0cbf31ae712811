-- The example P14 assembled: its pieces, written into an output of 96 bytes, are its 88 bytes, and the last eight bytes stay.
-- The idea: the calls compute.
use mathlib.Core.Path.{◌≡◌, refl}
use mathlib.Core.List.{[], ◌∷◌, ◌++◌}
use native.Mathlib.Omega.{arith}
use lib.ListN.{replicate}
use Rattle.theory.specs.declared.Order.TheVariants.{Little}
use Rattle.theory.specs.Tests.{ok}
use Rattle.note.specs.Examples.{p14}
use Rattle.note.proofs.Computing.{computing}
use Rattle.demands.specs.Pieces.{administrative, tlb, draft_of, PieceFits}
use Rattle.demands.specs.Assembly.{FilePieces, FileFits}
use Rattle.demands.specs.Assembly.{records_assembled, container_assembled, events_assembled, file_assembled}

abbrev pieces : FilePieces
pieces = record {
  major = 1;
  minor = 0;
  entries = [];
  events = record {
    class = 0;
    category = 0;
    type = 0;
    records = administrative (record { date = 1100115; clock = 1630; number = 7; time = 1263573000; since = 0; live = 0 })
        ∷ tlb (record { tower1 = 0x01000004; tower2 = 0x02000000; tower3 = 0x03000000; tower4 = 0x04000000; tower5 = 0x05000000; tower6 = 0 })
        ∷ [];
  } ∷ [];
}

pub example_assembled : file_assembled Little (replicate 96 255) pieces ≡ ok (record { next = 88; out = p14 ++ replicate 8 255 })
unfolding computing draft_of records_assembled container_assembled events_assembled file_assembled
example_assembled = refl

-- Its pieces fit, as every law of an assembly asks; that they are without fault and stand where they may,
-- `granted_exactly` says then.
pub example_fits : FileFits pieces
unfolding PieceFits
example_fits = record { major = omega arith; minor = omega arith; entries = tt; events = (omega arith, tt) }
