-- What a file's structures are in bytes: their words, and what stands behind them, written out.
-- The idea: each computes.
use Prim.Native.Nat.{ℕ}
use mathlib.Core.Path.{◌≡◌, refl}
use mathlib.Core.List.{List, [], ◌∷◌, ◌++◌, append_assoc, append-nil}
use lib.ListN.{length}
use Rattle.theory.specs.declared.Order.{Order}
use Rattle.theory.specs.Words.{puts}
use Rattle.note.specs.Words.{words}
use Rattle.note.specs.Records.{Record, record_bytes, records_bytes}
use Rattle.note.specs.Events.{Container, container_bytes, events_bytes}
use Rattle.note.specs.Files.{File, order_in, version_of, configuration_of, events_of, header_bytes, file_bytes}

-- A record or entry: kind word, length of the body, body. A container: first word, length of its contents, contents.
pub record_bytes_lem : (o : Order) (r : Record) → record_bytes o r ≡ words o (r.word ∷ length r.body ∷ []) ++ r.body
unfolding puts
record_bytes_lem o r = simp (append_assoc, append-nil)

pub container_bytes_lem : (o : Order) (c : Container)
    → container_bytes o c ≡ words o (c.word ∷ length (records_bytes o c.body) ∷ []) ++ records_bytes o c.body
unfolding puts
container_bytes_lem o c = simp (append_assoc, append-nil)

-- Records, and events, stand back to back.
pub back_to_back : (o : Order) (r : Record) (rs : List Record) (e : Container) (es : List Container)
    → (records_bytes o [] ≡ []) × (records_bytes o (r ∷ rs) ≡ record_bytes o r ++ records_bytes o rs)
    × (events_bytes o [] ≡ []) × (events_bytes o (e ∷ es) ≡ container_bytes o e ++ events_bytes o es)
back_to_back o r rs e es = (refl, refl, refl, refl)

-- A file: two words, the configuration, the events.
pub file-bytes : (f : File)
    → file_bytes f
    ≡ words (order_in f) (0x01020304 ∷ version_of f ∷ [])
    ++ (container_bytes (order_in f) (configuration_of f) ++ events_bytes (order_in f) (events_of f))
unfolding puts
file-bytes f = simp append-nil

pub header-bytes : (o : Order) (v : ℕ) → header_bytes o v ≡ words o (0x01020304 ∷ v ∷ [])
unfolding puts
header-bytes o v = simp append-nil
