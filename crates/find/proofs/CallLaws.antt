-- Find's answer in its two cases: a file that check refuses, and one whose events are searched.
-- The idea: the part behind the configuration is read as the file's events, so its traces are the file's.
use mathlib.Core.Path.{◌≡◌, refl, ap, ◌∙◌}
use mathlib.Core.List.{List}
use Prim.Native.Nat.{ℕ, ◌+◌, ◌≤◌}
use native.Mathlib.Omega.{arith}
use lib.ListN.{length}
use Rattle.theory.specs.declared.Order.{Order}
use Rattle.theory.specs.Tests.{ok, bad}
use Rattle.note.specs.Limits.{file_limit}
use Rattle.note.specs.Words.{word}
use Rattle.std.proofs.Common.{Option, Some, None, Ok}
use Rattle.note.specs.Answers.{Given, accepted, counts, place_values, given_find}
use Rattle.note.specs.Answers as Answers
use Rattle.note.specs.Records.{records_bytes}
use Rattle.note.specs.Events.{container_size, read_events}
use Rattle.note.specs.Files.{configuration_of, events_of, read_file}
use Rattle.note.specs.Calls.{traces_from, traces_of, first_match, find_at}
use Rattle.containers.specs.Counts.{rows_of_file, file_rows}
use Rattle.containers.proofs.RecordLoop.{behind_of, length-behind}
use Rattle.containers.proofs.ContainerLaws.{count-bad}
use Rattle.containers.proofs.FileParts.{CheckedIn, length-is, room, events-read}
use Rattle.find.specs.Search.{places, Searchable, traces_read}

pub refused : (bs : List ℕ) (number code c p : ℕ) → bad c p ≡ file_rows (read_file bs) → Answers.refused c p ≡ find_at bs number code
unfolding find_at
refused bs number code c p e = rw (count-bad rows_of_file e)

placed : (r : Option ℕ) → place_values r ≡ counts (places r)
placed (Some place) = refl
placed None = refl

module _ {o : Order} {bs : List ℕ} (f : CheckedIn o bs) where
  size : (16 + length (records_bytes o (configuration_of (o, f.parts)).body) ≤ length bs) × (length bs ≤ file_limit)
  size = room bs (o, f.parts) f.bytes f.reads

  pub word_fits : 12 + 4 ≤ length bs
  word_fits = omega (arith, size)

  -- Its configuration's length word is m.
  module _ (m : ℕ) (em : m ≡ word o 12 bs) where
    begins : 16 + m ≡ 8 + container_size o (configuration_of (o, f.parts))
    begins = omega (arith, em, length-is bs (o, f.parts) f.bytes f.reads)

    pub events_fit : 16 + m ≤ length bs
    events_fit = omega (arith, begins, size)

    events : read_events o (16 + m) (behind_of (16 + m) bs) ≡ ok (events_of (o, f.parts))
    events = events-read bs (o, f.parts) f.bytes f.reads (16 + m) (ap (λ (x : ℕ). 16 + x) em)

    pub searchable : Searchable o (16 + m) (behind_of (16 + m) bs)
    searchable = record {
      events = events_of (o, f.parts);
      reads = events;
      within = omega (arith, length-behind (16 + m) bs, events_fit, size);
    }

    -- What the search of its events answers is find's answer.
    pub searched : (number code : ℕ) (r : Option ℕ)
        → places r ≡ first_match number code (traces_read o (16 + m) (read_events o (16 + m) (behind_of (16 + m) bs)))
        → given_find (Ok r) ≡ find_at bs number code
    unfolding given_find find_at traces_of traces_read
    searched number code r e =
        let from-there : ℕ → Given = λ p. accepted (counts (first_match number code (traces_from o p (events_of (o, f.parts))))) in
        ap accepted (placed r ∙ ap counts e) ∙ rw (events, f.reads) (ap from-there begins)
