-- Where the parts of a file that was checked lie: its entries and its events, as code cuts them out, are read as the file's own.
-- The idea: an accepted file is its tree's bytes, so what lies behind its header, and behind the configuration's two words, is what its parts write.
use mathlib.Core.Path.{◌≡◌, refl, sym, ap, ap₂, ◌∙◌}
use mathlib.Core.List.{List, ◌++◌, append_assoc}
use Prim.Native.Nat.{ℕ, ◌+◌, ◌≤◌}
use native.Mathlib.Omega.{arith}
use lib.ListN.{length, take, drop}
use lib.Seq.{take_at, drop_at, drop-drop}
use Rattle.theory.specs.declared.Order.{Order}
use Rattle.theory.specs.Words.{Bytes, put}
use Rattle.theory.specs.Tests.{ok}
use Rattle.theory.proofs.WordLaws.{word_of_drop}
use Rattle.theory.proofs.StructureLaws.{second_word, drop-two}
use Rattle.note.specs.Limits.{file_limit}
use Rattle.note.specs.Words.{word}
use Rattle.note.specs.Records.{entry, records_bytes, read_records}
use Rattle.note.specs.Events.{Container, container_bytes, events_bytes, read_events}
use Rattle.note.specs.Files.{Parts, File, order_in, order_of, version_of, configuration_of, events_of, file_mark, header_bytes, file_bytes, read_file}
use Rattle.demands.specs.Valid.{Valid}
use Rattle.demands.proofs.Bundles.{records, events, header_item, same-records, same-events, records-ok, events-ok}
use Rattle.demands.proofs.Follows.{file_sound, in_its_order}
use Rattle.demands.proofs.OutputLaws.{structure_apart}
use Rattle.demands.proofs.RowLaws.{file-length}
use Rattle.containers.specs.Counts.{rows_of_file, file_rows}
use Rattle.containers.proofs.RecordLoop.{behind_of, left}
use Rattle.containers.proofs.ContainerLaws.{count-good}

-- A file of bytes that check accepted.
pub record Checked (bs : List ℕ) : Type 0 where
  pub bytes : Bytes bs
  pub file : File
  pub reads : read_file bs ≡ ok file

pub checked : {bs : List ℕ} → Bytes bs → {n : ℕ} → ok n ≡ file_rows (read_file bs) → Checked bs
checked h e = let (f, r, s) = count-good rows_of_file e in record { bytes = h; file = f; reads = r }

-- The same file, with the order that was asked of its bytes.
pub record CheckedIn (o : Order) (bs : List ℕ) : Type 0 where
  pub bytes : Bytes bs
  pub parts : Parts
  pub reads : read_file bs ≡ ok (o, parts)

pub checked_in : {bs : List ℕ} → Checked bs → {o : Order} → o ≡ order_of bs → CheckedIn o bs
checked_in {bs} k e = record {
  bytes = k.bytes;
  parts = k.file.1;
  reads = k.reads ∙ ap ok (in_its_order bs k.file k.reads) ∙ ap (λ (q : Order). ok (q, k.file.1)) (sym e);
}

module _ (bs : List ℕ) (f : File) (h : Bytes bs) (e : read_file bs ≡ ok f) where
  -- The order of its words.
  abbrev o : Order
  o = order_in f

  abbrev conf : Container
  conf = configuration_of f

  abbrev es : List Container
  es = events_of f

  abbrev n : ℕ
  n = length (records_bytes o conf.body)

  sound : (bs ≡ file_bytes f) × Valid f
  sound = file_sound bs f h e

  header-size : length (header_bytes o (version_of f)) ≡ 8
  header-size = sym ((header_item o).sizes (version_of f))

  pub behind-header : drop 8 bs ≡ container_bytes o conf ++ events_bytes o es
  behind-header = ap (drop 8) sound.0 ∙ drop_at (header_bytes o (version_of f)) (container_bytes o conf ++ events_bytes o es) 8 header-size

  pub version-is : word o 4 bs ≡ version_of f
  version-is =
      ap (word o 4) (sound.0 ∙ append_assoc (put o 4 file_mark) (put o 4 (version_of f)) (container_bytes o conf ++ events_bytes o es))
      ∙ second_word o file_mark (version_of f) (container_bytes o conf ++ events_bytes o es) sound.1.version-fits

  -- The configuration's length word, and the room that it leaves.
  pub length-is : word o 12 bs ≡ n
  length-is =
      sym (word_of_drop o 4 4 8 bs)
      ∙ ap (word o 4) (behind-header ∙ structure_apart o (records_bytes o) conf (events_bytes o es))
      ∙ second_word o conf.word n (records_bytes o conf.body ++ events_bytes o es) sound.1.configuration-fits

  pub room : (16 + n ≤ length bs) × (length bs ≤ file_limit)
  room =
      let size : length bs ≡ length (file_bytes f) = ap length sound.0 in
      (omega (arith, size, file-length f), omega (arith, size, sound.1.within-limit))

  behind-words : drop 16 bs ≡ records_bytes o conf.body ++ events_bytes o es
  behind-words =
      sym (drop-drop 8 8 bs) ∙ ap (drop 8) (behind-header ∙ structure_apart o (records_bytes o) conf (events_bytes o es))
      ∙ drop-two o conf.word n (records_bytes o conf.body ++ events_bytes o es)

  -- The entries.
  pub entries-part : (m : ℕ) → m ≡ word o 12 bs → take m (drop 16 bs) ≡ records_bytes o conf.body
  entries-part m em = ap₂ take (em ∙ length-is) behind-words ∙ take_at (records_bytes o conf.body) (events_bytes o es) n refl

  pub entries-read : (m : ℕ) → m ≡ word o 12 bs → read_records o entry 16 (take m (drop 16 bs)) ≡ ok conf.body
  entries-read m em =
      ap (read_records o entry 16) (entries-part m em) ∙ same-records o entry 16 (records_bytes o conf.body)
      ∙ (records o).complete entry 16 conf.body (records-ok o entry conf.body sound.1.entries-valid)

  -- The events, from the place q on.
  events-part : (q : ℕ) → q ≡ 16 + word o 12 bs → behind_of q bs ≡ events_bytes o es
  events-part q eq =
      let k : q ≡ 16 + n = omega (arith, eq, length-is) in
      sym (left q bs) ∙ ap (λ (x : ℕ). drop x bs) k ∙ sym (drop-drop n 16 bs) ∙ ap (drop n) behind-words
      ∙ drop_at (records_bytes o conf.body) (events_bytes o es) n refl

  pub events-read : (q : ℕ) → q ≡ 16 + word o 12 bs → read_events o q (behind_of q bs) ≡ ok es
  events-read q eq =
      ap (read_events o q) (events-part q eq) ∙ same-events o tt q (events_bytes o es)
      ∙ (events o).complete tt q es (events-ok o es sound.1.events-valid)
