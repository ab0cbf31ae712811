-- What stands in the output after a writer, a closing or Rewrite, and what the reading calls make of it: the statements that the theorems about
-- writing promise, each part with a name, so that a caller can take the one it needs.
use Rattle.std.specs.Prelude.{ℕ, ◌+◌, ◌-◌, ◌≤◌, ◌<◌, ◌≡◌, List, length, take, drop}
use Rattle.theory.specs.declared.Order.{Order}
use Rattle.theory.specs.Tests.{Res, ok, bad}
use Rattle.note.specs.Limits.{file_limit}
use Rattle.note.specs.Kinds.{Kind}
use Rattle.note.specs.History.{Section}
use Rattle.note.specs.Records.{Record, Context, read_records}
use Rattle.note.specs.Events.{Container, container_bytes}
use Rattle.note.specs.Files.{File, read_file}
use Rattle.note.specs.Writers.{Draft, wrapped, contents_of}
use Rattle.demands.specs.Pieces.{times_from, masks_from}

-- FORMAT 9.1: the bytes stand from the place up to the next, before and behind them all is as it was.
pub record Laid (old new : List ℕ) (place next : ℕ) (bytes : List ℕ) : Type 0 where
  pub before : take place new ≡ take place old
  pub here : take (length bytes) (drop place new) ≡ bytes
  pub behind : drop next new ≡ drop next old
  pub ends : next ≡ place + length bytes
  pub size : length new ≡ length old

-- FORMAT 5.3: a history's section whose count stands at `from` has its lists where Record's answer says.
pub record SectionStands (bs : List ℕ) (from : ℕ) (s : Section) : Type 0 where
  pub times : take (length s.times) (drop (times_from from s) bs) ≡ s.times
  pub masks : take (length s.masks) (drop (masks_from from s) bs) ≡ s.masks

-- FORMAT 9.4: a container from the place to the end, its two words included, lies in an output of n bytes, within the limit.
abbrev pub HasRoom : ℕ → ℕ → ℕ → Type 0
HasRoom n place end = (place + 8 ≤ end) × (end ≤ n) × (n ≤ file_limit)

-- FORMAT 9.4: a closing that was granted: the contents, read in the context c, are these records or entries, and the next place is the end. From the
-- place up to the end then stands the container with that first word and those records or entries, and there it is read; the contents are as
-- they were.
pub record Closed (o : Order) (read : ℕ → List ℕ → Res Container) (c : Context)
    (old new : List ℕ) (place end next word : ℕ) : Type 0 where
  pub records : List Record
  pub contents : read_records o c (place + 8) (contents_of old place end) ≡ ok records
  pub ends : next ≡ end
  pub reads : read place (take (end - place) (drop place new)) ≡ ok (record { word = word; body = records })
  pub stands : Laid old new place end (container_bytes o (record { word = word; body = records }))
  pub contents_stay : drop (place + 8) new ≡ drop (place + 8) old

-- FORMAT 9.5: Rewrite's refusals: the output over the limit, 1 at place 0; the file's own refusal, 1 where it is over the limit; too little room for
-- the file, 13 at place 0.
pub data RewriteRefused (bs out : List ℕ) (c p : ℕ) : Type 0 where
  output_over : file_limit < length out → c ≡ 1 → p ≡ 0 → RewriteRefused bs out c p
  file-refused : length out ≤ file_limit → read_file bs ≡ bad c p → RewriteRefused bs out c p
  no_room : (f : File) → length out ≤ file_limit → read_file bs ≡ ok f → length out < length bs
      → c ≡ 13 → p ≡ 0 → RewriteRefused bs out c p

-- FORMAT 9.5: when Rewrite writes: both buffers within the limit, the file accepted, room for all of it; the next place is then its length.
pub record RewriteGranted (bs out : List ℕ) (next : ℕ) : Type 0 where
  pub file : File
  pub read : read_file bs ≡ ok file
  pub room : length bs ≤ length out
  pub limit : length out ≤ file_limit
  pub is : next ≡ length bs

-- FORMAT 9.5, a second time: the fields of the body b of kind k, written as w, have no fault, and the bytes are the record.
pub record Again (o : Order) (k : Kind) (b : List ℕ) (w : Draft) : Type 0 where
  pub fine : w.fault ≡ 0
  pub same : w.bytes ≡ wrapped o k b
