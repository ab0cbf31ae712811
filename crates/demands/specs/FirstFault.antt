-- What a refusal of a file says: where its place is, a structure begins that is at fault, and all bytes before it are as the note says. One case for
-- each structure that can be at fault, since each has something else before it; only that one structure is read.
use Rattle.std.specs.Prelude.{ℕ, ◌≤◌, ◌≡◌, List, [], ◌∷◌, ◌++◌, length}
use Rattle.theory.specs.declared.Order.{Order}
use Rattle.theory.specs.Words.{put, Fits}
use Rattle.theory.specs.Tests.{Res, bad}
use Rattle.theory.specs.Structures.{read_structure}
use Rattle.note.specs.Faults.{too_short}
use Rattle.note.specs.Records.{Record, Context, entry, event, unseen, behind, records_bytes, read_record}
use Rattle.note.specs.Events.{event_word_rule, event_late}
use Rattle.note.specs.Files.{File, order_in, order_of, configuration_word, configuration_rule, configuration_late}
use Rattle.note.specs.Files.{header_bytes, version_rule, read_header, file_bytes}
use Rattle.demands.specs.Valid.{ValidRecords, Valid}

-- FORMAT 2.2: bs is what comes before, the part that the structure at fault may fill, and what lies beyond its parent; the place is the part's
-- first byte.
pub record Cut (bs before part beyond : List ℕ) (p : ℕ) : Type 0 where
  pub splits : bs ≡ before ++ (part ++ beyond)
  pub place : p ≡ length before

-- FORMAT 6.4: the version word is one that the note admits.
pub record ValidHeader (v : ℕ) : Type 0 where
  pub rule : version_rule v ≡ 0
  pub fits : Fits 4 v

-- FORMAT 2.3: a container's first eight bytes.
abbrev pub front : Order → ℕ → ℕ → List ℕ
front o w n = put o 4 w ++ put o 4 n

-- FORMAT 6.1: the context after some records.
abbrev pub past : Context → List Record → Context
past c [] = c
past c (r ∷ rs) = past (behind c r.word) rs

-- FORMAT 2.2: a container is at fault itself: whatever its contents, it is refused so at its first byte.
abbrev pub Itself : Order → (ℕ → ℕ) → (ℕ → ℕ → ℕ) → List ℕ → ℕ → ℕ → Type 0
Itself o head late part c p = (contents : ℕ → ℕ → List ℕ → Res (List Record))
    → read_structure o too_short head late contents p part ≡ bad c p

-- FORMAT 2.2, 6.5: the structure at fault is the header; behind a valid header the configuration itself or, valid entries before it, one of its
-- entries; behind what would be a valid file an event itself or, valid records before it, one of its records. A file may end where its header or
-- its configuration should begin; an entry, an event or a record is at fault only where bytes are left for it. Words are in the file's order.
pub data FirstFault (bs : List ℕ) (c p : ℕ) : Type 0 where
  at-header : Cut bs [] bs [] p → read_header (order_of bs) p bs ≡ bad c p → FirstFault bs c p
  at-configuration : (v : ℕ) (part : List ℕ) → ValidHeader v
      → Cut bs (header_bytes (order_of bs) v) part [] p → Itself (order_of bs) configuration_rule configuration_late part c p → FirstFault bs c p
  at_entry : (v : ℕ) (entries : List Record) (part beyond : List ℕ) → ValidHeader v → ValidRecords (order_of bs) entry entries → 1 ≤ length part
      → Cut bs (
      header_bytes (order_of bs) v
      ++ (front (order_of bs) configuration_word (length (records_bytes (order_of bs) entries ++ part)) ++ records_bytes (order_of bs) entries)
      ) part beyond p
      → read_record (order_of bs) (past entry entries) p part ≡ bad c p → FirstFault bs c p
  at-event : (f : File) (part : List ℕ) → Valid f → 1 ≤ length part
      → Cut bs (file_bytes f) part [] p → Itself (order_in f) event_word_rule event_late part c p → FirstFault bs c p
  at_record : (f : File) (w : ℕ) (rs : List Record) (part beyond : List ℕ)
      → Valid f → event_word_rule w ≡ 0 → ValidRecords (order_in f) (event unseen) rs → 1 ≤ length part
      → Cut bs (
      file_bytes f ++ (front (order_in f) w (length (records_bytes (order_in f) rs ++ part)) ++ records_bytes (order_in f) rs)
      ) part beyond p
      → read_record (order_in f) (past (event unseen) rs) p part ≡ bad c p → FirstFault bs c p
