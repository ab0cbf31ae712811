-- A file that keeps every rule, as a tree: what 'follows the format' means. It is said of a tree and without a reader, so that a theorem can hold the
-- reader against it: nothing here is so because a reader says it, and a tree can be valid before it has bytes.
use Rattle.std.specs.Prelude.{◌≤◌, ◌≡◌, true, List, [], ◌∷◌, length}
use Rattle.theory.specs.declared.Order.{Order}
use Rattle.theory.specs.declared.Order.TheVariants.{Little}
use Rattle.theory.specs.Words.{Bytes, Fits}
use Rattle.note.specs.Limits.{file_limit}
use Rattle.note.specs.Records.{Record, Context, entry, event, unseen, is_kind, is_allowed, behind, record_rule, records_bytes}
use Rattle.note.specs.Events.{Container, event_word_rule}
use Rattle.note.specs.Files.{File, order_in, version_of, configuration_of, events_of, configuration_word, version_rule, file_bytes}

-- FORMAT 6.1: a record: of a kind that is allowed here, placed as an event asks, its body bytes that its kind's rule admits, its two words words.
pub record ValidRecord (o : Order) (c : Context) (r : Record) : Type 0 where
  pub kind_allowed : is_kind c r.word ≡ true
  pub place_allowed : is_allowed c r.word ≡ true
  pub kind_fits : Fits 4 r.word
  pub length-fits : Fits 4 (length r.body)
  pub body_bytes : Bytes r.body
  pub body-rule : record_rule o r.word r.body ≡ 0

-- FORMAT 6.2: records one after the other, each with those before it in mind.
abbrev pub ValidRecords : Order → Context → List Record → Type 0
ValidRecords o c [] = Unit {0}
ValidRecords o c (r ∷ rs) = ValidRecord o c r × ValidRecords o (behind c r.word) rs

-- FORMAT 6.2: an event: its first word as admitted, not empty, its records valid.
pub record ValidEvent (o : Order) (e : Container) : Type 0 where
  pub word-rule : event_word_rule e.word ≡ 0
  pub word_fits : Fits 4 e.word
  pub not_empty : 1 ≤ length (records_bytes o e.body)
  pub length-fits : Fits 4 (length (records_bytes o e.body))
  pub records-valid : ValidRecords o (event unseen) e.body

abbrev pub ValidEvents : Order → List Container → Type 0
ValidEvents o [] = Unit {0}
ValidEvents o (e ∷ es) = ValidEvent o e × ValidEvents o es

-- FORMAT 6.5: a file: little-endian; format 2.0; one configuration of valid entries; valid events; at most 16,777,216 bytes.
pub record Valid (f : File) : Type 0 where
  pub byte-order : order_in f ≡ Little
  pub version-rule : version_rule (version_of f) ≡ 0
  pub version-fits : Fits 4 (version_of f)
  pub configuration-word : (configuration_of f).word ≡ configuration_word
  pub configuration-fits : Fits 4 (length (records_bytes (order_in f) (configuration_of f).body))
  pub entries-valid : ValidRecords (order_in f) entry (configuration_of f).body
  pub events-valid : ValidEvents (order_in f) (events_of f)
  pub within-limit : length (file_bytes f) ≤ file_limit
