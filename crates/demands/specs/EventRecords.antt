-- The records of an event and the entries of a configuration, valid by their kinds and each by itself: no reader, and nothing that one keeps in
-- mind from record to record. Valid says the same with what came before in mind; both are one (proofs/EventRecordLaws.antt).
use Rattle.std.specs.Prelude.{ℕ, List, [], ◌∷◌, map}
use Rattle.theory.specs.declared.Order.{Order}
use Rattle.note.specs.Records.{Record, alone}
use Rattle.note.specs.EventKinds.{IsEntryKind, IsRecordKind, EventKinds}
use Rattle.demands.specs.Valid.{ValidRecord}

-- Their kind words.
abbrev pub kinds_of : List Record → List ℕ
kinds_of rs = map (λ (r : Record). r.word) rs

-- Each is valid by itself, as Record reads it, and is of such a kind.
abbrev pub EachValid : Order → (ℕ → Type 0) → List Record → Type 0
EachValid o Kind [] = Unit {0}
EachValid o Kind (r ∷ rs) = (Kind r.word × ValidRecord o alone r) × EachValid o Kind rs

-- FORMAT 6.2: an event: records; the first administrative, each kind but trace at most once.
pub record EventRecords (o : Order) (rs : List Record) : Type 0 where
  pub kinds : EventKinds (kinds_of rs)
  pub each : EachValid o IsRecordKind rs

-- FORMAT 6.3: a configuration: entries, in any order and number.
abbrev pub ConfigurationEntries : Order → List Record → Type 0
ConfigurationEntries o rs = EachValid o IsEntryKind rs
