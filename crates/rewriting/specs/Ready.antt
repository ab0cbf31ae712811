-- What writing again asks of a part of a file, of a whole file and of the output, and what it leaves. A configuration and an event are copied by
-- one loop, so here both are containers, of which only the first may be a configuration.
use Rattle.std.specs.Prelude.{ℕ, ◌+◌, ◌≤◌, ◌≡◌, Bool, true, false, List, length}
use Rattle.theory.specs.declared.Order.{Order}
use Rattle.theory.specs.Tests.{Res, ok}
use Rattle.theory.specs.Structures.{read_structure, read_sequence}
use Rattle.note.specs.Limits.{file_limit}
use Rattle.note.specs.Faults.{too_short}
use Rattle.note.specs.Records.{Context, entry, event, unseen, read_records}
use Rattle.note.specs.Events.{Container, container_size, event_word_rule, event_late}
use Rattle.note.specs.Files.{configuration_rule, configuration_late, Parts, read_file}
use Rattle.demands.specs.Outputs.{Laid}

-- FORMAT 6.5: behind its header a file is containers: the configuration, and then events. The Bool says whether the configuration is still to come;
-- that there is one is asked by `read_file`, not here.
abbrev pub container_head : Bool → ℕ → ℕ
container_head true w = configuration_rule w
container_head false w = event_word_rule w

abbrev pub container_late : Bool → ℕ → ℕ → ℕ
container_late true w n = configuration_late w n
container_late false w n = event_late w n

abbrev pub contents_in : Bool → Context
contents_in true = entry
contents_in false = event unseen

unfoldable pub read_container : Order → Bool → ℕ → List ℕ → Res Container
read_container o first at bs =
    read_structure o too_short (container_head first) (container_late first) (λ w at bs. read_records o (contents_in first) (at + 8) bs) at bs

-- Behind any container come events alone.
unfoldable pub read_containers : Order → Bool → ℕ → List ℕ → Res (List Container)
read_containers o first at bs = read_sequence (λ s c. false) (container_size o) (read_container o) (length bs) first at bs

-- The word may begin a container: it is a configuration's, or an event's without a fault.
abbrev pub Begins : ℕ → Type 0
Begins w = (first : Bool) × (container_head first w ≡ 0)

-- FORMAT 9.5: the part is read where it stands, and an output of n bytes, within the limit, has room for it there.
pub record Ready {A : Type 0} (read : ℕ → List ℕ → Res A) (place : ℕ) (part : List ℕ) (n : ℕ) : Type 0 where
  pub is : A
  pub reads : read place part ≡ ok is
  pub room : place + length part ≤ n
  pub limit : n ≤ file_limit

-- Records or entries, in whatever context; containers, with the configuration or without; an accepted file of that order.
abbrev pub RecordsReady : Order → ℕ → List ℕ → ℕ → Type 0
RecordsReady o place part n = (c : Context) × Ready (read_records o c) place part n

abbrev pub ContainersReady : Order → ℕ → List ℕ → ℕ → Type 0
ContainersReady o place part n = (first : Bool) × Ready (read_containers o first) place part n

pub record FileReady (o : Order) (file : List ℕ) (n : ℕ) : Type 0 where
  pub parts : Parts
  pub reads : read_file file ≡ ok (o, parts)
  pub room : 0 + length file ≤ n
  pub limit : n ≤ file_limit

-- The part's bytes stand in the output from the place on; all else is as it was.
abbrev pub Stands : List ℕ → List ℕ → ℕ → List ℕ → Type 0
Stands part old place new = Laid old new place (place + length part) part
