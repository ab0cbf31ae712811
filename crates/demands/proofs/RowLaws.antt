-- The rows (FORMAT 7.3): they tile the file from its first byte to its last, each byte in one row, each child inside its one parent, which
-- stands before it, and there are no more rows than an eighth of the length.
-- The idea: a file's nodes have the sizes of its structures; the theory's laws of rows do the rest.
use mathlib.Core.Path.{◌≡◌, refl, sym, subst}
use mathlib.Core.Bool.{true, false}
use mathlib.Core.Logic.{◌↔◌, ◌⊎◌}
use mathlib.Core.List.{List, [], ◌∷◌, ◌++◌, map}
use Prim.Native.Nat.{ℕ, ◌+◌, ◌*◌, ◌%◌, ◌≤◌, ◌<◌}
use native.Mathlib.Omega.{arith}
use lib.ListN.{length, length-append}
use Rattle.theory.specs.declared.Order.{Order}
use Rattle.theory.specs.Words.{Bytes}
use Rattle.theory.specs.Tests.{ok}
use Rattle.theory.specs.Layout.{Row, Node, single, box, total, extents, child_rows, rows, row, Tiles, Owns, OneParent}
use Rattle.theory.proofs.StructureLaws.{length-structure}
use Rattle.theory.proofs.LayoutLaws.{GoodChildren, Good, row_tiles, few_rows_lem, owner, owner_one, one_parent, parent-before}
use Rattle.note.specs.Records.{Record, record_bytes, record_size, records_bytes, kind_of}
use Rattle.note.specs.Events.{Container, container_bytes, container_size, events_bytes}
use Rattle.note.specs.Files.{File, order_in, configuration_of, events_of, version_of, header_bytes, file_bytes, read_file}
use Rattle.note.specs.Rows.{child_of, children_of, event_node, nodes_of, rows_of, is_box}
use Rattle.note.proofs.BoolLaws.{either_tells, eq_tells}
use Rattle.note.proofs.KindCases.{kind_cases}
use Rattle.demands.proofs.Bundles.{header_item}
use Rattle.demands.proofs.Follows.{file_sound}

-- A container's row is the configuration's or an event's: it owns its first eight bytes, any other row all of its own.
pub boxes_exact : (k : ℕ) → (is_box k ≡ true) ↔ ((k ≡ 2) ⊎ (k ≡ 5))
boxes_exact k = either_tells (eq_tells k 2) (eq_tells k 5)

-- ---- sizes

pub record_size_lem : (o : Order) (r : Record) → length (record_bytes o r) ≡ record_size r
record_size_lem o r = length-structure o (λ (b : List ℕ). b) r

pub children_total : (o : Order) (rs : List Record) → total (children_of o rs) ≡ length (records_bytes o rs)
unfolding child_of
children_total o [] = refl
children_total o (r ∷ rs) =
    omega (arith, length-append (record_bytes o r) (records_bytes o rs), record_size_lem o r, children_total o rs)

pub container_size_lem : (o : Order) (c : Container) → length (container_bytes o c) ≡ container_size o c
container_size_lem o c = length-structure o (records_bytes o) c

pub events-extents : (o : Order) (es : List Container) → extents (map (event_node o) es) ≡ length (events_bytes o es)
events-extents o [] = refl
events-extents o (e ∷ es) =
    omega (arith, length-append (container_bytes o e) (events_bytes o es), container_size_lem o e, children_total o e.body, events-extents o es)

pub file-length : (f : File) → length (file_bytes f)
    ≡ 8 + (container_size (order_in f) (configuration_of f) + length (events_bytes (order_in f) (events_of f)))
file-length f =
    omega (
      arith,
      length-append (header_bytes (order_in f) (version_of f))
          (container_bytes (order_in f) (configuration_of f) ++ events_bytes (order_in f) (events_of f)),
      length-append (container_bytes (order_in f) (configuration_of f)) (events_bytes (order_in f) (events_of f)),
      (header_item (order_in f)).sizes (version_of f),
      container_size_lem (order_in f) (configuration_of f),
    )

nodes-extents : (f : File) → extents (nodes_of f) ≡ length (file_bytes f)
unfolding nodes_of
nodes-extents f = omega (arith, file-length f, children_total (order_in f) (configuration_of f).body, events-extents (order_in f) (events_of f))

-- ---- the parts of which a file's rows are made

-- A configuration's own row, and that of an event at the place `at`.
abbrev pub configuration_row : Order → Container → Row
configuration_row o c = record { kind = 2; start = 8; whole = 8 + total (children_of o c.body); parent = 0; one = length c.body; two = 0 }

abbrev pub event_row : Order → ℕ → Container → Row
event_row o at e =
    record { kind = 5; start = at; whole = 8 + total (children_of o e.body); parent = 0; one = e.word % 65536; two = length e.body }

-- Behind a container that has row number i and stands at the place `at`: the next row number, the next place.
abbrev pub next_row : Order → ℕ → Container → ℕ
next_row o i c = i + 1 + length (children_of o c.body)

abbrev pub next_place : Order → ℕ → Container → ℕ
next_place o at c = at + (8 + total (children_of o c.body))

-- The rows of records whose parent has row number i; of events, the first of which has it; the first stands at the place `at`.
abbrev pub record_rows : Order → ℕ → ℕ → List Record → List Row
record_rows o i at rs = child_rows i at (children_of o rs)

abbrev pub event_rows : Order → ℕ → ℕ → List Container → List Row
event_rows o i at es = rows i at (map (event_node o) es)

-- The nodes of a file's header and of its configuration, which stand before the events'.
abbrev pub header_node : File → Node
header_node f = single (record { kind = 1; size = 8; one = version_of f; two = 0 })

abbrev pub nodes_before : Order → File → List Node
nodes_before o f = header_node f ∷ box 2 (length (configuration_of f).body) 0 (children_of o (configuration_of f).body) ∷ []

-- The rows of a file's events: behind its configuration, which has row number 2 and stands at byte 8.
abbrev pub rows_behind : Order → File → List Row
rows_behind o f = event_rows o (next_row o 2 (configuration_of f)) (next_place o 8 (configuration_of f)) (events_of f)

-- ---- no child is a box

-- the row kinds of records are no boxes, whatever the kind word
pub child_kind : (k : ℕ) → is_box (kind_of k).row ≡ false
child_kind k = kind_cases (λ w x. is_box x.row ≡ false) k refl refl refl refl refl refl refl refl refl

children_good : (o : Order) (rs : List Record) → GoodChildren is_box (children_of o rs)
unfolding child_of
children_good o [] = tt
children_good o (r ∷ rs) = ((child_kind r.word, omega arith), children_good o rs)

events-good : (o : Order) (es : List Container) → Good is_box (map (event_node o) es)
events-good o [] = tt
events-good o (e ∷ es) = (refl, children_good o e.body, events-good o es)

nodes-good : (f : File) → Good is_box (nodes_of f)
unfolding nodes_of
nodes-good f = ((refl, omega arith), (refl, children_good (order_in f) (configuration_of f).body, events-good (order_in f) (events_of f)))

-- ---- the demands, of a tree

pub rows_tile : (f : File) → Tiles is_box 0 (rows_of f) (length (file_bytes f))
unfolding rows_of
rows_tile f =
    subst (λ (n : ℕ). Tiles is_box 0 (rows 1 0 (nodes_of f)) n) (omega (arith, nodes-extents f))
    (row_tiles is_box 1 0 (nodes_of f) (nodes-good f))

pub rows_inside : (f : File) (j : ℕ) → j < length (rows_of f) → OneParent is_box (rows_of f) (row (rows_of f) j)
unfolding rows_of
rows_inside f = one_parent is_box (nodes_of f) (nodes-good f)

-- ---- and of an accepted file's bytes

module _ (bs : List ℕ) (f : File) (h : Bytes bs) (e : read_file bs ≡ ok f) where
  -- The rows' own bytes, row by row, are all bytes of the file.
  pub rows_tile_file : Tiles is_box 0 (rows_of f) (length bs)
  rows_tile_file = subst (λ (x : List ℕ). Tiles is_box 0 (rows_of f) (length x)) (sym (file_sound bs f h e).0) (rows_tile f)

  -- Each row owns eight bytes at the least, so there are few.
  pub few_rows_in_file : 8 * length (rows_of f) ≤ length bs
  few_rows_in_file = omega (arith, few_rows_lem is_box 0 (length bs) (rows_of f) rows_tile_file)

  -- A byte is a row's, and no other row's.
  pub byte_has_row : (i : ℕ) → i < length bs → (j : ℕ) × (j < length (rows_of f)) × Owns is_box (row (rows_of f) j) i
  byte_has_row i l = owner is_box 0 (length bs) (rows_of f) i rows_tile_file (omega arith) l

  pub byte_has_one_row : (i j k : ℕ) → j < length (rows_of f) → k < length (rows_of f)
      → Owns is_box (row (rows_of f) j) i → Owns is_box (row (rows_of f) k) i → j ≡ k
  byte_has_one_row i j k lj lk oj ok' = owner_one is_box 0 (length bs) (rows_of f) i rows_tile_file j k lj lk oj ok'

  -- A child lies behind its parent's own eight bytes, within its whole length, and in no other container.
  pub child_inside_parent : (j : ℕ) → j < length (rows_of f) → OneParent is_box (rows_of f) (row (rows_of f) j)
  child_inside_parent = rows_inside f

  -- The parent's row number, from 1, is at most the number of rows before the child: a parent before its children.
  pub parent_before_child : (j : ℕ) → j < length (rows_of f) → (row (rows_of f) j).parent ≤ j
  parent_before_child j l = parent-before is_box (length bs) (rows_of f) rows_tile_file j l (child_inside_parent j l)
