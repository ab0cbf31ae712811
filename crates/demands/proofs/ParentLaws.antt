-- Parents by kind (FORMAT 7.3): header, configuration and events have none, entries have the configuration's row, records that of an event.
-- The idea: the rows are walked with the nodes before them, so that the row of the container that holds them is known.
use mathlib.Core.Path.{◌≡◌, refl, sym, ap, ◌∙◌, subst}
use mathlib.Core.Bool.{true, false≢true}
use mathlib.Core.List.{List, [], ◌∷◌, ◌++◌, map, append_assoc}
use Prim.Native.Nat.{ℕ, suc, ◌+◌, ◌≤◌, ◌<◌}
use native.Mathlib.Omega.{arith}
use lib.ListN.{length}
use Rattle.theory.specs.declared.Order.{Order}
use Rattle.theory.specs.Words.{Bytes}
use Rattle.theory.specs.Tests.{ok}
use Rattle.theory.specs.Layout.{Row, Node, child_rows, rows, row_count, row}
use Rattle.theory.proofs.LayoutLaws.{All, All-append, All-at, length-rows, row_count-append, box-at}
use Rattle.note.specs.Records.{Record, Seen, entry, event, unseen, is_kind, behind, noted, record_size, kind_of}
use Rattle.note.specs.Events.{Container}
use Rattle.note.specs.Files.{File, order_in, configuration_of, events_of, read_file}
use Rattle.note.specs.Rows.{child_of, children_of, event_node, nodes_of, rows_of}
use Rattle.note.proofs.KindCases.{kind_cases}
use Rattle.demands.specs.Valid.{ValidRecord, ValidRecords, ValidEvents, Valid}
use Rattle.demands.specs.Parents.{ParentByKind}
use Rattle.demands.proofs.Follows.{file_sound}
use Rattle.demands.proofs.RowLaws.{next_row, next_place, record_rows, event_rows, nodes_before, rows_behind}

-- An entry is of row kind 3 or 4, a record in an event of 6 to 11.
entry-kind : (o : Order) (r : Record) → ValidRecord o entry r → (3 ≤ (kind_of r.word).row) × ((kind_of r.word).row ≤ 4)
unfolding is_kind
entry-kind o r v =
    kind_cases (λ w x. is_kind entry w ≡ true → x.rule o r.body ≡ 0 → (3 ≤ x.row) × (x.row ≤ 4)) r.word
    (λ e q. omega arith) (λ e q. omega arith) (λ e q. absurd (false≢true e)) (λ e q. absurd (false≢true e)) (λ e q. absurd (false≢true e))
    (λ e q. absurd (false≢true e)) (λ e q. absurd (false≢true e)) (λ e q. absurd (false≢true e)) (λ e q. absurd (omega arith))
    v.kind_allowed v.body-rule

record_kind : (o : Order) (s : Seen) (r : Record) → ValidRecord o (event s) r → (6 ≤ (kind_of r.word).row) × ((kind_of r.word).row ≤ 11)
unfolding is_kind
record_kind o s r v =
    kind_cases (λ w x. is_kind (event s) w ≡ true → x.rule o r.body ≡ 0 → (6 ≤ x.row) × (x.row ≤ 11)) r.word
    (λ e q. absurd (false≢true e)) (λ e q. absurd (false≢true e)) (λ e q. omega arith) (λ e q. omega arith) (λ e q. omega arith)
    (λ e q. omega arith) (λ e q. omega arith) (λ e q. omega arith) (λ e q. absurd (omega arith))
    v.kind_allowed v.body-rule

module _ (o : Order) (all : List Row) where
  -- A row without a parent, of a kind that stands in no container.
  outer_by_kind : (r : Row) → 1 ≤ r.kind → r.kind ≤ 5 → (3 ≤ r.kind → r.kind ≤ 4 → ⊥) → r.parent ≡ 0 → ParentByKind all r
  outer_by_kind r from to no_entry none_above = record {
    kind-listed = omega arith;
    header = λ k. none_above;
    configuration = λ k. none_above;
    event = λ k. none_above;
    entry = λ a b. absurd (no_entry a b);
    inside-event = λ l. absurd (omega arith);
  }

  -- The rows of entries, where the second row is a configuration's.
  entries-by-kind : (at : ℕ) (rs : List Record) → (row all 1).kind ≡ 2 → ValidRecords o entry rs
      → All (ParentByKind all) (record_rows o 2 at rs)
  unfolding child_rows child_of behind
  entries-by-kind at [] k v = tt
  entries-by-kind at (r ∷ rs) k v =
      let (from, to) = entry-kind o r v.0 in (
        record {
          kind-listed = omega arith;
          header = λ e. absurd (omega arith);
          configuration = λ e. absurd (omega arith);
          event = λ e. absurd (omega arith);
          entry = λ a b. (refl, k);
          inside-event = λ l. absurd (omega arith);
        },
        entries-by-kind (at + record_size r) rs k v.1,
      )

  -- The rows of an event's records, where row p is the event's.
  records-by-kind : (p at : ℕ) (s : Seen) (rs : List Record) → p < length all → (row all p).kind ≡ 5 → ValidRecords o (event s) rs
      → All (ParentByKind all) (record_rows o (suc p) at rs)
  unfolding child_rows child_of behind
  records-by-kind p at s [] l k v = tt
  records-by-kind p at s (r ∷ rs) l k v =
      let (from, to) = record_kind o s r v.0 in (
        record {
          kind-listed = omega arith;
          header = λ e. absurd (omega arith);
          configuration = λ e. absurd (omega arith);
          event = λ e. absurd (omega arith);
          entry = λ a b. absurd (omega arith);
          inside-event = λ a. (p, refl, l, k);
        },
        records-by-kind p (at + record_size r) (noted s r.word) rs l k v.1,
      )

  -- The rows of events, behind the nodes that were passed.
  events-by-kind : (passed : List Node) (at : ℕ) (es : List Container) → all ≡ rows 1 0 (passed ++ map (event_node o) es) → ValidEvents o es
      → All (ParentByKind all) (event_rows o (suc (row_count passed)) at es)
  unfolding rows
  events-by-kind passed at [] q v = tt
  events-by-kind passed at (e ∷ es) q v =
      let i : ℕ = suc (row_count passed) in
      let more : List Node = map (event_node o) es in
      let own : Node = event_node o e in
      let is-event : (row all (row_count passed)).kind ≡ 5 =
      ap (λ (rs : List Row). (row rs (row_count passed)).kind) q
      ∙ ap (λ (r : Row). r.kind) (box-at passed 5 _ _ (children_of o e.body) more) in
      let below : row_count passed < length all =
      omega (arith, ap length q, length-rows 1 0 (passed ++ own ∷ more), row_count-append passed (own ∷ more)) in
      let number : suc (row_count (passed ++ own ∷ [])) ≡ next_row o i e = omega (arith, row_count-append passed (own ∷ [])) in
      let later : List Row = event_rows o (next_row o i e) (next_place o at e) es in (
        outer_by_kind _ (omega arith) (omega arith) (λ a b. omega arith) refl,
        All-append (ParentByKind all) (record_rows o i (at + 8) e.body) later
            (records-by-kind (row_count passed) (at + 8) unseen e.body below is-event v.0.records-valid)
            (subst (λ (n : ℕ). All (ParentByKind all) (event_rows o n (next_place o at e) es)) number
            (events-by-kind (passed ++ own ∷ []) (next_place o at e) es (q ∙ ap (rows 1 0) (sym (append_assoc passed (own ∷ []) more))) v.1)),
      )

-- Of a valid file's rows.
rows-by-kind : (f : File) → Valid f → All (ParentByKind (rows_of f)) (rows_of f)
unfolding rows_of nodes_of rows
rows-by-kind f v =
    let c : Container = configuration_of f in
    let number : suc (row_count (nodes_before (order_in f) f)) ≡ next_row (order_in f) 2 c = omega arith in (
      outer_by_kind (order_in f) (rows_of f) _ (omega arith) (omega arith) (λ a b. omega arith) refl,
      (
        outer_by_kind (order_in f) (rows_of f) _ (omega arith) (omega arith) (λ a b. omega arith) refl,
        All-append (ParentByKind (rows_of f)) (record_rows (order_in f) 2 16 c.body) (rows_behind (order_in f) f)
            (entries-by-kind (order_in f) (rows_of f) 16 c.body refl v.entries-valid)
            (subst (λ (n : ℕ). All (ParentByKind (rows_of f)) (event_rows (order_in f) n (next_place (order_in f) 8 c) (events_of f))) number
            (events-by-kind (order_in f) (rows_of f) (nodes_before (order_in f) f) (next_place (order_in f) 8 c) (events_of f) refl v.events-valid)),
      ),
    )

-- Each row of an accepted file has the parent that its kind asks for.
pub parent-by-kind : (bs : List ℕ) (f : File) → Bytes bs → read_file bs ≡ ok f → (j : ℕ) → j < length (rows_of f)
    → ParentByKind (rows_of f) (row (rows_of f) j)
parent-by-kind bs f h e j l = All-at (ParentByKind (rows_of f)) (rows_of f) (rows-by-kind f (file_sound bs f h e).1) j l
