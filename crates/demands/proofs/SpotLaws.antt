-- Where a trace's row stands in its file: the events before, its event's word and the records on both sides, the events after.
-- The idea: the rows are walked with the tree in two pieces, what was passed and what is still to come.
use mathlib.Core.Path.{◌≡◌, refl, sym, ap, ◌∙◌, subst}
use mathlib.Core.Bool.{Bool, true}
use mathlib.Core.List.{List, [], ◌∷◌, ◌++◌, map, append_assoc}
use mathlib.Core.Option.{Option, some, none}
use Prim.Native.Nat.{ℕ, suc, ◌+◌, ◌<◌}
use native.Mathlib.Omega.{arith}
use lib.ListN.{length, length-append, length-map}
use Rattle.theory.specs.declared.Order.{Order}
use Rattle.theory.specs.Layout.{Row, child_rows, rows, row}
use Rattle.theory.proofs.Items.{length-encs}
use Rattle.theory.proofs.LayoutLaws.{AllFrom, AllFrom-append, AllFrom-at, length-child_rows}
use Rattle.theory.proofs.FreeLaws.{Spot, plug}
use Rattle.note.specs.Trace.{trace_kind}
use Rattle.note.specs.Records.{Record, entry, is_kind, behind, record_size, records_bytes, kind_of}
use Rattle.note.specs.Events.{Container, container_size, events_bytes}
use Rattle.note.specs.Files.{File, order_in, configuration_of, events_of}
use Rattle.note.specs.Rows.{child_of, children_of, nodes_of, rows_of}
use Rattle.note.proofs.KindCases.{kind_cases}
use Rattle.demands.specs.Valid.{ValidRecord, ValidRecords, Valid}
use Rattle.demands.specs.RowRecords.{container_records, events_records, row_records}
use Rattle.demands.proofs.Bundles.{record_item, event_item}
use Rattle.demands.proofs.RowLaws.{children_total, next_row, next_place, record_rows, event_rows, rows_behind}

-- Only a trace has row kind 7.
pub trace-kind : (k : ℕ) → (kind_of k).row ≡ 7 → k ≡ trace_kind.word
trace-kind k =
    kind_cases (λ w x. x.row ≡ 7 → w ≡ trace_kind.word) k
    (λ e. absurd (omega arith)) (λ e. absurd (omega arith)) (λ e. absurd (omega arith)) (λ e. refl) (λ e. absurd (omega arith))
    (λ e. absurd (omega arith)) (λ e. absurd (omega arith)) (λ e. absurd (omega arith)) (λ e. absurd (omega arith))

-- An entry is no trace.
pub entry_no_trace : (o : Order) (r : Record) → ValidRecord o entry r → (kind_of r.word).row ≡ 7 → ⊥
unfolding is_kind
entry_no_trace o r v e =
    let k : r.word ≡ trace_kind.word = trace-kind r.word e in
    let f : is_kind entry trace_kind.word ≡ true = subst (λ (n : ℕ). is_kind entry n ≡ true) k v.kind_allowed in
    mathlib.Core.Bool.false≢true f

-- ---- the rows before a spot, and its place

abbrev pub records_before : Container → Spot → List (Option Record)
records_before c p = none ∷ (container_records c ++ (events_records p.before ++ (none ∷ map some p.left)))

abbrev pub records_after : Spot → List (Option Record)
records_after p = map some p.right ++ events_records p.after

abbrev pub place_of : Order → Container → Spot → ℕ
place_of o c p = 8 + container_size o c + (length (events_bytes o p.before) + (8 + length (records_bytes o p.left)))

map-append : (xs ys : List Record) → map {B = Option Record} some (xs ++ ys) ≡ map some xs ++ map some ys
map-append [] ys = refl
map-append (x ∷ xs) ys = ap (λ (l : List (Option Record)). some x ∷ l) (map-append xs ys)

events_records-append : (xs ys : List Container) → events_records (xs ++ ys) ≡ events_records xs ++ events_records ys
events_records-append [] ys = refl
events_records-append (x ∷ xs) ys =
    ap (λ (l : List (Option Record)). container_records x ++ l) (events_records-append xs ys)
    ∙ sym (append_assoc (container_records x) (events_records xs) (events_records ys))

-- Beside the rows: what stands before the spot, the record there, what stands after it.
pub records-split : (o : Order) (v : ℕ) (c : Container) (p : Spot) (t : Record)
    → row_records (o, (v, (c, plug p t))) ≡ records_before c p ++ (some t ∷ records_after p)
unfolding row_records
records-split o v c p t =
    let here : List (Option Record) = none ∷ map some p.left in
    let rest : List (Option Record) = some t ∷ records_after p in
    let box : container_records (record { word = p.word; body = p.left ++ t ∷ p.right }) ++ events_records p.after ≡ here ++ rest =
    ap (λ (l : List (Option Record)). (none ∷ l) ++ events_records p.after) (map-append p.left (t ∷ p.right))
    ∙ append_assoc here (some t ∷ map some p.right) (events_records p.after) in
    ap (λ (l : List (Option Record)). none ∷ (container_records c ++ l))
    (events_records-append p.before (record { word = p.word; body = p.left ++ t ∷ p.right } ∷ p.after)
    ∙ ap (λ (l : List (Option Record)). events_records p.before ++ l) box
    ∙ sym (append_assoc (events_records p.before) here rest))
    ∙ ap (λ (l : List (Option Record)). none ∷ l) (sym (append_assoc (container_records c) (events_records p.before ++ here) rest))

-- ---- from a row to its spot

-- Row n is a trace: the file with that trace in its spot.
abbrev pub Found : Order → File → ℕ → Row → Type 0
Found o f n r = r.kind ≡ 7 → (p : Spot) × (t : Record) × (events_of f ≡ plug p t) × (n ≡ length (records_before (configuration_of f) p))
    × (r.start ≡ place_of o (configuration_of f) p) × (r.whole ≡ record_size t) × (t.word ≡ trace_kind.word)

length-records : (rs : List Record) → length (map {B = Option Record} some rs) ≡ length rs
length-records rs = length-map rs some

rows_of_records : (o : Order) (i at : ℕ) (rs : List Record) → length (record_rows o i at rs) ≡ length rs
rows_of_records o i at rs = length-child_rows i at (children_of o rs) ∙ length-map rs (child_of o)

module _ (f : File) where
  -- The order of its words.
  abbrev o : Order
  o = order_in f

  -- No entry's row is a trace's.
  entries_none : (i at n : ℕ) (rs : List Record) → ValidRecords o entry rs
      → AllFrom (Found o f) n (record_rows o i at rs)
  unfolding child_rows child_of behind
  entries_none i at n [] v = tt
  entries_none i at n (r ∷ rs) v = ((λ k. absurd (entry_no_trace o r v.0 k)), entries_none i (at + record_size r) (suc n) rs v.1)

  -- An event with the given word, the events before it and after it.
  module _ (before : List Container) (word : ℕ) (after : List Container) where
    -- The spot behind the records that were passed.
    abbrev passed : List Record → Spot
    passed left = record { before = before; word = word; left = left; right = []; after = after }

    -- How many rows stand before that spot.
    rows_before : (left : List Record)
        → length (records_before (configuration_of f) (passed left))
        ≡ suc (length (container_records (configuration_of f)) + (length (events_records before) + suc (length left)))
    rows_before left =
        let here : List (Option Record) = none ∷ map some left in
        omega (
          arith,
          length-append (container_records (configuration_of f)) (events_records before ++ here),
          length-append (events_records before) here,
          length-records left,
        )

    -- Its records: those passed, then those to come, the first of them at the place `at` and in row n.
    found_children : (left rs : List Record) (i at n : ℕ)
        → events_of f ≡ before ++ record { word = word; body = left ++ rs } ∷ after
        → at ≡ place_of o (configuration_of f) (passed left) → n ≡ length (records_before (configuration_of f) (passed left))
        → AllFrom (Found o f) n (record_rows o i at rs)
    unfolding child_rows child_of
    found_children left [] i at n e ea en = tt
    found_children left (r ∷ rs) i at n e ea en =
        let more : List Record = left ++ r ∷ [] in
        let bytes-more : length (records_bytes o more) ≡ length (records_bytes o left) + record_size r =
        length-encs (record_item o) left r [] ∙ omega arith in
        let regroup = ap (λ (b : List Record). before ++ record { word = word; body = b } ∷ after) (sym (append_assoc left (r ∷ []) rs)) in
        let spot : Spot = record { before = before; word = word; left = left; right = rs; after = after } in (
          (λ k. (spot, r, e, en, ea, refl, trace-kind r.word k)),
          found_children more rs i (at + record_size r) (suc n) (e ∙ regroup) (omega arith)
              (omega (arith, rows_before left, rows_before more, length-append left (r ∷ []))),
        )

  -- The events: those passed, then those to come, the first of them at the place `at` and in row n.
  found-events : (before es : List Container) (i at n : ℕ) → events_of f ≡ before ++ es
      → at ≡ 8 + container_size o (configuration_of f) + length (events_bytes o before)
      → n ≡ suc (length (container_records (configuration_of f)) + length (events_records before))
      → AllFrom (Found o f) n (event_rows o i at es)
  unfolding rows
  found-events before [] i at n e ea en = tt
  found-events before (x ∷ es) i at n e ea en =
      let kids : List Row = record_rows o i (at + 8) x.body in
      let size : length kids ≡ length x.body = rows_of_records o i (at + 8) x.body in
      let more : List Container = before ++ x ∷ [] in
      let bytes-more : length (events_bytes o more) ≡ length (events_bytes o before) + container_size o x =
      length-encs (event_item o) before x [] ∙ omega arith in
      let rows_more : length (events_records more) ≡ length (events_records before) + suc (length x.body) =
      omega (
        arith,
        ap length (events_records-append before (x ∷ [])),
        length-append (events_records before) (container_records x ++ []),
        length-append (container_records x) [],
        length-records x.body,
      ) in
      let first = rows_before before x.word es [] in (
        (λ k. absurd (omega arith)),
        AllFrom-append (Found o f) (suc n) kids (event_rows o (next_row o i x) (next_place o at x) es)
            (found_children before x.word es [] x.body i (at + 8) (suc n) e (omega arith) (omega arith))
            (found-events more es (next_row o i x) (next_place o at x) (suc n + length kids)
            (e ∙ sym (append_assoc before (x ∷ []) es))
            (omega (arith, children_total o x.body))
            (omega arith)),
      )

-- Every trace's row has its spot.
pub traces_found : (f : File) → Valid f → (j : ℕ) → j < length (rows_of f) → Found (order_in f) f j (row (rows_of f) j)
unfolding rows_of nodes_of rows
traces_found f v j h =
    subst (λ (m : ℕ). Found (order_in f) f m (row (rows_of f) j)) (omega arith) (AllFrom-at (Found (order_in f) f) 0 (rows_of f) all j h)
  where
    c : Container
    c = configuration_of f

    kids : List Row
    kids = record_rows (order_in f) 2 16 c.body

    all : AllFrom (Found (order_in f) f) 0 (rows 1 0 (nodes_of f))
    all =
        let size : length kids ≡ length c.body = rows_of_records (order_in f) 2 16 c.body in (
          (λ k. absurd (omega arith)),
          (
            (λ k. absurd (omega arith)),
            AllFrom-append (Found (order_in f) f) 2 kids (rows_behind (order_in f) f)
                (entries_none f 2 16 2 c.body v.entries-valid)
                (found-events f [] (events_of f) (next_row (order_in f) 2 c) (next_place (order_in f) 8 c) (2 + length kids) refl
                (omega (arith, children_total (order_in f) c.body)) (omega (arith, length-records c.body))),
          ),
        )
