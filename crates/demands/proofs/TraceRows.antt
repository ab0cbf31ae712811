-- A file's traces are its table's rows of kind 7 in their order, each with the number of the administrative row behind its parent's.
-- The idea: the rows are walked with the rows before them, so that the row behind an event's is known to be its first record's.
use mathlib.Core.Path.{◌≡◌, refl, sym, ap, ap₂, ◌∙◌}
use mathlib.Core.List.{List, [], ◌∷◌, ◌++◌, append_assoc}
use Prim.Native.Nat.{ℕ, suc, ◌+◌, ◌≤◌, ◌<◌}
use native.Mathlib.Decide.{ℕ_discrete}
use native.Mathlib.Omega.{arith}
use lib.ListN.{length, length-append}
use lib.Seq.{get_or-append-add}
use borrow.Author.Tests.{ne_eqb}
use Rattle.theory.specs.declared.Order.{Order}
use Rattle.theory.specs.Layout.{Row, Child, no_row, child_rows, rows, row}
use Rattle.theory.proofs.LayoutLaws.{All, All-append, All-at, length-child_rows}
use Rattle.note.specs.Administrative.{administrative_kind, administrative_of}
use Rattle.note.specs.Trace.{trace_kind, trace_of}
use Rattle.note.specs.Records.{Record, entry, event, unseen, behind, record_size, records_bytes, kind_of}
use Rattle.note.specs.Events.{Container, container_size}
use Rattle.note.specs.Files.{File, order_in, version_of, configuration_of, events_of}
use Rattle.note.specs.Rows.{child_of, children_of, nodes_of, rows_of}
use Rattle.note.specs.Calls.{TraceAt, traces_in, traces_from, traces_of, event_number}
use Rattle.demands.specs.Valid.{ValidRecords, ValidEvent, ValidEvents, Valid}
use Rattle.demands.specs.RowTraces.{row_traces}
use Rattle.demands.proofs.EventLaws.{first-administrative}
use Rattle.demands.proofs.RowLaws.{children_total}
use Rattle.demands.proofs.RowLaws.{configuration_row, event_row, next_row, next_place, record_rows, event_rows, rows_behind}
use Rattle.demands.proofs.SpotLaws.{trace-kind, entry_no_trace}

-- Rows that begin with the row of an event's first record: administrative, with the event's number.
abbrev Numbered : Order → List Row → List Record → Type 0
Numbered o all rs = ((row all 0).kind ≡ administrative_kind.row) × ((row all 0).one ≡ event_number o rs)

first-row : (o : Order) (i at : ℕ) (e : Container) (more : List Row) → ValidEvent o e → Numbered o (record_rows o i at e.body ++ more) e.body
unfolding child_rows child_of kind_of administrative_of
first-row o i at e more v = go e.body v.not_empty v.records-valid
  where
    go : (rs : List Record) → 1 ≤ length (records_bytes o rs) → ValidRecords o (event unseen) rs → Numbered o (record_rows o i at rs ++ more) rs
    go [] l w = absurd (omega arith)
    go (r ∷ rs) l w = let k : r.word ≡ administrative_kind.word = first-administrative o r w.0 in (rw k, rw k)

-- The rows of entries tell of no trace.
no_entries : (o : Order) (all : List Row) (i at : ℕ) (rs : List Record) (more : List Row) → ValidRecords o entry rs
    → row_traces all (record_rows o i at rs ++ more) ≡ row_traces all more
unfolding row_traces child_rows child_of behind
no_entries o all i at [] more v = refl
no_entries o all i at (r ∷ rs) more v =
    rw (ne_eqb (kind_of r.word).row trace_kind.row (entry_no_trace o r v.0))
    (no_entries o all i (at + record_size r) rs more v.1)

module _ (o : Order) (all : List Row) where
  -- The rows of an event's records, whose parent's row has the number i.
  children : (i at : ℕ) (rs : List Record) (more : List Row)
      → row_traces all (record_rows o i at rs ++ more) ≡ traces_in o (row all i).one at rs ++ row_traces all more
  unfolding row_traces child_rows child_of traces_in trace_of kind_of
  children i at [] more = refl
  children i at (r ∷ rs) more =
      let rest = children i (at + record_size r) rs more in
      elim (ℕ_discrete r.word trace_kind.word) [
        | yes k ↦ rw k (ap (λ (ts : List TraceAt). record { number = (row all i).one; code = (trace_of o r.body).code; place = at } ∷ ts) rest)
        | no d ↦
            let other = ne_eqb (kind_of r.word).row trace_kind.row (λ q. d (trace-kind r.word q)) in
            rw (other, ne_eqb r.word trace_kind.word d) rest
      ]

  -- Where a row is a trace's, the row behind its parent's is administrative.
  abbrev Headed : Row → Type 0
  Headed r = r.kind ≡ trace_kind.row → (row all r.parent).kind ≡ administrative_kind.row

  -- Among the rows of entries there is no trace's; those of an event's records have the event's first record behind their parent.
  headed-entries : (i at : ℕ) (rs : List Record) → ValidRecords o entry rs → All Headed (record_rows o i at rs)
  unfolding child_rows child_of behind
  headed-entries i at [] v = tt
  headed-entries i at (r ∷ rs) v = ((λ k. absurd (entry_no_trace o r v.0 k)), headed-entries i (at + record_size r) rs v.1)

  headed_children : (i at : ℕ) (cs : List Child) → (row all i).kind ≡ administrative_kind.row → All Headed (child_rows i at cs)
  unfolding child_rows
  headed_children i at [] h = tt
  headed_children i at (c ∷ cs) h = ((λ k. h), headed_children i (at + c.size) cs h)

  -- The rows of events, behind the rows `before`; the first has the number i.
  events : (before : List Row) (i at : ℕ) (es : List Container) → ValidEvents o es
      → i ≡ suc (length before) → all ≡ before ++ event_rows o i at es
      → (row_traces all (event_rows o i at es) ≡ traces_from o at es) × All Headed (event_rows o i at es)
  unfolding rows row_traces traces_from
  events before i at [] v n q = (refl, tt)
  events before i at (e ∷ es) v n q =
      let ch : List Child = children_of o e.body in
      let own : Row = event_row o at e in
      let kids : List Row = child_rows i (at + 8) ch in
      let more : List Row = event_rows o (next_row o i e) (next_place o at e) es in
      let there : row all i ≡ row (kids ++ more) 0 = ap₂ row q (n ∙ omega arith) ∙ get_or-append-add before (own ∷ (kids ++ more)) 1 no_row in
      let first = first-row o i (at + 8) e more v.0 in
      let number : (row all i).one ≡ event_number o e.body = ap (λ (r : Row). r.one) there ∙ first.1 in
      let place : next_place o at e ≡ at + container_size o e = ap (λ (x : ℕ). at + (8 + x)) (children_total o e.body) in
      let later = events (before ++ own ∷ kids) (next_row o i e) (next_place o at e) es v.1
      (omega (arith, n, length-append before (own ∷ kids), length-child_rows i (at + 8) ch))
      (q ∙ sym (append_assoc before (own ∷ kids) more)) in (
        children i (at + 8) e.body more
            ∙ ap (λ (m : ℕ). traces_in o m (at + 8) e.body ++ row_traces all more) number
            ∙ ap (λ (ts : List TraceAt). traces_in o (event_number o e.body) (at + 8) e.body ++ ts) later.0
            ∙ ap (λ (p : ℕ). traces_in o (event_number o e.body) (at + 8) e.body ++ traces_from o p es) place,
        (
          (λ k. absurd (omega arith)),
          All-append Headed kids more (headed_children i (at + 8) ch (ap (λ (r : Row). r.kind) there ∙ first.0)) later.1,
        ),
      )

module _ (f : File) (v : Valid f) where
  -- The order of its words.
  abbrev o : Order
  o = order_in f

  abbrev c : Container
  c = configuration_of f

  -- The rows of the header, of the configuration and of its entries.
  abbrev front : List Row
  front = record { kind = 1; start = 0; whole = 8; parent = 0; one = version_of f; two = 0 } ∷ (configuration_row o c ∷ record_rows o 2 16 c.body)

  -- The rows of the file's events.
  walked : (row_traces (rows_of f) (rows_behind o f) ≡ traces_from o (next_place o 8 c) (events_of f))
      × All (Headed o (rows_of f)) (rows_behind o f)
  unfolding rows_of nodes_of rows
  walked =
      let number : next_row o 2 c ≡ suc (length front) = omega (arith, length-child_rows 2 16 (children_of o c.body)) in
      events o (rows_of f) front (next_row o 2 c) (next_place o 8 c) (events_of f) v.events-valid number refl

  -- The traces of a file, from its rows alone.
  pub traces_are_rows : traces_of f ≡ row_traces (rows_of f) (rows_of f)
  unfolding traces_of rows_of nodes_of rows row_traces
  traces_are_rows =
      ap (λ (x : ℕ). traces_from o (8 + (8 + x)) (events_of f)) (sym (children_total o c.body))
      ∙ sym walked.0
      ∙ sym (no_entries o (rows_of f) 2 16 c.body (rows_behind o f) v.entries-valid)

  -- Behind the parent's row of a trace's row stands an administrative row.
  pub number-row-administrative : (j : ℕ) → j < length (rows_of f) → (row (rows_of f) j).kind ≡ 7
      → (row (rows_of f) (row (rows_of f) j).parent).kind ≡ 6
  unfolding rows_of nodes_of rows
  number-row-administrative j l =
      let entries = headed-entries o (rows_of f) 2 16 c.body v.entries-valid in
      let all : All (Headed o (rows_of f)) (rows_of f) = (
        (λ k. absurd (omega arith)),
        ((λ k. absurd (omega arith)), All-append (Headed o (rows_of f)) (record_rows o 2 16 c.body) (rows_behind o f) entries walked.1),
      ) in
      All-at (Headed o (rows_of f)) (rows_of f) all j l
