-- The traces that a table's rows tell of: what Find gives, for someone who has the table and not the file; and which trace is the first
-- that Find is asked for.
use Rattle.std.specs.Prelude.{ℕ, ◌≡◌, cond, List, [], ◌∷◌, ◌++◌, eqb}
use Rattle.theory.specs.Layout.{Row, row}
use Rattle.note.specs.Calls.{TraceAt}

-- FORMAT 7.2, 8.8: the trace of a row among all rows: its code is the row's first value, its place the row's start; its event's number is the first
-- value of the row behind its parent's (a parent's number counts from 1, so it is that row's number from 0).
abbrev pub row_trace : List Row → Row → TraceAt
row_trace all r = record { number = (row all r.parent).one; code = r.one; place = r.start }

-- The traces of the rows of kind 7, in the rows' order.
unfoldable pub row_traces : List Row → List Row → List TraceAt
row_traces all [] = []
row_traces all (r ∷ rs) = cond (eqb r.kind 7) (row_trace all r ∷ row_traces all rs) (row_traces all rs)

-- FORMAT 8.8, a second time: a trace is the one asked for: its event carries that number, and its code is that code.
abbrev pub TraceMatches : ℕ → ℕ → TraceAt → Type 0
TraceMatches number code t = (t.number ≡ number) × (t.code ≡ code)

-- FORMAT 8.8, a second time: no trace of the list is.
abbrev pub NoneMatches : ℕ → ℕ → List TraceAt → Type 0
NoneMatches number code [] = Unit {0}
NoneMatches number code (t ∷ ts) = (TraceMatches number code t → ⊥) × NoneMatches number code ts

-- FORMAT 8.8, a second time: the place is that of the first trace that is.
pub record FirstMatch (number code : ℕ) (ts : List TraceAt) (place : ℕ) : Type 0 where
  pub before : List TraceAt
  pub trace : TraceAt
  pub later : List TraceAt
  pub splits : ts ≡ before ++ trace ∷ later
  pub here : trace.place ≡ place
  pub fits : TraceMatches number code trace
  pub none_before : NoneMatches number code before
