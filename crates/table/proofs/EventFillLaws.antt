-- Filling the rows of events that were checked: what is known at each turn, and what a turn leads to.
-- The idea: an event's records are stored behind its own row's place, and its own row, whose count is known then, before them.
use mathlib.Core.Path.{◌≡◌, refl, sym, ap, ap₂, ◌∙◌, subst}
use mathlib.Core.Bool.{false}
use mathlib.Core.List.{List, [], ◌∷◌, ◌++◌, map, append-nil, map-append}
use Prim.Native.Nat.{ℕ, ◌+◌, ◌-◌, ◌*◌, ◌%◌, ◌≤◌, ◌<◌}
use native.Mathlib.Omega.{arith}
use lib.ListN.{length, length-map}
use Rattle.theory.specs.declared.Order.{Order}
use Rattle.theory.specs.Words.{Bytes}
use Rattle.theory.specs.Tests.{ok}
use Rattle.theory.specs.Layout.{Row, Child, Node, total, extents, child_rows, rows, row_count}
use Rattle.theory.proofs.TestLaws.{ok_inj}
use Rattle.theory.proofs.LayoutLaws.{rows_append, length-rows, row_count-append, extents-append}
use Rattle.theory.proofs.LoopLaws.{At, start, ended, prefix, reads}
use Rattle.note.specs.Limits.{file_limit, row_width}
use Rattle.note.specs.Words.{word}
use Rattle.note.specs.Records.{event, unseen, records_bytes, read_records}
use Rattle.note.specs.Events.{Container}
use Rattle.note.specs.Rows.{child_of, children_of, event_node}
use Rattle.demands.proofs.Bundles.{event_item, events, same-events}
use Rattle.demands.proofs.RowLaws.{children_total, events-extents}
use Rattle.containers.specs.Counts.{rows_of_events}
use Rattle.theory.proofs.WordLaws.{Bytes-drop}
use Rattle.structures.specs.declared.Structure.{Structure}
use Rattle.structures.specs.declared.Sequence.{Sequence}
use Rattle.structures.specs.Standing.{stands, Given}
use Rattle.structures.proofs.StandingLaws.{none_over, given_fits, given_some, given_length, in_order}
use Rattle.containers.proofs.RecordLoop.{left}
use Rattle.containers.proofs.EventLoop.{Shown, event-shows, on_event, few}
use Rattle.containers.proofs.FileLaws.{few_rows_lem}
use Rattle.record.proofs.StepLaws.{cut}
use Rattle.rows.specs.declared.Row as code
use Rattle.rows.specs.Buffers.{row_of, stored}
use Rattle.table.specs.Filling.{Fillable, FillableEvents, Filled, FilledEvents}
use Rattle.rows.proofs.StoreLaws.{stored-append, stored-nil, length-stored, stored-before}

abbrev nodes : Order → List Container → List Node
nodes o es = map (event_node o) es

-- The rows that check counts are the rows of the events' nodes.
pub events-rows : (o : Order) (es : List Container) → row_count (nodes o es) ≡ rows_of_events es
events-rows o [] = refl
events-rows o (e ∷ es) = omega (arith, length-map e.body (child_of o), events-rows o es)

-- What is known at a turn: the events so far, the place behind them, and their rows in the buffer.
pub record FillingEvents (o : Order) (from : ℕ) (bs rows₀ : List ℕ) (first : ℕ) (now : List ℕ) (s : Sequence) (n : ℕ) : Type 0 where
  pub order : s.order ≡ o
  pub es : List Container
  pub is : At (event_item o) tt from bs tt s.at s.rest.now es
  pub here : s.at ≡ from + extents (nodes o es)
  pub row : n ≡ first + row_count (nodes o es)
  pub held : now ≡ stored rows₀ first (rows (first + 1) from (nodes o es))
  pub bytes : Bytes s.rest.now

pub begin : (o : Order) (from : ℕ) (bs rows₀ : List ℕ) (first : ℕ) (s : Sequence) → s.rest.now ≡ bs → s.at ≡ from → s.order ≡ o → Bytes bs
    → FillingEvents o from bs rows₀ first rows₀ s first
unfolding rows
begin o from bs rows₀ first s eb ef eo h = record {
  order = eo;
  es = [];
  is = rw (eb, ef) (start (event_item o) tt from bs);
  here = omega (arith, ef);
  row = omega arith;
  held = sym (stored-nil rows₀ first);
  bytes = rw eb h;
}

-- The row that code stores for an event: its structure's place, length and word, its own index and the next row's behind its records.
abbrev put_row : Structure → ℕ → ℕ → code.Row
put_row x n next = record { kind = 5; start = x.place; whole = 8 + length x.body.now; parent = 0; one = x.word % 65536; two = next - n - 1 }

module _ {o : Order} {from : ℕ} {bs rows₀ : List ℕ} {first : ℕ} {now : List ℕ} {s : Sequence} {n : ℕ}
    (i : FillingEvents o from bs rows₀ first now s n) where
  -- the rows so far
  abbrev old : List Row
  old = rows (first + 1) from (nodes o i.es)

  abbrev rest : List ℕ
  rest = s.rest.now

  pub same_rows : length now ≡ length rows₀
  same_rows = ap length i.held ∙ length-stored rows₀ first old

  -- At a turn of the loop over a part that can be filled.
  module _ (p : FillableEvents o from bs (length rows₀) first) where
    -- no more rows than bytes so far
    low : n ≤ s.at
    low = let es = i.es in omega (arith, i.row, i.here, events-rows o es, few_rows_lem o es, events-extents o es, p.low)

    all_read : (events o).read tt from bs ≡ ok p.events
    all_read = sym (same-events o tt from bs) ∙ p.reads

    -- the event that stands next, and what it shows of its bytes
    coming : 0 < length rest → (e : Container) × Shown o s.at rest e
    coming l = let (e, r) = reads (event_item o) i.is l p.events all_read in (e, event-shows o s.at rest e i.bytes r)

    pub done : stands s.order rest ≡ false → FilledEvents o from bs rows₀ first now
    done none es e =
        let none-in-order : stands o rest ≡ false = ap (λ (q : Order). stands q rest) (sym i.order) ∙ none in
        let over : length rest ≤ 0 = none_over o rest none-in-order (λ l. (coming l).1.fits) in
        let same : i.es ≡ es = ok_inj (ended (event_item o) i.is (omega (arith, over)) ∙ sym (same-events o tt from bs) ∙ e) in
        i.held ∙ ap (λ (x : List Container). stored rows₀ first (rows (first + 1) from (nodes o x))) same

    module _ {t : Sequence} {x : Structure} (given : Given s.order s x t) where
      g : Given o s x t
      g = in_order i.order given

      this : Container
      this = (coming (given_some g)).0

      shown : Shown o s.at rest this
      unfolding this
      shown = (coming (given_some g)).1

      m : ℕ
      m = length x.body.now

      -- its contents, as they are given
      contents-size : length (records_bytes o this.body) ≡ m
      unfolding m
      contents-size = shown.size ∙ sym (given_length g)

      contents : read_records o (event unseen) (x.place + 8) x.body.now ≡ ok this.body
      contents =
          ap₂ (λ (p : ℕ) (b : List ℕ). read_records o (event unseen) (p + 8) b) g.place_is (g.body_is ∙ sym (cut (word o 4 rest) rest))
          ∙ shown.contents

      -- its children, which its length word measures
      abbrev ch : List Child
      ch = children_of o this.body

      whole_is : 8 + m ≡ 8 + total ch
      whole_is = omega (arith, contents-size, children_total o this.body)

      -- it fits what is left, which ends within the limit
      fits : 8 + m ≤ length rest
      unfolding m
      fits = omega (arith, given_length g, given_fits g)

      -- it ends within the limit, and its row's index is no more than its place
      pub sized : (x.place + (8 + length x.body.now) ≤ file_limit) × (n ≤ x.place)
      unfolding m
      sized = (omega (arith, g.place_is, fits, i.is.place, p.within), omega (arith, g.place_is, low))

      -- the loop behind it
      moved : At (event_item o) tt from bs tt t.at t.rest.now (i.es ++ this ∷ [])
      unfolding m
      moved =
          let k : ℕ = word o 4 rest in
          subst (λ (p : ℕ). At (event_item o) tt from bs tt p t.rest.now (i.es ++ this ∷ [])) (sym g.at_is)
          (subst (λ (r : List ℕ). At (event_item o) tt from bs tt (s.at + (8 + k)) r (i.es ++ this ∷ []))
          (sym (left (8 + k) rest) ∙ sym g.rest_is)
          (on_event i.is (given_some g) this shown.read k shown.size (given_fits g)))

      -- how many rows and bytes it adds
      more_rows : row_count (nodes o (i.es ++ this ∷ [])) ≡ row_count (nodes o i.es) + 1 + length this.body
      more_rows =
          omega (
            arith,
            ap row_count (map-append (event_node o) i.es (this ∷ [])),
            row_count-append (nodes o i.es) (event_node o this ∷ []),
            length-map this.body (child_of o),
          )

      more_bytes : extents (nodes o (i.es ++ this ∷ [])) ≡ extents (nodes o i.es) + (8 + m)
      more_bytes =
          omega (
            arith,
            ap extents (map-append (event_node o) i.es (this ∷ [])),
            extents-append (nodes o i.es) (event_node o this ∷ []),
            whole_is,
          )

      -- its rows fit
      rows_fit : (n + 1 + length this.body) * row_width ≤ length now
      rows_fit =
          let (zs, q) = prefix (event_item o) moved p.events all_read in
          let all : nodes o p.events ≡ nodes o (i.es ++ this ∷ []) ++ nodes o zs =
          ap (nodes o) q ∙ map-append (event_node o) (i.es ++ this ∷ []) zs in
          omega (
            arith,
            ap row_count all,
            row_count-append (nodes o (i.es ++ this ∷ [])) (nodes o zs),
            more_rows,
            p.fits,
            i.row,
            same_rows,
            length-rows (first + 1) from (nodes o p.events),
          )

      -- its records can be filled, from the row behind its own on
      pub fillable : Fillable o (x.place + 8) x.body.now (length now) (n + 1)
      fillable =
          record { context = event unseen; records = this.body; reads = contents; within = omega (arith, sized); fits = rows_fit }

      -- its own row, and its rows
      abbrev own_row : Row
      own_row = record { kind = 5; start = s.at; whole = 8 + total ch; parent = 0; one = this.word % 65536; two = length this.body }

      abbrev mine : List Row
      mine = rows (n + 1) s.at (event_node o this ∷ [])

      mine-is : own_row ∷ child_rows (n + 1) (s.at + 8) ch ≡ mine
      unfolding rows
      mine-is = ap (λ (r : List Row). own_row ∷ r) (sym (append-nil (child_rows (n + 1) (s.at + 8) ch)))

      with_mine : rows (first + 1) from (nodes o (i.es ++ this ∷ [])) ≡ old ++ mine
      with_mine =
          let i-is : n + 1 ≡ first + 1 + row_count (nodes o i.es) = omega (arith, i.row) in
          ap (rows (first + 1) from) (map-append (event_node o) i.es (this ∷ []))
          ∙ rows_append (first + 1) from (nodes o i.es) (event_node o this ∷ [])
          ∙ ap₂ (λ (a b : ℕ). old ++ rows a b (event_node o this ∷ [])) (sym i-is) (sym i.here)

      row_is : n ≡ first + length old
      row_is = omega (arith, i.row, length-rows (first + 1) from (nodes o i.es))

      -- Where its records were filled.
      module _ (filled : List ℕ) (next : ℕ) (f : Filled o (x.place + 8) x.body.now now (n + 1) (n + 1) filled next) where
        records-filled : (filled ≡ stored now (n + 1) (child_rows (n + 1) (s.at + 8) ch)) × (next ≡ n + 1 + length this.body)
        records-filled =
            let (held, is) = f (event unseen) this.body contents in
            (held ∙ ap (λ (q : ℕ). stored now (n + 1) (child_rows (n + 1) (q + 8) ch)) g.place_is, is)

        -- its own row's index lies below the next, which is no more than the bytes so far, and its own row fits
        pub next_row : (n + 1 ≤ next) × (next ≤ x.place + (8 + length x.body.now)) × (n * row_width + row_width ≤ length filled)
        unfolding m
        next_row =
            let (held, is) = records-filled in (
              omega (arith, is),
              omega (arith, is, sized, few o this.body, contents-size),
              omega (arith, ap length held, length-stored now (n + 1) (child_rows (n + 1) (s.at + 8) ch), rows_fit),
            )

        module _ (now' : List ℕ) (ew : now' ≡ stored filled n (row_of (put_row x n next) ∷ [])) where
          own_is : row_of (put_row x n next) ≡ own_row
          unfolding row_of m
          own_is =
              let two_is : next - n - 1 ≡ length this.body = omega (arith, records-filled.1) in
              let word-is : x.word ≡ this.word = g.word_is ∙ sym shown.kind-is in
              λ j. record { kind = 5; start = g.place_is j; whole = whole_is j; parent = 0; one = word-is j % 65536; two = two_is j }

          stored_here : now' ≡ stored now n mine
          stored_here =
              ew ∙ ap (λ (r : Row). stored filled n (r ∷ [])) own_is
              ∙ ap (λ (y : List ℕ). stored y n (own_row ∷ [])) records-filled.0
              ∙ stored-before now n own_row (child_rows (n + 1) (s.at + 8) ch)
              ∙ ap (stored now n) mine-is

          pub next-event : FillingEvents o from bs rows₀ first now' t next
          unfolding m
          next-event = record {
            order = g.order_is ∙ i.order;
            es = i.es ++ this ∷ [];
            is = moved;
            here = omega (arith, i.here, more_bytes, g.at_is, given_length g);
            row = omega (arith, records-filled.1, i.row, more_rows);
            held = stored_here
                ∙ ap₂ (λ (z : List ℕ) (y : ℕ). stored z y mine) i.held row_is
                ∙ sym (stored-append rows₀ first old mine)
                ∙ ap (stored rows₀ first) (sym with_mine);
            bytes = subst Bytes (sym g.rest_is) (Bytes-drop (8 + word o 4 rest) rest i.bytes);
          }
