-- Filling the rows of records that were checked: what is known at each turn, and what a turn leads to.
-- The idea: the whole is known to be read, so what stands next is read too, and its kind and length words say what it is.
use mathlib.Core.Path.{◌≡◌, refl, sym, ap, ap₂, ◌∙◌, subst}
use mathlib.Core.Bool.{true, false}
use mathlib.Core.List.{List, [], ◌∷◌, ◌++◌, map-append}
use Prim.Native.Nat.{ℕ, ◌+◌, ◌*◌, ◌≤◌, ◌<◌}
use native.Mathlib.Nat.{add-zero}
use native.Mathlib.Omega.{arith}
use lib.ListN.{length, take, drop, length-append, length-map}
use Rattle.theory.specs.declared.Order.{Order}
use Rattle.theory.specs.Tests.{ok}
use Rattle.theory.specs.Layout.{Row, Child, total, child_row, child_rows}
use Rattle.theory.proofs.TestLaws.{ok_inj}
use Rattle.theory.proofs.LayoutLaws.{length-child_rows}
use Rattle.theory.proofs.LoopLaws.{At, start, ended, prefix, reads}
use Rattle.note.specs.Limits.{file_limit, row_width}
use Rattle.note.specs.Words.{word}
use Rattle.note.specs.Records.{Record, Context, behind, record_rule, read_records}
use Rattle.note.specs.Rows.{child_of, children_of}
use Rattle.demands.proofs.Bundles.{record_item, same_record, same-records}
use Rattle.record.proofs.StepLaws.{Read, read-shows}
use Rattle.structures.specs.declared.Structure.{Structure}
use Rattle.structures.specs.declared.Sequence.{Sequence}
use Rattle.structures.specs.Standing.{stands, Given}
use Rattle.structures.proofs.StandingLaws.{none_over, given_fits, given_some, given_length, in_order}
use Rattle.containers.proofs.RecordLoop.{record_at, left, on}
use Rattle.rows.specs.declared.Row as code
use Rattle.rows.specs.declared.Values.{Values}
use Rattle.rows.specs.Buffers.{row_of, stored}
use Rattle.rows.specs.Values.{has_values, values_of}
use Rattle.rows.proofs.ValueLaws.{rule_has_values}
use Rattle.rows.proofs.StoreLaws.{stored-append, stored-nil, length-stored}
use Rattle.table.specs.Filling.{Fillable, Filled}

total-append : (xs : List Child) (c : Child) → total (xs ++ c ∷ []) ≡ total xs + c.size
total-append [] c = omega arith
total-append (x ∷ xs) c = omega (arith, total-append xs c)

rows_append : (p at : ℕ) (xs : List Child) (c : Child)
    → child_rows p at (xs ++ c ∷ []) ≡ child_rows p at xs ++ (child_row p (at + total xs) c ∷ [])
unfolding child_rows
rows_append p at [] c = rw (add-zero at)
rows_append p at (x ∷ xs) c =
    let e : at + x.size + total xs ≡ at + (x.size + total xs) = omega arith in
    ap (λ (l : List Row). child_row p at x ∷ l)
    (rows_append p (at + x.size) xs c ∙ ap (λ (q : ℕ). child_rows p (at + x.size) xs ++ (child_row p q c ∷ [])) e)

-- What is known at a turn, in one context: the records so far, the place behind them, and their rows in the buffer.
pub record FillingIn (o : Order) (s₀ : Context) (from : ℕ) (bs rows₀ : List ℕ) (first parent : ℕ) (rows : List ℕ) (s : Sequence) (n : ℕ)
    : Type 0 where
  pub state : Context
  pub xs : List Record
  pub is : At (record_item o) s₀ from bs state s.at s.rest.now xs
  pub here : s.at ≡ from + total (children_of o xs)
  pub row : n ≡ first + length xs
  pub held : rows ≡ stored rows₀ first (child_rows parent from (children_of o xs))

-- What is known at a turn: that, in each context in which the part is read.
pub record Filling (o : Order) (from : ℕ) (bs rows₀ : List ℕ) (first parent : ℕ) (rows : List ℕ) (s : Sequence) (n : ℕ) : Type 0 where
  pub order : s.order ≡ o
  pub in_each : (c : Context) (rs : List Record) → read_records o c from bs ≡ ok rs → FillingIn o c from bs rows₀ first parent rows s n

pub begin : (o : Order) (from : ℕ) (bs rows : List ℕ) (first parent : ℕ) (s : Sequence) → s.rest.now ≡ bs → s.at ≡ from → s.order ≡ o
    → Filling o from bs rows first parent rows s first
unfolding child_rows
begin o from bs rows first parent s eb ef eo = record {
  order = eo;
  in_each = λ c rs e. record {
    state = c;
    xs = [];
    is = rw (eb, ef) (start (record_item o) c from bs);
    here = omega (arith, ef);
    row = omega arith;
    held = sym (stored-nil rows first);
  };
}

-- The row that code stores for a record: its values, its structure's place and length, its parent's number.
abbrev put_row : Values → Structure → ℕ → code.Row
put_row v x parent = record { kind = v.kind; start = x.place; whole = 8 + length x.body.now; parent = parent; one = v.one; two = v.two }

-- In one context.
module _ {o : Order} {s₀ : Context} {from : ℕ} {bs rows₀ : List ℕ} {first parent : ℕ} {rows : List ℕ} {s : Sequence} {n : ℕ}
    (i : FillingIn o s₀ from bs rows₀ first parent rows s n) (rs : List Record) (w : read_records o s₀ from bs ≡ ok rs) where
  -- the rows so far
  abbrev old : List Row
  old = child_rows parent from (children_of o i.xs)

  abbrev rest : List ℕ
  rest = s.rest.now

  abbrev k : ℕ
  k = word o 0 rest

  abbrev m : ℕ
  m = word o 4 rest

  same_rows_in : length rows ≡ length rows₀
  same_rows_in = ap length i.held ∙ length-stored rows₀ first old

  -- what stands next was read
  shown : 0 < length rest → Read o i.state s.at rest k m
  shown l =
      let (a, e) = reads (record_item o) i.is l rs (sym (same-records o s₀ from bs) ∙ w) in
      (read-shows o i.state s.at rest a (same_record o i.state s.at rest ∙ e)).0

  done_in : stands o rest ≡ false → (rows ≡ stored rows₀ first (child_rows parent from (children_of o rs))) × (n ≡ first + length rs)
  done_in none =
      let over : length rest ≤ 0 = none_over o rest none (λ l. (shown l).fits) in
      let same : i.xs ≡ rs = ok_inj (ended (record_item o) i.is (omega (arith, over)) ∙ sym (same-records o s₀ from bs) ∙ w) in (
        i.held ∙ ap (λ (x : List Record). stored rows₀ first (child_rows parent from (children_of o x))) same,
        i.row ∙ ap (λ (x : List Record). first + length x) same,
      )

  module _ {t : Sequence} {x : Structure} (g : Given o s x t) where
    read : Read o i.state s.at rest k m
    read = shown (given_some g)

    abbrev this : Record
    this = record_at k m rest

    -- the loop behind it
    moved : At (record_item o) s₀ from bs (behind i.state k) t.at t.rest.now (i.xs ++ this ∷ [])
    moved =
        subst (λ (p : ℕ). At (record_item o) s₀ from bs (behind i.state k) p t.rest.now (i.xs ++ this ∷ [])) (sym g.at_is)
        (subst (λ (r : List ℕ). At (record_item o) s₀ from bs (behind i.state k) (s.at + (8 + m)) r (i.xs ++ this ∷ []))
        (sym (left (8 + m) rest) ∙ sym g.rest_is)
        (on i.is (given_some g) k m read (behind i.state k) refl))

    row_fits_in : (first + length rs) * row_width ≤ length rows₀ → n * row_width + row_width ≤ length rows
    row_fits_in h =
        let (zs, q) = prefix (record_item o) moved rs (sym (same-records o s₀ from bs) ∙ w) in
        omega (arith, ap length q, length-append (i.xs ++ this ∷ []) zs, length-append i.xs (this ∷ []), h, i.row, same_rows_in)

    -- its row, and the rows with it
    abbrev mine : Row
    mine = child_row parent (from + total (children_of o i.xs)) (child_of o this)

    with_this : children_of o (i.xs ++ this ∷ []) ≡ children_of o i.xs ++ (child_of o this ∷ [])
    with_this = map-append (child_of o) i.xs (this ∷ [])

    with_mine : child_rows parent from (children_of o (i.xs ++ this ∷ [])) ≡ old ++ (mine ∷ [])
    with_mine = ap (child_rows parent from) with_this ∙ rows_append parent from (children_of o i.xs) (child_of o this)

    row_is : n ≡ first + length old
    row_is = omega (arith, i.row, length-child_rows parent from (children_of o i.xs), length-map i.xs (child_of o))

    module _ (v : Values) (ev : v ≡ values_of o x.word x.body.now) where
      mine-is : row_of (put_row v x parent) ≡ mine
      unfolding child_of values_of row_of
      mine-is =
          let v-is : v ≡ values_of o k (take m (drop 8 rest)) = rw (g.word_is, g.body_is) at ev in
          rw (v-is, g.place_is, g.body_is, i.here)

      next_in : (rows' : List ℕ) → rows' ≡ stored rows n (row_of (put_row v x parent) ∷ [])
          → FillingIn o s₀ from bs rows₀ first parent rows' t (n + 1)
      unfolding child_of
      next_in rows' ew = record {
        state = behind i.state k;
        xs = i.xs ++ this ∷ [];
        is = moved;
        here = omega (arith, i.here, ap total with_this, total-append (children_of o i.xs) (child_of o this), read.size, g.at_is);
        row = omega (arith, i.row, length-append i.xs (this ∷ []));
        held = ew
            ∙ ap (λ (r : Row). stored rows n (r ∷ [])) mine-is
            ∙ ap₂ (λ (z : List ℕ) (y : ℕ). stored z y (mine ∷ [])) i.held row_is
            ∙ sym (stored-append rows₀ first old (mine ∷ []))
            ∙ ap (stored rows₀ first) (sym with_mine);
      }

-- At a turn of the loop over a part that can be filled.
module _ {o : Order} {from : ℕ} {bs rows₀ : List ℕ} {first parent : ℕ} {rows : List ℕ} {s : Sequence} {n : ℕ}
    (i : Filling o from bs rows₀ first parent rows s n) (p : Fillable o from bs (length rows₀) first) where
  abbrev here : FillingIn o p.context from bs rows₀ first parent rows s n
  here = i.in_each p.context p.records p.reads

  pub same_rows : length rows ≡ length rows₀
  same_rows = same_rows_in here p.records p.reads

  module _ {t : Sequence} {x : Structure} (given : Given s.order s x t) where
    g : Given o s x t
    g = in_order i.order given

    -- the record that stands next ends within the limit
    pub sized : x.place + (8 + length x.body.now) ≤ file_limit
    sized = omega (arith, g.place_is, given_length g, given_fits g, here.is.place, p.within)

    -- its body holds its row's values
    pub valued : (has_values o x.word x.body.now ≡ true) × (length x.body.now ≤ file_limit)
    valued =
        let follows : record_rule o (word o 0 s.rest.now) (take (word o 4 s.rest.now) (drop 8 s.rest.now)) ≡ 0 =
        (read here p.records p.reads g).follows in
        (rule_has_values o x.word x.body.now (rw (g.word_is, g.body_is) follows), omega (arith, sized))

    -- its row fits the buffer
    pub row_fits : n * row_width + row_width ≤ length rows
    row_fits = row_fits_in here p.records p.reads g p.fits

-- Behind a turn, and at the end.
module _ {o : Order} {from : ℕ} {bs rows₀ : List ℕ} {first parent : ℕ} {rows : List ℕ} {s : Sequence} {n : ℕ}
    (i : Filling o from bs rows₀ first parent rows s n) where
  pub next : {t : Sequence} {x : Structure} → Given s.order s x t → (v : Values) → v ≡ values_of o x.word x.body.now
      → (rows' : List ℕ) → rows' ≡ stored rows n (row_of (put_row v x parent) ∷ []) → Filling o from bs rows₀ first parent rows' t (n + 1)
  next given v ev rows' ew =
      let g = in_order i.order given in
      record { order = g.order_is ∙ i.order; in_each = λ c rs w. next_in (i.in_each c rs w) rs w g v ev rows' ew }

  pub done : stands s.order s.rest.now ≡ false → Filled o from bs rows₀ first parent rows n
  done none c rs w = done_in (i.in_each c rs w) rs w (ap (λ (q : Order). stands q s.rest.now) (sym i.order) ∙ none)
