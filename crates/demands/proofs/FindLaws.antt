-- Find gives the first: a trace that matches, and before it in file order none that does; or nothing, and none matches. It can be
-- read off the table.
-- The idea: the search runs down the list of a file's traces, which stand in file order, and which the rows tell of.
use mathlib.Core.Path.{◌≡◌, refl, sym, ap, ◌∙◌, subst}
use mathlib.Core.Logic.{◌↔◌}
use mathlib.Core.Bool.{Bool, true, false, cond, false≢true}
use mathlib.Core.List.{List, [], ◌∷◌, ◌++◌, append-nil}
use Prim.Native.Nat.{ℕ, ◌+◌, ◌≤◌}
use native.Mathlib.Omega.{arith}
use Rattle.theory.specs.declared.Order.{Order}
use Rattle.theory.specs.Words.{Bytes}
use Rattle.theory.specs.Tests.{ok, bad}
use Rattle.note.specs.Answers.{accepted, refused, counts}
use Rattle.note.specs.Records.{Record, record_size}
use Rattle.note.specs.Events.{Container, container_size}
use Rattle.note.specs.Files.{File, order_in, configuration_of, events_of, read_file}
use Rattle.note.specs.Rows.{rows_of}
use Rattle.note.specs.Calls.{TraceAt, kept_if, is_trace, traces_in, event_number, traces_from, traces_of, matches, first_match, find_at}
use Rattle.note.proofs.BoolLaws.{Tells, both_tell, eq_tells}
use Rattle.note.proofs.AnswerLaws.{counts_determined}
use Rattle.demands.specs.RowTraces.{row_traces, TraceMatches, NoneMatches, FirstMatch}
use Rattle.demands.proofs.Follows.{file_sound}
use Rattle.demands.proofs.TraceRows.{traces_are_rows}

module _ (number code : ℕ) where
  -- The search's test tells this.
  matches_tell : (t : TraceAt) → Tells (matches number code t) (TraceMatches number code t)
  matches_tell t = both_tell (eq_tells t.number number) (eq_tells t.code code)

  no_match : (t : TraceAt) → matches number code t ≡ false → TraceMatches number code t → ⊥
  no_match t e h = false≢true (sym e ∙ (matches_tell t).1 h)

  -- What the search gave, by induction on the list.
  pub found-is-first : (ts : List TraceAt) (place : ℕ) → first_match number code ts ≡ place ∷ [] → FirstMatch number code ts place
  unfolding first_match
  found-is-first [] place e = let z : ◌≡◌ {A = ℕ} 0 1 = cc in absurd (omega arith)
  found-is-first (t ∷ ts) place e = go (matches number code t) refl e (found-is-first ts place)
    where
      go : (b : Bool) → matches number code t ≡ b → cond b (t.place ∷ []) (first_match number code ts) ≡ place ∷ []
          → (first_match number code ts ≡ place ∷ [] → FirstMatch number code ts place) → FirstMatch number code (t ∷ ts) place
      go true m q rest =
          record { before = []; trace = t; later = ts; splits = refl; here = cc; fits = (matches_tell t).0 m; none_before = tt }
      go false m q rest =
          let r : FirstMatch number code ts place = rest q in
          record {
            before = t ∷ r.before;
            trace = r.trace;
            later = r.later;
            splits = ap (λ (l : List TraceAt). t ∷ l) r.splits;
            here = r.here;
            fits = r.fits;
            none_before = (no_match t m, r.none_before);
          }

  pub nothing-matches : (ts : List TraceAt) → first_match number code ts ≡ [] → NoneMatches number code ts
  unfolding first_match
  nothing-matches [] e = tt
  nothing-matches (t ∷ ts) e = go (matches number code t) refl e (nothing-matches ts)
    where
      go : (b : Bool) → matches number code t ≡ b → cond b (t.place ∷ []) (first_match number code ts) ≡ []
          → (first_match number code ts ≡ [] → NoneMatches number code ts) → NoneMatches number code (t ∷ ts)
      go true m q rest = let z : ◌≡◌ {A = ℕ} 0 1 = cc in absurd (omega arith)
      go false m q rest = (no_match t m, rest q)

  -- And back: the search passes over what isn't asked for, and stops at what is.
  passed_over : (before rest : List TraceAt) → NoneMatches number code before
      → first_match number code (before ++ rest) ≡ first_match number code rest
  unfolding first_match
  passed_over [] rest h = refl
  passed_over (t ∷ ts) rest h = go (matches number code t) refl (passed_over ts rest h.1)
    where
      go : (b : Bool) → matches number code t ≡ b → first_match number code (ts ++ rest) ≡ first_match number code rest
          → cond b (t.place ∷ []) (first_match number code (ts ++ rest)) ≡ first_match number code rest
      go true m q = absurd (h.0 ((matches_tell t).0 m))
      go false m q = q

  pub first-is-found : (ts : List TraceAt) (place : ℕ) → FirstMatch number code ts place → first_match number code ts ≡ place ∷ []
  unfolding first_match
  first-is-found ts place f =
      let stop : first_match number code (f.trace ∷ f.later) ≡ f.trace.place ∷ [] = rw ((matches_tell f.trace).1 f.fits) in
      ap (first_match number code) f.splits
      ∙ passed_over f.before (f.trace ∷ f.later) f.none_before
      ∙ stop
      ∙ ap (λ (n : ℕ). n ∷ []) f.here

  pub none-is-nothing : (ts : List TraceAt) → NoneMatches number code ts → first_match number code ts ≡ []
  unfolding first_match
  none-is-nothing ts h = ap (first_match number code) (sym (append-nil ts)) ∙ passed_over ts [] h

-- ---- where traces stand

-- Each stands from byte `low` on.
abbrev Behind : ℕ → List TraceAt → Type 0
Behind low [] = Unit {0}
Behind low (t ∷ ts) = (low ≤ t.place) × Behind low ts

module _ (o : Order) (low : ℕ) where
  behind_both : (xs ys : List TraceAt) → Behind low xs → Behind low ys → Behind low (xs ++ ys)
  behind_both [] ys a b = b
  behind_both (x ∷ xs) ys a b = (a.0, behind_both xs ys a.1 b)

  behind_last : (xs : List TraceAt) (t : TraceAt) (ys : List TraceAt) → Behind low (xs ++ t ∷ ys) → low ≤ t.place
  behind_last [] t ys h = h.0
  behind_last (x ∷ xs) t ys h = behind_last xs t ys h.1

  behind_kept : (keep : Bool) (t : TraceAt) (ts : List TraceAt) → low ≤ t.place → Behind low ts → Behind low (kept_if keep t ts)
  behind_kept true t ts l h = (l, h)
  behind_kept false t ts l h = h

  behind-records : (number at : ℕ) (rs : List Record) → low ≤ at → Behind low (traces_in o number at rs)
  unfolding traces_in
  behind-records number at [] l = tt
  behind-records number at (r ∷ rs) l =
      behind_kept (is_trace r) _ (traces_in o number (at + record_size r) rs) l (behind-records number (at + record_size r) rs (omega arith))

  behind-events : (at : ℕ) (es : List Container) → low ≤ at + 8 → Behind low (traces_from o at es)
  unfolding traces_from
  behind-events at [] l = tt
  behind-events at (e ∷ es) l =
      behind_both (traces_in o (event_number o e.body) (at + 8) e.body) (traces_from o (at + container_size o e) es)
      (behind-records (event_number o e.body) (at + 8) e.body l) (behind-events (at + container_size o e) es (omega arith))

-- ---- Find's answer

-- Of a file that is refused Find gives the refusal.
pub find_refused : (bs : List ℕ) (c p number code : ℕ) → read_file bs ≡ bad c p → find_at bs number code ≡ refused c p
unfolding find_at
find_refused bs c p number code e = rw e

-- An accepted file.
module _ (bs : List ℕ) (f : File) (e : read_file bs ≡ ok f) (number code : ℕ) where
  found_in : find_at bs number code ≡ accepted (counts (first_match number code (traces_of f)))
  unfolding find_at
  found_in = rw e

  -- What Find gives determines what the search gave.
  search_gave : (ns : List ℕ) → find_at bs number code ≡ accepted (counts ns) → first_match number code (traces_of f) ≡ ns
  search_gave ns q = counts_determined (first_match number code (traces_of f)) ns (sym found_in ∙ q)

  -- Find gives a place exactly where it is that of the first match (FORMAT 8.8), and nothing exactly where no trace matches.
  pub find_is_first : (place : ℕ) → (find_at bs number code ≡ accepted (counts (place ∷ []))) ↔ FirstMatch number code (traces_of f) place
  find_is_first place = (
    λ q. found-is-first number code (traces_of f) place (search_gave (place ∷ []) q),
    λ m. found_in ∙ ap (λ (ns : List ℕ). accepted (counts ns)) (first-is-found number code (traces_of f) place m),
  )

  pub find_nothing : (find_at bs number code ≡ accepted []) ↔ NoneMatches number code (traces_of f)
  find_nothing = (
    λ q. nothing-matches number code (traces_of f) (search_gave [] q),
    λ n. found_in ∙ ap (λ (ns : List ℕ). accepted (counts ns)) (none-is-nothing number code (traces_of f) n),
  )

  -- Find looks at nothing of an accepted file but its rows.
  pub find_by_rows : Bytes bs → find_at bs number code ≡ accepted (counts (first_match number code (row_traces (rows_of f) (rows_of f))))
  find_by_rows h =
      found_in ∙ ap (λ (ts : List TraceAt). accepted (counts (first_match number code ts))) (traces_are_rows f (file_sound bs f h e).1)

  -- Header, configuration and the event's own words stand before any trace: a place that is found is never 0, which tells C of nothing.
  pub found-behind-header : (place : ℕ) → find_at bs number code ≡ accepted (counts (place ∷ [])) → 24 ≤ place
  unfolding traces_of
  found-behind-header place q =
      let m : FirstMatch number code (traces_of f) place = (find_is_first place).0 q in
      let all : Behind 24 (traces_of f) =
      behind-events (order_in f) 24 (8 + container_size (order_in f) (configuration_of f)) (events_of f) (omega arith) in
      let there : 24 ≤ m.trace.place =
      behind_last (order_in f) 24 m.before m.trace m.later (subst (Behind 24) m.splits all) in
      omega (arith, m.here)
