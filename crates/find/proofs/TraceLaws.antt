-- The search over an event's records: what is known at each turn, and what each way of a turn leads to.
-- The idea: the whole is known to be read, so what stands next is read too; the first match of what is still to be searched is the
-- first match of all, and a record that doesn't match is left out without loss.
use mathlib.Core.Path.{◌≡◌, refl, sym, ap, ap₂, ◌∙◌, subst}
use mathlib.Core.Bool.{Bool, false}
use mathlib.Core.List.{List, [], ◌∷◌, ◌++◌}
use Prim.Native.Nat.{ℕ, ◌+◌, ◌≤◌, ◌<◌}
use native.Mathlib.Decide.{ℕ_discrete}
use native.Mathlib.Omega.{arith}
use lib.Dec.{eqb}
use lib.ListN.{length, drop, length-drop}
use borrow.Author.Tests.{eq-eqb, ne_eqb}
use Rattle.theory.specs.declared.Order.{Order}
use Rattle.theory.specs.Words.{Bytes}
use Rattle.theory.specs.Tests.{ok}
use Rattle.theory.proofs.WordLaws.{Bytes-drop}
use Rattle.theory.proofs.LoopLaws.{Ahead, ahead, none_read}
use Rattle.note.specs.Limits.{file_limit}
use Rattle.note.specs.Words.{word}
use Rattle.note.specs.Trace.{trace_kind, trace_of}
use Rattle.note.specs.Records.{Record, Context, behind, record_size, record_rule, kind_of, read_records}
use Rattle.note.specs.Calls.{TraceAt, kept_if, traces_in, first_match}
use Rattle.demands.proofs.Bundles.{record_item, same_record, same-records}
use Rattle.rules.proofs.LengthLaws.{long_enough}
use Rattle.record.proofs.StepLaws.{Read, read-shows}
use Rattle.structures.specs.declared.Structure.{Structure}
use Rattle.structures.specs.declared.Sequence.{Sequence}
use Rattle.structures.specs.Standing.{stands, Given}
use Rattle.structures.proofs.StandingLaws.{none_over, given_fits, given_some, given_length, in_order}
use Rattle.containers.proofs.RecordLoop.{record_at}

-- Records fill what is left, and the first match among their traces and the later ones is the answer.
pub record Looking (o : Order) (number code : ℕ) (answer : List ℕ) (later : List TraceAt) (s : Sequence) : Type 0 where
  pub order : s.order ≡ o
  pub state : Context
  pub rs : List Record
  pub reads : read_records o state s.at s.rest.now ≡ ok rs
  pub still : first_match number code (traces_in o number s.at rs ++ later) ≡ answer
  pub within : s.at + length s.rest.now ≤ file_limit
  pub bytes : Bytes s.rest.now

module _ {o : Order} {number code : ℕ} {answer : List ℕ} {later : List TraceAt} {s : Sequence} (i : Looking o number code answer later s) where
  abbrev bs : List ℕ
  bs = s.rest.now

  front : 0 < length bs → Ahead (record_item o) i.state s.at bs i.rs
  front l = ahead (record_item o) i.state s.at bs i.rs i.bytes l (sym (same-records o i.state s.at bs) ∙ i.reads)

  shown : (l : 0 < length bs) → Read o i.state s.at bs (word o 0 bs) (word o 4 bs) × ((front l).item ≡ record_at (word o 0 bs) (word o 4 bs) bs)
  shown l = read-shows o i.state s.at bs (front l).item (same_record o i.state s.at bs ∙ (front l).reads_item)

  pub looked : stands s.order bs ≡ false → first_match number code later ≡ answer
  unfolding traces_in
  looked none =
      let none_here : stands o bs ≡ false = ap (λ (q : Order). stands q bs) (sym i.order) ∙ none in
      let over : length bs ≤ 0 = none_over o bs none_here (λ l. (shown l).0.fits) in
      let none_left : i.rs ≡ [] = none_read (record_item o) i.state s.at bs i.rs over (sym (same-records o i.state s.at bs) ∙ i.reads) in
      ap (λ (rs : List Record). first_match number code (traces_in o number s.at rs ++ later)) (sym none_left) ∙ i.still

  -- The record that was given, and those behind it.
  module _ {t : Sequence} {x : Structure} (given : Given s.order s x t) where
    g : Given o s x t
    g = in_order i.order given

    next : Ahead (record_item o) i.state s.at bs i.rs
    next = front (given_some g)

    abbrev this : Record
    this = record { word = x.word; body = x.body.now }

    this_is : next.item ≡ this
    unfolding next
    this_is = (shown (given_some g)).1 ∙ (λ j. record { word = sym g.word_is j; body = sym g.body_is j })

    size_is : record_size next.item ≡ 8 + word o 4 bs
    size_is = ap record_size this_is ∙ ap (λ (n : ℕ). 8 + n) (given_length g)

    at_is : t.at ≡ s.at + record_size this
    at_is = omega (arith, g.at_is, given_length g)

    abbrev trace : TraceAt
    trace = record { number = number; code = word o 16 x.body.now; place = x.place }

    abbrev others : List TraceAt
    others = traces_in o number t.at next.others

    split : first_match number code (kept_if (eqb x.word trace_kind.word) trace others ++ later) ≡ answer
    unfolding traces_in trace_of
    split =
        let is : Bool = eqb x.word trace_kind.word in
        let both : i.rs ≡ this ∷ next.others = next.splits ∙ ap (λ (r : Record). r ∷ next.others) this_is in
        ap₂ (λ (p q : ℕ).
        first_match number code (
        kept_if is (record { number = number; code = word o 16 x.body.now; place = p }) (traces_in o number q next.others) ++ later))
        g.place_is at_is
        ∙ ap (λ (rs : List Record). first_match number code (traces_in o number s.at rs ++ later)) (sym both) ∙ i.still

    -- a trace has room for the words before its samples
    pub trace_long : x.word ≡ trace_kind.word → 48 ≤ length x.body.now
    unfolding kind_of
    trace_long k =
        let follows : record_rule o x.word x.body.now ≡ 0 = rw (g.word_is, g.body_is) ((shown (given_some g)).0.follows) in
        long_enough o trace_kind.word x.body.now (subst (λ (w : ℕ). record_rule o w x.body.now ≡ 0) k follows)

    pub hit : x.word ≡ trace_kind.word → word o 16 x.body.now ≡ code → x.place ∷ [] ≡ answer
    unfolding first_match
    hit k c =
        rw (eq-eqb x.word trace_kind.word k, eq-eqb number number refl, eq-eqb (word o 16 x.body.now) code c) at split

    -- a record that is no trace of the code
    missed : (x.word ≡ trace_kind.word → word o 16 x.body.now ≡ code → ⊥) → first_match number code (others ++ later) ≡ answer
    unfolding first_match
    missed d = elim (ℕ_discrete x.word trace_kind.word) [
      | yes k ↦ rw (eq-eqb x.word trace_kind.word k, eq-eqb number number refl, ne_eqb (word o 16 x.body.now) code (d k)) at split
      | no k ↦ rw (ne_eqb x.word trace_kind.word k) at split
    ]

    pub past : (x.word ≡ trace_kind.word → word o 16 x.body.now ≡ code → ⊥) → Looking o number code answer later t
    past d =
        let n : ℕ = record_size next.item in
        let c : Context = behind i.state next.item.word in
        let at-is : t.at ≡ s.at + n = g.at_is ∙ ap (λ (q : ℕ). s.at + q) (sym size_is) in
        let rest-is : t.rest.now ≡ drop n bs = g.rest_is ∙ ap (λ (q : ℕ). drop q bs) (sym size_is) in
        record {
          order = g.order_is ∙ i.order;
          state = c;
          rs = next.others;
          reads = ap₂ (read_records o c) at-is rest-is ∙ same-records o c (s.at + n) (drop n bs) ∙ next.reads-others;
          still = missed d;
          within = omega (arith, i.within, g.at_is, ap length g.rest_is, length-drop (8 + word o 4 bs) bs, given_fits g);
          bytes = subst Bytes (sym g.rest_is) (Bytes-drop (8 + word o 4 bs) bs i.bytes);
        }
