-- The search over events: what is known at each turn, and what each way of a turn leads to.
-- The idea: as over records (TraceLaws); an event's first record carries its number, and the search of its records says what it adds.
use mathlib.Core.Path.{◌≡◌, refl, sym, ap, ap₂, ◌∙◌, subst}
use mathlib.Core.Bool.{Bool, true, false}
use mathlib.Core.List.{List, [], ◌∷◌, ◌++◌}
use Prim.Native.Nat.{ℕ, ◌+◌, ◌≤◌, ◌<◌}
use native.Mathlib.Omega.{arith}
use lib.ListN.{length, take, drop, length-drop}
use borrow.Author.Tests.{ne_eqb}
use Rattle.theory.specs.declared.Order.{Order}
use Rattle.theory.specs.Words.{Bytes}
use Rattle.theory.specs.Tests.{Res, ok}
use Rattle.theory.proofs.WordLaws.{word_of_part, Bytes-part, Bytes-drop}
use Rattle.theory.proofs.LoopLaws.{Ahead, ahead, none_read}
use Rattle.note.specs.Limits.{file_limit}
use Rattle.note.specs.Words.{word}
use Rattle.note.specs.Administrative.{administrative_kind, administrative_of}
use Rattle.note.specs.Trace.{trace_of}
use Rattle.note.specs.Records.{Record, event, unseen, record_size, record_rule, kind_of, read_records}
use Rattle.note.specs.Events.{Container, container_size, read_events}
use Rattle.note.specs.Calls.{TraceAt, is_trace, kept_if, traces_in, traces_from, event_number, first_match}
use Rattle.demands.specs.Valid.{ValidRecord, ValidEvent}
use Rattle.demands.proofs.Bundles.{record_item, event_item, same_record, same-records, same-events, record_valid, event-valid}
use Rattle.demands.proofs.EventLaws.{first-administrative}
use Rattle.rules.proofs.LengthLaws.{long_enough}
use Rattle.record.proofs.StepLaws.{Read, read-shows, cut}
use Rattle.structures.specs.declared.Structure.{Structure}
use Rattle.structures.specs.declared.Sequence.{Sequence}
use Rattle.structures.specs.Standing.{stands, Given}
use Rattle.structures.proofs.StandingLaws.{none_over, given_fits, given_some, given_length, in_order}
use Rattle.containers.proofs.RecordLoop.{record_at}
use Rattle.containers.proofs.EventLoop.{Shown, event-shows}
use Rattle.find.specs.Search.{Searchable, traces_read}
use Rattle.find.proofs.TraceLaws.{Looking}

-- An event of another number has no match.
other_number : (o : Order) (number code n : ℕ) → (n ≡ number → ⊥) → (at : ℕ) (rs : List Record) (ts : List TraceAt)
    → first_match number code (traces_in o n at rs ++ ts) ≡ first_match number code ts
unfolding traces_in first_match
other_number o number code n d at [] ts = refl
other_number o number code n d at (r ∷ rs) ts = go (is_trace r) (other_number o number code n d (at + record_size r) rs ts)
  where
    t : TraceAt
    t = record { number = n; code = (trace_of o r.body).code; place = at }

    more : List TraceAt
    more = traces_in o n (at + record_size r) rs

    go : (b : Bool) → first_match number code (more ++ ts) ≡ first_match number code ts
        → first_match number code (kept_if b t more ++ ts) ≡ first_match number code ts
    go true e = rw (ne_eqb n number d) e
    go false e = e

-- Events fill what is left, and the first match among their traces is the answer.
pub record Searching (o : Order) (number code : ℕ) (answer : List ℕ) (s : Sequence) : Type 0 where
  pub order : s.order ≡ o
  pub es : List Container
  pub reads : read_events o s.at s.rest.now ≡ ok es
  pub still : first_match number code (traces_from o s.at es) ≡ answer
  pub within : s.at + length s.rest.now ≤ file_limit
  pub bytes : Bytes s.rest.now

-- The traces among the events that are left.
abbrev pub later_traces : Order → Sequence → List TraceAt
later_traces o s = traces_read o s.at (read_events o s.at s.rest.now)

pub begin : (o : Order) (number code from : ℕ) (bs : List ℕ) → Searchable o from bs → Bytes bs
    → (s : Sequence) → s.rest.now ≡ bs → s.at ≡ from → s.order ≡ o
    → Searching o number code (first_match number code (traces_read o from (read_events o from bs))) s
unfolding traces_read
begin o number code from bs p h s eb ef eo = record {
  order = eo;
  es = p.events;
  reads = rw (eb, ef) p.reads;
  still =
      ap (λ (q : ℕ). first_match number code (traces_from o q p.events)) ef
      ∙ ap (λ (r : Res (List Container)). first_match number code (traces_read o from r)) (sym p.reads);
  within = omega (arith, ap length eb, ef, p.within);
  bytes = rw eb h;
}

module _ {o : Order} {number code : ℕ} {answer : List ℕ} {s : Sequence} (i : Searching o number code answer s) where
  abbrev bs : List ℕ
  bs = s.rest.now

  front_event : 0 < length bs → Ahead (event_item o) tt s.at bs i.es
  front_event l = ahead (event_item o) tt s.at bs i.es i.bytes l (sym (same-events o tt s.at bs) ∙ i.reads)

  shown_event : (l : 0 < length bs) → Shown o s.at bs (front_event l).item
  shown_event l = event-shows o s.at bs (front_event l).item i.bytes (front_event l).reads_item

  pub searched : stands s.order bs ≡ false → [] ≡ answer
  unfolding traces_from first_match
  searched none =
      let none_here : stands o bs ≡ false = ap (λ (q : Order). stands q bs) (sym i.order) ∙ none in
      let over : length bs ≤ 0 = none_over o bs none_here (λ l. (shown_event l).fits) in
      let none_left : i.es ≡ [] = none_read (event_item o) tt s.at bs i.es over (sym (same-events o tt s.at bs) ∙ i.reads) in
      ap (λ (es : List Container). first_match number code (traces_from o s.at es)) (sym none_left) ∙ i.still

  -- The event that was given, and those behind it.
  module _ {t : Sequence} {x : Structure} (given : Given s.order s x t) where
    g : Given o s x t
    g = in_order i.order given

    next : Ahead (event_item o) tt s.at bs i.es
    next = front_event (given_some g)

    shown : Shown o s.at bs next.item
    unfolding next
    shown = shown_event (given_some g)

    abbrev inner : List ℕ
    inner = x.body.now

    inner_length : length inner ≡ word o 4 bs
    inner_length = given_length g

    inner_bytes : Bytes inner
    inner_bytes = subst Bytes (sym g.body_is) (Bytes-part (word o 4 bs) 8 bs i.bytes)

    contents : read_records o (event unseen) (s.at + 8) inner ≡ ok next.item.body
    contents = ap (read_records o (event unseen) (s.at + 8)) (g.body_is ∙ sym (cut (word o 4 bs) bs)) ∙ shown.contents

    -- its first record, which is administrative
    inner_front : Ahead (record_item o) (event unseen) (s.at + 8) inner next.item.body
    inner_front =
        let e : Container = next.item in
        let v : ValidEvent o e = event-valid o e ((event_item o).sound tt s.at bs e i.bytes next.reads_item).1 in
        ahead (record_item o) (event unseen) (s.at + 8) inner e.body inner_bytes (omega (arith, v.not_empty, shown.size, inner_length))
        (sym (same-records o (event unseen) (s.at + 8) inner) ∙ contents)

    first_shown : Read o (event unseen) (s.at + 8) inner (word o 0 inner) (word o 4 inner)
        × (inner_front.item ≡ record_at (word o 0 inner) (word o 4 inner) inner)
    first_shown =
        read-shows o (event unseen) (s.at + 8) inner inner_front.item (same_record o (event unseen) (s.at + 8) inner ∙ inner_front.reads_item)

    first_room : 24 ≤ length inner_front.item.body
    unfolding kind_of
    first_room =
        let r : Record = inner_front.item in
        let good = ((record_item o).sound (event unseen) (s.at + 8) inner r inner_bytes inner_front.reads_item).1 in
        let v : ValidRecord o (event unseen) r = record_valid o (event unseen) r good in
        long_enough o administrative_kind.word r.body
        (subst (λ (w : ℕ). record_rule o w r.body ≡ 0) (first-administrative o r v) v.body-rule)

    -- there is room for it; its number is the contents' word 16
    pub first_long : 32 ≤ length x.body.now
    first_long = omega (arith, first_room, ap (λ (r : Record). length r.body) first_shown.1, first_shown.0.size, first_shown.0.fits)

    number_is : event_number o next.item.body ≡ word o 16 inner
    unfolding administrative_of
    number_is =
        let body_is : inner_front.item.body ≡ take (word o 4 inner) (drop 8 inner) = ap (λ (r : Record). r.body) first_shown.1 in
        ap (event_number o) inner_front.splits
        ∙ ap (word o 8) body_is
        ∙ word_of_part o 4 8 8 (word o 4 inner) inner (omega (arith, first_room, ap length body_is))

    -- behind the event
    abbrev n : ℕ
    n = container_size o next.item

    size_is : n ≡ 8 + word o 4 bs
    size_is = ap (λ (m : ℕ). 8 + m) shown.size

    at_is : t.at ≡ s.at + n
    at_is = g.at_is ∙ ap (λ (q : ℕ). s.at + q) (sym size_is)

    reads_behind : read_events o t.at t.rest.now ≡ ok next.others
    reads_behind =
        let rest_is : t.rest.now ≡ drop n bs = g.rest_is ∙ ap (λ (q : ℕ). drop q bs) (sym size_is) in
        ap₂ (read_events o) at_is rest_is ∙ same-events o tt (s.at + n) (drop n bs) ∙ next.reads-others

    abbrev mine : List TraceAt
    mine = traces_in o (word o 16 inner) (x.place + 8) next.item.body

    abbrev later : List TraceAt
    later = traces_from o t.at next.others

    split_event : first_match number code (mine ++ later) ≡ answer
    unfolding traces_from
    split_event =
        let rs : List Record = next.item.body in
        ap₂ (λ (w p : ℕ). first_match number code (traces_in o w (p + 8) rs ++ later)) (sym number_is) g.place_is
        ∙ ap (λ (p : ℕ). first_match number code (traces_in o (event_number o rs) (s.at + 8) rs ++ traces_from o p next.others)) at_is
        ∙ ap (λ (es : List Container). first_match number code (traces_from o s.at es)) (sym next.splits)
        ∙ i.still

    -- its events are the later ones
    later_is : later_traces o t ≡ later
    unfolding traces_read
    later_is = ap (traces_read o t.at) reads_behind

    -- into an event of the number
    pub into : word o 16 x.body.now ≡ number → (u : Sequence) → u.rest.now ≡ x.body.now → u.at ≡ x.place + 8 → u.order ≡ o
        → Looking o number code answer (later_traces o t) u
    into same u eb ef eo =
        let rs : List Record = next.item.body in
        let place : u.at ≡ s.at + 8 = ef ∙ ap (λ (p : ℕ). p + 8) g.place_is in
        record {
          order = eo;
          state = event unseen;
          rs = rs;
          reads = ap₂ (read_records o (event unseen)) place eb ∙ contents;
          still = ap₂ (λ (p : ℕ) (ts : List TraceAt). first_match number code (traces_in o number p rs ++ ts)) ef later_is
              ∙ ap (λ (w : ℕ). first_match number code (traces_in o w (x.place + 8) rs ++ later)) (sym same) ∙ split_event;
          within = omega (arith, ap length eb, ef, g.place_is, inner_length, given_fits g, i.within);
          bytes = subst Bytes (sym eb) inner_bytes;
        }

    -- past an event in which nothing matches
    pub past_event : first_match number code (later_traces o t) ≡ answer → Searching o number code answer t
    past_event e = record {
      order = g.order_is ∙ i.order;
      es = next.others;
      reads = reads_behind;
      still = ap (first_match number code) (sym later_is) ∙ e;
      within = omega (arith, i.within, g.at_is, ap length g.rest_is, length-drop (8 + word o 4 bs) bs, given_fits g);
      bytes = subst Bytes (sym g.rest_is) (Bytes-drop (8 + word o 4 bs) bs i.bytes);
    }

    pub past_other : (word o 16 x.body.now ≡ number → ⊥) → Searching o number code answer t
    past_other d =
        past_event (ap (first_match number code) later_is
        ∙ sym (other_number o number code (word o 16 inner) d (x.place + 8) next.item.body later) ∙ split_event)

    -- the records of the event that was given can be gone through
    pub event_ends : x.place + (8 + length x.body.now) ≤ file_limit
    event_ends = omega (arith, g.place_is, inner_length, given_fits g, i.within)
