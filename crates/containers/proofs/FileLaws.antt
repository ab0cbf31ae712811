-- One law for each way through check: the limit, the header's words, the configuration, the events.
-- The idea: the definition reads the same parts in the same order; what code cuts off the front is what the definition drops.
use mathlib.Core.Path.{◌≡◌, refl, sym, ap, ap₂, ◌∙◌}
use mathlib.Core.List.{List, [], ◌∷◌}
use Prim.Native.Nat.{ℕ, ◌+◌, ◌%◌, ◌≤◌, ◌<◌}
use native.Mathlib.Omega.{arith}
use lib.ListN.{length, drop, length-append, length-drop}
use borrow.Author.Tests.{le-leb, lt-leb, eq-eqb, ne_eqb}
use Rattle.theory.specs.declared.Order.{Order}
use Rattle.theory.specs.Words.{Bytes}
use Rattle.theory.specs.Tests.{Res, ok, bad, bind}
use Rattle.theory.proofs.WordLaws.{Bytes-drop}
use Rattle.note.specs.Limits.{file_limit}
use Rattle.note.specs.Words.{word}
use Rattle.note.specs.Records.{records_bytes}
use Rattle.note.specs.Events.{Container, container_bytes, container_size, events_bytes, read_events}
use Rattle.note.specs.Files.{Parts, file_mark, format}
use Rattle.note.specs.Files.{read_header, read_configuration, read_parts, order_of, read_file}
use Rattle.demands.proofs.Bundles.{events, same-events}
use Rattle.demands.proofs.RowLaws.{container_size_lem}
use Rattle.containers.specs.declared.Container.TheVariants.{Configuration}
use Rattle.containers.specs.declared.Holding.{Holding}
use Rattle.containers.specs.Counts.{count_of, container_step, rows_of_events, event_rows, part_rows, file_rows}
use Rattle.containers.proofs.RecordLoop.{behind_of, left, length-behind, Bytes-behind}
use Rattle.containers.proofs.ContainerLaws.{count-good, count-bad, holding_good, holding_bad, sized}
use Rattle.containers.proofs.EventLoop.{few}

-- Events have no more rows than bytes.
pub few_rows_lem : (o : Order) (es : List Container) → rows_of_events es ≤ length (events_bytes o es)
few_rows_lem o [] = omega arith
few_rows_lem o (e ∷ es) =
    omega (arith, length-append (container_bytes o e) (events_bytes o es), container_size_lem o e, few o e.body, few_rows_lem o es)

-- Over the limit; and within it what the parts give.
pub over : (bs : List ℕ) → file_limit < length bs → bad 1 0 ≡ file_rows (read_file bs)
unfolding read_file count_of
over bs h = rw (lt-leb (length bs) file_limit h)

pub within-limit : (bs : List ℕ) → length bs ≤ file_limit → part_rows (read_parts (order_of bs) bs) ≡ file_rows (read_file bs)
unfolding read_file count_of
within-limit bs h = rw (le-leb (length bs) file_limit h) (same (read_parts (order_of bs) bs))
  where
    same : (r : Res Parts) → part_rows r ≡ file_rows (bind r (λ p. ok (order_of bs, p)))
    same (ok p) = refl
    same (bad c p) = refl

-- Each test of the header that fails is the refusal; the tests before it have passed.
module _ (o : Order) (bs : List ℕ) where
  pub short : length bs < 8 → bad 2 0 ≡ part_rows (read_parts o bs)
  unfolding read_parts read_header count_of
  short l = rw (lt-leb 8 (length bs) l)

  module _ (l : 8 ≤ length bs) (w : ℕ) (ew : w ≡ word o 0 bs) where
    pub unmarked : (w ≡ file_mark → ⊥) → bad 3 0 ≡ part_rows (read_parts o bs)
    unfolding read_parts read_header count_of
    unmarked n = rw (le-leb 8 (length bs) l, ← ew, ne_eqb w file_mark n)

    pub other_format : w ≡ file_mark → (v : ℕ) → v ≡ word o 4 bs → (v % 65536 ≡ format → ⊥)
        → bad 4 0 ≡ part_rows (read_parts o bs)
    unfolding read_parts read_header count_of
    other_format m v ev n = rw (le-leb 8 (length bs) l, ← ew, eq-eqb w file_mark m, ← ev, ne_eqb (v % 65536) format n)

-- A file of bytes whose header passes each test.
pub record Headed (o : Order) (bs : List ℕ) : Type 0 where
  pub bytes : Bytes bs
  pub within : length bs ≤ file_limit
  pub room : 8 ≤ length bs
  pub marked : word o 0 bs ≡ file_mark
  pub formatted : word o 4 bs % 65536 ≡ format

-- What container_in answers behind the header, and events_in behind n bytes of entries.
abbrev configuration_answer : Order → List ℕ → Res Holding
configuration_answer o bs = container_step o (read_configuration o 8 (behind_of 8 bs))

abbrev pub events_answer : Order → List ℕ → ℕ → Res ℕ
events_answer o bs n = event_rows (read_events o (16 + n) (behind_of (16 + n) bs))

-- A file's parts by its version word, its configuration and its events; and what is read behind its header.
abbrev three : ℕ → Container → List Container → Res Parts
three v c es = ok (v, (c, es))

abbrev behind_header : Order → List ℕ → Res Parts
behind_header o bs =
    bind (read_configuration o 8 (drop 8 bs)) (λ c.
    bind (read_events o (8 + container_size o c) (drop (8 + container_size o c) bs)) (three (word o 4 bs) c))

headed-reads : {o : Order} {bs : List ℕ} → Headed o bs → read_parts o bs ≡ behind_header o bs
unfolding read_parts read_header
headed-reads {o} {bs} h =
    rw (
      le-leb 8 (length bs) h.room,
      eq-eqb (word o 0 bs) file_mark h.marked,
      eq-eqb (word o 4 bs % 65536) format h.formatted,
    )

-- Its configuration, with n bytes of entries, t of them.
pub record Configured (o : Order) (bs : List ℕ) (n t : ℕ) : Type 0 where
  pub headed : Headed o bs
  pub configuration : Container
  pub reads : read_configuration o 8 (drop 8 bs) ≡ ok configuration
  pub size : length (records_bytes o configuration.body) ≡ n
  pub entries : length configuration.body ≡ t
  pub fits : 16 + n ≤ length bs
  pub few_entries : t ≤ n

module _ {o : Order} {bs : List ℕ} (h : Headed o bs) where
  pub configuration-fault : (c p : ℕ) → bad c p ≡ configuration_answer o bs → bad c p ≡ part_rows (read_parts o bs)
  unfolding count_of
  configuration-fault c p q =
      let r : read_configuration o 8 (drop 8 bs) ≡ bad c p = ap (read_configuration o 8) (left 8 bs) ∙ holding_bad o _ c p q in
      rw (headed-reads h, r)

  pub configured : (holding : Holding) → ok holding ≡ configuration_answer o bs → Configured o bs holding.length holding.count
  configured holding q =
      let (c, r, k-is, n-is, t-is) = holding_good o (read_configuration o 8 (behind_of 8 bs)) holding q in
      let same : read_configuration o 8 (drop 8 bs) ≡ ok c = ap (read_configuration o 8) (left 8 bs) ∙ r in
      let (s, fit) = sized Configuration o 8 (drop 8 bs) c (Bytes-drop 8 bs h.bytes) same in
      record {
        headed = h;
        configuration = c;
        reads = same;
        size = n-is;
        entries = t-is;
        fits = omega (arith, length-drop 8 bs);
        few_entries = omega (arith, few o c.body);
      }

module _ {o : Order} {bs : List ℕ} {n t : ℕ} (i : Configured o bs n t) where
  -- What code hands to the events' reader is what the definition does.
  at-events : 8 + container_size o i.configuration ≡ 16 + n
  at-events = omega (arith, i.size)

  same-part : drop (8 + container_size o i.configuration) bs ≡ behind_of (16 + n) bs
  same-part = ap (λ (x : ℕ). drop x bs) at-events ∙ left (16 + n) bs

  -- The parts are read as the events are.
  parts-read : (r : Res (List Container)) → read_events o (16 + n) (behind_of (16 + n) bs) ≡ r
      → read_parts o bs ≡ bind r (three (word o 4 bs) i.configuration)
  parts-read r e =
      let r-is : read_events o (8 + container_size o i.configuration) (drop (8 + container_size o i.configuration) bs) ≡ r =
      ap₂ (read_events o) at-events same-part ∙ e in
      headed-reads i.headed ∙ rw (i.reads, r-is)

  pub events-fault : (c p : ℕ) → bad c p ≡ events_answer o bs n → bad c p ≡ part_rows (read_parts o bs)
  unfolding count_of
  events-fault c p e = rw (parts-read (bad c p) (count-bad rows_of_events e))

  module _ (x : ℕ) (e : ok x ≡ events_answer o bs n) where
    pub few_events : x ≤ length bs
    few_events =
        let z : List ℕ = behind_of (16 + n) bs in
        let (es, r, s) = count-good rows_of_events e in
        let by : Bytes z = Bytes-behind (16 + n) bs i.headed.bytes in
        let all : z ≡ events_bytes o es = ((events o).sound tt (16 + n) z es by (sym (same-events o tt (16 + n) z) ∙ r)).0 in
        omega (arith, few_rows_lem o es, ap length all, length-behind (16 + n) bs)

    pub whole : ok (2 + t + x) ≡ part_rows (read_parts o bs)
    unfolding count_of
    whole =
        let (es, r, s) = count-good rows_of_events e in
        rw (parts-read (ok es) r) (ap₂ (λ (a b : ℕ). ok (2 + a + b)) (sym i.entries) (sym s))
