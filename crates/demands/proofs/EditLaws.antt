-- One byte changed inside a trace's samples: what the file is then, row by row and call by call.
-- The idea: the theory's law of a free byte gives the new file; the rows and the records beside them differ in one record alone, whose
-- rule, row and fields are blind to the byte; so what each call reads at a row can differ at that record's one sample only.
use mathlib.Core.Path.{◌≡◌, refl, sym, ap, ap₂, ◌∙◌, subst}
use mathlib.Core.Logic.{◌≢◌}
use mathlib.Core.Bool.{Bool, true, false, cond, ◌&&◌}
use mathlib.Core.List.{List, [], ◌∷◌, ◌++◌, map, append_assoc}
use mathlib.Core.Option.{Option, some, none}
use Prim.Native.Nat.{ℕ, zero, suc, ◌+◌, ◌-◌, ◌*◌, ◌/◌, ◌%◌, ◌≤◌, ◌<◌}
use native.Mathlib.Omega.{arith}
use lib.Dec.{leb, eqb}
use lib.ListN.{length, drop, get_or, set, length-append, length-drop, length-set}
use lib.Seq.{get_or_at, get_or-drop, get_or-set_same, get_or-set_other, drop-set-add}
use borrow.Author.Tests.{eqb-true, eqb-false, leb-true, le-leb}
use Rattle.theory.specs.declared.Order.{Order}
use Rattle.theory.specs.Words.{Bytes}
use Rattle.theory.specs.Tests.{ok}
use Rattle.theory.specs.Layout.{Row, Child, Node, box, row}
use Rattle.theory.proofs.WordLaws.{Bytes-set, Bytes-drop, Bytes-at, set-append-add}
use Rattle.theory.proofs.Items.{Oks, steps, Oks-append}
use Rattle.theory.proofs.FreeLaws.{Spot, box_at, plug, edited, Free, free_bytes, free_valid}
use Rattle.note.specs.Limits.{file_limit}
use Rattle.note.specs.Words.{word, byte_at}
use Rattle.note.specs.Answers.{Given, accepted, refused, counts}
use Rattle.note.specs.Trace.{trace_kind, trace_of, trace_rule, sample_in}
use Rattle.note.specs.Records.{Record, event, unseen, record_head, record_late, record_rule, next_context, record_size, records_bytes, kind_of}
use Rattle.note.specs.Events.{Container, container_bytes, container_size, event_word_rule, event_late, events_bytes}
use Rattle.note.specs.Files.{File, order_in, configuration_of, header_bytes, file_bytes, read_file}
use Rattle.note.specs.Rows.{child_of, children_of, event_node, nodes_of, rows_of}
use Rattle.note.specs.Calls.{record_found, record_at, setting_at, samples_part, samples_at, sample_at}
use Rattle.note.proofs.TraceLaws.{trace-length, trace_blind, trace_row_blind, trace_values_blind}
use Rattle.note.proofs.TraceLaws.{sample_is_bytes, changed_is_bytes, sample_stays, byte_at_twice, byte_inside}
use Rattle.demands.specs.Valid.{ValidRecord, Valid}
use Rattle.demands.specs.RowRecords.{found_as}
use Rattle.demands.specs.Edited.{start_of, pair, half_replaced, replaced}
use Rattle.demands.proofs.Bundles.{record_item, event_item, header_item, record_valid}
use Rattle.demands.proofs.Follows.{parts-ok, parts-valid, file_complete}
use Rattle.demands.proofs.RowLaws.{container_size_lem}
use Rattle.demands.proofs.ContentLaws.{record_at_row}
use Rattle.demands.proofs.PartLaws.{byte-found, samples-given}
use Rattle.demands.proofs.SpotLaws.{records_before, records_after, place_of, records-split}
use Rattle.note.specs.Faults.{too_short}
use Rattle.note.proofs.FaultLaws.{short-some}
use Rattle.theory.proofs.StructureLaws.{stateless}

-- ---- one record among the rows' records

-- what stands elsewhere in a list does not depend on the element at its seam
elsewhere : {A : Type 0} (d a b : A) (xs ys : List A) (k : ℕ) → k ≢ length xs → get_or (xs ++ a ∷ ys) k d ≡ get_or (xs ++ b ∷ ys) k d
elsewhere d a b [] ys zero h = absurd (h refl)
elsewhere d a b [] ys (suc k) h = refl
elsewhere d a b (x ∷ xs) ys zero h = refl
elsewhere d a b (x ∷ xs) ys (suc k) h = elsewhere d a b xs ys k (λ e. h (ap suc e))

-- Beside the rows of a file that has the record r at the spot p: what stands at row k.
abbrev beside : Container → Spot → Record → ℕ → Option Record
beside c p r k = get_or (records_before c p ++ (some r ∷ records_after p)) k none

-- And that is what Record finds there.
found_at : (o : Order) (v : ℕ) (c : Container) (p : Spot) (r : Record) (bs : List ℕ) → Bytes bs → read_file bs ≡ ok (o, (v, (c, plug p r)))
    → (k : ℕ) → k < length (rows_of (o, (v, (c, plug p r))))
    → record_found o bs (start_of (o, (v, (c, plug p r))) k) ≡ found_as (start_of (o, (v, (c, plug p r))) k) (beside c p r k)
found_at o v c p r bs h e k l =
    let f : File = (o, (v, (c, plug p r))) in
    record_at_row bs f h e k l
    ∙ ap (λ (ls : List (Option Record)). found_as (start_of f k) (get_or ls k none)) (records-split o v c p r)

-- ---- one byte of a sample

-- Byte i of the samples b becomes x: where the two bytes of the sample that holds it stand, and the number that they spell.
module _ (o : Order) (b : List ℕ) (i x : ℕ) (h : Bytes b) (l : i < length b) where
  abbrev p : ℕ
  p = 2 * (byte_at o i / 2 + 1 - 1)

  abbrev spelled : List ℕ → ℕ
  spelled s = get_or s (byte_at o p) 0 + 256 * get_or s (byte_at o (p + 1)) 0

  lower : get_or b (byte_at o p) 0 < 256
  lower = Bytes-at b (byte_at o p) h

  -- A byte that counts as i's does stands where byte i stands, and no other does.
  stands : (q : ℕ) → q ≡ byte_at o i → byte_at o q ≡ i
  stands q e = ap (byte_at o) e ∙ byte_at_twice o i

  apart : (q : ℕ) → q ≢ byte_at o i → byte_at o q ≢ i
  apart q e w = e (sym (byte_at_twice o q) ∙ ap (byte_at o) w)

  -- The byte there before and after, and another byte.
  new_there : (q : ℕ) → q ≡ byte_at o i → get_or (set b i x) (byte_at o q) 0 ≡ x
  new_there q e = ap (λ (z : ℕ). get_or (set b i x) z 0) (stands q e) ∙ get_or-set_same b i x 0 l

  old_there : (q : ℕ) → q ≡ byte_at o i → get_or b (byte_at o q) 0 ≡ get_or b i 0
  old_there q e = ap (λ (z : ℕ). get_or b z 0) (stands q e)

  kept_there : (q : ℕ) → q ≢ byte_at o i → get_or (set b i x) (byte_at o q) 0 ≡ get_or b (byte_at o q) 0
  kept_there q e = get_or-set_other b i (byte_at o q) x 0 (apart q e)

  pair-replaced : spelled (set b i x) ≡ replaced (byte_at o i) x (spelled b)
  pair-replaced = go (eqb (byte_at o i % 2) 0) refl
    where
      go : (t : Bool) → eqb (byte_at o i % 2) 0 ≡ t → spelled (set b i x) ≡ half_replaced t x (spelled b)
      go true e =
          let even : byte_at o i % 2 ≡ 0 = eqb-true (byte_at o i % 2) 0 e in
          omega (arith, new_there p (omega arith), kept_there (p + 1) (λ w. omega arith), lower)
      go false e =
          let odd : byte_at o i % 2 ≢ 0 = eqb-false (byte_at o i % 2) 0 e in
          omega (arith, new_there (p + 1) (omega arith), kept_there p (λ w. omega arith), lower)

  replaced-differs : x ≢ get_or b i 0 → replaced (byte_at o i) x (spelled b) ≢ spelled b
  replaced-differs differs = go (eqb (byte_at o i % 2) 0) refl
    where
      go : (t : Bool) → eqb (byte_at o i % 2) 0 ≡ t → half_replaced t x (spelled b) ≢ spelled b
      go true e w =
          let even : byte_at o i % 2 ≡ 0 = eqb-true (byte_at o i % 2) 0 e in
          differs (omega (arith, old_there p (omega arith), lower, w))
      go false e w =
          let odd : byte_at o i % 2 ≢ 0 = eqb-false (byte_at o i % 2) 0 e in
          differs (omega (arith, old_there (p + 1) (omega arith), lower, w))

-- ---- the file with the byte changed

-- Row j of the valid file f, whose bytes are bs, is the trace t of the spot p; byte m of its body, inside the samples, becomes the byte x.
pub record Edit (bs : List ℕ) (f : File) (p : Spot) (t : Record) (j m x : ℕ) : Type 0 where
  pub valid : Valid f
  pub is : bs ≡ file_bytes f
  pub bytes : Bytes bs
  pub below : j < length (rows_of f)
  pub trace : (row (rows_of f) j).kind ≡ 7
  pub here : j ≡ length (records_before (configuration_of f) p)
  pub start : start_of f j ≡ place_of (order_in f) (configuration_of f) p
  pub whole : (row (rows_of f) j).whole ≡ record_size t
  pub kind : t.word ≡ trace_kind.word
  pub from : 48 ≤ m
  pub inside : m < length t.body
  pub byte : x < 256

module _ {o : Order} {bs : List ℕ} {v : ℕ} {c : Container} {p : Spot} {t : Record} {j m x : ℕ}
    (d : Edit bs (o, (v, (c, plug p t))) p t j m x) where
  abbrev pub old : File
  old = (o, (v, (c, plug p t)))

  -- The trace afterwards, and the file with it.
  abbrev t' : Record
  t' = edited t m x

  abbrev pub new : File
  new = (o, (v, (c, plug p t')))

  -- The byte's place in the file, and the bytes afterwards.
  abbrev pub i : ℕ
  i = place_of o c p + (8 + m)

  abbrev bs' : List ℕ
  bs' = set bs i x

  -- The trace's rule doesn't look at the byte, so that the byte is free.
  rule_blind : record_rule o t.word (set t.body m x) ≡ record_rule o t.word t.body
  unfolding kind_of
  rule_blind = rw d.kind (trace_blind o t.body m x d.from)

  free : Free o too_short short-some record_head record_late (λ s. record_rule o s.1) next_context
      (stateless event_word_rule) (stateless event_late) (λ s. event unseen) (λ s e. s) tt p t m x
  free = record { inside-body = d.inside; byte = d.byte; rule_blind = rule_blind; step_blind = refl; box_blind = refl }

  -- The events are valid again.
  events_ok' : Oks (event_item o) tt (plug p t')
  events_ok' =
      free_valid o too_short short-some record_head record_late (λ s. record_rule o s.1) next_context
      (stateless event_word_rule) (stateless event_late) (λ s. event unseen) (λ s e. s)
      tt p t m x free (parts-ok old d.valid).1.1

  -- the bytes
  edited-bytes : set (file_bytes old) i x ≡ file_bytes new
  edited-bytes =
      let front : List ℕ = header_bytes o v ++ container_bytes o c in
      let q : ℕ = length (events_bytes o p.before) + (8 + length (records_bytes o p.left)) + (8 + m) in
      let size : length front ≡ 8 + container_size o c =
      length-append (header_bytes o v) (container_bytes o c) ∙ ap₂ (λ (a b : ℕ). a + b) (sym ((header_item o).sizes v)) (container_size_lem o c) in
      let at : i ≡ length front + q = omega arith in
      ap₂ (λ (s : List ℕ) (z : ℕ). set s z x) (sym (append_assoc (header_bytes o v) (container_bytes o c) (events_bytes o (plug p t)))) at
      ∙ set-append-add front (events_bytes o (plug p t)) q x
      ∙ ap (λ (s : List ℕ). front ++ s)
      (free_bytes o too_short short-some record_head record_late (λ s. record_rule o s.1) next_context
      (stateless event_word_rule) (stateless event_late) (λ s. event unseen) (λ s e. s)
      tt p t m x free)
      ∙ append_assoc (header_bytes o v) (container_bytes o c) (events_bytes o (plug p t'))

  -- valid again
  edited-valid : Valid new
  edited-valid =
      let (header, (configuration, events)) = parts-ok old d.valid in
      parts-valid new d.valid.byte-order (header, (configuration, events_ok'))
      (subst (λ (s : List ℕ). length s ≤ file_limit) edited-bytes (rw (length-set (file_bytes old) i x) d.valid.within-limit))

  -- the rows: the trace's own says the same
  child_same : child_of o t' ≡ child_of o t
  unfolding child_of kind_of
  child_same =
      let same = trace_row_blind o t.body m x d.from in
      rw (d.kind, same.0, same.1, length-set t.body m x)

  children_same : (xs ys : List Record) → children_of o (xs ++ t' ∷ ys) ≡ children_of o (xs ++ t ∷ ys)
  children_same [] ys = ap (λ (k : Child). k ∷ children_of o ys) child_same
  children_same (y ∷ xs) ys = ap (λ (l : List Child). child_of o y ∷ l) (children_same xs ys)

  counts_same : (xs ys : List Record) → length (xs ++ t' ∷ ys) ≡ length (xs ++ t ∷ ys)
  counts_same xs ys = length-append xs (t' ∷ ys) ∙ sym (length-append xs (t ∷ ys))

  nodes-same : (es : List Container) → map (event_node o) (es ++ box_at p t' ∷ p.after) ≡ map (event_node o) (es ++ box_at p t ∷ p.after)
  nodes-same [] =
      ap₂ (λ (n : ℕ) (l : List Child). box 5 (p.word % 65536) n l ∷ map (event_node o) p.after)
      (counts_same p.left p.right) (children_same p.left p.right)
  nodes-same (e ∷ es) = ap (λ (l : List Node). event_node o e ∷ l) (nodes-same es)

  pub edited-rows : rows_of new ≡ rows_of old
  unfolding rows_of nodes_of
  edited-rows = rw (nodes-same p.before)

  -- ---- what is read at a row

  -- Row k's first byte.
  abbrev pub at : ℕ → ℕ
  at k = start_of old k

  pub read-old : read_file bs ≡ ok old
  read-old = subst (λ (s : List ℕ). read_file s ≡ ok old) (sym d.is) (file_complete old d.valid)

  pub read-new : read_file bs' ≡ ok new
  read-new =
      let is : bs' ≡ file_bytes new = ap (λ (s : List ℕ). set s i x) d.is ∙ edited-bytes in
      subst (λ (s : List ℕ). read_file s ≡ ok new) (sym is) (file_complete new edited-valid)

  module _ (k : ℕ) (l : k < length (rows_of old)) where
    -- What is found at row k, before and after.
    found-old : record_found o bs (at k) ≡ found_as (at k) (beside c p t k)
    found-old = found_at o v c p t bs d.bytes read-old k l

    found-new : record_found o bs' (at k) ≡ found_as (at k) (beside c p t' k)
    found-new =
        subst (λ (rs : List Row). record_found o bs' (row rs k).start ≡ found_as (row rs k).start (beside c p t' k)) edited-rows
        (found_at o v c p t' bs' (Bytes-set bs i x d.byte d.bytes) read-new k (rw edited-rows l))

    -- at another row the same is found
    pub other_row : k ≢ j → record_found o bs' (at k) ≡ record_found o bs (at k)
    other_row e =
        let away = elsewhere none (some t') (some t) (records_before c p) (records_after p) k (λ q. e (q ∙ sym d.here)) in
        found-new ∙ ap (found_as (at k)) away ∙ sym found-old

    -- at the trace's own row the trace, before and after
    module _ (own : k ≡ j) where
      there : (r : Record) → beside c p r k ≡ some r
      there r = get_or_at (records_before c p) (some r) (records_after p) none k (sym (own ∙ d.here))

      pub trace-old : record_found o bs (at k) ≡ ok t
      trace-old = found-old ∙ ap (found_as (at k)) (there t)

      trace-new : record_found o bs' (at k) ≡ ok t'
      trace-new = found-new ∙ ap (found_as (at k)) (there t')

      pub same-fields : record_at o bs' (at k) ≡ record_at o bs (at k)
      unfolding record_at kind_of
      same-fields = rw (trace-new, trace-old, d.kind, trace_values_blind o t.body m x d.from (at k))

      pub same_setting : setting_at o bs' (at k) ≡ setting_at o bs (at k)
      unfolding setting_at
      same_setting = rw (trace-new, trace-old, d.kind)

      -- the samples, as a part, before and after
      abbrev part : List ℕ
      part = drop 48 t.body

      abbrev part' : List ℕ
      part' = set part (m - 48) x

      part-edited : drop 48 (set t.body m x) ≡ part'
      part-edited =
          let e : m ≡ 48 + (m - 48) = omega (arith, d.from) in
          ap (λ (q : ℕ). drop 48 (set t.body q x)) e ∙ drop-set-add 48 t.body (m - 48) x

      n : ℕ
      n = word o 44 t.body

      -- The trace is valid where it stands, so its rule gives the size of its samples.
      is-valid : ValidRecord o (steps (record_item o) (event unseen) p.left) t
      is-valid =
          let oks : Oks (event_item o) tt (plug p t) = (parts-ok old d.valid).1.1 in
          let (before, (box-ok, after)) = (Oks-append (event_item o) tt p.before (box_at p t ∷ p.after)).0 oks in
          record_valid o (steps (record_item o) (event unseen) p.left) t
          ((Oks-append (record_item o) (event unseen) p.left (t ∷ p.right)).0 box-ok.body_ok).1.0

      rule-passes : trace_rule o t.body ≡ 0
      unfolding kind_of
      rule-passes = subst (λ (w : ℕ). record_rule o w t.body ≡ 0) d.kind is-valid.body-rule

      sizes : (length part ≡ 2 * n) × (n % 2 ≡ 0)
      unfolding n
      sizes = let s = trace-length o t.body rule-passes in (omega (arith, s.0, length-drop 48 t.body), s.1)

      -- What Sample gives for the number q of the part s; a says whether q is at least 1, b whether it is at most the count.
      abbrev given : Bool → Bool → List ℕ → ℕ → Given
      given a b s q = cond (a && b) (accepted (counts (sample_in o s q ∷ []))) (refused 11 (at k))

      sample_old : (q : ℕ) → sample_at o bs (at k) q ≡ given (leb 1 q) (leb q n) part q
      unfolding sample_at trace_of n
      sample_old q = rw (trace-old, d.kind)

      same_count : word o 44 (set t.body m x) ≡ word o 44 t.body
      unfolding trace_of
      same_count = (trace_row_blind o t.body m x d.from).1

      sample_new : (q : ℕ) → sample_at o bs' (at k) q ≡ given (leb 1 q) (leb q n) part' q
      unfolding sample_at trace_of n
      sample_new q = rw (trace-new, d.kind, same_count, part-edited)

      body_bytes : Bytes part
      body_bytes = Bytes-drop 48 t.body is-valid.body_bytes

      -- Another sample than the one that holds the byte reads as before.
      pub other_sample : (q : ℕ) → q ≢ byte_at o (m - 48) / 2 + 1 → sample_at o bs' (at k) q ≡ sample_at o bs (at k) q
      other_sample q e = sample_new q ∙ go (leb 1 q) (leb q n) refl refl ∙ sym (sample_old q)
        where
          go : (a b : Bool) → leb 1 q ≡ a → leb q n ≡ b → given a b part' q ≡ given a b part q
          go true true ea eb =
              ap (λ (z : ℕ). accepted (counts (z ∷ [])))
              (sample_stays o part n body_bytes sizes.0 sizes.1 (m - 48) x d.byte q (leb-true 1 q ea) (leb-true q n eb) e)
          go true false ea eb = refl
          go false b ea eb = refl

      -- The number of the sample that holds the byte, and the two bytes of that sample in the file.
      abbrev number : ℕ
      number = byte_at o (m - 48) / 2 + 1

      abbrev two : ℕ
      two = pair o bs (at k + 56) number

      in_part : m - 48 < length part
      in_part = omega (arith, d.from, d.inside, length-drop 48 t.body)

      whole_words : length part % 4 ≡ 0
      whole_words = omega (arith, sizes.0, sizes.1)

      in_range : (1 ≤ number) × (number ≤ n)
      in_range = (omega arith, omega (arith, byte_inside o (length part) (m - 48) whole_words in_part, sizes.0))

      in_file : (z : ℕ) → z < length part → get_or part z 0 ≡ get_or bs (at k + 56 + z) 0
      in_file z l =
          let far : at k + 8 + (48 + z) ≡ at k + 56 + z = omega arith in
          get_or-drop 48 t.body z 0
          ∙ byte-found o bs (at k) t trace-old (48 + z) (omega (arith, l, length-drop 48 t.body))
          ∙ ap (λ (q : ℕ). get_or bs q 0) far

      -- The two bytes of the sample, in the part and in the file.
      part-two : spelled o part (m - 48) x body_bytes in_part part ≡ two
      part-two =
          let q : ℕ = 2 * (number - 1) in
          let first : q < length part = omega (arith, in_range.0, in_range.1, sizes.0) in
          let second : q + 1 < length part = omega (arith, in_range.0, in_range.1, sizes.0) in
          ap₂ (λ (a b : ℕ). a + 256 * b)
          (in_file (byte_at o q) (byte_inside o (length part) q whole_words first))
          (in_file (byte_at o (q + 1)) (byte_inside o (length part) (q + 1) whole_words second))

      -- That sample before, and after: the byte is replaced, the other one stays.
      shown : (s : List ℕ) → given (leb 1 number) (leb number n) s number ≡ accepted (counts (sample_in o s number ∷ []))
      shown s = rw (le-leb 1 number in_range.0, le-leb number n in_range.1)

      pub held-before : sample_at o bs (at k) number ≡ accepted (counts (two ∷ []))
      held-before =
          sample_old number ∙ shown part
          ∙ ap (λ (z : ℕ). accepted (counts (z ∷ [])))
          (sample_is_bytes o part n body_bytes sizes.0 sizes.1 number in_range.0 in_range.1 ∙ part-two)

      pub held_after : sample_at o bs' (at k) number ≡ accepted (counts (replaced (byte_at o (m - 48)) x two ∷ []))
      held_after =
          sample_new number ∙ shown part'
          ∙ ap (λ (z : ℕ). accepted (counts (z ∷ [])))
          (changed_is_bytes o part n body_bytes sizes.0 sizes.1 (m - 48) x d.byte number in_range.0 in_range.1
          ∙ pair-replaced o part (m - 48) x body_bytes in_part ∙ ap (replaced (byte_at o (m - 48)) x) part-two)

      pub held-differs : x ≢ get_or bs (at k + 56 + (m - 48)) 0 → replaced (byte_at o (m - 48)) x two ≢ two
      held-differs differs =
          subst (λ (s : ℕ). replaced (byte_at o (m - 48)) x s ≢ s) part-two
          (replaced-differs o part (m - 48) x body_bytes in_part (λ e. differs (e ∙ in_file (m - 48) in_part)))

      -- The part that Samples gives, before and after.
      pub part-before : samples_part o bs (at k) ≡ (at k + 56, length t.body - 48)
      unfolding samples_part
      part-before = rw (trace-old, d.kind)

      pub part_after : samples_part o bs' (at k) ≡ (at k + 56, length t.body - 48)
      unfolding samples_part
      part_after = rw (trace-new, d.kind, length-set t.body m x)

      pub bytes_after : samples_at o bs' (at k) ≡ set (samples_at o bs (at k)) (m - 48) x
      bytes_after =
          let was : samples_at o bs (at k) ≡ part = samples-given o bs (at k) ∙ rw (trace-old, d.kind) in
          let is : samples_at o bs' (at k) ≡ drop 48 (set t.body m x) = samples-given o bs' (at k) ∙ rw (trace-new, d.kind) in
          is ∙ part-edited ∙ ap (λ (s : List ℕ). set s (m - 48) x) (sym was)
