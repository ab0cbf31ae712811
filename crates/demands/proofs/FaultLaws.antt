-- The first-fault theorem: a file within the limit is refused with a number at a place exactly when that is its first fault.
-- The idea: each combinator says where its own refusal comes from, and is refused where that is (theory); the two are followed down
-- from the file to the record, and up again.
use mathlib.Core.Path.{◌≡◌, refl, sym, ap, ap₂, ◌∙◌, subst}
use mathlib.Core.Bool.{Bool, true, false}
use mathlib.Core.Logic.{◌⊎◌, inl, inr, ◌↔◌}
use mathlib.Core.List.{List, [], ◌∷◌, ◌++◌, append_assoc, append-nil}
use Prim.Native.Nat.{ℕ, zero, suc, ◌+◌, ◌/◌, ◌≤◌, ◌<◌}
use native.Mathlib.Omega.{arith}
use lib.ListN.{length, take, drop, length-append, length-drop, take-append-drop}
use lib.Seq.{length-take-le}
use lib.Dec.{leb}
use borrow.Author.Tests.{lt-leb, leb-true, leb-false}
use Rattle.theory.specs.declared.Order.{Order}
use Rattle.theory.specs.Words.{Bytes, word_at, put, puts, Fits}
use Rattle.theory.specs.Tests.{Res, ok, bad, need, bind, unless}
use Rattle.theory.proofs.WordLaws.{Bytes-part, Bytes-right, length-put, word_fits}
use Rattle.theory.proofs.TestLaws.{ok-bad, bad_inj, need_pass, equal_passed, most_passes, first-at}
use Rattle.theory.proofs.Items.{steps, seq_refused, seq_refuses}
use Rattle.theory.proofs.StructureLaws.{
  stateless,
  BodyFault,
  refused,
  structure-past,
  restore_two,
  inside,
  pair,
  pair-refused,
  pair-refuses,
  words-refused,
}
use Rattle.note.specs.Limits.{file_limit}
use Rattle.note.specs.Words.{words}
use Rattle.note.specs.Records.{Record, Context, entry, event, unseen, record_head, record_late, record_rule, next_context, records_bytes, read_record}
use Rattle.note.specs.Events.{Container, container_bytes, events_bytes, event_mark, event_word_rule, event_late}
use Rattle.note.specs.Files.{
  Parts,
  File,
  order_of,
  order_in,
  configuration_word,
  configuration_rule,
  configuration_late,
  header_bytes,
  file_mark,
  version_rule,
}
use Rattle.note.specs.Files.{version_of, configuration_of, events_of, file_bytes, read_header, read_parts, read_file}
use Rattle.demands.specs.Valid.{ValidRecords, Valid}
use Rattle.demands.specs.FirstFault.{Cut, ValidHeader, front, past, Itself}
use Rattle.demands.specs.Refusals.{Refusal, too_large, within-limit}
use Rattle.demands.specs.FirstFault.{FirstFault, at-header, at-configuration, at_entry, at-event, at_record}
use Rattle.demands.proofs.Bundles.{record_body, record_item, records, box, configuration_item, event_item, events, header_item, parts}
use Rattle.demands.proofs.Bundles.{same_record, same_parts, records-valid, records-ok}
use Rattle.demands.proofs.Follows.{parts-valid, parts-ok, order_admitted, order_shown, accepted_means, read-within}
use Rattle.note.specs.Faults.{too_short, not_a_file}
use Rattle.note.proofs.FaultLaws.{short-some}

-- A record's refusal is at its first byte.
pub record_fault_here : (o : Order) (c : Context) (at : ℕ) (bs : List ℕ) (k p : ℕ) → (record_item o).read c at bs ≡ bad k p → p ≡ at
record_fault_here o c at bs k p e = elim (refused o too_short short-some record_head record_late (record_body o).read c at bs k p e) [
  | inl own ↦ own.place
  | inr b ↦
      let body : List ℕ = take (word_at o 4 4 bs) (drop 8 bs) in
      inner (record_rule o (word_at o 4 0 bs) body) body b.body_is
]
  where
    inner : (f : ℕ) (b : List ℕ) → need f at (ok b) ≡ bad k p → p ≡ at
    inner zero b q = absurd (ok-bad q)
    inner (suc f) b q = cc

-- The context behind records that were read is the definition's.
pub steps-past : (o : Order) (c : Context) (rs : List Record) → steps (record_item o) c rs ≡ past c rs
steps-past o c [] = refl
steps-past o c (r ∷ rs) = steps-past o (next_context c r) rs

-- The two words in front of a container's contents are eight bytes.
pub length_front : (o : Order) (w n : ℕ) → length (front o w n) ≡ 8
length_front o w n = omega (arith, length-append (put o 4 w) (put o 4 n), length-put o 4 w, length-put o 4 n)

pub front_bytes : (o : Order) (w n : ℕ) → front o w n ≡ words o (w ∷ n ∷ [])
unfolding puts
front_bytes o w n = ap (λ (r : List ℕ). put o 4 w ++ r) (sym (append-nil (put o 4 n)))

-- A container of records that is refused: itself, or at one of its records, those before it being valid.
module _ (o : Order) (head : ℕ → ℕ) (late : ℕ → ℕ → ℕ) (start : Context) where
  pub record Within (at : ℕ) (bs : List ℕ) (c p : ℕ) : Type 0 where
    pub word : ℕ
    pub before : List Record
    pub part : List ℕ
    pub beyond : List ℕ
    pub word_fits : Fits 4 word
    pub length-fits : Fits 4 (length (records_bytes o before ++ part))
    pub head_ok : head word ≡ 0
    pub late_ok : late word (length (records_bytes o before ++ part)) ≡ 0
    pub valid : ValidRecords o start before
    pub left : 1 ≤ length part
    pub splits : bs ≡ (front o word (length (records_bytes o before ++ part)) ++ records_bytes o before) ++ (part ++ beyond)
    pub place : p ≡ at + (8 + length (records_bytes o before))
    pub fault : read_record o (past start before) p part ≡ bad c p

  -- The two ways.
  abbrev pub ContainerFault : ℕ → List ℕ → ℕ → ℕ → Type 0
  ContainerFault at bs c p = ((p ≡ at) × Itself o head late bs c at) ⊎ Within at bs c p

  module _ (at : ℕ) (bs : List ℕ) (c p : ℕ) (h : Bytes bs) where
    -- A fault in the contents is at a record.
    within : BodyFault o too_short short-some (stateless head) (stateless late) (inside (λ s. start) (records o)).read tt at bs c p
        → Within at bs c p
    within b =
        let k : ℕ = word_at o 4 0 bs in
        let n : ℕ = word_at o 4 4 bs in
        let content : List ℕ = take n (drop 8 bs) in
        let beyond : List ℕ = drop n (drop 8 bs) in
        let fits : 8 + n ≤ length bs = b.fits in
        let size : length content ≡ n = length-take-le n (drop 8 bs) (omega (arith, length-drop 8 bs)) in
        let bytes : Bytes content = Bytes-part n 8 bs h in
        let (xs, rest, es, os, left, q) = seq_refused (record_item o) (length content) start (at + 8) content c p (omega arith) bytes b.body_is in
        let passed : Context = steps (record_item o) start xs in
        let here : p ≡ at + 8 + length (records_bytes o xs) = record_fault_here o passed (at + 8 + length (records_bytes o xs)) rest c p q in
        let filled : n ≡ length (records_bytes o xs ++ rest) = sym size ∙ ap length es in
        let behind : drop 8 bs ≡ records_bytes o xs ++ (rest ++ beyond) =
        sym (take-append-drop n (drop 8 bs)) ∙ ap (λ (r : List ℕ). r ++ beyond) es ∙ append_assoc (records_bytes o xs) rest beyond in
        record {
          word = k;
          before = xs;
          part = rest;
          beyond = beyond;
          word_fits = word_fits o 4 0 bs h (omega arith);
          length-fits = subst (Fits 4) filled (word_fits o 4 4 bs h (omega arith));
          head_ok = b.head_ok;
          late_ok = subst (λ (m : ℕ). late k m ≡ 0) filled b.late_ok;
          valid = records-valid o start xs os;
          left = left;
          splits = sym (restore_two o bs h (omega arith))
              ∙ ap₂ (λ (m : ℕ) (r : List ℕ). put o 4 k ++ (put o 4 m ++ r)) filled behind
              ∙ simp append_assoc;
          place = omega arith;
          fault = ap (λ (x : Context). read_record o x p rest) (sym (steps-past o start xs))
              ∙ same_record o passed p rest
              ∙ ap (λ (m : ℕ). (record_item o).read passed m rest) here
              ∙ q;
        }

    -- A container that is refused has its fault in one of the two ways.
    pub container_refused : (box o head late start).read tt at bs ≡ bad c p → ContainerFault at bs c p
    container_refused e =
        elim (refused o too_short short-some (stateless head) (stateless late) (inside (λ s. start) (records o)).read tt at bs c p e) [
          | inl own ↦ inl (own.place, λ contents. own.whatever (λ x. contents x.1) ∙ ap (λ (m : ℕ). bad c m) own.place)
          | inr b ↦ inr (within b)
        ]

  -- And each of the two refuses the container.
  pub container_refuses : (at : ℕ) (bs : List ℕ) (c p : ℕ) → ContainerFault at bs c p → (box o head late start).read tt at bs ≡ bad c p
  container_refuses at bs c p (inl (here, own)) =
      own (λ w. (inside (λ (s : Unit {0} × ℕ). start) (records o)).read (tt, w)) ∙ ap (λ (m : ℕ). bad c m) (sym here)
  container_refuses at bs c p (inr w) =
      let xs : List Record = w.before in
      let content : List ℕ = records_bytes o xs ++ w.part in
      let shape : bs ≡ put o 4 w.word ++ (put o 4 (length content) ++ (content ++ w.beyond)) = w.splits ∙ simp append_assoc in
      let there : at + 8 + length (records_bytes o xs) ≡ p = omega (arith, w.place) in
      let fault : (record_item o).read (steps (record_item o) start xs) (at + 8 + length (records_bytes o xs)) w.part ≡ bad c p =
      ap₂ (λ (x : Context) (m : ℕ). (record_item o).read x m w.part) (steps-past o start xs) there
      ∙ sym (same_record o (past start xs) p w.part)
      ∙ w.fault in
      let body : (records o).read start (at + 8) content ≡ bad c p =
      seq_refuses (record_item o) (length content) start (at + 8) xs w.part c p (omega arith) (records-ok o start xs w.valid) w.left fault in
      ap ((box o head late start).read tt at) shape
      ∙ structure-past o too_short (stateless head) (stateless late) (inside (λ s. start) (records o)).read tt at w.word content w.beyond
      w.word_fits w.length-fits w.head_ok w.late_ok
      ∙ ap (λ (r : Res (List Record)). bind r (λ b. ok (record { word = w.word; body = b }))) body

  -- The same in a file, the container standing behind the bytes X: the cut at the record at fault.
  module _ (bs X : List ℕ) (c p : ℕ) where
    -- The container's bytes up to the record at fault, and how many bytes lie before that record.
    abbrev opening : ℕ → List Record → List ℕ → List ℕ
    opening w rs part = front o w (length (records_bytes o rs ++ part)) ++ records_bytes o rs

    length_before : (w : ℕ) (rs : List Record) (part : List ℕ) → length (X ++ opening w rs part) ≡ length X + (8 + length (records_bytes o rs))
    length_before w rs part =
        let two : List ℕ = front o w (length (records_bytes o rs ++ part)) in
        omega (
          arith,
          length-append X (two ++ records_bytes o rs),
          length-append two (records_bytes o rs),
          length_front o w (length (records_bytes o rs ++ part)),
        )

    within-cut : (rest : List ℕ) → bs ≡ X ++ rest → (w : Within (length X) rest c p)
        → Cut bs (X ++ opening w.word w.before w.part) w.part w.beyond p
    within-cut rest is w = record {
      splits = is
          ∙ ap (λ (r : List ℕ). X ++ r) w.splits
          ∙ sym (append_assoc X (opening w.word w.before w.part) (w.part ++ w.beyond));
      place = w.place ∙ sym (length_before w.word w.before w.part);
    }

    cut-within : (w : ℕ) (rs : List Record) (part beyond : List ℕ) → length bs ≤ file_limit → Fits 4 w
        → head w ≡ 0 → late w (length (records_bytes o rs ++ part)) ≡ 0 → ValidRecords o start rs → 1 ≤ length part
        → Cut bs (X ++ opening w rs part) part beyond p → read_record o (past start rs) p part ≡ bad c p
        → Within (length X) (opening w rs part ++ (part ++ beyond)) c p
    cut-within w rs part beyond l hw hh hl v left cut e =
        let size : length bs ≡ length (X ++ opening w rs part) + length (part ++ beyond) =
        ap length cut.splits ∙ length-append (X ++ opening w rs part) (part ++ beyond) in
        record {
          word = w;
          before = rs;
          part = part;
          beyond = beyond;
          word_fits = hw;
          length-fits = omega (arith, length_before w rs part, length-append part beyond, length-append (records_bytes o rs) part);
          head_ok = hh;
          late_ok = hl;
          valid = v;
          left = left;
          splits = refl;
          place = cut.place ∙ length_before w rs part;
          fault = e;
        }

-- ---- the file

length-header : (o : Order) (v : ℕ) → length (header_bytes o v) ≡ 8
length-header o v = sym ((header_item o).sizes v)

-- What would be a file ends behind its last event.
file_end : (f : File) → 8 + (configuration_item (order_in f)).size (configuration_of f) + length (events_bytes (order_in f) (events_of f))
    ≡ length (file_bytes f)
file_end f =
    let C : List ℕ = container_bytes (order_in f) (configuration_of f) in
    let E : List ℕ = events_bytes (order_in f) (events_of f) in
    omega (
      arith,
      length-append (header_bytes (order_in f) (version_of f)) (C ++ E),
      length-append C E,
      length-header (order_in f) (version_of f),
      (configuration_item (order_in f)).sizes (configuration_of f),
    )

-- The first word of an event that is admitted fits its word.
event-word-fits : (w : ℕ) → event_word_rule w ≡ 0 → Fits 4 w
unfolding event_word_rule
event-word-fits w e = let is : w / 65536 ≡ event_mark = equal_passed (w / 65536) event_mark 4 (first-at _ e 0) in omega arith

-- Faults of the configuration behind a header, and of an event behind what would be a file.
abbrev InConfiguration : Order → ℕ → List ℕ → ℕ → ℕ → Type 0
InConfiguration o v rest c p = ContainerFault o configuration_rule configuration_late entry (length (header_bytes o v)) rest c p

abbrev InEvent : Order → File → List ℕ → ℕ → ℕ → Type 0
InEvent o f rest c p = ContainerFault o event_word_rule event_late (event unseen) (length (file_bytes f)) rest c p

module _ (bs : List ℕ) (c p : ℕ) where
  -- Each is a first fault of the file.
  configuration-fault : (v : ℕ) (rest : List ℕ) → ValidHeader v → bs ≡ header_bytes (order_of bs) v ++ rest → InConfiguration (order_of bs) v rest c p
      → FirstFault bs c p
  configuration-fault v rest hv is (inl (here, own)) =
      at-configuration v rest hv
      (record { splits = is ∙ ap (λ (r : List ℕ). header_bytes (order_of bs) v ++ r) (sym (append-nil rest)); place = here })
      (subst (λ (m : ℕ). Itself (order_of bs) configuration_rule configuration_late rest c m) (sym here) own)
  configuration-fault v rest hv is (inr w) =
      let rs : List Record = w.before in
      let n : ℕ = length (records_bytes (order_of bs) rs ++ w.part) in
      at_entry v rs w.part w.beyond hv w.valid (omega (arith, w.left))
      (subst (λ (x : ℕ). Cut bs (header_bytes (order_of bs) v ++ (front (order_of bs) x n ++ records_bytes (order_of bs) rs)) w.part w.beyond p)
      (equal_passed w.word configuration_word 4 w.head_ok)
      (within-cut (order_of bs) configuration_rule configuration_late entry bs (header_bytes (order_of bs) v) c p rest is w))
      w.fault

  event-fault : (f : File) (rest : List ℕ) → Valid f → 1 ≤ length rest → bs ≡ file_bytes f ++ rest → InEvent (order_in f) f rest c p
      → FirstFault bs c p
  event-fault f rest v left is (inl (here, own)) =
      at-event f rest v (omega arith)
      (record { splits = is ∙ ap (λ (r : List ℕ). file_bytes f ++ r) (sym (append-nil rest)); place = here })
      (subst (λ (m : ℕ). Itself (order_in f) event_word_rule event_late rest c m) (sym here) own)
  event-fault f rest v left is (inr w) =
      at_record f w.word w.before w.part w.beyond v w.head_ok w.valid (omega (arith, w.left))
      (within-cut (order_in f) event_word_rule event_late (event unseen) bs (file_bytes f) c p rest is w)
      w.fault

  -- Each refuses the file.
  configuration-refuses : (v : ℕ) (rest : List ℕ) → ValidHeader v → bs ≡ header_bytes (order_of bs) v ++ rest
      → InConfiguration (order_of bs) v rest c p
      → (parts (order_of bs)).read tt 0 bs ≡ bad c p
  configuration-refuses v rest hv is e =
      let refuses : (configuration_item (order_of bs)).read tt 8 rest ≡ bad c p =
      ap (λ (m : ℕ). (configuration_item (order_of bs)).read tt m rest) (sym (length-header (order_of bs) v))
      ∙ container_refuses (order_of bs) configuration_rule configuration_late entry (length (header_bytes (order_of bs) v)) rest c p e in
      pair-refuses (header_item (order_of bs)) (pair (configuration_item (order_of bs)) (events (order_of bs))) tt 0 bs c p
      (inr (v, rest, is, (hv.rule, hv.fits), pair-refuses (configuration_item (order_of bs)) (events (order_of bs)) tt 8 rest c p (inl refuses)))

  event-refuses : (f : File) (rest : List ℕ) → Valid f → 1 ≤ length rest → bs ≡ file_bytes f ++ rest → InEvent (order_in f) f rest c p
      → (parts (order_in f)).read tt 0 bs ≡ bad c p
  event-refuses f rest v left is e =
      let o : Order = order_in f in
      let C : List ℕ = container_bytes o (configuration_of f) in
      let E : List ℕ = events_bytes o (events_of f) in
      let at : ℕ = 8 + (configuration_item o).size (configuration_of f) in
      let valid : (parts o).Ok tt f.1 = parts-ok f v in
      let refuses : (event_item o).read tt (at + length E) rest ≡ bad c p =
      ap (λ (m : ℕ). (event_item o).read tt m rest) (file_end f)
      ∙ container_refuses o event_word_rule event_late (event unseen) (length (file_bytes f)) rest c p e in
      let behind : (events o).read tt at (E ++ rest) ≡ bad c p =
      seq_refuses (event_item o) (length (E ++ rest)) tt at (events_of f) rest c p (omega arith) valid.1.1 left refuses in
      let both : (pair (configuration_item o) (events o)).read tt 8 (C ++ (E ++ rest)) ≡ bad c p =
      pair-refuses (configuration_item o) (events o) tt 8 (C ++ (E ++ rest)) c p (inr (configuration_of f, E ++ rest, refl, valid.1.0, behind)) in
      pair-refuses (header_item o) (pair (configuration_item o) (events o)) tt 0 bs c p
      (inr (version_of f, C ++ (E ++ rest), is ∙ simp append_assoc, valid.0, both))

-- A refusal within the limit names the first fault.
pub first-fault : (bs : List ℕ) (c p : ℕ) → Bytes bs → length bs ≤ file_limit → read_file bs ≡ bad c p → FirstFault bs c p
unfolding read_file read_header
first-fault bs c p h l e =
    let inside-limit : read_parts o bs ≡ bad c p =
    not_named (read_parts o bs)
    (sym (need_pass (unless (leb (length bs) file_limit) 1) 0 _ (most_passes 1 l)) ∙ e) in
    elim (pair-refused (header_item o) (pair (configuration_item o) (events o)) tt 0 bs c p h (sym (same_parts o bs) ∙ inside-limit)) [
      | inl q ↦
          let here : p ≡ 0 = words-refused o too_short file_mark not_a_file version_rule tt 0 bs c p q in
          at-header (record { splits = sym (append-nil bs); place = here }) (ap (λ (m : ℕ). (header_item o).read tt m bs) here ∙ q)
      | inr (v, rest, is, ok', q) ↦ behind-header v rest is ok' (Bytes-right (header_bytes o v) rest (subst Bytes is h)) q
    ]
  where
    o : Order
    o = order_of bs

    -- The order beside the parts refuses nothing.
    not_named : (r : Res Parts) → bind {B = File} r (λ q. ok (o, q)) ≡ bad c p → r ≡ bad c p
    not_named (ok q) e = absurd (ok-bad e)
    not_named (bad d q) e = let same = bad_inj e in ap₂ bad same.0 same.1

    -- Behind a valid header and a valid configuration, an event.
    behind-configuration : (v : ℕ) (conf : Container) (rest : List ℕ) → bs ≡ header_bytes o v ++ (container_bytes o conf ++ rest)
        → (header_item o).Ok tt v × (configuration_item o).Ok tt conf → Bytes rest
        → (events o).read tt (8 + (configuration_item o).size conf) rest ≡ bad c p → FirstFault bs c p
    behind-configuration v conf rest is (okv, okc) h q =
        let at : ℕ = 8 + (configuration_item o).size conf in
        let (xs, part, er, os, left, r) = seq_refused (event_item o) (length rest) tt at rest c p (omega arith) h q in
        let f : File = (o, (v, (conf, xs))) in
        let whole : bs ≡ file_bytes f ++ part =
        is ∙ ap (λ (b : List ℕ). header_bytes o v ++ (container_bytes o conf ++ b)) er ∙ simp append_assoc in
        let small : length (file_bytes f) ≤ file_limit = omega (arith, ap length whole, length-append (file_bytes f) part) in
        event-fault bs c p f part (parts-valid f (order_admitted bs) (okv, (okc, os)) small) left whole
        (container_refused o event_word_rule event_late (event unseen) (length (file_bytes f)) part c p
        (Bytes-right (events_bytes o xs) part (subst Bytes er h)) (ap (λ (m : ℕ). (event_item o).read tt m part) (sym (file_end f)) ∙ r))

    -- Behind a valid header, the configuration or the events.
    behind-header : (v : ℕ) (rest : List ℕ) → bs ≡ header_bytes o v ++ rest → (header_item o).Ok tt v → Bytes rest
        → (pair (configuration_item o) (events o)).read tt 8 rest ≡ bad c p → FirstFault bs c p
    behind-header v rest is ok' h q = elim (pair-refused (configuration_item o) (events o) tt 8 rest c p h q) [
      | inl r ↦
          configuration-fault bs c p v rest (record { rule = ok'.0; fits = ok'.1 }) is
          (container_refused o configuration_rule configuration_late entry (length (header_bytes o v)) rest c p h
          (ap (λ (m : ℕ). (configuration_item o).read tt m rest) (length-header o v) ∙ r))
      | inr (conf, later, er, okc, r) ↦ behind-configuration v conf later (is ∙ ap (λ (b : List ℕ). header_bytes o v ++ b) er) (ok', okc)
          (Bytes-right (container_bytes o conf) later (subst Bytes er h)) r
    ]

-- Behind a valid file the bytes show its order.
shown_order : (bs : List ℕ) (f : File) (rest : List ℕ) → Valid f → bs ≡ file_bytes f ++ rest → order_of bs ≡ order_in f
shown_order bs f rest v is = ap order_of is ∙ order_shown f rest v

-- A first fault refuses the parts of the file, with its number at its place.
parts-refused : (bs : List ℕ) (c p : ℕ) → length bs ≤ file_limit → FirstFault bs c p → (parts (order_of bs)).read tt 0 bs ≡ bad c p
unfolding read_header
parts-refused bs c p l (at-header cut e) =
    pair-refuses (header_item (order_of bs)) (pair (configuration_item (order_of bs)) (events (order_of bs))) tt 0 bs c p
    (inl (ap (λ (m : ℕ). (header_item (order_of bs)).read tt m bs) (sym cut.place) ∙ e))
parts-refused bs c p l (at-configuration v part hv cut own) =
    configuration-refuses bs c p v part hv (cut.splits ∙ ap (λ (r : List ℕ). header_bytes (order_of bs) v ++ r) (append-nil part))
    (inl (cut.place, subst (λ (m : ℕ). Itself (order_of bs) configuration_rule configuration_late part c m) cut.place own))
parts-refused bs c p l (at_entry v rs part beyond hv valid left cut e) =
    let X : List ℕ = header_bytes (order_of bs) v in
    configuration-refuses bs c p v _ hv (cut.splits ∙ append_assoc X _ (part ++ beyond))
    (inr (cut-within (order_of bs) configuration_rule configuration_late entry bs X c p configuration_word rs part beyond l
    (omega arith) refl refl valid (omega arith) cut e))
parts-refused bs c p l (at-event f part v left cut own) =
    rw (shown_order bs f (part ++ []) v cut.splits)
    (event-refuses bs c p f part v (omega arith) (cut.splits ∙ ap (λ (r : List ℕ). file_bytes f ++ r) (append-nil part))
    (inl (cut.place, subst (λ (m : ℕ). Itself (order_in f) event_word_rule event_late part c m) cut.place own)))
parts-refused bs c p l (at_record f w rs part beyond v admitted valid left cut e) =
    let X : List ℕ = file_bytes f in
    let o : Order = order_in f in
    let first : List ℕ = front o w (length (records_bytes o rs ++ part)) ++ records_bytes o rs in
    let some : 1 ≤ length (records_bytes o rs ++ part) = omega (arith, length-append (records_bytes o rs) part) in
    let left_there : 1 ≤ length (first ++ (part ++ beyond)) = omega (arith, length-append first (part ++ beyond), length-append part beyond) in
    let is : bs ≡ X ++ (first ++ (part ++ beyond)) = cut.splits ∙ append_assoc X first (part ++ beyond) in
    rw (shown_order bs f (first ++ (part ++ beyond)) v is)
    (event-refuses bs c p f (first ++ (part ++ beyond)) v left_there is
    (inr (cut-within o event_word_rule event_late (event unseen) bs X c p w rs part beyond l
    (event-word-fits w admitted) admitted (most_passes 9 some) valid left cut e)))

-- A file within the limit that has a first fault is refused so.
pub fault-refuses : (bs : List ℕ) (c p : ℕ) → length bs ≤ file_limit → FirstFault bs c p → read_file bs ≡ bad c p
fault-refuses bs c p l e = read-within bs (bad c p) l (parts-refused bs c p l e)

-- Within the limit a file is refused with a number at a place exactly when that is its first fault.
pub fault_exactly : (bs : List ℕ) (c p : ℕ) → Bytes bs → length bs ≤ file_limit → (read_file bs ≡ bad c p) ↔ FirstFault bs c p
fault_exactly bs c p h l = (first-fault bs c p h l, fault-refuses bs c p l)

-- A file has at most one first fault.
pub one-first-fault : (bs : List ℕ) (c p d q : ℕ) → length bs ≤ file_limit → FirstFault bs c p → FirstFault bs d q → (c ≡ d) × (p ≡ q)
one-first-fault bs c p d q l e f = bad_inj (sym (fault-refuses bs c p l e) ∙ fault-refuses bs d q l f)

-- An accepted file has none.
pub accepted_without_fault : (bs : List ℕ) (f : File) (c p : ℕ) → read_file bs ≡ ok f → FirstFault bs c p → ⊥
accepted_without_fault bs f c p e fault = ok-bad (sym e ∙ fault-refuses bs c p (accepted_means bs f e).within-limit fault)

-- Over the limit the refusal is 1 at 0.
pub over-limit : (bs : List ℕ) → file_limit < length bs → read_file bs ≡ bad 1 0
unfolding read_file
over-limit bs l = rw (lt-leb (length bs) file_limit l)

-- Every file: it is refused with a number at a place exactly when it is over the limit, with 1 at 0, or has that first fault.
pub refused_exactly : (bs : List ℕ) (c p : ℕ) → Bytes bs → (read_file bs ≡ bad c p) ↔ Refusal (length bs) (FirstFault bs) c p
refused_exactly bs c p h = (there (leb (length bs) file_limit) refl, back)
  where
    there : (t : Bool) → leb (length bs) file_limit ≡ t → read_file bs ≡ bad c p → Refusal (length bs) (FirstFault bs) c p
    there true t e = let l : length bs ≤ file_limit = leb-true (length bs) file_limit t in within-limit l (first-fault bs c p h l e)
    there false t e =
        let l : file_limit < length bs = leb-false (length bs) file_limit t in
        let (number, place) = bad_inj (sym e ∙ over-limit bs l) in
        too_large l number place

    back : Refusal (length bs) (FirstFault bs) c p → read_file bs ≡ bad c p
    back (too_large l ec ep) = over-limit bs l ∙ ap₂ bad (sym ec) (sym ep)
    back (within-limit l e) = (fault_exactly bs c p h l).1 e

-- The place of a refusal lies in the file, or at its end.
pub fault_in_file : (bs : List ℕ) (c p : ℕ) → Bytes bs → read_file bs ≡ bad c p → p ≤ length bs
fault_in_file bs c p h e = within-file ((refused_exactly bs c p h).0 e)
  where
    cut-place : (before part beyond : List ℕ) → Cut bs before part beyond p → p ≤ length bs
    cut-place before part beyond cut = omega (arith, cut.place, ap length cut.splits, length-append before (part ++ beyond))

    in_fault : FirstFault bs c p → p ≤ length bs
    in_fault (at-header cut e) = cut-place _ _ _ cut
    in_fault (at-configuration v part hv cut own) = cut-place _ _ _ cut
    in_fault (at_entry v rs part beyond hv valid left cut e) = cut-place _ _ _ cut
    in_fault (at-event f part v left cut own) = cut-place _ _ _ cut
    in_fault (at_record f w rs part beyond v hw valid left cut e) = cut-place _ _ _ cut

    within-file : Refusal (length bs) (FirstFault bs) c p → p ≤ length bs
    within-file (too_large l ec ep) = omega arith
    within-file (within-limit l e) = in_fault e
