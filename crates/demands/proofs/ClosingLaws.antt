-- A closing that is accepted leaves a container: read at the place, it has the first word that was asked for and the records of the contents.
-- The idea: the closing's checks are the reader's tests in another order. One law over any container's tests takes what they have shown
-- (`Checked`); then, for each of the two kinds: an accepted closing has shown it, and a closing asks no more.
use mathlib.Core.Path.{◌≡◌, refl, sym, ap, ap₂, ◌∙◌}
use mathlib.Core.List.{List, [], ◌∷◌, ◌++◌, append_assoc, append-nil}
use Prim.Native.Nat.{ℕ, ◌+◌, ◌-◌, ◌≤◌}
use native.Mathlib.Omega.{arith}
use lib.Dec.{leb}
use lib.ListN.{length, take, drop, length-drop, take-append-drop}
use lib.Seq.{take_at, drop_at, drop-drop, length-take-le}
use Rattle.theory.specs.declared.Order.{Order}
use Rattle.theory.specs.Words.{Bytes, Fits, put, puts}
use Rattle.theory.specs.Tests.{Res, ok, bad, unless}
use Rattle.theory.specs.Structures.{read_structure}
use Rattle.theory.proofs.WordLaws.{Bytes-part, length-puts}
use Rattle.theory.proofs.TestLaws.{need-ok, bind_ok, ok_inj, most_passed, most_passes}
use Rattle.note.specs.Limits.{file_limit}
use Rattle.note.specs.Records.{Record, Context, entry, event, unseen, records_bytes, read_record, read_records}
use Rattle.note.specs.Events.{Container, container_bytes, event_word, event_fault, event_word_rule, event_late, read_event}
use Rattle.note.specs.Files.{configuration_word, configuration_rule, configuration_late, read_configuration}
use Rattle.note.specs.Writers.{output_after, contents_of, end_given, within, closing_bytes}
use Rattle.note.specs.Writers.{configuration_closed, configuration_output, event_closed, event_output}
use Rattle.note.proofs.ContainerFieldLaws.{event-word-fits, event_word_admitted}
use Rattle.demands.specs.Outputs.{Laid, HasRoom, Closed}
use Rattle.demands.proofs.Bundles.{records, box, same-records}
use Rattle.demands.proofs.RowLaws.{container_size_lem}
use Rattle.demands.proofs.OutputLaws.{structure_apart, laid_from, put-laid, refusal_keeps}
use Rattle.note.specs.Faults.{too_short}

-- ---- any container

module _ (o : Order) (head : ℕ → ℕ) (late : ℕ → ℕ → ℕ) (c : Context) where
  -- The container's reader, its tests of its own words being these and its records read in the context c.
  abbrev pub reader : ℕ → List ℕ → Res Container
  reader = read_structure o too_short head late (λ w at bs. read_records o c (at + 8) bs)

  same-box : (s : Unit {0}) (at : ℕ) (bs : List ℕ) → reader at bs ≡ (box o head late c).read s at bs
  unfolding read_records read_record
  same-box s at bs = refl

  -- What an accepted closing has checked.
  pub record Checked (out : List ℕ) (place end next word : ℕ) : Type 0 where
    pub room : HasRoom (length out) place end
    pub fits : Fits 4 word
    pub head_ok : head word ≡ 0
    pub late_ok : late word (end - (place + 8)) ≡ 0
    pub read : List Record
    pub contents : read_records o c (place + 8) (contents_of out place end) ≡ ok read
    pub is : end ≡ next

  module _ (out : List ℕ) (place end next word : ℕ) (k : Checked out place end next word) (h : Bytes (contents_of out place end)) where
    -- What stands between the eight bytes and the end.
    abbrev held : List ℕ
    held = contents_of out place end

    inner-size : length held ≡ end - (place + 8)
    inner-size = length-take-le (end - (place + 8)) (drop (place + 8) out) (omega (arith, length-drop (place + 8) out, k.room))

    -- The contents are the records that were read from them, and the container is valid.
    inner : (held ≡ records_bytes o k.read) × (records o).Ok c k.read
    inner = (records o).sound c (place + 8) held k.read h (sym (same-records o c (place + 8) held) ∙ k.contents)

    size : length (records_bytes o k.read) ≡ end - (place + 8)
    size = sym (ap length inner.0) ∙ inner-size

    pub container_ok : (box o head late c).Ok tt (record { word = word; body = k.read })
    container_ok = record {
      head_ok = k.head_ok;
      late_ok = ap (late word) size ∙ k.late_ok;
      kind-word = k.fits;
      length-word = omega (arith, size, k.room);
      body_ok = inner.1;
    }

    -- The eight bytes, and from the place on the whole container.
    eight : List ℕ
    eight = closing_bytes o word place end

    eight-size : length eight ≡ 8
    unfolding eight
    eight-size = length-puts o 4 (word ∷ (end - (place + 8)) ∷ [])

    new : List ℕ
    new = output_after (ok next) out place eight

    eight-laid : Laid out new place (place + length eight) eight
    unfolding new
    eight-laid = put-laid out eight place next (omega (arith, eight-size, k.room))

    whole : Container
    whole = record { word = word; body = k.read }

    new-from : drop place new ≡ container_bytes o whole ++ drop end out
    unfolding eight whole puts
    new-from =
        let n : ℕ = end - (place + 8) in
        let B : List ℕ = records_bytes o k.read in
        let rest : List ℕ = drop end out in
        let at : place + length eight ≡ place + 8 = omega (arith, eight-size) in
        let last : place + 8 + n ≡ end = omega (arith, k.room) in
        let behind : drop (place + 8) out ≡ B ++ rest =
        sym (take-append-drop n (drop (place + 8) out))
        ∙ ap₂ (λ (x y : List ℕ). x ++ y) inner.0 (drop-drop n (place + 8) out ∙ ap (λ (m : ℕ). drop m out) last) in
        let front : eight ++ (B ++ rest) ≡ put o 4 word ++ (put o 4 n ++ (B ++ rest)) = simp append_assoc in
        laid_from out new place (place + length eight) eight eight-laid
        ∙ ap (λ (m : ℕ). eight ++ drop m out) at
        ∙ ap (λ (x : List ℕ). eight ++ x) behind
        ∙ front
        ∙ ap (λ (m : ℕ). put o 4 word ++ (put o 4 m ++ (B ++ rest))) (sym size)
        ∙ sym (structure_apart o (records_bytes o) whole rest)

    whole-size : length (container_bytes o whole) ≡ end - place
    unfolding whole
    whole-size = omega (arith, container_size_lem o whole, size, k.room)

    pub container_laid : Laid out (output_after (ok next) out place (closing_bytes o word place end)) place end
        (container_bytes o (record { word = word; body = k.read }))
    unfolding eight new whole
    container_laid =
        let rest : List ℕ = drop end out in
        let all : List ℕ = container_bytes o whole in
        let last : place + (end - place) ≡ end = omega (arith, k.room) in
        record {
          before = eight-laid.before;
          here = ap (take (length all)) new-from ∙ take_at all rest (length all) refl;
          behind = ap (λ (m : ℕ). drop m new) (sym last)
              ∙ sym (drop-drop (end - place) place new)
              ∙ ap (drop (end - place)) new-from
              ∙ drop_at all rest (end - place) whole-size;
          ends = omega (arith, whole-size, k.room);
          size = eight-laid.size;
        }

    -- So a closing that has checked all this leaves a closed container.
    closes : Closed o reader c out (output_after (ok next) out place (closing_bytes o word place end)) place end next word
    unfolding eight new whole
    closes =
        let all : List ℕ = container_bytes o whole in
        record {
          records = k.read;
          contents = k.contents;
          ends = sym k.is;
          reads = same-box tt place (take (end - place) (drop place new))
              ∙ ap (λ (x : List ℕ). (box o head late c).read tt place (take (end - place) x)) new-from
              ∙ ap ((box o head late c).read tt place) (take_at all (drop end out) (end - place) whole-size ∙ sym (append-nil all))
              ∙ (box o head late c).complete tt place whole [] container_ok;
          stands = container_laid;
          contents_stay = ap (λ (m : ℕ). drop (place + m) new) (sym eight-size)
              ∙ eight-laid.behind
              ∙ ap (λ (m : ℕ). drop (place + m) out) eight-size;
        }

-- ---- the two kinds of container

-- What is known where neither 1 nor 13 was given: place and end lie in the output, and eight bytes between them (FORMAT 9.4).
pub within-ok : (n place end : ℕ) (r : Res ℕ) (next : ℕ) → within n place end r ≡ ok next → HasRoom n place end × (r ≡ ok next)
within-ok n place end r next e =
    let (l, e1) = need-ok (unless (leb n file_limit) 1) 0 _ e in
    let (p, e2) = need-ok (unless (leb place n) 13) place _ e1 in
    let (q, e3) = need-ok (unless (leb end n) 13) place _ e2 in
    let (w, e4) = need-ok (unless (leb (place + 8) end) 13) place r e3 in
    ((most_passed (place + 8) end 12 w, most_passed end n 12 q, most_passed n file_limit 0 l), e4)

-- And where there is room, neither is given.
pub within_grants : (n place end : ℕ) (r : Res ℕ) → HasRoom n place end → within n place end r ≡ r
within_grants n place end r (wide, inside, limit) =
    let low : place ≤ n = omega arith in
    rw (most_passes 1 limit, most_passes 13 low, most_passes 13 inside, most_passes 13 wide)

ended-ok : (end next : ℕ) (r : Res (List Record)) → end_given end r ≡ ok next → (rs : List Record) × (r ≡ ok rs) × (end ≡ next)
ended-ok end next r e = let (rs, is, q) = bind_ok r (λ rs. ok end) e in (rs, is, ok_inj q)

-- The contents of an output of bytes are bytes.
contents-bytes : (out : List ℕ) (place end : ℕ) → Bytes out → Bytes (contents_of out place end)
contents-bytes out place end h = Bytes-part (end - (place + 8)) (place + 8) out h

-- A configuration.
module _ (o : Order) (out : List ℕ) (place end : ℕ) where
  pub configuration_checked : (next : ℕ) → configuration_closed o out place end ≡ ok next
      → Checked o configuration_rule configuration_late entry out place end next configuration_word
  unfolding configuration_closed
  configuration_checked next e =
      let (room, q) = within-ok (length out) place end _ next e in
      let (rs, read, is) = ended-ok end next _ q in
      record { room = room; fits = omega arith; head_ok = refl; late_ok = refl; read = rs; contents = read; is = is }

  -- And what a closing asks is no more.
  pub configuration_grants : Checked o configuration_rule configuration_late entry out place end end configuration_word
      → configuration_closed o out place end ≡ ok end
  unfolding configuration_closed
  configuration_grants k = within_grants (length out) place end _ k.room ∙ ap (end_given end) k.contents

  pub configuration_closes : (next : ℕ) → Bytes out → configuration_closed o out place end ≡ ok next
      → Closed o (read_configuration o) entry out (configuration_output o out place end) place end next configuration_word
  unfolding read_configuration configuration_output
  configuration_closes next h e =
      rw e (closes o configuration_rule configuration_late entry out place end next configuration_word
      (configuration_checked next e) (contents-bytes out place end h))

  -- A refusal leaves the output as it was.
  pub configuration-refused : (c p : ℕ) → configuration_closed o out place end ≡ bad c p → configuration_output o out place end ≡ out
  unfolding configuration_output
  configuration-refused c p e = refusal_keeps (configuration_closed o out place end) out (closing_bytes o configuration_word place end) place c p e

-- An event.
module _ (o : Order) (out : List ℕ) (place end class category type : ℕ) where
  -- The closing's answer, and the event's first word.
  abbrev closed_event : Res ℕ
  closed_event = event_closed o out place end class category type

  abbrev first_word : ℕ
  first_word = event_word class category type

  pub event_checked : (next : ℕ) → closed_event ≡ ok next → Checked o event_word_rule event_late (event unseen) out place end next first_word
  unfolding event_closed
  event_checked next e =
      let (room, q) = within-ok (length out) place end _ next e in
      let (fault, q1) = need-ok (event_fault class category type) place _ q in
      let (some, q2) = need-ok (event_late first_word (end - (place + 8))) place _ q1 in
      let (rs, read, is) = ended-ok end next _ q2 in
      record {
        room = room;
        fits = event-word-fits class category type fault;
        head_ok = event_word_admitted class category type fault;
        late_ok = some;
        read = rs;
        contents = read;
        is = is;
      }

  pub event-faultless : (next : ℕ) → closed_event ≡ ok next → event_fault class category type ≡ 0
  unfolding event_closed
  event-faultless next e = (need-ok (event_fault class category type) place _ (within-ok (length out) place end _ next e).1).0

  -- And what a closing asks is no more than that and a class, category and type without fault.
  pub event_grants : event_fault class category type ≡ 0 → Checked o event_word_rule event_late (event unseen) out place end end first_word
      → closed_event ≡ ok end
  unfolding event_closed
  event_grants fault k =
      within_grants (length out) place end _ k.room ∙ rw (fault, k.late_ok) (ap (end_given end) k.contents)

  pub event_closes : (next : ℕ) → Bytes out → event_closed o out place end class category type ≡ ok next
      → Closed o (read_event o) (event unseen) out (event_output o out place end class category type) place end next (event_word class category type)
  unfolding read_event event_output
  event_closes next h e =
      rw e (closes o event_word_rule event_late (event unseen) out place end next first_word (event_checked next e) (contents-bytes out place end h))

  -- A refusal leaves the output as it was.
  pub event-refused : (c p : ℕ) → event_closed o out place end class category type ≡ bad c p
      → event_output o out place end class category type ≡ out
  unfolding event_output
  event-refused c p e = refusal_keeps closed_event out (closing_bytes o first_word place end) place c p e
