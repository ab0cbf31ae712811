-- The loop over events: what is known at each turn, and one law for each way of a turn.
-- The idea: the theory's loop over items, for the note's event item; an event's length word is its contents' length.
use mathlib.Core.Path.{◌≡◌, refl, sym, ap, ◌∙◌, subst}
use mathlib.Core.List.{List, [], ◌∷◌, ◌++◌}
use Prim.Native.Nat.{ℕ, ◌+◌, ◌≤◌, ◌<◌}
use native.Mathlib.Omega.{arith}
use lib.ListN.{length, take, drop, length-append}
use Rattle.theory.specs.declared.Order.{Order}
use Rattle.theory.specs.Words.{Bytes}
use Rattle.theory.specs.Tests.{ok, bad}
use Rattle.theory.proofs.StructureLaws.{stateless, length-structure, opens, length-is, inside}
use Rattle.theory.proofs.LoopLaws.{At, start, ended, stopped, more}
use Rattle.note.specs.Words.{word}
use Rattle.note.specs.Records.{Record, event, unseen, record_bytes, records_bytes, read_records}
use Rattle.note.specs.Events.{Container, container_size, event_word_rule, event_late, read_event, read_events}
use Rattle.demands.proofs.Bundles.{records, event_item, same-records, same-event, same-events}
use Rattle.record.proofs.StepLaws.{cut_body, cut}
use Rattle.containers.specs.declared.Container.TheVariants.{Event}
use Rattle.containers.specs.declared.Holding.{Holding}
use Rattle.containers.specs.Counts.{count_of, container_step, rows_of_events, event_rows}
use Rattle.containers.proofs.RecordLoop.{behind_of, left, Bytes-behind}
use Rattle.containers.proofs.ContainerLaws.{holding_good, holding_bad, sized}
use Rattle.note.specs.Faults.{too_short}
use Rattle.note.proofs.FaultLaws.{short-some}

-- What an event that was read shows of its bytes: its first word, its contents' length, its records as code cuts them out.
pub record Shown (o : Order) (at : ℕ) (rest : List ℕ) (e : Container) : Type 0 where
  pub read : (event_item o).read tt at rest ≡ ok e
  pub kind-is : e.word ≡ word o 0 rest
  pub size : length (records_bytes o e.body) ≡ word o 4 rest
  pub fits : 8 + word o 4 rest ≤ length rest
  pub contents : read_records o (event unseen) (at + 8) (cut_body (word o 4 rest) rest) ≡ ok e.body

pub event-shows : (o : Order) (at : ℕ) (rest : List ℕ) (e : Container) → Bytes rest → (event_item o).read tt at rest ≡ ok e → Shown o at rest e
event-shows o at rest e h r =
    let shown =
    opens o too_short short-some (stateless event_word_rule) (stateless event_late) (inside (λ s. event unseen) (records o)).read tt at rest e r in
    record {
      read = r;
      kind-is = shown.kind-is;
      size =
          length-is o too_short short-some (stateless event_word_rule) (stateless event_late)
          (inside (λ s. event unseen) (records o)) tt at rest e h r;
      fits = shown.fits;
      contents =
          ap (read_records o (event unseen) (at + 8)) (cut (word o 4 rest) rest)
          ∙ same-records o (event unseen) (at + 8) (take (word o 4 rest) (drop 8 rest))
          ∙ shown.body_is;
    }

-- Records are no more than their bytes.
pub few : (o : Order) (xs : List Record) → length xs ≤ length (records_bytes o xs)
few o [] = omega arith
few o (x ∷ xs) = omega (arith, length-append (record_bytes o x) (records_bytes o xs), length-structure o (λ (b : List ℕ). b) x, few o xs)

rows_more : (es : List Container) (e : Container) → rows_of_events (es ++ e ∷ []) ≡ rows_of_events es + 1 + length e.body
rows_more [] e = omega arith
rows_more (x ∷ es) e = omega (arith, rows_more es e)

-- Counting: the events that were read have so many rows.
pub record Rows (o : Order) (from : ℕ) (bs : List ℕ) (at : ℕ) (rest : List ℕ) (count : ℕ) : Type 0 where
  pub es : List Container
  pub is : At (event_item o) tt from bs tt at rest es
  pub size : rows_of_events es ≡ count
  pub low : from + count ≤ at
  pub bytes : Bytes rest

pub begin : (o : Order) (from : ℕ) (bs : List ℕ) → Bytes bs → Rows o from bs from bs 0
begin o from bs h = record { es = []; is = start (event_item o) tt from bs; size = refl; low = omega arith; bytes = h }

-- An event that was read moves the loop on.
pub on_event : {o : Order} {from : ℕ} {bs : List ℕ} {at : ℕ} {rest : List ℕ} {es : List Container}
    → At (event_item o) tt from bs tt at rest es → 0 < length rest
    → (e : Container) → (event_item o).read tt at rest ≡ ok e → (n : ℕ) → length (records_bytes o e.body) ≡ n → 8 + n ≤ length rest
    → At (event_item o) tt from bs tt (at + (8 + n)) (behind_of (8 + n) rest) (es ++ e ∷ [])
on_event {o} {from} {bs} {at} {rest} {es} i l e r n en fits =
    let z : container_size o e ≡ 8 + n = ap (λ (x : ℕ). 8 + x) en in
    let m : At (event_item o) tt from bs tt (at + container_size o e) (drop (container_size o e) rest) (es ++ e ∷ []) =
    more (event_item o) i l e r (omega arith) (omega (arith, z)) in
    subst (λ (x : List ℕ). At (event_item o) tt from bs tt (at + (8 + n)) x (es ++ e ∷ [])) (left (8 + n) rest)
    (subst (λ (x : ℕ). At (event_item o) tt from bs tt (at + x) (drop x rest) (es ++ e ∷ [])) z m)

module _ {o : Order} {from : ℕ} {bs : List ℕ} {at : ℕ} {rest : List ℕ} {count : ℕ} (i : Rows o from bs at rest count) where
  pub place : at + length rest ≡ from + length bs
  place = i.is.place

  pub low : from + count ≤ at
  low = i.low

  pub done : length rest ≤ 0 → ok count ≡ event_rows (read_events o from bs)
  unfolding count_of
  done h = ap ok (sym i.size) ∙ ap event_rows (ended (event_item o) i.is (omega arith) ∙ sym (same-events o tt from bs))

  pub stops : 0 < length rest → (c p : ℕ) → bad c p ≡ container_step o (read_event o at rest)
      → bad c p ≡ event_rows (read_events o from bs)
  unfolding count_of
  stops l c p e =
      let r : (event_item o).read tt at rest ≡ bad c p = sym (same-event o tt at rest) ∙ holding_bad o (read_event o at rest) c p e in
      ap event_rows (stopped (event_item o) i.is l c p r ∙ sym (same-events o tt from bs))

  module _ (l : 0 < length rest) (h : Holding) (q : ok h ≡ container_step o (read_event o at rest)) where
    pub fits : (8 + h.length ≤ length rest) × (h.count ≤ h.length)
    fits =
        let (e, r, k-is, n-is, t-is) = holding_good o (read_event o at rest) h q in
        let (a, b) = sized Event o at rest e i.bytes r in
        (omega arith, omega (arith, few o e.body))

    pub next : Rows o from bs (at + (8 + h.length)) (behind_of (8 + h.length) rest) (count + (1 + h.count))
    next =
        let (e, r, k-is, n-is, t-is) = holding_good o (read_event o at rest) h q in
        let f : (8 + h.length ≤ length rest) × (h.count ≤ h.length) = fits in
        record {
          es = i.es ++ e ∷ [];
          is = on_event i.is l e (sym (same-event o tt at rest) ∙ r) h.length n-is f.0;
          size = rows_more i.es e ∙ omega (arith, i.size, t-is);
          low = omega (arith, i.low, f.1);
          bytes = Bytes-behind (8 + h.length) rest i.bytes;
        }
