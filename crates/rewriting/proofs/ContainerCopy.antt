-- A container written again: its two words, then its contents behind them. Once, for configurations and events.
-- The idea: contents that are read are their records' bytes, so with the two words in front of them they are the container's.
use mathlib.Core.Path.{◌≡◌, sym, ap, ap₂, ◌∙◌, subst}
use mathlib.Core.Bool.{true, false}
use mathlib.Core.List.{List, [], ◌∷◌, ◌++◌, append_assoc}
use Prim.Native.Nat.{ℕ, ◌+◌, ◌-◌, ◌/◌, ◌≤◌}
use native.Mathlib.Omega.{arith}
use lib.ListN.{length, take, drop}
use lib.Seq.{sets, sets-eq}
use Rattle.theory.specs.declared.Order.{Order}
use Rattle.theory.specs.Words.{Bytes, put, puts}
use Rattle.theory.specs.Tests.{ok}
use Rattle.theory.proofs.WordLaws.{length-puts}
use Rattle.theory.proofs.TestLaws.{first-at, equal_passed}
use Rattle.note.specs.Records.{Record, Context, records_bytes, read_records}
use Rattle.note.specs.Events.{container_bytes, class_of, category_of, event_type_of, event_mark, event_word, event_fault, event_word_rule}
use Rattle.note.specs.Files.{configuration_word}
use Rattle.note.specs.Writers.{output_after, closing_bytes}
use Rattle.demands.specs.Outputs.{Laid, HasRoom}
use Rattle.demands.proofs.Bundles.{records, same-records}
use Rattle.demands.proofs.OutputLaws.{put-laid, both_laid}
use Rattle.rewriting.specs.Ready.{Begins}

module _ (o : Order) (old mid : List ℕ) (place end w : ℕ) (room : HasRoom (length old) place end)
    (e : mid ≡ sets old place (closing_bytes o w place end)) where
  abbrev head : List ℕ
  head = closing_bytes o w place end

  head-size : length head ≡ 8
  head-size = length-puts o 4 (w ∷ (end - (place + 8)) ∷ [])

  -- The two words.
  pub head-laid : Laid old mid place (place + 8) head
  unfolding output_after
  head-laid =
      let fits : place + length head ≤ length old = omega (arith, head-size, room) in
      let stored : mid ≡ output_after (ok end) old place head =
      e ∙ sets-eq head old place fits ∙ append_assoc (take place old) head (drop (place + length head) old) in
      subst (λ (x : List ℕ). Laid old x place (place + 8) head) (sym stored)
      (subst (λ (n : ℕ). Laid old (output_after (ok end) old place head) place n head) (ap (λ (n : ℕ). place + n) head-size)
      (put-laid old head place end fits))

  -- The contents behind them.
  pub container_copied : (c : Context) (inner new : List ℕ) (rs : List Record) → Bytes inner → read_records o c (place + 8) inner ≡ ok rs
      → Laid mid new (place + 8) end inner → Laid old new place end (container_bytes o (record { word = w; body = rs }))
  unfolding puts
  container_copied c inner new rs h reads l =
      let own : inner ≡ records_bytes o rs = ((records o).sound c (place + 8) inner rs h (sym (same-records o c (place + 8) inner) ∙ reads)).0 in
      let size : end - (place + 8) ≡ length (records_bytes o rs) = omega (arith, l.ends, ap length own) in
      let apart : head ++ inner ≡ put o 4 w ++ (put o 4 (end - (place + 8)) ++ inner) = simp append_assoc in
      subst (λ (x : List ℕ). Laid old new place end x)
      (apart ∙ ap₂ (λ (n : ℕ) (x : List ℕ). put o 4 w ++ (put o 4 n ++ x)) size own)
      (both_laid old mid new head inner place (place + 8) end (omega (arith, room)) head-laid l)

-- An event's first word, taken apart and put together again.
word-again : (w : ℕ) → event_word_rule w ≡ 0 → event_word (class_of w) (category_of w) (event_type_of w) ≡ w
unfolding event_word_rule
word-again w e = let mark : w / 65536 ≡ event_mark = equal_passed (w / 65536) event_mark 4 (first-at _ e 0) in omega arith

-- A container that isn't a configuration is an event, and its class, category and type have no fault.
pub event_begins : (w class category type : ℕ) → class ≡ class_of w → category ≡ category_of w → type ≡ event_type_of w
    → Begins w → (w ≡ configuration_word → ⊥)
    → (event_fault class category type ≡ 0) × (event_word class category type ≡ w)
unfolding event_word_rule
event_begins w class category type ec eg et (true, e) n = absurd (n (equal_passed w configuration_word 4 e))
event_begins w class category type ec eg et (false, e) n = (
  (λ j. event_fault (ec j) (eg j) (et j)) ∙ first-at _ e 1,
  (λ j. event_word (ec j) (eg j) (et j)) ∙ word-again w e,
)
