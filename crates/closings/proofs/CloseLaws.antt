-- Each way through a closing, and the two containers' closings as cases of it.
-- The idea: what is answered before the contents are asked, then the contents; a configuration's own word has no fault, and its contents may be none.
use Rattle.std.proofs.Common.{Result, IsErrAnd}
use Prim.Native.Nat.{ℕ, zero, suc, ◌+◌, ◌-◌, ◌%◌}
use mathlib.Core.Path.{◌≡◌, refl, sym, ap, ◌∙◌, subst}
use mathlib.Core.Bool.{true}
use mathlib.Core.List.{List, [], ◌∷◌}
use native.Mathlib.Omega.{arith}
use lib.Dec.{leb}
use lib.ListN.{length}
use lib.Seq.{sets}
use borrow.Author.Tests.{le-leb}
use Rattle.theory.specs.declared.Order.{Order}
use Rattle.theory.specs.Tests.{Res, ok, bad, need, bind}
use Rattle.theory.proofs.WordLaws.{length-puts}
use Rattle.theory.proofs.TestLaws.{bind_ok}
use Rattle.note.specs.declared.Refusal.{Refusal}
use Rattle.note.specs.Faults.{fault_number, res_of}
use Rattle.note.specs.Records.{Record, Context, entry, event, unseen, read_records}
use Rattle.note.specs.Events.{event_word, event_fault}
use Rattle.note.specs.Files.{configuration_word}
use Rattle.note.specs.Writers.{output_after, contents_of, end_given, closing_bytes}
use Rattle.note.specs.Writers.{configuration_closed, configuration_output, event_closed, event_output}
use Rattle.note.proofs.ContainerFieldLaws.{admitted}
use Rattle.stores.proofs.WriterLaws.{given_back, unchanged, stored, written_unasked}
use Rattle.containers.specs.Counts.{record_count}
use Rattle.containers.proofs.ContainerLaws.{count-good, count-bad}
use Rattle.closings.specs.Closing.{bounded, closed}
use Rattle.closings.proofs.BoundLaws.{Bounds, bounds}

-- ---- any container

-- What a closing is asked.
pub record Call : Type 0 where
  pub out : List ℕ
  pub place : ℕ
  pub end : ℕ
  pub fault : ℕ
  pub least : ℕ
  pub word : ℕ
  pub context : Context

module _ (o : Order) (k : Call) where
  -- The closing's result; what is answered before the contents are asked; what the contents are read as; the two words.
  abbrev result : Res ℕ
  result = closed o k.out k.place k.end k.fault k.least k.context

  abbrev first : Res ℕ
  first = bounded (length k.out) k.place k.end k.fault k.least

  abbrev contents : Res (List Record)
  contents = read_records o k.context (k.place + 8) (contents_of k.out k.place k.end)

  abbrev head : List ℕ
  head = closing_bytes o k.word k.place k.end

  -- The answer and the output afterwards.
  abbrev pub Ends : Res ℕ → List ℕ → Type 0
  Ends answer after = (answer ≡ result) × (after ≡ output_after result k.out k.place head)

  -- A refusal, as `?` gives it back, changes no byte.
  ends-refused : (s : Result ℕ Refusal) (f : Refusal) → IsErrAnd s (λ e. e ≡ f) → bad (fault_number f.fault) f.place ≡ result
      → Ends (res_of s) k.out
  ends-refused s f back h = (sym (given_back s f back) ∙ h, unchanged k.out k.place head h)

  -- Refused before the contents are asked.
  pub refuses : (s : Result ℕ Refusal) (f : Refusal) → IsErrAnd s (λ e. e ≡ f) → bad (fault_number f.fault) f.place ≡ first
      → Ends (res_of s) k.out
  unfolding closed
  refuses s f back h = ends-refused s f back (rw (← h))

  -- The end was answered: nothing stood against the closing.
  pub told : {next : ℕ} → ok next ≡ first → Bounds (length k.out) k.place k.end k.fault k.least next
  told h = bounds _ _ _ _ _ _ (sym h)

  -- Refused by the contents.
  pub contents_refuse : {next : ℕ} (s : Result ℕ Refusal) (f : Refusal) → ok next ≡ first → IsErrAnd s (λ e. e ≡ f)
      → bad (fault_number f.fault) f.place ≡ record_count contents → Ends (res_of s) k.out
  unfolding closed
  contents_refuse s f h back e = ends-refused s f back (rw (← h, count-bad length e))

  -- Closed: the two words were stored.
  pub shuts : {next m : ℕ} {after : List ℕ} → ok next ≡ first → ok m ≡ record_count contents → after ≡ sets k.out k.place head
      → Ends (ok next) after
  unfolding closed
  shuts {next} h e shut =
      let own : ok next ≡ result = rw (← h, (count-good length e).1) in
      let size : length head ≡ 8 = length-puts o 4 (k.word ∷ (k.end - (k.place + 8)) ∷ []) in
      (own, shut ∙ stored k.out k.place head own (omega (arith, size, (told h).room)))

-- ---- the two containers

need-bind : {A B : Type 0} (c p : ℕ) (r : Res A) (k : A → Res B) → bind (need c p r) k ≡ need c p (bind r k)
need-bind zero p r k = refl
need-bind (suc c) p r k = refl

-- Each container's closing is a case of any container's, as its definition has it.
configuration-is : (o : Order) (out : List ℕ) (place end : ℕ) → closed o out place end 0 0 entry ≡ configuration_closed o out place end
unfolding closed bounded configuration_closed
configuration-is o out place end =
    let any : leb 0 (end - (place + 8)) ≡ true = le-leb 0 (end - (place + 8)) (omega arith) in
    simp (need-bind, any)

pub configuration-ends : (o : Order) (out : List ℕ) (place end : ℕ) {answer : Res ℕ} {after : List ℕ}
    → Ends o (record { out = out; place = place; end = end; fault = 0; least = 0; word = configuration_word; context = entry }) answer after
    → (answer ≡ configuration_closed o out place end) × (after ≡ configuration_output o out place end)
unfolding configuration_output
configuration-ends o out place end {answer} {after} s =
    let head : List ℕ = closing_bytes o configuration_word place end in
    subst (λ (r : Res ℕ). (answer ≡ r) × (after ≡ output_after r out place head)) (configuration-is o out place end) s

event-is : (o : Order) (out : List ℕ) (place end class category type : ℕ)
    → closed o out place end (event_fault class category type) 1 (event unseen) ≡ event_closed o out place end class category type
unfolding closed bounded event_closed
event-is o out place end class category type = simp need-bind

-- The first word of an admitted class, category and type has room for them.
pub word-whole : (class category type : ℕ) → event_fault class category type ≡ 0
    → event_word (class % 16) (category % 16) (type % 256) ≡ event_word class category type
word-whole class category type e = let (a, b, c) = admitted class category type e in omega arith

module _ (o : Order) (out : List ℕ) (place end class category type : ℕ) where
  -- The fault of the event's own word, and its two words.
  abbrev own-fault : ℕ
  own-fault = event_fault class category type

  abbrev own-head : List ℕ
  own-head = closing_bytes o (event_word class category type) place end

  -- Where the closing is granted, the word that was made is the event's.
  head-is : (word : ℕ) → word ≡ event_word (class % 16) (category % 16) (type % 256) → (next : ℕ)
      → closed o out place end own-fault 1 (event unseen) ≡ ok next → closing_bytes o word place end ≡ own-head
  unfolding closed
  head-is word word-is next e =
      let contents : Res (List Record) = read_records o (event unseen) (place + 8) (contents_of out place end) in
      let (n, bounded-ok, rest) = bind_ok (bounded (length out) place end own-fault 1) (λ m. end_given m contents) e in
      let clean : own-fault ≡ 0 = (bounds (length out) place end own-fault 1 n bounded-ok).clean in
      ap (λ (w : ℕ). closing_bytes o w place end) (word-is ∙ word-whole class category type clean)

  pub event-ends : {fault word : ℕ} {answer : Res ℕ} {after : List ℕ} → fault ≡ own-fault
      → word ≡ event_word (class % 16) (category % 16) (type % 256)
      → Ends o (record { out = out; place = place; end = end; fault = fault; least = 1; word = word; context = event unseen }) answer after
      → (answer ≡ event_closed o out place end class category type) × (after ≡ event_output o out place end class category type)
  unfolding event_output
  event-ends {fault} {word} fault-is word-is (answer, output) =
      let r : Res ℕ = closed o out place end own-fault 1 (event unseen) in
      let same : closed o out place end fault 1 (event unseen) ≡ r = ap (λ (f : ℕ). closed o out place end f 1 (event unseen)) fault-is in
      let is : r ≡ event_closed o out place end class category type = event-is o out place end class category type in (
        answer ∙ same ∙ is,
        output ∙ ap (λ (x : Res ℕ). output_after x out place (closing_bytes o word place end)) same
            ∙ written_unasked r out place _ _ (head-is word word-is)
            ∙ ap (λ (x : Res ℕ). output_after x out place own-head) is,
      )
