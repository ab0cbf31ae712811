-- Every refusal of every call is one of the numbers that this call can give, at its place (FORMAT 2.1, 2.2).
-- The idea: a call's refusal is its reader's (RefusalLaws) or a test's of its own; one law over an answer of any form, then a line for each.
use mathlib.Core.Path.{◌≡◌, refl, subst}
use mathlib.Core.Bool.{Bool, true, false, cond, ◌&&◌}
use mathlib.Core.List.{List, [], ◌∷◌}
use mathlib.Core.Option as Listed
use Prim.Native.Nat.{ℕ, ◌+◌, ◌-◌, ◌*◌}
use borrow.Author.Tests.{leb-false}
use lib.Dec.{leb, ltb, eqb}
use lib.ListN.{length, drop}
use Rattle.theory.specs.declared.Order.{Order}
use Rattle.theory.specs.Tests.{Res, ok, bad, need, unless, among}
use Rattle.theory.proofs.TestLaws.{Numbered, unless-numbered, numbered_wider, need-ok, most_passed}
use Rattle.note.specs.Limits.{file_limit, row_width}
use Rattle.note.specs.Faults.{res_of}
use Rattle.note.specs.Answers.{Given, accepted, refused}
use Rattle.note.specs.Channels.{Channel, called, channel_of, channel_given, channel_answer, code_given, code_answer}
use Rattle.note.specs.Words.{unsigned}
use Rattle.note.specs.Phonon.{phonon_kind, phonon_fault}
use Rattle.note.specs.Charge.{charge_kind, charge_fault}
use Rattle.note.specs.Administrative.{administrative_fault}
use Rattle.note.specs.Trace.{trace_of, trace_fault}
use Rattle.note.specs.History.{history_fault}
use Rattle.note.specs.Gps.{gps_fault}
use Rattle.note.specs.Tlb.{tlb_fault}
use Rattle.note.specs.Records.{Record, Context, entry, event, unseen, alone, read_record, read_records}
use Rattle.note.specs.Events.{event_fault}
use Rattle.note.specs.Files.{File, read_file}
use Rattle.note.specs.Rows.{rows_of, fits, table_given, table_answer, yield_given, yield_at}
use Rattle.note.specs.Visitor.{visit_given, visit_answer}
use Rattle.note.specs.Calls.{record_found, record_given, record_at, setting_given, setting_at, is_trace, sample_given, sample_at, find_given, find_at}
use Rattle.note.specs.Writers.{writer_next, phonon_draft, charge_draft, administrative_draft, trace_draft, history_draft, gps_draft}
use Rattle.note.specs.Writers.{trigger_draft, tlb_draft, record_next, header_next, contents_of, end_given, within, configuration_closed, event_closed}
use Rattle.note.specs.Writers.{file_rewritten, rewrite_next}
use Rattle.note.proofs.RuleNumbers.{phonon_fault_numbers, charge_fault_numbers, administrative_fault_numbers, trace_fault_numbers}
use Rattle.note.proofs.RuleNumbers.{history_fault_numbers, gps_fault_numbers, tlb_fault_numbers, event_fault_numbers}
use Rattle.demands.specs.Pieces.{Piece, phonon, charge, administrative, trace, history, gps, trigger, tlb, draft_of}
use Rattle.demands.specs.Refusals.{Refusal, within-limit}
use Rattle.demands.specs.Numbers.{At, From, record_numbers, ContainerNumbers, itself, inside}
use Rattle.demands.specs.Numbers.{FileRefusal, RecordRefusal, TableRefusal, of_file, few_rows_lem}
use Rattle.demands.specs.Numbers.{writer_numbers, WriterRefusal, configuration_closing_numbers, event_closing_numbers, ClosingRefusal}
use Rattle.demands.specs.Numbers.{RewriteNumbers, of_read, small_output}
use Rattle.demands.proofs.RefusalLaws.{Gives, need_gives, bind_gives, gives_wider, record_gives, records_give, limit_gives, file_gives}
use Rattle.demands.proofs.RefusalLaws.{file_numbers}

-- ---- Table and the visitor

module _ (bs : List ℕ) (capacity : ℕ) where
  pub table_numbers : ((table_answer bs capacity).number ≡ 0 → ⊥) → TableRefusal bs capacity (table_answer bs capacity)
  unfolding table_answer
  table_numbers = go (read_file bs) refl
    where
      room : (f : File) → read_file bs ≡ ok f → (t : Bool) → fits capacity (rows_of f) ≡ t → (◌≡◌ {A = ℕ} (cond t 0 12) 0 → ⊥)
          → TableRefusal bs capacity (record { number = cond t 0 12; count = length (rows_of f); place = length bs })
      room f e true t h = absurd (h refl)
      room f e false t h = few_rows_lem f e (leb-false (row_width * length (rows_of f)) capacity t) refl refl refl

      go : (r : Res File) → read_file bs ≡ r → ((table_given bs capacity r).number ≡ 0 → ⊥) → TableRefusal bs capacity (table_given bs capacity r)
      go (bad c p) e h = of_file (file_numbers bs c p e) refl
      go (ok f) e h = room f e (fits capacity (rows_of f)) refl h

  pub visit_numbers : (k : ℕ) → ((visit_answer bs k capacity).number ≡ 0 → ⊥)
      → FileRefusal bs (visit_answer bs k capacity).number (visit_answer bs k capacity).place × ((visit_answer bs k capacity).count ≡ 0)
  unfolding visit_answer
  visit_numbers k = go (read_file bs) refl
    where
      go : (r : Res File) → read_file bs ≡ r → ((visit_given bs k capacity r).number ≡ 0 → ⊥)
          → FileRefusal bs (visit_given bs k capacity r).number (visit_given bs k capacity r).place × ((visit_given bs k capacity r).count ≡ 0)
      go (bad c p) e h = (file_numbers bs c p e, refl)
      go (ok f) e h = absurd (h refl)

-- ---- the other reading calls

-- An answer with values, or a refusal of this sort.
abbrev Refuses : (ℕ → ℕ → Type 0) → Given → Type 0
Refuses P (accepted vs) = Unit {0}
Refuses P (refused c p) = P c p

either : (P : ℕ → ℕ → Type 0) (t : Bool) (a b : Given) → Refuses P a → Refuses P b → Refuses P (cond t a b)
either P true a b h g = h
either P false a b h g = g

module _ (bs : List ℕ) where
  pub yield_numbers : (k c p : ℕ) → yield_at bs k ≡ refused c p → FileRefusal bs c p
  unfolding yield_at
  yield_numbers k c p e = subst (Refuses (FileRefusal bs)) e (go (read_file bs) (file_gives bs))
    where
      go : (r : Res File) → Gives (FileRefusal bs) r → Refuses (FileRefusal bs) (yield_given k r)
      go (bad c p) h = h
      go (ok f) h = either (FileRefusal bs) (ltb k (length (rows_of f))) _ (accepted []) tt tt

  pub find_numbers : (number code c p : ℕ) → find_at bs number code ≡ refused c p → FileRefusal bs c p
  unfolding find_at
  find_numbers number code c p e = subst (Refuses (FileRefusal bs)) e (go (read_file bs) (file_gives bs))
    where
      go : (r : Res File) → Gives (FileRefusal bs) r → Refuses (FileRefusal bs) (find_given number code r)
      go (bad c p) h = h
      go (ok f) h = tt

module _ (o : Order) (bs : List ℕ) (place : ℕ) where
  abbrev Mine : ℕ → ℕ → Type 0
  Mine = RecordRefusal bs place

  found_gives : Gives Mine (record_found o bs place)
  unfolding record_found
  found_gives =
      limit_gives (At place (record_numbers alone)) (length bs) (read_record o alone place (drop place bs))
      (record_gives o alone place (drop place bs))

  -- What was found was looked for within the limit, so a number of the call's own is given at the place.
  found_within : (r : Record) → record_found o bs place ≡ ok r → (c : ℕ) → among c (record_numbers alone) ≡ true → Mine c place
  unfolding record_found
  found_within r e c h =
      within-limit (most_passed (length bs) file_limit 0 (need-ok (unless (leb (length bs) file_limit) 1) 0 _ e).0) (h, refl)

  pub record_numbers_lem : (c p : ℕ) → record_at o bs place ≡ refused c p → RecordRefusal bs place c p
  unfolding record_at
  record_numbers_lem c p e = subst (Refuses Mine) e (go (record_found o bs place) found_gives)
    where
      go : (r : Res Record) → Gives Mine r → Refuses Mine (record_given o place r)
      go (bad c p) h = h
      go (ok r) h = tt

  pub setting_numbers : (c p : ℕ) → setting_at o bs place ≡ refused c p → RecordRefusal bs place c p
  unfolding setting_at
  setting_numbers c p e = subst (Refuses Mine) e (go (record_found o bs place) refl found_gives)
    where
      go : (r : Res Record) → record_found o bs place ≡ r → Gives Mine r → Refuses Mine (setting_given o place r)
      go (bad c p) q h = h
      go (ok r) q h =
          either Mine (eqb r.word phonon_kind.word) _ _ tt
          (either Mine (eqb r.word charge_kind.word) _ (refused 5 place) tt (found_within r q 5 refl))

  pub sample_numbers : (k c p : ℕ) → sample_at o bs place k ≡ refused c p → RecordRefusal bs place c p
  unfolding sample_at
  sample_numbers k c p e = subst (Refuses Mine) e (go (record_found o bs place) refl found_gives)
    where
      go : (r : Res Record) → record_found o bs place ≡ r → Gives Mine r → Refuses Mine (sample_given o place k r)
      go (bad c p) q h = h
      go (ok r) q h =
          either Mine (is_trace r) _ (refused 5 place)
          (either Mine (leb 1 k && leb k (trace_of o r.body).n) _ (refused 11 place) tt (found_within r q 11 refl))
          (found_within r q 5 refl)

-- ---- channels

pub channel_numbers_lem : (code : ℕ) (c p : ℕ) → res_of (channel_answer code) ≡ bad c p → At 0 (10 ∷ []) c p
unfolding channel_answer
channel_numbers_lem code c p e = subst (Gives (At 0 (10 ∷ []))) e (go (channel_of code))
  where
    go : (x : Listed.Option Channel) → Gives (At 0 (10 ∷ [])) (res_of (channel_given code x))
    go Listed.none = (refl, refl)
    go (Listed.some x) = tt

pub code_numbers : (kind detector : ℕ) (name : List ℕ) (c p : ℕ) → code_answer kind detector name ≡ refused c p → At 0 (10 ∷ []) c p
unfolding code_answer
code_numbers kind detector name c p e = subst (Refuses (At 0 (10 ∷ []))) e (go (called kind name))
  where
    go : (x : Listed.Option Channel) → Refuses (At 0 (10 ∷ [])) (code_given kind detector x)
    go Listed.none = (refl, refl)
    go (Listed.some x) = either (At 0 (10 ∷ [])) (leb detector 999) _ (refused 10 0) tt (refl, refl)

-- ---- the writers

-- Over an output of n bytes, of fields whose fault is one of these numbers.
writer_next_gives : (n place fault size : ℕ) (ns : List ℕ) → among 13 ns ≡ true → Numbered ns fault
    → Gives (Refusal n (At place ns)) (writer_next n place fault size)
unfolding writer_next
writer_next_gives n place fault size ns h f =
    let P : ℕ → ℕ → Type 0 = At place ns in
    let room : Bool = leb (place + size) n in
    let last : Res ℕ = need (unless room 13) place (ok (place + size)) in
    limit_gives P n (need fault place last)
    (need_gives P ns fault place last f (λ c a. (a, refl))
    (λ e. need_gives P ns (unless room 13) place (ok (place + size)) (unless-numbered ns room 13 h) (λ c a. (a, refl)) (λ r. tt)))

-- Each kind's writer: 1, its fields' numbers, 13.
room-numbered : (piece : Piece) → among 13 (writer_numbers piece) ≡ true
room-numbered (phonon f) = refl
room-numbered (charge f) = refl
room-numbered (administrative f) = refl
room-numbered (trace f) = refl
room-numbered (history f) = refl
room-numbered (gps f) = refl
room-numbered (trigger f) = refl
room-numbered (tlb f) = refl

ten : (c : ℕ) → Numbered (10 ∷ []) c → Numbered (10 ∷ 13 ∷ []) c
ten c h = numbered_wider (10 ∷ []) (10 ∷ 13 ∷ []) c refl h

fault-numbered : (o : Order) (piece : Piece) → Numbered (writer_numbers piece) (draft_of o piece).fault
unfolding draft_of phonon_draft charge_draft administrative_draft trace_draft history_draft gps_draft trigger_draft tlb_draft Numbered
fault-numbered o (phonon f) = ten (phonon_fault (unsigned f.code)) (phonon_fault_numbers (unsigned f.code))
fault-numbered o (charge f) = ten (charge_fault (unsigned f.code)) (charge_fault_numbers (unsigned f.code))
fault-numbered o (administrative f) = ten (administrative_fault f.date f.clock) (administrative_fault_numbers f.date f.clock)
fault-numbered o (trace f) = numbered_wider (6 ∷ 10 ∷ 11 ∷ []) (6 ∷ 10 ∷ 11 ∷ 13 ∷ []) (trace_fault f) refl (trace_fault_numbers f)
fault-numbered o (history f) = numbered_wider (6 ∷ 10 ∷ []) (6 ∷ 10 ∷ 13 ∷ []) (history_fault f) refl (history_fault_numbers f)
fault-numbered o (gps f) = ten (gps_fault f) (gps_fault_numbers f)
fault-numbered o (trigger f) = tt
fault-numbered o (tlb f) = ten (tlb_fault f) (tlb_fault_numbers f)

pub writer_numbers_lem : (o : Order) (piece : Piece) (out : List ℕ) (place c p : ℕ) → record_next out place (draft_of o piece) ≡ bad c p
    → WriterRefusal out place (writer_numbers piece) c p
unfolding record_next
writer_numbers_lem o piece out place c p e =
    subst (Gives (WriterRefusal out place (writer_numbers piece))) e
    (writer_next_gives (length out) place (draft_of o piece).fault (length (draft_of o piece).bytes) (writer_numbers piece)
    (room-numbered piece) (fault-numbered o piece))

pub header_numbers_lem : (out : List ℕ) (c p : ℕ) → header_next out ≡ bad c p → WriterRefusal out 0 (13 ∷ []) c p
unfolding header_next Numbered
header_numbers_lem out c p e = subst (Gives (WriterRefusal out 0 (13 ∷ []))) e (writer_next_gives (length out) 0 0 8 (13 ∷ []) refl tt)

-- ---- the closings and Rewrite

module _ (o : Order) (out : List ℕ) (place end : ℕ) where
  -- 1 and 13, before what a container asks.
  within_gives : (own contents : List ℕ) (r : Res ℕ) → among 13 own ≡ true → Gives (ContainerNumbers place own contents) r
      → Gives (Refusal (length out) (ContainerNumbers place own contents)) (within (length out) place end r)
  within_gives own contents r h g =
      let P : ℕ → ℕ → Type 0 = ContainerNumbers place own contents in
      let n : ℕ = length out in
      let mine : (c : ℕ) → among c own ≡ true → P c place = λ c a. itself (a, refl) in
      let wide : Res ℕ = need (unless (leb (place + 8) end) 13) place r in
      let inside : Res ℕ = need (unless (leb end n) 13) place wide in
      limit_gives P n (need (unless (leb place n) 13) place inside)
      (need_gives P own (unless (leb place n) 13) place inside (unless-numbered own (leb place n) 13 h) mine
      (λ a. need_gives P own (unless (leb end n) 13) place wide (unless-numbered own (leb end n) 13 h) mine
      (λ b. need_gives P own (unless (leb (place + 8) end) 13) place r (unless-numbered own (leb (place + 8) end) 13 h) mine (λ c. g))))

  contents_give : (own : List ℕ) (context : Context) → Gives (ContainerNumbers place own (record_numbers context))
      (end_given end (read_records o context (place + 8) (contents_of out place end)))
  contents_give own context =
      let P : ℕ → ℕ → Type 0 = ContainerNumbers place own (record_numbers context) in
      let r : Res (List Record) = read_records o context (place + 8) (contents_of out place end) in
      bind_gives P r (λ rs. ok end)
      (gives_wider (From (place + 8) (record_numbers context)) P r (λ c p h. inside h)
      (records_give o context (place + 8) (contents_of out place end)))
      (λ rs. tt)

  pub configuration_closing_numbers_lem : (c p : ℕ) → configuration_closed o out place end ≡ bad c p
      → ClosingRefusal out place configuration_closing_numbers entry c p
  unfolding configuration_closed
  configuration_closing_numbers_lem c p e =
      subst (Gives (ClosingRefusal out place configuration_closing_numbers entry)) e
      (within_gives configuration_closing_numbers (record_numbers entry) _ refl (contents_give configuration_closing_numbers entry))

  pub event_closing_numbers_lem : (class category type c p : ℕ) → event_closed o out place end class category type ≡ bad c p
      → ClosingRefusal out place event_closing_numbers (event unseen) c p
  unfolding event_closed
  event_closing_numbers_lem class category type c p e =
      let own : List ℕ = event_closing_numbers in
      let P : ℕ → ℕ → Type 0 = ContainerNumbers place own (record_numbers (event unseen)) in
      let mine : (c : ℕ) → among c own ≡ true → P c place = λ c a. itself (a, refl) in
      let fault : ℕ = event_fault class category type in
      let some : Bool = leb 1 (end - (place + 8)) in
      let contents : Res ℕ = end_given end (read_records o (event unseen) (place + 8) (contents_of out place end)) in
      let full : Res ℕ = need (unless some 9) place contents in
      subst (Gives (ClosingRefusal out place own (event unseen))) e
      (within_gives own (record_numbers (event unseen)) (need fault place full) refl
      (need_gives P own fault place full (numbered_wider (7 ∷ 8 ∷ []) own fault refl (event_fault_numbers class category type)) mine
      (λ f. need_gives P own (unless some 9) place contents (unless-numbered own some 9 refl) mine (λ s. contents_give own (event unseen)))))

pub rewrite_numbers : (bs out : List ℕ) (c p : ℕ) → rewrite_next bs out ≡ bad c p → Refusal (length out) (RewriteNumbers bs) c p
unfolding rewrite_next
rewrite_numbers bs out c p e =
    let P : ℕ → ℕ → Type 0 = RewriteNumbers bs in
    let size : File → ℕ = λ f. length (file_rewritten f) in
    let last : File → Res ℕ = λ f. need (unless (leb (size f) (length out)) 13) 0 (ok (size f)) in
    subst (Gives (Refusal (length out) P)) e
    (limit_gives P (length out) _
    (bind_gives P (read_file bs) last (gives_wider (FileRefusal bs) P (read_file bs) (λ c p h. of_read h) (file_gives bs))
    (λ f. need_gives P (13 ∷ []) (unless (leb (size f) (length out)) 13) 0 (ok (size f))
    (unless-numbered (13 ∷ []) (leb (size f) (length out)) 13 refl) (λ c a. small_output (a, refl)) (λ r. tt))))
