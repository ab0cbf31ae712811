-- Parts of a record that Record finds are parts of the file: its samples, a history's lists.
-- The idea: the body that was found is the file's bytes behind two words, and the kind's rule says that the part lies within it.
use mathlib.Core.Path.{◌≡◌, refl, sym, ap, ◌∙◌, subst}
use mathlib.Core.Bool.{Bool, true, false, cond}
use mathlib.Core.List.{List, [], ◌∷◌, ◌++◌}
use Prim.Native.Nat.{ℕ, ◌+◌, ◌-◌, ◌*◌, ◌≤◌, ◌<◌}
use native.Mathlib.Omega.{arith}
use borrow.Author.Tests.{eqb-true}
use lib.Dec.{leb}
use lib.IntN.{pos, negsuc}
use lib.ListN.{length, take, drop, get_or, take-append-drop, length-take, length-drop}
use lib.Seq.{take_all, take-append-le, drop-append-le, drop-drop, get_or-take, get_or-drop}
use Rattle.theory.specs.declared.Order.{Order}
use Rattle.theory.specs.Words.{word_at}
use Rattle.theory.specs.Tests.{Res, ok, bad, unless}
use Rattle.theory.proofs.TestLaws.{need-ok, ok_inj}
use Rattle.theory.proofs.StructureLaws.{opens, ruled}
use Rattle.note.specs.Limits.{file_limit}
use Rattle.note.specs.Words.{word}
use Rattle.note.specs.Answers.{whole, float, Given, accepted, refused, count, counts}
use Rattle.note.specs.Trace.{trace_kind, trace_rule}
use Rattle.note.specs.History.{history_kind, history_rule, width_at, width_of, end_at, trigger_at, section_values}
use Rattle.note.specs.Records.{Record, alone, record_head, record_late, record_rule, read_record, kind_of}
use Rattle.note.specs.Calls.{record_found, record_given, is_trace, part_given, record_at, samples_part, samples_at}
use Rattle.note.proofs.AnswerLaws.{counts_determined}
use Rattle.note.proofs.KindCases.{kind_cases}
use Rattle.note.proofs.TraceLaws.{trace-length}
use Rattle.note.proofs.HistoryLaws.{history-ends}
use Rattle.demands.specs.Edited.{SameSection, SameLists}
use Rattle.demands.proofs.Bundles.{same_record}
use Rattle.demands.proofs.RecordLaws.{found-body}
use Rattle.note.specs.Faults.{too_short}
use Rattle.note.proofs.FaultLaws.{short-some}

module _ (o : Order) (bs : List ℕ) (place : ℕ) (r : Record) (found : record_found o bs place ≡ ok r) where
  -- n bytes of the body, from its byte q on, are the file's
  pub part-found : (q n : ℕ) → q + n ≤ length r.body → take n (drop (place + 8 + q) bs) ≡ take n (drop q r.body)
  part-found q n l =
      let w : ℕ = word_at o 4 4 (drop place bs) in
      let behind : List ℕ = drop 8 (drop place bs) in
      let is : r.body ≡ take w behind = found-body o bs place r found in
      let size : length r.body ≡ length (take w behind) = ap length is in
      let there : drop q behind ≡ drop (place + 8 + q) bs =
      ap (drop q) (drop-drop 8 place bs) ∙ drop-drop q (place + 8) bs in
      ap (take n) (sym there ∙ ap (drop q) (sym (take-append-drop w behind)) ∙ drop-append-le q (take w behind) (drop w behind) (omega arith))
      ∙ take-append-le n (drop q (take w behind)) (drop w behind) (omega (arith, length-drop q (take w behind)))
      ∙ ap (λ (b : List ℕ). take n (drop q b)) (sym is)

  -- one of its bytes
  pub byte-found : (m : ℕ) → m < length r.body → get_or r.body m 0 ≡ get_or bs (place + 8 + m) 0
  byte-found m l =
      let n : ℕ = word_at o 4 4 (drop place bs) in
      let is : r.body ≡ take n (drop 8 (drop place bs)) = found-body o bs place r found in
      let below : m < n = omega (arith, ap length is, length-take n (drop 8 (drop place bs))) in
      ap (λ (b : List ℕ). get_or b m 0) is
      ∙ get_or-take n (drop 8 (drop place bs)) m 0 below
      ∙ ap (λ (b : List ℕ). get_or b m 0) (drop-drop 8 place bs)
      ∙ get_or-drop (place + 8) bs m 0

  -- what was found follows its kind's rule
  pub rule_found : record_rule o r.word r.body ≡ 0
  unfolding record_found
  rule_found =
      let from : List ℕ = drop place bs in
      let (l, q) = need-ok (unless (leb (length bs) file_limit) 1) 0 (read_record o alone place from) found in
      let shown =
      opens o too_short short-some record_head record_late (ruled (λ s. record_rule o s.1)).read alone place from r
      (sym (same_record o alone place from) ∙ q) in
      let b : List ℕ = take (word_at o 4 4 from) (drop 8 from) in
      let (passed, same) = need-ok (record_rule o (word_at o 4 0 from) b) place (ok b) shown.body_is in
      rw shown.kind-is (subst (λ (x : List ℕ). record_rule o (word_at o 4 0 from) x ≡ 0) (ok_inj same) passed)

-- ---- the samples

-- What Samples gives of what was found.
abbrev pub samples_given : Res Record → List ℕ
samples_given (bad c p) = []
samples_given (ok r) = cond (is_trace r) (drop 48 r.body) []

pub samples-given : (o : Order) (bs : List ℕ) (place : ℕ) → samples_at o bs place ≡ samples_given (record_found o bs place)
unfolding samples_at samples_part kind_of
samples-given o bs place = go (record_found o bs place) refl
  where
    cut : ℕ × ℕ → List ℕ
    cut s = take s.1 (drop s.0 bs)

    go : (s : Res Record) → record_found o bs place ≡ s → cut (part_given place s) ≡ samples_given s
    go (bad c p) e = refl
    go (ok r) e = trace (is_trace r) refl
      where
        n : ℕ
        n = length r.body - 48

        trace : (t : Bool) → is_trace r ≡ t → cut (cond t (place + 56, n) (0, 0)) ≡ cond t (drop 48 r.body) []
        trace false k = refl
        trace true k =
            let passes : trace_rule o r.body ≡ 0 =
            subst (λ (w : ℕ). record_rule o w r.body ≡ 0) (eqb-true r.word trace_kind.word k) (rule_found o bs place r e) in
            let size : length r.body ≡ 48 + 2 * word o 44 r.body = (trace-length o r.body passes).0 in
            let from : place + 56 ≡ place + 8 + 48 = omega arith in
            let short : length (drop 48 r.body) ≤ n = omega (arith, length-drop 48 r.body) in
            ap (λ (p : ℕ). take n (drop p bs)) from ∙ part-found o bs place r e 48 n (omega arith) ∙ take_all n (drop 48 r.body) short

-- Where the same is found in both files, Samples gives the same part of both, with the same bytes.
pub samples_stay : (o : Order) (bs bs' : List ℕ) (place : ℕ) → record_found o bs' place ≡ record_found o bs place
    → (samples_part o bs' place ≡ samples_part o bs place) × (samples_at o bs' place ≡ samples_at o bs place)
unfolding samples_part
samples_stay o bs bs' place same =
    (ap (part_given place) same, samples-given o bs' place ∙ ap samples_given same ∙ sym (samples-given o bs place))

-- ---- a history's lists

-- The first number of an answer, 0 where there is none.
abbrev first_number : Given → ℕ
first_number (refused c p) = 0
first_number (accepted []) = 0
first_number (accepted (whole (pos n) ∷ vs)) = n
first_number (accepted (whole (negsuc n) ∷ vs)) = 0
first_number (accepted (float x ∷ vs)) = 0

-- Only a history has row kind 8.
history-kind : (k : ℕ) → (kind_of k).row ≡ 8 → k ≡ history_kind.word
history-kind k =
    kind_cases (λ w x. x.row ≡ 8 → w ≡ history_kind.word) k
    (λ e. absurd (omega arith)) (λ e. absurd (omega arith)) (λ e. absurd (omega arith)) (λ e. absurd (omega arith)) (λ e. refl)
    (λ e. absurd (omega arith)) (λ e. absurd (omega arith)) (λ e. absurd (omega arith)) (λ e. absurd (omega arith))

-- Where the same record is found in both files, a section of it has the same lists.
module _ (o : Order) (bs bs' : List ℕ) (place : ℕ) (r : Record) (was : record_found o bs place ≡ ok r) (is : record_found o bs' place ≡ ok r) where
  same-part : (q n : ℕ) → q + n ≤ length r.body → take n (drop (place + 8 + q) bs') ≡ take n (drop (place + 8 + q) bs)
  same-part q n l = part-found o bs' place r is q n l ∙ sym (part-found o bs place r was q n l)

  same_section : (p : ℕ) → end_at o p r.body ≤ length r.body
      → SameSection bs bs' (word o p r.body) (place + 8 + (p + 4)) (width_of o p r.body) (place + 8 + (width_at o p r.body + 4))
  unfolding end_at width_at
  same_section p l = let b : List ℕ = r.body in (
    same-part (p + 4) (4 * word o p b) (omega arith),
    same-part (p + 4 + 4 * word o p b + 4) (4 * (word o p b * width_of o p b)) (omega arith),
  )

  same_lists : (kind_of r.word).row ≡ 8 → SameLists o bs bs' place
  unfolding record_at section_values kind_of
  same_lists e n t w m n' t' w' m' given =
      let k : r.word ≡ history_kind.word = history-kind r.word e in
      let b : List ℕ = r.body in
      let passes : history_rule o b ≡ 0 = subst (λ (q : ℕ). record_rule o q b ≡ 0) k (rule_found o bs place r was) in
      let (room, end) = history-ends o b passes in
      let ns : List ℕ = 8 ∷ (section_values o (place + 8) 0 b ++ section_values o (place + 8) (trigger_at o b) b) in
      let told : record_at o bs place ≡ accepted (counts ns) = rw (was, k) in
      let same = counts_determined ns (8 ∷ n ∷ t ∷ w ∷ m ∷ n' ∷ t' ∷ w' ∷ m' ∷ []) (sym told ∙ given) in
      subst (λ (ns : List ℕ). SameSection bs bs' (get_or ns 1 0) (get_or ns 2 0) (get_or ns 3 0) (get_or ns 4 0)
      × SameSection bs bs' (get_or ns 5 0) (get_or ns 6 0) (get_or ns 7 0) (get_or ns 8 0)) same
      (same_section 0 room, same_section (trigger_at o b) (omega arith))

-- Where the same is found in both files, a history there has the same lists.
pub lists_stay : (o : Order) (bs bs' : List ℕ) (place : ℕ) → record_found o bs' place ≡ record_found o bs place → SameLists o bs bs' place
unfolding record_at
lists_stay o bs bs' place same = go (record_found o bs place) refl
  where
    go : (s : Res Record) → record_found o bs place ≡ s → SameLists o bs bs' place
    go (bad c p) e n t w m n' t' w' m' given =
        let both : ◌≡◌ {A = ℕ} 0 8 = ap first_number (sym (ap (record_given o place) e) ∙ given) in
        absurd (omega arith)
    go (ok r) e n t w m n' t' w' m' given =
        same_lists o bs bs' place r e (same ∙ e) (ap first_number (sym (ap (record_given o place) e) ∙ given)) n t w m n' t' w' m' given

-- Where a trace is found Record's answer is no history's.
pub trace_lists : (o : Order) (bs bs' : List ℕ) (place : ℕ) (r : Record) → record_found o bs place ≡ ok r → r.word ≡ trace_kind.word
    → SameLists o bs bs' place
unfolding record_at kind_of
trace_lists o bs bs' place r e k n t w m n' t' w' m' given =
    let told : record_at o bs place ≡ accepted (count 7 ∷ trace_kind.values o place r.body) = rw (e, k) in
    let both : ◌≡◌ {A = ℕ} 7 8 = ap first_number (sym told ∙ given) in
    absurd (omega arith)
