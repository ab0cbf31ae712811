-- What the calls give after an edit: one byte changed inside a trace's samples leaves the answers and buffers of Table and the visitor, the
-- walker's yields, Find's answers, and Record's and Setting's answers at each row as they were; of the samples it changes only the one that
-- holds it, by that byte alone, and the bytes of Samples' part likewise.
-- The idea: the edited file is accepted with the same rows, and Table, visitor, walker and Find look at nothing else of it; the rest is the
-- demand on the definitions, with the rows taken from the buffer.
use mathlib.Core.Path.{◌≡◌, sym, ap, ◌∙◌, subst}
use mathlib.Core.List.{List}
use Prim.Native.Nat.{ℕ, ◌+◌, ◌≤◌, ◌<◌}
use lib.ListN.{length, set, length-set}
use Rattle.theory.specs.declared.Order.{Order}
use Rattle.theory.specs.Words.{Bytes}
use Rattle.theory.specs.Tests.{ok}
use Rattle.theory.specs.Layout.{Row, row}
use Rattle.theory.proofs.WordLaws.{Bytes-set}
use Rattle.note.specs.Answers.{accepted, counts}
use Rattle.note.specs.Files.{File, order_of, read_file}
use Rattle.note.specs.Rows.{rows_of, table_answer, table_buffer, yield_at}
use Rattle.note.specs.Visitor.{visit_answer, visit_buffer}
use Rattle.note.specs.Calls.{record_at, setting_at, samples_part, samples_at, sample_at, first_match, find_at}
use Rattle.demands.specs.Edited.{start_of, holder, SampleEdited, SameLists, Edited}
use Rattle.demands.specs.RowTraces.{row_traces}
use Rattle.demands.proofs.FindLaws.{find_by_rows}
use Rattle.demands.proofs.Follows.{accepted_means}
use Rattle.demands.proofs.EditInFull.{edit_in_full}
use Rattle.promises.specs.Buffers.{table_count, table_rows, table_row}
use Rattle.promises.specs.EditedCalls.{SampleByte, EditedCalls}
use Rattle.promises.proofs.TablePromises.{table_has_rows, row_in_table}

-- In an accepted file, row j is a trace, and byte i, inside its samples, becomes the byte x.
module _ (bs : List ℕ) (f : File) (h : Bytes bs) (e : read_file bs ≡ ok f) {o : Order} {j i x : ℕ} (byte : x < 256)
    (d : Edited o bs f j i x) where
  -- The file is accepted, with the same rows: Table answers the same for every capacity and leaves the same in every buffer; the walker yields the
  -- same, from every row on, and Find gives the same for every number and code.
  pub edit_keeps_answer : (capacity : ℕ) → table_answer (set bs i x) capacity ≡ table_answer bs capacity
  unfolding table_answer
  edit_keeps_answer capacity = rw (e, d.accepted, d.same_rows, length-set bs i x)

  pub edit_keeps_buffer : (old : List ℕ) → table_buffer (set bs i x) old ≡ table_buffer bs old
  unfolding table_buffer
  edit_keeps_buffer old = rw (e, d.accepted, d.same_rows)

  pub edit_keeps_yields : (k : ℕ) → yield_at (set bs i x) k ≡ yield_at bs k
  unfolding yield_at
  edit_keeps_yields k = rw (e, d.accepted, d.same_rows)

  pub edit_keeps_visits : (k capacity : ℕ) → visit_answer (set bs i x) k capacity ≡ visit_answer bs k capacity
  unfolding visit_answer
  edit_keeps_visits k capacity = rw (e, d.accepted, d.same_rows, length-set bs i x)

  pub edit_keeps_visited : (k : ℕ) (old : List ℕ) → visit_buffer (set bs i x) k old ≡ visit_buffer bs k old
  unfolding visit_buffer
  edit_keeps_visited k old = rw (e, d.accepted, d.same_rows)

  pub edit_keeps_finds : (number code : ℕ) → find_at (set bs i x) number code ≡ find_at bs number code
  edit_keeps_finds number code =
      find_by_rows (set bs i x) d.file d.accepted number code (Bytes-set bs i x byte h)
      ∙ ap (λ (rs : List Row). accepted (counts (first_match number code (row_traces rs rs)))) d.same_rows
      ∙ sym (find_by_rows bs f e number code h)

-- ---- the same, with the rows taken from the buffer

-- Row k of the buffer is row k of the file.
table_row_is : (bs old : List ℕ) (given : (table_answer bs (length old)).number ≡ 0) (f : File) → table_rows bs old ≡ rows_of f
    → (k : ℕ) → k < table_count bs old → table_row bs old k ≡ row (rows_of f) k
table_row_is bs old given f same k l = sym (row_in_table bs old given k l) ∙ ap (λ (rs : List Row). row rs k) same

-- In a file for which Table answers 0, a byte from the 57th of a trace's row in the buffer to its last, changed to any byte.
pub edit_seen_by_calls : (bs old : List ℕ) (j i x : ℕ) → Bytes bs → SampleByte bs old j i x → EditedCalls bs old j i x
edit_seen_by_calls bs old j i x h s =
    let (f, e, n, same) = table_has_rows bs old s.answered in
    let is : (k : ℕ) → k < table_count bs old → table_row bs old k ≡ row (rows_of f) k = table_row_is bs old s.answered f same in
    let mine : table_row bs old j ≡ row (rows_of f) j = is j s.counted in
    let inside : (k : ℕ) → k < table_count bs old → k < length (rows_of f) = λ k l. subst (λ (m : ℕ). k < m) n l in
    let start : (k : ℕ) → k < table_count bs old → start_of f k ≡ (table_row bs old k).start =
    λ k l. ap (λ (r : Row). r.start) (sym (is k l)) in
    let here : j < length (rows_of f) = inside j s.counted in
    let trace : (row (rows_of f) j).kind ≡ 7 = subst (λ (r : Row). r.kind ≡ 7) mine s.trace in
    let lo : start_of f j + 56 ≤ i = subst (λ (r : Row). r.start + 56 ≤ i) mine s.from in
    let hi : i < start_of f j + (row (rows_of f) j).whole = subst (λ (r : Row). i < r.start + r.whole) mine s.below in
    let o : Order = order_of bs in
    let new : Edited o bs f j i x =
    subst (λ (q : Order). Edited q bs f j i x) (accepted_means bs f e).order_is (edit_in_full bs f h e j here trace i x lo hi s.byte) in
    record {
      same_answer = edit_keeps_answer bs f h e s.byte new;
      same_buffer = edit_keeps_buffer bs f h e s.byte new;
      same_yields = edit_keeps_yields bs f h e s.byte new;
      same_visits = edit_keeps_visits bs f h e s.byte new;
      same_visited = edit_keeps_visited bs f h e s.byte new;
      same-finds = edit_keeps_finds bs f h e s.byte new;
      same-records = λ k l.
          subst (λ (p : ℕ). record_at o (set bs i x) p ≡ record_at o bs p) (start k l) (new.fields_stay k (inside k l));
      same_lists = λ k l. subst (λ (p : ℕ). SameLists o bs (set bs i x) p) (start k l) (new.lists_stay k (inside k l));
      same_settings = λ k l.
          subst (λ (p : ℕ). setting_at o (set bs i x) p ≡ setting_at o bs p) (start k l) (new.settings_stay k (inside k l));
      sample_changes = subst (λ (r : Row). SampleEdited o bs r.start r.whole i x) (sym mine) new.sample_changes;
      other_samples_stay = λ k m l d.
          subst (λ (p : ℕ). sample_at o (set bs i x) p m ≡ sample_at o bs p m) (start k l)
          (new.other_samples_stay k m (inside k l) (λ q. d (q.0, q.1 ∙ ap (λ (p : ℕ). holder o p i) (start j s.counted))));
      other_parts_stay = λ k l d.
          subst (λ (p : ℕ). (samples_part o (set bs i x) p ≡ samples_part o bs p) × (samples_at o (set bs i x) p ≡ samples_at o bs p))
          (start k l)
          (new.other_parts_stay k (inside k l) d);
      same_length = new.same_length;
      other_bytes_stay = new.other_bytes_stay;
    }
