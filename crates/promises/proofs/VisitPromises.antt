-- What a visitor gives: of an accepted file as many of the rows from a given one on as fit in the buffer, and the rest of it unchanged; of
-- a refused file the file's refusal, and all of the buffer unchanged.
-- The idea: the rows laid into the buffer are a piece of the file's rows, and row i of them is row k + i of the file.
use mathlib.Core.Path.{◌≡◌, refl, sym, ap, ap₂, ◌∙◌, subst}
use mathlib.Core.Logic.{◌⊎◌, inl, inr, by_cases}
use mathlib.Core.List.{List, ◌++◌}
use Prim.Native.Nat.{ℕ, ◌+◌, ◌-◌, ◌*◌, ◌/◌, ◌≤◌, ◌<◌}
use native.Mathlib.Decide.{dec_le}
use native.Mathlib.Omega.{arith}
use lib.ListN.{length, drop, length-append, length-take, length-drop}
use lib.Seq.{get_or-take, get_or-drop, drop_at}
use Rattle.theory.specs.Tests.{Res, ok, bad}
use Rattle.theory.specs.Layout.{Row, no_row, row}
use Rattle.note.specs.Files.{File, read_file}
use Rattle.note.specs.Rows.{rows_of, flat}
use Rattle.note.specs.Visitor.{rows_visited, visit_answer, visit_buffer}
use Rattle.note.specs.declared.TableAnswer.{TableAnswer}
use Rattle.note.proofs.FlatLaws.{length-flat}
use Rattle.promises.specs.Buffers.{row_at, visit_count}
use Rattle.promises.proofs.TablePromises.{flat-row}

-- ---- a refused file

pub visit_refused : (bs : List ℕ) (k c p capacity : ℕ) (old : List ℕ) → read_file bs ≡ bad c p
    → (visit_answer bs k capacity ≡ record { number = c; count = 0; place = p }) × (visit_buffer bs k old ≡ old)
unfolding visit_answer visit_buffer
visit_refused bs k c p capacity old e = (rw e, rw e)

-- ---- an accepted file

module _ (bs : List ℕ) (k : ℕ) (old : List ℕ) (f : File) (e : read_file bs ≡ ok f) where
  -- The rows that are laid, and what stands behind their numbers.
  abbrev laid : List Row
  laid = rows_visited k (length old) (rows_of f)

  abbrev behind : List ℕ
  behind = drop (6 * length laid) old

  buffer_is : visit_buffer bs k old ≡ flat laid ++ behind
  unfolding visit_buffer
  buffer_is = rw e

  answered : visit_answer bs k (length old) ≡ record { number = 0; count = length laid; place = length bs }
  unfolding visit_answer
  answered = rw e

  counted : visit_count bs k old ≡ length laid
  counted = ap (λ (a : TableAnswer). a.count) answered

  -- Its number is 0 and its place the file's length; as many rows are counted as stand from row k on, or as fit.
  pub visit_answers : ((visit_answer bs k (length old)).number ≡ 0) × ((visit_answer bs k (length old)).place ≡ length bs)
      × (visit_count bs k old ≤ length (rows_of f) - k) × (6 * visit_count bs k old ≤ length old)
      × ((visit_count bs k old ≡ length (rows_of f) - k) ⊎ (length old < 6 * visit_count bs k old + 6))
  visit_answers =
      let t = length-take (length old / 6) (drop k (rows_of f)) in
      let d = length-drop k (rows_of f) in (
        ap (λ (a : TableAnswer). a.number) answered,
        ap (λ (a : TableAnswer). a.place) answered,
        omega (arith, counted, t, d),
        omega (arith, counted, t, d),
        by_cases (dec_le (length (rows_of f) - k) (length old / 6))
            (λ l. inl (omega (arith, counted, t, d)))
            (λ l. inr (omega (arith, counted, t, d))),
      )

  -- Row i of the buffer is row k + i of the file.
  pub visit_rows : (i : ℕ) → i < visit_count bs k old → row_at (visit_buffer bs k old) i ≡ row (rows_of f) (k + i)
  visit_rows i l =
      let room : i < length old / 6 = omega (arith, counted, length-take (length old / 6) (drop k (rows_of f))) in
      ap (λ (x : List ℕ). row_at x i) buffer_is
      ∙ flat-row laid behind i (subst (λ (m : ℕ). i < m) counted l)
      ∙ get_or-take (length old / 6) (drop k (rows_of f)) i no_row room
      ∙ get_or-drop k (rows_of f) i no_row

  -- What stands behind these rows is unchanged, and the buffer is as long as it was.
  pub visit_rest : drop (6 * visit_count bs k old) (visit_buffer bs k old) ≡ drop (6 * visit_count bs k old) old
  visit_rest =
      ap₂ (λ (n : ℕ) (x : List ℕ). drop (6 * n) x) counted buffer_is
      ∙ drop_at (flat laid) behind (6 * length laid) (length-flat laid)
      ∙ ap (λ (n : ℕ). drop (6 * n) old) (sym counted)

  accepted-length : length (visit_buffer bs k old) ≡ length old
  accepted-length =
      omega (
        arith,
        ap length buffer_is,
        length-append (flat laid) behind,
        length-flat laid,
        length-drop (6 * length laid) old,
        length-take (length old / 6) (drop k (rows_of f)),
      )

-- A buffer keeps its length, whatever the answer.
pub visit_keeps_length : (bs : List ℕ) (k : ℕ) (old : List ℕ) → length (visit_buffer bs k old) ≡ length old
visit_keeps_length bs k old = go (read_file bs) refl
  where
    go : (r : Res File) → read_file bs ≡ r → length (visit_buffer bs k old) ≡ length old
    go (ok f) e = accepted-length bs k old f e
    go (bad c p) e = ap length (visit_refused bs k c p 0 old e).1
