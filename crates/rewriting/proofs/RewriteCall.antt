-- Rewrite's answer and output, for each way through the call.
-- The idea: a refusal is the definition's own; of an accepted file with room, what stands from byte 0 on is the file, as the definition says.
use mathlib.Core.Path.{◌≡◌, sym, ◌∙◌}
use mathlib.Core.List.{List}
use Prim.Native.Nat.{ℕ, ◌+◌, ◌≤◌, ◌<◌}
use native.Mathlib.Omega.{arith}
use lib.ListN.{length}
use borrow.Author.Tests.{le-leb, lt-leb}
use Rattle.theory.specs.declared.Order.{Order}
use Rattle.theory.specs.Tests.{Res, ok, bad}
use Rattle.note.specs.Limits.{file_limit}
use Rattle.note.specs.Files.{order_of, read_file}
use Rattle.note.specs.Writers.{file_rewritten, rewritten, rewrite_next, rewrite_output}
use Rattle.demands.proofs.Follows.{file_sound}
use Rattle.demands.proofs.OutputLaws.{laid-is, refusal_keeps}
use Rattle.demands.proofs.RewriteLaws.{fields_restore, rewrite_restores}
use Rattle.containers.specs.Counts.{rows_of_file, file_rows}
use Rattle.containers.proofs.ContainerLaws.{count-bad}
use Rattle.containers.proofs.FileParts.{Checked, checked_in}
use Rattle.rewriting.specs.Ready.{FileReady, Stands}

module _ (bs old : List ℕ) where
  -- The answer and the output afterwards.
  abbrev Rewrites : Res ℕ → List ℕ → Type 0
  Rewrites answer new = (answer ≡ rewrite_next bs old) × (new ≡ rewrite_output bs old)

  refuses : (c p : ℕ) → rewrite_next bs old ≡ bad c p → Rewrites (bad c p) old
  unfolding rewrite_output
  refuses c p e = (sym e, sym (refusal_keeps (rewrite_next bs old) old (rewritten (read_file bs)) 0 c p e))

  pub over : file_limit < length old → Rewrites (bad 1 0) old
  unfolding rewrite_next
  over h = refuses 1 0 (rw (lt-leb (length old) file_limit h))

  pub file-refuses : length old ≤ file_limit → {c p : ℕ} → bad c p ≡ file_rows (read_file bs) → Rewrites (bad c p) old
  unfolding rewrite_next
  file-refuses limit {c} {p} e = refuses c p (rw (le-leb (length old) file_limit limit, count-bad rows_of_file e))

-- An accepted file is ready to be written into n bytes, within the limit, that have room for it.
pub ready : {bs : List ℕ} {n : ℕ} → Checked bs → n ≤ file_limit → length bs ≤ n → {o : Order} → o ≡ order_of bs → FileReady o bs n
ready k limit l e = let c = checked_in k e in record { parts = c.parts; reads = c.reads; room = omega (arith, l); limit = limit }

-- An accepted file, and an output within the limit.
module _ {bs : List ℕ} (k : Checked bs) (old : List ℕ) (limit : length old ≤ file_limit) where
  restored : file_rewritten k.file ≡ bs
  restored = let (is, valid) = file_sound bs k.file k.bytes k.reads in fields_restore k.file valid ∙ sym is

  pub no_room : length old < length bs → Rewrites bs old (bad 13 0) old
  unfolding rewrite_next
  no_room l = refuses bs old 13 0 (rw (le-leb (length old) file_limit limit, k.reads, restored, lt-leb (length bs) (length old) l))

  pub rewrites : length bs ≤ length old → (new : List ℕ) → Stands bs old 0 new → Rewrites bs old (ok (length bs)) new
  rewrites l new s =
      let (answer, output) = rewrite_restores bs old k.file k.bytes k.reads l limit in
      let zero : 0 + length bs ≡ length bs = omega arith in
      (sym answer, laid-is old new 0 (0 + length bs) bs s ∙ rw (output, zero))
