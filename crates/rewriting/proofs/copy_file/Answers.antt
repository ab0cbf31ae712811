-- `rewriting::copy_file` meets its contract: header and containers stand one behind the other, and are the file.
-- The idea: a law for each part, which asks what the part before it left.
use Rattle.std.proofs.Common.{ℕ, List, ◌≤◌, ap, get_or, length}
use native.Mathlib.Omega.{arith}
use Rattle.theory.specs.Words.{Bytes}
use Rattle.theory.proofs.WordLaws.{Bytes-from}
use Rattle.note.specs.Files.{header_bytes}
use Rattle.demands.specs.Outputs.{Laid}
use Rattle.rewriting.proofs.FileCopy.{words_fit, header_copied, containers_ready, file_copied}
use Rattle.rewriting.proofs.copy_file.Goals as goal
use Rattle.rewriting.proofs.copy_file.Goals.{After-word_at, After-write_header}

pub word_at-requires : goal.word_at-requires
word_at-requires c =
    omega (arith, words_fit _ _ c.args.out.now (Bytes-from c.args.file.now (λ i l. omega (arith, c.type_inv.file i))) c.requires)

-- The file is bytes, and has its header's and its configuration's words.
held : (c : After-word_at) → Bytes c.args.file.now
held c = Bytes-from c.args.file.now (λ i l. omega (arith, c.type_inv.file i))

enough : (c : After-word_at) → 16 ≤ length c.args.file.now
enough c = words_fit _ _ c.args.out.now (held c) c.requires

-- Where the header was written: it stands.
header : (c : After-write_header) → Laid c.args.out.now c.write_header.new.out 0 8 (header_bytes c.args.order c.requires.parts.0)
header c =
    header_copied _ _ _ (Bytes-from c.args.file.now (λ i l. omega (arith, c.type_inv.file i))) c.requires _ _ _ c.word_at.ensures
    (ap (λ (bs : List ℕ). get_or bs 0 0) c.to_be_bytes.ensures) (ap (λ (bs : List ℕ). get_or bs 1 0) c.to_be_bytes.ensures)
    _ c.write_header.ensures.output

pub slice_bounds-copy_containers-count : goal.slice_bounds-copy_containers-count
slice_bounds-copy_containers-count c = omega (arith, enough (goal.at.slice_bounds-copy_containers-count c).After-word_at)

pub slice_bounds-copy_containers-start : goal.slice_bounds-copy_containers-start
slice_bounds-copy_containers-start c = omega (arith, enough (goal.at.slice_bounds-copy_containers-start c).After-word_at)

pub copy_containers-requires : goal.copy_containers-requires
copy_containers-requires c =
    containers_ready _ _ _ (held (goal.at.copy_containers-requires c).After-word_at) c.requires _
    (header (goal.at.copy_containers-requires c).After-write_header)

pub returns : goal.returns
returns c =
    file_copied _ _ _ (held (goal.at.returns c).After-word_at) c.requires _
    (header (goal.at.returns c).After-write_header) _ c.copy_containers.ensures
