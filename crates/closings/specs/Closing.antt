-- What the closings of both containers have in common: the answer over any fault of the container's own word, any least size of its
-- contents and any context. Two steps, since the code asks the first before it reads.
use Rattle.std.specs.Prelude.{ℕ, ◌+◌, ◌-◌, List, leb, length}
use Rattle.theory.specs.declared.Order.{Order}
use Rattle.theory.specs.Tests.{Res, ok, need, bind, unless}
use Rattle.note.specs.Records.{Context, read_records}
use Rattle.note.specs.Writers.{within, contents_of, end_given}

-- FORMAT 9.4: before the contents are read: 1, then 13, then the container's own word, then 9 for contents of fewer bytes than it must have.
unfoldable pub bounded : ℕ → ℕ → ℕ → ℕ → ℕ → Res ℕ
bounded n place end fault least =
    within n place end (
    need fault place (
    need (unless (leb least (end - (place + 8))) 9) place (
    ok end)))

-- FORMAT 9.4: then the contents.
unfoldable pub closed : Order → List ℕ → ℕ → ℕ → ℕ → ℕ → Context → Res ℕ
closed o out place end fault least c =
    bind (bounded (length out) place end fault least) (λ next.
    end_given next (read_records o c (place + 8) (contents_of out place end)))
