-- `closings::write_header` meets its contract: a refusal of `granted` is its own, and the next place tells that there is room.
-- The idea: the two words that are stored are the header.
use Prim.Native.Nat.{ℕ}
use mathlib.Core.Path.{◌≡◌, refl, sym, ap, ◌∙◌}
use mathlib.Core.List.{[], ◌∷◌}
use lib.Seq.{sets}
use native.Mathlib.Omega.{arith}
use lib.ListN.{length}
use Rattle.theory.specs.declared.Order.{Order}
use Rattle.theory.proofs.WordLaws.{length-puts}
use Rattle.note.specs.Words.{words}
use Rattle.note.specs.Files.{file_mark, version_word, header_bytes}
use Rattle.note.proofs.FileBytes.{header-bytes}
use Rattle.note.specs.Writers.{Draft, header_next, header_output, record_next, record_output}
use Rattle.stores.proofs.WriterLaws.{Admitted, refuses, has_room, lays}
use Rattle.closings.proofs.write_header.Goals as goal
use Rattle.closings.proofs.write_header.Goals.{After-granted}

-- The header, written as a record without a fault.
abbrev header : Order → ℕ → ℕ → Draft
header o major minor = record { fault = 0; bytes = header_bytes o (version_word major minor) }

eight : (o : Order) (major minor : ℕ) → length (header o major minor).bytes ≡ 8
eight o major minor =
    let v = version_word major minor in
    ap length (header-bytes o v) ∙ length-puts o 4 (file_mark ∷ v ∷ [])

-- `granted` was asked the header's size.
granted : (c : After-granted) → (let a = c.args in Admitted a.out.now 0 (header a.order a.major a.minor) c.granted.result)
granted c =
    let a = c.args in
    record { fault = 0; size = 8; fault-is = refl; size_is = λ z. eight a.order a.major a.minor; said = c.granted.ensures }

pub put_words-requires : goal.put_words-requires
put_words-requires c =
    let a = c.args in
    let room = (has_room (granted (goal.at.put_words-requires c).After-granted) c.in_ok-next.was).1 in
    omega (arith, room, eight a.order a.major a.minor)

pub returns-in_err-next : goal.returns-in_err-next
unfolding header_next header_output record_next record_output
returns-in_err-next c =
    let a = c.args in
    let given =
    refuses (granted (goal.at.returns-in_err-next c).After-granted) c.from_residual.result c.in_err-next.was c.from_residual.ensures.1 in
    let (answer, output) = rw (eight a.order a.major a.minor) at given in
    record { answer = answer; output = output }

pub returns : goal.returns
unfolding header_next header_output record_next record_output
returns c =
    let a = c.args in
    let out = a.out.now in
    let o = a.order in
    let given =
    lays (granted (goal.at.returns c).After-granted) c.in_ok-next.was
    (c.put_words.ensures
    ∙ ap (λ (v : ℕ). sets out 0 (words o (file_mark ∷ v ∷ []))) c.version_word.ensures
    ∙ ap (sets out 0) (sym (header-bytes o (version_word a.major a.minor)))) in
    let (answer, output) = rw (eight o a.major a.minor) at given in
    record { answer = answer; output = output }
