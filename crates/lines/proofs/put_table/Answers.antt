-- `lines::put_table` meets its contract: nothing without room; the first line and the rows' lines with it.
use mathlib.Core.Path.{◌≡◌, sym, ap, ◌∙◌, subst}
use mathlib.Core.Bool.{true, false}
use mathlib.Core.List.{List}
use Prim.Native.Nat.{ℕ, ◌*◌, ◌+◌, ◌/◌, ◌≤◌}
use native.Mathlib.Omega.{arith}
use lib.ListN.{length, take}
use lib.Seq.{length-take-le}
use Rattle.note.specs.Listing.{lines_text}
use Rattle.lines.specs.Texts.{buffer_lines, numbered, listed_rows, has_room, Put}
use Rattle.lines.proofs.TextLaws.{room_shown, nothing_put, buffer_rows, both_put}
use Rattle.lines.proofs.put_table.Goals as goal
use Rattle.lines.proofs.put_table.Goals.{Else-not-has_room}

has : (c : Else-not-has_room) → has_room c.listed_rows-listed.result (length c.args.rows.now) (length c.args.out.now) ≡ true
has c = sym c.has_room.ensures ∙ c.if-not-has_room.false

room : (c : Else-not-has_room) → (let n = c.listed_rows-listed.result in let a = c.args in
    (n * 6 ≤ length a.rows.now) × (63 + n * 87 ≤ length a.out.now))
room c = let a = c.args in room_shown c.listed_rows-listed.result (length a.rows.now) (length a.out.now) (has c)

pub returns-then-not-has_room : goal.returns-then-not-has_room
returns-then-not-has_room c =
    let a = c.args in
    let none : has_room (listed_rows a.answer.number a.answer.count) (length a.rows.now) (length a.out.now) ≡ false =
    rw (← c.listed_rows-listed.ensures) (sym c.has_room.ensures ∙ c.if-not-has_room.true) in
    let (value, (out_after, prefix_len)) = nothing_put a.out.now a.rows.now a.answer none in
    record { value = value; out_after = out_after; prefix_len = prefix_len }

pub put_answer-next-requires : goal.put_answer-next-requires
put_answer-next-requires c = let r = room (goal.at.put_answer-next-requires c).Else-not-has_room in omega (arith, r.1)

-- The buffer has the rows that are listed.
listed : (n : ℕ) (chunks : List (List ℕ)) (held room : ℕ) → (n * 6 ≤ held) × (63 + n * 87 ≤ room) → length chunks ≡ held / 6
    → length (take n chunks) ≡ n
listed n chunks held room h e = length-take-le n chunks (omega (arith, h.0, e))

pub slice_bounds-put_rows-end : goal.slice_bounds-put_rows-end
slice_bounds-put_rows-end c = sym (listed _ _ _ _ (room (goal.at.slice_bounds-put_rows-end c).Else-not-has_room) c.as_chunks.ensures.front_len)

pub put_rows-requires : goal.put_rows-requires
put_rows-requires c =
    let r = room (goal.at.put_rows-requires c).Else-not-has_room in
    omega (arith, r.1, listed _ _ _ _ r c.as_chunks.ensures.front_len, c.put_answer-next.ensures.upper_bound, c.put_answer-next.auto.out)

pub returns : goal.returns
returns c =
    let a = c.args in
    let n = c.listed_rows-listed.result in
    let one = c.put_answer-next in
    let more = c.put_rows in
    let r = room (goal.at.returns c).Else-not-has_room in
    let end : more.result ≤ length a.out.now = omega (
      arith,
      r.1,
      listed _ _ _ _ r c.as_chunks.ensures.front_len,
      one.ensures.upper_bound,
      more.ensures.upper_bound,
    ) in
    let same : numbered 1 (take n c.as_chunks.result.0.now) ≡ buffer_lines 1 n a.rows.now =
    ap (λ (rows : List (List ℕ)). numbered 1 (take n rows)) c.as_chunks.ensures.front
    ∙ buffer_rows n (length a.rows.now / 6) a.rows.now (omega (arith, r.0)) in
    let (value, (out_after, prefix_len)) =
    both_put a.out.now a.rows.now a.answer n one.result more.result one.new.out more.new.out c.listed_rows-listed.ensures
    (has (goal.at.returns c).Else-not-has_room) end one.ensures.put
    (subst (λ (ls : List (List ℕ)). Put one.new.out one.result (lines_text ls) more.result more.new.out) same more.ensures.put) in
    record { value = value; out_after = out_after; prefix_len = prefix_len }
