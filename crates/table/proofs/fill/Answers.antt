-- `table::fill` meets its contract: header's row, entries' rows, configuration's row and events' rows are the file's, wherever they are stored.
-- The idea: once the header's row is stored, the laws of FileFillLaws say of each part that it can be filled, and what filling it leaves.
use Prim.Native.Nat.{◌+◌, ◌≤◌}
use mathlib.Core.Path.{◌≡◌, refl}
use native.Mathlib.Omega.{arith}
use lib.ListN.{length}
use Rattle.theory.specs.Words.{Bytes}
use Rattle.theory.proofs.WordLaws.{Bytes-from}
use Rattle.note.specs.Limits.{file_limit}
use Rattle.table.proofs.FileFillLaws.{some, sized, Begun, begin, fillable, next_row, fillable_events, done}
use Rattle.table.proofs.fill.Goals as goal
use Rattle.table.proofs.fill.Goals.{After-fill_records-next, After-put_row, After-slice_known-1, After-word_at}

-- The file is bytes.
held : (c : After-slice_known-1) → Bytes c.args.file.now
held c = Bytes-from c.args.file.now (λ i l. omega (arith, c.type_inv.file i))

-- Where the length word was read: the configuration fits the file, which is within the limit.
whole : (c : After-word_at) → (16 + c.word_at.result ≤ length c.args.file.now) × (length c.args.file.now ≤ file_limit)
whole c = sized c.requires ((let it : Bytes c.args.file.now = Bytes-from c.args.file.now (λ i l. omega (arith, c.type_inv.file i)) in
    it)) _ c.word_at.ensures

-- Where the header's row was stored: what the buffer holds.
begun : (c : After-put_row) → (let a = c.args in Begun a.order a.file.now a.rows.now c.word_at.result c.put_row.new.rows)
begun c =
    begin ((let it : Bytes c.args.file.now = Bytes-from c.args.file.now (λ i l. omega (arith, c.type_inv.file i)) in
    it)) c.requires _ c.word_at.ensures _ c.word_at-2.ensures _ c.put_row.ensures

-- Where the entries' rows were stored: how many they are, and the buffer as long as before.
rows : (c : After-fill_records-next) → (2 ≤ c.fill_records-next.result) × (c.fill_records-next.result ≤ 2 + c.word_at.result)
    × (length c.fill_records-next.new.rows ≡ length c.args.rows.now)
rows c =
    next_row ((let it : (let a = c.args in
    Begun a.order a.file.now a.rows.now c.word_at.result c.put_row.new.rows) = begin
    ((let it : Bytes c.args.file.now = Bytes-from c.args.file.now (λ i l. omega (arith, c.type_inv.file i)) in
    it)) c.requires _ c.word_at.ensures _ c.word_at-2.ensures _ c.put_row.ensures in it)) _ _ c.fill_records-next.ensures

pub word_at-requires : goal.word_at-requires
word_at-requires c = let (fits, limit) = sized c.requires (held c) _ refl in omega (arith, fits)

pub overflow_add-size : goal.overflow_add-size
overflow_add-size c = omega (arith, whole c)

pub overflow_add-end : goal.overflow_add-end
overflow_add-end c = omega (arith, whole c)

pub word_at-requires-2 : goal.word_at-requires-2
word_at-requires-2 c = omega (arith, whole (goal.at.word_at-requires-2 c).After-word_at)

pub put_row-requires : goal.put_row-requires
put_row-requires c = omega (arith, some c.requires)

pub slice_bounds-fill_records-end : goal.slice_bounds-fill_records-end
slice_bounds-fill_records-end c = omega (arith, whole (goal.at.slice_bounds-fill_records-end c).After-word_at)

pub fill_records-next-requires : goal.fill_records-next-requires
fill_records-next-requires c = fillable (begun (goal.at.fill_records-next-requires c).After-put_row)

pub overflow_cast-size-2 : goal.overflow_cast-size-2
overflow_cast-size-2 c = omega (arith, whole (goal.at.overflow_cast-size-2 c).After-word_at)

pub overflow_sub-next : goal.overflow_sub-next
overflow_sub-next c = omega (arith, rows (goal.at.overflow_sub-next c).After-fill_records-next)

pub overflow_cast-next : goal.overflow_cast-next
overflow_cast-next c = omega (arith, rows (goal.at.overflow_cast-next c).After-fill_records-next, whole (goal.at.overflow_cast-next c).After-word_at)

pub put_row-requires-2 : goal.put_row-requires-2
put_row-requires-2 c =
    omega (arith, (rows (goal.at.put_row-requires-2 c).After-fill_records-next).2, some c.requires)

pub slice_bounds-fill_events-count : goal.slice_bounds-fill_events-count
slice_bounds-fill_events-count c = omega (arith, whole (goal.at.slice_bounds-fill_events-count c).After-word_at)

pub slice_bounds-fill_events-start : goal.slice_bounds-fill_events-start
slice_bounds-fill_events-start c = omega (arith, whole (goal.at.slice_bounds-fill_events-start c).After-word_at)

pub fill_events-requires : goal.fill_events-requires
fill_events-requires c =
    fillable_events (begun (goal.at.fill_events-requires c).After-put_row) _ _ c.fill_records-next.ensures _ c.put_row-2.ensures

pub returns : goal.returns
returns c =
    done (begun (goal.at.returns c).After-put_row) _ _ c.fill_records-next.ensures _ c.put_row-2.ensures _ c.fill_events.ensures
