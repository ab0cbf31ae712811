-- The two ways out are the laws of CallLaws: check's refusal, and what the search of the events finds.
-- The idea: the file's bytes are known to be bytes, and its configuration's length word tells where the events begin.
use Rattle.std.proofs.Common.{arith}
use Rattle.theory.proofs.WordLaws.{Bytes-from}
use Rattle.containers.proofs.FileParts.{CheckedIn, checked, checked_in}
use Rattle.find.proofs.CallLaws.{word_fits, events_fit, searchable, searched}
use Rattle.find.proofs.find.Goals as goal
use Rattle.find.proofs.find.Goals.{After-order_of-order}

-- The file that was checked, where its order was asked.
ordered : (c : After-order_of-order) → CheckedIn c.order_of-order.result c.args.file.now
ordered c = checked_in (checked (Bytes-from c.args.file.now (λ i l. omega (arith, c.type_inv.file i))) c.in_ok-check.ensures) c.order_of-order.ensures

pub word_at-requires : goal.word_at-requires
word_at-requires c = word_fits (ordered c)

pub slice_bounds-search-count : goal.slice_bounds-search-count
slice_bounds-search-count c = events_fit (ordered (goal.at.slice_bounds-search-count c).After-order_of-order) _ c.word_at.ensures

pub slice_bounds-search-start : goal.slice_bounds-search-start
slice_bounds-search-start c = events_fit (ordered (goal.at.slice_bounds-search-start c).After-order_of-order) _ c.word_at.ensures

pub search-requires : goal.search-requires
search-requires c = searchable (ordered (goal.at.search-requires c).After-order_of-order) _ c.word_at.ensures

pub returns : goal.returns
returns c = searched (ordered (goal.at.returns c).After-order_of-order) _ c.word_at.ensures c.args.number c.args.code _ c.search.ensures
