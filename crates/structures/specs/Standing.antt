-- What stands at the front of a part, and what an iterator over structures gives of it.
use Rattle.std.specs.Prelude.{ℕ, ◌+◌, Bool, true, false, ◌&&◌, ◌≡◌, List, leb, length, take, drop, Option, Some, None}
use Rattle.theory.specs.declared.Order.{Order}
use Rattle.note.specs.Words.{word}
use Rattle.structures.specs.declared.Structure.{Structure}
use Rattle.structures.specs.declared.Sequence.{Sequence}

-- FORMAT 2.3: a structure's two words stand at the front of the bytes, and its length lies within them.
unfoldable pub stands : Order → List ℕ → Bool
stands o bs = leb 8 (length bs) && leb (8 + word o 4 bs) (length bs)

-- The structure that stands next is given, by its own words, and what follows it is left.
pub record Given (o : Order) (s : Sequence) (x : Structure) (t : Sequence) : Type 0 where
  pub standing : stands o s.rest.now ≡ true
  pub place_is : x.place ≡ s.at
  pub word_is : x.word ≡ word o 0 s.rest.now
  pub body_is : x.body.now ≡ take (word o 4 s.rest.now) (drop 8 s.rest.now)
  pub rest_is : t.rest.now ≡ drop (8 + word o 4 s.rest.now) s.rest.now
  pub at_is : t.at ≡ s.at + (8 + word o 4 s.rest.now)
  pub order_is : t.order ≡ s.order

-- Or none stands there.
abbrev pub GivesStructure : Sequence → Option Structure → Sequence → Type 0
GivesStructure s None t = (stands s.order s.rest.now ≡ false) × (t ≡ s)
GivesStructure s (Some x) t = Given s.order s x t
