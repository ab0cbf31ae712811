-- How the code holds the lists of channels (FORMAT 3.2, 3.3): tables of letters, where what a code names is found by an index.
-- Holds the definitions alone; that they say what the lists say is in proofs/: TableLaws.
use Rattle.std.specs.Prelude.{ℕ, zero, suc, ◌+◌, ◌*◌, Bool, false, cond, ◌&&◌, List, [], ◌∷◌, ◌++◌, map, leb, eqb, get_or, length, Option, Some, None}
use Rattle.std.proofs.Math.Option.{none, some}
use Rattle.std.proofs.Math.Option as Lists
use Rattle.note.specs.Channels.{Channel, numbered, called, padded, same, name_of}
use Rattle.note.specs.declared.Name.{Name}

-- What the code answers of the channel that is listed; None where none is.
abbrev pub of_listed : {A : Type 0} → (Channel → A) → Lists.Option Channel → Option A
of_listed f none = None
of_listed f (some x) = Some (f x)

-- ---- tables of letters

-- A name of the channel that is listed; no letters where none is.
abbrev pub name_in : (Channel → List ℕ) → Lists.Option Channel → List ℕ
name_in name none = []
name_in name (some x) = name x

-- A table has a row for each type from 0 to 11, in it four letters for each channel from 0 to 11, and dots for what is not there.
abbrev pub dotted : ℕ → ℕ
dotted b = cond (eqb b 0) 46 b

abbrev pub row_of : (Channel → List ℕ) → ℕ → ℕ → ℕ → List ℕ
row_of name type zero c = []
row_of name type (suc n) c = map dotted (padded (name_in name (numbered type c))) ++ row_of name type n (suc c)

abbrev pub rows_of : (Channel → List ℕ) → ℕ → ℕ → List ℕ
rows_of name zero type = []
rows_of name (suc n) type = row_of name type 12 0 ++ rows_of name n (suc type)

abbrev pub table_of : (Channel → List ℕ) → List ℕ
table_of name = rows_of name 12 0

-- ---- names

-- The names of the channel that is listed.
unfoldable pub analysis_of : Lists.Option Channel → Option Name
analysis_of o = of_listed (λ x. name_of x.analysis) o

unfoldable pub cold_of : Lists.Option Channel → Option Name
cold_of o = of_listed (λ x. name_of x.cold) o

-- The name that four bytes of a table are, up to the first dot; None where that comes first.
abbrev pub undotted : ℕ → ℕ → ℕ → ℕ → Option Name
undotted a b c d =
    cond (eqb a 46) None
    (cond (eqb b 46) (Some (record { bytes = a ∷ 0 ∷ 0 ∷ 0 ∷ []; length = 1 }))
    (cond (eqb c 46) (Some (record { bytes = a ∷ b ∷ 0 ∷ 0 ∷ []; length = 2 }))
    (cond (eqb d 46) (Some (record { bytes = a ∷ b ∷ c ∷ 0 ∷ []; length = 3 }))
    (Some (record { bytes = a ∷ b ∷ c ∷ d ∷ []; length = 4 })))))

abbrev pub name_at : List ℕ → ℕ → Option Name
name_at t p = undotted (get_or t p 0) (get_or t (p + 1) 0) (get_or t (p + 2) 0) (get_or t (p + 3) 0)

-- The name that a table has at a type and a channel; None past its end.
unfoldable pub looked_up : List ℕ → ℕ → ℕ → Option Name
looked_up t type c = cond (leb type 11 && leb c 11) (name_at t (type * 48 + c * 4)) None

-- The name that letters are, where they are one to four.
unfoldable pub named : List ℕ → Option Name
named letters = cond (leb 1 (length letters) && leb (length letters) 4) (Some (name_of letters)) None

-- The channel that is listed has this analysis name.
abbrev pub same_name : Name → Name → Bool
same_name m n = same m.bytes n.bytes && eqb m.length n.length

abbrev pub has_analysis : Lists.Option Channel → Name → Bool
has_analysis none name = false
has_analysis (some x) name = same_name (name_of x.analysis) name

unfoldable pub is_called : ℕ → ℕ → Name → Bool
is_called type c name = has_analysis (numbered type c) name

-- The number of a type's channel of that analysis name.
unfoldable pub channel_called : ℕ → List ℕ → Option ℕ
channel_called type name = of_listed (λ x. x.channel) (called type name)

-- The first letter of its analysis name.
unfoldable pub initial_of : Lists.Option Channel → Option ℕ
initial_of o = of_listed (λ x. get_or x.analysis 0 0) o
