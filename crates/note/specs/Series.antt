-- The series words of an administrative record, a second time: a time of day, and a location with a day that exists.
-- The words are decimal digits put together; the months go by the rule of the knuckles, where Administrative has a table.
use Rattle.std.specs.Prelude.{ℕ, ◌+◌, ◌*◌, ◌/◌, ◌%◌, ◌≤◌, ◌≡◌, ◌⊎◌, ◌≢◌, List, [], ◌∷◌}
use Rattle.note.specs.Asked.{OneOf}

-- FORMAT 5.1, a second time: w reads hhmm in decimal, a time of day.
abbrev pub ClockTime : ℕ → Type 0
ClockTime w = (hh : ℕ) × (mm : ℕ) × (w ≡ hh * 100 + mm) × (hh ≤ 23) × (mm ≤ 59)

-- FORMAT 5.1, a second time: the six numbers of locations.
abbrev pub sites : List ℕ
sites = 0 ∷ 1 ∷ 2 ∷ 3 ∷ 6 ∷ 7 ∷ []

-- FORMAT 5.1, a second time: a location is one of the six, by itself or plus 50.
abbrev pub Location : ℕ → Type 0
Location ll = (b : ℕ) × OneOf sites b × ((ll ≡ b) ⊎ (ll ≡ b + 50))

-- FORMAT 5.1, a second time: day dd is not past the end of month mm of the year yy. The months have 31 and 30 days in turn, where the seventh
-- and the eighth both have 31; the second has 28, and 29 where 4 divides yy.
abbrev pub InMonth : ℕ → ℕ → ℕ → Type 0
InMonth yy mm dd =
    ((mm ≢ 2) × (dd ≤ 30 + (mm + mm / 8) % 2))
    ⊎ ((mm ≡ 2) × ((dd ≤ 28) ⊎ ((dd ≡ 29) × ((q : ℕ) × (yy ≡ 4 * q)))))

-- FORMAT 5.1, a second time: there is such a day.
abbrev pub DateExists : ℕ → ℕ → ℕ → Type 0
DateExists yy mm dd = (1 ≤ mm) × (mm ≤ 12) × (1 ≤ dd) × InMonth yy mm dd

-- FORMAT 5.1, a second time: w reads llyymmdd in decimal, a location and a day that exists.
abbrev pub SeriesDate : ℕ → Type 0
SeriesDate w =
    (ll : ℕ) × (yy : ℕ) × (mm : ℕ) × (dd : ℕ)
    × (w ≡ ll * 1000000 + yy * 10000 + mm * 100 + dd) × Location ll × (yy ≤ 99) × DateExists yy mm dd
