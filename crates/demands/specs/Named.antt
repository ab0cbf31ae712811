-- An event by its class, category and type, a header by its DAQ bytes and its format: the numbers that were handed to the writers, as they are read
-- from the words in a file.
use Rattle.std.specs.Prelude.{ℕ, ◌%◌, ◌≡◌, List, [], ◌∷◌}
use Rattle.note.specs.Events.{Container, class_of, category_of, event_type_of}
use Rattle.note.specs.Files.{format, daq_major_of, daq_minor_of}
use Rattle.demands.specs.Assembly.{EventPieces}

-- FORMAT 6.2: an event whose first word names this class, category and type.
pub record NamedEvent (class category type : ℕ) (x : Container) : Type 0 where
  pub class-is : class_of x.word ≡ class
  pub category-is : category_of x.word ≡ category
  pub type-is : event_type_of x.word ≡ type

-- Events in order, each with the numbers of its pieces.
abbrev pub NamedEvents : List EventPieces → List Container → Type 0
NamedEvents [] [] = Unit {0}
NamedEvents [] (x ∷ xs) = ⊥
NamedEvents (e ∷ es) [] = ⊥
NamedEvents (e ∷ es) (x ∷ xs) = NamedEvent e.class e.category e.type x × NamedEvents es xs

-- FORMAT 6.4: a version word with these DAQ bytes and the format 2.0.
pub record NamedVersion (major minor v : ℕ) : Type 0 where
  pub major-is : daq_major_of v ≡ major
  pub minor-is : daq_minor_of v ≡ minor
  pub format-is : v % 65536 ≡ format
