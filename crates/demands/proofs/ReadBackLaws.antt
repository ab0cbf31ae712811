-- What the header's writer and an event's closing were handed is what is read, by name, from what they leave; so also of a whole assembled file.
-- The idea: the word that stands is the word of these numbers, and the word gives them back (note ContainerFieldLaws).
use mathlib.Core.Path.{◌≡◌, sym, ap, ◌∙◌}
use mathlib.Core.List.{List, [], ◌∷◌, ◌++◌, map, append_assoc}
use Prim.Native.Nat.{ℕ, ◌-◌, ◌<◌}
use lib.ListN.{take, drop}
use Rattle.theory.specs.declared.Order.{Order}
use Rattle.theory.specs.declared.Order.TheVariants.{Little}
use Rattle.theory.specs.Words.{Bytes, put}
use Rattle.theory.specs.Tests.{ok}
use Rattle.theory.proofs.StructureLaws.{second_word}
use Rattle.note.specs.Words.{word}
use Rattle.note.specs.Events.{Container, event_word, read_event}
use Rattle.note.specs.Files.{File, file_mark, version_word, version_of, events_of, header_bytes, read_header, read_file}
use Rattle.note.specs.Writers.{header_next, header_output, event_closed, event_output}
use Rattle.note.proofs.ContainerFieldLaws.{event_read_back, header_read_back, header_admitted}
use Rattle.demands.specs.Assembly.{EventPieces, FilePieces, EventsFaultless, FileFits, Built, event_of, file_of, file_assembled}
use Rattle.demands.specs.Named.{NamedEvent, NamedEvents, NamedVersion}
use Rattle.demands.proofs.Bundles.{header_item}
use Rattle.demands.proofs.OutputLaws.{laid_from}
use Rattle.demands.proofs.WriterLaws.{header-laid}
use Rattle.demands.proofs.ClosingLaws.{event_closes, event-faultless}
use Rattle.demands.proofs.AssemblyLaws.{assembled_accepted}
use Rattle.demands.proofs.GrantLaws.{granted_exactly}

-- The event that a granted closing leaves is read there, with the class, category and type handed over.
pub closed-event-named : (o : Order) (out : List ℕ) (place end class category type next : ℕ) → Bytes out
    → event_closed o out place end class category type ≡ ok next
    → (x : Container) × (read_event o place (take (end - place) (drop place (event_output o out place end class category type))) ≡ ok x)
    × NamedEvent class category type x
closed-event-named o out place end class category type next h e =
    let k = event_closes o out place end class category type next h e in
    let (a, b, c) = event_read_back class category type (event-faultless o out place end class category type next e) in
    (record { word = event_word class category type; body = k.records }, k.reads, record { class-is = a; category-is = b; type-is = c })

-- The words of these numbers have them.
version-named : (major minor : ℕ) → major < 256 → minor < 256 → NamedVersion major minor (version_word major minor)
version-named major minor a b =
    let (x, y, z) = header_read_back major minor a b in
    record { major-is = x; minor-is = y; format-is = z }

-- The header that the writer leaves is read at byte 0, and its version word, at byte 4, has the two bytes handed over.
pub written-header-named : (o : Order) (out : List ℕ) (major minor next : ℕ) → major < 256 → minor < 256 → header_next out ≡ ok next
    → (read_header o 0 (header_output o out major minor) ≡ ok (word o 4 (header_output o out major minor)))
    × NamedVersion major minor (word o 4 (header_output o out major minor))
unfolding read_header
written-header-named o out major minor next a b e =
    let v : ℕ = version_word major minor in
    let new : List ℕ = header_output o out major minor in
    let rest : List ℕ = drop next out in
    let (rule, fits) = header_admitted major minor a b in
    let stands : new ≡ header_bytes o v ++ rest = laid_from out new 0 next (header_bytes o v) (header-laid o out major minor next e) in
    let apart : header_bytes o v ++ rest ≡ put o 4 file_mark ++ (put o 4 v ++ rest) = append_assoc (put o 4 file_mark) (put o 4 v) rest in
    let second : word o 4 new ≡ v = ap (word o 4) (stands ∙ apart) ∙ second_word o file_mark v rest fits in
    let read : read_header o 0 new ≡ ok v = ap ((header_item o).read tt 0) stands ∙ (header_item o).complete tt 0 v rest (rule, fits) in
    let named : NamedVersion major minor (word o 4 new) = rw second (version-named major minor a b) in
    (read ∙ ap ok (sym second), named)

events-named : (o : Order) (es : List EventPieces) → EventsFaultless o es → NamedEvents es (map (event_of o) es)
events-named o [] h = tt
events-named o (e ∷ es) h =
    let (a, b, c) = event_read_back e.class e.category e.type h.0.word in
    (record { class-is = a; category-is = b; type-is = c }, events-named o es h.1)

-- An assembled file is read with the version and the events of its pieces.
pub assembled_named : (out : List ℕ) (f : FilePieces) → FileFits f → (b : Built) → file_assembled Little out f ≡ ok b
    → (g : File) × (read_file (take b.next b.out) ≡ ok g) × NamedVersion f.major f.minor (version_of g)
    × NamedEvents f.events (events_of g)
unfolding file_of
assembled_named out f h b e = (
  file_of Little f,
  (assembled_accepted out f h b e).accepted,
  version-named f.major f.minor h.major h.minor,
  events-named Little f.events ((granted_exactly out f h).0 (b, e)).0.events,
)
