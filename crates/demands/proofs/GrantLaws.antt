-- When a file's calls are granted: exactly when the fields are without fault, each piece stands where it may, and there is room. So fields
-- without fault whose file would be accepted are never refused.
-- The idea: a writer asks for its fields and for room; a closing reads the pieces that were laid before it, and valid pieces are read.
use mathlib.Core.Path.{◌≡◌, refl, ap, ◌∙◌}
use mathlib.Core.Logic.{◌↔◌}
use mathlib.Core.List.{List, [], ◌∷◌, ◌++◌, map}
use Prim.Native.Nat.{ℕ, ◌+◌, ◌≤◌}
use native.Mathlib.Omega.{arith}
use lib.ListN.{length, length-append}
use Rattle.theory.specs.declared.Order.{Order}
use Rattle.theory.specs.declared.Order.TheVariants.{Little}
use Rattle.theory.specs.Words.{Bytes, put}
use Rattle.theory.specs.Tests.{Res, ok, bind}
use Rattle.theory.proofs.WordLaws.{Bytes-append, Bytes-put}
use Rattle.theory.proofs.TestLaws.{bind_ok}
use Rattle.theory.proofs.Items.{Oks}
use Rattle.note.specs.Limits.{file_limit}
use Rattle.note.specs.Records.{Record, Context, entry, event, unseen, behind, record_bytes, record_size, records_bytes, read_records}
use Rattle.note.specs.Events.{Container, container_bytes, event_word, event_word_rule, event_late}
use Rattle.note.specs.Files.{version_word, file_mark, header_bytes, configuration_word, configuration_rule, configuration_late, file_bytes, read_file}
use Rattle.note.specs.Writers.{Draft, record_next, record_output, header_next, configuration_closed, configuration_output}
use Rattle.note.proofs.ContainerFieldLaws.{event-word-fits, event_word_admitted}
use Rattle.demands.specs.Pieces.{Piece, draft_of, record_of}
use Rattle.demands.specs.Valid.{ValidRecords, ValidEvents, Valid}
use Rattle.demands.specs.Assembly.{EventPieces, FilePieces, AllFitting, EventsFitting, FileFits}
use Rattle.demands.specs.Assembly.{AllFaultless, EventFaultless, EventsFaultless, FileFaultless, AllPlaced, EventsPlaced, FilePlaced}
use Rattle.demands.specs.Assembly.{container_of, event_of, file_of, Built, records_assembled, container_assembled}
use Rattle.demands.specs.Assembly.{configuration_assembled, event_assembled, events_assembled, file_assembled, Assembled}
use Rattle.demands.proofs.Bundles.{box, header_item, configuration_item, event_item, records, same-records}
use Rattle.demands.proofs.Follows.{parts-valid, parts-ok, file_sound}
use Rattle.demands.proofs.RowLaws.{record_size_lem, container_size_lem}
use Rattle.demands.proofs.OutputLaws.{laid-within, laid-contents, grants}
use Rattle.demands.proofs.WriterLaws.{record_granted, record_laid, header-laid, piece_writes}
use Rattle.demands.proofs.ClosingLaws.{Checked, configuration_grants, event_grants, event-faultless}
use Rattle.demands.proofs.AssemblyLaws.{pieces_bytes, event_pieces_bytes, structure-bytes, pieces-bytes, records-laid}
use Rattle.demands.proofs.AssemblyLaws.{contents_from, closed_with, container_calls, configuration-stands, event-stands}
use Rattle.demands.proofs.AssemblyLaws.{headed, version-ok, file_calls, file-stands, assembled_accepted}

-- ---- pieces without fault, each where it may stand, make a valid tree

-- The first piece's bytes and those of the others; the first event's and those of the others.
first_piece : (o : Order) (p : Piece) (ps : List Piece) → length (pieces_bytes o (p ∷ ps)) ≡ record_size (record_of o p) + length (pieces_bytes o ps)
first_piece o p ps = omega (arith, length-append (record_bytes o (record_of o p)) (pieces_bytes o ps), record_size_lem o (record_of o p))

first-event : (o : Order) (e : EventPieces) (es : List EventPieces)
    → length (event_pieces_bytes o (e ∷ es)) ≡ 8 + length (pieces_bytes o e.records) + length (event_pieces_bytes o es)
first-event o e es = omega (arith, length-append (container_bytes o (event_of o e)) (event_pieces_bytes o es), container_size_lem o (event_of o e))

pieces-valid : (o : Order) (c : Context) (ps : List Piece) → AllFitting ps → AllFaultless o ps → AllPlaced o c ps
    → length (pieces_bytes o ps) ≤ file_limit
    → ValidRecords o c (map (record_of o) ps)
pieces-valid o c [] h f k l = tt
pieces-valid o c (p ∷ ps) h f k l =
    let w = piece_writes o p h.0 in
    let size = first_piece o p ps in (
      record {
        kind_allowed = k.0;
        place_allowed = k.1;
        kind_fits = w.kind_fits;
        length-fits = omega arith;
        body_bytes = w.body_bytes;
        body-rule = w.body-rule f.0;
      },
      pieces-valid o (behind c (record_of o p).word) ps h.1 f.1 k.2 (omega arith),
    )

-- Some pieces have some bytes.
some_bytes : (o : Order) (ps : List Piece) → 1 ≤ length ps → 1 ≤ length (pieces_bytes o ps)
some_bytes o [] l = l
some_bytes o (p ∷ ps) l = omega (arith, first_piece o p ps)

events-valid : (o : Order) (es : List EventPieces) → EventsFitting es → EventsFaultless o es → EventsPlaced o es
    → length (event_pieces_bytes o es) ≤ file_limit → ValidEvents o (map (event_of o) es)
events-valid o [] h f k l = tt
events-valid o (e ∷ es) h f k l =
    let size = first-event o e es in (
      record {
        word-rule = event_word_admitted e.class e.category e.type f.0.word;
        word_fits = event-word-fits e.class e.category e.type f.0.word;
        not_empty = some_bytes o e.records k.0.some;
        length-fits = omega arith;
        records-valid = pieces-valid o (event unseen) e.records h.0 f.0.records k.0.records (omega arith);
      },
      events-valid o es h.1 f.1 k.1 (omega arith),
    )

-- ---- what was granted before a closing is there to be read, and the closing is granted

-- The output is within the limit, and has room for the bytes.
pub record Room (b : Built) (bytes : List ℕ) : Type 0 where
  pub limit : length b.out ≤ file_limit
  pub room : b.next + length bytes ≤ length b.out

-- There is an answer.
abbrev Answers : Res Built → Type 0
Answers r = (after : Built) × (r ≡ ok after)

-- Records without fault are written where they have room.
records-granted : (o : Order) (b : Built) (ps : List Piece) → AllFitting ps → AllFaultless o ps → Room b (pieces_bytes o ps)
    → Answers (records_assembled o b ps)
unfolding records_assembled record_next
records-granted o b [] h f r = (b, refl)
records-granted o b (p ∷ ps) h f r =
    let w : Draft = draft_of o p in
    let n : ℕ = length w.bytes in
    let mid : Built = record { next = b.next + n; out = record_output b.out b.next w } in
    let own : n ≡ record_size (record_of o p) = ap length (piece_writes o p h.0).bytes_are ∙ record_size_lem o (record_of o p) in
    let fits : b.next + n ≤ length b.out = omega (arith, r.room, first_piece o p ps) in
    let one : record_next b.out b.next w ≡ ok mid.next = grants (length b.out) b.next w.fault n r.limit f.0 fits in
    let same : length mid.out ≡ length b.out = (record_laid b.out b.next mid.next w one).size in
    let (after, rest) = records-granted o mid ps h.1 f.1
    (record { limit = omega (arith, r.limit); room = omega (arith, r.room, first_piece o p ps) }) in
    (after, ap (λ (r : Res ℕ). bind r (λ n. records_assembled o (record { next = n; out = mid.out }) ps)) one ∙ rest)

module _ (o : Order) (head : ℕ → ℕ) (late : ℕ → ℕ → ℕ) (c : Context) (word : ℕ)
    (closed : List ℕ → ℕ → ℕ → Res ℕ) (output : List ℕ → ℕ → ℕ → List ℕ)
    (closing-grants : (out : List ℕ) (place end : ℕ) → Checked o head late c out place end end word → closed out place end ≡ ok end) where
  -- Then a valid container of them is closed.
  container_granted : (b : Built) (ps : List Piece) → AllFitting ps → AllFaultless o ps → (box o head late c).Ok tt (container_of o word ps)
      → Room b (container_bytes o (container_of o word ps)) → Answers (container_assembled o closed output b ps)
  unfolding container_assembled
  container_granted b ps h f v r =
      let rs : List Record = map (record_of o) ps in
      let size : length (container_bytes o (container_of o word ps)) ≡ 8 + length (records_bytes o rs) = container_size_lem o
      (container_of o word ps) in
      let (filled, e) = records-granted o (contents_from b) ps h f (record { limit = r.limit; room = omega (arith, r.room) }) in
      let old : List ℕ = filled.out in
      let place : ℕ = b.next in
      let end : ℕ = filled.next in
      let l = records-laid o (contents_from b) ps filled h e in
      let (n, contents) = laid-contents b.out old (records_bytes o rs) place end l in
      let k : Checked o head late c old place end end word = record {
        room = (omega (arith, l.ends), omega (arith, l.size, l.ends, r.room), omega (arith, l.size, r.limit));
        fits = v.kind-word;
        head_ok = v.head_ok;
        late_ok = ap (late word) n ∙ v.late_ok;
        read = rs;
        contents = ap (read_records o c (place + 8)) contents
            ∙ same-records o c (place + 8) (records_bytes o rs)
            ∙ (records o).complete c (place + 8) rs v.body_ok;
        is = refl;
      } in
      let made : Built → ℕ → Res Built = λ x next. ok (closed_with output b x next) in (
        closed_with output b filled end,
        ap (λ (r : Res Built). bind r (λ x. bind (closed x.out place x.next) (made x))) e
            ∙ ap (λ (r : Res ℕ). bind r (made filled)) (closing-grants old place end k),
      )

configuration-granted : (o : Order) (b : Built) (ps : List Piece) → AllFitting ps → AllFaultless o ps
    → (configuration_item o).Ok tt (container_of o configuration_word ps) → Room b (container_bytes o (container_of o configuration_word ps))
    → Answers (configuration_assembled o b ps)
configuration-granted o =
    container_granted o configuration_rule configuration_late entry configuration_word (configuration_closed o) (configuration_output o)
    (configuration_grants o)

event-granted : (o : Order) (b : Built) (e : EventPieces) → AllFitting e.records → EventFaultless o e → (event_item o).Ok tt (event_of o e)
    → Room b (container_bytes o (event_of o e)) → Answers (event_assembled o b e)
event-granted o b e h f v r =
    container_granted o event_word_rule event_late (event unseen) (event_word e.class e.category e.type) _ _
    (λ out place end. event_grants o out place end e.class e.category e.type f.word) b e.records h f.records v r

events-granted : (o : Order) (b : Built) (es : List EventPieces) → EventsFitting es → EventsFaultless o es
    → Oks (event_item o) tt (map (event_of o) es)
    → Room b (event_pieces_bytes o es) → Answers (events_assembled o b es)
unfolding events_assembled
events-granted o b [] h f v r = (b, refl)
events-granted o b (e ∷ es) h f v r =
    let size = length-append (container_bytes o (event_of o e)) (event_pieces_bytes o es) in
    let (mid, one) = event-granted o b e h.0 f.0 v.0 (record { limit = r.limit; room = omega (arith, r.room) }) in
    let l = (event-stands o b e mid h.0 one).laid in
    let (after, rest) = events-granted o mid es h.1 f.1 v.1
    (record { limit = omega (arith, l.size, r.limit); room = omega (arith, l.size, l.ends, r.room) }) in
    (after, ap (λ (r : Res Built). bind r (λ x. events_assembled o x es)) one ∙ rest)

-- ---- what granted calls say of the pieces

-- A granted writer or closing found no fault.
records-faultless : (o : Order) (b : Built) (ps : List Piece) (after : Built) → records_assembled o b ps ≡ ok after → AllFaultless o ps
unfolding records_assembled
records-faultless o b [] after e = tt
records-faultless o b (p ∷ ps) after e =
    let w : Draft = draft_of o p in
    let out : List ℕ = record_output b.out b.next w in
    let (next, e1, e2) = bind_ok (record_next b.out b.next w) (λ next. records_assembled o (record { next = next; out = out }) ps) e in
    ((record_granted b.out b.next next w e1).fine, records-faultless o (record { next = next; out = out }) ps after e2)

events-faultless : (o : Order) (b : Built) (es : List EventPieces) (after : Built) → events_assembled o b es ≡ ok after → EventsFaultless o es
unfolding events_assembled
events-faultless o b [] after q = tt
events-faultless o b (e ∷ es) after q =
    let (mid, q1, q2) = bind_ok (event_assembled o b e) (λ mid. events_assembled o mid es) q in
    let (filled, next, inner, closed, is) = container_calls o _ _ b e.records mid q1 in (
      record {
        word = event-faultless o filled.out b.next filled.next e.class e.category e.type next closed;
        records = records-faultless o _ e.records filled inner;
      },
      events-faultless o mid es after q2,
    )

-- In a valid tree each piece stands where it may.
pieces_placed : (o : Order) (c : Context) (ps : List Piece) → ValidRecords o c (map (record_of o) ps) → AllPlaced o c ps
pieces_placed o c [] v = tt
pieces_placed o c (p ∷ ps) v = (v.0.kind_allowed, v.0.place_allowed, pieces_placed o (behind c (record_of o p).word) ps v.1)

some-pieces : (o : Order) (ps : List Piece) → 1 ≤ length (pieces_bytes o ps) → 1 ≤ length ps
some-pieces o [] l = l
some-pieces o (p ∷ ps) l = omega arith

events_placed : (o : Order) (es : List EventPieces) → ValidEvents o (map (event_of o) es) → EventsPlaced o es
events_placed o [] v = tt
events_placed o (e ∷ es) v =
    let own = v.0 in (
      record { some = some-pieces o e.records own.not_empty; records = pieces_placed o (event unseen) e.records own.records-valid },
      events_placed o es v.1,
    )

-- ---- the file

events-bytes : (o : Order) (es : List EventPieces) → EventsFitting es → Bytes (event_pieces_bytes o es)
events-bytes o [] h = tt
events-bytes o (e ∷ es) h =
    Bytes-append (container_bytes o (event_of o e)) (event_pieces_bytes o es)
    (structure-bytes o (records_bytes o) (event_of o e) (pieces-bytes o e.records h.0)) (events-bytes o es h.1)

module _ (o : Order) (f : FilePieces) (h : FileFits f) where
  abbrev version : ℕ
  version = version_word f.major f.minor

  abbrev configuration : Container
  configuration = container_of o configuration_word f.entries

  file-bytes : Bytes (file_bytes (file_of o f))
  unfolding file_of
  file-bytes =
      let header = Bytes-append (put o 4 file_mark) (put o 4 version) (Bytes-put o 4 file_mark) (Bytes-put o 4 version) in
      let entries = structure-bytes o (records_bytes o) configuration (pieces-bytes o f.entries h.entries) in
      Bytes-append (header_bytes o version) _ header
      (Bytes-append (container_bytes o configuration) _ entries (events-bytes o f.events h.events))

  -- The file's length, by its parts.
  file-size : length (file_bytes (file_of o f)) ≡ 8 + length (container_bytes o configuration) + length (event_pieces_bytes o f.events)
  unfolding file_of
  file-size =
      let c : List ℕ = container_bytes o configuration in
      let events : List ℕ = event_pieces_bytes o f.events in
      omega (arith, length-append (header_bytes o version) (c ++ events), length-append c events, (header_item o).sizes version)

  file_placed : Valid (file_of o f) → FilePlaced o f
  unfolding file_of
  file_placed v = record { entries = pieces_placed o entry f.entries v.entries-valid; events = events_placed o f.events v.events-valid }

-- Pieces without fault, each where it may stand, make a file that follows the note, if it isn't too long.
file-valid : (f : FilePieces) → FileFits f → FileFaultless Little f → FilePlaced Little f → length (file_bytes (file_of Little f)) ≤ file_limit
    → Valid (file_of Little f)
unfolding file_of
file-valid f h fine placed l =
    let size = container_size_lem Little (configuration Little f h) in
    record {
      byte-order = refl;
      version-rule = (version-ok f h).0;
      version-fits = (version-ok f h).1;
      configuration-word = refl;
      configuration-fits = omega (arith, file-size Little f h);
      entries-valid = pieces-valid Little entry f.entries h.entries fine.entries placed.entries (omega (arith, file-size Little f h));
      events-valid = events-valid Little f.events h.events fine.events placed.events (omega (arith, file-size Little f h));
      within-limit = l;
    }

module _ (o : Order) (out : List ℕ) (f : FilePieces) (h : FileFits f) where
  -- Calls that were granted have found no fault.
  file-faultless : (b : Built) → file_assembled o out f ≡ ok b → FileFaultless o f
  file-faultless b e =
      let (next, mid, header, configuration, events) = file_calls o out f b e in
      let (filled, end, inner, closed, is) = container_calls o _ _ _ f.entries mid configuration in
      record { entries = records-faultless o _ f.entries filled inner; events = events-faultless o mid f.events b events }

  -- And they are granted where the tree is valid and has room.
  file-granted : FileFaultless o f → Valid (file_of o f) → length out ≤ file_limit → length (file_bytes (file_of o f)) ≤ length out
      → (b : Built) × (file_assembled o out f ≡ ok b)
  unfolding file_assembled file_of header_next
  file-granted fine valid limit room =
      let (Ok-header, (ok-configuration, ok-events)) = parts-ok (file_of o f) valid in
      let size = file-size o f h in
      let top : Built = headed o out f 8 in
      let header : header_next out ≡ ok 8 = grants (length out) 0 0 8 limit refl (omega arith) in
      let l = header-laid o out f.major f.minor 8 header in
      let (mid, entries) = configuration-granted o top f.entries h.entries fine.entries ok-configuration
      (record { limit = omega (arith, l.size); room = omega (arith, l.size) }) in
      let m = (configuration-stands o top f.entries mid h.entries entries).laid in
      let (b, events) = events-granted o mid f.events h.events fine.events ok-events
      (record { limit = omega (arith, l.size, m.size); room = omega (arith, l.size, m.size, m.ends) }) in
      let rest : Built → Res Built = λ x. events_assembled o x f.events in (
        b,
        ap (λ (r : Res ℕ). bind r (λ n. bind (configuration_assembled o (headed o out f n) f.entries) rest)) header
            ∙ ap (λ (r : Res Built). bind r rest) entries
            ∙ events,
      )

  -- They end where the file does.
  file-ends : (b : Built) → file_assembled o out f ≡ ok b → b.next ≡ length (file_bytes (file_of o f))
  file-ends b e = omega (arith, (file-stands o out f h b e).0.ends)

-- Of a file whose words are little-endian (FORMAT 1.2).
module _ (out : List ℕ) (f : FilePieces) (h : FileFits f) where
  -- Given room, pieces without fault, each where it may stand, are never refused.
  pub assembly_granted : FileFaultless Little f → FilePlaced Little f → length out ≤ file_limit → length (file_bytes (file_of Little f)) ≤ length out
      → (b : Built) × (file_assembled Little out f ≡ ok b) × (b.next ≡ length (file_bytes (file_of Little f)))
  assembly_granted fine placed limit room =
      let (b, e) = file-granted Little out f h fine (file-valid f h fine placed (omega arith)) limit room in
      (b, e, file-ends Little out f h b e)

  -- And only such pieces are granted.
  pub granted_exactly : ((b : Built) × (file_assembled Little out f ≡ ok b))
      ↔ (FileFaultless Little f × FilePlaced Little f × (length out ≤ file_limit) × (length (file_bytes (file_of Little f)) ≤ length out))
  unfolding file_of
  granted_exactly = (
    λ g. let (l, limit, valid) = file-stands Little out f h g.0 g.1 in
        let room = laid-within out g.0.out (file_bytes (file_of Little f)) g.0.next l in
        (file-faultless Little out f h g.0 g.1, file_placed Little f h (parts-valid (file_of Little f) refl valid (omega arith)), limit, room),
    λ p. file-granted Little out f h p.0 (file-valid f h p.0 p.1 (omega (arith, p.2, p.3))) p.2 p.3,
  )

  -- So, where the file of the pieces is one that is accepted, the calls make it: the pieces are assembled, and what then stands is that file.
  pub valid_assembles : FileFaultless Little f → read_file (file_bytes (file_of Little f)) ≡ ok (file_of Little f)
      → length out ≤ file_limit → length (file_bytes (file_of Little f)) ≤ length out
      → (b : Built) × (file_assembled Little out f ≡ ok b) × (b.next ≡ length (file_bytes (file_of Little f))) × Assembled Little out f b
  valid_assembles fine accepted limit room =
      let valid : Valid (file_of Little f) = (file_sound (file_bytes (file_of Little f)) (file_of Little f) (file-bytes Little f h) accepted).1 in
      let (b, e) = file-granted Little out f h fine valid limit room in
      (b, e, file-ends Little out f h b e, assembled_accepted out f h b e)
