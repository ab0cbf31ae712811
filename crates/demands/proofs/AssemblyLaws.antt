-- A file assembled by header, entries, closing, records, closings is accepted with the rows that its pieces make.
-- The idea: the calls lay the bytes of the tree; a closing's own check reads the pieces and nothing else, so its acceptance makes them valid.
use mathlib.Core.Path.{◌≡◌, refl, sym, ap, ap₂, ◌∙◌, subst}
use mathlib.Core.List.{List, [], ◌∷◌, ◌++◌, map}
use Prim.Native.Nat.{ℕ, zero, suc, ◌+◌, ◌≤◌}
use native.Mathlib.Omega.{arith}
use lib.ListN.{length, take, drop, length-append}
use lib.Seq.{take_at, drop_at}
use Rattle.theory.specs.declared.Order.{Order}
use Rattle.theory.specs.declared.Order.TheVariants.{Little}
use Rattle.theory.specs.Words.{Bytes, Fits, word_at, put}
use Rattle.theory.specs.Tests.{Res, ok, bind}
use Rattle.theory.specs.Structures.{Structure, structure_bytes}
use Rattle.theory.proofs.WordLaws.{Bytes-append, Bytes-put, word_after_put}
use Rattle.theory.proofs.TestLaws.{bind_ok, ok_inj}
use Rattle.theory.proofs.Items.{seqs, Oks, turn, seq_open}
use Rattle.theory.proofs.StructureLaws.{second_word, drop-two}
use Rattle.note.specs.Limits.{file_limit}
use Rattle.note.specs.Records.{Record, Context, entry, event, unseen, next_context, record_bytes, record_size, records_bytes, read_records}
use Rattle.note.specs.Events.{Container, container_bytes, event_word, event_word_rule, event_late, events_bytes}
use Rattle.note.specs.Files.{version_word, version_rule, configuration_word, configuration_rule, configuration_late, file_bytes, read_file}
use Rattle.note.specs.Rows.{table_given, table_filled, table_answer, table_buffer}
use Rattle.note.specs.Writers.{Draft, output_after, record_next, record_output, contents_of, closing_bytes, header_next, header_output}
use Rattle.note.specs.Writers.{configuration_closed, configuration_output, event_output}
use Rattle.note.proofs.ContainerFieldLaws.{header_admitted}
use Rattle.demands.specs.Pieces.{Piece, draft_of, record_of}
use Rattle.demands.specs.Outputs.{Laid}
use Rattle.demands.specs.Assembly.{EventPieces, FilePieces, AllFitting, EventsFitting, FileFits, container_of, event_of, file_of, Built}
use Rattle.demands.specs.Assembly.{records_assembled, container_assembled, configuration_assembled, event_assembled, events_assembled}
use Rattle.demands.specs.Assembly.{file_assembled, Assembled}
use Rattle.demands.proofs.Bundles.{box, record_item, event_item, parts, same-records}
use Rattle.demands.proofs.Follows.{parts-valid, file_complete}
use Rattle.demands.proofs.RowLaws.{record_size_lem}
use Rattle.demands.proofs.RecordLaws.{record_opens}
use Rattle.demands.proofs.OutputLaws.{structure_apart, none-laid, both_laid, around-laid, laid-within, laid-contents, granted}
use Rattle.demands.proofs.WriterLaws.{record_granted, record_laid, header-laid, piece_writes}
use Rattle.demands.proofs.ClosingLaws.{Checked, container_ok, container_laid, configuration_checked, event_checked}

-- ---- what is read from the bytes of records is those records

module _ (o : Order) (r : Record) (kind : Fits 4 r.word) (size : Fits 4 (length r.body)) where
  record_exact : (c : Context) (at : ℕ) (rest : List ℕ) (x : Record) → (record_item o).read c at (record_bytes o r ++ rest) ≡ ok x → x ≡ r
  record_exact c at rest x e =
      let n : ℕ = length r.body in
      let later : List ℕ = r.body ++ rest in
      let bs : List ℕ = put o 4 r.word ++ (put o 4 n ++ later) in
      let shape : record_bytes o r ++ rest ≡ bs = structure_apart o (λ (b : List ℕ). b) r rest in
      let (first, second) = record_opens o c at bs x (sym (ap ((record_item o).read c at) shape) ∙ e) in
      let ek : x.word ≡ r.word = first ∙ word_after_put o 4 r.word (put o 4 n ++ later) kind in
      let en : word_at o 4 4 bs ≡ n = second_word o r.word n later size in
      let eb : x.body ≡ r.body = second ∙ ap₂ take en (drop-two o r.word n later) ∙ take_at r.body rest n refl in
      λ i. record { word = ek i; body = eb i }

-- Each kind word fits.
abbrev KindsFit : List Record → Type 0
KindsFit [] = Unit {0}
KindsFit (r ∷ rs) = Fits 4 r.word × KindsFit rs

-- With fuel f for as many records.
sequence_exact : (o : Order) (f : ℕ) (c : Context) (at : ℕ) (rs xs : List Record) → KindsFit rs
    → length (records_bytes o rs) ≤ f → Fits 4 (length (records_bytes o rs)) → seqs (record_item o) f c at (records_bytes o rs) ≡ ok xs → xs ≡ rs
sequence_exact o zero c at [] xs k l s e = sym (ok_inj e)
sequence_exact o (suc f) c at [] xs k l s e = sym (ok_inj e)
sequence_exact o zero c at (r ∷ rs) xs k l s e = absurd (omega (arith, length-append (record_bytes o r) (records_bytes o rs), record_size_lem o r))
sequence_exact o (suc f) c at (r ∷ rs) xs k l s e =
    let bs : List ℕ = record_bytes o r ++ records_bytes o rs in
    let total : length bs ≡ length (record_bytes o r) + length (records_bytes o rs) = length-append (record_bytes o r) (records_bytes o rs) in
    let own : length (record_bytes o r) ≡ record_size r = record_size_lem o r in
    let opened = sym (seq_open (record_item o) f c at bs (omega arith)) ∙ e in
    let (a, ea, e1) = bind_ok ((record_item o).read c at bs) (turn (record_item o) f c at bs) opened in
    let same : a ≡ r = record_exact o r k.0 (omega arith) c at (records_bytes o rs) a ea in
    let later : List ℕ → Res (List Record) = seqs (record_item o) f (next_context c r) (at + record_size r) in
    let (ys, ey, e2) = bind_ok (later (drop (record_size r) bs)) (λ ys. ok (r ∷ ys))
    (subst (λ (x : Record). turn (record_item o) f c at bs x ≡ ok xs) same e1) in
    let rest : drop (record_size r) bs ≡ records_bytes o rs = drop_at (record_bytes o r) (records_bytes o rs) (record_size r) own in
    let tail : ys ≡ rs = sequence_exact o f (next_context c r) (at + record_size r) rs ys k.1 (omega arith) (omega arith)
    (sym (ap later rest) ∙ ey) in
    sym (ok_inj e2) ∙ ap (λ (zs : List Record). r ∷ zs) tail

-- Whatever the context, what is accepted from the bytes of records is those records.
records_exact : (o : Order) (c : Context) (at : ℕ) (rs xs : List Record) → KindsFit rs → Fits 4 (length (records_bytes o rs))
    → read_records o c at (records_bytes o rs) ≡ ok xs → xs ≡ rs
records_exact o c at rs xs k s e =
    sequence_exact o (length (records_bytes o rs)) c at rs xs k (omega arith) s (sym (same-records o c at (records_bytes o rs)) ∙ e)

-- ---- the pieces

-- Their bytes, and those of events of pieces.
abbrev pub pieces_bytes : Order → List Piece → List ℕ
pieces_bytes o ps = records_bytes o (map (record_of o) ps)

abbrev pub event_pieces_bytes : Order → List EventPieces → List ℕ
event_pieces_bytes o es = events_bytes o (map (event_of o) es)

-- What the caller's types say makes each kind word fit, and all bytes bytes.
pieces-kinds : (o : Order) (ps : List Piece) → AllFitting ps → KindsFit (map (record_of o) ps)
pieces-kinds o [] h = tt
pieces-kinds o (p ∷ ps) h = ((piece_writes o p h.0).kind_fits, pieces-kinds o ps h.1)

pub structure-bytes : (o : Order) {B : Type 0} (body_bytes : B → List ℕ) (c : Structure B) → Bytes (body_bytes c.body)
    → Bytes (structure_bytes o body_bytes c)
structure-bytes o body_bytes c h =
    let body : List ℕ = body_bytes c.body in
    Bytes-append (put o 4 c.word) _ (Bytes-put o 4 c.word)
    (Bytes-append (put o 4 (length body)) body (Bytes-put o 4 (length body)) h)

pub pieces-bytes : (o : Order) (ps : List Piece) → AllFitting ps → Bytes (pieces_bytes o ps)
pieces-bytes o [] h = tt
pieces-bytes o (p ∷ ps) h =
    Bytes-append (record_bytes o (record_of o p)) (pieces_bytes o ps)
    (structure-bytes o (λ (b : List ℕ). b) (record_of o p) (piece_writes o p h.0).body_bytes) (pieces-bytes o ps h.1)

-- ---- what the calls have laid

-- Calls from b on have come to `after` and laid the bytes.
abbrev pub Lays : Built → Built → List ℕ → Type 0
Lays b after bytes = Laid b.out after.out b.next after.next bytes

-- Where no call is made, nothing is laid.
none_lays : (b after : Built) → ◌≡◌ {A = Res Built} (ok b) (ok after) → Lays b after []
none_lays b after e = subst (λ (x : Built). Lays b x []) (ok_inj e) (none-laid b.out b.next)

pub records-laid : (o : Order) (b : Built) (ps : List Piece) (after : Built) → AllFitting ps → records_assembled o b ps ≡ ok after
    → Lays b after (pieces_bytes o ps)
unfolding records_assembled
records-laid o b [] after h e = none_lays b after e
records-laid o b (p ∷ ps) after h e =
    let w : Draft = draft_of o p in
    let out : List ℕ = record_output b.out b.next w in
    let (next, e1, e2) = bind_ok (record_next b.out b.next w) (λ next. records_assembled o (record { next = next; out = out }) ps) e in
    let g = record_granted b.out b.next next w e1 in
    let one : Laid b.out out b.next next (record_bytes o (record_of o p)) =
    subst (λ (x : List ℕ). Laid b.out out b.next next x) (piece_writes o p h.0).bytes_are (record_laid b.out b.next next w e1) in
    both_laid b.out out after.out _ _ b.next next after.next (omega (arith, g.room, g.is)) one
    (records-laid o (record { next = next; out = out }) ps after h.1 e2)

-- A container's contents begin behind eight free bytes; where its closing, with that output, has come to.
abbrev pub contents_from : Built → Built
contents_from b = record { next = b.next + 8; out = b.out }

abbrev pub closed_with : (List ℕ → ℕ → ℕ → List ℕ) → Built → Built → ℕ → Built
closed_with output b filled next = record { next = next; out = output filled.out b.next filled.next }

-- A container's calls: its records, then its closing.
pub container_calls : (o : Order) (closed : List ℕ → ℕ → ℕ → Res ℕ) (output : List ℕ → ℕ → ℕ → List ℕ)
    → (b : Built) (ps : List Piece) (after : Built) → container_assembled o closed output b ps ≡ ok after
    → (filled : Built) × (next : ℕ) × (records_assembled o (contents_from b) ps ≡ ok filled)
    × (closed filled.out b.next filled.next ≡ ok next) × (closed_with output b filled next ≡ after)
unfolding container_assembled
container_calls o closed output b ps after e =
    let made : Built → ℕ → Res Built = λ filled next. ok (closed_with output b filled next) in
    let (filled, e1, e2) = bind_ok (records_assembled o (contents_from b) ps)
    (λ filled. bind (closed filled.out b.next filled.next) (made filled)) e in
    let (next, e3, e4) = bind_ok (closed filled.out b.next filled.next) (made filled) e2 in
    (filled, next, e1, e3, ok_inj e4)

-- A container: what stands afterwards is the container of the pieces, and it is valid.
pub record Stood (o : Order) (head : ℕ → ℕ) (late : ℕ → ℕ → ℕ) (c : Context)
    (b after : Built) (x : Container) : Type 0 where
  pub laid : Lays b after (container_bytes o x)
  pub room : after.next ≤ length b.out
  pub valid : (box o head late c).Ok tt x

module _ (o : Order) (head : ℕ → ℕ) (late : ℕ → ℕ → ℕ) (c : Context) (word : ℕ)
    (closed : List ℕ → ℕ → ℕ → Res ℕ) (output : List ℕ → ℕ → ℕ → List ℕ)
    (checked : (out : List ℕ) (place end next : ℕ) → closed out place end ≡ ok next → Checked o head late c out place end next word)
    (is : (old : List ℕ) (place end : ℕ)
    → output old place end ≡ output_after (closed old place end) old place (closing_bytes o word place end)) where
  -- A closing over pieces that were laid behind eight free bytes.
  closed-stands : (b filled : Built) (ps : List Piece) (next : ℕ) → AllFitting ps → Lays (contents_from b) filled (pieces_bytes o ps)
      → closed filled.out b.next filled.next ≡ ok next
      → Stood o head late c b (closed_with output b filled next) (container_of o word ps)
  closed-stands b filled ps next h l e =
      let rs : List Record = map (record_of o) ps in
      let old : List ℕ = filled.out in
      let place : ℕ = b.next in
      let end : ℕ = filled.next in
      let k = checked old place end next e in
      let contents : contents_of old place end ≡ records_bytes o rs = (laid-contents b.out old (records_bytes o rs) place end l).1 in
      let bytes : Bytes (contents_of old place end) = subst Bytes (sym contents) (pieces-bytes o ps h) in
      let again : read_records o c (place + 8) (records_bytes o rs) ≡ ok k.read = sym (ap (read_records o c (place + 8)) contents) ∙ k.contents in
      let same : k.read ≡ rs =
      records_exact o c (place + 8) rs k.read (pieces-kinds o ps h) (omega (arith, l.ends, k.room)) again in
      let left : output_after (ok next) old place (closing_bytes o word place end) ≡ output old place end =
      ap (λ (r : Res ℕ). output_after r old place (closing_bytes o word place end)) (sym e) ∙ sym (is old place end) in
      let whole : List Record → Container = λ xs. record { word = word; body = xs } in
      let shut = around-laid b.out old _ (records_bytes o rs) _ place (place + 8) end (omega arith) l
      (container_laid o head late c old place end next word k bytes) in
      let there = subst (λ (x : List ℕ). Laid b.out x place end (container_bytes o (whole k.read))) left shut in
      subst (λ (xs : List Record). Stood o head late c b (closed_with output b filled next) (whole xs)) same (record {
        laid = subst (λ (m : ℕ). Laid b.out (output old place end) place m (container_bytes o (whole k.read))) k.is there;
        room = omega (arith, k.room, k.is, l.size);
        valid = container_ok o head late c old place end next word k bytes;
      })

  -- All of a container's calls.
  container_stands : (b : Built) (ps : List Piece) (after : Built) → AllFitting ps → container_assembled o closed output b ps ≡ ok after
      → Stood o head late c b after (container_of o word ps)
  container_stands b ps after h e =
      let (filled, next, e1, e2, is) = container_calls o closed output b ps after e in
      subst (λ (x : Built). Stood o head late c b x (container_of o word ps)) is
      (closed-stands b filled ps next h (records-laid o _ ps filled h e1) e2)

pub configuration-stands : (o : Order) (b : Built) (ps : List Piece) (after : Built) → AllFitting ps → configuration_assembled o b ps ≡ ok after
    → Stood o configuration_rule configuration_late entry b after (container_of o configuration_word ps)
unfolding configuration_output
configuration-stands o =
    container_stands o configuration_rule configuration_late entry configuration_word (configuration_closed o) (configuration_output o)
    (configuration_checked o) (λ out place end. refl)

pub event-stands : (o : Order) (b : Built) (e : EventPieces) (after : Built) → AllFitting e.records → event_assembled o b e ≡ ok after
    → Stood o event_word_rule event_late (event unseen) b after (event_of o e)
unfolding event_output
event-stands o b e after h q =
    container_stands o event_word_rule event_late (event unseen) (event_word e.class e.category e.type) _ _
    (λ out place end. event_checked o out place end e.class e.category e.type) (λ out place end. refl) b e.records after h q

events_stand : (o : Order) (b : Built) (es : List EventPieces) (after : Built) → EventsFitting es → events_assembled o b es ≡ ok after
    → Lays b after (event_pieces_bytes o es) × Oks (event_item o) tt (map (event_of o) es)
unfolding events_assembled
events_stand o b [] after h q = (none_lays b after q, tt)
events_stand o b (e ∷ es) after h q =
    let (mid, q1, q2) = bind_ok (event_assembled o b e) (λ mid. events_assembled o mid es) q in
    let one = event-stands o b e mid h.0 q1 in
    let (rest, oks) = events_stand o mid es after h.1 q2 in (
      both_laid b.out mid.out after.out (container_bytes o (event_of o e)) (event_pieces_bytes o es)
          b.next mid.next after.next one.room one.laid rest,
      (one.valid, oks),
    )

-- ---- the file

-- The version word of two DAQ bytes is admitted.
pub version-ok : (f : FilePieces) → FileFits f
    → (version_rule (version_word f.major f.minor) ≡ 0) × Fits 4 (version_word f.major f.minor)
version-ok f h = header_admitted f.major f.minor h.major h.minor

-- Where the header's writer, having answered the next place, has come to.
abbrev pub headed : Order → List ℕ → FilePieces → ℕ → Built
headed o out f next = record { next = next; out = header_output o out f.major f.minor }

-- A file's calls: the header, the configuration, the events.
pub file_calls : (o : Order) (out : List ℕ) (f : FilePieces) (b : Built) → file_assembled o out f ≡ ok b
    → (next : ℕ) × (mid : Built) × (header_next out ≡ ok next)
    × (configuration_assembled o (headed o out f next) f.entries ≡ ok mid) × (events_assembled o mid f.events ≡ ok b)
unfolding file_assembled
file_calls o out f b e =
    let rest : Built → Res Built = λ mid. events_assembled o mid f.events in
    let (next, e1, e2) = bind_ok (header_next out) (λ next. bind (configuration_assembled o (headed o out f next) f.entries) rest) e in
    let (mid, e3, e4) = bind_ok (configuration_assembled o (headed o out f next) f.entries) rest e2 in
    (next, mid, e1, e3, e4)

module _ (o : Order) (out : List ℕ) (f : FilePieces) (h : FileFits f) where
  -- The calls lay the bytes of the tree, which is valid.
  pub file-stands : (b : Built) → file_assembled o out f ≡ ok b
      → Laid out b.out 0 b.next (file_bytes (file_of o f)) × (length out ≤ file_limit) × (parts o).Ok tt (file_of o f).1
  unfolding file_of header_next
  file-stands b e =
      let top : List ℕ = header_output o out f.major f.minor in
      let (next, mid, e1, e2, e3) = file_calls o out f b e in
      let g = granted (length out) 0 0 8 next e1 in
      let header = header-laid o out f.major f.minor next e1 in
      let configuration = configuration-stands o (headed o out f next) f.entries mid h.entries e2 in
      let (events, oks) = events_stand o mid f.events b h.events e3 in
      let rest = both_laid top mid.out b.out _ _ next mid.next b.next configuration.room configuration.laid events in (
        both_laid out top b.out _ _ 0 next b.next (omega (arith, g.room, g.is)) header rest,
        g.limit,
        (version-ok f h, (configuration.valid, oks)),
      )

module _ (out : List ℕ) (f : FilePieces) (h : FileFits f) where
  -- So what then stands from byte 0 on is accepted as the tree of the pieces.
  pub assembled_accepted : (b : Built) → file_assembled Little out f ≡ ok b → Assembled Little out f b
  unfolding file_of
  assembled_accepted b e =
      let (l, limit, valid) = file-stands Little out f h b e in
      let bytes : List ℕ = file_bytes (file_of Little f) in
      let n : b.next ≡ length bytes = omega (arith, l.ends) in
      let is : take b.next b.out ≡ bytes = ap (λ (m : ℕ). take m b.out) n ∙ l.here in
      let short : length bytes ≤ file_limit = omega (arith, laid-within out b.out bytes b.next l) in
      record {
        accepted = ap read_file is ∙ file_complete (file_of Little f) (parts-valid (file_of Little f) refl valid short);
        whole = ap length is ∙ sym n;
        behind = l.behind;
        size = l.size;
      }

  -- So Table answers with the rows of the tree, and fills them.
  pub assembled_rows : (b : Built) (old : List ℕ) → file_assembled Little out f ≡ ok b
      → (table_answer (take b.next b.out) (length old) ≡ table_given (take b.next b.out) (length old) (ok (file_of Little f)))
      × (table_buffer (take b.next b.out) old ≡ table_filled old (ok (file_of Little f)))
  unfolding table_answer table_buffer
  assembled_rows b old e =
      let file = take b.next b.out in
      let read : read_file file ≡ ok (file_of Little f) = (assembled_accepted b e).accepted in
      (ap (table_given file (length old)) read, ap (table_filled old) read)
