-- Reading and writing fit (FORMAT 9.5): rewriting an accepted file from its fields restores its bytes.
-- The idea: each record's body, written again from its fields, is the body; the rest is the same words around it.
use mathlib.Core.Path.{◌≡◌, refl, sym, ap, ap₂, ◌∙◌, subst}
use mathlib.Core.Logic.{◌↔◌}
use mathlib.Core.Bool.{Bool, true, false}
use mathlib.Core.List.{List, [], ◌∷◌, ◌++◌, map}
use Prim.Native.Nat.{ℕ, ◌+◌, ◌≤◌}
use native.Mathlib.Omega.{arith}
use lib.Dec.{leb}
use lib.ListN.{length, drop}
use native.Mathlib.Decide.{dec_le}
use borrow.Author.Tests.{le-leb, lt-leb, leb-true, leb-false}
use Rattle.theory.specs.declared.Order.{Order}
use Rattle.theory.specs.Words.{Bytes}
use Rattle.theory.specs.Tests.{Res, ok, bad, need, bind, unless}
use Rattle.theory.specs.Structures.{sequence_bytes}
use Rattle.theory.proofs.TestLaws.{ok-bad, ok_inj}
use Rattle.note.specs.Limits.{file_limit}
use Rattle.note.specs.Records.{Record, Context, entry, event, unseen, behind}
use Rattle.note.specs.Events.{Container, container_bytes, events_bytes}
use Rattle.note.specs.Files.{File, order_in, version_of, configuration_of, events_of, header_bytes, file_bytes, read_file}
use Rattle.note.specs.Writers.{record_again, container_rewritten, file_rewritten, output_after, rewritten, rewrite_next, rewrite_output}
use Rattle.note.proofs.KindLaws.{again_restores}
use Rattle.demands.specs.Valid.{ValidRecord, ValidRecords, ValidEvents, Valid}
use Rattle.demands.specs.Outputs.{RewriteRefused, output_over, file-refused, no_room, RewriteGranted}
use Rattle.demands.proofs.Follows.{file_sound}
use Rattle.demands.proofs.OutputLaws.{refusal_keeps}

-- A valid record, written again from its fields, is itself.
pub record_restored : (o : Order) (c : Context) (r : Record) → ValidRecord o c r → record_again o r ≡ r
unfolding record_again
record_restored o c r v = λ i. record { word = r.word; body = again_restores o r.word r.body v.body_bytes v.body-rule i }

records_restored : (o : Order) (c : Context) (rs : List Record) → ValidRecords o c rs → map (record_again o) rs ≡ rs
records_restored o c [] v = refl
records_restored o c (r ∷ rs) v =
    ap₂ (λ (x : Record) (xs : List Record). x ∷ xs) (record_restored o c r v.0) (records_restored o (behind c r.word) rs v.1)

container_restored : (o : Order) (c : Context) (x : Container) → ValidRecords o c x.body → container_rewritten o x ≡ container_bytes o x
container_restored o c x v =
    ap (λ (rs : List Record). container_bytes o (record { word = x.word; body = rs })) (records_restored o c x.body v)

events_restored : (o : Order) (es : List Container) → ValidEvents o es → sequence_bytes (container_rewritten o) es ≡ events_bytes o es
events_restored o [] v = refl
events_restored o (e ∷ es) v =
    ap₂ (λ (a b : List ℕ). a ++ b) (container_restored o (event unseen) e v.0.records-valid) (events_restored o es v.1)

-- A valid tree, written again from its fields, has its own bytes.
pub fields_restore : (f : File) → Valid f → file_rewritten f ≡ file_bytes f
unfolding file_rewritten
fields_restore f v =
    ap₂ (λ (a b : List ℕ). header_bytes (order_in f) (version_of f) ++ (a ++ b))
    (container_restored (order_in f) entry (configuration_of f) v.entries-valid) (events_restored (order_in f) (events_of f) v.events-valid)

-- So an accepted file, written again from its fields, is its bytes.
bytes_restored : (bs : List ℕ) (f : File) → Bytes bs → read_file bs ≡ ok f → file_rewritten f ≡ bs
bytes_restored bs f h e = let (is, valid) = file_sound bs f h e in fields_restore f valid ∙ sym is

-- Rewrite of an accepted file, given room: the next place is the file's length; the output is the file, and behind it as it was.
pub rewrite_restores : (bs out : List ℕ) (f : File) → Bytes bs → read_file bs ≡ ok f → length bs ≤ length out → length out ≤ file_limit
    → (rewrite_next bs out ≡ ok (length bs)) × (rewrite_output bs out ≡ bs ++ drop (length bs) out)
unfolding rewrite_next rewrite_output output_after
rewrite_restores bs out f h e room limit =
    let same : file_rewritten f ≡ bs = bytes_restored bs f h e in
    let l : leb (length out) file_limit ≡ true = le-leb (length out) file_limit limit in
    let r : leb (length bs) (length out) ≡ true = le-leb (length bs) (length out) room in
    let z : 0 + length bs ≡ length bs = omega arith in
    (rw (l, e, same, r), rw (l, e, same, r, z))

-- A refusal of Rewrite says which it is, and leaves the output as it was.
module _ (bs out : List ℕ) (c p : ℕ) (h : Bytes bs) where
  -- What Rewrite answers for an accepted file, by whether it has room.
  abbrev answered : File → Bool → Res ℕ
  answered f t = need (unless t 13) 0 (ok (length (file_rewritten f)))

  abbrev has_room : File → Bool
  has_room f = leb (length (file_rewritten f)) (length out)

  room-refused : (f : File) → length out ≤ file_limit → read_file bs ≡ ok f → (t : Bool) → has_room f ≡ t
      → answered f t ≡ bad c p → RewriteRefused bs out c p
  room-refused f l r true q z = absurd (ok-bad z)
  room-refused f l r false q z =
      let less : leb (length bs) (length out) ≡ false =
      subst (λ (x : List ℕ). leb (length x) (length out) ≡ false) (bytes_restored bs f h r) q in
      let number : c ≡ 13 = cc in
      let place : p ≡ 0 = cc in
      no_room f l r (leb-false (length bs) (length out) less) number place

  read-refused : length out ≤ file_limit → (r : Res File) → read_file bs ≡ r → bind r (λ f. answered f (has_room f)) ≡ bad c p
      → RewriteRefused bs out c p
  read-refused l (ok f) r z = room-refused f l r (has_room f) refl z
  read-refused l (bad c' p') r z = let same : ◌≡◌ {A = Res File} (bad c' p') (bad c p) = cc in file-refused l (r ∙ same)

  limit-refused : (t : Bool) → leb (length out) file_limit ≡ t
      → need (unless t 1) 0 (bind (read_file bs) (λ f. answered f (has_room f))) ≡ bad c p → RewriteRefused bs out c p
  limit-refused true q z = read-refused (leb-true (length out) file_limit q) (read_file bs) refl z
  limit-refused false q z =
      let number : c ≡ 1 = cc in
      let place : p ≡ 0 = cc in
      output_over (leb-false (length out) file_limit q) number place

  pub rewrite-refused : rewrite_next bs out ≡ bad c p → RewriteRefused bs out c p × (rewrite_output bs out ≡ out)
  unfolding rewrite_next rewrite_output
  rewrite-refused e =
      (limit-refused (leb (length out) file_limit) refl e, refusal_keeps (rewrite_next bs out) out (rewritten (read_file bs)) 0 c p e)

  -- And what it says is what Rewrite gives, so number and place are determined by it.
  refused-given : RewriteRefused bs out c p → rewrite_next bs out ≡ bad c p
  unfolding rewrite_next
  refused-given (output_over l number place) = rw (lt-leb (length out) file_limit l, number, place)
  refused-given (file-refused l r) = rw (le-leb (length out) file_limit l, r)
  refused-given (no_room f l r less number place) =
      rw (le-leb (length out) file_limit l, r, bytes_restored bs f h r, lt-leb (length bs) (length out) less, number, place)

  pub rewrite_refused_exact : (rewrite_next bs out ≡ bad c p) ↔ RewriteRefused bs out c p
  rewrite_refused_exact = (λ e. (rewrite-refused e).0, refused-given)

-- Rewrite answers a next place for an accepted file that has room, and for no other.
module _ (bs out : List ℕ) (next : ℕ) (h : Bytes bs) where
  -- A refusal is no answer.
  not-refused : rewrite_next bs out ≡ ok next → (c p : ℕ) → RewriteRefused bs out c p → ⊥
  not-refused e c p r = ok-bad (sym e ∙ (rewrite_refused_exact bs out c p h).1 r)

  granted_when : length out ≤ file_limit → rewrite_next bs out ≡ ok next → (r : Res File) → read_file bs ≡ r → RewriteGranted bs out next
  granted_when l e (bad c p) r = absurd (not-refused e c p (file-refused l r))
  granted_when l e (ok f) r = elim (dec_le (length bs) (length out)) [
    | yes room ↦ record {
      file = f;
      read = r;
      room = room;
      limit = l;
      is = ok_inj (sym e ∙ (rewrite_restores bs out f h r room l).0);
    }
    | no less ↦ absurd (not-refused e 13 0 (no_room f l r (omega arith) refl refl))
  ]

  pub rewrite_granted_exact : (rewrite_next bs out ≡ ok next) ↔ RewriteGranted bs out next
  rewrite_granted_exact = (
    λ e. elim (dec_le (length out) file_limit) [
      | yes l ↦ granted_when l e (read_file bs) refl
      | no over ↦ absurd (not-refused e 1 0 (output_over (omega arith) refl refl))
    ],
    λ g. (rewrite_restores bs out g.file h g.read g.room g.limit).0 ∙ ap ok (sym g.is),
  )
