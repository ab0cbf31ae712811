-- A writer's answer and the output that it leaves: what a granted answer shows, and what an answer tells a writer that was given it.
-- The idea: a writer's answer determines `writer_next`, and `writer_next` determines the output; no kind of structure enters.
use Rattle.std.proofs.Common.{Result, Ok, Err, IsErrAnd}
use Prim.Native.Nat.{ℕ, zero, suc, ◌+◌, ◌-◌, ◌≤◌}
use mathlib.Core.Path.{◌≡◌, refl, sym, ap, ◌∙◌}
use mathlib.Core.List.{List, append_assoc}
use native.Mathlib.Omega.{arith}
use lib.Dec.{leb}
use lib.ListN.{length, take, drop}
use lib.Seq.{sets, sets-eq}
use borrow.Rule.Slice.PartMut.{put_mid, mid_of}
use Rattle.theory.specs.Tests.{Res, ok, bad, need, unless}
use Rattle.theory.proofs.TestLaws.{need-ok, most_passed}
use Rattle.theory.proofs.StoreLaws.{part-stored}
use Rattle.note.specs.declared.Refusal.{Refusal}
use Rattle.note.specs.Faults.{fault_number, res_of}
use Rattle.note.specs.Limits.{file_limit}
use Rattle.note.specs.Writers.{writer_next, output_after, Draft, record_next, record_output}
use Rattle.stores.specs.Writes.{WriterDid}

-- What `?` gives back is the refusal as it was.
pub given_back : (s : Result ℕ Refusal) (f : Refusal) → IsErrAnd s (λ e. e ≡ f) → bad (fault_number f.fault) f.place ≡ res_of s
given_back (Ok next) f h = absurd h
given_back (Err e) f h = rw h

-- Granted: nothing stood against it.
pub writer_next_ok : (n place fault size : ℕ) {next : ℕ} → writer_next n place fault size ≡ ok next
    → (n ≤ file_limit) × (fault ≡ 0) × (place + size ≤ n)
unfolding writer_next
writer_next_ok n place fault size e =
    let fits : Res ℕ = need (unless (leb (place + size) n) 13) place (ok (place + size)) in
    let limit = need-ok (unless (leb n file_limit) 1) 0 (need fault place fits) e in
    let fields = need-ok fault place fits limit.1 in
    let last = need-ok (unless (leb (place + size) n) 13) place (ok (place + size)) fields.1 in
    (most_passed n file_limit 0 limit.0, fields.0, most_passed (place + size) n 12 last.0)

-- ---- the output

module _ (out : List ℕ) (place : ℕ) {w : Res ℕ} (bytes : List ℕ) where
  -- A refusal changes no byte.
  pub unchanged : {c p : ℕ} → bad c p ≡ w → out ≡ output_after w out place bytes
  unfolding output_after
  unchanged e = rw (← e)

  -- The bytes were stored from the place on.
  pub stored : {next : ℕ} → ok next ≡ w → place + length bytes ≤ length out → sets out place bytes ≡ output_after w out place bytes
  unfolding output_after
  stored e l = rw (← e) (sets-eq bytes out place l ∙ append_assoc (take place out) bytes (drop (place + length bytes) out))

-- Of a refusal the bytes aren't asked: the output is the same whatever they are.
pub written_unasked : (r : Res ℕ) (out : List ℕ) (place : ℕ) (a b : List ℕ) → ((next : ℕ) → r ≡ ok next → a ≡ b)
    → output_after r out place a ≡ output_after r out place b
unfolding output_after
written_unasked (ok next) out place a b h = ap (output_after (ok next) out place) (h next refl)
written_unasked (bad c p) out place a b h = refl

-- ---- one record

-- What a record's writer answered shows of the output, whichever result says it.
module _ (out : List ℕ) (place : ℕ) (w : Draft) where
  -- A refusal changes no byte.
  pub refusal_kept : {c p : ℕ} → bad c p ≡ record_next out place w → out ≡ record_output out place w
  unfolding record_output
  refusal_kept e = unchanged out place w.bytes e

  -- The next place was answered: the output is within the limit, and has room for the record.
  pub next_room : {next : ℕ} → ok next ≡ record_next out place w → (length out ≤ file_limit) × (place + length w.bytes ≤ length out)
  unfolding record_next
  next_room e = let (limit, clean, room) = writer_next_ok (length out) place w.fault (length w.bytes) (sym e) in (limit, room)

  -- The bytes were stored from the place on, or into the rest of the output, lent on from there.
  pub next_laid : {next : ℕ} → ok next ≡ record_next out place w → {after : List ℕ} → after ≡ sets out place w.bytes
      → after ≡ record_output out place w
  unfolding record_output
  next_laid e q = q ∙ stored out place w.bytes e (next_room e).1

  pub next_written : {next : ℕ} → ok next ≡ record_next out place w → (rest : List ℕ)
      → rest ≡ sets (mid_of place (length out - place) out) 0 w.bytes
      → put_mid place (length out - place) out rest ≡ record_output out place w
  next_written e rest q =
      let room : place + length w.bytes ≤ length out = (next_room e).1 in
      next_laid e (part-stored out place (length out - place) w.bytes rest (omega arith) (omega arith) q)

-- Of fields with a fault, the size isn't asked.
size_unasked : (n place fault : ℕ) {f s t : ℕ} → fault ≡ f → (fault ≡ 0 → s ≡ t) → writer_next n place fault s ≡ writer_next n place f t
unfolding writer_next
size_unasked n place zero e h = rw (sym e, h refl)
size_unasked n place (suc fault) e h = rw (sym e)

-- What `granted` was asked, of a record with that fault and, where it has none, that size; and what it answered.
pub record Admitted (out : List ℕ) (place : ℕ) (w : Draft) (r : Result ℕ Refusal) : Type 0 where
  pub fault : ℕ
  pub size : ℕ
  pub fault-is : fault ≡ w.fault
  pub size_is : fault ≡ 0 → length w.bytes ≡ size
  pub said : res_of r ≡ writer_next (length out) place fault size

module _ {out : List ℕ} {place : ℕ} {w : Draft} {r : Result ℕ Refusal} (a : Admitted out place w r) where
  own : res_of r ≡ record_next out place w
  unfolding record_next
  own = a.said ∙ size_unasked (length out) place a.fault a.fault-is (λ z. sym (a.size_is z))

  told : {next : ℕ} → r ≡ Ok next → ok next ≡ record_next out place w
  told n = sym (ap res_of n) ∙ own

  -- A refusal is the writer's own, as `?` gives it back.
  pub refuses : {f : Refusal} (s : Result ℕ Refusal) → r ≡ Err f → IsErrAnd s (λ e. e ≡ f) → WriterDid out place w s out
  refuses {f} s n h =
      let refused = sym (ap res_of n) ∙ own in
      (sym (given_back s f h) ∙ refused, refusal_kept out place w refused)

  -- The next place was answered: the output is within the limit, and has room for the record.
  pub has_room : {next : ℕ} → r ≡ Ok next → (length out ≤ file_limit) × (place + length w.bytes ≤ length out)
  has_room n = next_room out place w (told n)

  -- The record is written where its bytes were stored from the place on, or into the rest of the output, lent on from there.
  pub lays : {next : ℕ} → r ≡ Ok next → {after : List ℕ} → after ≡ sets out place w.bytes → WriterDid out place w (Ok next) after
  lays n e = (told n, next_laid out place w (told n) e)

  pub writes : {next : ℕ} → r ≡ Ok next → (rest : List ℕ) → rest ≡ sets (mid_of place (length out - place) out) 0 w.bytes
      → WriterDid out place w (Ok next) (put_mid place (length out - place) out rest)
  writes n rest q = (told n, next_written out place w (told n) rest q)

-- A call of a writer: the output, the place, the answer and the output afterwards; what was handed on, a fault and bytes, and what was meant.
pub record WriterCall : Type 0 where
  pub out : List ℕ
  pub place : ℕ
  pub answer : Result ℕ Refusal
  pub after : List ℕ
  pub handed : Draft
  pub meant : Draft

module _ (k : WriterCall) where
  abbrev Did : Draft → Type 0
  Did w = WriterDid k.out k.place w k.answer k.after

  -- Of fields with a fault, the bytes aren't asked. So where the fault handed on is the one that was meant, and without a fault the bytes are too,
  -- the call answered and left what was meant. `_` stands for the call: it is found from the premises.
  pub bytes_unasked : k.handed.fault ≡ k.meant.fault → (k.handed.fault ≡ 0 → k.handed.bytes ≡ k.meant.bytes)
      → Did k.handed → Did k.meant
  unfolding record_output record_next
  bytes_unasked e h (told, output) =
      let n : ℕ = length k.out in
      let asked : Res ℕ = writer_next n k.place k.handed.fault (length k.handed.bytes) in
      let same : asked ≡ record_next k.out k.place k.meant = size_unasked n k.place _ e (λ z. ap length (h z)) in (
        told ∙ same,
        output ∙ written_unasked asked k.out k.place _ k.meant.bytes (λ next g. h (writer_next_ok n k.place _ _ g).1)
            ∙ ap (λ (x : Res ℕ). output_after x k.out k.place k.meant.bytes) same,
      )
