-- One law for each way through record_in, and what a good step shows.
-- The idea: each premise is a test that the code has taken, in the definition's order, so the definition computes to the answer.
use mathlib.Core.Path.{◌≡◌, refl, sym, ap, ◌∙◌, subst}
use mathlib.Core.Bool.{Bool, true, false, false≢true, ◌||◌}
use mathlib.Core.List.{List}
use Prim.Native.Nat.{ℕ, ◌+◌, ◌-◌, ◌≤◌, ◌<◌}
use native.Mathlib.Omega.{arith}
use lib.ListN.{length, take, drop, length-drop}
use lib.Seq.{length-take-le}
use borrow.Author.Tests.{le-leb, lt-leb}
use Rattle.theory.specs.declared.Order.{Order}
use Rattle.theory.specs.Words.{Bytes}
use Rattle.theory.specs.Tests.{Res, ok, bad, need, bind, unless}
use Rattle.theory.proofs.WordLaws.{Bytes-part}
use Rattle.theory.proofs.TestLaws.{need-ok, ok_inj, positive}
use Rattle.theory.proofs.StructureLaws.{opens}
use Rattle.note.specs.Words.{word}
use Rattle.note.specs.Records.{Record, Context, entry, event, alone, is_kind, is_allowed, record_rule, record_head, record_late, read_record}
use Rattle.record.specs.Steps.{Measure, step_of}
use Rattle.note.specs.Faults.{too_short, fault_number}
use Rattle.note.specs.declared.Fault.{Fault}
use Rattle.note.proofs.FaultLaws.{short-some, numbered_fault, fault_undone}

-- A word that names no kind is allowed in no context.
neither : {a b : Bool} → (a || b) ≡ false → (a ≡ false) × (b ≡ false)
neither {a = true} {b} e = absurd (false≢true (sym e))
neither {a = false} {b} e = (refl, e)

pub nowhere : (c : Context) (word : ℕ) → is_kind alone word ≡ false → is_kind c word ≡ false
unfolding is_kind
nowhere entry word e = (neither e).0
nowhere (event seen) word e = (neither e).1
nowhere alone word e = e

-- No fault has the number 0.
pub fault-some : (f : Fault) → fault_number f ≡ 0 → ⊥
fault-some f z =
    let last : numbered_fault 0 ≡ f = ap numbered_fault (sym z) ∙ fault_undone f in
    let none : ◌≡◌ {A = ℕ} 13 0 = ap fault_number last ∙ z in
    omega arith

-- A step that is good: a record's kind word, its body's length.
abbrev pub measure : ℕ → ℕ → Measure
measure k n = record { word = k; length = n }

-- The body of a structure whose length word is n, as code cuts it out of its part.
abbrev pub cut_body : ℕ → List ℕ → List ℕ
cut_body n bs = take (8 + n - 8) (drop 8 bs)

pub cut : (n : ℕ) (bs : List ℕ) → cut_body n bs ≡ take n (drop 8 bs)
cut n bs = let e : 8 + n - 8 ≡ n = omega arith in rw e

pub cut-length : (n : ℕ) (bs : List ℕ) → 8 + n ≤ length bs → length (cut_body n bs) ≡ n
cut-length n bs h = ap length (cut n bs) ∙ length-take-le n (drop 8 bs) (omega (arith, length-drop 8 bs, h))

pub cut-bytes : (n : ℕ) (bs : List ℕ) → Bytes bs → Bytes (cut_body n bs)
cut-bytes n bs = Bytes-part (8 + n - 8) 8 bs

module _ (o : Order) (s : Context) (at : ℕ) (bs : List ℕ) where
  pub short : length bs < 8 → bad 2 at ≡ step_of (read_record o s at bs)
  unfolding read_record step_of
  short h = rw (lt-leb 8 (length bs) h)

  pub unknown : 8 ≤ length bs → (k : ℕ) → k ≡ word o 0 bs → is_kind s k ≡ false → bad 5 at ≡ step_of (read_record o s at bs)
  unfolding read_record step_of
  unknown h k ek f = rw (← ek, le-leb 8 (length bs) h, f)

-- A part whose kind word k is allowed in its context.
pub record Named (o : Order) (s : Context) (bs : List ℕ) (k : ℕ) : Type 0 where
  pub room : 8 ≤ length bs
  pub kind-is : k ≡ word o 0 bs
  pub known : is_kind s k ≡ true

pub long : {o : Order} {s : Context} {bs : List ℕ} {k : ℕ} → Named o s bs k → (at n : ℕ) → n ≡ word o 4 bs → length bs - 8 < n
    → bad 2 at ≡ step_of (read_record o s at bs)
unfolding read_record step_of
long {o} {s} {bs} {k} a at n en l =
    rw (← a.kind-is, ← en, le-leb 8 (length bs) a.room, a.known, lt-leb (8 + n) (length bs) (omega (arith, l, a.room)))

-- And whose length word n leaves its body within the part.
pub record Sized (o : Order) (s : Context) (bs : List ℕ) (k n : ℕ) : Type 0 where
  pub named : Named o s bs k
  pub length-is : n ≡ word o 4 bs
  pub fits : n ≤ length bs - 8

module _ {o : Order} {s : Context} {bs : List ℕ} {k n : ℕ} (a : Sized o s bs k n) (at : ℕ) where
  whole : 8 + n ≤ length bs
  whole = omega (arith, a.fits, a.named.room)

  -- What is read then hangs on the record's place and its body alone.
  sized_reads : read_record o s at bs
      ≡ need (unless (is_allowed s k) 9) at (bind {B = Record} (need (record_rule o k (take n (drop 8 bs))) at (ok (take n (drop 8 bs)))) (λ b.
      ok (record { word = k; body = b })))
  unfolding read_record
  sized_reads = rw (← a.named.kind-is, ← a.length-is, le-leb 8 (length bs) a.named.room, a.named.known, le-leb (8 + n) (length bs) whole)

  pub misplaced : is_allowed s k ≡ false → bad 9 at ≡ step_of (read_record o s at bs)
  unfolding step_of
  misplaced p = rw (sized_reads, p)

  module _ (p : is_allowed s k ≡ true) (c : ℕ) (ec : c ≡ record_rule o k (cut_body n bs)) where
    is : record_rule o k (take n (drop 8 bs)) ≡ c
    is = ap (record_rule o k) (sym (cut n bs)) ∙ sym ec

    pub fault : (c ≡ 0 → ⊥) → bad c at ≡ step_of (read_record o s at bs)
    unfolding step_of
    fault z = rw (sized_reads, p, is, positive c z)

    pub good : c ≡ 0 → ok (measure k n) ≡ step_of (read_record o s at bs)
    unfolding step_of
    good z =
        let size : length (take n (drop 8 bs)) ≡ n = length-take-le n (drop 8 bs) (omega (arith, length-drop 8 bs, whole)) in
        rw (sized_reads, p, is, z, size)

-- A good step: what was read, and what it shows.
pub record Read (o : Order) (s : Context) (at : ℕ) (bs : List ℕ) (k n : ℕ) : Type 0 where
  pub reads : read_record o s at bs ≡ ok (record { word = k; body = take n (drop 8 bs) })
  pub fits : 8 + n ≤ length bs
  pub size : length (take n (drop 8 bs)) ≡ n
  pub kind-is : k ≡ word o 0 bs
  pub length-is : n ≡ word o 4 bs
  pub follows : record_rule o k (take n (drop 8 bs)) ≡ 0

step_good : (r : Res Record) (k n : ℕ) → ok (measure k n) ≡ step_of r → (a : Record) × (r ≡ ok a) × (a.word ≡ k) × (length a.body ≡ n)
unfolding step_of
step_good (ok a) k n e =
    let is : measure k n ≡ measure a.word (length a.body) = ok_inj e in
    (a, refl, sym (ap (λ (m : Measure). m.word) is), sym (ap (λ (m : Measure). m.length) is))
step_good (bad c p) k n e = cc

pub step_bad : (r : Res Record) (c p : ℕ) → bad c p ≡ step_of r → r ≡ bad c p
unfolding step_of
step_bad (ok a) c p e = cc
step_bad (bad c' p') c p e = cc

-- A record that was read is the bytes at the front: its kind word, its length word, its body.
pub read-shows : (o : Order) (s : Context) (at : ℕ) (bs : List ℕ) (a : Record) → read_record o s at bs ≡ ok a
    → Read o s at bs (word o 0 bs) (word o 4 bs) × (a ≡ record { word = word o 0 bs; body = take (word o 4 bs) (drop 8 bs) })
unfolding read_record
read-shows o s at bs a ea =
    let shown = opens o too_short short-some record_head record_late (λ s at b. need (record_rule o s.1 b) at (ok b)) s at bs a ea in
    let m : ℕ = word o 4 bs in
    let b : List ℕ = take m (drop 8 bs) in
    let fits : 8 + m ≤ length bs = shown.fits in
    let (z, eb) = need-ok (record_rule o (word o 0 bs) b) at (ok b) shown.body_is in
    let same : b ≡ a.body = ok_inj eb in
    let size : length b ≡ m = length-take-le m (drop 8 bs) (omega (arith, length-drop 8 bs)) in
    let along : ◌≡◌ {A = Record} a (record { word = word o 0 bs; body = b }) = λ i. record { word = shown.kind-is i; body = sym same i } in
    (record { reads = ea ∙ ap ok along; fits = fits; size = size; kind-is = refl; length-is = refl; follows = z }, along)

pub read-good : (o : Order) (s : Context) (at : ℕ) (bs : List ℕ) (k n : ℕ) → ok (measure k n) ≡ step_of (read_record o s at bs) → Read o s at bs k n
read-good o s at bs k n e =
    let (a, ea, e1, e2) = step_good (read_record o s at bs) k n e in
    let (r, is) = read-shows o s at bs a ea in
    let k-is : word o 0 bs ≡ k = sym (ap (λ (x : Record). x.word) is) ∙ e1 in
    let n-is : word o 4 bs ≡ n = sym r.size ∙ sym (ap (λ (x : Record). length x.body) is) ∙ e2 in
    subst (λ (x : ℕ). Read o s at bs x n) k-is (subst (λ (y : ℕ). Read o s at bs (word o 0 bs) y) n-is r)

-- The body of a good step, as code cuts it.
pub body-follows : (o : Order) (s : Context) (at : ℕ) (bs : List ℕ) (k n : ℕ) → Read o s at bs k n → record_rule o k (cut_body n bs) ≡ 0
body-follows o s at bs k n g = ap (record_rule o k) (cut n bs) ∙ g.follows
