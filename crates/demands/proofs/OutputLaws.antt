-- What an output is made of after a call: bytes put where they have room, bytes behind bytes, bytes around bytes; a refusal changes none.
-- The idea: before, here and behind determine a list, so outputs of calls one after the other are put together without a look at a byte.
use mathlib.Core.Path.{◌≡◌, refl, sym, ap, ap₂, ◌∙◌}
use mathlib.Core.List.{List, [], ◌++◌, append_assoc}
use Prim.Native.Nat.{ℕ, ◌+◌, ◌-◌, ◌≤◌, min}
use native.Mathlib.Omega.{arith}
use lib.Dec.{leb}
use lib.ListN.{length, take, drop, length-append, length-take, length-drop, take-append-drop}
use lib.Seq.{take_at, drop_at, drop-drop, take-take, length-take-le}
use Rattle.theory.specs.declared.Order.{Order}
use Rattle.theory.specs.Words.{put}
use Rattle.theory.specs.Structures.{Structure, structure_bytes}
use Rattle.theory.specs.Tests.{Res, ok, bad, unless}
use Rattle.theory.proofs.TestLaws.{need-ok, most_passed, most_passes, ok_inj}
use Rattle.note.specs.Limits.{file_limit}
use Rattle.note.specs.Writers.{writer_next, output_after, contents_of}
use Rattle.demands.specs.Outputs.{Laid}

-- A structure's bytes in front of others: its two words, its body, the others.
pub structure_apart : (o : Order) {B : Type 0} (body_bytes : B → List ℕ) (c : Structure B) (rest : List ℕ)
    → structure_bytes o body_bytes c ++ rest
    ≡ put o 4 c.word ++ (put o 4 (length (body_bytes c.body)) ++ (body_bytes c.body ++ rest))
structure_apart o body_bytes c rest = simp append_assoc

-- ---- what an output is made of

module _ (old new : List ℕ) (place next : ℕ) (bytes : List ℕ) (l : Laid old new place next bytes) where
  -- From the place on: the bytes, and what stood behind.
  pub laid_from : drop place new ≡ bytes ++ drop next old
  laid_from =
      let past = drop-drop (length bytes) place new ∙ ap (λ (n : ℕ). drop n new) (sym l.ends) ∙ l.behind in
      sym (take-append-drop (length bytes) (drop place new)) ∙ ap₂ (λ (x y : List ℕ). x ++ y) l.here past

  pub laid-is : new ≡ take place old ++ (bytes ++ drop next old)
  laid-is = sym (take-append-drop place new) ∙ ap₂ (λ (x y : List ℕ). x ++ y) l.before laid_from

-- Bytes put into the output where they have room.
pub put-laid : (old bytes : List ℕ) (place next : ℕ) → place + length bytes ≤ length old
    → Laid old (output_after (ok next) old place bytes) place (place + length bytes) bytes
unfolding output_after
put-laid old bytes place next room =
    let n : ℕ = length bytes in
    let rest : List ℕ = drop (place + n) old in
    let new : List ℕ = take place old ++ (bytes ++ rest) in
    let front : length (take place old) ≡ place = length-take-le place old (omega arith) in
    let from : drop place new ≡ bytes ++ rest = drop_at (take place old) (bytes ++ rest) place front in
    record {
      before = take_at (take place old) (bytes ++ rest) place front;
      here = ap (take n) from ∙ take_at bytes rest n refl;
      behind = sym (drop-drop n place new) ∙ ap (drop n) from ∙ drop_at bytes rest n refl;
      ends = refl;
      size = omega (arith, length-append (take place old) (bytes ++ rest), length-append bytes rest, length-drop (place + n) old, front);
    }

-- Nothing written.
pub none-laid : (old : List ℕ) (place : ℕ) → Laid old old place place []
none-laid old place = record { before = refl; here = refl; behind = refl; ends = omega arith; size = refl }

-- Bytes behind bytes.
pub both_laid : (old mid new a b : List ℕ) (p q r : ℕ) → q ≤ length old → Laid old mid p q a → Laid mid new q r b
    → Laid old new p r (a ++ b)
both_laid old mid new a b p q r room x y =
    let ends : q ≡ p + length a = x.ends in
    let last : r ≡ q + length b = y.ends in
    let sum : length (a ++ b) ≡ length a + length b = length-append a b in
    let low : p ≤ q = omega arith in
    let past : drop r mid ≡ drop r old =
    ap (λ (n : ℕ). drop n mid) last
    ∙ sym (drop-drop (length b) q mid) ∙ ap (drop (length b)) x.behind ∙ drop-drop (length b) q old
    ∙ ap (λ (n : ℕ). drop n old) (sym last) in
    let front : length (take p old) ≡ p = length-take-le p old (omega arith) in
    let kept : take q mid ≡ take p old ++ a =
    ap (take q) (laid-is old mid p q a x ∙ sym (append_assoc (take p old) a (drop q old)))
    ∙ take_at (take p old ++ a) (drop q old) q (omega (arith, length-append (take p old) a, front)) in
    let rest : List ℕ = drop r old in
    let is : new ≡ take p old ++ ((a ++ b) ++ rest) =
    laid-is mid new q r b y ∙ ap₂ (λ (s t : List ℕ). s ++ (b ++ t)) kept past ∙ simp append_assoc in
    let from : drop p new ≡ (a ++ b) ++ rest = ap (drop p) is ∙ drop_at (take p old) ((a ++ b) ++ rest) p front in
    record {
      before = ap (take p) is ∙ take_at (take p old) ((a ++ b) ++ rest) p front;
      here = ap (take (length (a ++ b))) from ∙ take_at (a ++ b) rest (length (a ++ b)) refl;
      behind = y.behind ∙ past;
      ends = omega arith;
      size = y.size ∙ x.size;
    }

-- Bytes that begin before others and end with them, as a closed container around its contents.
pub around-laid : (old mid new a b : List ℕ) (p q r : ℕ) → p ≤ q → Laid old mid q r a → Laid mid new p r b
    → Laid old new p r b
around-laid old mid new a b p q r low x y = record {
  before = y.before ∙ sym (take-take p q mid low) ∙ ap (take p) x.before ∙ take-take p q old low;
  here = y.here;
  behind = y.behind ∙ x.behind;
  ends = y.ends;
  size = y.size ∙ x.size;
}

-- Bytes that were laid from byte 0 on are within the output.
pub laid-within : (old new bytes : List ℕ) (next : ℕ) → Laid old new 0 next bytes → length bytes ≤ length old
laid-within old new bytes next l =
    let n : length bytes ≡ min (length bytes) (length new) = sym (ap length l.here) ∙ length-take (length bytes) new in
    omega (arith, n, l.size)

-- Bytes that were laid behind eight free ones are what a closing finds between its place and its end.
pub laid-contents : (old new bytes : List ℕ) (place end : ℕ) → Laid old new (place + 8) end bytes
    → (end - (place + 8) ≡ length bytes) × (contents_of new place end ≡ bytes)
laid-contents old new bytes place end l =
    let n : end - (place + 8) ≡ length bytes = omega (arith, l.ends) in
    (n, ap (λ (m : ℕ). take m (drop (place + 8) new)) n ∙ l.here)

-- ---- what an accepted writer says

pub record Granted (n place fault size next : ℕ) : Type 0 where
  pub limit : n ≤ file_limit
  pub fine : fault ≡ 0
  pub room : place + size ≤ n
  pub is : place + size ≡ next

pub granted : (n place fault size next : ℕ) → writer_next n place fault size ≡ ok next → Granted n place fault size next
unfolding writer_next
granted n place fault size next e =
    let (l, e1) = need-ok (unless (leb n file_limit) 1) 0 _ e in
    let (f, e2) = need-ok fault place _ e1 in
    let (r, e3) = need-ok (unless (leb (place + size) n) 13) place _ e2 in
    record { limit = most_passed n file_limit 0 l; fine = f; room = most_passed (place + size) n 12 r; is = ok_inj e3 }

-- And what a writer asks is no more: no fault, and room.
pub grants : (n place fault size : ℕ) → n ≤ file_limit → fault ≡ 0 → place + size ≤ n → writer_next n place fault size ≡ ok (place + size)
unfolding writer_next
grants n place fault size limit fine room = rw (most_passes 1 limit, fine, most_passes 13 room)

-- A refusal leaves the output as it was, whichever call gave it.
pub refusal_keeps : (r : Res ℕ) (out bytes : List ℕ) (place c p : ℕ) → r ≡ bad c p → output_after r out place bytes ≡ out
unfolding output_after
refusal_keeps r out bytes place c p e = rw e
