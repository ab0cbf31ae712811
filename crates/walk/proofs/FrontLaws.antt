-- What stands at the front of a structure's bytes, and how many structures its contents are by their length words alone.
-- The idea: a structure's bytes are its two words and its body, whatever follows.
use mathlib.Core.Path.{◌≡◌, refl, sym, ap, ◌∙◌}
use mathlib.Core.List.{List, [], ◌∷◌, ◌++◌}
use Prim.Native.Nat.{ℕ, suc, ◌+◌, ◌≤◌}
use native.Mathlib.Omega.{arith}
use lib.ListN.{length, take, drop, length-append}
use lib.Seq.{take_at, drop_at, drop-drop}
use borrow.Author.Tests.{le-leb}
use Rattle.theory.specs.declared.Order.{Order}
use Rattle.theory.specs.Words.{Fits, put}
use Rattle.theory.specs.Structures.{Structure, structure_bytes}
use Rattle.theory.proofs.WordLaws.{word_after_put}
use Rattle.theory.proofs.StructureLaws.{second_word, length_two, drop-two}
use Rattle.note.specs.Words.{word}
use Rattle.note.specs.Records.{Record, Context, behind, record_bytes, records_bytes}
use Rattle.demands.specs.Valid.{ValidRecords}
use Rattle.demands.proofs.OutputLaws.{structure_apart}
use Rattle.record.proofs.StepLaws.{cut_body, cut}
use Rattle.walk.specs.Steps.{count_in}
use Rattle.walk.proofs.StepLaws.{none_counted, counted_on, Found}
use Rattle.structures.proofs.StandingLaws.{too_short, long_enough}

-- The bytes p begin with a structure's two words and its body, and go on with `rest`.
pub record Front (o : Order) (p : List ℕ) (kind : ℕ) (body rest : List ℕ) : Type 0 where
  pub found : Found o p (length body)
  pub kind-is : kind ≡ word o 0 p
  pub body_is : cut_body (length body) p ≡ body
  pub behind-is : drop (8 + length body) p ≡ rest
  pub size : length p ≡ 8 + length body + length rest

module _ (o : Order) {B : Type 0} (body_bytes : B → List ℕ) (c : Structure B) (rest : List ℕ) where
  abbrev body_of : List ℕ
  body_of = body_bytes c.body

  abbrev bytes : List ℕ
  bytes = structure_bytes o body_bytes c ++ rest

  -- Behind a structure's two words: its body, and what follows.
  pub contents : drop 8 bytes ≡ body_of ++ rest
  contents = ap (drop 8) (structure_apart o body_bytes c rest) ∙ drop-two o c.word (length body_of) (body_of ++ rest)

  pub front : Fits 4 c.word → Fits 4 (length body_of) → Front o bytes c.word body_of rest
  front hk hn =
      let n : ℕ = length body_of in
      let shape = structure_apart o body_bytes c rest in
      let en : word o 4 bytes ≡ n = ap (word o 4) shape ∙ second_word o c.word n (body_of ++ rest) hn in
      let size : length bytes ≡ 8 + n + length rest =
      omega (arith, ap length shape, length_two o c.word n (body_of ++ rest), length-append body_of rest) in
      let fits : 8 + word o 4 bytes ≤ length bytes = omega (arith, en, size) in
      record {
        found = record { is-here = long_enough o bytes (omega (arith, size)) ∙ le-leb (8 + word o 4 bytes) (length bytes) fits; length-is = sym en };
        kind-is = sym (ap (word o 0) shape ∙ word_after_put o 4 c.word (put o 4 n ++ (body_of ++ rest)) hk);
        body_is = cut n bytes ∙ ap (take n) contents ∙ take_at body_of rest n refl;
        behind-is = sym (drop-drop n 8 bytes) ∙ ap (drop n) contents ∙ drop_at body_of rest n refl;
        size = size;
      }

-- Valid records are as many structures by their length words.
pub records-counted : (o : Order) (c : Context) (rs : List Record) → ValidRecords o c rs → count_in o (records_bytes o rs) ≡ length rs
records-counted o c [] v = none_counted o [] (too_short o [] (omega arith))
records-counted o c (r ∷ rs) v =
    let p : List ℕ = record_bytes o r ++ records_bytes o rs in
    let w = front o (λ (b : List ℕ). b) r (records_bytes o rs) v.0.kind_fits v.0.length-fits in
    let on : drop (8 + word o 4 p) p ≡ records_bytes o rs = ap (λ (n : ℕ). drop (8 + n) p) (sym w.found.length-is) ∙ w.behind-is in
    counted_on o p w.found.is-here ∙ ap (λ (x : List ℕ). suc (count_in o x)) on ∙ ap suc (records-counted o (behind c r.word) rs v.1)
