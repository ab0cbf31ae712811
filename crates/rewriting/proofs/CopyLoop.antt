-- A loop that writes items again, one behind the other: what is known at each turn. Once, for records and for containers.
-- The idea: the part is what was written and what is left; what is left is read as items, so the next one is its own bytes.
use mathlib.Core.Path.{◌≡◌, refl, sym, ap, ap₂, ◌∙◌, subst}
use mathlib.Core.Bool.{false}
use mathlib.Core.List.{List, [], ◌∷◌, ◌++◌, append_assoc, append-nil}
use Prim.Native.Nat.{ℕ, ◌+◌, ◌≤◌, ◌<◌}
use native.Mathlib.Omega.{arith}
use lib.ListN.{length, drop, length-append}
use Rattle.theory.specs.declared.Order.{Order}
use Rattle.theory.specs.Words.{Bytes}
use Rattle.theory.specs.Tests.{Res, ok}
use Rattle.theory.proofs.WordLaws.{Bytes-drop}
use Rattle.theory.proofs.Items.{Item}
use Rattle.theory.proofs.LoopLaws.{whole, Ahead, ahead}
use Rattle.note.specs.Limits.{file_limit}
use Rattle.note.specs.Words.{word}
use Rattle.demands.specs.Outputs.{Laid}
use Rattle.demands.proofs.OutputLaws.{none-laid, both_laid}
use Rattle.structures.specs.declared.Structure.{Structure}
use Rattle.structures.specs.declared.Sequence.{Sequence}
use Rattle.structures.specs.Standing.{stands, Given}
use Rattle.structures.proofs.StandingLaws.{none_over, given_fits, given_some, given_length}
use Rattle.rewriting.specs.Ready.{Ready, Stands}

empty : (bs : List ℕ) → length bs ≤ 0 → bs ≡ []
empty [] l = refl
empty (b ∷ bs) l = absurd (omega arith)

module _ {S A : Type 0} (F : Item S A) (o : Order) where
  -- The items in front of what the iterator has left were written; those that are left are still to be.
  pub record Copying (old : List ℕ) (place : ℕ) (part out : List ℕ) (s : Sequence) : Type 0 where
    pub order : s.order ≡ o
    pub front : List ℕ
    pub splits : part ≡ front ++ s.rest.now
    pub laid : Laid old out place s.at front
    pub state : S
    pub items : List A
    pub reads : whole F state s.at s.rest.now ≡ ok items
    pub bytes : Bytes s.rest.now
    pub room : place + length part ≤ length old
    pub limit : length old ≤ file_limit

  -- Nothing was written: the part is read as items, in whatever way.
  pub begin : (old : List ℕ) {place : ℕ} {part : List ℕ} (s : Sequence) → s.rest.now ≡ part → s.at ≡ place → s.order ≡ o
      → (state : S) {read : ℕ → List ℕ → Res (List A)} → ((at : ℕ) (bs : List ℕ) → read at bs ≡ whole F state at bs)
      → Ready read place part (length old) → Bytes part → Copying old place part old s
  begin old {place} {part} s eb ep eo state same r h = record {
    order = eo;
    front = [];
    splits = sym eb;
    laid = rw ep (none-laid old place);
    state = state;
    items = r.is;
    reads = ap₂ (whole F state) ep eb ∙ sym (same place part) ∙ r.reads;
    bytes = rw eb h;
    room = r.room;
    limit = r.limit;
  }

  module _ {old : List ℕ} {place : ℕ} {part out : List ℕ} {s : Sequence} (i : Copying old place part out s) where
    abbrev rest : List ℕ
    rest = s.rest.now

    -- What is left has room in the output, which is within the limit.
    pub rest_has_room : (s.at + length rest ≤ length out) × (length out ≤ file_limit)
    rest_has_room =
        let sum : length part ≡ length i.front + length rest = ap length i.splits ∙ length-append i.front rest in
        (omega (arith, sum, i.laid.ends, i.laid.size, i.room), omega (arith, i.laid.size, i.limit))

    -- None stands next, and any item's length lies within what is left: all were written.
    pub ended : stands s.order rest ≡ false → (0 < length rest → 8 + word o 4 rest ≤ length rest) → Stands part old place out
    ended none fits =
        let over : length rest ≤ 0 = none_over o rest (ap (λ (q : Order). stands q rest) (sym i.order) ∙ none) fits in
        let all : i.front ≡ part =
        sym (append-nil i.front) ∙ ap (λ (x : List ℕ). i.front ++ x) (sym (empty rest over)) ∙ sym i.splits in
        let ends : s.at ≡ place + length part = i.laid.ends ∙ ap (λ (x : List ℕ). place + length x) all in
        subst (λ (x : List ℕ). Laid old out place (place + length part) x) all
        (subst (λ (n : ℕ). Laid old out place n i.front) ends i.laid)

    -- The item that stands next.
    pub here : 0 < length rest → Ahead F i.state s.at rest i.items
    here l = ahead F i.state s.at rest i.items i.bytes l i.reads

    module _ {t : Sequence} {x : Structure} (g : Given o s x t) where
      abbrev coming : Ahead F i.state s.at rest i.items
      coming = here (given_some g)

      -- It lies in the output.
      pub given_room : x.place + (8 + length x.body.now) ≤ length out
      given_room = omega (arith, g.place_is, given_length g, given_fits g, rest_has_room.0)

      -- It was written too.
      pub next : F.size coming.item ≡ 8 + length x.body.now → (new : List ℕ) {end : ℕ} → Laid out new x.place end (F.enc coming.item)
          → Copying old place part new t
      next size new {end} m =
          let item : A = coming.item in
          let more : List ℕ = F.enc item in
          let n : 8 + word o 4 rest ≡ F.size item = omega (arith, size, given_length g) in
          let at-is : t.at ≡ s.at + F.size item = g.at_is ∙ ap (λ (k : ℕ). s.at + k) n in
          let behind : t.rest.now ≡ drop (F.size item) rest = g.rest_is ∙ ap (λ (k : ℕ). drop k rest) n in
          let own : rest ≡ more ++ drop (F.size item) rest = (F.sound i.state s.at rest item i.bytes coming.reads_item).0 in
          let parts : rest ≡ more ++ t.rest.now = own ∙ ap (λ (x : List ℕ). more ++ x) (sym behind) in
          let ends : end ≡ t.at = omega (arith, m.ends, g.place_is, at-is, F.sizes item) in
          let there : Laid out new s.at t.at more =
          subst (λ (q : ℕ). Laid out new q t.at more) g.place_is (subst (λ (q : ℕ). Laid out new x.place q more) ends m) in
          record {
            order = g.order_is ∙ i.order;
            front = i.front ++ more;
            splits = i.splits ∙ ap (λ (x : List ℕ). i.front ++ x) parts ∙ sym (append_assoc i.front more _);
            laid = both_laid old out new i.front more place s.at t.at (omega (arith, rest_has_room.0, i.laid.size)) i.laid there;
            state = F.step i.state item;
            items = coming.others;
            reads = ap₂ (whole F (F.step i.state item)) at-is behind ∙ coming.reads-others;
            bytes = subst Bytes (sym g.rest_is) (Bytes-drop (8 + word o 4 rest) rest i.bytes);
            room = i.room;
            limit = i.limit;
          }
