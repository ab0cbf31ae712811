-- From opening, a walk's k-th yield is the table's k-th row, then the end for ever; over a refused file its refusal for ever.
-- The idea: by induction on the tree, from the place where a structure begins the walk yields its rows, and then what lies behind it.
use mathlib.Core.Path.{◌≡◌, refl, sym, ap, ap₂, ◌∙◌, subst}
use mathlib.Core.Bool.{Bool, true, false, cond}
use mathlib.Core.List.{List, [], ◌∷◌, ◌++◌, map, append_assoc}
use Prim.Native.Nat.{ℕ, zero, suc, ◌+◌, ◌-◌, ◌≤◌, ◌<◌}
use native.Mathlib.Nat.{add-zero}
use native.Mathlib.Omega.{arith}
use native.Mathlib.Decide.{dec_lt}
use lib.Dec.{ltb}
use lib.ListN.{length, take, drop, length-append, length-map}
use lib.Seq.{take_at, drop_at, drop-drop}
use borrow.Author.Tests.{lt-ltb, le-ltb, ne_eqb}
use Rattle.theory.specs.declared.Order.{Order}
use Rattle.theory.specs.Words.{Bytes, Fits}
use Rattle.theory.specs.Tests.{Res, ok, bad}
use Rattle.theory.specs.Layout as Layout
use Rattle.theory.specs.Layout.{total, child_rows, rows, row, box}
use Rattle.theory.proofs.StructureLaws.{length-structure}
use Rattle.note.specs.Limits.{file_limit}
use Rattle.note.specs.Answers.{accepted, refused, counts, given_yield}
use Rattle.note.specs.Records.{Record, Context, entry, event, unseen, behind, record_size, record_bytes, records_bytes}
use Rattle.note.specs.Events.{Container, container_bytes, container_size, events_bytes}
use Rattle.note.specs.Files.{Parts, File, order_of, version_of, configuration_of, events_of, header_bytes, file_bytes, read_file}
use Rattle.note.specs.Rows.{child_of, children_of, event_node, nodes_of, rows_of, row_numbers, yield_given, yield_at}
use Rattle.note.specs.declared.WalkerYield.{WalkerYield}
use Rattle.note.specs.declared.WalkerYield.TheVariants.{Row, End, Refused}
use Rattle.demands.specs.Valid.{ValidRecords, ValidEvents}
use Rattle.demands.proofs.Bundles.{header_item}
use Rattle.demands.proofs.Follows.{file_sound, in_its_order}
use Rattle.demands.proofs.RefusalLaws.{refusal-is-numbered}
use Rattle.demands.proofs.RowLaws.{children_total, container_size_lem, file-length}
use Rattle.containers.proofs.EventLoop.{few}
use Rattle.containers.proofs.FileParts.{version-is}
use Rattle.walk.specs.declared.Spot.{Spot}
use Rattle.walk.specs.Steps.{container_row, stayed, step_of, start_of, opened_of, steps_from, row_yield, Yields}
use Rattle.walk.proofs.StepLaws.{step_refused}
use Rattle.walk.proofs.FrontLaws.{contents}
use Rattle.walk.proofs.TurnLaws.{here, record_turn, container_turn, header-turn, end_turn}

-- Behind bytes that lie at a place.
behind_of_lem : (bs : List ℕ) (place n : ℕ) (xs ys : List ℕ) → drop place bs ≡ xs ++ ys → length xs ≡ n → drop (place + n) bs ≡ ys
behind_of_lem bs place n xs ys e l = sym (drop-drop n place bs) ∙ ap (drop n) e ∙ drop_at xs ys n l

module _ (bs : List ℕ) (limit : length bs ≤ file_limit) where
  -- The order that the walk reads in.
  abbrev o : Order
  o = order_of bs

  -- From a spot on, the walk yields these rows, and then the end.
  abbrev From : Spot → List Layout.Row → Type 0
  From at rs = Yields bs (step_of bs at) rs

  -- One row, and then the others.
  first : (at next : Spot) (r : Layout.Row) (rs : List Layout.Row)
      → step_of bs at ≡ next → next.last ≡ row_yield r → From next rs → From at (r ∷ rs)
  unfolding Yields
  first at next r rs e l on = subst (λ (x : Spot). (x.last ≡ row_yield r) × From x rs) (sym e) (l, on)

  -- At the end of the file, the end for ever.
  ended_yields : (end parent n : ℕ) (y : WalkerYield) → 1 ≤ length bs → n ≤ length bs → end ≤ length bs
      → From (here (length bs) end parent n y) []
  unfolding steps_from Yields step_of
  ended_yields end parent n y one low within k =
      ap (λ (x : Spot). (steps_from bs k x).last) (end_turn o bs limit end parent n y one low within) ∙ go k
    where
      go : (k : ℕ) → (steps_from bs k (here (length bs) end parent n End)).last ≡ End
      go zero = refl
      go (suc k) = ap (λ (x : Spot). (steps_from bs k x).last) (end_turn o bs limit end parent n End one low within) ∙ go k

  -- The children of a container, and then what lies behind it.
  children_yield : (c : Context) (rs : List Record) → ValidRecords o c rs
      → (place end parent n : ℕ) (y : WalkerYield) (rest : List ℕ) (later : List Layout.Row)
      → drop place bs ≡ records_bytes o rs ++ rest → place + length (records_bytes o rs) ≡ end → 1 ≤ place → n ≤ place → end ≤ length bs
      → ((z : WalkerYield) → From (here end end parent (n + length rs) z) later)
      → From (here place end parent n y) (child_rows parent place (children_of o rs) ++ later)
  unfolding child_rows child_of step_of
  children_yield c [] v place end parent n y rest later part ends one low within on =
      let p : end ≡ place = omega (arith, ends) in
      subst (λ (q : ℕ). From (here q end parent n y) later) p (subst (λ (m : ℕ). From (here end end parent m y) later) (add-zero n) (on y))
  children_yield c (r ∷ rs) v place end parent n y rest later part ends one low within on =
      let all : List ℕ = records_bytes o (r ∷ rs) in
      let size : length (record_bytes o r) ≡ record_size r = length-structure o (λ (b : List ℕ). b) r in
      let sizes : length all ≡ record_size r + length (records_bytes o rs) =
      omega (arith, length-append (record_bytes o r) (records_bytes o rs), size) in
      let left_is : end - place ≡ length all = omega (arith, ends) in
      let mine : take (end - place) (drop place bs) ≡ all = ap₂ take left_is part ∙ take_at all rest _ refl in
      let others : drop (place + record_size r) bs ≡ records_bytes o rs ++ rest =
      behind_of_lem bs place (record_size r) (record_bytes o r) _ (part ∙ append_assoc (record_bytes o r) (records_bytes o rs) rest) size in
      let number_is : n + length (r ∷ rs) ≡ n + 1 + length rs = omega arith in
      let on-later : (z : WalkerYield) → From (here end end parent (n + 1 + length rs) z) later =
      λ z. subst (λ (m : ℕ). From (here end end parent m z) later) number_is (on z) in
      first _ _ _ _
      (record_turn o bs limit place end parent n y c r (records_bytes o rs) v.0 mine one low (omega (arith, sizes, ends)) within) refl
      (children_yield (behind c r.word) rs v.1 _ _ _ _ _ rest later
      others (omega (arith, sizes, ends)) (omega arith) (omega arith) within on-later)

  -- A container: its row, its children's, and then those of the nodes behind it.
  container_yields : (inner : Context) (c : Container)
      → Fits 4 c.word → Fits 4 (length (records_bytes o c.body)) → ValidRecords o inner c.body
      → (place end parent n : ℕ) (y : WalkerYield) (rest : List ℕ) (k a b : ℕ) (ns : List Layout.Node)
      → drop place bs ≡ container_bytes o c ++ rest → 8 ≤ place → n ≤ place → end ≤ place → place + container_size o c ≤ length bs
      → container_row place (container_size o c) c.word (length c.body) ≡ Row k place (container_size o c) 0 a b
      → (let next = place + container_size o c in let count = n + 1 + length c.body in
      (z : WalkerYield) → From (here next next (n + 1) count z) (rows (count + 1) next ns))
      → From (here place end parent n y) (rows (n + 1) place (box k a b (children_of o c.body) ∷ ns))
  unfolding rows step_of
  container_yields inner c hk hn v place end parent n y rest k a b ns part one low before within row_is on =
      let ch : List Layout.Child = children_of o c.body in
      let next : ℕ = place + container_size o c in
      let count : ℕ = n + 1 + length c.body in
      let size_is : container_size o c ≡ 8 + total ch = omega (arith, children_total o c.body) in
      let number_is : count + 1 ≡ n + 1 + 1 + length ch = omega (arith, length-map c.body (child_of o)) in
      let inside : drop (place + 8) bs ≡ records_bytes o c.body ++ rest =
      sym (drop-drop 8 place bs) ∙ ap (drop 8) part ∙ contents o (records_bytes o) c rest in
      let later-is : rows (count + 1) next ns ≡ rows (n + 1 + 1 + length ch) (place + (8 + total ch)) ns =
      ap₂ (λ (i m : ℕ). rows i (place + m) ns) number_is size_is in
      first _ _ _ _ (container_turn o bs limit place end parent n y inner c rest hk hn v part (omega arith) low before (omega arith))
      (row_is ∙ ap (λ (m : ℕ). Row k place m 0 a b) size_is)
      (children_yield inner c.body v _ _ _ _ _ rest _ inside (omega arith) (omega arith) (omega arith) within
      (λ z. subst (From (here next next (n + 1) count z)) later-is (on z)))

  -- Events up to the end of the file.
  events_yield : (es : List Container) → ValidEvents o es → (place end parent n : ℕ) (y : WalkerYield)
      → drop place bs ≡ events_bytes o es → place + length (events_bytes o es) ≡ length bs → 9 ≤ place → n ≤ place → end ≤ place
      → From (here place end parent n y) (rows (n + 1) place (map (event_node o) es))
  unfolding rows container_row
  events_yield [] v place end parent n y part ends one low before =
      let p : length bs ≡ place = omega (arith, ends) in
      subst (λ (q : ℕ). From (here q end parent n y) []) p (ended_yields end parent n y (omega arith) (omega arith) (omega arith))
  events_yield (e ∷ es) v place end parent n y part ends one low before =
      let size : length (container_bytes o e) ≡ container_size o e = container_size_lem o e in
      let sizes : length (events_bytes o (e ∷ es)) ≡ container_size o e + length (events_bytes o es) =
      omega (arith, length-append (container_bytes o e) (events_bytes o es), size) in
      let others : drop (place + container_size o e) bs ≡ events_bytes o es =
      behind_of_lem bs place (container_size o e) (container_bytes o e) (events_bytes o es) part size in
      container_yields (event unseen) e v.0.word_fits v.0.length-fits v.0.records-valid
      place end parent n y (events_bytes o es) _ _ _ (map (event_node o) es)
      part (omega arith) low before (omega (arith, ends, sizes)) (rw (ne_eqb place 8 (λ z. absurd (omega arith))))
      (λ z. events_yield es v.1 _ _ _ _ z others (omega (arith, ends, sizes)) (omega arith) (omega (arith, few o e.body)) (omega arith))

-- An accepted file: the walk yields its rows, and then the end.
parts_yield : (bs : List ℕ) (p : Parts) → Bytes bs → read_file bs ≡ ok (order_of bs, p) → Yields bs (opened_of bs) (rows_of (order_of bs, p))
unfolding opened_of start_of rows_of nodes_of rows container_row step_of
parts_yield bs p h e =
    let o : Order = order_of bs in
    let f : File = (o, p) in
    let (is, v) = file_sound bs f h e in
    let c : Container = configuration_of f in
    let es : List Container = events_of f in
    let length-is : length bs ≡ length (file_bytes f) = ap length is in
    let limit : length bs ≤ file_limit = omega (arith, length-is, v.within-limit) in
    let sized : length bs ≡ 8 + (container_size o c + length (events_bytes o es)) = length-is ∙ file-length f in
    let header : length (header_bytes o (version_of f)) ≡ 8 = sym ((header_item o).sizes (version_of f)) in
    let behind8 : drop 8 bs ≡ container_bytes o c ++ events_bytes o es = ap (drop 8) is ∙ drop_at (header_bytes o (version_of f)) _ 8 header in
    let others : drop (8 + container_size o c) bs ≡ events_bytes o es =
    behind_of_lem bs 8 (container_size o c) (container_bytes o c) (events_bytes o es) behind8 (container_size_lem o c) in
    let kind_fits : Fits 4 c.word = rw v.configuration-word (omega arith) in
    rw e (first bs limit _ _ _ _ (header-turn o bs limit (version_of f) (sym (version-is bs f h e)) (omega (arith, sized))) refl
    (container_yields bs limit entry c kind_fits v.configuration-fits v.entries-valid _ _ _ _ _ (events_bytes o es) _ _ _ (map (event_node o) es)
    behind8 (omega arith) (omega arith) (omega arith) (omega (arith, sized)) refl
    (λ z. events_yield bs limit es v.events-valid _ _ _ _ z
    others (omega (arith, sized)) (omega arith) (omega (arith, few o c.body)) (omega arith))))

pub file_yields : (bs : List ℕ) (f : File) → Bytes bs → read_file bs ≡ ok f → Yields bs (opened_of bs) (rows_of f)
file_yields bs f h e =
    let same : f ≡ (order_of bs, f.1) = in_its_order bs f e in
    subst (λ (g : File). Yields bs (opened_of bs) (rows_of g)) (sym same) (parts_yield bs f.1 h (e ∙ ap ok same))

-- ---- the k-th yield

-- What a walk yields after k steps, of a walk whose yields are known.
kth : (bs : List ℕ) (rs : List Layout.Row) (at : Spot) (k : ℕ) → Yields bs at rs
    → (steps_from bs k at).last ≡ cond (ltb k (length rs)) (row_yield (row rs k)) End
unfolding Yields steps_from
kth bs [] at k h = h k ∙ rw (le-ltb k 0 (omega arith))
kth bs (r ∷ rs) at zero h = h.0 ∙ rw (lt-ltb 0 (suc (length rs)) (omega arith))
kth bs (r ∷ rs) at (suc k) h = kth bs rs (step_of bs at) k h.1 ∙ rw (ltb-suc k (length rs))
  where
    ltb-suc : (a b : ℕ) → ltb a b ≡ ltb (suc a) (suc b)
    ltb-suc a b = elim (dec_lt a b) [
      | yes h ↦ lt-ltb a b h ∙ sym (lt-ltb (suc a) (suc b) (omega arith))
      | no h ↦ le-ltb a b (omega arith) ∙ sym (le-ltb (suc a) (suc b) (omega arith))
    ]

given-row : (b : Bool) (r : Layout.Row) → given_yield (cond b (row_yield r) End) ≡ cond b (accepted (counts (row_numbers r))) (accepted [])
unfolding given_yield
given-row true r = refl
given-row false r = refl

-- Over a refused file a walk never moves.
abbrev over : ℕ → ℕ → WalkerYield → Spot
over c p y = record { number = c; fault = p; place = 0; end = 0; parent = 0; rows = 0; last = y }

refused-turn : (bs : List ℕ) (c p : ℕ) (y : WalkerYield) → 0 < c → step_of bs (over c p y) ≡ over c p (Refused c p)
unfolding stayed step_of
refused-turn bs c p y z = sym (step_refused (order_of bs) bs (over c p y) (λ e. absurd (omega arith)))

refused-stays : (bs : List ℕ) (c p : ℕ) → 0 < c → (k : ℕ) → (steps_from bs k (over c p (Refused c p))).last ≡ Refused c p
unfolding steps_from
refused-stays bs c p z zero = refl
refused-stays bs c p z (suc k) =
    ap (λ (x : Spot). (steps_from bs k x).last) (refused-turn bs c p (Refused c p) z) ∙ refused-stays bs c p z k

refused_yield : (bs : List ℕ) (c p : ℕ) → read_file bs ≡ bad c p → (k : ℕ)
    → given_yield (steps_from bs k (opened_of bs)).last ≡ refused c p
unfolding given_yield opened_of start_of
refused_yield bs c p e k =
    let z : 0 < c = refusal-is-numbered bs c p e in
    rw e (ap (λ (x : Spot). given_yield (steps_from bs k x).last) (refused-turn bs c p End z) ∙ ap given_yield (refused-stays bs c p z k))

-- The walker's theorem: from opening, k steps on, the yield is the definition's k-th: the table's k-th row, then the end for ever; over
-- a refused file that refusal each time.
pub walk_yields : (bs : List ℕ) (k : ℕ) → Bytes bs → given_yield (steps_from bs k (opened_of bs)).last ≡ yield_at bs k
unfolding yield_at
walk_yields bs k h = go (read_file bs) refl
  where
    go : (r : Res File) → read_file bs ≡ r → given_yield (steps_from bs k (opened_of bs)).last ≡ yield_given k (read_file bs)
    go (ok f) e =
        ap given_yield (kth bs (rows_of f) (opened_of bs) k (file_yields bs f h e))
        ∙ given-row (ltb k (length (rows_of f))) (row (rows_of f) k) ∙ ap (yield_given k) (sym e)
    go (bad c p) e = refused_yield bs c p e k ∙ ap (yield_given k) (sym e)

-- One more step is one step on.
pub steps_more : (bs : List ℕ) (k : ℕ) (at : Spot) → step_of bs (steps_from bs k at) ≡ steps_from bs (suc k) at
unfolding steps_from
steps_more bs zero at = refl
steps_more bs (suc k) at = steps_more bs k (step_of bs at)
