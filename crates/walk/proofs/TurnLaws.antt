-- A step at a valid structure: the row that it yields, and where the walk stands then.
-- The idea: the structure's own words say what the step finds, and its body follows its rule, so it holds its row's values.
use mathlib.Core.Path.{◌≡◌, refl, sym, ap, ◌∙◌}
use mathlib.Core.Bool.{true}
use mathlib.Core.List.{List, [], ◌++◌}
use Prim.Native.Nat.{ℕ, ◌+◌, ◌-◌, ◌≤◌, ◌<◌}
use native.Mathlib.Omega.{arith}
use lib.ListN.{length, take, drop}
use Rattle.theory.specs.declared.Order.{Order}
use Rattle.theory.specs.Words.{Fits}
use Rattle.theory.specs.Layout.{child_row}
use Rattle.note.specs.Limits.{file_limit}
use Rattle.note.specs.Words.{word}
use Rattle.note.specs.Records.{Record, Context, record_size, record_bytes, records_bytes}
use Rattle.note.specs.Events.{Container, container_bytes, container_size}
use Rattle.note.specs.Rows.{child_of}
use Rattle.note.specs.declared.WalkerYield.{WalkerYield}
use Rattle.note.specs.declared.WalkerYield.TheVariants.{Row, End}
use Rattle.demands.specs.Valid.{ValidRecord, ValidRecords}
use Rattle.record.proofs.StepLaws.{cut_body}
use Rattle.rows.specs.Values.{has_values, values_of}
use Rattle.rows.proofs.ValueLaws.{rule_has_values}
use Rattle.containers.proofs.RecordLoop.{behind_of, left}
use Rattle.walk.specs.declared.Spot.{Spot}
use Rattle.walk.specs.Steps.{count_in, container_row, stayed, record_step, container_step, step_in, row_yield}
use Rattle.walk.proofs.StepLaws.{header-here, record_here, container_here, container_none}
use Rattle.structures.proofs.StandingLaws.{too_short}
use Rattle.walk.proofs.StepLaws.{Usable, step_header, step_record, step_container}
use Rattle.walk.proofs.FrontLaws.{Front, front, records-counted}

-- Where a walk over an accepted file stands: at `place`, in a container that ends at `end` and has the row number `parent`, after n rows.
abbrev pub here : ℕ → ℕ → ℕ → ℕ → WalkerYield → Spot
here place end parent n y = record { number = 0; fault = 0; place = place; end = end; parent = parent; rows = n; last = y }

module _ (o : Order) (bs : List ℕ) (limit : length bs ≤ file_limit) where
  -- Within the file the numbers are usable: a row has bytes of its own, so no more rows than bytes lie before a place.
  ready : {place end parent n : ℕ} (y : WalkerYield) → n ≤ place → end ≤ length bs → place ≤ length bs
      → Usable bs (here place end parent n y)
  ready y low within inside =
      record { accepted = refl; limit = limit; rows-low = omega arith; end_within = within; place-within = inside }

  -- At a record of its container.
  pub record_turn : (place end parent n : ℕ) (y : WalkerYield) (c : Context) (r : Record) (rest : List ℕ) → ValidRecord o c r
      → take (end - place) (drop place bs) ≡ record_bytes o r ++ rest → 1 ≤ place → n ≤ place → place < end → end ≤ length bs
      → step_in o bs (here place end parent n y) ≡ here (place + record_size r) end parent (n + 1) (row_yield (child_row parent place (child_of o r)))
  unfolding child_of values_of
  record_turn place end parent n y c r rest v part one low inside within =
      let at : Spot = here place end parent n y in
      let p : List ℕ = record_bytes o r ++ rest in
      let w : Front o p r.word r.body rest = front o (λ (b : List ℕ). b) r rest v.kind_fits v.length-fits in
      let held : has_values o r.word (cut_body (length r.body) p) ≡ true =
      rw w.body_is (rule_has_values o r.word r.body v.body-rule) in
      let values : values_of o r.word r.body ≡ values_of o r.word (cut_body (length r.body) p) =
      ap (values_of o r.word) (sym w.body_is) in
      sym (step_record o (ready y low within (omega arith)) (λ z. absurd (omega arith)) inside)
      ∙ ap (λ (x : List ℕ). record_step o x at) part
      ∙ sym (record_here w.found at r.word w.kind-is held (values_of o r.word r.body) values)

  -- At a container: the configuration, at byte 8, or an event.
  pub container_turn : (place end parent n : ℕ) (y : WalkerYield) (inner : Context) (c : Container) (rest : List ℕ)
      → Fits 4 c.word → Fits 4 (length (records_bytes o c.body)) → ValidRecords o inner c.body
      → drop place bs ≡ container_bytes o c ++ rest → 1 ≤ place → n ≤ place → end ≤ place → place ≤ length bs
      → step_in o bs (here place end parent n y)
      ≡ here (place + 8) (place + container_size o c) (n + 1) (n + 1) (container_row place (container_size o c) c.word (length c.body))
  container_turn place end parent n y inner c rest hk hn v part one low inner-end within =
      let at : Spot = here place end parent n y in
      let w = front o (records_bytes o) c rest hk hn in
      let count : count_in o (cut_body (length (records_bytes o c.body)) (container_bytes o c ++ rest)) ≡ length c.body =
      ap (count_in o) w.body_is ∙ records-counted o inner c.body v in
      sym (step_container o (ready y low (omega arith) within) (λ z. absurd (omega arith)) inner-end)
      ∙ ap (λ (x : List ℕ). container_step o x at) (sym (left place bs) ∙ part)
      ∙ sym (container_here w.found at c.word w.kind-is (length c.body) (sym count) _ refl)

  -- At the header.
  pub header-turn : (v : ℕ) → v ≡ word o 4 bs → 8 ≤ length bs → step_in o bs (here 0 0 0 0 End) ≡ here 8 8 0 1 (Row 1 0 8 0 v 0)
  header-turn v e h =
      sym (step_header o (ready End (omega arith) (omega arith) (omega arith)) refl) ∙ sym (header-here o bs (here 0 0 0 0 End) h v e)

  -- At the end of the file.
  pub end_turn : (end parent n : ℕ) (y : WalkerYield) → 1 ≤ length bs → n ≤ length bs → end ≤ length bs
      → step_in o bs (here (length bs) end parent n y) ≡ here (length bs) end parent n End
  unfolding stayed
  end_turn end parent n y one low within =
      let rest : List ℕ = behind_of (length bs) bs in
      let none : length bs - length bs ≡ 0 = omega arith in
      let empty : rest ≡ [] = ap (λ (m : ℕ). take m (drop (length bs) bs)) none in
      sym (step_container o (ready y low within (omega arith)) (λ z. absurd (omega arith)) within)
      ∙ sym (container_none o rest (here (length bs) end parent n y) (too_short o rest (omega (arith, ap length empty))))
