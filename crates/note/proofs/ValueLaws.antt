-- What Record, Setting and a row give for each kind, by the places of the words: the row kind, then the fields in word order. So two exchanged
-- fields, or one read from another place, show.
use Prim.Native.Nat.{ℕ, ◌+◌, ◌*◌, ◌≤◌}
use native.Mathlib.Omega.{arith}
use mathlib.Core.Path.{◌≡◌, refl, ap, ap₂}
use mathlib.Core.List.{List, [], ◌∷◌}
use lib.ListN.{length}
use Rattle.theory.specs.declared.Order.{Order}
use Rattle.theory.specs.Words.{Bytes}
use Rattle.theory.specs.Tests.{ok}
use Rattle.theory.specs.Layout.{Child}
use Rattle.note.specs.Words.{word, signed, unsigned}
use Rattle.note.specs.Answers.{accepted, whole, count, counts, wholes}
use Rattle.note.specs.Phonon.{phonon_of, phonon_bytes}
use Rattle.note.specs.Charge.{charge_of, charge_bytes}
use Rattle.note.specs.Administrative.{administrative_of, administrative_bytes}
use Rattle.note.specs.Trace.{trace_of, trace_bytes}
use Rattle.note.specs.History.{width_at, width_of, end_at, section_values, section_of, history_of, history_bytes}
use Rattle.note.specs.declared.Gps.{Gps}
use Rattle.note.specs.Gps.{gps_of, gps_bytes}
use Rattle.note.specs.Trigger.{trigger_of, trigger_bytes}
use Rattle.note.specs.Tlb.{tlb_of, tlb_bytes}
use Rattle.note.specs.Records.{kind_of}
use Rattle.note.specs.Rows.{child_of}
use Rattle.note.specs.Writers.{record_again}
use Rattle.note.specs.Calls.{record_given, phonon_setting, charge_setting, setting_given}
use Rattle.note.specs.Places.{structure_with, words_from, signed_from, unit_value, plain_value, child_from, times_in, width_in, section_end}
use Rattle.note.specs.Rules.{GpsMeans}
use Rattle.note.proofs.GpsRuleLaws.{means_fields}
use Rattle.note.proofs.SignedLaws.{word-again}

module _ (o : Order) (place : ℕ) (b : List ℕ) where
  pub phonon-values : record_given o place (ok (structure_with 0x00010001 b))
      ≡ accepted (count 3 ∷ wholes (signed_from o b (0 ∷ 4 ∷ 8 ∷ 12 ∷ 16 ∷ 20 ∷ 24 ∷ 28 ∷ 32 ∷ 36 ∷ 40 ∷ [])))
  unfolding kind_of phonon_of
  phonon-values = refl

  pub charge-values : record_given o place (ok (structure_with 0x00010002 b))
      ≡ accepted (count 4 ∷ wholes (signed_from o b (0 ∷ 4 ∷ 8 ∷ 12 ∷ 16 ∷ 20 ∷ 24 ∷ 28 ∷ [])))
  unfolding kind_of charge_of
  charge-values = refl

  pub administrative-values : record_given o place (ok (structure_with 0x02 b))
      ≡ accepted (count 6 ∷ counts (words_from o b (0 ∷ 4 ∷ 8 ∷ 12 ∷ 16 ∷ 20 ∷ [])))
  unfolding kind_of administrative_of
  administrative-values = refl

  -- Address, digitizer channel, code, t0, delta t, n.
  pub trace-values : record_given o place (ok (structure_with 0x11 b))
      ≡ accepted (count 7 ∷ count (word o 8 b) ∷ count (word o 12 b) ∷ count (word o 16 b) ∷ whole (signed (word o 28 b))
      ∷ count (word o 32 b) ∷ count (word o 44 b) ∷ [])
  unfolding kind_of trace_of
  trace-values = refl

  -- Of each section the count, where the times start, the width, where the masks start; the body stands 8 bytes behind the place.
  pub history-values : record_given o place (ok (structure_with 0x21 b))
      ≡ accepted (count 8 ∷ counts (
      times_in o 0 b ∷ (place + 8 + 4) ∷ width_in o 0 b ∷ (place + 8 + (0 + 4 + 4 * times_in o 0 b + 4))
      ∷ times_in o (section_end o 0 b) b ∷ (place + 8 + (section_end o 0 b + 4))
      ∷ width_in o (section_end o 0 b) b ∷ (place + 8 + (section_end o 0 b + 4 + 4 * times_in o (section_end o 0 b) b + 4)) ∷ []))
  unfolding kind_of width_at width_of end_at section_values
  history-values = refl

  -- The seven numbers that the digits spell.
  pub gps-values : (f : Gps) → GpsMeans o b f → record_given o place (ok (structure_with 0x60 b))
      ≡ accepted (count 9 ∷ counts (f.year ∷ f.day ∷ f.status ∷ f.hour ∷ f.minute ∷ f.second ∷ f.tenths ∷ []))
  unfolding kind_of
  gps-values f m =
      ap (λ (g : Gps). accepted (count 9 ∷ counts (g.year ∷ g.day ∷ g.status ∷ g.hour ∷ g.minute ∷ g.second ∷ g.tenths ∷ [])))
      (means_fields o b f m)

  -- The six masks behind the time.
  pub trigger-values : record_given o place (ok (structure_with 0x80 b))
      ≡ accepted (count 10 ∷ counts (words_from o b (4 ∷ 8 ∷ 12 ∷ 16 ∷ 20 ∷ 24 ∷ [])))
  unfolding kind_of trigger_of
  trigger-values = refl

  pub tlb-values : record_given o place (ok (structure_with 0x81 b))
      ≡ accepted (count 11 ∷ counts (words_from o b (0 ∷ 4 ∷ 8 ∷ 12 ∷ 16 ∷ 20 ∷ [])))
  unfolding kind_of tlb_of
  tlb-values = refl

  -- Setting: gain, QET bias, SQUID bias and lockpoint in working units, and of a charge entry the gain alone; the rest whole.
  pub phonon_setting_values : setting_given o place (ok (structure_with 0x00010001 b))
      ≡ accepted (count 3 ∷ plain_value o b 0 ∷ plain_value o b 4
      ∷ unit_value o b 8 ∷ unit_value o b 12 ∷ unit_value o b 16 ∷ unit_value o b 20
      ∷ plain_value o b 24 ∷ plain_value o b 28 ∷ plain_value o b 32 ∷ plain_value o b 36 ∷ plain_value o b 40 ∷ [])
  unfolding phonon_setting phonon_of
  phonon_setting_values = refl

  pub charge_setting_values : setting_given o place (ok (structure_with 0x00010002 b))
      ≡ accepted (count 4 ∷ plain_value o b 0 ∷ plain_value o b 4 ∷ unit_value o b 8
      ∷ plain_value o b 12 ∷ plain_value o b 16 ∷ plain_value o b 20 ∷ plain_value o b 24 ∷ plain_value o b 28 ∷ [])
  unfolding charge_setting charge_of
  charge_setting_values = refl

-- ---- rows

module _ (o : Order) (b : List ℕ) where
  -- A signed word's bits are the word itself.
  pub entry-rows : Bytes b → 8 ≤ length b
      → (child_of o (structure_with 0x00010001 b) ≡ child_from o b 3 0 4) × (child_of o (structure_with 0x00010002 b) ≡ child_from o b 4 0 4)
  unfolding child_of kind_of phonon_of charge_of
  entry-rows h l =
      let code : unsigned (signed (word o 0 b)) ≡ word o 0 b = word-again o 0 b h (omega arith) in
      let tower : unsigned (signed (word o 4 b)) ≡ word o 4 b = word-again o 4 b h (omega arith) in (
        ap₂ {C = Child} (λ (x y : ℕ). record { kind = 3; size = 8 + length b; one = x; two = y }) code tower,
        ap₂ {C = Child} (λ (x y : ℕ). record { kind = 4; size = 8 + length b; one = x; two = y }) code tower,
      )

  -- History: nvt, and ntt, which stands behind the veto section.
  pub record_rows_lem : (child_of o (structure_with 0x02 b) ≡ child_from o b 6 8 12) × (child_of o (structure_with 0x11 b) ≡ child_from o b 7 16 44)
      × (child_of o (structure_with 0x21 b) ≡ child_from o b 8 0 (section_end o 0 b)) × (child_of o (structure_with 0x60 b) ≡ child_from o b 9 0 4)
      × (child_of o (structure_with 0x80 b) ≡ child_from o b 10 4 8) × (child_of o (structure_with 0x81 b) ≡ child_from o b 11 0 4)
  unfolding child_of kind_of administrative_of trace_of history_of section_of trigger_of tlb_of end_at width_at width_of
  record_rows_lem = (refl, refl, refl, refl, refl, refl)

  -- Rewrite makes each record again from its fields: the body that its kind's writer makes of them.
  pub rewritten-fields : (record_again o (structure_with 0x00010001 b) ≡ structure_with 0x00010001 (phonon_bytes o (phonon_of o b)))
      × (record_again o (structure_with 0x00010002 b) ≡ structure_with 0x00010002 (charge_bytes o (charge_of o b)))
      × (record_again o (structure_with 0x02 b) ≡ structure_with 0x02 (administrative_bytes o (administrative_of o b)))
      × (record_again o (structure_with 0x11 b) ≡ structure_with 0x11 (trace_bytes o (trace_of o b)))
      × (record_again o (structure_with 0x21 b) ≡ structure_with 0x21 (history_bytes o (history_of o b)))
      × (record_again o (structure_with 0x60 b) ≡ structure_with 0x60 (gps_bytes o (gps_of o b)))
      × (record_again o (structure_with 0x80 b) ≡ structure_with 0x80 (trigger_bytes o (trigger_of o b)))
      × (record_again o (structure_with 0x81 b) ≡ structure_with 0x81 (tlb_bytes o (tlb_of o b)))
  unfolding record_again kind_of
  rewritten-fields = (refl, refl, refl, refl, refl, refl, refl, refl)
