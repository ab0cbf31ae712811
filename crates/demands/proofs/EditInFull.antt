-- The edit, said of what a reader has: an accepted file, a trace's row, a byte inside its samples.
-- The idea: the row gives the trace's spot (SpotLaws), the spot gives the edit (EditLaws), and the places agree.
use mathlib.Core.Path.{◌≡◌, refl, sym, ap, ◌∙◌, subst}
use mathlib.Core.Logic.{◌≢◌}
use mathlib.Core.List.{List, [], ◌∷◌}
use Prim.Native.Nat.{ℕ, ◌+◌, ◌-◌, ◌/◌, ◌≤◌, ◌<◌}
use native.Mathlib.Decide.{ℕ_discrete}
use native.Mathlib.Omega.{arith}
use lib.ListN.{length, take, drop, get_or, set, length-set}
use lib.Seq.{get_or-set_other}
use Rattle.theory.specs.declared.Order.{Order}
use Rattle.theory.specs.Words.{Bytes}
use Rattle.theory.specs.Tests.{ok}
use Rattle.theory.specs.Layout.{row, own, Owns}
use Rattle.theory.proofs.FreeLaws.{Spot, plug}
use Rattle.note.specs.Words.{byte_at}
use Rattle.note.specs.Answers.{accepted, counts}
use Rattle.note.specs.Records.{Record, record_size}
use Rattle.note.specs.Events.{Container}
use Rattle.note.specs.Files.{File, order_in, version_of, configuration_of, read_file}
use Rattle.note.specs.Rows.{rows_of, is_box}
use Rattle.note.specs.Calls.{record_given, setting_given, sample_given, record_at, setting_at, samples_part, samples_at, sample_at}
use Rattle.demands.specs.Edited.{start_of, offset, pair, replaced, SampleEdited, Edited}
use Rattle.demands.proofs.Follows.{file_sound}
use Rattle.demands.proofs.RowLaws.{byte_has_one_row}
use Rattle.demands.proofs.PartLaws.{samples_stay, lists_stay, trace_lists}
use Rattle.demands.proofs.SpotLaws.{place_of, traces_found}
use Rattle.demands.proofs.EditLaws.{Edit, old, new, i, at, read-old, read-new, edited-rows, trace-old, other_row}
use Rattle.demands.proofs.EditLaws.{
  same-fields,
  same_setting,
  other_sample,
  held-before,
  held_after,
  held-differs,
  part-before,
  part_after,
  bytes_after,
}

module _ {o : Order} {bs : List ℕ} {v : ℕ} {c : Container} {p : Spot} {t : Record} {j m x : ℕ}
    (d : Edit bs (o, (v, (c, plug p t))) p t j m x) where
  -- The byte, counted from the first sample's.
  same-offset : offset (at d j) (i d) ≡ m - 48
  same-offset = omega (arith, d.start, d.from)

  -- The part that Samples gives, and its bytes.
  part_there : samples_part o bs (at d j) ≡ (at d j + 56, (row (rows_of (old d)) j).whole - 56)
  part_there =
      let size : length t.body - 48 ≡ (row (rows_of (old d)) j).whole - 56 = omega (arith, d.whole) in
      part-before d j d.below refl ∙ ap (λ (s : ℕ). (at d j + 56, s)) size

  bytes_there : samples_at o bs (at d j) ≡ take ((row (rows_of (old d)) j).whole - 56) (drop (at d j + 56) bs)
  unfolding samples_at
  bytes_there = ap (λ (s : ℕ × ℕ). take s.1 (drop s.0 bs)) part_there

  -- What is read of the trace whose byte it is.
  trace-edited : SampleEdited o bs (at d j) (row (rows_of (old d)) j).whole (i d) x
  trace-edited =
      let start : ℕ = at d j in
      let bs' : List ℕ = set bs (i d) x in
      let two : ℕ → ℕ = λ z. pair o bs (start + 56) (byte_at o z / 2 + 1) in
      let place : start + 56 + (m - 48) ≡ i d = omega (arith, d.start, d.from) in
      record {
        was =
            subst (λ (z : ℕ). sample_at o bs start (byte_at o z / 2 + 1) ≡ accepted (counts (two z ∷ []))) (sym same-offset)
            (held-before d j d.below refl);
        becomes =
            subst (λ (z : ℕ). sample_at o bs' start (byte_at o z / 2 + 1) ≡ accepted (counts (replaced (byte_at o z) x (two z) ∷ [])))
            (sym same-offset)
            (held_after d j d.below refl);
        differs = λ differs.
            subst (λ (z : ℕ). replaced (byte_at o z) x (two z) ≢ two z) (sym same-offset)
            (held-differs d j d.below refl (λ e. differs (e ∙ ap (λ (z : ℕ). get_or bs z 0) place)));
        part = part_there;
        bytes = bytes_there;
        part_stays = part_after d j d.below refl ∙ sym (part-before d j d.below refl);
        part_bytes =
            subst (λ (z : ℕ). samples_at o bs' start ≡ set (samples_at o bs start) z x) (sym same-offset) (bytes_after d j d.below refl);
      }

  -- another row's bytes are not row j's
  elsewhere_owned : (k n : ℕ) → k < length (rows_of (old d)) → k ≢ j → n < own is_box (row (rows_of (old d)) k) → at d k + n ≢ i d
  elsewhere_owned k n l other z e =
      let owns-k = subst (λ (z : ℕ). Owns is_box (row (rows_of (old d)) k) z) e (omega arith, omega arith) in
      let mine : own is_box (row (rows_of (old d)) j) ≡ record_size t = rw d.trace d.whole in
      let owns-j : Owns is_box (row (rows_of (old d)) j) (i d) = (omega (arith, d.start), omega (arith, mine, d.start, d.inside)) in
      other (byte_has_one_row bs (old d) d.bytes (read-old d) (i d) k j l d.below owns-k owns-j)

  -- The demand, of a trace at its spot.
  edit_spot : Edited o bs (old d) j (i d) x
  unfolding record_at setting_at sample_at
  edit_spot = record {
    file = new d;
    accepted = read-new d;
    same_rows = edited-rows d;
    sample_changes = trace-edited;
    other_samples_stay = λ k n l other. elim (ℕ_discrete k j) [
      | yes e ↦ other_sample d k l e n (λ q. other (e, q ∙ ap (λ (z : ℕ). byte_at o z / 2 + 1) (sym same-offset)))
      | no e ↦ ap (sample_given o (at d k) n) (other_row d k l e)
    ];
    other_parts_stay = λ k l e. samples_stay o bs (set bs (i d) x) (at d k) (other_row d k l e);
    fields_stay = λ k l. elim (ℕ_discrete k j) [
      | yes e ↦ same-fields d k l e
      | no e ↦ ap (record_given o (at d k)) (other_row d k l e)
    ];
    lists_stay = λ k l. elim (ℕ_discrete k j) [
      | yes e ↦ trace_lists o bs (set bs (i d) x) (at d k) t (trace-old d k l e) d.kind
      | no e ↦ lists_stay o bs (set bs (i d) x) (at d k) (other_row d k l e)
    ];
    settings_stay = λ k l. elim (ℕ_discrete k j) [
      | yes e ↦ same_setting d k l e
      | no e ↦ ap (setting_given o (at d k)) (other_row d k l e)
    ];
    other_rows_stay = λ k n l other z. get_or-set_other bs (i d) (at d k + n) x 0 (elsewhere_owned k n l other z);
    same_length = length-set bs (i d) x;
    other_bytes_stay = λ q other. get_or-set_other bs (i d) q x 0 other;
  }

-- In an accepted file, a byte from the 57th of a trace's row to its last, changed to any byte.
pub edit_in_full : (bs : List ℕ) (f : File) → Bytes bs → read_file bs ≡ ok f
    → (j : ℕ) → j < length (rows_of f) → (row (rows_of f) j).kind ≡ 7
    → (i x : ℕ) → start_of f j + 56 ≤ i → i < start_of f j + (row (rows_of f) j).whole → x < 256 → Edited (order_in f) bs f j i x
edit_in_full bs f h e j below trace i x lo hi byte =
    let (is, valid) = file_sound bs f h e in
    let (p, t, ep, here, start, whole, kind) = traces_found f valid j below trace in
    let o : Order = order_in f in
    let c : Container = configuration_of f in
    let m : ℕ = i - (place_of o c p + 8) in
    let d : Edit bs f p t j m x = record {
      valid = valid;
      is = is;
      bytes = h;
      below = below;
      trace = trace;
      here = here;
      start = start;
      whole = whole;
      kind = kind;
      from = omega arith;
      inside = omega arith;
      byte = byte;
    } in
    let spotted : Edited o bs f j (place_of o c p + (8 + m)) x =
    subst (λ (es : List Container). Edit bs (o, (version_of f, (c, es))) p t j m x
    → Edited o bs (o, (version_of f, (c, es))) j (place_of o c p + (8 + m)) x)
    (sym ep) (λ s. edit_spot s) d in
    subst (λ (z : ℕ). Edited o bs f j z x) (omega arith) spotted
