-- A container's contents: read as records exactly when they are the bytes of valid ones, refused exactly at the first that is at fault; and what
-- the first fault says of a container itself is what its reader says.
-- The idea: the theory's laws of a sequence, for records; a container that is refused whatever its contents is refused with its own.
use mathlib.Core.Path.{◌≡◌, sym, ap, ◌∙◌, subst}
use mathlib.Core.Logic.{◌↔◌}
use mathlib.Core.List.{List, ◌++◌}
use Prim.Native.Nat.{ℕ, ◌+◌}
use native.Mathlib.Omega.{arith}
use lib.ListN.{length}
use Rattle.theory.specs.declared.Order.{Order}
use Rattle.theory.specs.Words.{Bytes}
use Rattle.theory.specs.Tests.{ok, bad}
use Rattle.theory.proofs.Items.{steps, seq_refused, seq_refuses}
use Rattle.note.specs.Records.{Record, Context, entry, event, unseen, records_bytes, read_record, read_records}
use Rattle.note.specs.Events.{event_word_rule, event_late, read_event}
use Rattle.note.specs.Files.{configuration_rule, configuration_late, read_configuration}
use Rattle.demands.specs.Valid.{ValidRecords}
use Rattle.demands.specs.FirstFault.{Itself}
use Rattle.demands.specs.Contents.{ContentsFault}
use Rattle.demands.proofs.Bundles.{record_item, records, same_record, same-records, records-valid, records-ok}
use Rattle.demands.proofs.FaultLaws.{record_fault_here, steps-past}

module _ (o : Order) (c : Context) (at : ℕ) (bs : List ℕ) (h : Bytes bs) where
  pub contents-read : (rs : List Record) → (read_records o c at bs ≡ ok rs) ↔ ((bs ≡ records_bytes o rs) × ValidRecords o c rs)
  contents-read rs = (
    λ e.
        let (is, valid) = (records o).sound c at bs rs h (sym (same-records o c at bs) ∙ e) in
        (is, records-valid o c rs valid),
    λ p.
        same-records o c at bs
        ∙ subst (λ (x : List ℕ). (records o).read c at x ≡ ok rs) (sym p.0) ((records o).complete c at rs (records-ok o c rs p.1)),
  )

  pub contents-refused : (n p : ℕ) → (read_records o c at bs ≡ bad n p) ↔ ContentsFault o c at bs n p
  contents-refused n p = (there, back)
    where
      there : read_records o c at bs ≡ bad n p → ContentsFault o c at bs n p
      there e =
          let (xs, rest, is, os, left, q) = seq_refused (record_item o) (length bs) c at bs n p (omega arith) h (sym (same-records o c at bs) ∙ e) in
          let passed : Context = steps (record_item o) c xs in
          let here : p ≡ at + length (records_bytes o xs) = record_fault_here o passed (at + length (records_bytes o xs)) rest n p q in
          record {
            before = xs;
            part = rest;
            valid = records-valid o c xs os;
            left = left;
            splits = is;
            place = here;
            fault = ap (λ (x : Context). read_record o x p rest) (sym (steps-past o c xs))
                ∙ same_record o passed p rest
                ∙ ap (λ (m : ℕ). (record_item o).read passed m rest) here
                ∙ q;
          }

      back : ContentsFault o c at bs n p → read_records o c at bs ≡ bad n p
      back f =
          let xs : List Record = f.before in
          let passed : Context = steps (record_item o) c xs in
          let there : (record_item o).read passed (at + length (records_bytes o xs)) f.part ≡ bad n p =
          ap (λ (m : ℕ). (record_item o).read passed m f.part) (sym f.place)
          ∙ sym (same_record o passed p f.part)
          ∙ ap (λ (x : Context). read_record o x p f.part) (steps-past o c xs)
          ∙ f.fault in
          same-records o c at bs
          ∙ subst (λ (x : List ℕ). (records o).read c at x ≡ bad n p) (sym f.splits)
          (seq_refuses (record_item o) (length (records_bytes o xs ++ f.part)) c at xs f.part n p (omega arith)
          (records-ok o c xs f.valid) f.left there)

-- A container at fault itself is refused so by its reader.
pub event-itself : (o : Order) (part : List ℕ) (c p : ℕ) → Itself o event_word_rule event_late part c p → read_event o p part ≡ bad c p
unfolding read_event
event-itself o part c p own = own (λ s at bs. read_records o (event unseen) (at + 8) bs)

pub configuration-itself : (o : Order) (part : List ℕ) (c p : ℕ) → Itself o configuration_rule configuration_late part c p
    → read_configuration o p part ≡ bad c p
unfolding read_configuration
configuration-itself o part c p own = own (λ s at bs. read_records o entry (at + 8) bs)
