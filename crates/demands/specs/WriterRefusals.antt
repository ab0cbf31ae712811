-- Which refusal a writer and a closing give, as cases in the order in which they are asked, of which only one can be; as Outputs has Rewrite's.
-- note/specs/Writers computes the answer; here each number comes with what has to be so for it.
use Rattle.std.specs.Prelude.{ℕ, ◌+◌, ◌-◌, ◌≤◌, ◌<◌, ◌≡◌, ◌⊎◌, ◌≢◌, List, length, take, drop}
use Rattle.theory.specs.declared.Order.{Order}
use Rattle.theory.specs.Tests.{bad}
use Rattle.note.specs.Records.{Context, read_records}

-- FORMAT 9.1: a record's or the header's writer of `size` bytes, whose fields' first fault is `fault` (0 for none).
pub data WriterRefused (out : List ℕ) (place fault size c p : ℕ) : Type 0 where
  output_over : 16777216 < length out → c ≡ 1 → p ≡ 0 → WriterRefused out place fault size c p
  field_fault : length out ≤ 16777216 → fault ≢ 0 → c ≡ fault → p ≡ place → WriterRefused out place fault size c p
  no_room : length out ≤ 16777216 → fault ≡ 0 → length out < place + size → c ≡ 13 → p ≡ place → WriterRefused out place fault size c p

-- FORMAT 9.1: where the writer writes.
pub record WriterGranted (out : List ℕ) (place fault size next : ℕ) : Type 0 where
  pub within : length out ≤ 16777216
  pub faultless : fault ≡ 0
  pub room : place + size ≤ length out
  pub ends : next ≡ place + size

-- FORMAT 9.4: a closing: the container's two words and its contents lie in the output, or 13; `Own` is what is asked of its own word and length; its
-- contents are read in the context c.
pub record Lies (out : List ℕ) (place end : ℕ) : Type 0 where
  pub within : length out ≤ 16777216
  pub place_inside : place ≤ length out
  pub end_inside : end ≤ length out
  pub eight : place + 8 ≤ end

pub data ClosingRefused (o : Order) (c : Context) (Own : ℕ → Type 0) (out : List ℕ) (place end n p : ℕ) : Type 0 where
  closing-over : 16777216 < length out → n ≡ 1 → p ≡ 0 → ClosingRefused o c Own out place end n p
  closing-room : length out ≤ 16777216 → (length out < place) ⊎ ((length out < end) ⊎ (end < place + 8)) → n ≡ 13 → p ≡ place
      → ClosingRefused o c Own out place end n p
  own-word : Lies out place end → Own n → n ≢ 0 → p ≡ place → ClosingRefused o c Own out place end n p
  contents : Lies out place end → Own 0
      → read_records o c (place + 8) (take (end - (place + 8)) (drop (place + 8) out)) ≡ bad n p → ClosingRefused o c Own out place end n p
