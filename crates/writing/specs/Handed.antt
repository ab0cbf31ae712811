-- What a C caller hands to a writer: its fields, as numbers of a lent array, in the order of their words; an index that the array hasn't is 0.
use Rattle.std.specs.Prelude.{ℕ, List, ℤ, pos, get_or}
use Rattle.note.specs.declared.Phonon.{Phonon}
use Rattle.note.specs.declared.Charge.{Charge}
use Rattle.note.specs.declared.Administrative.{Administrative}
use Rattle.note.specs.declared.Gps.{Gps}
use Rattle.note.specs.declared.Trigger.{Trigger}
use Rattle.note.specs.declared.Tlb.{Tlb}
use Rattle.note.specs.Writers.{Draft, record_next, record_output}
use Rattle.telling.specs.Told.{Before, After, Told}

-- FORMAT 9.2: what a caller is told of a record or an entry written from a place on, and the output afterwards.
abbrev pub RecordTold : List ℕ → ℕ → Draft → Before → After → List ℕ → Type 0
RecordTold out place w = Told (record_next out place w) (record_output out place w)

-- The fields of an array, in the order of their words.
abbrev signed_at : List ℤ → ℕ → ℤ
signed_at zs k = get_or zs k (pos 0)

abbrev number_at : List ℕ → ℕ → ℕ
number_at ns k = get_or ns k 0

unfoldable pub phonon_from : List ℤ → Phonon
phonon_from zs = record {
  code = signed_at zs 0;
  tower = signed_at zs 1;
  gain = signed_at zs 2;
  qet_bias = signed_at zs 3;
  squid_bias = signed_at zs 4;
  lockpoint = signed_at zs 5;
  rtf_offset = signed_at zs 6;
  variable_gain = signed_at zs 7;
  delta_t = signed_at zs 8;
  t0 = signed_at zs 9;
  trace_length = signed_at zs 10;
}

unfoldable pub charge_from : List ℤ → Charge
charge_from zs = record {
  code = signed_at zs 0;
  tower = signed_at zs 1;
  gain = signed_at zs 2;
  bias = signed_at zs 3;
  rtf_offset = signed_at zs 4;
  delta_t = signed_at zs 5;
  t0 = signed_at zs 6;
  trace_length = signed_at zs 7;
}

unfoldable pub administrative_from : List ℕ → Administrative
administrative_from ns = record {
  date = number_at ns 0;
  clock = number_at ns 1;
  number = number_at ns 2;
  time = number_at ns 3;
  since = number_at ns 4;
  live = number_at ns 5;
}

unfoldable pub gps_from : List ℕ → Gps
gps_from ns = record {
  year = number_at ns 0;
  day = number_at ns 1;
  status = number_at ns 2;
  hour = number_at ns 3;
  minute = number_at ns 4;
  second = number_at ns 5;
  tenths = number_at ns 6;
}

unfoldable pub trigger_from : List ℕ → Trigger
trigger_from ns = record {
  mask1 = number_at ns 0;
  mask2 = number_at ns 1;
  mask3 = number_at ns 2;
  mask4 = number_at ns 3;
  mask5 = number_at ns 4;
  mask6 = number_at ns 5;
}

unfoldable pub tlb_from : List ℕ → Tlb
tlb_from ns = record {
  tower1 = number_at ns 0;
  tower2 = number_at ns 1;
  tower3 = number_at ns 2;
  tower4 = number_at ns 3;
  tower5 = number_at ns 4;
  tower6 = number_at ns 5;
}
