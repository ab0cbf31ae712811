-- The lists of specs/Numbers are the numbers that the calls give for these inputs, computed: no list has a number that its call never gives. 1 is
-- given over the limit, whatever stands there.
use mathlib.Core.Path.{◌≡◌, refl}
use mathlib.Core.List.{List, [], ◌∷◌, ◌++◌, map}
use Prim.Native.Nat.{ℕ, ◌<◌}
use borrow.Author.Tests.{lt-leb}
use lib.Dec.{leb}
use lib.IntN.{pos}
use lib.ListN.{length, drop}
use Rattle.theory.specs.declared.Order.TheVariants.{Little}
use Rattle.theory.specs.Tests.{Res, ok, bad, need, unless}
use Rattle.note.specs.Limits.{file_limit}
use Rattle.note.specs.Words.{words}
use Rattle.note.specs.Answers.{Given, refused}
use Rattle.note.specs.Faults.{res_of}
use Rattle.note.specs.Channels.{channel_answer, code_answer}
use Rattle.note.specs.Records.{entry, event, unseen, alone, read_record}
use Rattle.note.specs.Files.{read_file}
use Rattle.note.specs.Rows.{table_answer}
use Rattle.note.specs.Calls.{record_found, record_at, setting_at, sample_at}
use Rattle.note.specs.Writers.{writer_next, record_next, header_next, configuration_closed, event_closed, rewrite_next}
use Rattle.note.specs.Examples.{file_with, p14}
use Rattle.note.proofs.Computing.{computing}
use Rattle.demands.specs.Pieces.{Piece, phonon, charge, administrative, trace, history, gps, trigger, tlb, draft_of}
use Rattle.demands.specs.Numbers.{record_numbers, header_numbers, configuration_numbers, rest_numbers, writer_numbers}
use Rattle.demands.specs.Numbers.{configuration_closing_numbers, event_closing_numbers}

-- ---- 1

over : {A : Type 0} (n : ℕ) (r : Res A) → file_limit < n → need (unless (leb n file_limit) 1) 0 r ≡ bad 1 0
over n r h = rw (lt-leb n file_limit h)

-- A lent file over the limit, for a file's calls and for Record's; an output over the limit, for every writer.
pub long_file_refused : (bs : List ℕ) → file_limit < length bs → (read_file bs ≡ bad 1 0) × ((place : ℕ) → record_found Little bs place ≡ bad 1 0)
unfolding read_file record_found
long_file_refused bs h = (over (length bs) _ h, λ place. over (length bs) (read_record Little alone place (drop place bs)) h)

pub long_output_refused : (out : List ℕ) → file_limit < length out
    → ((place fault size : ℕ) → writer_next (length out) place fault size ≡ bad 1 0)
    × ((place end : ℕ) → configuration_closed Little out place end ≡ bad 1 0)
    × ((place end class category type : ℕ) → event_closed Little out place end class category type ≡ bad 1 0)
    × ((bs : List ℕ) → rewrite_next bs out ≡ bad 1 0)
unfolding writer_next configuration_closed event_closed rewrite_next
long_output_refused out h = (
  λ place fault size. over (length out) _ h,
  λ place end. over (length out) _ h,
  λ place end class category type. over (length out) _ h,
  λ bs. over (length out) _ h,
)

-- ---- a file

-- Words of an administrative record and of a trace without samples; a configuration around an entry.
abbrev dated : List ℕ
dated = 0x02 ∷ 24 ∷ 1100115 ∷ 1630 ∷ 7 ∷ 0 ∷ 0 ∷ 0 ∷ []

abbrev unsampled : List ℕ
unsampled = 0x11 ∷ 48 ∷ 0x11 ∷ 12 ∷ 0 ∷ 1 ∷ 10001003 ∷ 0x12 ∷ 12 ∷ 0 ∷ 1 ∷ 0 ∷ 0x13 ∷ 0 ∷ []

abbrev unnamed : List ℕ
unnamed = 0x00010002 ∷ 32 ∷ 0 ∷ 0 ∷ 0 ∷ 0 ∷ 0 ∷ 0 ∷ 0 ∷ 0 ∷ []

abbrev configured : ℕ → List ℕ → List ℕ
configured n ws = words Little (0x01020304 ∷ 0x01000200 ∷ 0x00010000 ∷ n ∷ ws)

-- Refusals of these numbers at one place; the numbers of refusals.
abbrev at : {A : Type 0} → ℕ → List ℕ → List (Res A)
at place ns = map (λ (c : ℕ). bad c place) ns

abbrev number : {A : Type 0} → Res A → ℕ
number (ok a) = 0
number (bad c p) = c

-- Of the header; of the configuration; of all that stands behind.
pub file_numbers_given :
    (map read_file ([] ∷ words Little (0 ∷ 0 ∷ []) ∷ words Little (0x01020304 ∷ 0 ∷ []) ∷ []) ≡ at 0 header_numbers)
    × (map read_file (words Little (0x01020304 ∷ 0x01000200 ∷ []) ∷ words Little (0x01020304 ∷ 0x01000200 ∷ 0 ∷ 0 ∷ []) ∷ [])
    ≡ at 8 configuration_numbers)
    × (map (λ bs. number (read_file bs)) (
    file_with (0 ∷ []) ∷ file_with (0 ∷ 0 ∷ []) ∷ configured 8 (0x00010001 ∷ 0 ∷ []) ∷ file_with (0xA9801000 ∷ 0 ∷ [])
    ∷ file_with (0xA9800007 ∷ 0 ∷ []) ∷
    file_with (0xA9800000 ∷ 0 ∷ []) ∷ configured 40 unnamed ∷ file_with (0xA9800000 ∷ 88 ∷ (dated ++ unsampled)) ∷ []) ≡ rest_numbers)
unfolding computing
file_numbers_given = (refl, refl, refl)

pub table_number_given : table_answer p14 29 ≡ record { number = 12; count = 5; place = 88 }
unfolding computing
table_number_given = refl

-- ---- Record, Setting, a sample; channels

abbrev records : List (List ℕ)
records = [] ∷ words Little (0 ∷ 0 ∷ []) ∷ words Little (0x02 ∷ 0 ∷ []) ∷ words Little unnamed ∷ words Little unsampled ∷ []

abbrev refusals : List Given
refusals = map (λ (c : ℕ). refused c 0) (record_numbers alone)

pub record_numbers_given : (map (λ bs. record_at Little bs 0) records ≡ refusals) × (map (λ bs. setting_at Little bs 0) records ≡ refusals)
    × (map (λ bs. sample_at Little bs 0 1) records ≡ refusals)
unfolding computing
record_numbers_given = (refl, refl, refl)

pub channel_numbers_given : (res_of (channel_answer 12000000) ≡ bad 10 0) × (code_answer 12 0 [] ≡ refused 10 0)
unfolding computing
channel_numbers_given = (refl, refl)

-- ---- the writers

abbrev phonon_of_code : ℕ → Piece
phonon_of_code code = phonon (record {
  code = pos code;
  tower = pos 0;
  gain = pos 0;
  qet_bias = pos 0;
  squid_bias = pos 0;
  lockpoint = pos 0;
  rtf_offset = pos 0;
  variable_gain = pos 0;
  delta_t = pos 0;
  t0 = pos 0;
  trace_length = pos 0;
})

abbrev charge_of_code : ℕ → Piece
charge_of_code code = charge (record {
  code = pos code;
  tower = pos 0;
  gain = pos 0;
  bias = pos 0;
  rtf_offset = pos 0;
  delta_t = pos 0;
  t0 = pos 0;
  trace_length = pos 0;
})

abbrev date_of : ℕ → Piece
date_of date = administrative (record { date = date; clock = 0; number = 0; time = 0; since = 0; live = 0 })

abbrev trace_of_count : ℕ → ℕ → List ℕ → Piece
trace_of_count channel n samples =
    trace (record { address = 0; channel = channel; code = 10001003; t0 = pos 0; delta = 1; n = n; samples = samples })

abbrev history_of_times : ℕ → List ℕ → Piece
history_of_times width times = history (record {
  veto = record { count = 0; times = times; width = width; masks = [] };
  trigger = record { count = 0; times = []; width = 0; masks = [] };
})

abbrev gps_of_day : ℕ → Piece
gps_of_day day = gps (record { year = 2010; day = day; status = 0; hour = 0; minute = 0; second = 0; tenths = 0 })

abbrev tlb_of_tower : ℕ → Piece
tlb_of_tower w = tlb (record { tower1 = w; tower2 = 0; tower3 = 0; tower4 = 0; tower5 = 0; tower6 = 0 })

abbrev masks : Piece
masks = trigger (record { mask1 = 0; mask2 = 0; mask3 = 0; mask4 = 0; mask5 = 0; mask6 = 0 })

-- Into an output without room, at byte 3: faults of fields first, then 13.
abbrev given : List Piece → List (Res ℕ)
given ps = map (λ (p : Piece). record_next [] 3 (draft_of Little p)) ps

pub writer_numbers_given :
    (given (phonon_of_code 0 ∷ phonon_of_code 10001003 ∷ []) ≡ at 3 (writer_numbers (phonon_of_code 0)))
    × (given (charge_of_code 0 ∷ charge_of_code 10001000 ∷ []) ≡ at 3 (writer_numbers (charge_of_code 0)))
    × (given (date_of 0 ∷ date_of 1100115 ∷ []) ≡ at 3 (writer_numbers (date_of 0)))
    × (given (trace_of_count 1 2 [] ∷ trace_of_count 0 2 [] ∷ trace_of_count 1 0 [] ∷ trace_of_count 1 2 (0 ∷ 0 ∷ 0 ∷ 0 ∷ []) ∷ [])
    ≡ at 3 (writer_numbers (trace_of_count 1 2 [])))
    × (given (history_of_times 0 (0 ∷ []) ∷ history_of_times 1 [] ∷ history_of_times 0 [] ∷ []) ≡ at 3 (writer_numbers (history_of_times 0 [])))
    × (given (gps_of_day 366 ∷ gps_of_day 365 ∷ []) ≡ at 3 (writer_numbers (gps_of_day 365)))
    × (given (masks ∷ []) ≡ at 3 (writer_numbers masks))
    × (given (tlb_of_tower 1 ∷ tlb_of_tower 0 ∷ []) ≡ at 3 (writer_numbers (tlb_of_tower 0)))
unfolding computing draft_of
writer_numbers_given = (refl, refl, refl, refl, refl, refl, refl, refl)

pub header-number-given : header_next [] ≡ bad 13 0
unfolding computing
header-number-given = refl

-- ---- the closings and Rewrite

-- A container from byte 0, closed behind these words.
abbrev eight : List ℕ → List ℕ
eight ws = words Little (0 ∷ 0 ∷ ws)

abbrev configuration_over : List ℕ → Res ℕ
configuration_over ws = configuration_closed Little (eight ws) 0 (length (eight ws))

abbrev event_over : List ℕ → Res ℕ
event_over ws = event_closed Little (eight ws) 0 (length (eight ws)) 0 0 0

pub closing_numbers_given :
    (configuration_closed Little [] 3 0 ∷ [] ≡ at 3 configuration_closing_numbers)
    × (map configuration_over ((0 ∷ []) ∷ (0 ∷ 0 ∷ []) ∷ (0x00010001 ∷ 0 ∷ []) ∷ unnamed ∷ []) ≡ at 8 (record_numbers entry))
    × (event_closed Little (eight []) 0 8 1 0 0 ∷ event_closed Little (eight []) 0 8 0 0 7 ∷ event_over [] ∷ event_closed Little [] 0 0 0 0 0 ∷ []
    ≡ at 0 event_closing_numbers)
    × (map (λ ws. number (event_over ws)) (
    (0 ∷ []) ∷ (0 ∷ 0 ∷ []) ∷ (0x02 ∷ 0 ∷ []) ∷ (0x11 ∷ 0 ∷ []) ∷ (0x02 ∷ 24 ∷ 0 ∷ 0 ∷ 0 ∷ 0 ∷ 0 ∷ 0 ∷ []) ∷ (dated ++ unsampled) ∷ [])
    ≡ record_numbers (event unseen))
unfolding computing
closing_numbers_given = (refl, refl, refl, refl)

pub rewrite_numbers_given : (rewrite_next p14 [] ≡ bad 13 0) × (rewrite_next [] [] ≡ bad 2 0)
unfolding computing
rewrite_numbers_given = (refl, refl)
