-- P1 to P14 as one table: each line is a code, words, samples or a file, and what must hold of the definitions for it. So the definitions are held
-- against numbers that were worked out elsewhere; proofs/Examples.antt proves the whole table by one theorem.
use Rattle.std.specs.Prelude.{ℕ, ◌≡◌, List, [], ◌∷◌, ◌++◌, Ok}
use Prim.Native.String.{String}
use Rattle.theory.specs.declared.Order.TheVariants.{Little}
use Rattle.theory.specs.Tests.{bad}
use Rattle.note.specs.Faults.{res_of}
use Rattle.note.specs.Words.{words}
use Rattle.note.specs.Channels.{ascii, name_of, channel_answer}
use Rattle.note.specs.Administrative.{administrative_fault}
use Rattle.note.specs.Trace.{count_fault, sample_in}
use Rattle.note.specs.Gps.{gps_rule}
use Rattle.note.specs.Listing.{listing, listing_text}

-- FORMAT 10.1: what an example says.
pub data Example : Type 0 where
  channel : (code type detector : ℕ) (analysis cold : String) → Example
  no_channel : (code number : ℕ) → Example
  series : (date clock number : ℕ) → Example
  gps : (first second third number : ℕ) → Example
  two_samples : (bytes : List ℕ) (one two : ℕ) → Example
  counted : (n number : ℕ) → Example
  listed : (bytes : List ℕ) (lines : List (List ℕ)) → Example
  printed : (bytes : List ℕ) (lines : List String) → Example

-- FORMAT 10.1: what it means: a code's channel or its refusal; the fault (0: valid) of the series words and of a GPS body; the samples that bytes
-- hold; the listing of a file, as numbers and as lines of text, each with its end.
abbrev pub typed : List String → List ℕ
typed [] = []
typed (s ∷ ss) = ascii s ++ (10 ∷ typed ss)

abbrev pub IsSo : Example → Type 0
IsSo (channel code type detector analysis cold) =
    channel_answer code ≡ Ok (record {
      detector_type = type;
      detector = detector;
      analysis = name_of (ascii analysis);
      cold = name_of (ascii cold);
    })
IsSo (no_channel code number) = res_of (channel_answer code) ≡ bad number 0
IsSo (series date clock number) = administrative_fault date clock ≡ number
IsSo (gps first second third number) = gps_rule Little (words Little (first ∷ second ∷ third ∷ [])) ≡ number
IsSo (two_samples bytes one two) = (sample_in Little bytes 1 ≡ one) × (sample_in Little bytes 2 ≡ two)
IsSo (counted n number) = count_fault n ≡ number
IsSo (listed bytes lines) = listing bytes ≡ lines
IsSo (printed bytes lines) = listing_text bytes ≡ typed lines

abbrev pub AllHold : List Example → Type 0
AllHold [] = Unit {0}
AllHold (x ∷ xs) = IsSo x × AllHold xs

-- FORMAT 10.1: a file of a header, an empty configuration and further words.
abbrev pub file_with : List ℕ → List ℕ
file_with ws = words Little (0x01020304 ∷ 0x01000200 ∷ 0x00010000 ∷ 0 ∷ ws)

-- FORMAT 10.1: the words of P14's two records, and a GPS record with this first word.
abbrev pub p14_records : List ℕ
p14_records =
    2 ∷ 24 ∷ 1100115 ∷ 1630 ∷ 7 ∷ 1263573000 ∷ 0 ∷ 0 ∷
    0x81 ∷ 24 ∷ 0x01000004 ∷ 0x02000000 ∷ 0x03000000 ∷ 0x04000000 ∷ 0x05000000 ∷ 0 ∷ []

abbrev pub gps_record : ℕ → List ℕ
gps_record day = 0x60 ∷ 12 ∷ day ∷ 0x00163000 ∷ 0x02000000 ∷ []

-- FORMAT 10.1: P14; and with a GPS record behind its two, its event having this length.
abbrev pub p14 : List ℕ
p14 = file_with (0xA9800000 ∷ 64 ∷ p14_records)

abbrev pub p14_with : ℕ → List ℕ → List ℕ
p14_with size more = file_with (0xA9800000 ∷ size ∷ (p14_records ++ more))

abbrev pub examples : List Example
examples =
    channel 11017006 11 17 "QIS2" "QIS2"  -- P1
    ∷ channel 0x00A81B2E 11 17 "QIS2" "QIS2"
    ∷ channel 10001003 10 1 "PBS2" "B1"  -- P2
    ∷ channel 11001003 11 1 "PBS1" "B1"  -- P3
    ∷ no_channel 12000000 10  -- P4
    ∷ no_channel 3005001 10  -- P5
    ∷ series 1100115 1630 0  -- P6
    ∷ series 1120229 1630 0  -- P7
    ∷ series 1100230 1630 10
    ∷ gps 0x20050320 0x00111526 0x02000000 0  -- P8
    ∷ gps 0x20040366 0x00111526 0x02000000 0  -- P9
    ∷ gps 0x20050366 0x00111526 0x02000000 10
    ∷ gps 0x20050320 0x00111526 0x09999999 0  -- P10
    ∷ gps 0x20050320 0x00111526 0x10000000 10
    ∷ two_samples (0x02 ∷ 0x01 ∷ 0x04 ∷ 0x03 ∷ []) 0x0102 0x0304  -- P11
    ∷ listed [] ((2 ∷ 0 ∷ 0 ∷ []) ∷ [])  -- P12
    ∷ listed (file_with (0xA9800007 ∷ 0 ∷ [])) ((8 ∷ 0 ∷ 16 ∷ []) ∷ [])  -- P13
    ∷ listed (file_with (0xA9801007 ∷ 0 ∷ [])) ((7 ∷ 0 ∷ 16 ∷ []) ∷ [])
    ∷ listed p14 ( -- P14
    (0 ∷ 5 ∷ 88 ∷ []) ∷
    (1 ∷ 1 ∷ 0 ∷ 8 ∷ 0 ∷ 16777728 ∷ 0 ∷ []) ∷
    (2 ∷ 2 ∷ 8 ∷ 8 ∷ 0 ∷ 0 ∷ 0 ∷ []) ∷
    (3 ∷ 5 ∷ 16 ∷ 72 ∷ 0 ∷ 0 ∷ 2 ∷ []) ∷
    (4 ∷ 6 ∷ 24 ∷ 32 ∷ 3 ∷ 7 ∷ 1263573000 ∷ []) ∷
    (5 ∷ 11 ∷ 56 ∷ 32 ∷ 3 ∷ 16777220 ∷ 33554432 ∷ []) ∷ [])
    ∷ printed p14 (
    "0 5 88" ∷
    "1 1 0 8 0 16777728 0" ∷
    "2 2 8 8 0 0 0" ∷
    "3 5 16 72 0 0 2" ∷
    "4 6 24 32 3 7 1263573000" ∷
    "5 11 56 32 3 16777220 33554432" ∷ [])
    ∷ counted 2 0 ∷ counted 32768 0 ∷ counted 0 11 ∷ counted 3 11 ∷ counted 32770 11
    ∷ listed (p14_with 84 (gps_record 0x20100366)) ((10 ∷ 0 ∷ 88 ∷ []) ∷ [])  -- the worked refusal
    ∷ listed (p14_with 64 (gps_record 0x20100366)) ((5 ∷ 0 ∷ 88 ∷ []) ∷ [])
    ∷ listed (p14_with 84 (gps_record 0x20100365)) (
    (0 ∷ 6 ∷ 108 ∷ []) ∷
    (1 ∷ 1 ∷ 0 ∷ 8 ∷ 0 ∷ 16777728 ∷ 0 ∷ []) ∷
    (2 ∷ 2 ∷ 8 ∷ 8 ∷ 0 ∷ 0 ∷ 0 ∷ []) ∷
    (3 ∷ 5 ∷ 16 ∷ 92 ∷ 0 ∷ 0 ∷ 3 ∷ []) ∷
    (4 ∷ 6 ∷ 24 ∷ 32 ∷ 3 ∷ 7 ∷ 1263573000 ∷ []) ∷
    (5 ∷ 11 ∷ 56 ∷ 32 ∷ 3 ∷ 16777220 ∷ 33554432 ∷ []) ∷
    (6 ∷ 9 ∷ 88 ∷ 20 ∷ 3 ∷ 537920357 ∷ 1454080 ∷ []) ∷ [])
    ∷ listed (p14 ++ (0 ∷ [])) ((2 ∷ 0 ∷ 88 ∷ []) ∷ [])  -- P14 and one byte more: 2 at that byte
    ∷ []
