-- The channels as one table, each with its two names, line by line. Channels has them as lists to look a code up in; this is what those lists
-- come to, in a form that can be held against FORMAT by eye. Then which codes there are, as ranges of channels, and the sides of the iZIPs.
use Rattle.std.specs.Prelude.{ℕ, ◌+◌, ◌-◌, ◌*◌, ◌≤◌, ◌≡◌, ◌⊎◌, ◌≢◌, List, [], ◌∷◌, map, length, get_or, Result, Ok, Err}
use Prim.Native.String.{String}
use Rattle.std.proofs.Math.Option.{Option, some, none}
use Rattle.note.specs.Asked.{OneOf}
use Rattle.note.specs.Channels.{ascii, Channel, numbered, name_of}
use Rattle.note.specs.declared.Fault.TheVariants as Fault
use Rattle.note.specs.declared.Refusal.{Refusal}
use Rattle.note.specs.declared.ChannelAnswer.{ChannelAnswer}

-- FORMAT 3.2, 3.3: a line: a detector type, a channel's number, its analysis name, its name in the cold wiring.
pub record Names : Type 0 where
  pub type : ℕ
  pub channel : ℕ
  pub analysis : String
  pub cold : String

abbrev pub names : ℕ → ℕ → String → String → Names
names t c analysis cold = record { type = t; channel = c; analysis = analysis; cold = cold }

-- FORMAT 3.2, 3.3: every channel. Types 10 and 11 are the two iZIP classes, in which a name's side is what its line says.
abbrev pub channel_table : List Names
channel_table =
    names 1 1 "QI" "QI" ∷ names 1 2 "QO" "QO" ∷ names 1 3 "PS1" "PS1" ∷ names 1 4 "PS2" "PS2" ∷
    names 2 0 "QI" "QI" ∷ names 2 1 "QO" "QO" ∷ names 2 2 "PA" "PA" ∷ names 2 3 "PB" "PB" ∷
    names 2 4 "PC" "PC" ∷ names 2 5 "PD" "PD" ∷
    names 3 0 "Veto" "Veto" ∷
    names 4 0 "QI" "QI" ∷ names 4 1 "QO" "QO" ∷ names 4 2 "PA" "PA" ∷ names 4 3 "PB" "PB" ∷
    names 4 4 "PC" "PC" ∷ names 4 5 "PD" "PD" ∷
    names 5 0 "QI" "QI" ∷ names 5 1 "QO" "QO" ∷ names 5 2 "PA" "PA" ∷ names 5 3 "PB" "PB" ∷
    names 5 4 "PC" "PC" ∷ names 5 5 "PD" "PD" ∷
    names 6 0 "QI" "QI" ∷ names 6 1 "QO" "QO" ∷ names 6 2 "PA" "PA" ∷ names 6 3 "PB" "PB" ∷
    names 6 4 "PC" "PC" ∷ names 6 5 "PD" "PD" ∷
    names 7 0 "Q" "Q" ∷ names 7 1 "PA" "PA" ∷ names 7 2 "PB" "PB" ∷
    names 10 0 "QIS1" "QIS1" ∷ names 10 1 "QOS1" "QOS1" ∷ names 10 2 "PAS1" "A1" ∷ names 10 3 "PBS2" "B1" ∷
    names 10 4 "PCS1" "C1" ∷ names 10 5 "PDS1" "D1" ∷ names 10 6 "QIS2" "QIS2" ∷ names 10 7 "QOS2" "QOS2" ∷
    names 10 8 "PAS2" "A2" ∷ names 10 9 "PBS1" "B2" ∷ names 10 10 "PCS2" "C2" ∷ names 10 11 "PDS2" "D2" ∷
    names 11 0 "QIS1" "QIS1" ∷ names 11 1 "QOS1" "QOS1" ∷ names 11 2 "PAS2" "A1" ∷ names 11 3 "PBS1" "B1" ∷
    names 11 4 "PCS2" "C1" ∷ names 11 5 "PDS1" "D1" ∷ names 11 6 "QIS2" "QIS2" ∷ names 11 7 "QOS2" "QOS2" ∷
    names 11 8 "PAS1" "A2" ∷ names 11 9 "PBS2" "B2" ∷ names 11 10 "PCS1" "C2" ∷ names 11 11 "PDS2" "D2" ∷ []

-- FORMAT 3.1, 3.4: the code of a line's channel in detector number d, and what Channel answers for it; what it answers for a code of no line.
abbrev pub code_of : Names → ℕ → ℕ
code_of r d = r.type * 1000000 + d * 1000 + r.channel

abbrev pub answer_for : Names → ℕ → Result ChannelAnswer Refusal
answer_for r d = Ok (record {
  detector_type = r.type;
  detector = d;
  analysis = name_of (ascii r.analysis);
  cold = name_of (ascii r.cold);
})

abbrev pub not_listed : Result ChannelAnswer Refusal
not_listed = Err (record { fault = Fault.WrongField; place = 0 })

-- FORMAT 3.4: the answer for a code is that of its line of the table, for a detector number of 0 to 999; a code of no line isn't listed.
abbrev pub NamedAs : List Names → ℕ → Result ChannelAnswer Refusal → Type 0
NamedAs [] w a = a ≡ not_listed
NamedAs (r ∷ rs) w a =
    ((d : ℕ) × (d ≤ 999) × (w ≡ code_of r d) × (a ≡ answer_for r d))
    ⊎ (((d : ℕ) → d ≤ 999 → w ≢ code_of r d) × NamedAs rs w a)

-- ---- the channels of each type, without names

-- FORMAT 3.2, a second time: these detector types have the channels from `low` to `high`.
pub record ChannelLine : Type 0 where
  pub types : List ℕ
  pub low : ℕ
  pub high : ℕ

-- FORMAT 3.2, a second time: such a line.
abbrev pub channel_line : List ℕ → ℕ → ℕ → ChannelLine
channel_line ts a b = record { types = ts; low = a; high = b }

-- FORMAT 3.2, a second time: type `kind` has channel c on one of the lines.
abbrev pub Listed : List ChannelLine → ℕ → ℕ → Type 0
Listed [] type c = ⊥
Listed (l ∷ ls) type c = (OneOf l.types type × ((l.low ≤ c) × (c ≤ l.high))) ⊎ Listed ls type c

-- FORMAT 3.2, a second time: all channels.
abbrev pub channel_lines : List ChannelLine
channel_lines =
    channel_line (1 ∷ []) 1 4 ∷
    channel_line (3 ∷ []) 0 0 ∷
    channel_line (2 ∷ 4 ∷ 5 ∷ 6 ∷ []) 0 5 ∷
    channel_line (7 ∷ []) 0 2 ∷
    channel_line (10 ∷ 11 ∷ []) 0 11 ∷ []

-- FORMAT 3.2, a second time: the charge channels.
abbrev pub charge_lines : List ChannelLine
charge_lines =
    channel_line (1 ∷ []) 1 2 ∷
    channel_line (2 ∷ 4 ∷ 5 ∷ 6 ∷ []) 0 1 ∷
    channel_line (7 ∷ []) 0 0 ∷
    channel_line (10 ∷ 11 ∷ []) 0 1 ∷
    channel_line (10 ∷ 11 ∷ []) 6 7 ∷ []

-- FORMAT 3.2, a second time: the phonon channels.
abbrev pub phonon_lines : List ChannelLine
phonon_lines =
    channel_line (1 ∷ []) 3 4 ∷
    channel_line (2 ∷ 4 ∷ 5 ∷ 6 ∷ []) 2 5 ∷
    channel_line (7 ∷ []) 1 2 ∷
    channel_line (10 ∷ 11 ∷ []) 2 5 ∷
    channel_line (10 ∷ 11 ∷ []) 8 11 ∷ []

-- FORMAT 3.1, a second time: w is a code in decimal: type, number 0 to 999 and a channel of these lines, three digits each.
abbrev pub CodeListed : List ChannelLine → ℕ → Type 0
CodeListed ls w =
    (type : ℕ) × (detector : ℕ) × (c : ℕ)
    × (w ≡ type * 1000000 + detector * 1000 + c) × (detector ≤ 999) × Listed ls type c

-- FORMAT 3.3, a second time: the last byte of a channel's analysis name, its side in an iZIP.
abbrev pub side_of : Option Channel → ℕ
side_of none = 0
side_of (some x) = get_or x.analysis (length x.analysis - 1) 0

-- FORMAT 3.3, a second time: the sides of channels 0 to 11.
abbrev pub sides : ℕ → List ℕ
sides type = map (λ (c : ℕ). side_of (numbered type c)) (0 ∷ 1 ∷ 2 ∷ 3 ∷ 4 ∷ 5 ∷ 6 ∷ 7 ∷ 8 ∷ 9 ∷ 10 ∷ 11 ∷ [])
