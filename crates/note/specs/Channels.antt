-- The channels of each detector type as lists, and a detector code as type, number and channel. What a code names is looked up and never computed:
-- the two iZIP classes are two lists, and a side is what the list says, not what the channel's number would suggest.
use Rattle.std.specs.Prelude.{ℕ, ◌+◌, ◌*◌, ◌/◌, ◌%◌, Bool, true, false, cond, ◌&&◌, ◌||◌, List, [], ◌∷◌, leb, eqb, length, get_or, Result, Ok, Err}
use Prim.Native.Char.{code}
use Prim.Native.String as Str
use Prim.Native.String.{String}
use Rattle.std.proofs.Math.Option.{Option, some, none}
use Rattle.note.specs.Faults.{wrong_field}
use Rattle.note.specs.Answers.{Given, accepted, refused, counts}
use Rattle.note.specs.declared.Fault.TheVariants as Fault
use Rattle.note.specs.declared.Refusal.{Refusal}
use Rattle.note.specs.declared.ChannelAnswer.{ChannelAnswer}
use Rattle.note.specs.declared.Name.{Name}

-- FORMAT 3.1: a name's bytes, in ASCII, upper and lower case as listed.
abbrev pub ascii : String → List ℕ
ascii Str.[] = []
ascii (Str.◌∷◌ c s) = code c ∷ ascii s

-- FORMAT 3.2: a channel of a type's list: its number, its analysis name, its name in the cold wiring.
pub record Channel : Type 0 where
  pub channel : ℕ
  pub analysis : List ℕ
  pub cold : List ℕ

-- FORMAT 3.1: a channel with a name of its own in the cold wiring; and one whose only name serves there too.
abbrev pub wired : ℕ → String → String → Channel
wired c name cold_name = record { channel = c; analysis = ascii name; cold = ascii cold_name }

abbrev pub plain : ℕ → String → Channel
plain c name = wired c name name

-- FORMAT 3.2: the lists: of type 1; of type 3; of types 2, 4, 5 and 6; of type 7.
abbrev pub blip : List Channel
blip = plain 1 "QI" ∷ plain 2 "QO" ∷ plain 3 "PS1" ∷ plain 4 "PS2" ∷ []

abbrev pub veto : List Channel
veto = plain 0 "Veto" ∷ []

abbrev pub zips : List Channel
zips = plain 0 "QI" ∷ plain 1 "QO" ∷ plain 2 "PA" ∷ plain 3 "PB" ∷ plain 4 "PC" ∷ plain 5 "PD" ∷ []

abbrev pub endcap_ii : List Channel
endcap_ii = plain 0 "Q" ∷ plain 1 "PA" ∷ plain 2 "PB" ∷ []

-- FORMAT 3.3: the lists of types 10 and 11, the two iZIP classes. From one to the other the sides of A, B and C are exchanged; all else is alike.
abbrev pub izip_i : List Channel
izip_i =
    plain 0 "QIS1" ∷ plain 1 "QOS1" ∷ wired 2 "PAS1" "A1" ∷ wired 3 "PBS2" "B1" ∷ wired 4 "PCS1" "C1" ∷ wired 5 "PDS1" "D1" ∷
    plain 6 "QIS2" ∷ plain 7 "QOS2" ∷ wired 8 "PAS2" "A2" ∷ wired 9 "PBS1" "B2" ∷ wired 10 "PCS2" "C2" ∷ wired 11 "PDS2" "D2" ∷ []

abbrev pub izip_ii : List Channel
izip_ii =
    plain 0 "QIS1" ∷ plain 1 "QOS1" ∷ wired 2 "PAS2" "A1" ∷ wired 3 "PBS1" "B1" ∷ wired 4 "PCS2" "C1" ∷ wired 5 "PDS1" "D1" ∷
    plain 6 "QIS2" ∷ plain 7 "QOS2" ∷ wired 8 "PAS1" "A2" ∷ wired 9 "PBS2" "B2" ∷ wired 10 "PCS1" "C2" ∷ wired 11 "PDS2" "D2" ∷ []

-- FORMAT 3.2: the list of a detector type; a type that is not listed has no channels.
unfoldable pub channels_of : ℕ → List Channel
channels_of type =
    cond (eqb type 1) blip
    (cond (eqb type 3) veto
    (cond (eqb type 2 || (eqb type 4 || (eqb type 5 || eqb type 6))) zips
    (cond (eqb type 7) endcap_ii
    (cond (eqb type 10) izip_i
    (cond (eqb type 11) izip_ii
    [])))))

-- FORMAT 3.4: the first channel of a list that a test picks.
abbrev pub pick : (Channel → Bool) → List Channel → Option Channel
pick test [] = none
pick test (c ∷ cs) = cond (test c) (some c) (pick test cs)

-- FORMAT 3.4: two names are the same bytes.
abbrev pub same : List ℕ → List ℕ → Bool
same [] [] = true
same [] (y ∷ ys) = false
same (x ∷ xs) [] = false
same (x ∷ xs) (y ∷ ys) = eqb x y && same xs ys

-- FORMAT 3.1: a code by its decimal digits: the last three are the channel, the three before them the detector number, from 0 to 999, those in
-- front the type. A code has nine digits at most, so it is at most 999,999,999: that needs no test of its own, since every listed type is at most
-- 11, and a code with more digits has a greater one.
abbrev pub type_of : ℕ → ℕ
type_of w = w / 1000000

abbrev pub detector_of : ℕ → ℕ
detector_of w = w / 1000 % 1000

abbrev pub channel_number : ℕ → ℕ
channel_number w = w % 1000

abbrev pub code_from : ℕ → ℕ → ℕ → ℕ
code_from type detector channel = type * 1000000 + detector * 1000 + channel

-- FORMAT 3.4: the listed channel of a type and a channel number; of a type and an analysis name; of a code.
unfoldable pub numbered : ℕ → ℕ → Option Channel
numbered type c = pick (λ x. eqb x.channel c) (channels_of type)

unfoldable pub called : ℕ → List ℕ → Option Channel
called type name = pick (λ x. same x.analysis name) (channels_of type)

abbrev pub channel_of : ℕ → Option Channel
channel_of w = numbered (type_of w) (channel_number w)

-- FORMAT 3.1: what a code names, by the first letter of its analysis name: P is a phonon channel, Q a charge channel; the veto's V is neither. A code
-- that names nothing is none of them.
abbrev pub begins_with : String → Option Channel → Bool
begins_with letter none = false
begins_with letter (some c) = eqb (get_or c.analysis 0 0) (get_or (ascii letter) 0 0)

abbrev pub is_some : Option Channel → Bool
is_some none = false
is_some (some c) = true

unfoldable pub names_channel : ℕ → Bool
names_channel w = is_some (channel_of w)

unfoldable pub names_phonon : ℕ → Bool
names_phonon w = begins_with "P" (channel_of w)

unfoldable pub names_charge : ℕ → Bool
names_charge w = begins_with "Q" (channel_of w)

-- FORMAT 3.4: Channel's answer: the type, the number and both names, a name in four bytes with zeros behind it; 10 at 0 for a code that isn't
-- listed.
abbrev pub padded : List ℕ → List ℕ
padded name = get_or name 0 0 ∷ get_or name 1 0 ∷ get_or name 2 0 ∷ get_or name 3 0 ∷ []

abbrev pub name_of : List ℕ → Name
name_of name = record { bytes = padded name; length = length name }

abbrev pub channel_given : ℕ → Option Channel → Result ChannelAnswer Refusal
channel_given w none = Err (record { fault = Fault.WrongField; place = 0 })
channel_given w (some c) = Ok (record {
  detector_type = type_of w;
  detector = detector_of w;
  analysis = name_of c.analysis;
  cold = name_of c.cold;
})

unfoldable pub channel_answer : ℕ → Result ChannelAnswer Refusal
channel_answer w = channel_given w (channel_of w)

-- FORMAT 3.4: Code's answer: the code of a type's channel by its analysis name, for a detector number up to 999; 10 at 0 where there is none.
abbrev pub code_given : ℕ → ℕ → Option Channel → Given
code_given type detector none = refused wrong_field 0
code_given type detector (some c) = cond (leb detector 999) (accepted (counts (code_from type detector c.channel ∷ []))) (refused wrong_field 0)

unfoldable pub code_answer : ℕ → ℕ → List ℕ → Given
code_answer type detector name = code_given type detector (called type name)
