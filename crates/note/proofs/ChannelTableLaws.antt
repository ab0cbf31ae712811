-- The channel lists are the table: every code's answer, names in the cold wiring included, and nothing else is listed.
-- The idea: type and channel of what is listed are at most 11, and there antt computes both look-ups.
use Prim.Native.Nat.{ℕ, ◌/◌, ◌%◌, ◌≤◌}
use Prim.Native.Char.{Char, code}
use Prim.Native.String as Str
use Prim.Native.String.{String}
use mathlib.Core.Path.{◌≡◌, refl, sym, ◌∙◌, subst}
use mathlib.Core.Logic.{inl, inr, by_cases}
use mathlib.Core.Bool.{Bool, true, false, cond, ◌&&◌, false≢true, and-eq-true_iff}
use mathlib.Core.List.{List, [], ◌∷◌}
use mathlib.Core.Option.{Option, some, none}
use native.Mathlib.Omega.{arith}
use native.Mathlib.Decide.{dec_le}
use lib.Dec.{leb, eqb}
use borrow.Author.Tests.{leb-true, eqb-true, eq-eqb}
use Rattle.std.proofs.Common.{Ok}
use Rattle.note.specs.Channels.{ascii, Channel, same, type_of, detector_of, channel_number, numbered, name_of, channel_given, channel_answer}
use Rattle.note.specs.ChannelTable.{Names, channel_table, code_of, NamedAs}
use Rattle.note.proofs.Sweep.{all_pairs_at}
use Rattle.note.proofs.ChannelLaws.{number_small, same_equal}
use Rattle.note.proofs.Computing.{computing}

-- A name's bytes are its letters', in their order; and the letters are these bytes.
pub letter_by_letter : (c : Char) (s : String) → (ascii Str.[] ≡ []) × (ascii (Str.◌∷◌ c s) ≡ code c ∷ ascii s)
letter_by_letter c s = (refl, refl)

pub letters_are_bytes : ascii "ABCDIOPQSVeto12"
    ≡ 0x41 ∷ 0x42 ∷ 0x43 ∷ 0x44 ∷ 0x49 ∷ 0x4F ∷ 0x50 ∷ 0x51 ∷ 0x53 ∷ 0x56 ∷ 0x65 ∷ 0x74 ∷ 0x6F ∷ 0x31 ∷ 0x32 ∷ []
letters_are_bytes = refl

-- ---- a look-up in the table

abbrev channel_from : Names → Channel
channel_from r = record { channel = r.channel; analysis = ascii r.analysis; cold = ascii r.cold }

abbrev is_line : Names → ℕ → ℕ → Bool
is_line r k c = eqb r.type k && eqb r.channel c

abbrev look_up : List Names → ℕ → ℕ → Option Channel
look_up [] k c = none
look_up (r ∷ rs) k c = cond (is_line r k c) (some (channel_from r)) (look_up rs k c)

-- Every line has a type and a channel of at most 11.
abbrev small : List Names → Bool
small [] = true
small (r ∷ rs) = (leb r.type 11 && leb r.channel 11) && small rs

abbrev Both : ℕ → ℕ → Type 0
Both k c = (k ≤ 11) × (c ≤ 11)

look-up-small : (rs : List Names) (k c : ℕ) → small rs ≡ true → (Both k c → ⊥) → look_up rs k c ≡ none
look-up-small [] k c t h = refl
look-up-small (r ∷ rs) k c t h = go (is_line r k c) refl (look-up-small rs k c s.1 h)
  where
    s : (leb r.type 11 && leb r.channel 11 ≡ true) × (small rs ≡ true)
    s = (and-eq-true_iff (leb r.type 11 && leb r.channel 11) (small rs)).0 t

    go : (b : Bool) → is_line r k c ≡ b → look_up rs k c ≡ none → cond b (some (channel_from r)) (look_up rs k c) ≡ none
    go true e rest =
        let u = (and-eq-true_iff (leb r.type 11) (leb r.channel 11)).0 s.0 in
        let v = (and-eq-true_iff (eqb r.type k) (eqb r.channel c)).0 e in
        let a = leb-true r.type 11 u.0 in
        let b = leb-true r.channel 11 u.1 in
        let x = eqb-true r.type k v.0 in
        let y = eqb-true r.channel c v.1 in
        absurd (h (omega arith, omega arith))
    go false e rest = rest

-- ---- both look-ups agree

abbrev same_channel : Option Channel → Option Channel → Bool
same_channel none none = true
same_channel none (some y) = false
same_channel (some x) none = false
same_channel (some x) (some y) = eqb x.channel y.channel && (same x.analysis y.analysis && same x.cold y.cold)

same-channel : (o p : Option Channel) → same_channel o p ≡ true → o ≡ p
same-channel none none e = refl
same-channel none (some y) e = absurd (false≢true e)
same-channel (some x) none e = absurd (false≢true e)
same-channel (some x) (some y) e =
    let u = (and-eq-true_iff (eqb x.channel y.channel) (same x.analysis y.analysis && same x.cold y.cold)).0 e in
    let v = (and-eq-true_iff (same x.analysis y.analysis) (same x.cold y.cold)).0 u.1 in
    let number = eqb-true x.channel y.channel u.0 in
    let analysis = same_equal x.analysis y.analysis v.0 in
    let cold = same_equal x.cold y.cold v.1 in
    λ i. some (record { channel = number i; analysis = analysis i; cold = cold i })

abbrev agree : ℕ → ℕ → Bool
agree k c = same_channel (look_up channel_table k c) (numbered k c)

not-numbered : (k c : ℕ) → (Both k c → ⊥) → numbered k c ≡ none
not-numbered k c h = go (numbered k c) refl
  where
    go : (o : Option Channel) → numbered k c ≡ o → o ≡ none
    go none e = refl
    go (some x) e = absurd (h (number_small k c x e))

lists_are_table : (k c : ℕ) → look_up channel_table k c ≡ numbered k c
unfolding computing
lists_are_table k c =
    by_cases (dec_le k 11)
    (λ a. by_cases (dec_le c 11)
    (λ b. same-channel (look_up channel_table k c) (numbered k c) (all_pairs_at agree 12 refl k c (omega arith) (omega arith)))
    (λ b. far (λ h. absurd (omega arith))))
    (λ a. far (λ h. absurd (omega arith)))
  where
    far : (Both k c → ⊥) → look_up channel_table k c ≡ numbered k c
    far h = look-up-small channel_table k c refl h ∙ sym (not-numbered k c h)

-- ---- the answers

-- The parts of a code.
parts : (r : Names) (d w : ℕ) → r.channel ≤ 11 → d ≤ 999 → w ≡ code_of r d → (r.type ≡ type_of w) × (r.channel ≡ channel_number w)
parts r d w l h e = (omega arith, omega arith)

named_so : (rs : List Names) → small rs ≡ true → (w : ℕ) → NamedAs rs w (channel_given w (look_up rs (type_of w) (channel_number w)))
named_so [] t w = refl
named_so (r ∷ rs) t w = go (is_line r k c) refl (named_so rs s.1 w)
  where
    k : ℕ
    k = type_of w

    c : ℕ
    c = channel_number w

    s : (leb r.type 11 && leb r.channel 11 ≡ true) × (small rs ≡ true)
    s = (and-eq-true_iff (leb r.type 11 && leb r.channel 11) (small rs)).0 t

    go : (b : Bool) → is_line r k c ≡ b → NamedAs rs w (channel_given w (look_up rs k c))
        → NamedAs (r ∷ rs) w (channel_given w (cond b (some (channel_from r)) (look_up rs k c)))
    go true e rest =
        let v = (and-eq-true_iff (eqb r.type k) (eqb r.channel c)).0 e in
        let x : r.type ≡ w / 1000000 = eqb-true r.type k v.0 in
        let y : r.channel ≡ w % 1000 = eqb-true r.channel c v.1 in
        inl (
          detector_of w,
          omega arith,
          omega arith,
          λ i. Ok (record {
            detector_type = sym x i;
            detector = detector_of w;
            analysis = name_of (ascii r.analysis);
            cold = name_of (ascii r.cold);
          }),
        )
    go false e rest =
        let l = leb-true r.channel 11 ((and-eq-true_iff (leb r.type 11) (leb r.channel 11)).0 s.0).1 in
        inr (
          λ d h q.
              let (x, y) = parts r d w l h q in
              false≢true (sym e ∙ (and-eq-true_iff (eqb r.type k) (eqb r.channel c)).1 (eq-eqb r.type k x, eq-eqb r.channel c y)),
          rest,
        )

-- Every code is answered as the table has it.
pub names_as_listed : (w : ℕ) → NamedAs channel_table w (channel_answer w)
unfolding channel_answer
names_as_listed w =
    subst (λ (o : Option Channel). NamedAs channel_table w (channel_given w o)) (lists_are_table (type_of w) (channel_number w))
    (named_so channel_table refl w)
