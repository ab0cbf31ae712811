-- The laws of the channel lists: code to names to code, name to code to name, and a channel code said a second time, without names.
-- The idea: every type from 12 on has an empty list, so a fact about all lists is a test that antt computes at the types 0 to 11.
use Prim.Native.Nat.{ℕ, ◌+◌, ◌*◌, ◌/◌, ◌≤◌, ◌<◌}
use mathlib.Core.Path.{◌≡◌, refl, sym, ◌∙◌, subst}
use mathlib.Core.Logic.{◌↔◌, ◌⊎◌, inl, inr, ⊎_elim, by_cases}
use mathlib.Core.Bool.{Bool, true, false, beq, cond, ◌&&◌, ◌||◌, false≢true, and-eq-true_iff}
use mathlib.Core.List.{List, [], ◌∷◌}
use mathlib.Core.Option.{Option, some, none}
use native.Mathlib.Omega.{arith}
use native.Mathlib.Decide.{dec_le}
use lib.Dec.{leb, eqb}
use lib.ListN.{length, get_or}
use Rattle.std.proofs.Common.{Ok}
use borrow.Author.Tests.{leb-true, le-leb, eqb-true, ne_eqb}
use Rattle.theory.specs.Tests.{among}
use Rattle.note.specs.Answers.{accepted, refused, counts}
use Rattle.note.specs.Channels.{ascii, Channel, channels_of, pick, same, numbered, called, begins_with, is_some}
use Rattle.note.specs.Channels.{type_of, detector_of, channel_number, code_from, channel_of, names_channel, names_phonon, names_charge}
use Rattle.note.specs.Channels.{name_of, channel_given, channel_answer, code_given, code_answer}
use Rattle.note.specs.declared.ChannelAnswer.{ChannelAnswer}
use Rattle.note.specs.ChannelTable.{ChannelLine, Listed, channel_lines, charge_lines, phonon_lines, CodeListed, sides}
use Rattle.note.proofs.BoolLaws.{Tells, both_tell, either_tells, le_tells, among_tells, up_to, one-up-to}
use Rattle.note.proofs.Sweep.{all, all-at, all_pairs, all_pairs_at}
use Rattle.note.proofs.Computing.{computing}

-- ---- a fact about every list

far_kind : (k : ℕ) → 12 ≤ k → channels_of k ≡ []
unfolding channels_of
far_kind k h =
    rw (
      ne_eqb k 1 (omega arith),
      ne_eqb k 2 (omega arith),
      ne_eqb k 3 (omega arith),
      ne_eqb k 4 (omega arith),
      ne_eqb k 5 (omega arith),
      ne_eqb k 6 (omega arith),
      ne_eqb k 7 (omega arith),
      ne_eqb k 10 (omega arith),
      ne_eqb k 11 (omega arith),
    )

every_list : (p : List Channel → Bool) → p [] ≡ true → all (λ (k : ℕ). p (channels_of k)) 0 12 ≡ true
    → (k : ℕ) → p (channels_of k) ≡ true
every_list p e t k =
    by_cases (dec_le k 11)
    (λ l. all-at (λ (k : ℕ). p (channels_of k)) 0 12 t k (omega arith) (omega arith))
    (λ g. rw (far_kind k (omega arith)) e)

-- A test holds at every channel of a list.
abbrev every : (Channel → Bool) → List Channel → Bool
every p [] = true
every p (x ∷ xs) = p x && every p xs

none-some : {x : Channel} → none ≡ some x → ⊥
none-some e = let z : ◌≡◌ {A = ℕ} 0 1 = cc in omega arith

first_or_rest : (b : Bool) (y x : Channel) (o : Option Channel) → cond b (some y) o ≡ some x → ((b ≡ true) × (y ≡ x)) ⊎ (o ≡ some x)
first_or_rest true y x o e = inl (refl, (cc))
first_or_rest false y x o e = inr e

picked : (test p : Channel → Bool) (xs : List Channel) (x : Channel) → every p xs ≡ true → pick test xs ≡ some x
    → (test x ≡ true) × (p x ≡ true)
picked test p [] x t e = absurd (none-some e)
picked test p (y ∷ ys) x t e =
    let s = (and-eq-true_iff (p y) (every p ys)).0 t in
    ⊎_elim (λ h. subst (λ (z : Channel). (test z ≡ true) × (p z ≡ true)) h.1 (h.0, s.0)) (picked test p ys x s.1)
    (first_or_rest (test y) y x (pick test ys) e)

-- What holds at each channel of each list holds at the one that a test picks.
of_picked : (p : List Channel → Channel → Bool) → all (λ (k : ℕ). every (p (channels_of k)) (channels_of k)) 0 12 ≡ true
    → (k : ℕ) (test : Channel → Bool) (x : Channel) → pick test (channels_of k) ≡ some x
    → (test x ≡ true) × (p (channels_of k) x ≡ true)
of_picked p t k test x e =
    picked test (p (channels_of k)) (channels_of k) x (every_list (λ (l : List Channel). every (p l) l) refl t k) e

-- What is listed has a type and a channel of at most 11.
pub number_small : (k c : ℕ) (x : Channel) → numbered k c ≡ some x → (k ≤ 11) × (c ≤ 11)
unfolding computing
number_small k c x e =
    let s = of_picked (λ l y. leb y.channel 11) refl k (λ y. eqb y.channel c) x e in (
      by_cases (dec_le k 11) (λ l. l) (λ g. absurd (none-some (rw (far_kind k (omega arith)) at e))),
      omega (arith, leb-true x.channel 11 s.1, eqb-true x.channel c s.0),
    )

-- ---- names

beq_equal : (a b : Bool) → beq a b ≡ true → a ≡ b
beq_equal true true e = refl
beq_equal true false e = sym e
beq_equal false true e = e
beq_equal false false e = refl

pub same_equal : (a b : List ℕ) → same a b ≡ true → a ≡ b
same_equal [] [] e = refl
same_equal [] (y ∷ ys) e = absurd (false≢true e)
same_equal (x ∷ xs) [] e = absurd (false≢true e)
same_equal (x ∷ xs) (y ∷ ys) e =
    let s = (and-eq-true_iff (eqb x y) (same xs ys)).0 e in
    let h = eqb-true x y s.0 in
    let t = same_equal xs ys s.1 in
    cc

-- A search finds a channel, and that channel passes the test.
abbrev finds : Option Channel → (Channel → Bool) → Bool
finds none test = false
finds (some x) test = test x

found : (o : Option Channel) (test : Channel → Bool) → finds o test ≡ true → (x : Channel) × (o ≡ some x) × (test x ≡ true)
found none test e = absurd (false≢true e)
found (some x) test e = (x, refl, e)

-- A channel's analysis name leads to its number, and its number to its analysis name.
abbrev by_name : List Channel → Channel → Bool
by_name l x = finds (pick (λ y. same y.analysis x.analysis) l) (λ y. eqb y.channel x.channel)

abbrev by_number : List Channel → Channel → Bool
by_number l x = finds (pick (λ y. eqb y.channel x.channel) l) (λ y. same y.analysis x.analysis)

-- A number leads to a name that leads back to it, and a name to a number.
pub number_leads : (k c : ℕ) (x : Channel) → numbered k c ≡ some x
    → (y : Channel) × (called k x.analysis ≡ some y) × (y.channel ≡ c)
unfolding computing
number_leads k c x e =
    let s = of_picked by_name refl k (λ y. eqb y.channel c) x e in
    let (y, f, t) = found (called k x.analysis) (λ y. eqb y.channel x.channel) s.1 in
    (y, f, eqb-true y.channel x.channel t ∙ eqb-true x.channel c s.0)

pub name_leads : (k : ℕ) (name : List ℕ) (x : Channel) → called k name ≡ some x
    → (y : Channel) × (numbered k x.channel ≡ some y) × (y.analysis ≡ name)
unfolding computing
name_leads k name x e =
    let s = of_picked by_number refl k (λ y. same y.analysis name) x e in
    let (y, f, t) = found (numbered k x.channel) (λ y. same y.analysis x.analysis) s.1 in
    (y, f, same_equal y.analysis x.analysis t ∙ same_equal x.analysis name s.0)

-- No two listed channels of a type share an analysis name.
pub names_differ : (k c d : ℕ) (x y : Channel) → numbered k c ≡ some x → numbered k d ≡ some y → x.analysis ≡ y.analysis → c ≡ d
names_differ k c d x y e f q =
    let (u, g, m) = number_leads k c x e in
    let (v, h, n) = number_leads k d y f in
    cc

-- From a code to its analysis name and back to the code.
pub code_leads_back : (w : ℕ) (x : Channel) → channel_of w ≡ some x
    → code_answer (type_of w) (detector_of w) x.analysis ≡ accepted (counts (w ∷ []))
unfolding code_answer
code_leads_back w x e =
    let (y, f, n) = number_leads (type_of w) (channel_number w) x e in
    let d : detector_of w ≤ 999 = omega arith in
    let q : code_from (type_of w) (detector_of w) y.channel ≡ w = omega arith in
    rw (f, le-leb (detector_of w) 999 d, q)

-- The code w comes from a channel that was found, o.
abbrev From : ℕ → ℕ → ℕ → Option Channel → Type 0
From type detector w o = (x : Channel) × (o ≡ some x) × (detector ≤ 999) × (code_from type detector x.channel ≡ w)

code-from : (type detector w : ℕ) (o : Option Channel) → code_given type detector o ≡ accepted (counts (w ∷ [])) → From type detector w o
code-from type detector w none e = let z : ◌≡◌ {A = ℕ} 0 1 = cc in absurd (omega arith)
code-from type detector w (some x) e = go (leb detector 999) refl e
  where
    made : ℕ
    made = code_from type detector x.channel

    go : (b : Bool) → leb detector 999 ≡ b → cond b (accepted (counts (made ∷ []))) (refused 10 0) ≡ accepted (counts (w ∷ []))
        → From type detector w (some x)
    go true t e = (x, refl, leb-true detector 999 t, cc)
    go false t e = let z : ◌≡◌ {A = ℕ} 0 1 = cc in absurd (omega arith)

-- The three parts of a code, read apart.
parts_of_code : (type detector c w : ℕ) → w ≡ code_from type detector c → detector ≤ 999 → c ≤ 999
    → (type_of w ≡ type) × (detector_of w ≡ detector) × (channel_number w ≡ c)
parts_of_code type detector c w e d h =
    let r : w / 1000 ≡ type * 1000 + detector = omega arith in
    (omega arith, rw r (omega arith), omega arith)

-- From type, number and analysis name to a code, and back to them.
pub name_leads_back : (type detector : ℕ) (name : List ℕ) (w : ℕ) → code_answer type detector name ≡ accepted (counts (w ∷ []))
    → (x : Channel) × (channel_of w ≡ some x) × (x.analysis ≡ name) × (type_of w ≡ type) × (detector_of w ≡ detector)
unfolding code_answer
name_leads_back type detector name w e =
    let (x, f, d, q) = code-from type detector w (called type name) e in
    let (y, g, n) = name_leads type name x f in
    let (k, r, m) = parts_of_code type detector x.channel w (sym q) d (omega (arith, number_small type x.channel y g)) in
    (y, rw (k, m) g, n, k, r)

-- ---- a channel code, said without names

-- The two calls, one after the other: what Code answers for a name is a code for which Channel answers that name; what Channel answers for a code
-- leads Code back to it.
pub code_named_back : (type detector : ℕ) (name : List ℕ) (w : ℕ) → code_answer type detector name ≡ accepted (counts (w ∷ []))
    → (cold : List ℕ)
    × (channel_answer w ≡ Ok (record { detector_type = type; detector = detector; analysis = name_of name; cold = name_of cold }))
unfolding channel_answer
code_named_back type detector name w e =
    let (x, f, n, k, d) = name_leads_back type detector name w e in
    (x.cold, rw f (λ i. Ok (record { detector_type = k i; detector = d i; analysis = name_of (n i); cold = name_of x.cold })))

-- Code answers a code, or 10 at 0.
pub code-given : (type detector : ℕ) (name : List ℕ)
    → ((w : ℕ) × (code_answer type detector name ≡ accepted (counts (w ∷ [])))) ⊎ (code_answer type detector name ≡ refused 10 0)
unfolding code_answer
code-given type detector name = go (called type name)
  where
    limited : (t : Bool) (w : ℕ) → ((v : ℕ) × (cond t (accepted (counts (w ∷ []))) (refused 10 0) ≡ accepted (counts (v ∷ []))))
        ⊎ (cond t (accepted (counts (w ∷ []))) (refused 10 0) ≡ refused 10 0)
    limited true w = inl (w, refl)
    limited false w = inr refl

    go : (o : Option Channel) → ((w : ℕ) × (code_given type detector o ≡ accepted (counts (w ∷ [])))) ⊎ (code_given type detector o ≡ refused 10 0)
    go none = inr refl
    go (some c) = limited (leb detector 999) (code_from type detector c.channel)

-- The answer a bears a name that leads Code back to the code w.
abbrev CodedBack : ℕ → ChannelAnswer → Type 0
CodedBack w a = (name : List ℕ) × (a.analysis ≡ name_of name) × (code_answer a.detector_type a.detector name ≡ accepted (counts (w ∷ [])))

pub channel_coded_back : (w : ℕ) (a : ChannelAnswer) → channel_answer w ≡ Ok a
    → (name : List ℕ) × (a.analysis ≡ name_of name) × (code_answer a.detector_type a.detector name ≡ accepted (counts (w ∷ [])))
unfolding channel_answer
channel_coded_back w a e = go (channel_of w) refl e
  where
    named : Channel → ChannelAnswer
    named x = record { detector_type = type_of w; detector = detector_of w; analysis = name_of x.analysis; cold = name_of x.cold }

    go : (o : Option Channel) → channel_of w ≡ o → channel_given w o ≡ Ok a → CodedBack w a
    go none f z = absurd (cc)
    go (some x) f z =
        let same : named x ≡ a = cc in
        subst (CodedBack w) same (x.analysis, refl, code_leads_back w x f)

abbrev on_line : List ChannelLine → ℕ → ℕ → Bool
on_line [] type c = false
on_line (l ∷ ls) type c = (among type l.types && (leb l.low c && leb c l.high)) || on_line ls type c

on_line_tells : (ls : List ChannelLine) (type c : ℕ) → Tells (on_line ls type c) (Listed ls type c)
on_line_tells [] type c = (λ e. absurd (false≢true e), λ h. absurd h)
on_line_tells (l ∷ ls) type c =
    either_tells (both_tell (among_tells l.types type) (both_tell (le_tells l.low c) (le_tells c l.high))) (on_line_tells ls type c)

-- No line goes past type 11 or channel 11.
abbrev bounded : List ChannelLine → Bool
bounded [] = true
bounded (l ∷ ls) = up_to 11 l.types && (leb l.high 11 && bounded ls)

line_small : (ls : List ChannelLine) (k c : ℕ) → bounded ls ≡ true → Listed ls k c → (k ≤ 11) × (c ≤ 11)
line_small [] k c t h = absurd h
line_small (l ∷ ls) k c t h =
    let s = (and-eq-true_iff (up_to 11 l.types) (leb l.high 11 && bounded ls)).0 t in
    let u = (and-eq-true_iff (leb l.high 11) (bounded ls)).0 s.1 in
    ⊎_elim (λ g. (one-up-to 11 l.types k s.0 g.0, omega (arith, leb-true l.high 11 u.0))) (line_small ls k c u.1) h

-- The lines and a test of the listed channel agree at type k and channel c.
abbrev agrees : List ChannelLine → (Option Channel → Bool) → ℕ → ℕ → Bool
agrees ls test k c = beq (on_line ls k c) (test (numbered k c))

-- A test of the listed channel, which agrees with the lines at every type and channel up to 11, picks the codes of those lines.
module _ (ls : List ChannelLine) (test : Option Channel → Bool) (nothing : test none ≡ false) (small : bounded ls ≡ true)
    (agree : all_pairs (agrees ls test) 12 ≡ true) where
  agree_at : (k c : ℕ) → (k ≤ 11) × (c ≤ 11) → on_line ls k c ≡ test (numbered k c)
  agree_at k c h =
      beq_equal (on_line ls k c) (test (numbered k c)) (all_pairs_at (agrees ls test) 12 agree k c (omega arith) (omega arith))

  some-channel : (o : Option Channel) → test o ≡ true → (x : Channel) × (o ≡ some x)
  some-channel none e = absurd (false≢true (sym nothing ∙ e))
  some-channel (some x) e = (x, refl)

  lines_tell : (k c : ℕ) → Tells (test (numbered k c)) (Listed ls k c)
  lines_tell k c = (
    λ e. let (x, q) = some-channel (numbered k c) e in (on_line_tells ls k c).0 (agree_at k c (number_small k c x q) ∙ e),
    λ h. sym (agree_at k c (line_small ls k c small h)) ∙ (on_line_tells ls k c).1 h,
  )

  codes_tell : (w : ℕ) → Tells (test (channel_of w)) (CodeListed ls w)
  codes_tell w = (
    λ e. (type_of w, detector_of w, channel_number w, omega arith, omega arith, (lines_tell (type_of w) (channel_number w)).0 e),
    λ h.
        let (type, detector, c, e, d, l) = h in
        let (k, r, m) = parts_of_code type detector c w e d (omega (arith, line_small ls type c small l)) in
        rw (k, m) ((lines_tell type c).1 l),
  )

-- A code is named, or names a charge or a phonon channel, exactly where a line of the list has it.
pub code-is-listed : (w : ℕ) → (names_channel w ≡ true) ↔ CodeListed channel_lines w
unfolding computing
code-is-listed = codes_tell channel_lines is_some refl refl refl

pub charge-code-is-listed : (w : ℕ) → (names_charge w ≡ true) ↔ CodeListed charge_lines w
unfolding computing
charge-code-is-listed = codes_tell charge_lines (begins_with "Q") refl refl refl

pub phonon-code-is-listed : (w : ℕ) → (names_phonon w ≡ true) ↔ CodeListed phonon_lines w
unfolding computing
phonon-code-is-listed = codes_tell phonon_lines (begins_with "P") refl refl refl

-- ---- what the names are

-- Bytes of ASCII, none of them 0; one to four of them.
abbrev pub Letters : List ℕ → Type 0
Letters name = (i : ℕ) → i < length name → (1 ≤ get_or name i 0) × (get_or name i 0 ≤ 127)

abbrev pub Short : List ℕ → Type 0
Short name = ((1 ≤ length name) × (length name ≤ 4)) × Letters name

abbrev in_ascii : List ℕ → ℕ → Bool
in_ascii name i = leb 1 (get_or name i 0) && leb (get_or name i 0) 127

abbrev short : List ℕ → Bool
short name = (leb 1 (length name) && leb (length name) 4) && all (in_ascii name) 0 (length name)

short-holds : (name : List ℕ) → short name ≡ true → Short name
short-holds name e =
    let s = (and-eq-true_iff (leb 1 (length name) && leb (length name) 4) (all (in_ascii name) 0 (length name))).0 e in (
      (both_tell (le_tells 1 (length name)) (le_tells (length name) 4)).0 s.0,
      λ i h. (both_tell (le_tells 1 (get_or name i 0)) (le_tells (get_or name i 0) 127)).0
          (all-at (in_ascii name) 0 (length name) s.1 i (omega arith) (omega arith)),
    )

-- Every listed name fits four bytes that are not 0, so an answer's four bytes and length lose nothing of it.
pub names_fit : (k c : ℕ) (x : Channel) → numbered k c ≡ some x → Short x.analysis × Short x.cold
unfolding computing
names_fit k c x e =
    let s = of_picked (λ l y. short y.analysis && short y.cold) refl k (λ y. eqb y.channel c) x e in
    let u = (and-eq-true_iff (short x.analysis) (short x.cold)).0 s.1 in
    (short-holds x.analysis u.0, short-holds x.cold u.1)

-- The sides of class I, type 10, and of class II, type 11: the same channel may have another side.
pub side_is_listed : (sides 10 ≡ ascii "111211222122") × (sides 11 ≡ ascii "112121221212")
unfolding computing
side_is_listed = (refl, refl)
