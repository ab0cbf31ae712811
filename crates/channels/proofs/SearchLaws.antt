-- The search for a type's channel by its analysis name, and the code that it gives.
-- The idea: a channel's number leads to its name and its name to its number, so the search ends where the list says.
use Prim.Native.Nat.{ℕ, ◌≤◌, ◌<◌}
use mathlib.Core.Path.{◌≡◌, refl, sym, ◌∙◌, ap}
use mathlib.Core.Bool.{true, false, false≢true, ◌&&◌}
use mathlib.Core.List.{List, [], ◌∷◌}
use mathlib.Core.Option.{none, some}
use mathlib.Core.Option as Lists
use native.Mathlib.Omega.{arith}
use lib.Dec.{eqb}
use lib.ListN.{length, take}
use borrow.Author.Tests.{le-leb, lt-leb, eq-eqb}
use Rattle.std.proofs.Common.{Some, None}
use Rattle.std.specs.Cmp.Lexicographic.{pointwise}
use Rattle.note.specs.Answers.{accepted, refused, counts}
use Rattle.note.specs.Channels.{Channel, same, numbered, called, name_of, code_from, code_given, code_answer}
use Rattle.note.specs.declared.Name.{Name}
use Rattle.note.proofs.ChannelLaws.{names_fit, number_small, number_leads, name_leads}
use Rattle.channels.specs.Tables.{analysis_of, of_listed, same_name, has_analysis, is_called, channel_called}
use Rattle.channels.proofs.TableLaws.{same-name-true}

same_as_itself : (a : List ℕ) → same a a ≡ true
same_as_itself [] = refl
same_as_itself (x ∷ a) = rw (eq-eqb x x refl, same_as_itself a)

-- ---- names

-- The code compares letter by letter, as the note does.
compared : (a b : List ℕ) → pointwise eqb a b ≡ same a b
compared [] [] = refl
compared [] (y ∷ b) = refl
compared (x ∷ a) [] = refl
compared (x ∷ a) (y ∷ b) = rw (compared a b)

-- A channel without a name is called by none; one with a name is called by the same bytes and length.
pub no_name : (k c : ℕ) (n : Name) → None ≡ analysis_of (numbered k c) → false ≡ is_called k c n
unfolding analysis_of is_called
no_name k c n e = go (numbered k c) e
  where
    go : (o : Lists.Option Channel) → None ≡ analysis_of o → false ≡ has_analysis o n
    go none e = refl
    go (some x) e = absurd (cc)

module _ (k c : ℕ) (m n : Name) (e : Some m ≡ analysis_of (numbered k c)) where
  name_compared : pointwise eqb m.bytes n.bytes && eqb m.length n.length ≡ is_called k c n
  unfolding analysis_of is_called
  name_compared = go (numbered k c) e
    where
      go : (o : Lists.Option Channel) → Some m ≡ analysis_of o → pointwise eqb m.bytes n.bytes && eqb m.length n.length ≡ has_analysis o n
      go none e = absurd (cc)
      go (some x) e = let q : m ≡ name_of x.analysis = cc in rw (compared m.bytes n.bytes, q)

  pub bytes_alike : pointwise eqb m.bytes n.bytes ≡ true → eqb m.length n.length ≡ is_called k c n
  bytes_alike q = rw q at name_compared

  pub bytes_differ : pointwise eqb m.bytes n.bytes ≡ false → false ≡ is_called k c n
  bytes_differ q = rw q at name_compared

-- One to four letters are the first of their name's four bytes, so no other letters have that name.
abbrev Fits : List ℕ → Type 0
Fits a = (1 ≤ length a) × (length a ≤ 4)

letters : (a : List ℕ) → Fits a → take (name_of a).length (name_of a).bytes ≡ a
letters [] h = absurd (omega arith)
letters (a ∷ []) h = refl
letters (a ∷ b ∷ []) h = refl
letters (a ∷ b ∷ c ∷ []) h = refl
letters (a ∷ b ∷ c ∷ d ∷ []) h = refl
letters (a ∷ b ∷ c ∷ d ∷ e ∷ name) h = absurd (omega arith)

only-name : (a b : List ℕ) → Fits a → Fits b → name_of a ≡ name_of b → a ≡ b
only-name a b h k e = sym (letters a h) ∙ ap (λ (n : Name). take n.length n.bytes) e ∙ letters b k

same_names : (n : Name) → same_name n n ≡ true
same_names n = rw (same_as_itself n.bytes, eq-eqb n.length n.length refl)

-- ---- the search

-- A channel that has the name is the one that the list gives.
pub search_found : (k c : ℕ) (name : List ℕ) → Fits name → is_called k c (name_of name) ≡ true → Some c ≡ channel_called k name
unfolding is_called channel_called
search_found k c name h t = go (numbered k c) refl t
  where
    go : (o : Lists.Option Channel) → numbered k c ≡ o → has_analysis o (name_of name) ≡ true
        → Some c ≡ of_listed (λ x. x.channel) (called k name)
    go none q t = absurd (false≢true t)
    go (some x) q t =
        let e = only-name x.analysis name (names_fit k c x q).0.0 h (same-name-true _ _ t) in
        let (y, f, n) = number_leads k c x q in
        rw (← e, f, n)

-- A name that a type's list has is the name of a channel below 12.
called-small : (k : ℕ) (name : List ℕ) (x : Channel) → called k name ≡ some x
    → (k ≤ 11) × (x.channel ≤ 11) × Fits name × (is_called k x.channel (name_of name) ≡ true)
unfolding is_called
called-small k name x q =
    let (y, f, e) = name_leads k name x q in
    let (h, l) = number_small k x.channel y f in
    let fits = (names_fit k x.channel y f).0.0 in
    (h, l, rw e at fits, rw (f, e) (same_names (name_of name)))

-- Where none of the twelve has the name the list has none, and none has a name of another length.
pub search_ended : (k : ℕ) (name : List ℕ) → (Fits name → (c : ℕ) → c < 12 → is_called k c (name_of name) ≡ false)
    → None ≡ channel_called k name
unfolding channel_called
search_ended k name h = go (called k name) refl
  where
    go : (o : Lists.Option Channel) → called k name ≡ o → None ≡ of_listed (λ x. x.channel) o
    go none q = refl
    go (some x) q = let (g, l, f, t) = called-small k name x q in absurd (false≢true (sym (h f x.channel (omega arith)) ∙ t))

-- ---- the code of what was searched for

-- A detector number past 999 is refused.
pub past_detectors : (k d : ℕ) (name : List ℕ) → 999 < d → refused 10 0 ≡ code_answer k d name
unfolding code_answer
past_detectors k d name h = go (called k name)
  where
    go : (o : Lists.Option Channel) → refused 10 0 ≡ code_given k d o
    go none = refl
    go (some x) = rw (lt-leb d 999 h)

-- Where the search gave no channel the call refuses; where it gave one, the type is listed and the code is the answer's.
pub no_channel : (k d : ℕ) (name : List ℕ) → None ≡ channel_called k name → refused 10 0 ≡ code_answer k d name
unfolding code_answer channel_called
no_channel k d name e = go (called k name) e
  where
    go : (o : Lists.Option Channel) → None ≡ of_listed (λ x. x.channel) o → refused 10 0 ≡ code_given k d o
    go none e = refl
    go (some x) e = absurd (cc)

module _ (k c : ℕ) (name : List ℕ) (e : Some c ≡ channel_called k name) where
  pub small : (k ≤ 11) × (c ≤ 11)
  unfolding channel_called
  small = go (called k name) refl e
    where
      go : (o : Lists.Option Channel) → called k name ≡ o → Some c ≡ of_listed (λ x. x.channel) o → (k ≤ 11) × (c ≤ 11)
      go none q e = absurd (cc)
      go (some x) q e =
          let (h, l, n, t) = called-small k name x q in
          let f : c ≡ x.channel = cc in
          (h, rw f l)

  pub code_made : (d : ℕ) → d ≤ 999 → accepted (counts (code_from k d c ∷ [])) ≡ code_answer k d name
  unfolding code_answer channel_called
  code_made d l = go (called k name) e
    where
      go : (o : Lists.Option Channel) → Some c ≡ of_listed (λ x. x.channel) o → accepted (counts (code_from k d c ∷ [])) ≡ code_given k d o
      go none e = absurd (cc)
      go (some x) e = let f : c ≡ x.channel = cc in rw (le-leb d 999 l, f)

-- What the functions lean on, for the prover's search.
pub ruleset comparing = (no_name, bytes_alike, bytes_differ)

pub ruleset searching = (search_found, search_ended)

pub ruleset coding = (past_detectors, no_channel, small, code_made)
