-- Which kinds stand in an event and in a configuration, and in which order, by counting kind words. A reader keeps in mind what came before
-- (Records); here the same is said of the whole list at once, and proofs/PlaceLaws.antt shows that both are one.
use Rattle.std.specs.Prelude.{ℕ, ◌+◌, ◌≤◌, ◌≡◌, ◌⊎◌, ◌≢◌, cond, List, [], ◌∷◌, eqb}

-- FORMAT 6.1: the kind words: phonon and charge entries; administrative, trace, history, GPS, trigger and TLB records.
abbrev pub IsEntryKind : ℕ → Type 0
IsEntryKind k = (k ≡ 0x00010001) ⊎ (k ≡ 0x00010002)

abbrev pub IsRecordKind : ℕ → Type 0
IsRecordKind k = (k ≡ 0x02) ⊎ ((k ≡ 0x11) ⊎ ((k ≡ 0x21) ⊎ ((k ≡ 0x60) ⊎ ((k ≡ 0x80) ⊎ (k ≡ 0x81)))))

-- FORMAT 6.2: how often k occurs.
abbrev pub occurs : ℕ → List ℕ → ℕ
occurs k [] = 0
occurs k (x ∷ xs) = cond (eqb x k) 1 0 + occurs k xs

-- FORMAT 6.2: a record of kind k may follow records of these kinds: the first is administrative, and a kind other than trace hasn't come before.
pub record MayFollow (before : List ℕ) (k : ℕ) : Type 0 where
  pub first : occurs 0x02 before ≡ 0 → k ≡ 0x02
  pub once : k ≢ 0x11 → occurs k before ≡ 0

-- FORMAT 6.2: the kinds of an event's records, in order: administrative first, and none but trace twice.
abbrev pub StartsWith : ℕ → List ℕ → Type 0
StartsWith k [] = Unit {0}
StartsWith k (x ∷ xs) = x ≡ k

pub record EventKinds (ks : List ℕ) : Type 0 where
  pub first : StartsWith 0x02 ks
  pub once : (k : ℕ) → k ≢ 0x11 → occurs k ks ≤ 1
