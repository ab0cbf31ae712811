-- What is handed to a writer: numbers of 32 bits, signed or not, and parts of bytes. This is what the types of a caller's numbers say of them, and
-- all that the promises about writers ask (`types_fit`, `file_types_fit`): no promise asks for more than a caller has.
use Rattle.std.specs.Prelude.{[], ◌∷◌}
use Rattle.note.specs.Sizes.{Each, Byte, Word, SignedWord}
use Rattle.note.specs.History.{Section}
use Rattle.demands.specs.Pieces.{Piece, phonon, charge, administrative, trace, history, gps, trigger, tlb}
use Rattle.demands.specs.Assembly.{EventPieces, FilePieces}

-- A section's two parts are bytes; its counts are asked by the writer itself, as are a GPS record's numbers.
abbrev pub SectionOfTypes : Section → Type 0
SectionOfTypes s = Each Byte s.times × Each Byte s.masks

-- FORMAT 9.2: the fields of each kind.
unfoldable pub OfTypes : Piece → Type 0
OfTypes (phonon f) =
    Each SignedWord (
    f.code ∷ f.tower ∷ f.gain ∷ f.qet_bias ∷ f.squid_bias ∷ f.lockpoint ∷ f.rtf_offset ∷ f.variable_gain ∷ f.delta_t ∷ f.t0 ∷
    f.trace_length ∷ [])
OfTypes (charge f) = Each SignedWord (f.code ∷ f.tower ∷ f.gain ∷ f.bias ∷ f.rtf_offset ∷ f.delta_t ∷ f.t0 ∷ f.trace_length ∷ [])
OfTypes (administrative f) = Each Word (f.date ∷ f.clock ∷ f.number ∷ f.time ∷ f.since ∷ f.live ∷ [])
OfTypes (trace f) =
    Each Word (f.address ∷ f.channel ∷ f.code ∷ f.delta ∷ f.n ∷ []) × SignedWord f.t0 × Each Byte f.samples
OfTypes (history f) = SectionOfTypes f.veto × SectionOfTypes f.trigger
OfTypes (gps f) = Unit {0}
OfTypes (trigger f) = Each Word (f.mask1 ∷ f.mask2 ∷ f.mask3 ∷ f.mask4 ∷ f.mask5 ∷ f.mask6 ∷ [])
OfTypes (tlb f) = Each Word (f.tower1 ∷ f.tower2 ∷ f.tower3 ∷ f.tower4 ∷ f.tower5 ∷ f.tower6 ∷ [])

-- FORMAT 9.3: the pieces of a file: two DAQ bytes, entries, events.
pub record FileOfTypes (f : FilePieces) : Type 0 where
  pub major : Byte f.major
  pub minor : Byte f.minor
  pub entries : Each OfTypes f.entries
  pub events : Each (λ (e : EventPieces). Each OfTypes e.records) f.events
