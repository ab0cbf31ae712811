-- What the promises about writers ask of the fields is no more than the types of a caller's numbers say.
-- The idea: both go through the same fields.
use mathlib.Core.List.{List, [], ◌∷◌}
use Prim.Native.Nat.{ℕ}
use Rattle.theory.specs.Words.{Bytes}
use Rattle.note.specs.Sizes.{Each, Byte}
use Rattle.note.specs.Phonon.{phonon_words}
use Rattle.note.specs.Charge.{charge_words}
use Rattle.note.specs.Administrative.{administrative_words}
use Rattle.note.specs.History.{Section}
use Rattle.note.specs.Trigger.{trigger_masks}
use Rattle.note.specs.Tlb.{tlb_words}
use Rattle.note.proofs.SizeLaws.{all_signed_exact, all_fit_exact, trace_fits_exact}
use Rattle.demands.specs.Pieces.{Piece, phonon, charge, administrative, trace, history, gps, trigger, tlb, PieceFits, SectionFits}
use Rattle.demands.specs.Assembly.{EventPieces, FilePieces, AllFitting, EventsFitting, FileFits}
use Rattle.demands.specs.OfTypes.{SectionOfTypes, OfTypes, FileOfTypes}

all-bytes : (bs : List ℕ) → Each Byte bs → Bytes bs
all-bytes [] h = tt
all-bytes (b ∷ bs) h = (h.0, all-bytes bs h.1)

section_fits : (s : Section) → SectionOfTypes s → SectionFits s
section_fits s h = (all-bytes s.times h.0, all-bytes s.masks h.1)

pub types_fit : (p : Piece) → OfTypes p → PieceFits p
unfolding OfTypes PieceFits
types_fit (phonon f) h = (all_signed_exact (phonon_words f)).1 h
types_fit (charge f) h = (all_signed_exact (charge_words f)).1 h
types_fit (administrative f) h = (all_fit_exact (administrative_words f)).1 h
types_fit (trace f) h = ((trace_fits_exact f).1 (h.0, h.1), all-bytes f.samples h.2)
types_fit (history f) h = (section_fits f.veto h.0, section_fits f.trigger h.1)
types_fit (gps f) h = tt
types_fit (trigger f) h = (all_fit_exact (trigger_masks f)).1 h
types_fit (tlb f) h = (all_fit_exact (tlb_words f)).1 h

all_fitting : (ps : List Piece) → Each OfTypes ps → AllFitting ps
all_fitting [] h = tt
all_fitting (p ∷ ps) h = (types_fit p h.0, all_fitting ps h.1)

pub file_types_fit : (f : FilePieces) → FileOfTypes f → FileFits f
file_types_fit f h = record {
  major = h.major;
  minor = h.minor;
  entries = all_fitting f.entries h.entries;
  events = each-event f.events h.events;
}
  where
    each-event : (es : List EventPieces) → Each (λ (e : EventPieces). Each OfTypes e.records) es → EventsFitting es
    each-event [] w = tt
    each-event (e ∷ es) w = (all_fitting e.records w.0, each-event es w.1)
