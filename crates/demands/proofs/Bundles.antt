-- The note's readers with the theory's laws: the same readers, by computation, as items and wholes.
-- The idea: a format made of the theory's parts needs no proof of its own.
use mathlib.Core.Path.{◌≡◌, refl, sym, ap, ◌∙◌}
use mathlib.Core.Bool.{Bool, true}
use mathlib.Core.List.{List, [], ◌∷◌}
use Prim.Native.Nat.{ℕ, suc, ◌+◌}
use native.Mathlib.Omega.{arith}
use lib.ListN.{length, drop}
use lib.Seq.{drop-drop}
use Rattle.theory.specs.declared.Order.{Order}
use Rattle.theory.specs.Tests.{Res, ok, bind, unless}
use Rattle.theory.proofs.TestLaws.{unless-zero, unless_holds, most_passed, most_passes, bind_ext, bind-bind}
use Rattle.theory.proofs.Items.{Item, Whole, seq_w, Oks}
use Rattle.theory.proofs.StructureLaws.{stateless, structure, ruled, inside, pair, two_words}
use Rattle.note.specs.Faults.{too_short, not_a_file}
use Rattle.note.proofs.FaultLaws.{short-some}
use Rattle.note.specs.Records.{Record, Context, entry, event, unseen, is_kind, is_allowed, record_head, record_late, record_rule, next_context}
use Rattle.note.specs.Records.{read_record, read_records}
use Rattle.note.specs.Events.{Container, container_size, event_word_rule, event_late, read_event, read_events}
use Rattle.note.specs.Files.{Parts, file_mark, version_rule, configuration_rule, configuration_late, read_header, read_configuration, read_parts}
use Rattle.demands.specs.Valid.{ValidRecord, ValidRecords, ValidEvent, ValidEvents}

-- A record's body, by the rule of the kind that its first word names.
abbrev pub record_body : Order → Whole (Context × ℕ) (List ℕ)
record_body o = ruled (λ s. record_rule o s.1)

abbrev pub record_item : Order → Item Context Record
record_item o = structure o too_short short-some record_head record_late (record_body o) next_context

abbrev pub records : Order → Whole Context (List Record)
records o = seq_w (record_item o)

-- A container of records with any tests of its own, its records read in the context c.
abbrev pub box : Order → (ℕ → ℕ) → (ℕ → ℕ → ℕ) → Context → Item (Unit {0}) Container
box o head late c = structure o too_short short-some (stateless head) (stateless late) (inside (λ s. c) (records o)) (λ s x. s)

abbrev pub configuration_item : Order → Item (Unit {0}) Container
configuration_item o = box o configuration_rule configuration_late entry

abbrev pub event_item : Order → Item (Unit {0}) Container
event_item o = box o event_word_rule event_late (event unseen)

abbrev pub events : Order → Whole (Unit {0}) (List Container)
events o = seq_w (event_item o)

abbrev pub header_item : Order → Item (Unit {0}) ℕ
header_item o = two_words o too_short file_mark not_a_file version_rule short-some (omega arith) (omega arith)

abbrev pub parts : Order → Whole (Unit {0}) Parts
parts o = pair (header_item o) (pair (configuration_item o) (events o))

-- ---- the same readers

pub same_record : (o : Order) (c : Context) (at : ℕ) (bs : List ℕ) → read_record o c at bs ≡ (record_item o).read c at bs
unfolding read_record
same_record o c at bs = refl

pub same-records : (o : Order) (c : Context) (at : ℕ) (bs : List ℕ) → read_records o c at bs ≡ (records o).read c at bs
unfolding read_records read_record
same-records o c at bs = refl

pub same-event : (o : Order) (s : Unit {0}) (at : ℕ) (bs : List ℕ) → read_event o at bs ≡ (event_item o).read s at bs
unfolding read_event read_records read_record
same-event o s at bs = refl

pub same-events : (o : Order) (s : Unit {0}) (at : ℕ) (bs : List ℕ) → read_events o at bs ≡ (events o).read s at bs
unfolding read_events read_event read_records read_record
same-events o s at bs = refl

-- Header, configuration and events one after the other: an item, and behind it an item and what fills the rest.
pub same_parts : (o : Order) (bs : List ℕ) → read_parts o bs ≡ (parts o).read tt 0 bs
unfolding read_parts read_header read_configuration read_events read_event read_records read_record
same_parts o bs = bind_ext ((header_item o).read tt 0 bs) _ _ (λ v e. behind-header v)
  where
    pairs : Container → Res (Container × List Container)
    pairs c = bind ((events o).read tt (8 + container_size o c) (drop (container_size o c) (drop 8 bs))) (λ es. ok (c, es))

    three : ℕ → Container → List Container → Res Parts
    three v c es = ok (v, (c, es))

    with_version : ℕ → Container × List Container → Res Parts
    with_version v x = ok (v, x)

    behind-configuration : (v : ℕ) (c : Container)
        → bind ((events o).read tt (8 + container_size o c) (drop (8 + container_size o c) bs)) (three v c)
        ≡ bind (pairs c) (with_version v)
    behind-configuration v c =
        ap (λ (rest : List ℕ). bind ((events o).read tt (8 + container_size o c) rest) (three v c))
        (sym (drop-drop (container_size o c) 8 bs))
        ∙ sym (bind-bind ((events o).read tt (8 + container_size o c) (drop (container_size o c) (drop 8 bs))) (λ es. ok (c, es)) (with_version v))

    behind-header : (v : ℕ)
        → bind ((configuration_item o).read tt 8 (drop 8 bs)) (λ c.
        bind ((events o).read tt (8 + container_size o c) (drop (8 + container_size o c) bs)) (three v c))
        ≡ bind (bind ((configuration_item o).read tt 8 (drop 8 bs)) pairs) (with_version v)
    behind-header v =
        bind_ext ((configuration_item o).read tt 8 (drop 8 bs)) _ _ (λ c e. behind-configuration v c)
        ∙ sym (bind-bind ((configuration_item o).read tt 8 (drop 8 bs)) pairs (with_version v))

-- ---- valid is what the items ask

-- A test that gave no fault holds.
from_test : (t : Bool) (c : ℕ) → unless t (suc c) ≡ 0 → t ≡ true
from_test t c e = unless-zero t (suc c) (omega arith) e

pub record_valid : (o : Order) (c : Context) (r : Record) → (record_item o).Ok c r → ValidRecord o c r
record_valid o c r v = record {
  kind_allowed = from_test (is_kind c r.word) 4 v.head_ok;
  place_allowed = from_test (is_allowed c r.word) 8 v.late_ok;
  kind_fits = v.kind-word;
  length-fits = v.length-word;
  body_bytes = v.body_ok.0;
  body-rule = v.body_ok.1;
}

pub record_ok : (o : Order) (c : Context) (r : Record) → ValidRecord o c r → (record_item o).Ok c r
record_ok o c r v = record {
  head_ok = unless_holds (is_kind c r.word) 5 v.kind_allowed;
  late_ok = unless_holds (is_allowed c r.word) 9 v.place_allowed;
  kind-word = v.kind_fits;
  length-word = v.length-fits;
  body_ok = (v.body_bytes, v.body-rule);
}

pub records-valid : (o : Order) (c : Context) (rs : List Record) → Oks (record_item o) c rs → ValidRecords o c rs
records-valid o c [] v = tt
records-valid o c (r ∷ rs) v = (record_valid o c r v.0, records-valid o (next_context c r) rs v.1)

pub records-ok : (o : Order) (c : Context) (rs : List Record) → ValidRecords o c rs → Oks (record_item o) c rs
records-ok o c [] v = tt
records-ok o c (r ∷ rs) v = (record_ok o c r v.0, records-ok o (next_context c r) rs v.1)

pub event-valid : (o : Order) (e : Container) → (event_item o).Ok tt e → ValidEvent o e
event-valid o e v = record {
  word-rule = v.head_ok;
  word_fits = v.kind-word;
  not_empty = most_passed 1 (length ((records o).enc e.body)) 8 v.late_ok;
  length-fits = v.length-word;
  records-valid = records-valid o (event unseen) e.body v.body_ok;
}

event-ok : (o : Order) (e : Container) → ValidEvent o e → (event_item o).Ok tt e
event-ok o e v = record {
  head_ok = v.word-rule;
  late_ok = most_passes 9 v.not_empty;
  kind-word = v.word_fits;
  length-word = v.length-fits;
  body_ok = records-ok o (event unseen) e.body v.records-valid;
}

pub events-valid : (o : Order) (es : List Container) → Oks (event_item o) tt es → ValidEvents o es
events-valid o [] v = tt
events-valid o (e ∷ es) v = (event-valid o e v.0, events-valid o es v.1)

pub events-ok : (o : Order) (es : List Container) → ValidEvents o es → Oks (event_item o) tt es
events-ok o [] v = tt
events-ok o (e ∷ es) v = (event-ok o e v.0, events-ok o es v.1)
