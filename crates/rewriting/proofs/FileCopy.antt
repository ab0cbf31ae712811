-- A file written again: what its header and its containers ask and leave, one behind the other.
-- The idea: an accepted file is its tree's bytes, so what lies behind the header is read as the configuration and the events.
use mathlib.Core.Path.{◌≡◌, refl, sym, ap, ◌∙◌, subst}
use mathlib.Core.Bool.{true}
use mathlib.Core.List.{List, ◌∷◌, ◌++◌}
use Prim.Native.Nat.{ℕ, ◌+◌, ◌-◌, ◌/◌, ◌%◌, ◌≤◌}
use native.Mathlib.Omega.{arith}
use lib.ListN.{length}
use borrow.Author.Tests.{le-leb}
use Rattle.theory.specs.declared.Order.{Order}
use Rattle.theory.specs.Words.{Bytes}
use Rattle.theory.specs.Tests.{ok}
use Rattle.theory.proofs.TestLaws.{equal_passed}
use Rattle.theory.proofs.Items.{Oks, seq_w}
use Rattle.theory.proofs.LoopLaws.{whole}
use Rattle.note.specs.Limits.{file_limit}
use Rattle.note.specs.Words.{word}
use Rattle.note.specs.Records.{entry, records_bytes}
use Rattle.note.specs.Events.{Container, container_bytes, events_bytes}
use Rattle.note.specs.Files.{File, version_of, configuration_of, events_of, format, version_word, header_bytes, configuration_word, file_bytes}
use Rattle.note.specs.Writers.{writer_next, header_next, header_output}
use Rattle.demands.specs.Valid.{Valid}
use Rattle.demands.specs.Outputs.{Laid}
use Rattle.demands.proofs.Bundles.{records-ok, events-ok}
use Rattle.demands.proofs.Follows.{file_sound}
use Rattle.demands.proofs.OutputLaws.{both_laid}
use Rattle.demands.proofs.WriterLaws.{header-laid}
use Rattle.containers.proofs.RecordLoop.{behind_of, left, length-behind}
use Rattle.containers.proofs.FileParts.{version-is, room, behind-header}
use Rattle.rewriting.specs.Ready.{read_containers, ContainersReady, FileReady, Stands}
use Rattle.rewriting.proofs.ContainerLoop.{container_item, same_containers, events_are}

module _ (o : Order) (bs old : List ℕ) (h : Bytes bs) (r : FileReady o bs (length old)) where
  abbrev tree : File
  tree = (o, r.parts)

  abbrev conf : Container
  conf = configuration_of tree

  sound : (bs ≡ file_bytes tree) × Valid tree
  sound = file_sound bs tree h r.reads

  fits : (16 + length (records_bytes o conf.body) ≤ length bs) × (length bs ≤ file_limit)
  fits = room bs tree h r.reads

  pub words_fit : 16 ≤ length bs
  words_fit = omega (arith, fits.0)

  -- The header, from the DAQ bytes of the version word.
  module _ (version major minor : ℕ) (ev : version ≡ word o 4 bs) (ea : major ≡ version / 16777216 % 256)
      (ei : minor ≡ version / 65536 % 256) where
    header-granted : header_next old ≡ ok 8
    unfolding header_next writer_next
    header-granted = rw (le-leb (length old) file_limit r.limit, le-leb 8 (length old) (omega (arith, words_fit, r.room)))

    pub header_copied : (new : List ℕ) → new ≡ header_output o old major minor → Laid old new 0 8 (header_bytes o (version_of tree))
    header_copied new e =
        let is : version ≡ version_of tree = ev ∙ version-is bs tree h r.reads in
        let low : version_of tree % 65536 ≡ format = equal_passed (version_of tree % 65536) format 3 sound.1.version-rule in
        let same : version_word major minor ≡ version_of tree = omega (arith, is, low, ea, ei, sound.1.version-fits) in
        subst (λ (x : List ℕ). Laid old x 0 8 (header_bytes o (version_of tree))) (sym e)
        (subst (λ (v : ℕ). Laid old (header_output o old major minor) 0 8 (header_bytes o v)) same (header-laid o old major minor 8 header-granted))

  -- The containers behind it.
  abbrev behind : List ℕ
  behind = behind_of 8 bs

  behind-is : behind ≡ container_bytes o conf ++ events_bytes o (events_of tree)
  behind-is = sym (left 8 bs) ∙ behind-header bs tree h r.reads

  behind-size : length behind ≡ length bs - 8
  behind-size = length-behind 8 bs

  containers_ok : Oks (container_item o) true (conf ∷ events_of tree)
  containers_ok =
      let v = sound.1 in
      let word-is : conf.word ≡ configuration_word = v.configuration-word in (
        record {
          head_ok = rw word-is;
          late_ok = refl;
          kind-word = omega (arith, word-is);
          length-word = v.configuration-fits;
          body_ok = records-ok o entry conf.body v.entries-valid;
        },
        events_are o (events_of tree) (events-ok o (events_of tree) v.events-valid),
      )

  containers_read : read_containers o true 8 behind ≡ ok (conf ∷ events_of tree)
  containers_read =
      same_containers o true 8 behind ∙ ap (whole (container_item o) true 8) behind-is
      ∙ (seq_w (container_item o)).complete true 8 (conf ∷ events_of tree) containers_ok

  -- The header was written: they are next.
  module _ (top : List ℕ) (header : Laid old top 0 8 (header_bytes o (version_of tree))) where
    pub containers_ready : ContainersReady o 8 behind (length top)
    containers_ready = (
      true,
      record {
        is = conf ∷ events_of tree;
        reads = containers_read;
        room = omega (arith, behind-size, words_fit, r.room, header.size);
        limit = omega (arith, r.limit, header.size);
      },
    )

    pub file_copied : (new : List ℕ) → Stands behind top 8 new → Stands bs old 0 new
    file_copied new last =
        let end : 8 + length behind ≡ 0 + length bs = omega (arith, behind-size, words_fit) in
        let rest : Laid top new 8 (0 + length bs) (container_bytes o conf ++ events_bytes o (events_of tree)) =
        subst (λ (x : List ℕ). Laid top new 8 (0 + length bs) x) behind-is (subst (λ (n : ℕ). Laid top new 8 n behind) end last) in
        subst (λ (x : List ℕ). Laid old new 0 (0 + length bs) x) (sym sound.0)
        (both_laid old top new (header_bytes o (version_of tree)) _ 0 8 (0 + length bs) (omega (arith, words_fit, r.room)) header rest)
