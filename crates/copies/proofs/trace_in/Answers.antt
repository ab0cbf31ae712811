-- `copies::trace_in` meets its contract: each field is read at its place, and the samples are what is left behind them.
use Rattle.std.proofs.Common.{ℤ, sym, ap, ◌∙◌}
use Rattle.note.specs.Words.{word, signed, unsigned}
use Rattle.note.specs.Trace.{trace_of}
use Rattle.containers.proofs.RecordLoop.{left}
use Rattle.answers.proofs.SignedLaws.{kept}
use Rattle.copies.proofs.trace_in.Goals as goal

pub returns : goal.returns
unfolding trace_of
returns c =
    let b = c.args.body.now in
    λ i. record {
      address = c.word_at.ensures i;
      channel = c.word_at-2.ensures i;
      code = c.word_at-3.ensures i;
      t0 = (ap (λ (z : ℤ). signed (unsigned z)) c.signed_at.ensures ∙ kept (word c.args.order 28 b)) i;
      delta = c.word_at-4.ensures i;
      n = c.word_at-5.ensures i;
      samples = sym (left 48 b) i;
    }
