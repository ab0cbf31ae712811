-- `channel_called` meets its contract. The loop's invariant: no channel that was passed has the name.
use Rattle.std.proofs.Common.{◌≡◌, ℕ, ◌<◌, false}
use Rattle.channels.specs.Tables.{is_called}
use Rattle.channels.proofs.channel_called.Given as goal

abbrev pub invariant-loop-channel : goal.invariant-loop-channel
invariant-loop-channel l = (i : ℕ) → i < l.channel → is_called l.detector_type i l.wanted ≡ false
