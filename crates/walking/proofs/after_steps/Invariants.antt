-- `walking::after_steps` meets its contract: after so many turns the walker is the opened one, as many steps on.
use Rattle.std.proofs.Common.{◌≡◌}
use Rattle.walk.specs.Steps.{opened_of, steps_from}
use Rattle.walking.proofs.after_steps.Given as goal

abbrev pub invariant-loop : goal.invariant-loop
invariant-loop l = (l.w.file.now ≡ l.file) × (l.w.at ≡ steps_from l.file l.counter (opened_of l.file))
