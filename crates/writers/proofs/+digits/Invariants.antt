-- `writers::digits`, which calls itself: the measure is the number of digits.
use Rattle.writers.proofs.+digits.Given as goal

abbrev pub decreases-digits : goal.decreases-digits
decreases-digits l = l.n
