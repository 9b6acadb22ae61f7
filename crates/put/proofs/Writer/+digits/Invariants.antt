-- `put::Writer::digits` meets its contract. The measure is n. Assumes nothing.
use Rattle.put.proofs.Writer.+digits.Given as goal

abbrev pub decreases-digits : goal.decreases-digits
decreases-digits l = l.n
