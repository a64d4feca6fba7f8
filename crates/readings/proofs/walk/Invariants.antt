-- The loop has the totals of the readings before i, of which none is out of range.
use Rattle.laws.proofs.Walked.{Walked}
use Rattle.readings.proofs.walk.Given as goal

abbrev pub invariant-loop-x : goal.invariant-loop-x
invariant-loop-x l = Walked l.readings l.x-index l.a
