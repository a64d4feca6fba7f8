-- The loop has the totals of the readings before i, none of which is out of range; they stand in their places, with zeros after them.
use Rattle.std.proofs.Common.{◌≡◌}
use Rattle.rules.specs.Lot.{in_places}
use Rattle.rules.specs.Record.{fours}
use Rattle.laws.proofs.Walked.{Walked}
use Rattle.fields.proofs.words.walk.Given as goal

abbrev pub invariant-loop-i : goal.invariant-loop-i
invariant-loop-i l = Walked (fours l.n l.bytes) l.i l.walked.totals × (l.walked.readings ≡ in_places l.i (fours l.i l.bytes))
