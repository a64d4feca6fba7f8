-- The unrounded deviation reaches the midpoint below each number tried, so each is small.
use Rattle.std.proofs.Common.{◌-◌, pos}
use lib.Dec.{T}
use Rattle.rules.specs.Deviation.{from_midpoint_below}
use Rattle.readings.proofs.rounded.Given as goal

abbrev pub invariant-loop-s : goal.invariant-loop-s
invariant-loop-s l = T (from_midpoint_below l.n (pos l.v) l.s)

abbrev pub decreases-loop-s : goal.decreases-loop-s
decreases-loop-s l = 10000001 - l.s
