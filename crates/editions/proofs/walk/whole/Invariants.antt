-- The invariant is what a walk keeps, and the measure how many editions more a store may hold.
use Rattle.std.proofs.Common.{◌-◌}
use Rattle.rules.specs.Store.{most_editions}
use Rattle.laws.specs.StoreWalk.{Kept}
use Rattle.editions.proofs.walk.whole.Given as goal

abbrev pub invariant-loop-entry : goal.invariant-loop-entry
invariant-loop-entry l = Kept l.named l.store l.w

abbrev pub decreases-loop-entry : goal.decreases-loop-entry
decreases-loop-entry l = most_editions - l.w.count
