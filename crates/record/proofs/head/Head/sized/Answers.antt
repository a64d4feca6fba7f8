-- By the test there are 13 bytes at least.
use Rattle.std.proofs.Common.{arith}
use Rattle.record.proofs.head.Head.sized.Goals as goal

pub invariant_of-head : goal.invariant_of-head
invariant_of-head c = record { whole = omega arith }
