-- The three factors are 10,600 more than their PWLs.
use Rattle.std.proofs.Common.{arith}
use Rattle.std.proofs.lemmas.Int.{ints}
use Rattle.rules.specs.Pay.{factor, weighted}
use Rattle.pay.proofs.PayRule.weighted.Goals as goal

pub overflow_add-result-2 : goal.overflow_add-result-2
unfolding factor
overflow_add-result-2 c = omega (arith, ints)

pub returns : goal.returns
unfolding factor weighted
returns c = omega (arith, ints)
