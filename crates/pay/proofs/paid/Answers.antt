-- Each part by its own promise.
use Rattle.std.proofs.Common.{ap, ◌∙◌}
use Rattle.rules.specs.Pay.{composite}
use Rattle.laws.proofs.Composite.{weighted_lies_between, composite_lies_between}
use Rattle.pay.proofs.paid.Goals as goal

pub composite-composite-requires : goal.composite-composite-requires
composite-composite-requires c = rw c.weighted.ensures (weighted_lies_between c.requires.percents)

pub final_pay-requires : goal.final_pay-requires
final_pay-requires c =
    record {
      price = c.requires.price;
      quantity = c.requires.quantity;
      composite = rw (c.composite-composite.ensures ∙ ap composite c.weighted.ensures) (composite_lies_between c.requires.percents);
    }
