-- V is in its bounds, so that s is a small number and its conversion is exact.
use Rattle.laws.proofs.Bounds.{spread_in_bounds}
use Rattle.notebook.proofs.deviation_of.Goals as goal

pub rounded-requires : goal.rounded-requires
rounded-requires c = spread_in_bounds c.requires c.spread.ensures
