-- The six entries, each by its own test.
use Rattle.std.proofs.Common.{rules}
use Rattle.sheets.proofs.unfit.Goals as goal

pub returns : goal.returns
returns c = search rules depth 7
