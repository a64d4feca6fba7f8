-- A refused lot's deviation is 0; else it is that of the totals, and so the row's.
use Rattle.std.proofs.Common.{sym, ap, ◌∙◌}
use Rattle.std.specs.Float.Ieee.{of_bits}
use Rattle.rules.specs.Notebook.{row_of, deviation_asked}
use Rattle.laws.proofs.Lent.{lent_accepted, lent_refused}
use Rattle.notebook.proofs.deviation.Goals as goal

pub deviation_of-requires : goal.deviation_of-requires
deviation_of-requires c = (lent_accepted _ _ _ _ c.lent.ensures.0 c.in-Ok.is).bounded

pub returns-in_default : goal.returns-in_default
unfolding of_bits
returns-in_default c = sym (ap deviation_asked (lent_refused _ _ _ _ c.lent.ensures.0 c.in_default.is))

pub returns : goal.returns
unfolding row_of
returns c = c.deviation_of.ensures ∙ sym (ap deviation_asked (lent_accepted _ _ _ _ c.lent.ensures.0 c.in-Ok.is).row)
