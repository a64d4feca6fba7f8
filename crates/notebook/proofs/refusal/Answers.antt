-- The refusal of the lent lot is that of its row.
use Rattle.std.proofs.Common.{sym, ap, ◌∙◌}
use Rattle.rules.specs.Host.{host_refusal}
use Rattle.laws.proofs.Lent.{lent_accepted, lent_refused}
use Rattle.notebook.proofs.refusal.Goals as goal

pub returns-in-Err : goal.returns-in-Err
returns-in-Err c = c.refused.ensures ∙ sym (ap host_refusal (lent_refused _ _ _ _ c.lent.ensures.0 c.in-Err.is))

pub returns-in-Ok : goal.returns-in-Ok
returns-in-Ok c = sym (ap host_refusal (lent_accepted _ _ _ _ c.lent.ensures.0 c.in-Ok.is).row)
