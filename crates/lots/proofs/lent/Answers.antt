-- The count first, then the walk and the limits.
use Rattle.std.proofs.Common.{sym, ap, ◌∙◌, not}
use Rattle.laws.specs.Totalled.{with_limits_say, totalled}
use Rattle.laws.proofs.Ruled.{ruled_met, ruled_passed}
use Rattle.laws.proofs.Lots.{walked_with_limits}
use Rattle.lots.proofs.lent.Goals as goal

pub returns-then-allowed : goal.returns-then-allowed
unfolding totalled
returns-then-allowed c =
    c.met.ensures
    ∙ ap (with_limits_say c.args.limits.upper c.args.limits.lower) c.walk.ensures
    ∙ walked_with_limits c.args.limits.upper c.args.limits.lower c.args.readings.now
    ∙ sym (ruled_passed _ _ _ (ap not (sym c.if-allowed.ensures)))

pub returns-else-allowed : goal.returns-else-allowed
unfolding totalled
returns-else-allowed c = sym (ruled_met _ _ _ (ap not (sym c.if-allowed.ensures)))
