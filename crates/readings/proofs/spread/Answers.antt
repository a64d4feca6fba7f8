-- The difference is V, which is its own magnitude.
use Rattle.std.proofs.Common.{◌≡◌, rules, ap, ◌∙◌, pos, nat_abs}
use Rattle.integers.proofs.Magnitude.{nat_abs_pos}
use Rattle.rules.specs.Percent.{spread}
use Rattle.readings.proofs.spread.Goals as goal

pub returns : goal.returns
unfolding spread
returns c =
    let d : c.difference.result ≡ spread c.args.a = search rules in
    let m : c.magnitude.result ≡ nat_abs c.difference.result = search rules in
    ap pos (m ∙ ap nat_abs d) ∙ nat_abs_pos c.requires.spread_not_negative
