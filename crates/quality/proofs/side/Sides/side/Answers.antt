-- What the side reaches, or the rest to 10,000, by the sign of the distance.
use Rattle.std.proofs.Common.{sym, ap, ◌∙◌, rules, ℤ, pos, ◌-ℤ◌}
use mir.Facts.{to_z-of_z}
use Rattle.rules.specs.Units.{hundred_percent}
use Rattle.rules.specs.Table.{column_in}
use Rattle.laws.proofs.Side.{side_inside, side_outside}
use Rattle.quality.proofs.side.Sides.side.Goals as goal

pub returns-then-d-ge0 : goal.returns-then-d-ge0
returns-then-d-ge0 c =
    let f = c.ranges.d in
    let s = c.args.self.now in
    let reached = simp to_z-of_z at c.reached-reached.ensures in
    (reached.0 ∙ sym (side_inside _ (column_in s.column.now) s.totals.n (pos s.v) c.args.d (search rules)), c.reached-reached.ensures.1, reached.2)

pub returns : goal.returns
returns c =
    let f = c.ranges.d in
    let s = c.args.self.now in
    let reached = simp to_z-of_z at c.reached-reached.ensures in (
      c.rest.ensures.0
          ∙ ap (λ (e : ℤ). hundred_percent -ℤ e) reached.0
          ∙ sym (side_outside _ (column_in s.column.now) s.totals.n (pos s.v) c.args.d (search rules)),
      c.rest.ensures.1,
      reached.2,
    )
