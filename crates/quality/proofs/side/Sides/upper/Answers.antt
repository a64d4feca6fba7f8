-- An absent limit has 10,000; a present one is in range, so its distance is small enough for its side.
use Rattle.std.proofs.Common.{◌*◌, ◌≤◌, ap, ◌∙◌, refl, arith, rules, ℤ, nat_abs, ◌-ℤ◌, SFits}
use mathlib.Core.Path.{ap₂}
use native.Mathlib.Nat.{le_refl}
use mir.Syntax.{w64}
use mir.Facts.{to_z-of_z}
use Rattle.integers.proofs.Magnitude.{fits_of}
use Rattle.rules.specs.Lot.{most}
use Rattle.rules.specs.Table.{column_in}
use Rattle.rules.specs.Percent.{upper_distance, side, upper_side}
use Rattle.rules.specs.Halving.{rows_tried, upper_tried}
use Rattle.laws.proofs.Bounds.{total_bound}
use Rattle.laws.proofs.Side.{number_in_percent}
use Rattle.quality.proofs.side.Sides.upper.Goals as goal

pub difference-requires : goal.difference-requires
difference-requires c =
    let p : SFits w64 c.times.result = search rules in
    let h : nat_abs c.args.self.now.totals.t ≤ most * 500000 = total_bound c.args.self.now.bounded in
    let t : SFits w64 c.args.self.now.totals.t = fits_of w64 (omega arith) in
    simp to_z-of_z (c.times.ensures.1, h)

pub returns-in-None : goal.returns-in-None
unfolding upper_side upper_tried
returns-in-None c = (rw c.in-None.is refl, number_in_percent 10000 (le_refl 10000), rw c.in-None.is refl)

pub returns-in-Some : goal.returns-in-Some
unfolding upper_distance upper_side upper_tried
returns-in-Some c =
    let s = c.args.self.now in
    let p : SFits w64 c.times.result = search rules in
    let q : SFits w64 c.difference.result = search rules in
    let h : nat_abs s.totals.t ≤ most * 500000 = total_bound s.bounded in
    let t : SFits w64 s.totals.t = fits_of w64 (omega arith) in
    let side_is = simp to_z-of_z at c.side.ensures in
    let distance = simp to_z-of_z at c.difference.ensures.0 ∙ ap (λ (z : ℤ). z -ℤ c.args.self.now.totals.t) c.times.ensures.0 in (
      rw c.in-Some.is (side_is.0 ∙ ap₂ (side _ (column_in s.column.now) s.totals.n) s.spread_is distance),
      c.side.ensures.1,
      rw c.in-Some.is (side_is.2 ∙ ap₂ (rows_tried s.totals.n) s.spread_is distance),
    )
