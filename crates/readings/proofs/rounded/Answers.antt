-- Each number tried is small; s is the first whose midpoint above the deviation does not reach.
use Rattle.std.proofs.Common.{◌≡◌, true, sym, arith, pos}
use mathlib.Core.Path.{subst⁻¹}
use native.Mathlib.Numerals.{add-one}
use lib.Dec.{T}
use lib.Ieee.Fits.{and_i}
use Rattle.rules.specs.Deviation.{before_midpoint_above, from_midpoint_below}
use Rattle.laws.proofs.Deviation.{from_midpoint_below_next, deviation_is_small, only_deviation_meets}
use Rattle.readings.proofs.rounded.Goals as goal

pub before_midpoint_above-requires : goal.before_midpoint_above-requires
before_midpoint_above-requires c = (c.requires, deviation_is_small c.args.n c.args.v c.loop-s.s c.requires c.loop-s.invariant)

pub loop-s-preserved : goal.loop-s-preserved
loop-s-preserved c =
    rw (add-one c.loop-s.s) (from_midpoint_below_next c.args.n c.args.v c.loop-s.s (sym c.loop-s-test.ensures))

pub loop-s-smaller : goal.loop-s-smaller
loop-s-smaller c = omega (arith, deviation_is_small c.args.n c.args.v c.loop-s.s c.requires c.loop-s.invariant)

pub returns : goal.returns
returns c =
    let above : before_midpoint_above c.args.n (pos c.args.v) c.loop-s.s ≡ true = sym c.loop-s-test.ensures in (
      sym (only_deviation_meets c.args.n c.args.v c.loop-s.s c.requires.least (and_i (before_midpoint_above c.args.n (pos c.args.v) c.loop-s.s) (from_midpoint_below c.args.n (pos c.args.v) c.loop-s.s) (subst⁻¹ T above tt) c.loop-s.invariant)),
      deviation_is_small c.args.n c.args.v c.loop-s.s c.requires c.loop-s.invariant,
    )
