-- The square and its products with n and n − 1 fit.
use Rattle.std.proofs.Common.{ℕ, ◌+◌, ◌-◌, ◌*◌, ◌≤◌, arith}
use native.Mathlib.Nat.{mul-le-mul}
use mir.Facts.{Fits-below}
use Rattle.rules.specs.Lot.{most}
use Rattle.readings.proofs.before_midpoint_above.Goals as goal

-- (2s+1)² is at most 20,000,001², for s up to 10,000,000.
squared : {s : ℕ} → s ≤ 10000000 → (2 * s + 1) * (2 * s + 1) ≤ 20000001 * 20000001
squared {s} h = let odd : 2 * s + 1 ≤ 20000001 = omega arith in mul-le-mul odd odd

pub overflow_mul-result-6 : goal.overflow_mul-result-6
overflow_mul-result-6 c =
    let less : c.args.n - 1 ≤ most = omega arith in
    Fits-below {n = 20000001 * 20000001 * most * most} tt (mul-le-mul (mul-le-mul (squared c.requires.1) c.requires.0.few) less)
