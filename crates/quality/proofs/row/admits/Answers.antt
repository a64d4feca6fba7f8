-- The products fit, and for a row from 1 on the test is that of the midpoint alone.
use Rattle.std.proofs.Common.{◌≡◌, ℕ, ◌-◌, ◌*◌, ◌≤◌, false, ap, arith, rules, nat_abs}
use native.Mathlib.Nat.{mul-le-mul}
use borrow.Author.Tests.{ne_eqb}
use lib.Dec.{leb, eqb}
use mir.Facts.{Fits-below}
use Rattle.rules.specs.Lot.{most}
use Rattle.rules.specs.Percent.{midpoint_squared, admits}
use Rattle.laws.proofs.Row.{index_by_magnitude}
use Rattle.quality.proofs.row.admits.Goals as goal

-- (2k−1)² is at most 105², up to row 53
odd_squared : {k : ℕ} → k ≤ 53 → (2 * k - 1) * (2 * k - 1) ≤ 105 * 105
odd_squared {k} h = let odd : 2 * k - 1 ≤ 105 = omega arith in mul-le-mul odd odd

pub overflow_mul-result-5 : goal.overflow_mul-result-5
overflow_mul-result-5 c =
    Fits-below {n = 105 * 105 * most * (most * (most * 250000000000))} tt
    (mul-le-mul (mul-le-mul (odd_squared c.requires.3) c.requires.0.few) c.requires.0.small)

pub returns : goal.returns
unfolding midpoint_squared admits
returns c =
    let k : ℕ = c.args.k in
    let distance : c.magnitude-distance.result ≡ nat_abs c.args.d = search rules in
    let later : eqb k 0 ≡ false = ne_eqb k 0 (λ e. omega (arith, c.requires.2)) in
    let midpoint : ℕ = (2 * k - 1) * (2 * k - 1) * c.args.n * c.args.v in
    rw (later, index_by_magnitude c.args.n c.args.d) (ap (λ (m : ℕ). leb midpoint (1600 * (c.args.n - 1) * (m * m))) distance)
