-- The deviation meets its two inequalities, and nothing else does.
use mathlib.Core.Path.{◌≡◌, refl, subst⁻¹}
use mathlib.Core.Bool.{true, false}
use Prim.Native.Nat.{ℕ, zero, suc, ◌+◌, ◌-◌, ◌*◌, ◌≤◌, ◌<◌, zero-le}
use native.Mathlib.Nat.{le_refl, le_trans, mul-le-mul, mul-le-mul_left}
use native.Mathlib.Decide.{dec_le}
use native.Mathlib.Omega.{arith}
use borrow.Author.Tests.{lt-ltb, ltb-false, ne_eqb}
use lib.Dec.{T, leb→le, le→leb, ltb→lt, eqb-suc-zero}
use lib.Ieee.Bits.{is_true}
use lib.Ieee.Fits.{and_i, and_l, and_r}
use lib.IntN.{pos}
use Rattle.rules.specs.Deviation.{before_midpoint_above, from_midpoint_below, is_deviation, first_from, deviation}
use Rattle.laws.specs.Bounds.{SpreadInBounds}
use Rattle.laws.proofs.Search.{first_at_most, first_passes, none_before}

-- If a ≤ b, then a²·n·(n−1) ≤ b²·n·(n−1).
grows : (n : ℕ) {a b : ℕ} → a ≤ b → a * a * n * (n - 1) ≤ b * b * n * (n - 1)
grows n h = mul-le-mul (mul-le-mul (mul-le-mul h h) (le_refl n)) (le_refl (n - 1))

-- The two inequalities, as orders.
pub is_before_midpoint_above : (n v s : ℕ) → T (is_deviation n (pos v) s) → 4 * v < (2 * s + 1) * (2 * s + 1) * n * (n - 1)
is_before_midpoint_above n v s t = ltb→lt _ _ (and_l (before_midpoint_above n (pos v) s) (from_midpoint_below n (pos v) s) t)

pub is_from_midpoint_below : (n v s : ℕ) → 0 < s → T (is_deviation n (pos v) s) → (2 * s - 1) * (2 * s - 1) * n * (n - 1) ≤ 4 * v
is_from_midpoint_below n v s h t =
    leb→le _ _ (rw (ne_eqb s 0 (λ z. omega arith)) at (and_r (before_midpoint_above n (pos v) s) (from_midpoint_below n (pos v) s) t))

-- The unrounded deviation is before the midpoint above s = V, 4V < (2V+1)²·n·(n−1), so V tries are enough.
enough : (n v : ℕ) → 2 ≤ n → before_midpoint_above n (pos v) v ≡ true
enough n v low =
    let once : 1 ≤ 2 * v + 1 = omega arith in
    let one : 1 ≤ n - 1 = omega arith in
    let least : (2 * v + 1) * 1 * 2 * 1 ≤ (2 * v + 1) * (2 * v + 1) * n * (n - 1) = mul-le-mul (mul-le-mul (mul-le-mul_left (2 * v + 1) once) low) one in
    lt-ltb (4 * v) ((2 * v + 1) * (2 * v + 1) * n * (n - 1)) (omega arith)

-- If the unrounded deviation is not before the midpoint above s, it is at or past the midpoint below s + 1, which is the same.
pub from_midpoint_below_next : (n v s : ℕ) → before_midpoint_above n (pos v) s ≡ false → T (from_midpoint_below n (pos v) (suc s))
from_midpoint_below_next n v s e =
    let same : 2 * suc s - 1 ≤ 2 * s + 1 = omega arith in
    rw (eqb-suc-zero s) (le→leb _ _ (le_trans (grows n same) (ltb-false _ _ e)))

-- For n and V in bounds, if the unrounded deviation is at or past the midpoint below s, then s is at most 10,000,000.
pub deviation_is_small : (n v s : ℕ) → SpreadInBounds n v → T (from_midpoint_below n (pos v) s) → s ≤ 10000000
deviation_is_small n v zero h t = zero-le
deviation_is_small n v (suc s) h t =
    elim (dec_le (suc s) 10000000) [
      | yes k ↦ k
      | no k ↦
          let odd : 20000001 ≤ 2 * suc s - 1 = omega arith in
          let one : 1 ≤ n - 1 = omega arith in
          let least : 20000001 * 20000001 * 2 * 1 ≤ 20000001 * 20000001 * n * (n - 1) = mul-le-mul (mul-le-mul_left (20000001 * 20000001) h.least) one in
          let here : (2 * suc s - 1) * (2 * suc s - 1) * n * (n - 1) ≤ 4 * v = leb→le _ _ (rw (eqb-suc-zero s) at t) in
          absurd (omega (arith, grows n odd))
    ]

-- The first s with the unrounded deviation before the midpoint above it meets both inequalities,
meets_from : (n v : ℕ) → 2 ≤ n → T (is_deviation n (pos v) (first_from (before_midpoint_above n (pos v)) v 0))
meets_from n v low =
    and_i (before_midpoint_above n (pos v) s) (from_midpoint_below n (pos v) s)
    (subst⁻¹ T (first_passes (before_midpoint_above n (pos v)) v 0 v zero-le (omega arith) (enough n v low)) tt) (by s refl)
  where
    s : ℕ
    s = first_from (before_midpoint_above n (pos v)) v 0

    by : (r : ℕ) → s ≡ r → T (from_midpoint_below n (pos v) r)
    by zero e = tt
    by (suc r) e = from_midpoint_below_next n v r (none_before (before_midpoint_above n (pos v)) v 0 r zero-le (omega (arith, e)))

-- so the deviation does.
pub deviation_meets_both : (n v : ℕ) → 2 ≤ n → T (is_deviation n (pos v) (deviation n (pos v)))
unfolding deviation
deviation_meets_both n v low =
    subst⁻¹ T
    (first_passes (is_deviation n (pos v)) v 0 _ zero-le (first_at_most (before_midpoint_above n (pos v)) v 0) (is_true _ (meets_from n v low)))
    tt

-- Of two numbers that meet both, neither is below the other: for s < r, the midpoint above s is not above the midpoint below r.
not_less : (n v s r : ℕ) → T (is_deviation n (pos v) s) → T (is_deviation n (pos v) r) → s < r → ⊥
not_less n v s r here there h =
    let odd : 2 * s + 1 ≤ 2 * r - 1 = omega arith in
    omega (arith, is_before_midpoint_above n v s here, is_from_midpoint_below n v r (omega arith) there, grows n odd)

pub only_deviation_meets : (n v s : ℕ) → 2 ≤ n → T (is_deviation n (pos v) s) → deviation n (pos v) ≡ s
only_deviation_meets n v s low here =
    let there : T (is_deviation n (pos v) (deviation n (pos v))) = deviation_meets_both n v low in
    omega (arith, not_less n v s (deviation n (pos v)) here there, not_less n v (deviation n (pos v)) s there here)
