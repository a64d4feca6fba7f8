-- The published mean, deviation and index in document 01's numbers: x̄ is T/n, S² is V/(n·(n − 1)), Q² is (n − 1)·D²/(n·V), and Q is below zero where
-- D is.
use mathlib.Core.Path.{sym, ap, ◌∙◌, subst}
use mathlib.Core.Logic.{◌↔◌}
use mathlib.Core.List.{List, map-id}
use Prim.Native.Nat.{ℕ, ◌-◌, ◌*◌, ◌≤◌}
use native.Mathlib.Nat.{mul-pos}
use native.Mathlib.Omega.{arith}
use lib.IntN.{ℤ, pos, nat_abs, ◌-ℤ◌, ◌*ℤ◌, *ℤ_comm}
use lib.ListN.{length}
use lib.Signed.{◌<ℤ◌}
use Rattle.integers.proofs.Difference.{var, nat, diff_eq, lt_read, ◌⊗◌}
use Rattle.integers.proofs.Ring.{*ℤ_assoc}
use Rattle.integers.proofs.Order.{<ℤ→≤ℤ}
use Rattle.integers.proofs.Magnitude.{nat_abs_parts, nat_abs_mul, nat_abs_pos}
use Rattle.integers.proofs.Square.{square, square_nat, signed, signed_<}
use Rattle.rules.specs.Percent.{sum, totals, spread, upper_distance, lower_distance}
use Rattle.laws.specs.Ratio.{Ratio, whole, minus, Is}
use Rattle.laws.specs.Root.{Root, BelowZero, magnitude}
use Rattle.laws.specs.PublishedIndex.{published_mean, squared_off, published_deviation, upper_beyond, lower_beyond, published_index}
use Rattle.laws.proofs.Spread.{spread_needs_two}
use Rattle.laws.proofs.SquaresOff.{off_squares_spread}
use Rattle.laws.proofs.Value.{is_whole, is_also, is_minus, is_times, is_shared, is_quotient, is_signed_square, is_magnitude, one_sign, is_negative, is_total}

module _ (xs : List ℤ) where
  -- n, T and V
  abbrev n : ℕ
  n = length xs

  abbrev t : ℤ
  t = sum xs

  abbrev v : ℤ
  v = spread (totals (length xs) xs)

  -- (1)
  pub mean_is : 1 ≤ n → Is (published_mean xs) t n
  unfolding published_mean
  mean_is some =
      is_also (is_shared some (is_total whole (λ (x : ℤ). x) 1 (omega arith) is_whole xs)) some
      (ap (λ (ys : List ℤ). sum ys *ℤ pos n) (map-id xs) ∙ diff_eq (var t ⊗ nat n) (var t ⊗ nat (1 * n)) (omega arith))

  whole_is : 1 ≤ n → (x : ℤ) → Is (whole x) (x *ℤ pos n) n
  whole_is some x = is_also (is_whole x) some (diff_eq (var x ⊗ nat n) (var x ⊗ nat n ⊗ nat 1) (omega arith))

  off_is : 1 ≤ n → (x : ℤ) → Is (minus (whole x) (published_mean xs)) (x *ℤ pos n -ℤ t) n
  off_is some x = is_minus (whole_is some x) (mean_is some)

  -- (2)
  pub variance_is : 2 ≤ n → Is (published_deviation xs).square v (n * (n - 1))
  unfolding published_deviation
  variance_is some =
      let off = off_is (omega arith) in
      let least : 1 ≤ n = omega arith in
      let less : 1 ≤ n - 1 = omega arith in
      is_also (is_shared less (is_total (squared_off (published_mean xs)) _ (n * n) (mul-pos least least) (λ x. is_times (off x) (off x)) xs)) (mul-pos least less)
      (ap (λ (x : ℤ). x *ℤ pos (n * (n - 1))) (off_squares_spread xs) ∙ diff_eq (nat n ⊗ var v ⊗ nat (n * (n - 1))) (var v ⊗ nat (n * n * (n - 1))) (omega arith))

  pub upper_beyond_is : 1 ≤ n → (u : ℤ) → Is (upper_beyond u xs) (upper_distance (totals n xs) u) n
  unfolding upper_beyond upper_distance
  upper_beyond_is some u = subst (λ (z : ℤ). Is (upper_beyond u xs) (z -ℤ t) n) (*ℤ_comm u (pos n)) (off_is some u)

  pub lower_beyond_is : 1 ≤ n → (l : ℤ) → Is (lower_beyond l xs) (lower_distance (totals n xs) l) n
  unfolding lower_beyond lower_distance
  lower_beyond_is some l = subst (λ (z : ℤ). Is (lower_beyond l xs) (t -ℤ z) n) (*ℤ_comm l (pos n)) (is_minus (mean_is some) (whole_is some l))

  -- (3) and (4): of the index of a limit that lies D/n beyond the mean, for V above 0
  module _ (above : pos 0 <ℤ v) (beyond : Ratio) (d : ℤ) (is : Is beyond d n) where
    abbrev q : Root
    q = published_index beyond xs

    some : 2 ≤ n
    some = spread_needs_two xs above

    some_spread : 1 ≤ nat_abs v
    some_spread = omega (arith, nat_abs_parts v, lt_read above)

    -- with its sign
    signed_is : Is q.square (d *ℤ pos (nat_abs d) *ℤ pos (n - 1)) (n * nat_abs v)
    signed_is =
        let w : ℕ = nat_abs v in
        let x : ℤ = d *ℤ pos (nat_abs d) in
        let s : Is (published_deviation xs).square (pos w) (n * (n - 1)) = rw (nat_abs_pos (<ℤ→≤ℤ above)) (variance_is some) in
        is_also (is_quotient some_spread (is_signed_square is) s) (mul-pos is.over some_spread)
        (*ℤ_assoc x (pos (n * (n - 1))) (pos (n * w)) ∙ ap (λ (k : ℕ). x *ℤ pos k) (omega arith) ∙ sym (*ℤ_assoc x (pos (n - 1)) (pos (n * n * w))))

    pub index_squared_is : Is (magnitude q).square (d *ℤ d *ℤ pos (n - 1)) (n * nat_abs v)
    unfolding square
    index_squared_is = rw (square_nat d) (rw (nat_abs_mul (d *ℤ pos (nat_abs d)) (pos (n - 1)), nat_abs_mul d (pos (nat_abs d))) at (is_magnitude signed_is))

    pub index_sign_is : BelowZero q ↔ (d <ℤ pos 0)
    unfolding signed
    index_sign_is =
        let x : ℤ = d *ℤ pos (nat_abs d) in
        let one = is_negative signed_is in
        let two = one_sign (x *ℤ pos (n - 1)) x 1 (n - 1) (omega arith) (omega (arith, some)) (diff_eq (var x ⊗ nat (n - 1) ⊗ nat 1) (var x ⊗ nat (n - 1)) (omega arith)) in
        let three = signed_< d (pos 0) in
        (λ h. three.1 (two.0 (one.0 h)), λ h. one.1 (two.1 (three.0 h)))
