-- Readings turned about zero: T changes its sign and Z stays, so that V stays, and the distance to a limit that turns too goes over to
-- the other side.
use mathlib.Core.Path.{◌≡◌, refl, ap₂}
use mathlib.Core.List.{List, [], ◌∷◌, map}
use Prim.Native.Nat.{ℕ}
use native.Mathlib.Omega.{arith}
use lib.IntN.{ℤ, neg_ℤ, ◌+ℤ◌}
use Rattle.integers.proofs.Difference.{var, nat, diff_eq, eq_diff, ⊝◌, ◌⊕◌, ◌⊖◌, ◌⊗◌}
use Rattle.integers.proofs.Ring.{neg_*ℤ_neg}
use Rattle.rules.specs.Percent.{sum, squares, totals, spread, upper_distance, lower_distance}

sum_turned : (xs : List ℤ) → sum (map neg_ℤ xs) ≡ neg_ℤ (sum xs)
unfolding sum
sum_turned [] = refl
sum_turned (x ∷ xs) = diff_eq (⊝ var x ⊕ var (sum (map neg_ℤ xs))) (⊝ (var x ⊕ var (sum xs))) (omega (arith, eq_diff (var _) (⊝ var (sum xs)) (sum_turned xs)))

squares_turned : (xs : List ℤ) → squares (map neg_ℤ xs) ≡ squares xs
unfolding squares
squares_turned [] = refl
squares_turned (x ∷ xs) = ap₂ (λ (s z : ℤ). s +ℤ z) (neg_*ℤ_neg x x) (squares_turned xs)

module _ (n : ℕ) (xs : List ℤ) where
  pub spread_turned : spread (totals n (map neg_ℤ xs)) ≡ spread (totals n xs)
  unfolding spread
  spread_turned =
      rw (sum_turned xs, squares_turned xs) (diff_eq (nat n ⊗ var (squares xs) ⊖ ⊝ var (sum xs) ⊗ ⊝ var (sum xs)) (nat n ⊗ var (squares xs) ⊖ var (sum xs) ⊗ var (sum xs)) (omega arith))

  pub upper_distance_turned : (l : ℤ) → upper_distance (totals n (map neg_ℤ xs)) (neg_ℤ l) ≡ lower_distance (totals n xs) l
  unfolding upper_distance lower_distance
  upper_distance_turned l = rw (sum_turned xs) (diff_eq (nat n ⊗ ⊝ var l ⊖ ⊝ var (sum xs)) (var (sum xs) ⊖ nat n ⊗ var l) (omega arith))

  pub lower_distance_turned : (u : ℤ) → lower_distance (totals n (map neg_ℤ xs)) (neg_ℤ u) ≡ upper_distance (totals n xs) u
  unfolding upper_distance lower_distance
  lower_distance_turned u = rw (sum_turned xs) (diff_eq (⊝ var (sum xs) ⊖ nat n ⊗ ⊝ var u) (nat n ⊗ var u ⊖ var (sum xs)) (omega arith))
