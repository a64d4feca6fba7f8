-- Readings that all move by one amount c: T moves by n·c and Z by 2·c·T + n·c², so that V stays, and so does the distance to a limit
-- that moves too.
use mathlib.Core.Path.{◌≡◌, ap₂, ◌∙◌}
use mathlib.Core.List.{List, [], ◌∷◌}
use Prim.Native.Nat.{ℕ, suc}
use native.Mathlib.Omega.{arith}
use lib.IntN.{ℤ, pos, ◌+ℤ◌, ◌-ℤ◌, ◌*ℤ◌}
use lib.ListN.{length}
use Rattle.integers.proofs.Difference.{var, nat, diff_eq, eq_diff, ◌⊕◌, ◌⊖◌, ◌⊗◌}
use Rattle.integers.proofs.Ring.{*ℤ_distrib_l, -ℤ_shift}
use Rattle.rules.specs.Percent.{sum, squares, totals, spread, upper_distance, lower_distance}
use Rattle.laws.specs.Moved.{moved_readings}

-- T moves by n times the amount.
pub sum_moves : (amount : ℤ) (xs : List ℤ) → sum (moved_readings amount xs) ≡ sum xs +ℤ pos (length xs) *ℤ amount
unfolding sum
sum_moves c [] = diff_eq (nat 0) (nat 0 ⊕ nat 0 ⊗ var c) (omega arith)
sum_moves c (x ∷ xs) =
    let n : ℕ = length xs in
    let t : ℤ = sum xs in
    let t' : ℤ = sum (moved_readings c xs) in
    diff_eq (var x ⊕ var c ⊕ var t') (var x ⊕ var t ⊕ nat (suc n) ⊗ var c)
    (omega (arith, eq_diff (var t') (var t ⊕ nat n ⊗ var c) (sum_moves c xs)))

squares_move : (amount : ℤ) (xs : List ℤ) → squares (moved_readings amount xs) ≡ squares xs +ℤ pos 2 *ℤ (amount *ℤ sum xs) +ℤ pos (length xs) *ℤ (amount *ℤ amount)
unfolding sum squares
squares_move c [] = diff_eq (nat 0) (nat 0 ⊕ nat 2 ⊗ (var c ⊗ nat 0) ⊕ nat 0 ⊗ (var c ⊗ var c)) (omega arith)
squares_move c (x ∷ xs) =
    let n : ℕ = length xs in
    let t : ℤ = sum xs in
    let z : ℤ = squares xs in
    let z' : ℤ = squares (moved_readings c xs) in
    diff_eq ((var x ⊕ var c) ⊗ (var x ⊕ var c) ⊕ var z') (var x ⊗ var x ⊕ var z ⊕ nat 2 ⊗ (var c ⊗ (var x ⊕ var t)) ⊕ nat (suc n) ⊗ (var c ⊗ var c))
    (omega (arith, eq_diff (var z') (var z ⊕ nat 2 ⊗ (var c ⊗ var t) ⊕ nat n ⊗ (var c ⊗ var c)) (squares_move c xs)))

-- V does not change.
pub spread_stays : (amount : ℤ) (xs : List ℤ) → spread (totals (length xs) (moved_readings amount xs)) ≡ spread (totals (length xs) xs)
unfolding spread
spread_stays c xs =
    let n : ℕ = length xs in
    let t : ℤ = sum xs in
    let z : ℤ = squares xs in
    rw (sum_moves c xs, squares_move c xs)
    (diff_eq (nat n ⊗ (var z ⊕ nat 2 ⊗ (var c ⊗ var t) ⊕ nat n ⊗ (var c ⊗ var c)) ⊖ (var t ⊕ nat n ⊗ var c) ⊗ (var t ⊕ nat n ⊗ var c))
    (nat n ⊗ var z ⊖ var t ⊗ var t) (omega arith))

-- Both ends of a distance move by n times the amount, so that it stays.
pub upper_distance_stays : (amount : ℤ) (xs : List ℤ) (u : ℤ) → upper_distance (totals (length xs) (moved_readings amount xs)) (u +ℤ amount) ≡ upper_distance (totals (length xs) xs) u
unfolding upper_distance
upper_distance_stays c xs u =
    let n : ℤ = pos (length xs) in
    ap₂ ◌-ℤ◌ (*ℤ_distrib_l n u c) (sum_moves c xs) ∙ -ℤ_shift (n *ℤ u) (sum xs) (n *ℤ c)

pub lower_distance_stays : (amount : ℤ) (xs : List ℤ) (l : ℤ) → lower_distance (totals (length xs) (moved_readings amount xs)) (l +ℤ amount) ≡ lower_distance (totals (length xs) xs) l
unfolding lower_distance
lower_distance_stays c xs l =
    let n : ℤ = pos (length xs) in
    ap₂ ◌-ℤ◌ (sum_moves c xs) (*ℤ_distrib_l n l c) ∙ -ℤ_shift (sum xs) (n *ℤ l) (n *ℤ c)
