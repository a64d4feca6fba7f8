-- The squares of n·x − T over some readings come to n·V.
use mathlib.Core.Path.{◌≡◌, sym, ap, ◌∙◌}
use mathlib.Core.List.{List, [], ◌∷◌, map}
use Prim.Native.Nat.{ℕ, suc, ◌*◌}
use native.Mathlib.Omega.{arith}
use lib.IntN.{ℤ, pos, ◌+ℤ◌, ◌-ℤ◌, ◌*ℤ◌}
use lib.ListN.{length}
use Rattle.integers.proofs.Difference.{var, nat, diff_eq, eq_diff, ◌⊕◌, ◌⊖◌, ◌⊗◌}
use Rattle.integers.proofs.Ring.{*ℤ_distrib_l}
use Rattle.rules.specs.Percent.{sum, squares, totals, spread}

-- (m·y − t)² for any m and t, and its sum over some readings
off_square : (m : ℕ) (t y : ℤ) → (y *ℤ pos m -ℤ t) *ℤ (y *ℤ pos m -ℤ t) ≡ (pos (m * m) *ℤ (y *ℤ y) +ℤ t *ℤ t) -ℤ pos (2 * m) *ℤ (t *ℤ y)
off_square m t y =
    diff_eq ((var y ⊗ nat m ⊖ var t) ⊗ (var y ⊗ nat m ⊖ var t)) (nat (m * m) ⊗ (var y ⊗ var y) ⊕ var t ⊗ var t ⊖ nat (2 * m) ⊗ (var t ⊗ var y)) (omega arith)

one_more :
    (m k l : ℕ) (f s a z c b d : ℤ) →
    f ≡ (pos m *ℤ a +ℤ c) -ℤ pos k *ℤ b →
    s ≡ (pos m *ℤ z +ℤ pos l *ℤ c) -ℤ pos k *ℤ d →
    f +ℤ s ≡ (pos m *ℤ (a +ℤ z) +ℤ pos (suc l) *ℤ c) -ℤ pos k *ℤ (b +ℤ d)
one_more m k l f s a z c b d e h =
    diff_eq (var f ⊕ var s) (nat m ⊗ (var a ⊕ var z) ⊕ nat (suc l) ⊗ var c ⊖ nat k ⊗ (var b ⊕ var d))
    (omega (arith, eq_diff (var f) (nat m ⊗ var a ⊕ var c ⊖ nat k ⊗ var b) e, eq_diff (var s) (nat m ⊗ var z ⊕ nat l ⊗ var c ⊖ nat k ⊗ var d) h))

off_squares :
    (m : ℕ) (t : ℤ) (ys : List ℤ) →
    sum (map (λ (y : ℤ). (y *ℤ pos m -ℤ t) *ℤ (y *ℤ pos m -ℤ t)) ys) ≡ (pos (m * m) *ℤ squares ys +ℤ pos (length ys) *ℤ (t *ℤ t)) -ℤ pos (2 * m) *ℤ (t *ℤ sum ys)
unfolding sum squares
off_squares m t [] = diff_eq (nat 0) (nat (m * m) ⊗ nat 0 ⊕ nat 0 ⊗ (var t ⊗ var t) ⊖ nat (2 * m) ⊗ (var t ⊗ nat 0)) (omega arith)
off_squares m t (y ∷ ys) =
    one_more (m * m) (2 * m) (length ys) _ _ (y *ℤ y) (squares ys) (t *ℤ t) (t *ℤ y) (t *ℤ sum ys) (off_square m t y) (off_squares m t ys)
    ∙ ap (λ (x : ℤ). (pos (m * m) *ℤ (y *ℤ y +ℤ squares ys) +ℤ pos (suc (length ys)) *ℤ (t *ℤ t)) -ℤ pos (2 * m) *ℤ x) (sym (*ℤ_distrib_l t y (sum ys)))

-- With n for m and T for t the sum is n·V.
pub off_squares_spread :
    (xs : List ℤ) → sum (map (λ (x : ℤ). (x *ℤ pos (length xs) -ℤ sum xs) *ℤ (x *ℤ pos (length xs) -ℤ sum xs)) xs) ≡ pos (length xs) *ℤ spread (totals (length xs) xs)
unfolding spread
off_squares_spread xs =
    let n : ℕ = length xs in
    let t : ℤ = sum xs in
    off_squares n t xs
    ∙ diff_eq (nat (n * n) ⊗ var (squares xs) ⊕ nat n ⊗ (var t ⊗ var t) ⊖ nat (2 * n) ⊗ (var t ⊗ var t)) (nat n ⊗ (nat n ⊗ var (squares xs) ⊖ var t ⊗ var t)) (omega arith)
