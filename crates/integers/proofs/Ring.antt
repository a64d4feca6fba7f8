-- Identities of the ring of integers, by certificates. The kit's lib.IntN has the group's (`+ℤ_invr x` is x -ℤ x ≡ pos 0) and `*ℤ-comm`.
use mathlib.Core.Path.{◌≡◌, sym, ap, ◌∙◌}
use native.Mathlib.Omega.{arith}
use lib.IntN.{ℤ, neg_ℤ, ◌+ℤ◌, ◌-ℤ◌, ◌*ℤ◌, *ℤ_comm}
use Rattle.integers.proofs.Difference.{var, diff_eq, ⊝◌, ◌⊕◌, ◌⊖◌, ◌⊗◌}

pub *ℤ_distrib_l : (x y z : ℤ) → x *ℤ (y +ℤ z) ≡ x *ℤ y +ℤ x *ℤ z
*ℤ_distrib_l x y z = diff_eq (var x ⊗ (var y ⊕ var z)) (var x ⊗ var y ⊕ var x ⊗ var z) (omega arith)

pub *ℤ_distrib_r : (x y z : ℤ) → (x +ℤ y) *ℤ z ≡ x *ℤ z +ℤ y *ℤ z
*ℤ_distrib_r x y z = diff_eq ((var x ⊕ var y) ⊗ var z) (var x ⊗ var z ⊕ var y ⊗ var z) (omega arith)

pub *ℤ_assoc : (x y z : ℤ) → (x *ℤ y) *ℤ z ≡ x *ℤ (y *ℤ z)
*ℤ_assoc x y z = diff_eq (var x ⊗ var y ⊗ var z) (var x ⊗ (var y ⊗ var z)) (omega arith)

-- A negated factor negates the product, and two cancel.
pub neg_*ℤ_l : (x y : ℤ) → neg_ℤ x *ℤ y ≡ neg_ℤ (x *ℤ y)
neg_*ℤ_l x y = diff_eq (⊝ var x ⊗ var y) (⊝ (var x ⊗ var y)) (omega arith)

pub neg_*ℤ_r : (x y : ℤ) → x *ℤ neg_ℤ y ≡ neg_ℤ (x *ℤ y)
neg_*ℤ_r x y = diff_eq (var x ⊗ ⊝ var y) (⊝ (var x ⊗ var y)) (omega arith)

pub neg_*ℤ_neg : (x y : ℤ) → neg_ℤ x *ℤ neg_ℤ y ≡ x *ℤ y
neg_*ℤ_neg x y = diff_eq (⊝ var x ⊗ ⊝ var y) (var x ⊗ var y) (omega arith)

-- A difference does not change when both its ends move by d.
pub -ℤ_shift : (x y d : ℤ) → (x +ℤ d) -ℤ (y +ℤ d) ≡ x -ℤ y
-ℤ_shift x y d = diff_eq ((var x ⊕ var d) ⊖ (var y ⊕ var d)) (var x ⊖ var y) (omega arith)

-- Both −(x − y) and (−x) − (−y) are y − x.
pub neg_-ℤ : (x y : ℤ) → neg_ℤ (x -ℤ y) ≡ y -ℤ x
neg_-ℤ x y = diff_eq (⊝ (var x ⊖ var y)) (var y ⊖ var x) (omega arith)

pub neg_diff_neg : (x y : ℤ) → neg_ℤ x -ℤ neg_ℤ y ≡ y -ℤ x
neg_diff_neg x y = diff_eq (⊝ var x ⊖ ⊝ var y) (var y ⊖ var x) (omega arith)

-- The two inner terms of a sum of sums change places, and the two inner factors of a product of products.
pub +ℤ_swap : (a b c d : ℤ) → (a +ℤ b) +ℤ (c +ℤ d) ≡ (a +ℤ c) +ℤ (b +ℤ d)
+ℤ_swap a b c d = diff_eq (var a ⊕ var b ⊕ (var c ⊕ var d)) (var a ⊕ var c ⊕ (var b ⊕ var d)) (omega arith)

pub *ℤ_swap : (a b c d : ℤ) → (a *ℤ b) *ℤ (c *ℤ d) ≡ (a *ℤ c) *ℤ (b *ℤ d)
*ℤ_swap a b c d =
    *ℤ_assoc a b (c *ℤ d) ∙ ap (λ (x : ℤ). a *ℤ x) (sym (*ℤ_assoc b c d) ∙ ap (λ (x : ℤ). x *ℤ d) (*ℤ_comm b c) ∙ *ℤ_assoc c b d) ∙ sym (*ℤ_assoc a c (b *ℤ d))
