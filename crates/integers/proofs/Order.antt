-- The order of the integers, and the tests that decide it.
use mathlib.Core.Path.{◌≡◌, sym, ◌∙◌, subst}
use mathlib.Core.Bool.{Bool, true, false, not}
use mathlib.Core.Logic.{◌⊎◌, inl, inr, ⊎_elim}
use Prim.Native.Nat.{ℕ, ◌+◌, ◌≤◌}
use native.Mathlib.Nat.{mul-le-mul_left}
use native.Mathlib.Omega.{arith}
use lib.IntN.{ℤ, pos, neg_ℤ, ◌+ℤ◌, ◌-ℤ◌, ◌*ℤ◌}
use lib.Signed.{◌≤ℤ◌, ◌<ℤ◌, ≤ℤ_refl, le_z, lt_z, le_z_yes, lt_z_yes, lt_z_no, clash_ℤ}
use lib.Dec.{T, not_T}
use lib.Ieee.Bits.{is_true, is_false}
use Rattle.integers.proofs.Difference.{Diff, var, nat, diff_eq, diff_le, diff_lt, le_diff, lt_diff, le_read, lt_read, arithℤ, ⊝◌, ◌⊕◌, ◌⊖◌, ◌⊗◌}

-- The kit's lib.Signed has `≤ℤ_refl`, `<ℤ_irrefl`, `<ℤ-≤ℤ_trans` and `clash_ℤ`.
pub ≤ℤ_trans : {x y z : ℤ} → x ≤ℤ y → y ≤ℤ z → x ≤ℤ z
≤ℤ_trans {x} {y} {z} h k = diff_le (var x) (var z) (omega arithℤ)

pub ≤ℤ_antisym : {x y : ℤ} → x ≤ℤ y → y ≤ℤ x → x ≡ y
≤ℤ_antisym {x} {y} h k = diff_eq (var x) (var y) (omega arithℤ)

pub <ℤ→≤ℤ : {x y : ℤ} → x <ℤ y → x ≤ℤ y
<ℤ→≤ℤ {x} {y} h = diff_le (var x) (var y) (omega arithℤ)

pub ≤ℤ_<ℤ_trans : {x y z : ℤ} → x ≤ℤ y → y <ℤ z → x <ℤ z
≤ℤ_<ℤ_trans {x} {y} {z} h k = diff_lt (var x) (var z) (omega arithℤ)

pub ≤ℤ_total : (x y : ℤ) → (x ≤ℤ y) ⊎ (y <ℤ x)
≤ℤ_total x y = by_test (lt_z y x) lt_z_yes lt_z_no
  where
    by_test : (t : Bool) → (T t → y <ℤ x) → (T (not t) → x ≤ℤ y) → (x ≤ℤ y) ⊎ (y <ℤ x)
    by_test true h k = inr (h tt)
    by_test false h k = inl (k tt)

-- x < y says x + 1 ≤ y.
pub <ℤ_step : {x y : ℤ} → x <ℤ y → (x +ℤ pos 1) ≤ℤ y
<ℤ_step {x} {y} h = diff_le (var x ⊕ nat 1) (var y) (omega arithℤ)

pub <ℤ_step_back : (x : ℤ) {y : ℤ} → (x +ℤ pos 1) ≤ℤ y → x <ℤ y
<ℤ_step_back x {y} h = diff_lt (var x) (var y) (omega (arith, le_diff (var x ⊕ nat 1) (var y) h))

-- Sums, differences, negation, and the product with a natural number keep the order or turn it round.
pub +ℤ_mono : {x y u v : ℤ} → x ≤ℤ y → u ≤ℤ v → (x +ℤ u) ≤ℤ (y +ℤ v)
+ℤ_mono {x} {y} {u} {v} h k = diff_le (var x ⊕ var u) (var y ⊕ var v) (omega arithℤ)

pub +ℤ_cancel_≤ : (x y d : ℤ) → (x +ℤ d) ≤ℤ (y +ℤ d) → x ≤ℤ y
+ℤ_cancel_≤ x y d h = diff_le (var x) (var y) (omega (arith, le_diff (var x ⊕ var d) (var y ⊕ var d) h))

pub -ℤ_mono : {x y u v : ℤ} → x ≤ℤ y → v ≤ℤ u → (x -ℤ u) ≤ℤ (y -ℤ v)
-ℤ_mono {x} {y} {u} {v} h k = diff_le (var x ⊖ var u) (var y ⊖ var v) (omega arithℤ)

pub neg_flips : {x y : ℤ} → x ≤ℤ y → neg_ℤ y ≤ℤ neg_ℤ x
neg_flips {x} {y} h = diff_le (⊝ var y) (⊝ var x) (omega arithℤ)

pub *ℤ_mono_l : (n : ℕ) {x y : ℤ} → x ≤ℤ y → (pos n *ℤ x) ≤ℤ (pos n *ℤ y)
*ℤ_mono_l n {x} {y} h = diff_le (nat n ⊗ var x) (nat n ⊗ var y) (omega (arith, mul-le-mul_left n (le_read h)))

-- A common factor above 0 cancels from ≤, < and =. (From x·n < y·n it follows that n is above 0.)
pub *ℤ_cancel_≤ : (n : ℕ) {x y : ℤ} → 1 ≤ n → (x *ℤ pos n) ≤ℤ (y *ℤ pos n) → x ≤ℤ y
*ℤ_cancel_≤ n {x} {y} some h =
    let low = le_diff (var x ⊗ nat n) (var y ⊗ nat n) h in
    ⊎_elim (λ k. k) (λ k. absurd (omega (arith, low, mul-le-mul_left n (lt_read k)))) (≤ℤ_total x y)

pub *ℤ_cancel_< : (n : ℕ) {x y : ℤ} → (x *ℤ pos n) <ℤ (y *ℤ pos n) → x <ℤ y
*ℤ_cancel_< n {x} {y} h =
    let low = lt_diff (var x ⊗ nat n) (var y ⊗ nat n) h in
    ⊎_elim (λ k. absurd (omega (arith, low, mul-le-mul_left n (le_read k)))) (λ k. k) (≤ℤ_total y x)

pub *ℤ_cancel : (n : ℕ) {x y : ℤ} → 1 ≤ n → x *ℤ pos n ≡ y *ℤ pos n → x ≡ y
*ℤ_cancel n {x} {y} some e = ≤ℤ_antisym (*ℤ_cancel_≤ n some (subst (λ (z : ℤ). (x *ℤ pos n) ≤ℤ z) e (≤ℤ_refl _))) (*ℤ_cancel_≤ n some (subst (λ (z : ℤ). z ≤ℤ (x *ℤ pos n)) e (≤ℤ_refl _)))

pub pos_mono : {m n : ℕ} → m ≤ n → pos m ≤ℤ pos n
pos_mono {m} {n} h = diff_le (nat m) (nat n) (omega arith)

-- What a test of order answers where the order is known, and back.
pub le_le_z : {x y : ℤ} → x ≤ℤ y → le_z x y ≡ true
le_le_z {x} {y} h = is_true (le_z x y) h.le

pub lt_le_z : {x y : ℤ} → y <ℤ x → le_z x y ≡ false
lt_le_z {x} {y} h = is_false (le_z x y) (not_T (le_z x y) (λ t. clash_ℤ h (le_z_yes t)))

pub lt_lt_z : {x y : ℤ} → x <ℤ y → lt_z x y ≡ true
lt_lt_z {x} {y} h = is_true (lt_z x y) h.lt

pub le_lt_z : {x y : ℤ} → y ≤ℤ x → lt_z x y ≡ false
le_lt_z {x} {y} h = is_false (lt_z x y) (not_T (lt_z x y) (λ t. clash_ℤ (lt_z_yes t) h))

pub le_z_true : (x y : ℤ) → le_z x y ≡ true → x ≤ℤ y
le_z_true x y e = le_z_yes (subst T (sym e) tt)

pub le_z_false : (x y : ℤ) → le_z x y ≡ false → y <ℤ x
le_z_false x y e = ⊎_elim (λ h. absurd (subst T e h.le)) (λ k. k) (≤ℤ_total x y)

pub lt_z_true : (x y : ℤ) → lt_z x y ≡ true → x <ℤ y
lt_z_true x y e = lt_z_yes (subst T (sym e) tt)

pub lt_z_false : (x y : ℤ) → lt_z x y ≡ false → y ≤ℤ x
lt_z_false x y e = lt_z_no (subst (λ (t : Bool). T (not t)) (sym e) tt)

-- If x − y = u − v, then a test of x and y answers as the same test of u and v.
module _ {x y u v : ℤ} {p q r s p' q' r' s' : ℕ} (dx : Diff x p q) (dy : Diff y r s) (du : Diff u p' q') (dv : Diff v r' s')
    (e : p + s + (r' + q') ≡ p' + s' + (r + q)) where
  pub le_z_alike : le_z x y ≡ le_z u v
  le_z_alike =
      ⊎_elim (λ h. le_le_z (diff_le dx dy (omega (arith, le_diff du dv h))) ∙ sym (le_le_z h))
      (λ k. lt_le_z (diff_lt dy dx (omega (arith, lt_diff dv du k))) ∙ sym (lt_le_z k)) (≤ℤ_total u v)

  pub lt_z_alike : lt_z x y ≡ lt_z u v
  lt_z_alike =
      ⊎_elim (λ h. le_lt_z (diff_le dy dx (omega (arith, le_diff dv du h))) ∙ sym (le_lt_z h))
      (λ k. lt_lt_z (diff_lt dx dy (omega (arith, lt_diff du dv k))) ∙ sym (lt_lt_z k)) (≤ℤ_total v u)

-- Negating both numbers turns a test round, and adding one number to both leaves it as it is.
pub le_z_neg : (x y : ℤ) → le_z (neg_ℤ x) (neg_ℤ y) ≡ le_z y x
le_z_neg x y = le_z_alike (⊝ var x) (⊝ var y) (var y) (var x) (omega arith)

pub lt_z_neg : (x y : ℤ) → lt_z (neg_ℤ x) (neg_ℤ y) ≡ lt_z y x
lt_z_neg x y = lt_z_alike (⊝ var x) (⊝ var y) (var y) (var x) (omega arith)

pub le_z_shift : (x y d : ℤ) → le_z (x +ℤ d) (y +ℤ d) ≡ le_z x y
le_z_shift x y d = le_z_alike (var x ⊕ var d) (var y ⊕ var d) (var x) (var y) (omega arith)

pub lt_z_shift : (x y d : ℤ) → lt_z (x +ℤ d) (y +ℤ d) ≡ lt_z x y
lt_z_shift x y d = lt_z_alike (var x ⊕ var d) (var y ⊕ var d) (var x) (var y) (omega arith)
