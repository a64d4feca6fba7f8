-- The value of a sum, a difference, a product or a quotient of fractions whose values are known; none has 0 under it.
use mathlib.Core.Path.{◌≡◌, refl, sym, ap, ap₂, ◌∙◌}
use mathlib.Core.Logic.{◌↔◌}
use mathlib.Core.List.{List, [], ◌∷◌, map}
use Prim.Native.Nat.{ℕ, zero, suc, ◌*◌, ◌≤◌}
use native.Mathlib.Nat.{mul_comm, mul-le-mul, mul-le-mul_right}
use native.Mathlib.Omega.{arith}
use lib.IntN.{ℤ, pos, nat_abs, ◌+ℤ◌, ◌-ℤ◌, ◌*ℤ◌}
use lib.Signed.{◌<ℤ◌}
use Rattle.integers.proofs.Difference.{var, nat, diff_eq, eq_diff, diff_lt, lt_read, ◌⊕◌, ◌⊖◌, ◌⊗◌}
use Rattle.integers.proofs.Ring.{*ℤ_swap}
use Rattle.integers.proofs.Order.{*ℤ_cancel, *ℤ_cancel_<}
use Rattle.integers.proofs.Magnitude.{nat_abs_mul}
use Rattle.integers.proofs.Square.{signed, signed_scaled}
use Rattle.rules.specs.Percent.{sum}
use Rattle.laws.specs.Ratio.{Ratio, whole, plus, minus, times, shared, quotient, Is}
use Rattle.laws.specs.Root.{signed_square, Root, magnitude}
use Rattle.laws.specs.PublishedIndex.{total}

pub is_whole : (z : ℤ) → Is (whole z) z 1
is_whole z = record { proper = omega arith; over = omega arith; same = refl }

-- If x has the value a/u, and a/u = b/w, then x has the value b/w.
pub is_also : {x : Ratio} {a b : ℤ} {u w : ℕ} → Is x a u → 1 ≤ w → a *ℤ pos w ≡ b *ℤ pos u → Is x b w
is_also {x} {a} {b} {u} {w} h some e =
    record {
      proper = h.proper;
      over = some;
      same =
          *ℤ_cancel u h.over
          (diff_eq (var x.top ⊗ nat w ⊗ nat u) (var b ⊗ nat x.under ⊗ nat u)
          (omega (
            arith,
            ap (λ n. n * w) (eq_diff (var x.top ⊗ nat u) (var a ⊗ nat x.under) h.same),
            ap (λ n. n * x.under) (eq_diff (var a ⊗ nat w) (var b ⊗ nat u) e),
          )));
    }

-- If x has the value a/u and y the value b/u, then x + y has the value (a + b)/u, and x − y the value (a − b)/u.
pub is_plus : {x y : Ratio} {a b : ℤ} {u : ℕ} → Is x a u → Is y b u → Is (plus x y) (a +ℤ b) u
is_plus {x} {y} {a} {b} {u} h k =
    record {
      proper = mul-le-mul h.proper k.proper;
      over = h.over;
      same =
          diff_eq ((var x.top ⊗ nat y.under ⊕ var y.top ⊗ nat x.under) ⊗ nat u) ((var a ⊕ var b) ⊗ nat (x.under * y.under))
          (omega (
            arith,
            ap (λ n. n * y.under) (eq_diff (var x.top ⊗ nat u) (var a ⊗ nat x.under) h.same),
            ap (λ n. n * x.under) (eq_diff (var y.top ⊗ nat u) (var b ⊗ nat y.under) k.same),
          ));
    }

pub is_minus : {x y : Ratio} {a b : ℤ} {u : ℕ} → Is x a u → Is y b u → Is (minus x y) (a -ℤ b) u
is_minus {x} {y} {a} {b} {u} h k =
    record {
      proper = mul-le-mul h.proper k.proper;
      over = h.over;
      same =
          diff_eq ((var x.top ⊗ nat y.under ⊖ var y.top ⊗ nat x.under) ⊗ nat u) ((var a ⊖ var b) ⊗ nat (x.under * y.under))
          (omega (
            arith,
            ap (λ n. n * y.under) (eq_diff (var x.top ⊗ nat u) (var a ⊗ nat x.under) h.same),
            ap (λ n. n * x.under) (eq_diff (var y.top ⊗ nat u) (var b ⊗ nat y.under) k.same),
          ));
    }

pub is_times : {x y : Ratio} {a b : ℤ} {u w : ℕ} → Is x a u → Is y b w → Is (times x y) (a *ℤ b) (u * w)
is_times {x} {y} {a} {b} {u} {w} h k =
    record {
      proper = mul-le-mul h.proper k.proper;
      over = mul-le-mul h.over k.over;
      same = *ℤ_swap x.top y.top (pos u) (pos w) ∙ ap₂ ◌*ℤ◌ h.same k.same ∙ *ℤ_swap a (pos x.under) b (pos y.under);
    }

pub is_shared : {x : Ratio} {a : ℤ} {u n : ℕ} → 1 ≤ n → Is x a u → Is (shared x n) a (u * n)
is_shared {x} {a} {u} {n} some h =
    record {
      proper = mul-le-mul h.proper some;
      over = mul-le-mul h.over some;
      same =
          diff_eq (var x.top ⊗ nat (u * n)) (var a ⊗ nat (x.under * n))
          (omega (arith, ap (λ m. m * n) (eq_diff (var x.top ⊗ nat u) (var a ⊗ nat x.under) h.same)));
    }

above : (c w : ℕ) → 1 ≤ c * w → 1 ≤ c
above zero w h = absurd (omega arith)
above (suc c) w h = omega arith

-- The quotient of x and a fraction y above 0: the top of y is not 0, so that x/y does not have 0 under it.
pub is_quotient : {x y : Ratio} {a : ℤ} {b u w : ℕ} → 1 ≤ b → Is x a u → Is y (pos b) w → Is (quotient x y) (a *ℤ pos w) (u * b)
is_quotient {x} {y} {a} {b} {u} {w} some h k =
    let c : ℕ = nat_abs y.top in
    let e : c * w ≡ b * y.under = sym (nat_abs_mul y.top (pos w)) ∙ ap nat_abs k.same in
    record {
      proper = mul-le-mul h.proper (above c w (omega (arith, e, mul-le-mul some k.proper)));
      over = mul-le-mul h.over some;
      same =
          *ℤ_swap x.top (pos y.under) (pos u) (pos b)
          ∙ ap₂ (λ (p : ℤ) (m : ℕ). p *ℤ pos m) h.same (mul_comm y.under b ∙ sym e ∙ mul_comm c w)
          ∙ *ℤ_swap a (pos x.under) (pos w) (pos c);
    }

pub is_signed_square : {x : Ratio} {a : ℤ} {u : ℕ} → Is x a u → Is (signed_square x) (a *ℤ pos (nat_abs a)) (u * u)
unfolding signed
is_signed_square {x} {a} {u} h =
    record {
      proper = mul-le-mul h.proper h.proper;
      over = mul-le-mul h.over h.over;
      same = sym (signed_scaled x.top u) ∙ ap signed h.same ∙ signed_scaled a x.under;
    }

pub is_magnitude : {x : Root} {a : ℤ} {u : ℕ} → Is x.square a u → Is (magnitude x).square (pos (nat_abs a)) u
is_magnitude {x} {a} {u} h =
    record {
      proper = h.proper;
      over = h.over;
      same = ap pos (sym (nat_abs_mul x.square.top (pos u)) ∙ ap nat_abs h.same ∙ nat_abs_mul a (pos x.square.under));
    }

-- If a·u = b·w, and u and w are above 0, then a is below 0 exactly when b is; so a fraction is below 0 exactly when its value is.
negative : (a b : ℤ) (u w : ℕ) → 1 ≤ u → a *ℤ pos u ≡ b *ℤ pos w → a <ℤ pos 0 → b <ℤ pos 0
negative a b u w some e h =
    *ℤ_cancel_< w
    (diff_lt (var b ⊗ nat w) (nat 0 ⊗ nat w) (omega (arith, eq_diff (var a ⊗ nat u) (var b ⊗ nat w) e, mul-le-mul_right u (lt_read h))))

pub one_sign : (a b : ℤ) (u w : ℕ) → 1 ≤ u → 1 ≤ w → a *ℤ pos u ≡ b *ℤ pos w → (a <ℤ pos 0) ↔ (b <ℤ pos 0)
one_sign a b u w some more e = (negative a b u w some e, negative b a w u more (sym e))

pub is_negative : {x : Ratio} {a : ℤ} {u : ℕ} → Is x a u → (x.top <ℤ pos 0) ↔ (a <ℤ pos 0)
is_negative {x} {a} {u} h = one_sign x.top a u x.under h.over h.proper h.same

-- ---- sums over readings

pub is_total : (f : ℤ → Ratio) (g : ℤ → ℤ) (u : ℕ) → 1 ≤ u → ((x : ℤ) → Is (f x) (g x) u) → (xs : List ℤ) → Is (total (map f xs)) (sum (map g xs)) u
unfolding total sum
is_total f g u some each [] = record { proper = omega arith; over = some; same = diff_eq (nat 0 ⊗ nat u) (nat 0) (omega arith) }
is_total f g u some each (x ∷ xs) = is_plus (each x) (is_total f g u some each xs)
