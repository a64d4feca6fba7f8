-- The order of fractions: it is transitive, and depends on their values alone.
use mathlib.Core.Path.{sym, subst}
use Prim.Native.Nat.{ℕ, ◌≤◌}
use native.Mathlib.Nat.{mul-le-mul_right}
use native.Mathlib.Omega.{arith}
use lib.IntN.{ℤ, pos, ◌*ℤ◌}
use lib.Signed.{◌≤ℤ◌, ≤ℤ_refl}
use Rattle.integers.proofs.Difference.{var, nat, diff_le, le_diff, diff_lt, lt_diff, ◌⊗◌}
use Rattle.integers.proofs.Order.{*ℤ_cancel_≤, *ℤ_cancel_<}
use Rattle.laws.specs.Ratio.{Ratio, ratio, Same, Is, AtMost, Less}

module _ {x y z : Ratio} where
  -- Each order is multiplied by the number under the fraction that is not in it; the number under y then cancels.
  pub at_most_trans : 1 ≤ y.under → AtMost x y → AtMost y z → AtMost x z
  at_most_trans some h k =
      let first = le_diff (var x.top ⊗ nat y.under) (var y.top ⊗ nat x.under) h.order in
      let second = le_diff (var y.top ⊗ nat z.under) (var z.top ⊗ nat y.under) k.order in
      record {
        order =
            *ℤ_cancel_≤ y.under some
            (diff_le (var x.top ⊗ nat z.under ⊗ nat y.under) (var z.top ⊗ nat x.under ⊗ nat y.under)
            (omega (arith, mul-le-mul_right z.under first, mul-le-mul_right x.under second)));
      }

  pub at_most_less : 1 ≤ x.under → AtMost x y → Less y z → Less x z
  at_most_less some h k =
      let first = le_diff (var x.top ⊗ nat y.under) (var y.top ⊗ nat x.under) h.order in
      let second = lt_diff (var y.top ⊗ nat z.under) (var z.top ⊗ nat y.under) k.order in
      record {
        order =
            *ℤ_cancel_< y.under
            (diff_lt (var x.top ⊗ nat z.under ⊗ nat y.under) (var z.top ⊗ nat x.under ⊗ nat y.under)
            (omega (arith, mul-le-mul_right z.under first, mul-le-mul_right x.under second)));
      }

-- Of two fractions of one value, neither is above the other.
pub same_at_most : (x y : Ratio) → Same x y → AtMost x y
same_at_most x y e = record { order = subst (λ (z : ℤ). (x.top *ℤ pos y.under) ≤ℤ z) e (≤ℤ_refl _) }

-- Where x has the value a/u, a fraction that is at most a/u is at most x, and one above a/u is above x.
module _ {x : Ratio} {a : ℤ} {u : ℕ} (is : Is x a u) where
  to : AtMost x (ratio a u)
  to = same_at_most x (ratio a u) is.same

  from : AtMost (ratio a u) x
  from = same_at_most (ratio a u) x (sym is.same)

  pub at_most_value : {f : Ratio} → AtMost f (ratio a u) → AtMost f x
  at_most_value h = at_most_trans is.over h from

  pub value_less : {f : Ratio} → Less (ratio a u) f → Less x f
  value_less h = at_most_less is.proper to h
