-- The nearest rule is a `RowRule` and an `EvenRule`: its row depends on the magnitude of the distance alone, and never falls as that grows.
use mathlib.Core.Path.{◌≡◌, refl, ap}
use mathlib.Core.Logic.{inl}
use Prim.Native.Nat.{ℕ, ◌-◌, ◌*◌, ◌≤◌, zero-le}
use native.Mathlib.Nat.{mul-le-mul_left}
use native.Mathlib.Omega.{arith}
use lib.IntN.{ℤ, pos, neg_ℤ, ◌*ℤ◌}
use lib.Signed.{◌<ℤ◌}
use Rattle.integers.proofs.Difference.{var, nat, diff_lt, lt_read, ◌⊗◌}
use Rattle.integers.proofs.Order.{<ℤ→≤ℤ}
use Rattle.integers.proofs.Magnitude.{nat_abs_mono, nat_abs_falls, nat_abs_neg}
use Rattle.integers.proofs.Square.{square, square_neg}
use Rattle.rules.specs.Table.{last_row}
use Rattle.rules.specs.Percent.{index_squared, admits, largest, nearest}
use Rattle.laws.specs.RowRule.{RowRule, EvenRule}
use Rattle.laws.proofs.Row.{row_at_most, row_never_falls, row_exactly_when_enclosing}

pub nearest_row_rule : (n : ℕ) → RowRule nearest n
nearest_row_rule n =
    record {
      in_table = λ v d _. row_at_most n v d;
      grows_inside = λ v d e _ inside h. row_never_falls n v d e (nat_abs_mono inside h);
      grows_outside = λ v d e _ outside h. row_never_falls n v e d (nat_abs_falls (<ℤ→≤ℤ outside) h);
      outside_not_above = λ v d _ _. row_never_falls n v d (neg_ℤ d) (omega (arith, nat_abs_neg d));
    }

index_even : (n : ℕ) (d : ℤ) → index_squared n (neg_ℤ d) ≡ index_squared n d
unfolding index_squared square
index_even n d = ap (λ (x : ℤ). pos (1600 * (n - 1)) *ℤ x) (square_neg d)

-- A distance and its opposite admit the same rows, so that they have the same row.
admits_even : (n : ℕ) (v d : ℤ) (k : ℕ) → admits n v (neg_ℤ d) k ≡ admits n v d k
unfolding admits
admits_even n v d k = rw (index_even n d)

row_even : (n : ℕ) (v d : ℤ) → nearest n v (neg_ℤ d) ≡ nearest n v d
unfolding nearest
row_even n v d = λ i. largest (λ (k : ℕ). admits_even n v d k i) last_row

pub nearest_even_rule : (n : ℕ) → 1 ≤ n → EvenRule nearest n
nearest_even_rule n some =
    record {
      even = λ v d _. row_even n v d;
      from_row_0 = λ v h. (row_exactly_when_enclosing n v (pos 0) (<ℤ→≤ℤ h) 0).1 (record { row = zero-le; from_below = inl refl; before_above = λ _. before v h });
    }
  where
    before : (v : ℤ) → pos 0 <ℤ v → (pos (1600 * (n - 1)) *ℤ pos 0) <ℤ (pos (1 * n) *ℤ v)
    before v h = diff_lt (nat _) (nat (1 * n) ⊗ var v) (omega (arith, mul-le-mul_left n (lt_read h)))
