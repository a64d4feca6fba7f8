-- The row rule read back: the midpoints of the row enclose the index, and the row never falls as the distance grows.
use mathlib.Core.Path.{◌≡◌, refl, sym, ap, ◌∙◌, subst}
use mathlib.Core.Bool.{true, false}
use mathlib.Core.Logic.{◌⊎◌, inl, inr, ⊎_elim, ◌↔◌}
use Prim.Native.Nat.{ℕ, zero, suc, ◌+◌, ◌-◌, ◌*◌, ◌≤◌, ◌<◌}
use native.Mathlib.Nat.{le_refl, mul-le-mul}
use native.Mathlib.Omega.{arith}
use lib.Dec.{eqb-suc-zero}
use lib.IntN.{ℤ, pos, negsuc, nat_abs, ◌*ℤ◌}
use lib.Signed.{◌≤ℤ◌, ◌<ℤ◌, le_z, ≤ℤ_refl}
use Rattle.integers.proofs.Order.{≤ℤ_trans, pos_mono, *ℤ_mono_l, le_le_z, lt_le_z, le_z_true, le_z_false}
use Rattle.integers.proofs.Square.{square, square_nat, square_mono}
use Rattle.rules.specs.Table.{last_row}
use Rattle.rules.specs.Percent.{index_squared, midpoint_squared, admits, nearest}
use Rattle.laws.proofs.Largest.{largest_at_most, largest_passes, none_above, largest_is, largest_grows}

-- For V of 0 or more the midpoint never falls as the row grows, and the index never falls as the magnitude of the distance grows.
midpoints_grow : (n : ℕ) (v : ℤ) → pos 0 ≤ℤ v → (j k : ℕ) → j ≤ k → midpoint_squared n v j ≤ℤ midpoint_squared n v k
unfolding midpoint_squared
midpoints_grow n (pos a) h j k low =
    let odd : 2 * j - 1 ≤ 2 * k - 1 = omega arith in
    pos_mono (mul-le-mul (mul-le-mul (mul-le-mul odd odd) (le_refl n)) (le_refl a))
midpoints_grow n (negsuc a) h j k low = absurd h.le

index_grows : (n : ℕ) (d e : ℤ) → nat_abs d ≤ nat_abs e → index_squared n d ≤ℤ index_squared n e
unfolding index_squared square
index_grows n d e h = *ℤ_mono_l (1600 * (n - 1)) (square_mono d e h)

-- The index depends on the magnitude of the distance alone.
pub index_by_magnitude : (n : ℕ) (d : ℤ) → index_squared n d ≡ pos (1600 * (n - 1) * (nat_abs d * nat_abs d))
unfolding index_squared square
index_by_magnitude n d = ap (λ (x : ℤ). pos (1600 * (n - 1)) *ℤ x) (square_nat d)

-- Row 0 is always admitted, and any other by the midpoint below it.
pub first_admitted : (n : ℕ) (v d : ℤ) → admits n v d 0 ≡ true
unfolding admits
first_admitted n v d = refl

admits_next : (n : ℕ) (v d : ℤ) (k : ℕ) → admits n v d (suc k) ≡ le_z (midpoint_squared n v (suc k)) (index_squared n d)
unfolding admits
admits_next n v d k = rw (eqb-suc-zero k)

-- So let j ≤ k, let the midpoint below j be at most that below k, and the index at distance d at most that at e. If d admits row k, then e admits
-- row j.
admits_stays : (n : ℕ) (v d e : ℤ) (j k : ℕ) → j ≤ k → midpoint_squared n v j ≤ℤ midpoint_squared n v k → index_squared n d ≤ℤ index_squared n e → admits n v d k ≡ true → admits n v e j ≡ true
admits_stays n v d e zero k low m i there = first_admitted n v e
admits_stays n v d e (suc j) zero low m i there = absurd (omega arith)
admits_stays n v d e (suc j) (suc k) low m i there =
    let reached : midpoint_squared n v (suc k) ≤ℤ index_squared n d = le_z_true _ _ (sym (admits_next n v d k) ∙ there) in
    admits_next n v e j ∙ le_le_z (≤ℤ_trans m (≤ℤ_trans reached i))

-- For V of 0 or more, every row below an admitted row is admitted.
pub admits_below : (n : ℕ) (v d : ℤ) → pos 0 ≤ℤ v → (j k : ℕ) → j ≤ k → admits n v d k ≡ true → admits n v d j ≡ true
admits_below n v d h j k low there = admits_stays n v d d j k low (midpoints_grow n v h j k low) (≤ℤ_refl _) there

pub row_at_most : (n : ℕ) (v d : ℤ) → nearest n v d ≤ last_row
unfolding nearest
row_at_most n v d = largest_at_most (admits n v d) last_row

-- For V of 0 or more: if row k is admitted, and k is the last row or row k + 1 is not admitted, then k is the row.
pub row_is : (n : ℕ) (v d : ℤ) → pos 0 ≤ℤ v → (k : ℕ) → k ≤ last_row → admits n v d k ≡ true → (k < last_row → admits n v d (suc k) ≡ false) → nearest n v d ≡ k
unfolding nearest
row_is n v d h k low here next = largest_is (admits n v d) (admits_below n v d h) last_row k low here next

-- What document 01 says of row k, in its own numbers: the midpoint below k is not above the index, unless k is 0, and the midpoint above k is,
-- unless k is 53. Such a row is the one nearest the magnitude of the published index: `row_is_nearest`, PublishedRow.antt.
pub record Encloses (n : ℕ) (v d : ℤ) (k : ℕ) : Type 0 where
  pub row : k ≤ 53
  pub from_below : (k ≡ 0) ⊎ ((pos ((2 * k - 1) * (2 * k - 1) * n) *ℤ v) ≤ℤ (pos (1600 * (n - 1)) *ℤ (d *ℤ d)))
  pub before_above : k < 53 → (pos (1600 * (n - 1)) *ℤ (d *ℤ d)) <ℤ (pos ((2 * k + 1) * (2 * k + 1) * n) *ℤ v)

-- The two tests of a row, in those numbers.
module _ (n : ℕ) (v d : ℤ) where
  below : (k : ℕ) → (admits n v d k ≡ true) ↔ ((k ≡ 0) ⊎ ((pos ((2 * k - 1) * (2 * k - 1) * n) *ℤ v) ≤ℤ (pos (1600 * (n - 1)) *ℤ (d *ℤ d))))
  unfolding midpoint_squared index_squared
  below zero = (λ _. inl refl, λ _. first_admitted n v d)
  below (suc k) = (
    λ here. inr (le_z_true _ _ (sym (admits_next n v d k) ∙ here)),
    ⊎_elim (λ e. absurd (omega arith)) (λ low. admits_next n v d k ∙ le_le_z low),
  )

  above : (k : ℕ) → (admits n v d (suc k) ≡ false) ↔ ((pos (1600 * (n - 1)) *ℤ (d *ℤ d)) <ℤ (pos ((2 * k + 1) * (2 * k + 1) * n) *ℤ v))
  unfolding midpoint_squared index_squared
  above k = (
    λ there. rw odd (le_z_false _ _ (sym (admits_next n v d k) ∙ there)),
    λ h. admits_next n v d k ∙ lt_le_z (rw odd at h),
  )
    where
      odd : 2 * k + 1 ≡ 2 * suc k - 1
      odd = omega arith

  encloses : Encloses n v d (nearest n v d)
  unfolding nearest
  encloses =
      record {
        row = row_at_most n v d;
        from_below = (below (nearest n v d)).0 (largest_passes (admits n v d) (first_admitted n v d) last_row);
        before_above = λ h. (above (nearest n v d)).0 (none_above (admits n v d) last_row (suc (nearest n v d)) (le_refl _) h);
      }

pub row_exactly_when_enclosing : (n : ℕ) (v d : ℤ) → pos 0 ≤ℤ v → (k : ℕ) → (nearest n v d ≡ k) ↔ Encloses n v d k
row_exactly_when_enclosing n v d h k = (
  λ e. subst (Encloses n v d) e (encloses n v d),
  λ e. row_is n v d h k e.row ((below n v d k).1 e.from_below) (λ low. (above n v d k).1 (e.before_above low)),
)

pub row_never_falls : (n : ℕ) (v d e : ℤ) → nat_abs d ≤ nat_abs e → nearest n v d ≤ nearest n v e
unfolding nearest
row_never_falls n v d e h =
    largest_grows (admits n v d) (admits n v e) (λ k there. admits_stays n v d e k k (le_refl k) (≤ℤ_refl _) (index_grows n d e h) there) last_row
