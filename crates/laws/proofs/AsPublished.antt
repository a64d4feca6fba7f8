-- Whatever the definitions answer is what documents 01 and 004 say of those readings and limits, by the column that is found (demand 2).
use mathlib.Core.Path.{◌≡◌, refl, sym, ap, ◌∙◌, subst}
use mathlib.Core.List.{List}
use mathlib.Core.Logic.{⊎_elim}
use Prim.Native.Nat.{ℕ, ◌≤◌}
use native.Mathlib.Omega.{arith}
use lib.IntN.{ℤ, pos, ◌-ℤ◌}
use lib.ListN.{length}
use lib.Signed.{◌≤ℤ◌, ◌<ℤ◌, ≤ℤ_refl, clash_ℤ}
use Rattle.std.specs.Prelude.{Some, None, Ok}
use Rattle.integers.proofs.Order.{≤ℤ_total, le_le_z, lt_le_z, lt_lt_z, le_lt_z}
use Rattle.rules.specs.Units.{Limit}
use Rattle.rules.specs.declared.Percentages.{Percentages}
use Rattle.rules.specs.Lot.{Lot}
use Rattle.rules.specs.Table.{Found, entry, entries}
use Rattle.rules.specs.Percent.{nearest, totals, spread, upper_distance, lower_distance, side, upper_side, lower_side}
use Rattle.rules.specs.Entries.{percentages_of, evaluated}
use Rattle.laws.specs.Ratio.{Ratio, Is}
use Rattle.laws.specs.Reached.{reached}
use Rattle.laws.specs.AllEqual.{AllEqual}
use Rattle.laws.specs.Moved.{Counted}
use Rattle.laws.specs.AsPublished.{SideAsPublished, UpperAsPublished, LowerAsPublished, AsPublished}
use Rattle.laws.proofs.Spread.{spread_zero_exactly_when_equal, spread_above_exactly_when_unequal}
use Rattle.laws.proofs.Value.{is_negative}
use Rattle.laws.proofs.PublishedIndex.{upper_beyond_is, lower_beyond_is, index_sign_is}
use Rattle.laws.proofs.PublishedRow.{row_is_nearest}
use Rattle.laws.proofs.Side.{reached_entry, reached_whole, side_inside, side_outside}
use Rattle.laws.proofs.Accepted.{answered}
use Rattle.laws.proofs.NoClamp.{no_clamp}

-- What is not below zero is zero or more.
not_below : (z : ℤ) → (z <ℤ pos 0 → ⊥) → pos 0 ≤ℤ z
not_below z h = ⊎_elim (λ k. k) (λ k. absurd (h k)) (≤ℤ_total (pos 0) z)

-- ---- a side whose limit lies D/n beyond the mean

module _ (column : List ℕ) (xs : List ℤ) (beyond : Ratio) (d : ℤ) (is : Is beyond d (length xs)) where
  abbrev n : ℕ
  n = length xs

  abbrev v : ℤ
  v = spread (totals (length xs) xs)

  inside : pos 0 ≤ℤ d → side nearest column n v d ≡ pos (reached nearest column n v d)
  inside h = side_inside nearest column n v d (le_le_z h)

  outside : d <ℤ pos 0 → side nearest column n v d ≡ pos 10000 -ℤ pos (reached nearest column n v d)
  outside h = side_outside nearest column n v d (lt_le_z h)

  -- where V is above 0
  at_the_row : pos 0 <ℤ v → reached nearest column n v d ≡ entry column (nearest n v d)
  at_the_row above = reached_entry nearest column n v d (lt_lt_z above)

  -- where all readings are equal
  whole_side : AllEqual xs → reached nearest column n v d ≡ 10000
  whole_side e = reached_whole nearest column n v d (le_lt_z (subst (λ (z : ℤ). z ≤ℤ pos 0) (sym ((spread_zero_exactly_when_equal xs).1 e)) (≤ℤ_refl _)))

  pub side_is_published : SideAsPublished column beyond xs (side nearest column n v d)
  side_is_published =
      record {
        by_the_table =
            λ unequal.
            let above = (spread_above_exactly_when_unequal xs).1 unequal in
            let sign = index_sign_is xs above beyond d is in
            record {
              row = nearest n v d;
              nearest = (row_is_nearest xs above beyond d is (nearest n v d)).0 refl;
              inside = λ h. inside (not_below d (λ k. h (sign.1 k))) ∙ ap pos (at_the_row above);
              outside = λ h. outside (sign.0 h) ∙ ap (λ (e : ℕ). pos 10000 -ℤ pos e) (at_the_row above);
            };
        equal_within = λ e h. inside (not_below d (λ k. clash_ℤ ((is_negative is).1 k) h)) ∙ ap pos (whole_side e);
        equal_beyond = λ e h. outside ((is_negative is).0 h) ∙ ap (λ (m : ℕ). pos 10000 -ℤ pos m) (whole_side e);
      }

-- ---- both sides

module _ (column : List ℕ) (xs : List ℤ) (some : 1 ≤ length xs) where
  upper_is_published : (upper : Limit) → UpperAsPublished column upper xs (upper_side nearest column (totals (length xs) xs) upper)
  unfolding upper_side
  upper_is_published None = refl
  upper_is_published (Some u) =
      side_is_published column xs _ (upper_distance (totals (length xs) xs) u.0) (upper_beyond_is xs some u.0)

  lower_is_published : (lower : Limit) → LowerAsPublished column lower xs (lower_side nearest column (totals (length xs) xs) lower)
  unfolding lower_side
  lower_is_published None = refl
  lower_is_published (Some l) =
      side_is_published column xs _ (lower_distance (totals (length xs) xs) l.0) (lower_beyond_is xs some l.0)

-- What is answered for a lot that has as many readings as it says is as published.
pub evaluated_as_published :
    (found : Found) (lot : Lot) (p : Percentages) → Counted lot →
    evaluated nearest found lot ≡ Ok p → AsPublished (entries found) lot.upper lot.lower lot.readings p
unfolding percentages_of
evaluated_as_published found lot p counted e =
    let h = answered nearest found lot p e in
    let size : length lot.readings ≡ lot.n = counted h.0.few in
    let some : 1 ≤ length lot.readings = omega (arith, h.0.least) in
    rw (sym h.1)
    (record {
      upper_side = rw (sym size) (upper_is_published (entries found) lot.readings some lot.upper);
      lower_side = rw (sym size) (lower_is_published (entries found) lot.readings some lot.lower);
      pwl = no_clamp nearest (entries found) lot;
    })
