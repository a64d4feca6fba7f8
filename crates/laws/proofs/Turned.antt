-- Turning about zero swaps the sides.
use mathlib.Core.Path.{◌≡◌, refl, sym, ap, ap₂, ◌∙◌}
use mathlib.Core.Bool.{Bool, and_comm, or_comm, not, ◌&&◌, ◌||◌}
use mathlib.Core.List.{List, [], ◌∷◌, map}
use Prim.Native.Nat.{ℕ}
use lib.IntN.{ℤ, pos, neg_ℤ, ◌+ℤ◌, ◌-ℤ◌, +ℤ_comm}
use lib.Signed.{le_z}
use Rattle.std.specs.Prelude.{Some, None, Ok, Err}
use Rattle.integers.proofs.Order.{le_z_neg, lt_z_neg}
use Rattle.rules.specs.Units.{Limit, in_range, hundredths}
use Rattle.rules.specs.declared.Percentages.{Percentages}
use Rattle.rules.specs.Said.{Said, Case, ruled, checked}
use Rattle.rules.specs.Lot.{Lot}
use Rattle.rules.specs.Table.{Found, entries}
use Rattle.rules.specs.Percent.{Rule, totals, side, upper_side, lower_side}
use Rattle.rules.specs.Halving.{rows_tried, upper_tried, lower_tried}
use Rattle.rules.specs.Refusals.{out_of_range, any_out, none, crossed}
use Rattle.rules.specs.Meets.{evaluation_meets}
use Rattle.rules.specs.Entries.{percentages_of, percentages, evaluated}
use Rattle.laws.specs.Turned.{turned_limit, turned, swapped, said_swapped}
use Rattle.laws.proofs.Ruled.{given, ruled_given}
use Rattle.laws.proofs.NoClamp.{no_clamp}
use Rattle.laws.proofs.TurnedTotals.{spread_turned, upper_distance_turned, lower_distance_turned}

-- ---- the cases that are met

in_range_turned : (z : ℤ) → in_range (neg_ℤ z) ≡ in_range z
in_range_turned z =
    ap₂ (λ (a b : Bool). a && b) (le_z_neg (pos 500000) z) (le_z_neg z (neg_ℤ (pos 500000))) ∙ and_comm (le_z z (pos 500000)) (le_z (neg_ℤ (pos 500000)) z)

limit_turned : (limit : Limit) → out_of_range (turned_limit limit) ≡ out_of_range limit
limit_turned None = refl
limit_turned (Some z) = ap not (in_range_turned z.0)

any_out_turned : (xs : List ℤ) → any_out (map neg_ℤ xs) ≡ any_out xs
unfolding any_out
any_out_turned [] = refl
any_out_turned (x ∷ xs) = ap₂ (λ (a b : Bool). not a || b) (in_range_turned x) (any_out_turned xs)

none_turned : (upper lower : Limit) → none (turned_limit lower) (turned_limit upper) ≡ none upper lower
none_turned None None = refl
none_turned None (Some l) = refl
none_turned (Some u) None = refl
none_turned (Some u) (Some l) = refl

crossed_turned : (upper lower : Limit) → crossed (turned_limit lower) (turned_limit upper) ≡ crossed upper lower
crossed_turned None None = refl
crossed_turned None (Some l) = refl
crossed_turned (Some u) None = refl
crossed_turned (Some u) (Some l) = lt_z_neg l.0 u.0

limits_turned : (upper lower : Limit) → (out_of_range (turned_limit lower) || out_of_range (turned_limit upper)) ≡ (out_of_range upper || out_of_range lower)
limits_turned upper lower = rw (limit_turned lower, limit_turned upper) (or_comm (out_of_range lower) (out_of_range upper))

-- Each refusal applies to the turned lot exactly when it applies to the lot.
meets_turned : (found : Found) (lot : Lot) → evaluation_meets found (turned lot) ≡ evaluation_meets found lot
unfolding evaluation_meets
meets_turned found lot =
    let upper : Limit = lot.upper in
    let lower : Limit = lot.lower in
    rw (limits_turned upper lower, any_out_turned lot.readings, none_turned upper lower, crossed_turned upper lower)

-- ---- the percentages

module _ (rule : Rule) (column : List ℕ) (n : ℕ) (xs : List ℤ) where
  upper_side_turned : (lower : Limit) → upper_side rule column (totals n (map neg_ℤ xs)) (turned_limit lower) ≡ lower_side rule column (totals n xs) lower
  unfolding upper_side lower_side
  upper_side_turned None = refl
  upper_side_turned (Some l) = ap₂ (side rule column n) (spread_turned n xs) (upper_distance_turned n xs l.0)

  lower_side_turned : (upper : Limit) → lower_side rule column (totals n (map neg_ℤ xs)) (turned_limit upper) ≡ upper_side rule column (totals n xs) upper
  unfolding upper_side lower_side
  lower_side_turned None = refl
  lower_side_turned (Some u) = ap₂ (side rule column n) (spread_turned n xs) (lower_distance_turned n xs u.0)

module _ (n : ℕ) (xs : List ℤ) where
  upper_tried_turned : (lower : Limit) → upper_tried (totals n (map neg_ℤ xs)) (turned_limit lower) ≡ lower_tried (totals n xs) lower
  unfolding upper_tried lower_tried
  upper_tried_turned None = refl
  upper_tried_turned (Some l) = ap₂ (rows_tried n) (spread_turned n xs) (upper_distance_turned n xs l.0)

  lower_tried_turned : (upper : Limit) → lower_tried (totals n (map neg_ℤ xs)) (turned_limit upper) ≡ upper_tried (totals n xs) upper
  unfolding upper_tried lower_tried
  lower_tried_turned None = refl
  lower_tried_turned (Some u) = ap₂ (rows_tried n) (spread_turned n xs) (lower_distance_turned n xs u.0)

percentages_turned : (rule : Rule) (column : List ℕ) (lot : Lot) → percentages rule column (turned lot) ≡ swapped (percentages rule column lot)
unfolding percentages_of
percentages_turned rule column lot =
    let p : Percentages = percentages rule column lot in
    let u = upper_side_turned rule column lot.n lot.readings lot.lower in
    let l = lower_side_turned rule column lot.n lot.readings lot.upper in
    let sum = ap₂ ◌+ℤ◌ u l ∙ +ℤ_comm p.lower.0 p.upper.0 in
    let pwl = no_clamp rule column (turned lot) ∙ ap (λ (z : ℤ). z -ℤ pos 10000) sum ∙ sym (no_clamp rule column lot) in
    let above = upper_tried_turned lot.n lot.readings lot.lower in
    let below = lower_tried_turned lot.n lot.readings lot.upper in
    λ i. record { upper = hundredths (u i); lower = hundredths (l i); pwl = hundredths (pwl i); tried = record { upper = above i; lower = below i } }

-- ---- the law

-- To swap the sides of the values is to swap those of what is said; a refusal stays as it is.
ruled_swapped : (cases : List Case) (p : Percentages) → ruled cases (swapped p) ≡ said_swapped (ruled cases p)
ruled_swapped cases p = ruled_given cases (swapped p) ∙ by (checked cases) ∙ sym (ap said_swapped (ruled_given cases p))
  where
    by : (s : Said (Unit {0})) → given (swapped p) s ≡ said_swapped (given p s)
    by (Err r) = refl
    by (Ok u) = refl

-- Turning about zero swaps the sides, the PWL stays and a refusal stays the same refusal: of every lot, by any rule for rows and whatever is found.
pub turning_swaps_sides :
    (rule : Rule) (found : Found) (lot : Lot) →
    evaluated rule found (turned lot) ≡ said_swapped (evaluated rule found lot)
unfolding evaluated
turning_swaps_sides rule found lot =
    ap₂ (λ (cases : List Case) (p : Percentages). ruled cases p) (meets_turned found lot) (percentages_turned rule (entries found) lot) ∙ ruled_swapped (evaluation_meets found lot) (percentages rule (entries found) lot)
