-- Bounds of readings in range, of their totals and of what is worked out from them.
use mathlib.Core.Path.{◌≡◌, refl, sym, ap, ◌∙◌, subst⁻¹}
use mathlib.Core.Bool.{true, false, not, and-eq-true_iff}
use mathlib.Core.List.{List, [], ◌∷◌}
use Prim.Native.Nat.{ℕ, zero, suc, ◌*◌, ◌≤◌, ◌<◌, zero-le}
use native.Mathlib.Nat.{le_trans, le_of_suc-le-suc, mul-le-mul}
use native.Mathlib.Omega.{arith}
use borrow.Author.Tests.{not-false}
use lib.IntN.{ℤ, pos, neg_ℤ, nat_abs, ◌*ℤ◌}
use lib.ListN.{length, drop, get_or}
use lib.Signed.{le_z}
use Rattle.std.specs.Prelude.{Some}
use Rattle.integers.proofs.Order.{le_z_true}
use Rattle.integers.proofs.Magnitude.{within, nat_abs_add, nat_abs_mul, nat_abs_less_taken}
use Rattle.integers.proofs.Square.{square, square_nonneg}
use Rattle.rules.specs.declared.Totals.{Totals}
use Rattle.rules.specs.declared.Thousandths.{Thousandths}
use Rattle.rules.specs.Units.{Limit, in_range}
use Rattle.rules.specs.declared.Pair.{Pair}
use Rattle.rules.specs.Lot.{most}
use Rattle.rules.specs.Percent.{sum, squares, totals, spread}
use Rattle.rules.specs.Refusals.{out_of_range, any_out, pair_out}
use Rattle.laws.specs.Bounds.{Accepted, Bounded, SpreadInBounds}
use Rattle.laws.proofs.Tests.{neither}
use Rattle.laws.proofs.Spread.{spread_never_negative}

pub in_range_bound : (z : ℤ) → in_range z ≡ true → nat_abs z ≤ 500000
in_range_bound z e =
    let h : (le_z (neg_ℤ (pos 500000)) z ≡ true) × (le_z z (pos 500000) ≡ true) = (and-eq-true_iff (le_z (neg_ℤ (pos 500000)) z) (le_z z (pos 500000))).0 e in
    within {b = 500000} {z = z} (le_z_true _ _ h.0) (le_z_true _ _ h.1)

-- Where a pair is not out of range, neither its upper nor its lower limit is.
pub pair_parts : (p : Pair ℤ) → pair_out p ≡ false → (not (in_range p.upper) ≡ false) × (not (in_range p.lower) ≡ false)
pair_parts p = neither (not (in_range p.upper)) (not (in_range p.lower))

-- How far a pair's lower limit lies below the minimum or target, and its upper limit above it.
abbrev pub offset_below : (ℤ → Pair ℤ) → ℕ
offset_below pair = nat_abs (pair (pos 0)).lower

abbrev pub offset_above : (ℤ → Pair ℤ) → ℕ
offset_above pair = nat_abs (pair (pos 0)).upper

-- Where no reading is out of range, the first is in range, and so are the others.
module _ (x : ℤ) (xs : List ℤ) (e : any_out (x ∷ xs) ≡ false) where
  parts : (not (in_range x) ≡ false) × (any_out xs ≡ false)
  unfolding any_out
  parts = neither (not (in_range x)) (any_out xs) e

  first_bound : nat_abs x ≤ 500000
  first_bound = in_range_bound x (not-false (in_range x) parts.0)

pub rest_in_range : (i : ℕ) (xs : List ℤ) → any_out xs ≡ false → any_out (drop i xs) ≡ false
rest_in_range zero xs e = e
rest_in_range (suc i) [] e = e
rest_in_range (suc i) (x ∷ xs) e = rest_in_range i xs (parts x xs e).1

pub reading_bound : (xs : List ℤ) (i : ℕ) → any_out xs ≡ false → i < length xs → nat_abs (get_or xs i (pos 0)) ≤ 500000
reading_bound [] i e h = absurd (omega arith)
reading_bound (x ∷ xs) zero e h = first_bound x xs e
reading_bound (x ∷ xs) (suc i) e h = reading_bound xs i (parts x xs e).1 (le_of_suc-le-suc h)

pub sum_bound : (xs : List ℤ) → any_out xs ≡ false → nat_abs (sum xs) ≤ length xs * 500000
unfolding sum
sum_bound [] e = zero-le
sum_bound (x ∷ xs) e = omega (arith, nat_abs_add x (sum xs), first_bound x xs e, sum_bound xs (parts x xs e).1)

pub squares_bound : (xs : List ℤ) → any_out xs ≡ false → nat_abs (squares xs) ≤ length xs * 250000000000
unfolding squares
squares_bound [] e = zero-le
squares_bound (x ∷ xs) e =
    let h : nat_abs x ≤ 500000 = first_bound x xs e in
    omega (arith, nat_abs_add (x *ℤ x) (squares xs), nat_abs_mul x x, mul-le-mul h h, squares_bound xs (parts x xs e).1)

pub totals_bounded : {xs : List ℤ} {a : Totals} → Accepted xs → a ≡ totals (length xs) xs → Bounded a
totals_bounded {xs} h e =
    subst⁻¹ Bounded e
    (record {
      least = h.least;
      few = h.few;
      sum = sum_bound xs h.all_in_range;
      squares = squares_bound xs h.all_in_range;
      spread_not_negative = spread_never_negative xs;
    })

pub total_bound : {a : Totals} → Bounded a → nat_abs a.t ≤ most * 500000
total_bound h = omega (arith, h.few, h.sum)

-- ---- V

-- Bounds of n·Z, of T² and of their difference V, which is not above n·Z.
pub record SpreadParts (a : Totals) : Type 0 where
  pub product : nat_abs (pos a.n *ℤ a.z) ≤ most * (most * 250000000000)
  pub square : nat_abs (a.t *ℤ a.t) ≤ most * 500000 * (most * 500000)
  pub spread : nat_abs (spread a) ≤ most * (most * 250000000000)

pub spread_parts : {a : Totals} → Bounded a → SpreadParts a
unfolding spread square
spread_parts {a} h =
    let z : nat_abs a.z ≤ most * 250000000000 = omega (arith, h.few, h.squares) in
    let t : nat_abs a.t ≤ most * 500000 = total_bound h in
    let p : nat_abs (pos a.n *ℤ a.z) ≤ most * (most * 250000000000) = omega (arith, nat_abs_mul (pos a.n) a.z, mul-le-mul h.few z) in
    record {
      product = p;
      square = omega (arith, nat_abs_mul a.t a.t, mul-le-mul t t);
      spread = le_trans (nat_abs_less_taken (spread a) (pos a.n *ℤ a.z) (a.t *ℤ a.t) h.spread_not_negative (square_nonneg a.t) refl) p;
    }

pub spread_in_bounds : {a : Totals} {v : ℕ} → Bounded a → pos v ≡ spread a → SpreadInBounds a.n v
spread_in_bounds h e = record { least = h.least; few = h.few; small = omega (arith, ap nat_abs e, (spread_parts h).spread) }

-- ---- limits

pub limit_bound : (limit : Limit) {z : Thousandths} → limit ≡ Some z → out_of_range limit ≡ false → nat_abs z.0 ≤ 500000
limit_bound limit {z} e h = in_range_bound z.0 (not-false (in_range z.0) (sym (ap out_of_range e) ∙ h))
