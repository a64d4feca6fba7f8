-- The order of fractions and roots. Signed squares keep the order of fractions, so that orders between fractions and roots can be joined.
use mathlib.Core.Path.{◌≡◌, sym, subst}
use mathlib.Core.Logic.{◌↔◌}
use Prim.Native.Nat.{ℕ, zero, suc, ◌+◌, ◌-◌, ◌*◌, ◌≤◌, ◌<◌}
use native.Mathlib.Nat.{mul-le-mul}
use native.Mathlib.Omega.{arith}
use lib.IntN.{ℤ, pos, ◌-ℤ◌, ◌*ℤ◌}
use lib.Signed.{◌≤ℤ◌}
use Rattle.integers.proofs.Difference.{var, nat, diff_eq, diff_le, lt_diff, diff_lt, ⊝◌, ◌⊕◌, ◌⊖◌, ◌⊗◌}
use Rattle.integers.proofs.Order.{≤ℤ_antisym, <ℤ→≤ℤ, pos_mono}
use Rattle.integers.proofs.Square.{signed, signed_≤, signed_<, signed_scaled}
use Rattle.laws.specs.Ratio.{Ratio, ratio, Same, Is, AtMost, Less}
use Rattle.laws.specs.Root.{signed_square, Root, UpTo, RootUpTo, RootBelow, HalfUpRoot}
use Rattle.laws.proofs.Ratio.{at_most_trans, at_most_less, same_at_most, at_most_value, value_less}

-- Squaring, with the sign, keeps the order of fractions.
module _ (f g : Ratio) where
  left : signed (f.top *ℤ pos g.under) ≡ (signed_square f).top *ℤ pos (g.under * g.under)
  unfolding signed
  left = signed_scaled f.top g.under

  right : signed (g.top *ℤ pos f.under) ≡ (signed_square g).top *ℤ pos (f.under * f.under)
  unfolding signed
  right = signed_scaled g.top f.under

  pub squares_keep_≤ : AtMost f g ↔ AtMost (signed_square f) (signed_square g)
  squares_keep_≤ = (
    λ h. record { order = rw (← left, ← right) ((signed_≤ (f.top *ℤ pos g.under) (g.top *ℤ pos f.under)).0 h.order) },
    λ h. record { order = (signed_≤ (f.top *ℤ pos g.under) (g.top *ℤ pos f.under)).1 (rw (left, right) h.order) },
  )

  pub squares_keep_< : Less f g ↔ Less (signed_square f) (signed_square g)
  squares_keep_< = (
    λ h. record { order = rw (← left, ← right) ((signed_< (f.top *ℤ pos g.under) (g.top *ℤ pos f.under)).0 h.order) },
    λ h. record { order = (signed_< (f.top *ℤ pos g.under) (g.top *ℤ pos f.under)).1 (rw (left, right) h.order) },
  )

-- If n is above 0, so is n².
under_square : {n : ℕ} → 1 ≤ n → 1 ≤ n * n
under_square h = mul-le-mul h h

-- So where a root x is itself a fraction q, f ≤ x, x ≤ f and x < f say the same as f ≤ q, q ≤ f and q < f.
module _ (x : Root) (q : Ratio) (proper : 1 ≤ q.under) (some : 1 ≤ x.square.under) (e : Same x.square (signed_square q)) (f : Ratio) where
  to : AtMost x.square (signed_square q)
  to = same_at_most x.square (signed_square q) e

  from : AtMost (signed_square q) x.square
  from = same_at_most (signed_square q) x.square (sym e)

  pub up_to_fraction : UpTo f x ↔ AtMost f q
  up_to_fraction = (
    λ h. (squares_keep_≤ f q).1 (at_most_trans some h.squares to),
    λ h. record { squares = at_most_trans (under_square proper) ((squares_keep_≤ f q).0 h) from },
  )

  pub fraction_up_to : RootUpTo x f ↔ AtMost q f
  fraction_up_to = (
    λ h. (squares_keep_≤ q f).1 (at_most_trans some from h.squares),
    λ h. record { squares = at_most_trans (under_square proper) to ((squares_keep_≤ q f).0 h) },
  )

  pub fraction_below : RootBelow x f ↔ Less q f
  fraction_below = (
    λ h. (squares_keep_< q f).1 (at_most_less (under_square proper) from h.squares),
    λ h. record { squares = at_most_less some to ((squares_keep_< q f).0 h) },
  )

-- ---- orders joined

module _ {x : Root} {f g : Ratio} where
  -- f ≤ g ≤ x
  pub up_to_trans : 1 ≤ g.under → AtMost f g → UpTo g x → UpTo f x
  up_to_trans some h k = record { squares = at_most_trans (under_square some) ((squares_keep_≤ f g).0 h) k.squares }

  -- x ≤ f ≤ g
  pub root_up_to_trans : 1 ≤ f.under → RootUpTo x f → AtMost f g → RootUpTo x g
  root_up_to_trans some h k = record { squares = at_most_trans (under_square some) h.squares ((squares_keep_≤ f g).0 k) }

  -- f ≤ x ≤ g
  pub across_root : 1 ≤ x.square.under → UpTo f x → RootUpTo x g → AtMost f g
  across_root some h k = (squares_keep_≤ f g).1 (at_most_trans some h.squares k.squares)

  -- f ≤ x < g
  pub across_below : 1 ≤ f.under → UpTo f x → RootBelow x g → Less f g
  across_below some h k = (squares_keep_< f g).1 (at_most_less (under_square some) h.squares k.squares)

pub below_up_to : {x : Root} {f : Ratio} → RootBelow x f → RootUpTo x f
below_up_to h = record { squares = record { order = <ℤ→≤ℤ h.squares.order } }

-- ---- midpoints

-- The root x of a/u, compared with (2k − 1)/c and (2k + 1)/c, the midpoints between 2k/c and its neighbours (2k − 2)/c and (2k + 2)/c. The
-- comparison is that of squares, multiplied by u·c².
module _ {x : Root} {a u : ℕ} (is : Is x.square (pos a) u) (c : ℕ) where
  pub midpoint_up_to : (k : ℕ) → (0 < k → (2 * k - 1) * (2 * k - 1) * u ≤ a * (c * c)) → UpTo (ratio (pos (2 * k) -ℤ pos 1) c) x
  midpoint_up_to zero h = record { squares = at_most_value is (record { order = diff_le (⊝ nat 1 ⊗ nat u) (nat (a * (c * c))) (omega arith) }) }
  midpoint_up_to (suc k) h =
      let o : ℕ = 2 * suc k - 1 in
      let low : o * o * u ≤ a * (c * c) = h (omega arith) in
      subst (λ (z : ℤ). UpTo (ratio z c) x) (diff_eq (nat o) (nat (2 * suc k) ⊖ nat 1) (omega arith))
      (record { squares = at_most_value is (record { order = pos_mono low }) })

  pub midpoint_above : (k : ℕ) → a * (c * c) < (2 * k + 1) * (2 * k + 1) * u → RootBelow x (ratio (pos (2 * k + 1)) c)
  midpoint_above k h = record { squares = value_less is (record { order = diff_lt (nat (a * (c * c))) (nat ((2 * k + 1) * (2 * k + 1) * u)) (omega arith) }) }

-- ---- nearest whole numbers

-- No second whole number is nearest a root.
pub half_up_root_determined : {x : Root} {y z : ℤ} → HalfUpRoot x y → HalfUpRoot x z → y ≡ z
half_up_root_determined {x} {y} {z} h k = ≤ℤ_antisym (not_above h k) (not_above k h)
  where
    not_above : {y z : ℤ} → HalfUpRoot x y → HalfUpRoot x z → y ≤ℤ z
    not_above {y} {z} h k =
        diff_le (var y) (var z)
        (omega (arith, lt_diff ((nat 2 ⊗ var y ⊖ nat 1) ⊗ nat 2) ((nat 2 ⊗ var z ⊕ nat 1) ⊗ nat 2) (across_below {x = x} (omega arith) h.low k.high).order))
