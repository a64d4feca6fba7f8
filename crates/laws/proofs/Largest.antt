-- What the largest number up to m that passes is.
use mathlib.Core.Path.{◌≡◌, refl, sym, ◌∙◌, subst}
use mathlib.Core.Bool.{Bool, true, false, true≢false}
use Prim.Native.Nat.{ℕ, zero, suc, ◌≤◌, ◌<◌, zero-le}
use native.Mathlib.Decide.{ℕ_discrete}
use native.Mathlib.Nat.{le_refl}
use native.Mathlib.Omega.{arith}
use Rattle.rules.specs.Percent.{largest}

module _ (passes : ℕ → Bool) where
  stops : (m : ℕ) → passes (suc m) ≡ true → largest passes (suc m) ≡ suc m
  unfolding largest
  stops m e = rw (e, largest)

  goes_on : (m : ℕ) → passes (suc m) ≡ false → largest passes (suc m) ≡ largest passes m
  unfolding largest
  goes_on m e = rw (e, largest)

  pub largest_at_most : (m : ℕ) → largest passes m ≤ m
  unfolding largest
  largest_at_most zero = le_refl zero
  largest_at_most (suc m) = by (passes (suc m)) refl (largest_at_most m)
    where
      by : (b : Bool) → passes (suc m) ≡ b → largest passes m ≤ m → largest passes (suc m) ≤ suc m
      by true e below = omega (arith, stops m e)
      by false e below = omega (arith, goes_on m e)

  -- It passes, if 0 does;
  pub largest_passes : passes 0 ≡ true → (m : ℕ) → passes (largest passes m) ≡ true
  unfolding largest
  largest_passes zeroth zero = zeroth
  largest_passes zeroth (suc m) = by (passes (suc m)) refl (largest_passes zeroth m)
    where
      by : (b : Bool) → passes (suc m) ≡ b → passes (largest passes m) ≡ true → passes (largest passes (suc m)) ≡ true
      by true e below = rw (stops m e) e
      by false e below = rw (goes_on m e) below

  -- and nothing above it up to m does.
  pub none_above : (m k : ℕ) → largest passes m < k → k ≤ m → passes k ≡ false
  unfolding largest
  none_above zero k low high = absurd (omega arith)
  none_above (suc m) k low high = by (passes (suc m)) refl (none_above m k)
    where
      by : (b : Bool) → passes (suc m) ≡ b → (largest passes m < k → k ≤ m → passes k ≡ false) → passes k ≡ false
      by true e below = absurd (omega (arith, stops m e))
      by false e below =
          elim (ℕ_discrete (suc m) k) [
            | yes same ↦ subst (λ (i : ℕ). passes i ≡ false) same e
            | no h ↦ below (rw (goes_on m e) at low) (omega arith)
          ]

  -- Suppose that every number below one that passes passes too. If k passes, and k is m or k + 1 does not pass, then k is the largest.
  pub largest_is : ((j k : ℕ) → j ≤ k → passes k ≡ true → passes j ≡ true) → (m k : ℕ) → k ≤ m → passes k ≡ true → (k < m → passes (suc k) ≡ false) → largest passes m ≡ k
  largest_is falling m k low here next = omega (arith, largest_at_most m, not_below, not_above)
    where
      not_below : largest passes m < k → ⊥
      not_below h = true≢false (sym here ∙ none_above m k h low)

      not_above : k < largest passes m → ⊥
      not_above h =
          true≢false
          (sym (falling (suc k) (largest passes m) h (largest_passes (falling 0 k zero-le here) m)) ∙ next (omega (arith, largest_at_most m)))

-- If whatever passes f passes g, the largest for f is not above the largest for g.
pub largest_grows : (f g : ℕ → Bool) → ((k : ℕ) → f k ≡ true → g k ≡ true) → (m : ℕ) → largest f m ≤ largest g m
unfolding largest
largest_grows f g more zero = le_refl zero
largest_grows f g more (suc m) = by (f (suc m)) (g (suc m)) refl refl (largest_grows f g more m)
  where
    by : (a b : Bool) → f (suc m) ≡ a → g (suc m) ≡ b → largest f m ≤ largest g m → largest f (suc m) ≤ largest g (suc m)
    by true b e e' below = omega (arith, stops f m e, stops g m (more (suc m) e))
    by false true e e' below = omega (arith, goes_on f m e, largest_at_most f m, stops g m e')
    by false false e e' below = omega (arith, goes_on f m e, goes_on g m e')
