-- What a halving ends with, whatever its test is: its ends meet, at the largest number that passes, after as many tries as it takes to halve the range.
use mathlib.Core.Path.{◌≡◌, refl, sym, ◌∙◌, subst}
use mathlib.Core.Bool.{Bool, true, false}
use Prim.Native.Nat.{ℕ, zero, suc, ◌+◌, ◌^◌, ◌≤◌, ◌<◌}
use native.Mathlib.Omega.{arith}
use borrow.Author.Tests.{lt-ltb, le-ltb, ltb-true, ltb-false}
use lib.Dec.{ltb}
use lib.Pow.{pow_pos}
use Rattle.rules.specs.Percent.{largest}
use Rattle.rules.specs.Halving.{Halving, middle, raised, lowered, halved}
use Rattle.laws.proofs.Largest.{largest_is}

-- So many tries are enough for the ends to meet.
abbrev pub Enough : ℕ → Halving → Type 0
Enough tries h = (h.low ≤ h.high) × (h.high ≤ h.low + tries)

module _ (admitted : ℕ → Bool) where
  -- ---- a step

  pub goes_up : (tries : ℕ) (h : Halving) → h.low < h.high → admitted (middle h) ≡ true → halved admitted (suc tries) h ≡ halved admitted tries (raised h)
  unfolding halved
  goes_up tries h apart e = rw (lt-ltb h.low h.high apart, e)

  pub goes_down : (tries : ℕ) (h : Halving) → h.low < h.high → admitted (middle h) ≡ false → halved admitted (suc tries) h ≡ halved admitted tries (lowered h)
  unfolding halved
  goes_down tries h apart e = rw (lt-ltb h.low h.high apart, e)

  pub met_ends_stay : (tries : ℕ) (h : Halving) → h.low ≡ h.high → halved admitted tries h ≡ h
  unfolding halved
  met_ends_stay zero h met = refl
  met_ends_stay (suc tries) h met = rw (le-ltb h.low h.high (omega arith))

  -- ---- all steps

  -- What is so of ends that have met, and so of others if it is so after their next step,
  record Stepwise (Ends : Halving → Halving → Type 0) : Type 0 where
    met : (h : Halving) → h.low ≡ h.high → Ends h h
    up : (h e : Halving) → h.low < h.high → admitted (middle h) ≡ true → Ends (raised h) e → Ends h e
    down : (h e : Halving) → h.low < h.high → admitted (middle h) ≡ false → Ends (lowered h) e → Ends h e

  -- is so of every halving and what it ends with.
  ends : (Ends : Halving → Halving → Type 0) → Stepwise Ends → (tries : ℕ) (h : Halving) → Enough tries h → Ends h (halved admitted tries h)
  unfolding halved
  ends Ends s zero h enough = s.met h (omega arith)
  ends Ends s (suc tries) h enough = by (ltb h.low h.high) refl (admitted (middle h)) refl (ends Ends s tries)
    where
      by : (b : Bool) → ltb h.low h.high ≡ b → (t : Bool) → admitted (middle h) ≡ t → ((h : Halving) → Enough tries h → Ends h (halved admitted tries h)) → Ends h (halved admitted (suc tries) h)
      by false e t e' more = let m : h.low ≡ h.high = omega (arith, ltb-false h.low h.high e) in rw (met_ends_stay (suc tries) h m) (s.met h m)
      by true e true e' more = let a = ltb-true h.low h.high e in rw (goes_up tries h a e') (s.up h _ a e' (more (raised h) (omega arith, omega arith)))
      by true e false e' more = let a = ltb-true h.low h.high e in rw (goes_down tries h a e') (s.down h _ a e' (more (lowered h) (omega arith, omega arith)))

  -- ---- what it ends with

  pub ends_meet : (tries : ℕ) (h : Halving) → Enough tries h → (halved admitted tries h).low ≡ (halved admitted tries h).high
  ends_meet = ends (λ (h e : Halving). e.low ≡ e.high) (record { met = λ h m. m; up = λ h e a t more. more; down = λ h e a t more. more })

  -- Let every number below one that passes pass too, let low pass, and let the number after high not pass, unless high is m. Then the ends meet at
  -- the largest number up to m that passes.
  abbrev Largest : ℕ → Halving → Halving → Type 0
  Largest m h e = h.high ≤ m → admitted h.low ≡ true → (h.high < m → admitted (suc h.high) ≡ false) → e.low ≡ largest admitted m

  pub ends_at_largest :
      ((j k : ℕ) → j ≤ k → admitted k ≡ true → admitted j ≡ true) → (m tries : ℕ) (h : Halving) →
      Enough tries h → Largest m h (halved admitted tries h)
  ends_at_largest falling m =
      ends (Largest m)
      (record {
        met = λ h e top here next. sym (largest_is admitted falling m h.low (omega arith) here (λ less. subst (λ (k : ℕ). admitted (suc k) ≡ false) (sym e) (next (omega arith))));
        up = λ h e a t more top here next. more top t next;
        down = λ h e a t more top here next. more (omega arith) here (λ _. subst (λ (k : ℕ). admitted k ≡ false) (omega arith) t);
      })

  -- A range of no more than 2^d numbers takes d tries at the most,
  abbrev AtMost : Halving → Halving → Type 0
  AtMost h e = (d : ℕ) → h.high < h.low + 2 ^ d → e.tried ≤ h.tried + d

  pub tries_at_most : (tries : ℕ) (h : Halving) → Enough tries h → AtMost h (halved admitted tries h)
  tries_at_most =
      ends AtMost (record { met = λ h e d small. omega arith; up = up; down = down })
    where
      up : (h e : Halving) → h.low < h.high → admitted (middle h) ≡ true → AtMost (raised h) e → AtMost h e
      up h e a t more zero small = absurd (omega arith)
      up h e a t more (suc d) small = omega (arith, more d (omega arith))

      down : (h e : Halving) → h.low < h.high → admitted (middle h) ≡ false → AtMost (lowered h) e → AtMost h e
      down h e a t more zero small = absurd (omega arith)
      down h e a t more (suc d) small = omega (arith, more d (omega arith))

  -- and one of no fewer than 2^d takes d at the least.
  abbrev AtLeast : Halving → Halving → Type 0
  AtLeast h e = (d : ℕ) → h.low + 2 ^ d ≤ suc h.high → h.tried + d ≤ e.tried

  pub tries_at_least : (tries : ℕ) (h : Halving) → Enough tries h → AtLeast h (halved admitted tries h)
  tries_at_least =
      ends AtLeast (record { met = met; up = up; down = down })
    where
      met : (h : Halving) → h.low ≡ h.high → AtLeast h h
      met h e zero large = omega arith
      met h e (suc d) large = absurd (omega (arith, pow_pos d))

      up : (h e : Halving) → h.low < h.high → admitted (middle h) ≡ true → AtLeast (raised h) e → AtLeast h e
      up h e a t more zero large = omega (arith, more zero (omega arith))
      up h e a t more (suc d) large = omega (arith, more d (omega arith))

      down : (h e : Halving) → h.low < h.high → admitted (middle h) ≡ false → AtLeast (lowered h) e → AtLeast h e
      down h e a t more zero large = omega (arith, more zero (omega arith))
      down h e a t more (suc d) large = omega (arith, more d (omega arith))

-- Tests that say the same of every number up to m halve a range up to m alike.
pub same_tests_halve_alike :
    (f g : ℕ → Bool) (m : ℕ) → ((k : ℕ) → k ≤ m → f k ≡ g k) → (tries : ℕ) (h : Halving) →
    Enough tries h → h.high ≤ m → halved f tries h ≡ halved g tries h
same_tests_halve_alike f g m same tries h enough top = sym (ends f Alike (record { met = met; up = up; down = down }) tries h enough tries enough top)
  where
    Alike : Halving → Halving → Type 0
    Alike h e = (tries : ℕ) → Enough tries h → h.high ≤ m → halved g tries h ≡ e

    met : (h : Halving) → h.low ≡ h.high → Alike h h
    met h e tries enough top = met_ends_stay g tries h e

    up : (h e : Halving) → h.low < h.high → f (middle h) ≡ true → Alike (raised h) e → Alike h e
    up h e a t more zero enough top = absurd (omega arith)
    up h e a t more (suc tries) enough top = goes_up g tries h a (sym (same (middle h) (omega arith)) ∙ t) ∙ more tries (omega arith, omega arith) top

    down : (h e : Halving) → h.low < h.high → f (middle h) ≡ false → Alike (lowered h) e → Alike h e
    down h e a t more zero enough top = absurd (omega arith)
    down h e a t more (suc tries) enough top = goes_down g tries h a (sym (same (middle h) (omega arith)) ∙ t) ∙ more tries (omega arith, omega arith) (omega arith)
