-- A walk over readings that has passed the first i, with the totals a: some reading is out of range exactly when one of those left is, and a with
-- the totals of those left gives the totals of all.
use mathlib.Core.Path.{◌≡◌, refl, sym, ap, ◌∙◌, subst}
use mathlib.Core.Bool.{Bool, true, false, cond, not, ◌||◌}
use mathlib.Core.List.{List, [], ◌∷◌}
use Prim.Native.Nat.{ℕ, suc, ◌+◌, ◌*◌, ◌≤◌, ◌<◌}
use native.Mathlib.Nat.{le_antisymm, mul-le-mul}
use native.Mathlib.Omega.{arith}
use lib.IntN.{ℤ, pos, nat_abs, ◌+ℤ◌, ◌*ℤ◌}
use lib.ListN.{length, drop, get_or}
use lib.Seq.{drop-cons, drop-length}
use Rattle.std.specs.Prelude.{Ok, Err}
use Rattle.integers.proofs.Difference.{var, nat, diff_eq, ◌⊕◌}
use Rattle.integers.proofs.Magnitude.{nat_abs_add, nat_abs_mul}
use Rattle.rules.specs.declared.Totals.{Totals}
use Rattle.rules.specs.declared.Refusal.{Refusal}
use Rattle.rules.specs.declared.Refusal.TheVariants.{Range}
use Rattle.rules.specs.Units.{in_range}
use Rattle.rules.specs.Said.{Said}
use Rattle.rules.specs.Percent.{sum, squares}
use Rattle.rules.specs.Refusals.{any_out}
use Rattle.laws.specs.Totalled.{with_reading, pass_says, walk_says}
use Rattle.laws.proofs.Ruled.{ruled_none, ruled_met, ruled_passed}
use Rattle.laws.proofs.Bounds.{in_range_bound}

pub record Walked (xs : List ℤ) (i : ℕ) (a : Totals) : Type 0 where
  pub passed : i ≤ length xs
  pub out_among_left : any_out xs ≡ any_out (drop i xs)
  pub count : a.n ≡ length xs
  pub sum : sum xs ≡ a.t +ℤ sum (drop i xs)
  pub squares : squares xs ≡ a.z +ℤ squares (drop i xs)
  pub sum_small : nat_abs a.t ≤ i * 500000
  pub squares_small : nat_abs a.z ≤ i * 250000000000

pub walk_starts : (xs : List ℤ) {n : ℕ} → n ≡ length xs → Walked xs 0 (record { n = n; t = pos 0; z = pos 0 })
walk_starts xs e =
    record {
      passed = omega arith;
      out_among_left = refl;
      count = e;
      sum = diff_eq (var (sum xs)) (nat 0 ⊕ var (sum xs)) (omega arith);
      squares = diff_eq (var (squares xs)) (nat 0 ⊕ var (squares xs)) (omega arith);
      sum_small = omega arith;
      squares_small = omega arith;
    }

module _ (xs : List ℤ) (i : ℕ) (here : i < length xs) where
  abbrev x : ℤ
  x = get_or xs i (pos 0)

  left : drop i xs ≡ x ∷ drop (suc i) xs
  left = drop-cons xs i (pos 0) here

  out_left : any_out (drop i xs) ≡ (not (in_range x) || any_out (drop (suc i) xs))
  unfolding any_out
  out_left = ap any_out left

  -- A reading out of range is refused, and so is the whole list,
  pub walk_refuses : {a : Totals} {t : Said Totals} {r : Refusal} → Walked xs i a → t ≡ pass_says a x → t ≡ Err r → (walk_says xs ≡ Err r) × (any_out xs ≡ true)
  unfolding pass_says walk_says
  walk_refuses {a} {t} {r} w e h = by (in_range x) refl (sym e ∙ h)
    where
      by : (b : Bool) → in_range x ≡ b → cond b (Ok (with_reading a x)) (Err Range) ≡ Err r → (walk_says xs ≡ Err r) × (any_out xs ≡ true)
      by true inside f = absurd (let z : ◌≡◌ {A = ℕ} 0 1 = cc in omega arith)
      by false outside f =
          let out : any_out xs ≡ true = w.out_among_left ∙ out_left ∙ ap (λ (b : Bool). not b || any_out (drop (suc i) xs)) outside in
          (ruled_met _ _ _ out ∙ f, out)

  -- and one in range is passed, and added to the totals.
  passed_on : {a : Totals} → Walked xs i a → in_range x ≡ true → Walked xs (i + 1) (with_reading a x)
  unfolding sum squares
  passed_on {a} w inside =
      let bound : nat_abs x ≤ 500000 = in_range_bound x inside in
      let rest : List ℤ = drop (suc i) xs in
      let next : suc i ≡ i + 1 = omega arith in
      subst (λ (k : ℕ). Walked xs k (with_reading a x)) next
      (record {
        passed = here;
        out_among_left = w.out_among_left ∙ out_left ∙ ap (λ (b : Bool). not b || any_out rest) inside;
        count = w.count;
        sum =
            w.sum ∙ ap (λ (l : List ℤ). a.t +ℤ sum l) left
            ∙ diff_eq (var a.t ⊕ (var x ⊕ var (sum rest))) (var x ⊕ var a.t ⊕ var (sum rest)) (omega arith);
        squares =
            w.squares ∙ ap (λ (l : List ℤ). a.z +ℤ squares l) left
            ∙ diff_eq (var a.z ⊕ (var (x *ℤ x) ⊕ var (squares rest))) (var (x *ℤ x) ⊕ var a.z ⊕ var (squares rest)) (omega arith);
        sum_small = omega (arith, nat_abs_add x a.t, w.sum_small);
        squares_small = omega (arith, nat_abs_add (x *ℤ x) a.z, nat_abs_mul x x, mul-le-mul bound bound, w.squares_small);
      })

  pub walk_goes_on : {a b : Totals} {t : Said Totals} → Walked xs i a → t ≡ pass_says a x → t ≡ Ok b → Walked xs (i + 1) b
  unfolding pass_says
  walk_goes_on {a} {b} {t} w e h = by (in_range x) refl (sym e ∙ h)
    where
      value : Said Totals → Totals
      value (Err r) = b
      value (Ok c) = c

      by : (test : Bool) → in_range x ≡ test → cond test (Ok (with_reading a x)) (Err Range) ≡ Ok b → Walked xs (i + 1) b
      by true inside f = subst (Walked xs (i + 1)) (ap value f) (passed_on w inside)
      by false outside f = absurd (let z : ◌≡◌ {A = ℕ} 0 1 = cc in omega arith)

-- At the end nothing is out of range, and the totals are those of the readings.
pub walk_ends : (xs : List ℤ) {i : ℕ} {a : Totals} → Walked xs i a → length xs ≤ i → (any_out xs ≡ false) × (Ok a ≡ walk_says xs)
unfolding any_out sum squares walk_says
walk_ends xs {i} {a} w end =
    let all : i ≡ length xs = le_antisymm w.passed end in
    let nothing : drop i xs ≡ [] = ap (λ (k : ℕ). drop k xs) all ∙ drop-length xs in
    let t_same : a.t ≡ sum xs = sym (w.sum ∙ ap (λ (l : List ℤ). a.t +ℤ sum l) nothing ∙ diff_eq (var a.t ⊕ nat 0) (var a.t) (omega arith)) in
    let z_same : a.z ≡ squares xs = sym (w.squares ∙ ap (λ (l : List ℤ). a.z +ℤ squares l) nothing ∙ diff_eq (var a.z ⊕ nat 0) (var a.z) (omega arith)) in
    let all_in_range : any_out xs ≡ false = w.out_among_left ∙ ap any_out nothing in
    (all_in_range, (λ j. Ok (record { n = w.count j; t = t_same j; z = z_same j })) ∙ sym (ruled_passed _ _ _ all_in_range ∙ ruled_none _))
