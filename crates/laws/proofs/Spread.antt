-- V is never negative, and 0 exactly when all readings are equal: it is the sum over pairs of their squared differences.
use mathlib.Core.Path.{◌≡◌, refl, sym, ap, ◌∙◌}
use mathlib.Core.List.Memᴰ
use mathlib.Core.List.{List, [], ◌∷◌, Memᴰ}
use mathlib.Core.Logic.{◌⊎◌, inl, inr, ◌↔◌, ⊎_elim}
use Prim.Native.Nat.{ℕ, suc, ◌+◌, ◌*◌, ◌≤◌, zero-le}
use native.Mathlib.Omega.{arith}
use lib.IntN.{ℤ, pos, nat_abs, ◌+ℤ◌, ◌-ℤ◌, ◌*ℤ◌}
use lib.ListN.{length}
use lib.Signed.{◌≤ℤ◌, ◌<ℤ◌, ≤ℤ_refl, clash_ℤ}
use Rattle.integers.proofs.Difference.{var, nat, diff_eq, eq_diff, arithℤ, ◌⊕◌, ◌⊖◌, ◌⊗◌}
use Rattle.integers.proofs.Order.{≤ℤ_antisym, ≤ℤ_total, pos_mono}
use Rattle.integers.proofs.Square.{square, square_nat, square_zero}
use Rattle.rules.specs.Percent.{sum, squares, totals, spread}
use Rattle.laws.specs.AllEqual.{AllEqual}

-- ---- squared differences, as natural numbers

-- (x − y)², by its magnitude
unfoldable gap : ℤ → ℤ → ℕ
gap x y = nat_abs (x -ℤ y) * nat_abs (x -ℤ y)

gap_square : (x y : ℤ) → square (x -ℤ y) ≡ pos (gap x y)
unfolding gap
gap_square x y = square_nat (x -ℤ y)

-- summed over each y of a list
unfoldable gaps : ℤ → List ℤ → ℕ
gaps x [] = 0
gaps x (y ∷ ys) = gap x y + gaps x ys

-- summed over each reading x with each y after it
unfoldable pairs : List ℤ → ℕ
pairs [] = 0
pairs (x ∷ xs) = gaps x xs + pairs xs

-- Over a list with n, T and Z, the gaps of x come to n·x² + Z − 2·x·T, which is what x adds to V.
gaps_sum : (x : ℤ) (ys : List ℤ) → pos (gaps x ys) ≡ (pos (length ys) *ℤ (x *ℤ x) +ℤ squares ys) -ℤ pos 2 *ℤ (x *ℤ sum ys)
unfolding gaps squares sum square
gaps_sum x [] = diff_eq (nat 0) (nat 0 ⊗ (var x ⊗ var x) ⊕ nat 0 ⊖ nat 2 ⊗ (var x ⊗ nat 0)) (omega arith)
gaps_sum x (y ∷ ys) =
    let n : ℕ = length ys in
    let t : ℤ = sum ys in
    let z : ℤ = squares ys in
    diff_eq (nat (gaps x (y ∷ ys))) (nat (suc n) ⊗ (var x ⊗ var x) ⊕ (var y ⊗ var y ⊕ var z) ⊖ nat 2 ⊗ (var x ⊗ (var y ⊕ var t)))
    (omega (
      arith,
      eq_diff ((var x ⊖ var y) ⊗ (var x ⊖ var y)) (nat (gap x y)) (gap_square x y),
      eq_diff (nat (gaps x ys)) (nat n ⊗ (var x ⊗ var x) ⊕ var z ⊖ nat 2 ⊗ (var x ⊗ var t)) (gaps_sum x ys),
    ))

-- V is the sum over all pairs.
spread_pairs : (xs : List ℤ) → spread (totals (length xs) xs) ≡ pos (pairs xs)
unfolding spread pairs squares sum
spread_pairs [] = refl
spread_pairs (x ∷ xs) =
    let n : ℕ = length xs in
    let t : ℤ = sum xs in
    let z : ℤ = squares xs in
    diff_eq (nat (suc n) ⊗ (var x ⊗ var x ⊕ var z) ⊖ (var x ⊕ var t) ⊗ (var x ⊕ var t)) (nat (pairs (x ∷ xs)))
    (omega (
      arith,
      eq_diff (nat (gaps x xs)) (nat n ⊗ (var x ⊗ var x) ⊕ var z ⊖ nat 2 ⊗ (var x ⊗ var t)) (gaps_sum x xs),
      eq_diff (nat n ⊗ var z ⊖ var t ⊗ var t) (nat (pairs xs)) (spread_pairs xs),
    ))

-- ---- where they are zero

gap_zero : (x y : ℤ) → (gap x y ≡ 0) ↔ (x ≡ y)
unfolding gap
gap_zero x y = (
  λ e. diff_eq (var x) (var y) (omega (arith, eq_diff (var x ⊖ var y) (nat 0) (square_zero (x -ℤ y) (gap_square x y ∙ ap pos e)))),
  λ e. ap (λ z. nat_abs z * nat_abs z) (diff_eq (var x ⊖ var y) (nat 0) (omega arithℤ)),
)

gaps_zero : (x : ℤ) (ys : List ℤ) → (gaps x ys ≡ 0) ↔ ((y : ℤ) → Memᴰ y ys → x ≡ y)
unfolding gaps
gaps_zero x [] = (λ e y m. absurd (Memᴰ.not-nil m), λ h. refl)
gaps_zero x (w ∷ ys) = (
  λ e y m. ⊎_elim (λ h. (gap_zero x w).0 (omega arith) ∙ sym h) ((gaps_zero x ys).0 (omega arith) y) (Memᴰ.cases_cons m),
  λ h. omega (arith, (gap_zero x w).1 (h w (Memᴰ.head refl)), (gaps_zero x ys).1 (λ y m. h y (Memᴰ.tail m))),
)

-- The sum over pairs is 0 exactly when all readings are equal.
pairs_zero : (xs : List ℤ) → (pairs xs ≡ 0) ↔ AllEqual xs
unfolding pairs
pairs_zero [] = (λ e y w m k. absurd (Memᴰ.not-nil m), λ h. refl)
pairs_zero (x ∷ xs) = (
  λ e.
      let first : (y : ℤ) → Memᴰ y (x ∷ xs) → x ≡ y = λ y m. ⊎_elim sym ((gaps_zero x xs).0 (omega arith) y) (Memᴰ.cases_cons m) in
      λ y w m k. sym (first y m) ∙ first w k,
  λ h.
      let none : gaps x xs ≡ 0 = (gaps_zero x xs).1 (λ y m. h x y (Memᴰ.head refl) (Memᴰ.tail m)) in
      omega (arith, (pairs_zero xs).1 (λ y w m k. h y w (Memᴰ.tail m) (Memᴰ.tail k))),
)

-- ---- the laws

pub spread_never_negative : (xs : List ℤ) → pos 0 ≤ℤ spread (totals (length xs) xs)
spread_never_negative xs = rw (spread_pairs xs) (pos_mono zero-le)

pub spread_zero_exactly_when_equal : (xs : List ℤ) → (spread (totals (length xs) xs) ≡ pos 0) ↔ AllEqual xs
spread_zero_exactly_when_equal xs = (
  λ e. (pairs_zero xs).0 (ap nat_abs (sym (spread_pairs xs) ∙ e)),
  λ h. spread_pairs xs ∙ ap pos ((pairs_zero xs).1 h),
)

not_above : (xs : List ℤ) → spread (totals (length xs) xs) ≤ℤ pos 0 → AllEqual xs
not_above xs h = (spread_zero_exactly_when_equal xs).0 (≤ℤ_antisym h (spread_never_negative xs))

pub spread_above_exactly_when_unequal : (xs : List ℤ) → (pos 0 <ℤ spread (totals (length xs) xs)) ↔ (AllEqual xs → ⊥)
spread_above_exactly_when_unequal xs = (
  λ h e. clash_ℤ h (rw ((spread_zero_exactly_when_equal xs).1 e) (≤ℤ_refl (pos 0))),
  λ unequal. ⊎_elim (λ h. absurd (unequal (not_above xs h))) (λ h. h) (≤ℤ_total (spread (totals (length xs) xs)) (pos 0)),
)

pub all_equal_or_not : (xs : List ℤ) → AllEqual xs ⊎ (AllEqual xs → ⊥)
all_equal_or_not xs =
    ⊎_elim (λ h. inl (not_above xs h)) (λ h. inr ((spread_above_exactly_when_unequal xs).0 h)) (≤ℤ_total (spread (totals (length xs) xs)) (pos 0))

-- So there are two readings at the least where V is above 0.
pub spread_needs_two : (xs : List ℤ) → pos 0 <ℤ spread (totals (length xs) xs) → 2 ≤ length xs
spread_needs_two xs h = by xs ((spread_above_exactly_when_unequal xs).0 h)
  where
    by : (ys : List ℤ) → (AllEqual ys → ⊥) → 2 ≤ length ys
    by [] unequal = absurd (unequal (λ y w m k. absurd (Memᴰ.not-nil m)))
    by (x ∷ []) unequal = absurd (unequal (λ y w m k. Memᴰ.eq_of_singleton m ∙ sym (Memᴰ.eq_of_singleton k)))
    by (x ∷ y ∷ ys) unequal = omega arith
