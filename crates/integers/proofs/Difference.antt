-- Certificates: an integer as a difference of two natural numbers, so that `omega` proves what holds of integers.
use mathlib.Core.Path.{◌≡◌, ap}
use mathlib.Core.Logic.{◌↔◌}
use Prim.Native.Nat.{ℕ, zero, suc, ◌+◌, ◌*◌, ◌≤◌, ◌<◌}
use native.Mathlib.Decide.{dec_lt}
use native.Mathlib.Omega.{arith}
use lib.IntN.{ℤ, pos, negsuc, neg_ℤ, sub_ℕ, ◌+ℤ◌, ◌-ℤ◌, ◌*ℤ◌}
use lib.Signed.{◌≤ℤ◌, ◌<ℤ◌}
use lib.Dec.{leb→le, le→leb}
use borrow.Author.Tests.{lt-ltb, le-ltb}

infixl 6 ◌⊕◌ ◌⊖◌
infixl 7 ◌⊗◌
infix 8 ⊝◌
-- The two parts of z, of which one is 0: z = up z − down z.
abbrev pub up : ℤ → ℕ
up (pos n) = n
up (negsuc n) = 0

abbrev pub down : ℤ → ℕ
down (pos n) = 0
down (negsuc n) = suc n

-- z is p − q.
pub record Diff (z : ℤ) (p q : ℕ) : Type 0 where
  pub rep : up z + q ≡ p + down z

-- The certificates to begin with: of any integer, by its two parts, and of a natural number.
pub var : (z : ℤ) → Diff z (up z) (down z)
var z = omega arith

pub nat : (n : ℕ) → Diff (pos n) n 0
nat n = omega arith

-- Certificates of sums, negations, differences and products; the parts of each result come first.
parts_neg : (z : ℤ) → (up (neg_ℤ z) ≡ down z) × (down (neg_ℤ z) ≡ up z)
parts_neg (pos zero) = omega arith
parts_neg (pos (suc n)) = omega arith
parts_neg (negsuc n) = omega arith

parts_sub : (a b : ℕ) → up (sub_ℕ a b) + b ≡ a + down (sub_ℕ a b)
parts_sub a b = elim (dec_lt a b) [ yes h ↦ rw (lt-ltb a b h) (omega arith) | no h ↦ rw (le-ltb a b (omega arith)) (omega arith) ]

parts_add : (x y : ℤ) → up (x +ℤ y) + (down x + down y) ≡ up x + up y + down (x +ℤ y)
parts_add (pos a) (pos b) = omega arith
parts_add (pos a) (negsuc b) = omega (arith, parts_sub a (suc b))
parts_add (negsuc a) (pos b) = omega (arith, parts_sub b (suc a))
parts_add (negsuc a) (negsuc b) = omega arith

parts_mul : (x y : ℤ) → up (x *ℤ y) + (up x * down y + down x * up y) ≡ up x * up y + down x * down y + down (x *ℤ y)
parts_mul (pos a) (pos b) = omega arith
parts_mul (pos a) (negsuc b) = omega (arith, parts_neg (pos (a * suc b)))
parts_mul (negsuc a) (pos b) = omega (arith, parts_neg (pos (suc a * b)))
parts_mul (negsuc a) (negsuc b) = omega arith

pub ◌⊕◌ : {x y : ℤ} {p q r s : ℕ} → Diff x p q → Diff y r s → Diff (x +ℤ y) (p + r) (q + s)
◌⊕◌ {x} {y} d e = omega (arith, parts_add x y)

pub ⊝◌ : {x : ℤ} {p q : ℕ} → Diff x p q → Diff (neg_ℤ x) q p
⊝◌ {x} d = omega (arith, parts_neg x)

pub ◌⊖◌ : {x y : ℤ} {p q r s : ℕ} → Diff x p q → Diff y r s → Diff (x -ℤ y) (p + s) (q + r)
d ⊖ e = d ⊕ (⊝ e)

pub ◌⊗◌ : {x y : ℤ} {p q r s : ℕ} → Diff x p q → Diff y r s → Diff (x *ℤ y) (p * r + q * s) (p * s + q * r)
◌⊗◌ {x} {y} {r} {s} d e =
    omega (arith, parts_mul x y, ap (λ n. n * r) d.rep, ap (λ n. n * s) d.rep, ap (λ n. up x * n) e.rep, ap (λ n. down x * n) e.rep)

-- The equality and the order of two integers, by their parts.
same : (x y : ℤ) → up x + down y ≡ up y + down x → x ≡ y
same (pos a) (pos b) h = ap pos (omega arith)
same (pos a) (negsuc b) h = absurd (omega arith)
same (negsuc a) (pos b) h = absurd (omega arith)
same (negsuc a) (negsuc b) h = ap negsuc (omega arith)

ruleset tests = (arith, leb→le, le→leb)

parts_le : (x y : ℤ) → (x ≤ℤ y) ↔ (up x + down y ≤ up y + down x)
parts_le (pos a) (pos b) = omega tests
parts_le (pos a) (negsuc b) = omega tests
parts_le (negsuc a) (pos b) = omega tests
parts_le (negsuc a) (negsuc b) = omega tests

parts_lt : (x y : ℤ) → (x <ℤ y) ↔ (up x + down y < up y + down x)
parts_lt (pos a) (pos b) = omega tests
parts_lt (pos a) (negsuc b) = omega tests
parts_lt (negsuc a) (pos b) = omega tests
parts_lt (negsuc a) (negsuc b) = omega tests

pub le_read : {x y : ℤ} → x ≤ℤ y → up x + down y ≤ up y + down x
le_read {x} {y} h = (parts_le x y).0 h

pub lt_read : {x y : ℤ} → x <ℤ y → up x + down y < up y + down x
lt_read {x} {y} h = (parts_lt x y).0 h

pub eq_read : {x y : ℤ} → x ≡ y → up x + down y ≡ up y + down x
eq_read {x} {y} h = omega (arith, ap up h, ap down h)

-- `omega`'s rules, with those that read an equation or an order of two integers that is in scope.
pub ruleset arithℤ = (arith, eq_read, le_read, lt_read)

-- Where x is p − q and y is r − s: x = y, x ≤ y and x < y say the same as p + s = r + q, p + s ≤ r + q and p + s < r + q.
module _ {x y : ℤ} {p q r s : ℕ} (d : Diff x p q) (e : Diff y r s) where
  pub diff_eq : p + s ≡ r + q → x ≡ y
  diff_eq h = same x y (omega arith)

  pub eq_diff : x ≡ y → p + s ≡ r + q
  eq_diff h = omega (arith, eq_read h)

  pub diff_le : p + s ≤ r + q → x ≤ℤ y
  diff_le h = (parts_le x y).1 (omega arith)

  pub le_diff : x ≤ℤ y → p + s ≤ r + q
  le_diff h = omega (arith, le_read h)

  pub diff_lt : p + s < r + q → x <ℤ y
  diff_lt h = (parts_lt x y).1 (omega arith)

  pub lt_diff : x <ℤ y → p + s < r + q
  lt_diff h = omega (arith, lt_read h)
