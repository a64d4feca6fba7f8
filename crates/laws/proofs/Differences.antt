-- The differences of two lists of numbers, an entry at a time, as a loop goes through them.
use mathlib.Core.Path.{◌≡◌, refl, sym, ap, ap₂, subst⁻¹, ◌∙◌}
use mathlib.Core.Bool.{Bool, true, false, cond, or_comm, true≢false}
use mathlib.Core.List.{List, [], ◌∷◌, ◌++◌}
use Prim.Native.Nat.{ℕ, zero, suc, ◌+◌, ◌*◌, ◌≤◌, ◌<◌}
use native.Mathlib.Omega.{arith}
use lib.IntN.{ℤ, pos, ◌-ℤ◌}
use lib.ListN.{length, take, drop, get_or, set, length-drop}
use lib.Signed.{lt_z, ≤ℤ_refl}
use lib.Seq.{take_all, drop-cons, drop-length, drop-drop}
use Rattle.std.specs.Prelude.{Some, None}
use Rattle.std.proofs.lemmas.Grind.{common_steps}
use Rattle.std.proofs.lemmas.List.{drop-set-lt}
use Rattle.rules.specs.declared.Difference.{Difference}
use Rattle.rules.specs.Sheet.{differ, differing, first_of, difference_numbers}
use Rattle.integers.proofs.Order.{≤ℤ_antisym, le_lt_z, lt_z_false}
use Rattle.laws.specs.Sheet.{Passed}
use Rattle.laws.proofs.Tests.{neither}
use Rattle.laws.proofs.Lists.{filled_two}

-- ---- whether two numbers differ

pub differ_true : (x y : ℤ) → differ x y ≡ true → ¬ (x ≡ y)
differ_true x y d e = true≢false (sym d ∙ ap (differ x) (sym e) ∙ rw (le_lt_z (≤ℤ_refl x)))

pub differ_false : (x y : ℤ) → differ x y ≡ false → x ≡ y
differ_false x y d =
    let h = neither (lt_z x y) (lt_z y x) d in
    ≤ℤ_antisym (lt_z_false y x h.1) (lt_z_false x y h.0)

pub differ_turned : (x y : ℤ) → differ y x ≡ differ x y
differ_turned x y = or_comm (lt_z y x) (lt_z x y)

-- ---- an entry at a time

pub length_differences : (ds : List Difference) → length (difference_numbers ds) ≡ 2 * length ds
unfolding difference_numbers
length_differences [] = refl
length_differences (d ∷ ds) = omega (arith, length_differences ds)

abbrev pub difference : ℕ → ℤ → ℤ → Difference
difference k x y = record { entry = k; first = x; second = y }

-- The first number of each list, and what comes after it, where the two differ and where they do not.
module _ (k : ℕ) (x y : ℤ) (xs ys : List ℤ) where
  abbrev rest : List Difference
  rest = differing (suc k) xs ys

  pub differs_here : differ x y ≡ true → differing k (x ∷ xs) (y ∷ ys) ≡ difference k x y ∷ rest
  unfolding differing
  differs_here e = ap (λ b. cond b (difference k x y ∷ rest) rest) e

  pub same_here : differ x y ≡ false → differing k (x ∷ xs) (y ∷ ys) ≡ rest
  unfolding differing
  same_here e = ap (λ b. cond b (difference k x y ∷ rest) rest) e

  -- So whatever holds in both cases holds.
  pub here_or_later : (P : List Difference → Type 0) → (differ x y ≡ true → P (difference k x y ∷ rest)) → (differ x y ≡ false → P rest) → P (differing k (x ∷ xs) (y ∷ ys))
  here_or_later P differs same = by (differ x y) refl
    where
      by : (b : Bool) → differ x y ≡ b → P (differing k (x ∷ xs) (y ∷ ys))
      by true e = subst⁻¹ P (differs_here e) (differs e)
      by false e = subst⁻¹ P (same_here e) (same e)

-- There are no more differences than entries.
pub no_more_differences : (k : ℕ) (xs ys : List ℤ) → length (differing k xs ys) ≤ length xs
unfolding differing
no_more_differences k [] ys = omega arith
no_more_differences k (x ∷ xs) [] = omega arith
no_more_differences k (x ∷ xs) (y ∷ ys) =
    let later = no_more_differences (suc k) xs ys in
    here_or_later k x y xs ys (λ ds. length ds ≤ suc (length xs)) (λ e. omega arith) (λ e. omega arith)

-- Where something is left after so many, there are more, and one more leaves what follows.
after_one : {A : Type 0} (n : ℕ) (zs : List A) {z : A} {rest : List A} → drop n zs ≡ z ∷ rest → (n < length zs) × (drop (suc n) zs ≡ rest)
after_one zero [] e = absurd (let h : ◌≡◌ {A = ℕ} 0 1 = cc in omega arith)
after_one {A} zero (z ∷ zs) e = (omega arith, ap after e)
  where
    after : List A → List A
    after [] = []
    after (y ∷ ys) = ys
after_one (suc n) [] e = absurd (let h : ◌≡◌ {A = ℕ} 0 1 = cc in omega arith)
after_one (suc n) (z ∷ zs) e = let h = after_one n zs e in (omega arith, h.1)

module _ (xs ys : List ℤ) where
  abbrev all : List Difference
  all = differing 0 xs ys

  pub none_passed : Passed xs ys 0 0
  none_passed = record { few = omega arith; left = refl }

  -- Entry i, where the two numbers are the same and where they differ.
  module _ (i items : ℕ) (here : i < length xs) (there : i < length ys) (p : Passed xs ys i items) where
    lists : differing i (drop i xs) (drop i ys) ≡ differing i (get_or xs i (pos 0) ∷ drop (suc i) xs) (get_or ys i (pos 0) ∷ drop (suc i) ys)
    lists = ap₂ (differing i) (drop-cons xs i (pos 0) here) (drop-cons ys i (pos 0) there)

    pub same_passed : differ (get_or xs i (pos 0)) (get_or ys i (pos 0)) ≡ false → Passed xs ys (suc i) items
    same_passed e = record { few = p.few; left = p.left ∙ lists ∙ same_here i _ _ _ _ e }

    module _ (e : differ (get_or xs i (pos 0)) (get_or ys i (pos 0)) ≡ true) where
      -- It is the next difference,
      pub next_difference : drop items all ≡ difference i (get_or xs i (pos 0)) (get_or ys i (pos 0)) ∷ differing (suc i) (drop (suc i) xs) (drop (suc i) ys)
      next_difference = p.left ∙ lists ∙ differs_here i _ _ _ _ e

      pub difference_is_there : items < length all
      difference_is_there = (after_one items all next_difference).0

      -- and with it there is one more.
      pub difference_passed : Passed xs ys (suc i) (suc items)
      difference_passed = record { few = difference_is_there; left = (after_one items all next_difference).1 }

  -- At the end all differences are counted.
  pub all_passed : (i items : ℕ) → i ≡ length xs → Passed xs ys i items → items ≡ length all
  unfolding differing
  all_passed i items end p =
      let none : drop items all ≡ [] = p.left ∙ ap (λ (zs : List ℤ). differing i zs (drop i ys)) (ap (λ (k : ℕ). drop k xs) end ∙ drop-length xs) in
      omega (arith, p.few, length-drop items all, ap length none)

-- ---- what is named, and what is listed

-- The first of some differences.
pub first_is_named : {ds : List Difference} {d : Difference} {rest : List Difference} → ds ≡ d ∷ rest → first_of ds ≡ Some d
unfolding first_of
first_is_named e = ap first_of e

pub none_is_accepted : (ds : List Difference) → 0 ≡ length ds → first_of ds ≡ None
unfolding first_of
none_is_accepted [] e = refl
none_is_accepted (d ∷ ds) e = absurd (omega arith)

-- The two numbers of a difference stand where it does.
pub numbers_at :
    (items : ℕ) (ds : List Difference) {d : Difference} {rest : List Difference} → drop items ds ≡ d ∷ rest →
    (get_or (difference_numbers ds) (2 * items) (pos 0) ≡ pos d.entry) × (get_or (difference_numbers ds) (2 * items + 1) (pos 0) ≡ d.first -ℤ d.second)
unfolding difference_numbers
numbers_at zero [] e = absurd (let h : ◌≡◌ {A = ℕ} 0 1 = cc in omega arith)
numbers_at zero (z ∷ ds) e = (ap (λ zs. get_or (difference_numbers zs) 0 (pos 0)) e, ap (λ zs. get_or (difference_numbers zs) 1 (pos 0)) e)
numbers_at (suc items) [] e = absurd (let h : ◌≡◌ {A = ℕ} 0 1 = cc in omega arith)
numbers_at (suc items) (z ∷ ds) e =
    let even : 2 * suc items ≡ suc (suc (2 * items)) = omega arith in
    let odd : 2 * suc items + 1 ≡ suc (suc (2 * items + 1)) = omega arith in
    let at : ℕ → ℤ = λ k. get_or (difference_numbers (z ∷ ds)) k (pos 0) in
    let h = numbers_at items ds e in
    (ap at even ∙ h.0, ap at odd ∙ h.1)

-- ---- a lent list, as it is filled

-- it begins with the numbers of the first so many differences, and goes on as it was
abbrev pub Filled : List Difference → ℕ → List ℤ → List ℤ → Type 0
Filled ds items old out = out ≡ take (2 * items) (difference_numbers ds) ++ drop (2 * items) old

-- One difference more is filled in.
pub difference_filled :
    (ds : List Difference) (items : ℕ) {d : Difference} {rest : List Difference} (old : List ℤ) {out : List ℤ} → drop items ds ≡ d ∷ rest →
    items < length ds → 2 * items + 1 < length old → Filled ds items old out →
    Filled ds (suc items) old (set (set out (2 * items) (pos d.entry)) (2 * items + 1) (d.first -ℤ d.second))
difference_filled ds items old e h room filled =
    let more : 2 * suc items ≡ 2 * items + 2 = omega arith in
    let is = numbers_at items ds e in
    rw (filled, more) (filled_two (difference_numbers ds) old (pos 0) (2 * items) (omega (arith, length_differences ds)) room is.0 is.1)

-- When all are filled in, the list is theirs and then as it was.
pub differences_filled : (ds : List Difference) (items : ℕ) (old : List ℤ) {out : List ℤ} → items ≡ length ds → Filled ds items old out → out ≡ difference_numbers ds ++ drop (2 * length ds) old
differences_filled ds items old e filled =
    let all = take_all (2 * length ds) (difference_numbers ds) (omega (arith, length_differences ds)) in
    filled ∙ ap (λ (k : ℕ). take (2 * k) (difference_numbers ds) ++ drop (2 * k) old) e ∙ ap (λ (ns : List ℤ). ns ++ drop (2 * length ds) old) all

-- ---- a lent list, as a loop over two lists fills it: after the differences that are filled in come those of what is left

pub record Listed (xs ys old : List ℤ) (i items : ℕ) (out : List ℤ) : Type 0 where
  pub counted : items + length (differing i (drop i xs) (drop i ys)) ≡ length (differing 0 xs ys)
  pub begins : take (2 * items) out ++ difference_numbers (differing i (drop i xs) (drop i ys)) ≡ difference_numbers (differing 0 xs ys)
  pub rest : drop (2 * items) out ≡ drop (2 * items) old

-- Two numbers more are filled in.
two_more :
    (out old rest : List ℤ) (n : ℕ) {m : ℕ} (a b : ℤ) → m ≡ n + 2 → n + 1 < length out → drop n out ≡ drop n old →
    (take m (set (set out n a) (n + 1) b) ++ rest ≡ take n out ++ (a ∷ b ∷ rest)) × (drop m (set (set out n a) (n + 1) b) ≡ drop m old)
two_more out old rest n a b m room same = (grind (arith, common_steps), grind (arith, common_steps, drop-set-lt, drop-drop))

module _ (xs ys old out : List ℤ) (i items : ℕ) (here : i < length xs) (there : i < length ys) (h : Listed xs ys old i items out) where
  abbrev left : List Difference
  left = differing (i + 1) (drop (i + 1) xs) (drop (i + 1) ys)

  pub same_listed : differ (get_or xs i (pos 0)) (get_or ys i (pos 0)) ≡ false → Listed xs ys old (i + 1) items out
  unfolding differing
  same_listed e =
      let same : differing i (drop i xs) (drop i ys) ≡ left = grind (arith, common_steps) in
      record { counted = rw same at h.counted; begins = rw same at h.begins; rest = h.rest }

  pub difference_listed :
      differ (get_or xs i (pos 0)) (get_or ys i (pos 0)) ≡ true → 2 * length (differing 0 xs ys) ≤ length out →
      Listed xs ys old (i + 1) (items + 1) (set (set out (2 * items) (pos i)) (2 * items + 1) (get_or xs i (pos 0) -ℤ get_or ys i (pos 0)))
  unfolding differing difference_numbers
  difference_listed e room =
      let next : differing i (drop i xs) (drop i ys) ≡ difference i (get_or xs i (pos 0)) (get_or ys i (pos 0)) ∷ left = grind (arith, common_steps) in
      let counted : items + suc (length left) ≡ length (differing 0 xs ys) = rw next at h.counted in
      let more = two_more out old (difference_numbers left) (2 * items) {m = 2 * (items + 1)} (pos i) (get_or xs i (pos 0) -ℤ get_or ys i (pos 0)) (omega arith) (omega arith) h.rest in
      record {
        counted = omega arith;
        begins = more.0 ∙ rw next at h.begins;
        rest = more.1;
      }
