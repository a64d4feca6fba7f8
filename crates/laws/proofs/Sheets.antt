-- Two sheets: which entries are listed, which one is named, and what it means that none is. Shown of two lists of as many numbers, the first of which is
-- entry k; a sheet is such a list.
use mathlib.Core.Path.{◌≡◌, refl, sym, ap, ap₂, subst, subst⁻¹, ◌∙◌}
use mathlib.Core.Bool.{true}
use mathlib.Core.List.{List, [], ◌∷◌, map, Memᴰ}
use mathlib.Core.Logic.{◌↔◌, ⊎_elim}
use Prim.Native.Nat.{ℕ, zero, suc, ◌+◌, ◌≤◌, ◌<◌}
use native.Mathlib.Omega.{arith}
use lib.IntN.{ℤ, pos}
use lib.ListN.{length, get_or}
use Rattle.std.specs.Prelude.{Option, Some, None}
use Rattle.integers.proofs.Ring.{neg_-ℤ}
use Rattle.rules.specs.declared.Sheet.{Sheet}
use Rattle.rules.specs.declared.Difference.{Difference}
use Rattle.rules.specs.Sheet.{sheet_numbers, differ, differing, differences, first_of, difference_numbers}
use Rattle.laws.specs.Sheet.{number_at, DiffersAt, FirstDiffers, Found, InOrder, turned, all_turned}
use Rattle.laws.proofs.Tests.{at_least_or_below}
use Rattle.laws.proofs.Differences.{differ_true, differ_false, differ_turned, difference, differs_here, same_here, here_or_later}

-- ---- two lists of numbers

abbrev at : List ℤ → ℕ → ℤ
at xs j = get_or xs j (pos 0)

-- Entry k + j, at which the numbers differ.
record Differs (k : ℕ) (xs ys : List ℤ) (d : Difference) : Type 0 where
  j : ℕ
  entry : d.entry ≡ k + j
  within : j < length xs
  of_first : at xs j ≡ d.first
  of_second : at ys j ≡ d.second
  differ : ¬ (d.first ≡ d.second)

record FirstOf (k : ℕ) (xs ys : List ℤ) (d : Difference) : Type 0 where
  here : Differs k xs ys d
  before : (m : ℕ) → m < here.j → at xs m ≡ at ys m

abbrev FoundIn : ℕ → List ℤ → List ℤ → Option Difference → Type 0
FoundIn k xs ys None = xs ≡ ys
FoundIn k xs ys (Some d) = FirstOf k xs ys d

module _ (k : ℕ) (x y : ℤ) (xs ys : List ℤ) where
  at_head : differ x y ≡ true → Differs k (x ∷ xs) (y ∷ ys) (difference k x y)
  at_head e = record { j = 0; entry = omega arith; within = omega arith; of_first = refl; of_second = refl; differ = differ_true x y e }

  -- What holds of the rest holds of the whole.
  later : {d : Difference} → Differs (suc k) xs ys d → Differs k (x ∷ xs) (y ∷ ys) d
  later h = record { j = suc h.j; entry = omega (arith, h.entry); within = omega (arith, h.within); of_first = h.of_first; of_second = h.of_second; differ = h.differ }

  later_found : x ≡ y → (f : Option Difference) → FoundIn (suc k) xs ys f → FoundIn k (x ∷ xs) (y ∷ ys) f
  unfolding later
  later_found e None h = ap₂ (λ (z : ℤ) (zs : List ℤ). z ∷ zs) e h
  later_found e (Some d) h = record { here = later h.here; before = before }
    where
      before : (m : ℕ) → m < suc h.here.j → at (x ∷ xs) m ≡ at (y ∷ ys) m
      before zero less = e
      before (suc m) less = h.before m (omega arith)

  -- A difference of the whole is at its head, or it is one of the rest.
  head_or_later : {d : Difference} → Differs k (x ∷ xs) (y ∷ ys) d → {X : Type 0} → (d ≡ difference k x y → ¬ (x ≡ y) → X) → (Differs (suc k) xs ys d → X) → X
  head_or_later {d} h {X} first rest = by h.j h.entry h.within h.of_first h.of_second
    where
      by : (j : ℕ) → d.entry ≡ k + j → j < suc (length xs) → at (x ∷ xs) j ≡ d.first → at (y ∷ ys) j ≡ d.second → X
      by zero e less p q =
          let here : d.entry ≡ k = omega arith in
          first (λ i. difference (here i) (sym p i) (sym q i)) (λ same. h.differ (sym p ∙ same ∙ q))
      by (suc j) e less p q = rest (record { j = j; entry = omega arith; within = omega arith; of_first = p; of_second = q; differ = h.differ })

found_in : (k : ℕ) (xs ys : List ℤ) → length xs ≡ length ys → FoundIn k xs ys (first_of (differing k xs ys))
unfolding differing first_of at_head
found_in k [] [] e = refl
found_in k [] (y ∷ ys) e = absurd (omega arith)
found_in k (x ∷ xs) [] e = absurd (omega arith)
found_in k (x ∷ xs) (y ∷ ys) e =
    here_or_later k x y xs ys (λ ds. FoundIn k (x ∷ xs) (y ∷ ys) (first_of ds))
    (λ d. record { here = at_head k x y xs ys d; before = λ m less. absurd (omega arith) })
    (λ d. later_found k x y xs ys (differ_false x y d) (first_of (differing (suc k) xs ys)) (found_in (suc k) xs ys (omega arith)))

-- Each difference that is listed is one,
listed_in : (k : ℕ) (xs ys : List ℤ) (d : Difference) → Memᴰ d (differing k xs ys) → Differs k xs ys d
unfolding differing
listed_in k [] ys d m = absurd (mathlib.Core.List.Memᴰ.not-nil m)
listed_in k (x ∷ xs) [] d m = absurd (mathlib.Core.List.Memᴰ.not-nil m)
listed_in k (x ∷ xs) (y ∷ ys) d m =
    let rest : Memᴰ d (differing (suc k) xs ys) → Differs k (x ∷ xs) (y ∷ ys) d = λ n. later k x y xs ys (listed_in (suc k) xs ys d n) in
    here_or_later k x y xs ys (λ ds. Memᴰ d ds → Differs k (x ∷ xs) (y ∷ ys) d)
    (λ e n. ⊎_elim (λ same. subst⁻¹ (Differs k (x ∷ xs) (y ∷ ys)) same (at_head k x y xs ys e)) rest (mathlib.Core.List.Memᴰ.cases_cons n))
    (λ e. rest)
    m

-- and each that there is, is listed.
in_list : (k : ℕ) (xs ys : List ℤ) → length xs ≡ length ys → (d : Difference) → Differs k xs ys d → Memᴰ d (differing k xs ys)
unfolding differing
in_list k [] ys e d h = absurd (omega (arith, h.within))
in_list k (x ∷ xs) [] e d h = absurd (omega arith)
in_list k (x ∷ xs) (y ∷ ys) e d h =
    let rest = in_list (suc k) xs ys (omega arith) d in
    here_or_later k x y xs ys (Memᴰ d)
    (λ t. head_or_later k x y xs ys h (λ same unlike. mathlib.Core.List.Memᴰ.head same) (λ more. mathlib.Core.List.Memᴰ.tail (rest more)))
    (λ t. head_or_later k x y xs ys h (λ same unlike. absurd (unlike (differ_false x y t))) rest)

-- They stand in the order of their entries.
later_order : (k : ℕ) (ds : List Difference) → InOrder (suc k) ds → InOrder k ds
later_order k [] h = tt
later_order k (d ∷ ds) h = (omega (arith, h.0), h.1)

in_order_from : (k : ℕ) (xs ys : List ℤ) → InOrder k (differing k xs ys)
unfolding differing
in_order_from k [] ys = tt
in_order_from k (x ∷ xs) [] = tt
in_order_from k (x ∷ xs) (y ∷ ys) =
    let rest = in_order_from (suc k) xs ys in
    here_or_later k x y xs ys (InOrder k) (λ e. (omega arith, rest)) (λ e. later_order k (differing (suc k) xs ys) rest)

-- Of the lists exchanged the differences are the same, exchanged.
turned_from : (k : ℕ) (xs ys : List ℤ) → differing k ys xs ≡ map turned (differing k xs ys)
unfolding differing
turned_from k [] [] = refl
turned_from k [] (y ∷ ys) = refl
turned_from k (x ∷ xs) [] = refl
turned_from k (x ∷ xs) (y ∷ ys) =
    let rest = turned_from (suc k) xs ys in
    here_or_later k x y xs ys (λ ds. differing k (y ∷ ys) (x ∷ xs) ≡ map turned ds)
    (λ e. differs_here k y x ys xs (differ_turned x y ∙ e) ∙ ap (λ (ds : List Difference). difference k y x ∷ ds) rest)
    (λ e. same_here k y x ys xs (differ_turned x y ∙ e) ∙ rest)

pub turned_numbers : (ds : List Difference) → difference_numbers (map turned ds) ≡ all_turned (difference_numbers ds)
unfolding difference_numbers all_turned
turned_numbers [] = refl
turned_numbers (d ∷ ds) = ap₂ (λ (z : ℤ) (zs : List ℤ). pos d.entry ∷ z ∷ zs) (sym (neg_-ℤ d.first d.second)) (turned_numbers ds)

-- ---- two sheets

-- Sheets with the same numbers are the same sheet.
pub same_numbers : (a b : Sheet) → sheet_numbers a ≡ sheet_numbers b → a ≡ b
unfolding sheet_numbers
same_numbers a b e =
    λ i. record {
      vma = record { 0 = at (e i) 0 };
      voids = record { 0 = at (e i) 1 };
      density = record { 0 = at (e i) 2 };
      composite = record { 0 = at (e i) 3 };
      verdict = record { 0 = at (e i) 4 };
      pay = record { 0 = at (e i) 5 };
    }

module _ (a b : Sheet) where
  as_long : length (sheet_numbers a) ≡ length (sheet_numbers b)
  unfolding sheet_numbers
  as_long = refl

  differs_at : {d : Difference} → Differs 0 (sheet_numbers a) (sheet_numbers b) d → DiffersAt a b d
  unfolding sheet_numbers
  differs_at {d} h =
      let e : h.j ≡ d.entry = omega (arith, h.entry) in
      record {
        is_entry = omega (arith, h.within);
        of_first = ap (number_at a) (sym e) ∙ h.of_first;
        of_second = ap (number_at b) (sym e) ∙ h.of_second;
        differ = h.differ;
      }

  differs_in : {d : Difference} → DiffersAt a b d → Differs 0 (sheet_numbers a) (sheet_numbers b) d
  unfolding sheet_numbers
  differs_in {d} h =
      record { j = d.entry; entry = omega arith; within = omega (arith, h.is_entry); of_first = h.of_first; of_second = h.of_second; differ = h.differ }

  -- What is found of two sheets: that they are the same, or the first entry that differs.
  pub finding_is_found : Found a b (first_of (differences a b))
  unfolding differences
  finding_is_found = by (first_of (differences a b)) (found_in 0 (sheet_numbers a) (sheet_numbers b) as_long)
    where
      by : (f : Option Difference) → FoundIn 0 (sheet_numbers a) (sheet_numbers b) f → Found a b f
      by None h = same_numbers a b h
      by (Some d) h =
          record { here = differs_at h.here; before = λ m less. h.before m (omega (arith, h.here.entry)) }

  -- Every entry that differs is listed with both numbers, and no other;
  pub listed_exactly_where_differing : (d : Difference) → Memᴰ d (differences a b) ↔ DiffersAt a b d
  unfolding differences
  listed_exactly_where_differing d =
      (λ m. differs_at (listed_in 0 (sheet_numbers a) (sheet_numbers b) d m), λ h. in_list 0 (sheet_numbers a) (sheet_numbers b) as_long d (differs_in h))

  -- in their order, each once.
  pub listed_in_order : InOrder 0 (differences a b)
  unfolding differences
  listed_in_order = in_order_from 0 (sheet_numbers a) (sheet_numbers b)

  -- The sheets exchanged: the same entries, with the numbers exchanged and the signs of the differences turned.
  pub differences_exchanged : differences b a ≡ map turned (differences a b)
  unfolding differences
  differences_exchanged = turned_from 0 (sheet_numbers a) (sheet_numbers b)

  pub differences_turned : difference_numbers (differences b a) ≡ all_turned (difference_numbers (differences a b))
  differences_turned = ap difference_numbers differences_exchanged ∙ turned_numbers (differences a b)

  -- No other finding is found.
  no_difference : a ≡ b → (d : Difference) → ¬ DiffersAt a b d
  no_difference e d h = h.differ (sym h.of_first ∙ ap (λ (s : Sheet). number_at s d.entry) e ∙ h.of_second)

  not_before : (d e : Difference) → DiffersAt a b d → FirstDiffers a b e → e.entry ≤ d.entry
  not_before d e h first = ⊎_elim (λ up. up) (λ below. absurd (h.differ (sym h.of_first ∙ first.before d.entry below ∙ h.of_second))) (at_least_or_below e.entry d.entry)

  pub found_determined : (f g : Option Difference) → Found a b f → Found a b g → f ≡ g
  found_determined None None h k = refl
  found_determined None (Some d) h k = absurd (no_difference h d k.here)
  found_determined (Some d) None h k = absurd (no_difference k d h.here)
  found_determined (Some d) (Some e) h k =
      let same : d.entry ≡ e.entry = omega (arith, not_before d e h.here k, not_before e d k.here h) in
      let first : d.first ≡ e.first = sym h.here.of_first ∙ ap (number_at a) same ∙ k.here.of_first in
      let second : d.second ≡ e.second = sym h.here.of_second ∙ ap (number_at b) same ∙ k.here.of_second in
      λ i. Some (difference (same i) (first i) (second i))

  -- Two sheets are equal exactly when nothing is listed.
  pub equal_exactly_when_none_is_listed : (a ≡ b) ↔ (differences a b ≡ [])
  unfolding first_of
  equal_exactly_when_none_is_listed =
      (λ e. by e (differences a b) (λ d m. (listed_exactly_where_differing d).0 m), λ e. subst (Found a b) (ap first_of e) finding_is_found)
    where
      by : a ≡ b → (ds : List Difference) → ((d : Difference) → Memᴰ d ds → DiffersAt a b d) → ds ≡ []
      by e [] all = refl
      by e (d ∷ ds) all = absurd (no_difference e d (all d (mathlib.Core.List.Memᴰ.head refl)))
