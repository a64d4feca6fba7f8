-- The cut of a job is by the rule, and nothing else is: all its lots but the last have ten sublots, and the last has what is left.
use mathlib.Core.Path.{◌≡◌, refl, ap, ap₂, subst}
use mathlib.Core.Bool.{Bool, true, false, cond}
use mathlib.Core.List.{List, [], ◌∷◌, ◌++◌}
use mathlib.Core.Logic.{⊎_elim}
use Prim.Native.Nat.{ℕ, zero, suc, ◌+◌, ◌*◌, ◌/◌, ◌%◌, ◌≤◌, ◌<◌}
use native.Mathlib.Omega.{arith}
use borrow.Author.Tests.{leb-true, leb-false}
use lib.Dec.{leb}
use lib.ListN.{replicate}
use Rattle.rules.specs.Job.{with_leftover, lot_sizes, Item, in_order, cut}
use Rattle.laws.specs.Job.{Runs, Sized, CutByRule}
use Rattle.laws.proofs.Tests.{at_least_or_below}

-- ---- tens, and a last lot

-- so many lots of ten, and one more
abbrev pub tens_and : ℕ → ℕ → List ℕ
tens_and tens last = replicate tens 10 ++ (last ∷ [])

-- The sizes of a job's lots where it has any: how many have ten, and how many sublots the last has.
pub record Tens (sublots : ℕ) (sizes : List ℕ) : Type 0 where
  pub tens : ℕ
  pub last : ℕ
  pub same : sizes ≡ tens_and tens last
  pub whole : 10 * tens + last ≡ sublots
  pub some : 1 ≤ last
  pub few : last ≤ 17
  pub fewer : last < 8 → tens ≡ 0

tens_of : (q r : ℕ) → r < 10 → 1 ≤ 10 * q + r → Tens (10 * q + r) (with_leftover q r)
unfolding with_leftover
tens_of zero zero h k = absurd (omega arith)
tens_of zero (suc r) h k =
    record { tens = 0; last = suc r; same = refl; whole = refl; some = omega arith; few = omega arith; fewer = λ _. refl }
tens_of (suc b) zero h k =
    record { tens = b; last = 10; same = refl; whole = omega arith; some = omega arith; few = omega arith; fewer = λ l. absurd (omega arith) }
tens_of (suc b) (suc r) h k = by (leb (suc r) 7) refl
  where
    by : (t : Bool) → leb (suc r) 7 ≡ t → Tens (10 * suc b + suc r) (cond t (tens_and b (10 + suc r)) (tens_and (suc b) (suc r)))
    by true e =
        record {
          tens = b;
          last = 10 + suc r;
          same = refl;
          whole = omega arith;
          some = omega arith;
          few = omega (arith, leb-true (suc r) 7 e);
          fewer = λ l. absurd (omega arith);
        }
    by false e =
        record {
          tens = suc b;
          last = suc r;
          same = refl;
          whole = refl;
          some = omega arith;
          few = omega arith;
          fewer = λ l. absurd (omega (arith, leb-false (suc r) 7 e));
        }

pub job_tens : (sublots : ℕ) → 1 ≤ sublots → Tens sublots (lot_sizes sublots)
unfolding lot_sizes
job_tens s h =
    let e : 10 * (s / 10) + s % 10 ≡ s = omega arith in
    subst (λ (m : ℕ). Tens m (with_leftover (s / 10) (s % 10))) e (tens_of (s / 10) (s % 10) (omega arith) (omega arith))

-- ---- the rule holds of the cut

runs_on : (tens last from end : ℕ) → from + (10 * tens + last) ≡ end → Runs from (in_order from (tens_and tens last)) end
unfolding in_order
runs_on zero last from end e = (refl, omega arith)
runs_on (suc tens) last from end e = (refl, runs_on tens last (from + 10) end (omega arith))

sized_so : (tens last from before : ℕ) → 1 ≤ last → last ≤ 17 → (last < 8 → tens + before ≡ 0) → Sized before (in_order from (tens_and tens last))
unfolding in_order
sized_so zero last from before some few fewer = (some, few, λ l. omega (arith, fewer l))
sized_so (suc zero) last from before some few fewer = (refl, (some, few, λ l. absurd (omega (arith, fewer l))))
sized_so (suc (suc tens)) last from before some few fewer =
    (refl, sized_so (suc tens) last (from + 10) (suc before) some few (λ l. absurd (omega (arith, fewer l))))

no_sublots : CutByRule 0 (cut 0)
unfolding cut in_order lot_sizes with_leftover
no_sublots = record { runs = refl; sized = tt }

some_sublots_cut : (sublots : ℕ) → Tens sublots (lot_sizes sublots) → CutByRule sublots (cut sublots)
unfolding cut
some_sublots_cut sublots t =
    rw t.same
    (record {
      runs = runs_on t.tens t.last 0 sublots (omega (arith, t.whole));
      sized = sized_so t.tens t.last 0 0 t.some t.few (λ l. omega (arith, t.fewer l));
    })

pub cut_by_rule : (sublots : ℕ) → CutByRule sublots (cut sublots)
cut_by_rule zero = no_sublots
cut_by_rule (suc s) = some_sublots_cut (suc s) (job_tens (suc s) (omega arith))

-- ---- and of nothing else

runs_forward : (from : ℕ) (items : List Item) (end : ℕ) → Runs from items end → from ≤ end
runs_forward from [] end e = omega (arith, e)
runs_forward from (item ∷ items) end r = omega (arith, runs_forward (from + item.count) items end r.1)

-- A lot that has one before it has eight sublots or more.
eight_after : (count before : ℕ) → (count < 8 → suc before ≡ 0) → 8 ≤ count
eight_after count before fewer = ⊎_elim (λ h. h) (λ h. absurd (omega (arith, fewer h))) (at_least_or_below 8 count)

-- So after the first lot there are eight sublots or more, if there is a second.
eight_more : (before from : ℕ) (item : Item) (items : List Item) (end : ℕ) → Sized (suc before) (item ∷ items) → Runs from (item ∷ items) end → from + 8 ≤ end
eight_more before from item [] end s r = omega (arith, eight_after item.count before s.2, r.1)
eight_more before from item (next ∷ items) end s r = omega (arith, s.0, runs_forward (from + item.count) (next ∷ items) end r.1)

some_sublots : (before : ℕ) (item : Item) (items : List Item) → Sized before (item ∷ items) → 1 ≤ item.count
some_sublots before item [] s = s.0
some_sublots before item (next ∷ items) s = omega (arith, s.0)

same_item : {x y : Item} → x.start ≡ y.start → x.count ≡ y.count → x ≡ y
same_item e f = λ i. record { start = e i; count = f i }

one_cut :
    (before from : ℕ) (xs ys : List Item) (end : ℕ) →
    Runs from xs end → Sized before xs → Runs from ys end → Sized before ys → xs ≡ ys
one_cut before from [] [] end r s q t = refl
one_cut before from [] (y ∷ ys) end r s q t = absurd (omega (arith, r, some_sublots before y ys t, runs_forward (from + y.count) ys end q.1))
one_cut before from (x ∷ xs) [] end r s q t = absurd (omega (arith, q, some_sublots before x xs s, runs_forward (from + x.count) xs end r.1))
one_cut before from (x ∷ []) (y ∷ []) end r s q t =
    ap (λ (item : Item). item ∷ []) (same_item {x = x} {y = y} (omega (arith, r.0, q.0)) (omega (arith, r.1, q.1)))
one_cut before from (x ∷ []) (y ∷ y' ∷ ys) end r s q t =
    absurd (omega (arith, r.1, s.1, t.0, eight_more before (from + y.count) y' ys end t.1 q.1))
one_cut before from (x ∷ x' ∷ xs) (y ∷ []) end r s q t =
    absurd (omega (arith, q.1, t.1, s.0, eight_more before (from + x.count) x' xs end s.1 r.1))
one_cut before from (x ∷ x' ∷ xs) (y ∷ y' ∷ ys) end r s q t =
    let count : x.count ≡ y.count = omega (arith, s.0, t.0) in
    ap₂ (λ (item : Item) (items : List Item). item ∷ items) (same_item {x = x} {y = y} (omega (arith, r.0, q.0)) count)
    (one_cut (suc before) (from + x.count) (x' ∷ xs) (y' ∷ ys) end r.1 s.1 (rw count q.1) t.1)

-- Nothing but the cut meets the rule.
pub only_the_cut_is_by_rule : (sublots : ℕ) (items : List Item) → CutByRule sublots items → items ≡ cut sublots
only_the_cut_is_by_rule sublots items h =
    let c = cut_by_rule sublots in
    one_cut 0 0 items (cut sublots) sublots h.runs h.sized c.runs c.sized
