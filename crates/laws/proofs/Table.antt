-- Table 106-1 is well formed, by one computed test over all of it; and what holds at any row of a well-formed column.
use mathlib.Core.Path.{◌≡◌, refl, ◌∙◌, sym}
use mathlib.Core.Bool.{Bool, true, false, cond, ◌&&◌, and-eq-true_iff}
use mathlib.Core.Logic.{◌↔◌}
use mathlib.Core.List.{List, [], ◌∷◌}
use Prim.Native.Nat.{ℕ, zero, suc, ◌≤◌, ◌<◌}
use native.Mathlib.Nat.{le_refl, le_trans, le_of_suc-le-suc}
use native.Mathlib.Omega.{arith}
use borrow.Author.Tests.{le-leb, leb-true}
use lib.Dec.{T, leb, eqb, leb→le, eqb→eq}
use lib.Ieee.Fits.{and_l, and_r}
use lib.ListN.{length, get_or}
use Rattle.rules.specs.Table.{no_column, a_column, rows, table_106_1, has_column, entries, entry, last_row, rises_from, well_formed, column_four}
use Rattle.rules.specs.Edition.{each}
use Rattle.laws.specs.Column.{Column}
use Rattle.laws.proofs.Each.{each_at}

-- no entry is below what went before
above : (least : ℕ) (xs : List ℕ) → T (rises_from least xs) → (k : ℕ) → k < length xs → least ≤ get_or xs k 0
above least [] t k h = absurd (omega arith)
above least (x ∷ xs) t zero h = leb→le least x (and_l (leb least x) (rises_from x xs) t)
above least (x ∷ xs) t (suc k) h =
    le_trans (leb→le least x (and_l (leb least x) (rises_from x xs) t)) (above x xs (and_r (leb least x) (rises_from x xs) t) k (le_of_suc-le-suc h))

ordered : (least : ℕ) (xs : List ℕ) → T (rises_from least xs) → (j k : ℕ) → j ≤ k → k < length xs → get_or xs j 0 ≤ get_or xs k 0
ordered least [] t j k h below = absurd (omega arith)
ordered least (x ∷ xs) t zero zero h below = le_refl x
ordered least (x ∷ xs) t zero (suc k) h below = above x xs (and_r (leb least x) (rises_from x xs) t) k (le_of_suc-le-suc below)
ordered least (x ∷ xs) t (suc j) zero h below = absurd (omega arith)
ordered least (x ∷ xs) t (suc j) (suc k) h below =
    ordered x xs (and_r (leb least x) (rises_from x xs) t) j k (le_of_suc-le-suc h) (le_of_suc-le-suc below)

-- A well-formed list is a `Column`: it starts at 50.00, ends at 100.00, and falls between no two rows.
pub column : (xs : List ℕ) → T (well_formed xs) → Column xs
column xs t =
    let long : Bool = eqb (length xs) (suc last_row) in
    let first : Bool = eqb (get_or xs 0 0) 5000 in
    let rising : Bool = rises_from 0 xs in
    let last : Bool = eqb (get_or xs last_row 0) 10000 in
    let t₃ : T (long && first && rising) = and_l (long && first && rising) last t in
    let t₂ : T (long && first) = and_l (long && first) rising t₃ in
    let size : length xs ≡ suc last_row = eqb→eq _ _ (and_l long first t₂) in
    record {
      starts = eqb→eq _ _ (and_r long first t₂);
      never_falls = λ j k h low. ordered 0 xs (and_r (long && first) rising t₃) j k h (omega arith);
      ends = eqb→eq _ _ (and_r (long && first && rising) last t);
    }

-- No entry is above the last, which is 10,000.
pub entry_at_most : {xs : List ℕ} {k : ℕ} → Column xs → k ≤ last_row → get_or xs k 0 ≤ 10000
entry_at_most {xs} {k} column h = omega (arith, column.never_falls k last_row h (le_refl last_row), column.ends)

-- One test over the whole table: columns n = 2 to 10.
pub whole_table : T (each (λ n. well_formed (entries (table_106_1 n))) 9 2)
unfolding rows table_106_1
whole_table = tt

-- Every column of Table 106-1 starts at 50.00, never falls and ends at 100.00.
pub table_106_1_column : (n : ℕ) → 2 ≤ n → n ≤ 10 → Column (entries (table_106_1 n))
table_106_1_column n low high =
    column (entries (table_106_1 n)) (each_at (λ m. well_formed (entries (table_106_1 m))) 9 2 whole_table n low (omega arith))

-- There is a column for each of these counts.
pub table_106_1_found : (n : ℕ) → 2 ≤ n → n ≤ 10 → table_106_1 n ≡ a_column (entries (table_106_1 n))
unfolding table_106_1
table_106_1_found n low high = rw (le-leb 2 n low, le-leb n 10 high)

-- There is a column for no other count.
pub table_106_1_has : (n : ℕ) → has_column (table_106_1 n) ≡ (leb 2 n && leb n 10)
unfolding table_106_1
table_106_1_has n = by _ (leb 2 n && leb n 10)
  where
    by : (column : List ℕ) (b : Bool) → has_column (cond b (a_column column) no_column) ≡ b
    by column true = refl
    by column false = refl

pub table_106_1_counts : (n : ℕ) → (has_column (table_106_1 n) ≡ true) ↔ ((2 ≤ n) × (n ≤ 10))
table_106_1_counts n = (
  λ e. let h = (and-eq-true_iff (leb 2 n) (leb n 10)).0 (sym (table_106_1_has n) ∙ e) in (leb-true 2 n h.0, leb-true n 10 h.1),
  λ h. rw (table_106_1_has n, le-leb 2 n h.0, le-leb n 10 h.1) refl,
)

-- Column n = 4 is what its formula says, at each of the 54 rows.
fourth_column : T (each (λ k. eqb (entry (entries (table_106_1 4)) k) (column_four k)) (suc last_row) 0)
unfolding rows table_106_1
fourth_column = tt

pub table_106_1_four : (k : ℕ) → k ≤ last_row → entry (entries (table_106_1 4)) k ≡ column_four k
table_106_1_four k h =
    eqb→eq _ _ (each_at (λ m. eqb (entry (entries (table_106_1 4)) m) (column_four m)) (suc last_row) 0 fourth_column k (omega arith) (omega arith))
