-- A column in bytes: where its entries stand, by itself and where it starts at a place in longer bytes.
use mathlib.Core.Path.{◌≡◌, refl, ap, ◌∙◌, subst⁻¹}
use mathlib.Core.List.{List, [], ◌∷◌}
use Prim.Native.Nat.{ℕ, zero, suc, ◌+◌, ◌*◌, ◌≤◌, ◌<◌}
use native.Mathlib.Nat.{mul-suc, le_of_suc-le-suc, add_comm}
use native.Mathlib.Numerals.{add-one}
use native.Mathlib.Omega.{arith}
use lib.ListN.{length, length-drop, get_or, take, drop}
use lib.Seq.{length-take-le, drop-cons, drop-drop}
use Rattle.rules.specs.Table.{last_row, entry, column_in}
use Rattle.rules.specs.Record.{spelled, twos, part}
use Rattle.rules.specs.Edition.{column_size}
use Rattle.laws.specs.Column.{Column}
use Rattle.laws.specs.ColumnIn.{ColumnIn}
use Rattle.laws.proofs.Spelled.{part_two}

twos_at : (n : ℕ) (bs : List ℕ) (k : ℕ) → k < n → get_or (twos n bs) k 0 ≡ spelled 0 (part (2 * k) 2 bs)
unfolding twos
twos_at zero bs k h = absurd (omega arith)
twos_at (suc n) bs zero h = refl
twos_at (suc n) bs (suc k) h =
    twos_at n (drop 2 bs) k (le_of_suc-le-suc h)
    ∙ cc (drop-drop (2 * k) 2 bs, mul-suc 2 k, add_comm 2 (2 * k))

-- Entry k is what bytes 2k and 2k + 1 spell.
pub column_entry : (bs : List ℕ) (k : ℕ) → length bs ≡ 108 → k ≤ last_row → entry (column_in bs) k ≡ spelled 0 (get_or bs (2 * k) 0 ∷ get_or bs (2 * k + 1) 0 ∷ [])
unfolding column_in
column_entry bs k size h = twos_at (suc last_row) bs k (omega arith) ∙ ap (spelled 0) (part_two bs (2 * k) (omega arith))

-- ---- a column that starts at a place in longer bytes

length_twos : (n : ℕ) (bs : List ℕ) → length (twos n bs) ≡ n
unfolding twos
length_twos zero bs = refl
length_twos (suc n) bs = ap suc (length_twos n (drop 2 bs))

-- A column has 54 entries.
pub column_rows : (bs : List ℕ) → length (column_in bs) ≡ suc last_row
unfolding column_in
column_rows bs = length_twos (suc last_row) bs

-- Entry k is what the two bytes spell that stand 2k past the column's start.
pub placed_entry : (bs : List ℕ) (at k : ℕ) → k ≤ last_row → entry (column_in (drop at bs)) k ≡ spelled 0 (part (at + 2 * k) 2 bs)
unfolding column_in
placed_entry bs at k h =
    twos_at (suc last_row) (drop at bs) k (omega arith)
    ∙ ap (λ (l : List ℕ). spelled 0 (take 2 l)) (drop-drop (2 * k) at bs)

-- The entries from row k on are that of row k and those from the next row on.
pub column_next :
    (bs : List ℕ) (at k : ℕ) → k ≤ last_row →
    drop k (column_in (drop at bs)) ≡ spelled 0 (part (at + 2 * k) 2 bs) ∷ drop (k + 1) (column_in (drop at bs))
column_next bs at k h =
    drop-cons (column_in (drop at bs)) k 0 (omega (arith, column_rows (drop at bs)))
    ∙ cc (add-one k, placed_entry bs at k h)

-- So many numbers of two bytes are the same where what follows them is cut off.
twos_part : (n at m : ℕ) (bs : List ℕ) → at + 2 * n ≤ m → twos n (drop at (take m bs)) ≡ twos n (drop at bs)
unfolding twos
twos_part zero at m bs h = refl
twos_part (suc n) zero zero bs h = absurd (omega arith)
twos_part (suc n) zero (suc zero) bs h = absurd (omega arith)
twos_part (suc n) zero (suc (suc m)) [] h = refl
twos_part (suc n) zero (suc (suc m)) (x ∷ []) h = refl
twos_part (suc n) zero (suc (suc m)) (x ∷ y ∷ bs) h =
    ap (λ (l : List ℕ). spelled 0 (x ∷ y ∷ []) ∷ l) (twos_part n 0 m bs (omega arith))
twos_part (suc n) (suc at) zero bs h = absurd (omega arith)
twos_part (suc n) (suc at) (suc m) [] h = refl
twos_part (suc n) (suc at) (suc m) (x ∷ bs) h = twos_part (suc n) at m bs (omega arith)

-- A column that lies within the first m bytes is the same column in all of them.
pub column_of_part : (m : ℕ) (bs : List ℕ) (at : ℕ) → at + column_size ≤ m → column_in (drop at (take m bs)) ≡ column_in (drop at bs)
unfolding column_in
column_of_part m bs at h = twos_part (suc last_row) at m bs h

-- The 108 bytes from a place on hold the column that starts there.
pub column_in_part : (s : List ℕ) (at : ℕ) → column_in (take column_size (drop at s)) ≡ column_in (drop at s)
column_in_part s at = column_of_part column_size (drop at s) 0 (omega arith)

-- ---- Table 106-1

-- So where a column stands in some bytes, those 108 bytes are a column in bytes.
pub column_part : (s : List ℕ) (at : ℕ) → at + column_size ≤ length s → Column (column_in (drop at s)) → ColumnIn (take column_size (drop at s))
column_part s at within shape =
    record { size = length-take-le column_size (drop at s) (omega (arith, length-drop at s)); shape = subst⁻¹ Column (column_in_part s at) shape }
