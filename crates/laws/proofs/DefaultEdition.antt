-- Table 106-1 as an edition, under any number: it is accepted, its table is Table 106-1, and so is the table of a store that holds it.
use mathlib.Core.Path.{◌≡◌, refl, sym, ap, ◌∙◌}
use mathlib.Core.Bool.{Bool, true, false, cond, ◌&&◌, and-eq-true_iff}
use mathlib.Core.List.{List, [], ◌∷◌, ◌++◌, append-nil}
use Prim.Native.Nat.{ℕ, ◌/◌, ◌%◌, ◌≤◌, ◌<◌}
use native.Mathlib.Nat.{le_antisymm, div-one}
use native.Mathlib.Omega.{arith}
use borrow.Author.Tests.{lt-ltb, le-ltb, le-leb, leb-true, eq-eqb}
use lib.Dec.{leb}
use lib.ListN.{length, take, drop}
use Rattle.std.specs.Prelude.{Ok, Err}
use Rattle.rules.specs.declared.Refusal.TheVariants.{Room}
use Rattle.rules.specs.Said.{ruled}
use Rattle.rules.specs.Record.{spell, spelled, twos}
use Rattle.rules.specs.Table.{Table, no_column, a_column, rows, table_106_1, entries, column_in}
use Rattle.rules.specs.Edition.{number_field, column_size, column_place, column_of, accepted, table_of, in_twos, columns_from, edition_head_of, edition_of, edition_106_1}
use Rattle.rules.specs.Store.{rising, most_editions, editions, is_store, stored, edition_in, table_in}
use Rattle.rules.specs.Entries.{written}
use Rattle.rules.specs.Editions.{default_says, after_default}
use Rattle.laws.specs.Bytes.{Bytes}
use Rattle.laws.proofs.Table.{table_106_1_found}
use Rattle.laws.proofs.Tests.{this_or_later}
use Rattle.laws.proofs.Spelled.{spelled_spell}
use Rattle.laws.proofs.Twos.{in_twos_column}
use Rattle.laws.proofs.StoreEnds.{ends_short}
use Rattle.laws.proofs.StoreLists.{joined, joined_editions}

-- It has 979 bytes.
pub default_size : (number : ℕ) → length (edition_106_1 number) ≡ 979
unfolding edition_106_1 edition_of edition_head_of columns_from in_twos spell rows table_106_1
default_size number = refl

-- It is accepted.
pub default_accepted : (number : ℕ) → accepted (edition_106_1 number) ≡ true
unfolding accepted column_of column_in twos spelled edition_106_1 edition_of edition_head_of columns_from in_twos spell rows table_106_1
default_accepted number = refl

-- It has the number under which it is written.
pub default_number : (number : ℕ) → number ≤ 65535 → number_field (edition_106_1 number) ≡ number
unfolding edition_106_1 edition_of edition_head_of spell
default_number number h = spelled_spell 2 number (omega arith)

-- ---- its table

-- A count from 2 to 10 is one of nine.
one_of_nine : (P : ℕ → Type 0) (n : ℕ) → 2 ≤ n → n ≤ 10 → P 2 → P 3 → P 4 → P 5 → P 6 → P 7 → P 8 → P 9 → P 10 → P n
one_of_nine P n low high p₂ p₃ p₄ p₅ p₆ p₇ p₈ p₉ p₁₀ =
    this_or_later 2 n low (λ e. rw e p₂)
    (λ h. this_or_later 3 n h (λ e. rw e p₃)
    (λ h. this_or_later 4 n h (λ e. rw e p₄)
    (λ h. this_or_later 5 n h (λ e. rw e p₅)
    (λ h. this_or_later 6 n h (λ e. rw e p₆)
    (λ h. this_or_later 7 n h (λ e. rw e p₇)
    (λ h. this_or_later 8 n h (λ e. rw e p₈)
    (λ h. this_or_later 9 n h (λ e. rw e p₉)
    (λ h. rw (le_antisymm {n = n} {m = 10} high h) p₁₀))))))))

columns_same : (number n : ℕ) → 2 ≤ n → n ≤ 10 → column_of (edition_106_1 number) n ≡ entries (table_106_1 n)
unfolding column_of column_in twos spelled edition_106_1 edition_of edition_head_of columns_from in_twos spell rows table_106_1
columns_same number n low high =
    one_of_nine (λ m. column_of (edition_106_1 number) m ≡ entries (table_106_1 m)) n low high refl refl refl refl refl refl refl refl refl

-- Its table is Table 106-1, for every n.
pub default_table_of : (number : ℕ) → table_of (edition_106_1 number) ≡ table_106_1
unfolding table_of edition_106_1 edition_of edition_head_of spell table_106_1
default_table_of number = λ i n. by n (leb 2 n && leb n 10) refl i
  where
    by :
        (n : ℕ) (b : Bool) → (leb 2 n && leb n 10) ≡ b →
        cond b (a_column (column_of (edition_106_1 number) n)) no_column ≡ table_106_1 n
    by n true t =
        let h = (and-eq-true_iff (leb 2 n) (leb n 10)).0 t in
        let low : 2 ≤ n = leb-true 2 n h.0 in
        let high : n ≤ 10 = leb-true n 10 h.1 in
        ap a_column (columns_same number n low high) ∙ sym (table_106_1_found n low high)
    by n false t = simp t

-- ---- in a store

-- A store that holds it under the number that is named has Table 106-1 as its table.
pub holds_default :
    (s : List ℕ) (named number : ℕ) → is_store s ≡ true → stored named (editions s) ≡ true → edition_in named (editions s) ≡ edition_106_1 number →
    table_in s named ≡ table_106_1
unfolding table_in
holds_default s named number t h is =
    let at : (n : ℕ) → table_in s named n ≡ table_106_1 n = λ n. simp (t, h, is) (ap (λ (table : Table). table n) (default_table_of number)) in
    λ i n. at n i

-- It is a store by itself, which holds it alone.
pub default_is_store : (number : ℕ) → (is_store (edition_106_1 number) ≡ true) × (editions (edition_106_1 number) ≡ edition_106_1 number ∷ [])
unfolding joined rising
default_is_store number =
    let e : List ℕ = edition_106_1 number in
    let rises : rising most_editions 0 (e ∷ []) ≡ true = simp (default_accepted number, le-leb 0 (number_field e) (omega arith)) in
    let alone : editions e ≡ e ∷ [] = simp append-nil at (joined_editions most_editions 0 (e ∷ []) [] rises (ends_short [] (omega arith))) in
    (ap (rising most_editions 0) alone ∙ rises, alone)

-- So where it is the store that is lent, under its own number, the table is Table 106-1.
pub default_table : (number : ℕ) → number ≤ 65535 → table_in (edition_106_1 number) number ≡ table_106_1
unfolding stored edition_in
default_table number h =
    let e : List ℕ = edition_106_1 number in
    let is = default_is_store number in
    let same = eq-eqb (number_field e) number (default_number number h) in
    holds_default e number number is.0 (rw is.1 (simp same)) (rw is.1 (simp same))

-- ---- its bytes, as they are written

-- The seven bytes before its columns.
pub default_head : (number : ℕ) → number ≤ 65535 → take 7 (edition_106_1 number) ≡ 3 ∷ 209 ∷ 1 ∷ (number / 256) ∷ (number % 256) ∷ 2 ∷ 10 ∷ []
unfolding edition_106_1 edition_of edition_head_of spell
default_head number h =
    let high : number / 256 % 256 ≡ number / 256 = omega arith in
    simp (high, div-one)

column_there : (number n : ℕ) → 2 ≤ n → n ≤ 10 → take column_size (drop (column_place 2 n) (edition_106_1 number)) ≡ in_twos (entries (table_106_1 n))
unfolding edition_106_1 edition_of edition_head_of columns_from in_twos spell rows table_106_1
column_there number n low high =
    one_of_nine (λ m. take column_size (drop (column_place 2 m) (edition_106_1 number)) ≡ in_twos (entries (table_106_1 m))) n low high
    refl refl refl refl refl refl refl refl refl

-- 108 bytes that hold Table 106-1's column for n are those that stand at its place.
pub default_column :
    (number n : ℕ) (bs : List ℕ) → 2 ≤ n → n ≤ 10 → Bytes bs → length bs ≡ column_size → column_in bs ≡ entries (table_106_1 n) →
    take (length bs) (drop (column_place 2 n) (edition_106_1 number)) ≡ bs
default_column number n bs low high small size e =
    rw size (column_there number n low high ∙ sym (ap in_twos e) ∙ in_twos_column bs small size)

-- ---- what is said where it is written

-- Fewer bytes than it has are refused and stay as they were;
pub short_bytes_are_refused : (number : ℕ) (out : List ℕ) → length out < 979 → (default_says number out ≡ Err Room) × (after_default number out ≡ out)
unfolding default_says ruled written
short_bytes_are_refused number out short =
    let said : default_says number out ≡ Err Room = simp (default_size number, lt-ltb (length out) 979 short) in
    (said, rw said)

-- of any others the first are those of the edition then, and the rest stays.
pub default_is_written :
    (number : ℕ) (out : List ℕ) → 979 ≤ length out →
    (default_says number out ≡ Ok 979) × (after_default number out ≡ edition_106_1 number ++ drop 979 out)
unfolding default_says ruled written
default_is_written number out room =
    let said : default_says number out ≡ Ok 979 = simp (default_size number, le-ltb (length out) 979 room) in
    (said, rw (said, default_size number))
