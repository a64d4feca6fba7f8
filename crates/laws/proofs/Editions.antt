-- An accepted edition, in orders; and each of its columns is one of which the laws on lookups hold.
use mathlib.Core.Path.{◌≡◌, refl}
use mathlib.Core.Bool.{Bool, true, false, cond, ◌&&◌}
use mathlib.Core.List.{List}
use Prim.Native.Nat.{ℕ, ◌+◌, ◌*◌, ◌-◌, ◌≤◌}
use native.Mathlib.Omega.{arith}
use borrow.Author.Tests.{le-leb, eq-eqb}
use lib.Dec.{T, leb, eqb, leb→le, eqb→eq}
use lib.Ieee.Fits.{and_l, and_r}
use lib.ListN.{length}
use Rattle.rules.specs.Lot.{most}
use Rattle.rules.specs.Record.{length_field, version_field}
use Rattle.rules.specs.Table.{no_column, a_column, has_store, has_edition, has_column, well_formed}
use Rattle.rules.specs.Edition.{first_field, last_field, edition_head, column_size, columns, column_of, each, accepted, table_of}
use Rattle.laws.specs.Column.{Column}
use Rattle.laws.specs.StoreWalk.{EditionAccepted}
use Rattle.laws.proofs.Each.{each_at}
use Rattle.laws.proofs.Table.{column}

-- A test that cannot hold says no.
pub refuses : {b : Bool} → (T b → ⊥) → false ≡ b
refuses {b = true} h = absurd (h tt)
refuses {b = false} h = refl

-- What is asked of an accepted edition holds of it, each part in an order.
pub edition_accepted : (e : List ℕ) → T (accepted e) → EditionAccepted e
unfolding accepted
edition_accepted e t =
    let a : Bool = eqb (version_field e) 1 in
    let b : Bool = leb 2 (first_field e) in
    let c : Bool = leb (last_field e) most in
    let d : Bool = leb (first_field e) (last_field e) in
    let s : Bool = eqb (length e) (edition_head + column_size * columns e) in
    let f : Bool = eqb (length_field e) (length e - 2) in
    let g : Bool = each (λ n. well_formed (column_of e n)) (columns e) (first_field e) in
    let t₆ = and_l (a && b && c && d && s && f) g t in
    let t₅ = and_l (a && b && c && d && s) f t₆ in
    let t₄ = and_l (a && b && c && d) s t₅ in
    let t₃ = and_l (a && b && c) d t₄ in
    let t₂ = and_l (a && b) c t₃ in
    record {
      version = eqb→eq _ _ (and_l a b t₂);
      least = leb→le _ _ (and_r a b t₂);
      few = leb→le _ _ (and_r (a && b) c t₃);
      order = leb→le _ _ (and_r (a && b && c) d t₄);
      size = eqb→eq _ _ (and_r (a && b && c && d) s t₅);
      follow = eqb→eq _ _ (and_r (a && b && c && d && s) f t₆);
      passing = and_r (a && b && c && d && s && f) g t;
    }

-- An edition of which that cannot hold is not accepted.
pub not_accepted : (e : List ℕ) → (EditionAccepted e → ⊥) → false ≡ accepted e
not_accepted e h = refuses (λ t. h (edition_accepted e t))

-- Where all before the columns holds, they decide.
pub columns_decide :
    (e : List ℕ) → version_field e ≡ 1 → 2 ≤ first_field e → last_field e ≤ most → first_field e ≤ last_field e →
    length e ≡ edition_head + column_size * columns e → length_field e ≡ length e - 2 →
    each (λ n. well_formed (column_of e n)) (columns e) (first_field e) ≡ accepted e
unfolding accepted
columns_decide e version least few order size follow =
    simp (eq-eqb _ _ version, le-leb _ _ least, le-leb _ _ few, le-leb _ _ order, eq-eqb _ _ size, eq-eqb _ _ follow)

-- Any column of an accepted edition starts at 50.00, never falls and ends at 100.00.
pub edition_column : (e : List ℕ) → T (accepted e) → (n : ℕ) → first_field e ≤ n → n ≤ last_field e → Column (column_of e n)
edition_column e t n low high =
    let a = edition_accepted e t in
    column _ (each_at (λ n. well_formed (column_of e n)) (columns e) (first_field e) a.passing n low (omega arith))

-- An edition has a column for n where n runs from its first to its last.
pub edition_has : (e : List ℕ) (n : ℕ) → has_column (table_of e n) ≡ (leb (first_field e) n && leb n (last_field e))
unfolding table_of
edition_has e n = by (column_of e n) (leb (first_field e) n && leb n (last_field e))
  where
    by : (column : List ℕ) (b : Bool) → has_column (cond b (a_column column) no_column) ≡ b
    by column true = refl
    by column false = refl

-- Whatever n is, an edition is an edition in a store.
pub edition_is_found : (e : List ℕ) (n : ℕ) → (has_store (table_of e n) ≡ true) × (has_edition (table_of e n) ≡ true)
unfolding table_of
edition_is_found e n = by (column_of e n) (leb (first_field e) n && leb n (last_field e))
  where
    by : (column : List ℕ) (b : Bool) → (has_store (cond b (a_column column) no_column) ≡ true) × (has_edition (cond b (a_column column) no_column) ≡ true)
    by column true = (refl, refl)
    by column false = (refl, refl)
