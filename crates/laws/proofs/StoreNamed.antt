-- The edition that is named: where it lies in a store, and its columns where they lie.
use mathlib.Core.Path.{◌≡◌, refl, sym, ap, ◌∙◌, subst}
use mathlib.Core.Bool.{Bool, true, false, cond, ◌&&◌, ◌||◌, false≢true, and-eq-true_iff}
use mathlib.Core.List.{List, [], ◌∷◌, ◌++◌, append_assoc}
use Prim.Native.Nat.{ℕ, zero, suc, ◌+◌, ◌≤◌}
use native.Mathlib.Omega.{arith}
use borrow.Author.Tests.{eqb-true, leb-true}
use lib.Dec.{leb, eqb}
use lib.ListN.{length, drop, length-append, length-take}
use lib.Seq.{drop-drop, drop-append-add}
use Rattle.std.specs.Prelude.{Ok, Some, Option, None, Err}
use Rattle.rules.specs.declared.Refusal.TheVariants.{Unsound}
use Rattle.rules.specs.Record.{length_field}
use Rattle.rules.specs.Table.{Found, no_store, no_edition, a_column, has_column, entries, column_in}
use Rattle.rules.specs.Edition.{number_field, first_field, last_field, column_size, column_place, column_of, accepted, table_of}
use Rattle.rules.specs.Store.{first_entry, rising, most_editions, editions, is_store, stored, edition_in, start_in, size_of, table_in}
use Rattle.rules.specs.Said.{Said}
use Rattle.laws.specs.Column.{Column, Columns}
use Rattle.laws.specs.StoreWalk.{named_says, EditionAt, NamedIn, table_at}
use Rattle.laws.proofs.ColumnIn.{column_of_part}
use Rattle.laws.proofs.Editions.{edition_accepted, edition_column, edition_has}
use Rattle.laws.proofs.StoreLists.{joined, rising_parts, first_joined, whole_store}

-- ---- the edition of a number, where it lies

-- It is the entry that starts at its place, it is accepted and has that number, and it lies within the bytes.
pub record Lies (named : ℕ) (bs : List ℕ) (es : List (List ℕ)) : Type 0 where
  pub same : first_entry (drop (start_in named es) bs) ≡ edition_in named es
  pub taken : accepted (edition_in named es) ≡ true
  pub number : number_field (edition_in named es) ≡ named
  pub within : start_in named es + length (edition_in named es) ≤ length bs

module _ (named : ℕ) (e : List ℕ) (es : List (List ℕ)) (tail : List ℕ) (t : accepted e ≡ true) where
  lies_first : eqb (number_field e) named ≡ true → Lies named (joined (e ∷ es) ++ tail) (e ∷ es)
  unfolding joined edition_in start_in
  lies_first is =
      record {
        same = simp (is, append_assoc, first_joined e (joined es ++ tail) t);
        taken = simp (is, t);
        number = simp is (eqb-true (number_field e) named is);
        within = simp is (omega (arith, length-append e (joined es), length-append (e ++ joined es) tail));
      }

  lies_later : eqb (number_field e) named ≡ false → Lies named (joined es ++ tail) es → Lies named (joined (e ∷ es) ++ tail) (e ∷ es)
  unfolding joined edition_in start_in
  lies_later is l =
      record {
        same = simp (is, append_assoc, drop-append-add) l.same;
        taken = simp is l.taken;
        number = simp is l.number;
        within =
            simp is (omega (arith, l.within, length-append e (joined es), length-append (joined es) tail, length-append (e ++ joined es) tail));
      }

  lies_next :
      (b : Bool) → eqb (number_field e) named ≡ b → (b || stored named es) ≡ true → (stored named es ≡ true → Lies named (joined es ++ tail) es) →
      Lies named (joined (e ∷ es) ++ tail) (e ∷ es)
  lies_next true is h more = lies_first is
  lies_next false is h more = lies_later is (more h)

lies_in :
    (named room least : ℕ) (es : List (List ℕ)) (tail : List ℕ) → rising room least es ≡ true → stored named es ≡ true →
    Lies named (joined es ++ tail) es
unfolding rising stored
lies_in named room least [] tail r h = absurd (false≢true h)
lies_in named zero least (e ∷ es) tail r h = absurd (false≢true r)
lies_in named (suc room) least (e ∷ es) tail r h =
    let parts = rising_parts room least e es r in
    lies_next named e es tail parts.0 (eqb (number_field e) named) refl h (lies_in named room (number_field e + 1) es tail parts.2)

-- In a store that has an edition of the number that is named, it lies where it is said to start.
pub lies : (named : ℕ) (s : List ℕ) → is_store s ≡ true → stored named (editions s) ≡ true → Lies named s (editions s)
lies named s t h = rw (whole_store s t) at (lies_in named most_editions 0 (editions s) (drop (size_of (editions s)) s) t h)

-- ---- what is said of a number

-- Where an edition is said to start, an accepted one does, and it lies within the bytes.
pub named_in : (named : ℕ) (s : List ℕ) → NamedIn s (named_says named s)
unfolding named_says
named_in named s = by (is_store s) (stored named (editions s)) refl refl
  where
    by :
        (a b : Bool) → is_store s ≡ a → stored named (editions s) ≡ b →
        NamedIn s (cond a (Ok (cond b (Some (start_in named (editions s))) None)) (Err Unsound))
    by true true t h =
        let l = lies named s t h in
        record { taken = ap accepted l.same ∙ l.taken; within = omega (arith, l.within, ap length l.same) }
    by true false t h = tt
    by false b t h = refl

-- The table found so is the table that the store has under that number.
pub table_named : (named : ℕ) (s : List ℕ) → table_at (named_says named s) s ≡ table_in s named
unfolding named_says table_in
table_named named s = λ i n. by n (is_store s) (stored named (editions s)) refl refl i
  where
    by :
        (n : ℕ) (a b : Bool) → is_store s ≡ a → stored named (editions s) ≡ b →
        table_at (cond a (Ok (cond b (Some (start_in named (editions s))) None)) (Err Unsound)) s n ≡
        cond a (cond b (table_of (edition_in named (editions s)) n) no_edition) no_store
    by n true true t h = ap (λ (e : List ℕ). table_of e n) (lies named s t h).same
    by n true false t h = refl
    by n false b t h = refl

-- ---- the columns of an edition, where they lie

-- An edition's table has a column for the n from its first to its last, which is its column for n.
has_is : (e : List ℕ) (n : ℕ) → has_column (table_of e n) ≡ true → (first_field e ≤ n) × (n ≤ last_field e) × (table_of e n ≡ a_column (column_of e n))
unfolding table_of
has_is e n h =
    let both : (leb (first_field e) n && leb n (last_field e)) ≡ true = sym (edition_has e n) ∙ h in
    let two = (and-eq-true_iff (leb (first_field e) n) (leb n (last_field e))).0 both in
    (leb-true _ _ two.0, leb-true _ _ two.1, simp both)

-- A column of an edition in a store lies within the bytes, and the table has for n the column that stands at its place.
pub named_columns :
    (s : List ℕ) (start : ℕ) → EditionAt s start → (n : ℕ) → has_column (table_of (first_entry (drop start s)) n) ≡ true →
    (start + column_place (first_field (first_entry (drop start s))) n + column_size ≤ length s) ×
    (table_of (first_entry (drop start s)) n ≡ a_column (column_in (drop (start + column_place (first_field (first_entry (drop start s))) n) s)))
unfolding first_entry column_of
named_columns s start k n h =
    let rest : List ℕ = drop start s in
    let e : List ℕ = first_entry rest in
    let a = edition_accepted e (rw k.taken tt) in
    let has = has_is e n h in
    let place : ℕ = column_place (first_field e) n in
    let inside : place + column_size ≤ length e = omega (arith, has.0, has.1) in
    let cut : place + column_size ≤ 2 + length_field rest = omega (arith, length-take (2 + length_field rest) rest) in
    (omega arith, has.2 ∙ ap a_column (column_of_part (2 + length_field rest) rest place cut ∙ ap column_in (drop-drop place start s)))

pub at_columns : (s : List ℕ) (named : Said (Option ℕ)) → NamedIn s named → Columns (table_at named s)
at_columns s (Err r) k n h = absurd (false≢true h)
at_columns s (Ok None) k n h = absurd (false≢true h)
at_columns s (Ok (Some start)) k n h =
    let e : List ℕ = first_entry (drop start s) in
    let has = has_is e n h in
    subst (λ (f : Found). Column (entries f)) (sym has.2) (edition_column e (rw k.taken tt) n has.0 has.1)

-- Each column that any store gives, under any number, starts at 50.00, never falls and ends at 100.00. What is no store gives no column.
pub table_in_columns : (s : List ℕ) (named : ℕ) → Columns (table_in s named)
table_in_columns s named = subst Columns (table_named named s) (at_columns s (named_says named s) (named_in named s))
