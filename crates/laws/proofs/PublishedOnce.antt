-- Documents 01 and 004 leave one set of percentages only: no others are as published for the same readings, limits and column.
use mathlib.Core.Path.{◌≡◌, sym, ap, ◌∙◌}
use mathlib.Core.List.{List}
use mathlib.Core.Logic.{⊎_elim}
use Prim.Native.Nat.{ℕ}
use lib.IntN.{ℤ, pos, ◌+ℤ◌, ◌-ℤ◌}
use lib.Signed.{clash_ℤ}
use Rattle.std.specs.Prelude.{Some, None}
use Rattle.integers.proofs.Order.{≤ℤ_total}
use Rattle.rules.specs.Units.{Limit, hundredths}
use Rattle.rules.specs.declared.Percentages.{Percentages}
use Rattle.rules.specs.Table.{Table, entry, entries}
use Rattle.laws.specs.Ratio.{Ratio}
use Rattle.laws.specs.Root.{Root, BelowZero}
use Rattle.laws.specs.AsPublished.{LookedUp, SideAsPublished, UpperAsPublished, LowerAsPublished, AsPublished, ByTable, SamePercentages}
use Rattle.laws.proofs.Spread.{all_equal_or_not}
use Rattle.laws.proofs.NearestRow.{nearest_determined}

looked_up_once : {column : List ℕ} {q : Root} {s r : ℤ} → LookedUp column q s → LookedUp column q r → s ≡ r
looked_up_once {column} {q} h k =
    let same : entry column h.row ≡ entry column k.row = ap (entry column) (nearest_determined h.nearest k.nearest) in
    ⊎_elim (λ i. let in_both : BelowZero q → ⊥ = λ o. clash_ℤ o i in h.inside in_both ∙ ap pos same ∙ sym (k.inside in_both))
    (λ o. h.outside o ∙ ap (λ (e : ℕ). pos 10000 -ℤ pos e) same ∙ sym (k.outside o)) (≤ℤ_total (pos 0) q.square.top)

side_once : {column : List ℕ} {beyond : Ratio} {xs : List ℤ} {s r : ℤ} → SideAsPublished column beyond xs s → SideAsPublished column beyond xs r → s ≡ r
side_once {column} {beyond} {xs} h k =
    ⊎_elim
    (λ e. ⊎_elim (λ i. h.equal_within e i ∙ sym (k.equal_within e i)) (λ o. h.equal_beyond e o ∙ sym (k.equal_beyond e o)) (≤ℤ_total (pos 0) beyond.top))
    (λ u. looked_up_once (h.by_the_table u) (k.by_the_table u)) (all_equal_or_not xs)

module _ (column : List ℕ) (xs : List ℤ) (s r : ℤ) where
  upper_once : (upper : Limit) → UpperAsPublished column upper xs s → UpperAsPublished column upper xs r → s ≡ r
  upper_once None h k = h ∙ sym k
  upper_once (Some u) h k = side_once h k

  lower_once : (lower : Limit) → LowerAsPublished column lower xs s → LowerAsPublished column lower xs r → s ≡ r
  lower_once None h k = h ∙ sym k
  lower_once (Some l) h k = side_once h k

pub published_determined : (column : List ℕ) (upper lower : Limit) (xs : List ℤ) (p q : Percentages) → AsPublished column upper lower xs p → AsPublished column upper lower xs q → SamePercentages p q
published_determined column upper lower xs p q h k =
    let u = upper_once column xs p.upper.0 q.upper.0 upper h.upper_side k.upper_side in
    let l = lower_once column xs p.lower.0 q.lower.0 lower h.lower_side k.lower_side in
    let w : p.pwl.0 ≡ q.pwl.0 = h.pwl ∙ (λ i. (u i +ℤ l i) -ℤ pos 10000) ∙ sym k.pwl in
    (ap hundredths u, ap hundredths l, ap hundredths w)

-- Nor are any by one table, which has one column for a count.
pub by_table_determined : (table : Table) (upper lower : Limit) (xs : List ℤ) (p q : Percentages) → ByTable table upper lower xs p → ByTable table upper lower xs q → SamePercentages p q
by_table_determined table upper lower xs p q h k =
    let same : h.column ≡ k.column = ap entries (sym h.found ∙ k.found) in
    published_determined k.column upper lower xs p q (rw same at h.published) k.published
