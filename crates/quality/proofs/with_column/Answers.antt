-- 11 before whatever is said of the lot, and then what is said of it; else 13 where the store has no such edition, and 10 where the edition has no column.
use Rattle.std.proofs.Common.{◌≡◌, ℕ, List, drop, refl, sym, ap, ◌∙◌, not, rules, arith}
use mathlib.Core.Path.{ap₂, subst}
use Rattle.std.specs.Prelude.{Option, Some, None, Ok, Err}
use Rattle.std.specs.Option.{ok_or}
use Rattle.rules.specs.declared.Refusal.{Refusal}
use Rattle.rules.specs.declared.Refusal.TheVariants.{NoEdition}
use Rattle.rules.specs.declared.Totals.{Totals}
use Rattle.rules.specs.Said.{Said}
use Rattle.rules.specs.Table.{a_column, column_in}
use Rattle.rules.specs.Store.{first_entry}
use Rattle.laws.specs.StoreWalk.{EditionAt, NamedIn, table_at}
use Rattle.laws.specs.Totalled.{with_column_say}
use Rattle.laws.proofs.Ruled.{ruled_none, ruled_met, ruled_passed}
use Rattle.laws.proofs.Editions.{edition_is_found}
use Rattle.laws.proofs.StoreNamed.{named_columns}
use Rattle.quality.proofs.with_column.Goals as goal

no_start : (o : Option ℕ) {r : Refusal} → ok_or o NoEdition ≡ Err r → (o ≡ None) × (r ≡ NoEdition)
no_start None h = (cc, cc)
no_start (Some start) h = (cc, cc)

a_start : (o : Option ℕ) {start : ℕ} → ok_or o NoEdition ≡ Ok start → o ≡ Some start
a_start None h = cc
a_start (Some at) h = cc

-- What is said where the edition and the answer are known.
known : (s : List ℕ) {d e : Said (Option ℕ)} {t u : Said Totals} → d ≡ e → t ≡ u → with_column_say d s t ≡ with_column_say e s u
known s p q = ap₂ (λ (d : Said (Option ℕ)) (t : Said Totals). with_column_say d s t) p q

pub returns-in_err-start : goal.returns-in_err-start
returns-in_err-start c =
    let none = no_start c.in_ok-found.found (sym c.ok_or.ensures.value ∙ c.in_err-start.was) in
    let result : c.from_residual-in_err-start.result ≡ Err c.in_err-start.field-0.0 = search rules in
    rw result (ap Err none.1 ∙ sym (known c.args.store.now (c.in_ok-found.was ∙ ap Ok none.0) c.in_ok-totals.was ∙ ruled_met _ _ _ refl), tt)

pub returns-then-not-has_column : goal.returns-then-not-has_column
returns-then-not-has_column c =
    let s : List ℕ = c.args.store.now in
    let edition : c.args.edition ≡ Ok (Some c.in_ok-start.start) = c.in_ok-found.was ∙ ap Ok (a_start _ (sym c.ok_or.ensures.value ∙ c.in_ok-start.was)) in
    let with_edition = (edition_is_found (first_entry (drop c.in_ok-start.start s)) _).1 in
    (sym (known s edition c.in_ok-totals.was ∙ ruled_passed _ _ _ (ap not with_edition) ∙ ruled_met _ _ _ (ap not (sym c.if-not-has_column.ensures))), tt)

pub returns : goal.returns
returns c =
    let s : List ℕ = c.args.store.now in
    let start : ℕ = c.in_ok-start.start in
    let edition : c.args.edition ≡ Ok (Some start) = c.in_ok-found.was ∙ ap Ok (a_start _ (sym c.ok_or.ensures.value ∙ c.in_ok-start.was)) in
    let here : EditionAt s start = subst (NamedIn s) edition c.requires in
    let found = sym c.if-not-has_column.ensures in
    let placed = named_columns s start here _ found in
    let with_edition = (edition_is_found (first_entry (drop start s)) _).1 in (
      sym (known s edition c.in_ok-totals.was ∙ ruled_passed _ _ _ (ap not with_edition) ∙ ruled_passed _ _ _ (ap not found) ∙ ruled_none _),
      (
        omega (arith, placed.0, c.column.ensures),
        ap (λ (d : Said (Option ℕ)). table_at d s c.in_ok-totals.totals.n) edition ∙ placed.1 ∙ ap (λ (place : ℕ). a_column (column_in (drop place s))) (sym c.column.ensures),
      ),
    )
