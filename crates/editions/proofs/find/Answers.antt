-- Each answer is what is said of the edition that is named.
use Rattle.std.proofs.Common.{◌≡◌, ℕ, refl, sym, ap, ◌∙◌, rules}
use Rattle.std.specs.Prelude.{Option, Some, None, Ok, Err}
use Rattle.std.specs.Option.{ok_or}
use Rattle.rules.specs.declared.Refusal.TheVariants.{NoEdition}
use Rattle.rules.specs.Editions.{finding_says}
use Rattle.laws.proofs.StoreAnswers.{named_said, finding_named}
use Rattle.editions.proofs.find.Goals as goal

pub returns-in_err-named : goal.returns-in_err-named
returns-in_err-named c =
    let same : Err c.in_err-named.field-0.0 ≡ finding_says c.args.store.now c.args.edition = ap named_said (sym c.in_err-named.was ∙ c.named.ensures) ∙ finding_named _ _ in
    search rules

-- no start is refusal 13
start_or : (start : Option ℕ) → ok_or start NoEdition ≡ named_said (Ok start)
start_or None = refl
start_or (Some start) = refl

pub returns : goal.returns
returns c = c.ok_or.ensures.value ∙ start_or _ ∙ ap named_said (sym c.in_ok-named.was ∙ c.named.ensures) ∙ finding_named _ _
