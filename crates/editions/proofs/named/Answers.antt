-- What the walk knows of the edition that is named is what is said of it.
use Rattle.std.proofs.Common.{◌≡◌, sym, ◌∙◌, rules}
use Rattle.std.specs.Prelude.{Err}
use Rattle.laws.specs.StoreWalk.{named_says}
use Rattle.laws.proofs.StoreKnown.{named_unsound, named_known}
use Rattle.editions.proofs.named.Goals as goal

pub returns-in_err-whole : goal.returns-in_err-whole
returns-in_err-whole c =
    let same : Err c.in_err-whole.field-0.0 ≡ named_says c.args.edition c.args.store.now = named_unsound _ _ (sym c.in_err-whole.was ∙ c.whole.ensures) in
    search rules

pub returns : goal.returns
returns c = named_known _ _ _ (sym c.in_ok-whole.was ∙ c.whole.ensures)
