-- The edition's first n and last n are read where they stand, and decide.
use Rattle.std.proofs.Common.{ℕ, ◌&&◌, leb, sym, ◌∙◌, arith}
use mathlib.Core.Path.{ap₂}
use Rattle.laws.proofs.Editions.{edition_has}
use Rattle.laws.proofs.StoreEntry.{edition_at}
use Rattle.editions.proofs.has_column.Goals as goal

pub bounds-store-start : goal.bounds-store-start
bounds-store-start c = let f = edition_at _ _ c.requires in omega arith

pub bounds-store-start-2 : goal.bounds-store-start-2
bounds-store-start-2 c = let f = edition_at _ _ c.requires in omega arith

pub returns : goal.returns
returns c =
    let n : ℕ = c.args.n in
    let f = edition_at _ _ c.requires in
    ap₂ (λ (first last : ℕ). leb first n && leb n last) f.1 f.2 ∙ sym (edition_has _ n)
