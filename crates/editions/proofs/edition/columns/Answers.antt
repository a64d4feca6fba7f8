-- The next column decides, and then the rest.
use Rattle.std.proofs.Common.{◌≡◌, ℕ, suc, ◌+◌, ◌*◌, ◌-◌, ◌<◌, Bool, true, false, ◌&&◌, List, drop, sym, ap, ◌∙◌, arith}
use Rattle.rules.specs.Table.{column_in, well_formed}
use Rattle.rules.specs.Edition.{first_field, edition_head, column_size, column_of, each}
use Rattle.editions.proofs.edition.columns.Goals as goal

abbrev passes : List ℕ → ℕ → Bool
passes e n = well_formed (column_of e n)

next : (e : List ℕ) (count i : ℕ) → i < count →
    each (passes e) (count - i) (first_field e + i) ≡
    (well_formed (column_in (drop (edition_head + column_size * i) e)) && each (passes e) (count - (i + 1)) (first_field e + (i + 1)))
unfolding column_of
next e count i h =
    let more : count - i ≡ suc (count - (i + 1)) = omega arith in
    let there : first_field e + i - first_field e ≡ i = omega arith in
    let after : suc (first_field e + i) ≡ first_field e + (i + 1) = omega arith in
    rw (more, after, there)

-- what all say, where those from the next column on say so, and the next column says b
told : (e : List ℕ) (count i : ℕ) (b : Bool) → i < count → b ≡ well_formed (column_in (drop (edition_head + column_size * i) e)) →
    each (passes e) count (first_field e) ≡ each (passes e) (count - i) (first_field e + i) →
    each (passes e) count (first_field e) ≡ (b && each (passes e) (count - (i + 1)) (first_field e + (i + 1)))
told e count i b h is rest =
    rest ∙ next e count i h ∙ ap (λ (p : Bool). p && each (passes e) (count - (i + 1)) (first_field e + (i + 1))) (sym is)

pub returns-then-not-column : goal.returns-then-not-column
returns-then-not-column c =
    sym (told c.args.edition.now c.args.count c.loop-i.i false (omega arith) (sym c.if-not-column.true ∙ c.column.ensures) c.loop-i.invariant.rest)

pub loop-i-preserved : goal.loop-i-preserved
loop-i-preserved c = record {
  rest = told c.args.edition.now c.args.count c.loop-i.i true (omega arith) (sym c.if-not-column.false ∙ c.column.ensures) c.loop-i.invariant.rest;
}
