-- The limits are given as their numbers; each place that is copied fits and is the lot's.
use Rattle.std.proofs.Common.{rules, SFits, get_or, pos, ℤ, ℕ, refl}
use mir.Syntax.{w32}
use mir.Facts.{to_z-of_z}
use Rattle.rules.specs.Host.{host_lot}
use Rattle.host.proofs.lot.host_lot.Goals as goal

pub returns : goal.returns
unfolding host_lot
returns c =
    let at : ℕ → ℤ = λ k. get_or c.numbers-readings.result k (pos 0) in
    let first : SFits w32 (at 0) = search rules in
    let second : SFits w32 (at 1) = search rules in
    let third : SFits w32 (at 2) = search rules in
    let fourth : SFits w32 (at 3) = search rules in
    let fifth : SFits w32 (at 4) = search rules in
    let sixth : SFits w32 (at 5) = search rules in
    let seventh : SFits w32 (at 6) = search rules in
    let eighth : SFits w32 (at 7) = search rules in
    let ninth : SFits w32 (at 8) = search rules in
    let tenth : SFits w32 (at 9) = search rules in
    let eleventh : SFits w32 (at 10) = search rules in
    let twelfth : SFits w32 (at 11) = search rules in
    let thirteenth : SFits w32 (at 12) = search rules in
    let fourteenth : SFits w32 (at 13) = search rules in
    let fifteenth : SFits w32 (at 14) = search rules in
    let sixteenth : SFits w32 (at 15) = search rules in
    let seventeenth : SFits w32 (at 16) = search rules in
    simp to_z-of_z (rw (c.limit_numbers.ensures, c.limit_numbers-2.ensures, c.numbers-readings.ensures) refl)
