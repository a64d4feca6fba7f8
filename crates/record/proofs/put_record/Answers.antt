-- The head is copied in, and a step writes the next reading after what is written.
use Rattle.std.proofs.Common.{◌≡◌, ◌++◌, ◌+◌, ◌-◌, ◌*◌, ◌<◌, ℕ, ℤ, List, take, drop, get_or, length, length-append, length-take-le, pos, ap, sym, ◌∙◌, arith, rules}
use Rattle.std.proofs.lemmas.List.{append-nil, take_at, drop_at, drop-drop, take_more, append_assoc, get_or-take, length-map}
use lib.ListN.{get_or-map}
use borrow.Rule.Slice.PartMut.{put_mid}
use Rattle.rules.specs.declared.Thousandths.{Thousandths}
use Rattle.rules.specs.Units.{thousandths}
use Rattle.rules.specs.Lot.{most, plain}
use Rattle.rules.specs.Record.{head_of, in_four, in_fours, head_size, record_of}
use Rattle.laws.proofs.Spelled.{length_in_fours, in_fours_snoc}
use Rattle.laws.proofs.Records.{length_head}
use Rattle.record.proofs.put_record.Goals as goal

next :
    (first out : List ℕ) (xs : List ℤ) (i : ℕ) → length first ≡ head_size → i < length xs →
    put_mid (head_size + 4 * i) (head_size + 4 * i + 4 - (head_size + 4 * i)) (first ++ in_fours (take i xs) ++ drop (head_size + 4 * i) out) (in_four (get_or xs i (pos 0))) ≡
    first ++ in_fours (take (i + 1) xs) ++ drop (head_size + 4 * (i + 1)) out
next first out xs i size inside =
    let at : ℕ = head_size + 4 * i in
    let written : List ℕ = first ++ in_fours (take i xs) in
    let long : length written ≡ at = omega (arith, length-append first (in_fours (take i xs)), length_in_fours (take i xs), length-take-le i xs (omega arith)) in
    let four : at + 4 - at ≡ 4 = omega arith in
    let end : at + 4 ≡ head_size + 4 * (i + 1) = omega arith in
    rw (take_more xs i (pos 0) inside, in_fours_snoc, take_at written (drop at out) at long, drop_at written (drop at out) at long, four, drop-drop 4 at out, end) (simp append_assoc)

pub loop-i-init : goal.loop-i-init
unfolding in_fours
loop-i-init c =
    ap (λ (bs : List ℕ). bs ++ drop head_size c.args.out.now) (c.copy_from_slice.ensures.after ∙ rw c.limits.ensures at c.head_of.ensures ∙ sym (append-nil _))

pub loop-i-preserved : goal.loop-i-preserved
loop-i-preserved c =
    let lot = c.args.lot in
    let i : ℕ = c.loop-i.i in
    let places : length lot.readings ≡ most = search rules in
    let inside : i < lot.count = omega (arith, length-take-le lot.count lot.readings (omega arith)) in
    let bytes : c.copy_from_slice-in-loop-i.new.self ≡ in_four (get_or (take lot.count lot.readings) i (thousandths (pos 0))).0 = search rules in
    let same : (get_or (take lot.count lot.readings) i (thousandths (pos 0))).0 ≡ get_or (plain lot.readings) i (pos 0) = rw get_or-take (sym (get_or-map (λ (r : Thousandths). r.0) lot.readings i (thousandths (pos 0)))) in
    let step = next (head_of lot.count lot.upper lot.lower) c.args.out.now (plain lot.readings) i (length_head lot.count lot.upper lot.lower) (omega (arith, length-map lot.readings (λ (r : Thousandths). r.0))) in
    rw (bytes, same, c.loop-i.invariant) step

pub returns : goal.returns
unfolding record_of
returns c =
    let places : length c.args.lot.readings ≡ most = search rules in
    let end : c.loop-i.i ≡ c.args.lot.count = omega (arith, length-take-le c.args.lot.count c.args.lot.readings (omega arith)) in
    rw end at c.loop-i.invariant
