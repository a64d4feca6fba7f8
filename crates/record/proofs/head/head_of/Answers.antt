-- The bytes as the definition lays them out, whichever limits are present.
use Rattle.std.proofs.Common.{◌≡◌, ℕ, List, [], ◌∷◌, get_or, MatchOption, None, Some, bit_or, rules, ◌∙◌}
use Rattle.rules.specs.Units.{Limit}
use Rattle.rules.specs.Record.{spell, length_of, limit_bytes, head_of}
use Rattle.laws.proofs.Spelled.{to_be_bytes_two}
use Rattle.record.proofs.head.head_of.Goals as goal

laid :
    (n : ℕ) (upper lower : Limit) (a b : ℕ) (xs us ls : List ℕ) → xs ≡ spell 2 (length_of n) →
    MatchOption upper (a ≡ 0) (λ z. a ≡ 1) → MatchOption lower (b ≡ 0) (λ z. b ≡ 2) → us ≡ limit_bytes upper → ls ≡ limit_bytes lower →
    get_or xs 0 0 ∷ get_or xs 1 0 ∷ 1 ∷ bit_or a b ∷ get_or us 0 0 ∷ get_or us 1 0 ∷ get_or us 2 0 ∷ get_or us 3 0 ∷ get_or ls 0 0 ∷ get_or ls 1 0 ∷ get_or ls 2 0 ∷ get_or ls 3 0 ∷ n ∷ [] ≡ head_of n upper lower
unfolding head_of spell
laid n None None a b xs us ls e g h u l = rw (e, g, h, u, l)
laid n None (Some z) a b xs us ls e g h u l = rw (e, g, h, u, l)
laid n (Some y) None a b xs us ls e g h u l = rw (e, g, h, u, l)
laid n (Some y) (Some z) a b xs us ls e g h u l = rw (e, g, h, u, l)

pub returns : goal.returns
returns c =
    let limits = c.args.limits in
    laid c.args.n limits.upper limits.lower c.map_or.result c.map_or-2.result _ _ _ (c.to_be_bytes.ensures ∙ to_be_bytes_two (length_of c.args.n)) (search rules) (search rules) c.limit_bytes.ensures c.limit_bytes-2.ensures
