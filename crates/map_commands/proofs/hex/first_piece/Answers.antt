use Rattle.std.proofs.Common.{◌∷◌, [], refl, ap, get_or}
use Rattle.map_commands.specs.Hex.{blank, pair}
use Rattle.map_commands.proofs.ListLemmas.{first_apart, two_apart}
use Rattle.map_commands.proofs.hex.first_piece.Goals as goal

pub returns-in-len1-up-clause-some : goal.returns-in-len1-up-clause-some
returns-in-len1-up-clause-some c =
    let text = c.args.text.now in
    (blank (get_or text 0 0), c.is_blank.ensures.0 c.if-is_blank.true, first_apart text c.in-len1-up.len_at_least, refl)

pub returns-in_ok-pair_value-in-len2-up-clause-some :
    goal.returns-in_ok-pair_value-in-len2-up-clause-some
returns-in_ok-pair_value-in-len2-up-clause-some c =
    let text = c.args.text.now in
    let both = c.in_ok-pair_value-in-len2-up.ensures in
    (pair (get_or text 0 0) (get_or text 1 0), both.digits.0 refl, two_apart text c.in-len2-up.len_at_least, ap (λ b. b ∷ []) both.value)
