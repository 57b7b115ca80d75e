use Rattle.std.proofs.Common.{arith, ◌∙◌, ◌+◌, sym, take, set, replicate, length, true, false}
use Rattle.bpf_model.specs.declared.limits.TheConstants.{KEY_BYTES}
use Rattle.redis_commands.specs.Matching.{stand_for, pieces_after}
use Rattle.redis_commands.proofs.GlobLemmas.{matches_some}
use Rattle.redis_commands.proofs.PlaceLemmas.{first_reached, begun}
use Rattle.redis_commands.proofs.glob.matches.Goals as goal

pub returns : goal.returns
returns c =
    let text = c.args.text.now in
    c.stands_for.ensures ∙ first_reached (stand_for (pieces_after 0 c.args.pattern.now)) (length text) text
    (take (length text + 1) (set (replicate (KEY_BYTES + 1) false) 0 true)) (begun (length text) (KEY_BYTES + 1) (omega (arith, c.requires)))
    ∙ sym (matches_some c.args.pattern.now text (grind (arith, c.if-is_empty.ensures)))
