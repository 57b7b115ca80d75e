use Rattle.std.proofs.Common.{arith, ◌∙◌, ◌-◌, length, sym}
use Rattle.redis_commands.proofs.EndLemmas.{trimmed_none, trimmed_more}
use Rattle.redis_commands.proofs.text.trimmed.Goals as goal

pub returns-then-not-is_line_end : goal.returns-then-not-is_line_end
returns-then-not-is_line_end c =
    let left = c.loop-left.left.now in
    sym (trimmed_none left (length left - 1) (omega (arith, c.in-len1-up.len_at_least)) (grind (arith, c.is_line_end.ensures, c.if-not-is_line_end.true)))
    ∙ c.loop-left.invariant

pub loop-left-preserved : goal.loop-left-preserved
loop-left-preserved c =
    let left = c.loop-left.left.now in
    trimmed_more left (length left - 1) (omega (arith, c.in-len1-up.len_at_least)) (grind (arith, c.is_line_end.ensures, c.if-not-is_line_end.false))
    ∙ c.loop-left.invariant
