use Rattle.std.proofs.Common.{◌∙◌, sym}
use Rattle.redis_scripts.proofs.CodeLemmas.{end-more}
use Rattle.redis_scripts.proofs.code.without_end_blanks.Goals as goal

pub loop-rest-preserved : goal.loop-rest-preserved
loop-rest-preserved c = c.loop-rest.invariant ∙ end-more c.loop-rest.rest.now c.in-len1-up.len_at_least (sym c.is_blank.ensures ∙ c.if-is_blank.true)
