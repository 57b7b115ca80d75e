use Rattle.std.proofs.Common.{◌∙◌, sym}
use Rattle.std.proofs.lemmas.List.{take_rest}
use Rattle.redis_scripts.proofs.CodeLemmas.{before_comment-more, before_comment-here, before_comment-end}
use Rattle.redis_scripts.proofs.code.before_comment.Goals as goal

pub returns-then-begins_comment : goal.returns-then-begins_comment
returns-then-begins_comment c = sym (before_comment-here c.args.line.now c.loop-place.place (sym (rw (take_rest c.args.line.now c.loop-place.place) at c.begins_comment.ensures) ∙ c.if-begins_comment.true) c.loop-place.invariant)

pub loop-place-preserved : goal.loop-place-preserved
loop-place-preserved c = before_comment-more c.args.line.now c.loop-place.place c.loop-place-test.true (sym (rw (take_rest c.args.line.now c.loop-place.place) at c.begins_comment.ensures) ∙ c.if-begins_comment.false) c.loop-place.invariant

pub returns : goal.returns
returns c = sym (before_comment-end c.args.line.now c.loop-place.place c.loop-place-test.false c.loop-place.invariant)
