-- what is missing of a line's end
use Rattle.std.proofs.Common.{◌∙◌, sym}
use Rattle.resp.proofs.StreamLemmas.{empty_is, not_empty, no_end, no_second, second_to_come, both_to_come}
use Rattle.resp.proofs.number.newline_at.Goals as goal

pub returns-then-is_empty-clause-none : goal.returns-then-is_empty-clause-none
returns-then-is_empty-clause-none c = both_to_come c.args.bytes.now (empty_is c.args.bytes.now (sym c.is_empty.ensures ∙ c.if-is_empty.true))

pub returns-in_default-clause-err : goal.returns-in_default-clause-err
returns-in_default-clause-err c = no_end c.args.bytes.now (not_empty c.args.bytes.now (sym c.is_empty.ensures ∙ c.if-is_empty.false)) c.in_default.ensures.none

pub returns-then-is_empty-2-clause-none : goal.returns-then-is_empty-2-clause-none
returns-then-is_empty-2-clause-none c =
    second_to_come c.args.bytes.now c.in-Some.tail.now c.in-Some.ensures.some (empty_is c.in-Some.tail.now (sym c.is_empty-2.ensures ∙ c.if-is_empty-2.true))

pub returns-in_default-after-clause-err : goal.returns-in_default-after-clause-err
returns-in_default-after-clause-err c =
    no_second c.args.bytes.now c.in-Some.tail.now c.in-Some.ensures.some (not_empty c.in-Some.tail.now (sym c.is_empty-2.ensures ∙ c.if-is_empty-2.false)) c.in_default-after.ensures.none
