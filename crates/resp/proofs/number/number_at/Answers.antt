-- lines that are not whole, or can't be
use Rattle.std.proofs.Common.{◌∙◌, sym}
use Rattle.resp.proofs.StreamLemmas.{empty_is, not_empty}
use Rattle.resp.proofs.NumberLemmas.{line_of_nothing, no_line, no_line_end}
use Rattle.resp.proofs.number.number_at.Goals as goal

pub returns-then-is_empty-clause-none : goal.returns-then-is_empty-clause-none
returns-then-is_empty-clause-none c = line_of_nothing c.args.most c.args.bytes.now (empty_is c.args.bytes.now (sym c.is_empty.ensures ∙ c.if-is_empty.true))

pub returns-in_default-clause-err : goal.returns-in_default-clause-err
returns-in_default-clause-err c =
    no_line c.args.most c.args.bytes.now (c.in_default.ensures.none (not_empty c.args.bytes.now (sym c.is_empty.ensures ∙ c.if-is_empty.false)))

pub returns-in-Err-clause-err : goal.returns-in-Err-clause-err
returns-in-Err-clause-err c =
    no_line_end c.args.most c.in-Some.n c.args.bytes.now c.in-Some.tail.now c.requires c.in-Some.ensures.range c.in-Some.ensures.some c.in-Some.ensures.ends c.in-Err.ensures.err
