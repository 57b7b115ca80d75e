use Rattle.std.proofs.Common.{arith, drop, ◌≡◌, ◌∙◌, sym, ap}
use Rattle.redis_commands.specs.Commands.{texts, fault_by, filter_view}
use Rattle.redis_commands.specs.Clients.{filter_of, no_filter}
use Rattle.redis_commands.specs.Reading.{read_by}
use Rattle.redis_commands.proofs.OptionLemmas.{rest_whole, read_passed}
use Rattle.redis_commands.proofs.FilterLemmas.{filter_next, filter_fault, filter_end}
use Rattle.redis_commands.proofs.command.ClientFilter.read.Goals as goal

pub loop-left-preserved : goal.loop-left-preserved
loop-left-preserved c =
    let next : filter_of (filter_view c.in_ok-filter.filter) (texts (drop 2 c.loop-left.left.now)) ≡ filter_of (filter_view c.loop-left.filter) (texts c.loop-left.left.now)
    = filter_next (filter_view c.loop-left.filter) (filter_view c.in_ok-filter.filter) c.loop-left.left.now c.in-len2-up.len_at_least
    (sym c.with_option.ensures ∙ ap (read_by filter_view) c.in_ok-filter.was) in
    ap (λ l. filter_of (filter_view c.in_ok-filter.filter) (texts l)) (rest_whole 2 c.loop-left.left.now) ∙ next ∙ c.loop-left.invariant

pub returns-else-is_empty : goal.returns-else-is_empty
returns-else-is_empty c =
    sym (filter_end (filter_view c.loop-left.filter) c.loop-left.left.now c.in_default.len_below (grind (arith, c.if-is_empty.ensures))) ∙ c.loop-left.invariant

pub returns-in_err-filter : goal.returns-in_err-filter
returns-in_err-filter c =
    read_passed filter_view c.from_residual.result c.in_err-filter.field-0.0 (filter_of no_filter (texts c.args.words.now)) c.from_residual.ensures.1
    (sym (filter_fault (filter_view c.loop-left.filter) (fault_by c.in_err-filter.field-0.0) c.loop-left.left.now c.in-len2-up.len_at_least (sym c.in_err-filter.ensures))
    ∙ c.loop-left.invariant)
