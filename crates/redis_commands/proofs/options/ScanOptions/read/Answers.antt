use Rattle.std.proofs.Common.{arith, drop, ◌≡◌, ◌∙◌, sym, ap}
use Rattle.redis_commands.specs.Commands.{texts, fault_by}
use Rattle.redis_commands.specs.Options.{scan_options}
use Rattle.redis_commands.specs.Reading.{scan_view, scan_by}
use Rattle.redis_commands.proofs.OptionLemmas.{scan_left, scan_next, scan_fault, scan_end, rest_whole, read_passed}
use Rattle.redis_commands.proofs.options.ScanOptions.read.Goals as goal

pub loop-left-preserved : goal.loop-left-preserved
loop-left-preserved c =
    let next : scan_left (scan_view c.in_ok-options.options) (texts (drop 2 c.loop-left.left.now)) ≡ scan_left (scan_view c.loop-left.options) (texts c.loop-left.left.now)
    = scan_next (scan_view c.loop-left.options) (scan_view c.in_ok-options.options) c.loop-left.left.now c.in-len2-up.len_at_least
    (sym c.with_option.ensures ∙ ap scan_by (c.in_ok-options.was)) in
    ap (λ l. scan_left (scan_view c.in_ok-options.options) (texts l)) (rest_whole 2 c.loop-left.left.now) ∙ next ∙ c.loop-left.invariant

pub returns-else-is_empty : goal.returns-else-is_empty
returns-else-is_empty c =
    sym (scan_end (scan_view c.loop-left.options) c.loop-left.left.now c.in_default.len_below (grind (arith, c.if-is_empty.ensures))) ∙ c.loop-left.invariant

pub returns-in_err-options : goal.returns-in_err-options
returns-in_err-options c =
    read_passed scan_view c.from_residual.result c.in_err-options.field-0.0 (scan_options (texts c.args.words.now)) c.from_residual.ensures.1
    (sym (scan_fault (scan_view c.loop-left.options) (fault_by c.in_err-options.field-0.0) c.loop-left.left.now c.in-len2-up.len_at_least (sym c.in_err-options.ensures))
    ∙ c.loop-left.invariant)
