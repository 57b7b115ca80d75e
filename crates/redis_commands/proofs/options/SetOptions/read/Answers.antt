use Rattle.std.proofs.Common.{arith, ◌∙◌, ◌-◌, ap, sym, drop, length, take, refl}
use Rattle.redis_commands.specs.Commands.{texts, fault_by}
use Rattle.redis_commands.specs.Options.{set_options}
use Rattle.redis_commands.specs.Reading.{option_by, set_view, set_by}
use Rattle.redis_commands.proofs.OptionLemmas.{set_begins, set_foreign, set_against, set_next, set_left, texts_after, read_passed}
use Rattle.redis_commands.proofs.options.SetOptions.read.Goals as goal

pub loop-left-init : goal.loop-left-init
loop-left-init c = set_begins c.args.name (texts c.args.words.now)

pub returns-then-not-is_of : goal.returns-then-not-is_of
returns-then-not-is_of c =
    sym (set_foreign c.args.name (set_view c.loop-left.options) (option_by c.in-Some.option) (texts c.loop-left.left.now)
    (drop c.in-Some.count (texts c.loop-left.left.now)) c.in-Some.ensures.value (grind (arith, c.is_of.ensures, c.if-not-is_of.true)))
    ∙ c.loop-left.invariant

pub returns-in_err-options : goal.returns-in_err-options
returns-in_err-options c =
    read_passed set_view c.from_residual.result c.in_err-options.field-0.0 (set_options c.args.name (texts c.args.words.now)) c.from_residual.ensures.1
    (sym (set_against c.args.name (set_view c.loop-left.options) (option_by c.in-Some.option) (fault_by c.in_err-options.field-0.0) (texts c.loop-left.left.now)
    (drop c.in-Some.count (texts c.loop-left.left.now)) c.in-Some.ensures.value c.in_err-options.ensures) ∙ c.loop-left.invariant)

pub offset_bounds-left-count : goal.offset_bounds-left-count
offset_bounds-left-count c = omega (arith, c.in-Some.ensures.within.1)

pub loop-left-preserved : goal.loop-left-preserved
loop-left-preserved c =
    let words = c.loop-left.left.now in
    let k = c.in-Some.count in
    let left = take (length words - k) (drop k words) in
    ap (set_left c.args.name (set_view c.in_ok-options.options)) (texts_after k words left refl)
    ∙ set_next c.args.name (set_view c.loop-left.options) (set_view c.in_ok-options.options) (option_by c.in-Some.option) (texts words)
    (drop k (texts words)) c.in-Some.ensures.value (grind (arith, c.is_of.ensures, c.if-not-is_of.false)) (sym (ap set_by c.in_ok-options.was) ∙ c.with.ensures)
    ∙ c.loop-left.invariant
