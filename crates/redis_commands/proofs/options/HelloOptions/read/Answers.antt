use Rattle.std.proofs.Common.{arith, ◌∙◌, ◌-◌, ap, drop, length, take, refl}
use Rattle.redis_commands.specs.Commands.{texts}
use Rattle.redis_commands.specs.Reading.{hello_option_by, hello_view}
use Rattle.redis_commands.proofs.OptionLemmas.{hello_left, hello_next, texts_after}
use Rattle.redis_commands.proofs.options.HelloOptions.read.Goals as goal

pub offset_bounds-left-count : goal.offset_bounds-left-count
offset_bounds-left-count c = omega (arith, c.in_ok-option.ensures.within.1)

pub loop-left-preserved : goal.loop-left-preserved
loop-left-preserved c =
    let words = c.loop-left.left.now in
    let k = c.in_ok-option.count in
    let left = take (length words - k) (drop k words) in
    ap (hello_left (hello_view c.with-options.result)) (texts_after k words left refl)
    ∙ hello_next (hello_view c.loop-left.options) (hello_view c.with-options.result) (hello_option_by c.in_ok-option.option) (texts words)
    (drop k (texts words)) c.in_ok-option.ensures.value c.with-options.ensures
    ∙ c.loop-left.invariant
