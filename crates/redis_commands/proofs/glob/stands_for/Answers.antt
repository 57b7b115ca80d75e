use Rattle.std.proofs.Common.{◌∙◌, ◌-◌, take, drop, length}
use Rattle.redis_commands.specs.Places.{piece_by}
use Rattle.redis_commands.proofs.OptionLemmas.{rest_whole}
use Rattle.redis_commands.proofs.PlaceLemmas.{stands_next, stands_end}
use Rattle.redis_commands.proofs.glob.stands_for.Goals as goal

pub loop-left-preserved : goal.loop-left-preserved
loop-left-preserved c =
    let left = c.loop-left.left.now in
    let rest = take (length left - 1) (drop 1 left) in
    let k = c.more_bytes.result in (
      stands_next left rest (take (length rest - k) (drop k rest)) k (piece_by c.piece_at.result) c.loop-left.places c.go_on.new.places c.args.text.now
          c.in-len1-up.len_at_least (rest_whole 1 left) c.more_bytes.ensures.value (rest_whole k rest) c.piece_at.ensures c.go_on.ensures.on ∙ c.loop-left.invariant.0,
      c.go_on.ensures.same ∙ c.loop-left.invariant.1,
    )

pub returns : goal.returns
returns c =
    stands_end c.loop-left.left.now c.loop-left.places c.args.text.now c.in_default.len_below c.loop-left.invariant.1 ∙ c.loop-left.invariant.0
