use Rattle.std.proofs.Common.{◌≡◌, ◌+◌, length, option_copied}
use Rattle.redis_scripts.specs.Pieces.{pieces, pieces_after}
use Rattle.redis_scripts.specs.Code.{line_with_code}
use Rattle.redis_scripts.proofs.code.line_in.Given as goal

-- the line is found among those that are left, which are numbered on from here
abbrev pub invariant-loop-rest : goal.invariant-loop-rest
invariant-loop-rest l = record {
  found : line_with_code l.number l.left (pieces_after 10 (option_copied l.rest)) ≡ line_with_code 2 l.fn.nth (pieces 10 l.fn.text);
  counted : l.number + length (pieces_after 10 (option_copied l.rest)) ≡ 2 + length (pieces 10 l.fn.text);
}

abbrev pub decreases-loop-rest : goal.decreases-loop-rest
decreases-loop-rest l = length (pieces_after 10 (option_copied l.rest))
