-- the words so far, and those of the rest
use Rattle.std.proofs.Common.{length}
use Rattle.resp.specs.Streams.{StopsAt}
use Rattle.resp.specs.Grammar.{texts}
use Rattle.resp.specs.LineWords.{is_no_blank}
use Rattle.resp.proofs.LineLemmas.{GoesOn}
use Rattle.resp.proofs.line.split_line.Given as goal

abbrev pub invariant-loop-rest : goal.invariant-loop-rest
invariant-loop-rest l = GoesOn l.fn.line (texts l.words.items) l.rest × StopsAt is_no_blank l.rest

abbrev pub decreases-loop-rest : goal.decreases-loop-rest
decreases-loop-rest l = length l.rest
