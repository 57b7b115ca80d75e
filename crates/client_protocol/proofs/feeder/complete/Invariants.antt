-- the held bytes have begun a frame, and the bytes taken from the piece come after those held before
use Rattle.std.proofs.Common.{◌≡◌, ◌++◌, length, take}
use Rattle.client_protocol.specs.Frames.{IsBeginning}
use Rattle.client_protocol.proofs.feeder.complete.Given as goal

abbrev pub invariant-loop-piece : goal.invariant-loop-piece
invariant-loop-piece l = (l.requests ≡ l.fn.requests) × IsBeginning l.fn.hello l.rest.items × (take (length l.fn.rest.items) l.rest.items ≡ l.fn.rest.items) × (l.fn.rest.items ++ l.fn.piece ≡ l.rest.items ++ l.piece)

abbrev pub decreases-loop-piece : goal.decreases-loop-piece
decreases-loop-piece l = length l.piece
