-- the bytes that are gone from `rest` were taken
use Rattle.std.proofs.Common.{◌≡◌, ℕ, List, ◌++◌, length}
use Rattle.std.specs.Io.KnownBytes.{Appends}
use Rattle.devices.proofs.sink.write_all.Given as goal

abbrev pub invariant-loop-rest : goal.invariant-loop-rest
invariant-loop-rest g l = record {
  count : (g.W.Sink.state l.writer).failures ≡ (g.W.Sink.state l.fn.writer).failures;
  taken : (front : List ℕ) × (l.fn.bytes ≡ front ++ l.rest) × Appends (g.W.Sink.state l.fn.writer).held (g.W.Sink.state l.writer).held front;
}

abbrev pub decreases-loop-rest : goal.decreases-loop-rest
decreases-loop-rest g l = length l.rest
