-- the bytes so far are those that were taken, at least one in each turn
use Rattle.std.proofs.Common.{◌≡◌, ◌≤◌, vec_len}
use Rattle.std.specs.Io.KnownBytes.{Consumes}
use Rattle.devices.proofs.source.read_all.Given as goal

abbrev pub invariant-loop : goal.invariant-loop
invariant-loop g l = record {
  ends : (g.R.Source.state l.reader).ends ≡ (g.R.Source.state l.fn.reader).ends;
  count : (g.R.Source.state l.reader).failures ≡ (g.R.Source.state l.fn.reader).failures;
  taken : Consumes (g.R.Source.state l.fn.reader).left (g.R.Source.state l.reader).left l.bytes.items;
  turns : l.counter ≤ vec_len l.bytes;
}
