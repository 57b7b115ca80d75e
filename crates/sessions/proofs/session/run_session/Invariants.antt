-- the requests read so far are answered
use Rattle.std.proofs.Common.{◌≡◌, ℕ, List, None}
use Rattle.std.specs.Io.KnownBytes.{Appends, Consumes}
use Rattle.client_protocol.specs.Frames.{held_fault}
use Rattle.sessions.specs.Sessions.{AllAnswered}
use Rattle.sessions.proofs.session.run_session.Given as goal

abbrev pub invariant-loop : goal.invariant-loop
invariant-loop g l = record {
  ends : (g.R.ReadAfterFlush.source l.reader).ends ≡ (g.R.ReadAfterFlush.source l.fn.reader).ends;
  reads : (g.R.ReadAfterFlush.source l.reader).failures ≡ (g.R.ReadAfterFlush.source l.fn.reader).failures;
  writes : (g.W.Sink.state l.writer).failures ≡ (g.W.Sink.state l.fn.writer).failures;
  faultless : held_fault l.conversation ≡ None;
  so_far : (read : List ℕ) × (written : List ℕ)
      × Consumes (g.R.ReadAfterFlush.source l.fn.reader).left (g.R.ReadAfterFlush.source l.reader).left read
      × Appends (g.W.Sink.state l.fn.writer).held (g.W.Sink.state l.writer).held written
      × AllAnswered g.S.Service.answers l.fn.state read l.conversation written l.state;
}
