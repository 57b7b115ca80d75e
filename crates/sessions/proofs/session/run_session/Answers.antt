use Rattle.std.proofs.Common.{◌≡◌, ◌≤◌, ℕ, true, false, arith, [], ◌++◌, length, take, refl, sym, ap, ◌∙◌, None}
use Rattle.std.proofs.KnownBytes.{Appends-trans, Appends-nil, Appends-kept, Consumes-trans, Consumes-nil, Consumes-kept}
use Rattle.client_protocol.specs.Frames.{held_fault, is_inside}
use Rattle.client_protocol.specs.Frames.Held.{open_at}
use Rattle.sessions.proofs.ConversationLemmas.{pieces_whole}
use Rattle.sessions.proofs.SessionLemmas.{nothing_came, cut_end, closed_end, read_failed_end, flush_failed_end, begins, write_failed_end, memory_ends, fault_ends}
use Rattle.sessions.proofs.session.run_session.Goals as goal

pub loop-init : goal.loop-init
loop-init g c = record {
  ends = refl;
  reads = refl;
  writes = refl;
  faultless = ap held_fault c.new-conversation.ensures;
  so_far = ([], [], Consumes-nil _, Appends-nil _, rw c.new-conversation.ensures (begins g.S.Service.answers c.args.state.now));
}

pub returns-in_default-clause-ended : goal.returns-in_default-clause-ended
returns-in_default-clause-ended g c =
    let (read, written, consumed, appended, all) = c.loop.invariant.so_far in
    let last : ℕ = (g.R.ReadAfterFlush.source c.loop.reader).last in
    (read, (written, (consumed, (Appends-kept _ _ _ written appended c.in_default.ensures.bytes, flush_failed_end g.S.Service.answers c.args.state.now c.loop.state c.loop.conversation read last written c.loop.invariant.faultless all))))

pub returns-in_default-read_after_flush-clause-ended : goal.returns-in_default-read_after_flush-clause-ended
returns-in_default-read_after_flush-clause-ended g c =
    let (read, written, consumed, appended, all) = c.loop.invariant.so_far in
    let last : ℕ = (g.R.ReadAfterFlush.source c.read_after_flush.new.self).last in (
      read,
      (
        written,
        (
          Consumes-kept _ _ _ read consumed c.in_default-read_after_flush.ensures.bytes,
          (
            Appends-kept _ _ _ written appended c.in-Ok.ensures.bytes,
            read_failed_end g.S.Service.answers c.args.state.now c.loop.state c.loop.conversation read last written c.loop.invariant.faultless all,
          ),
        ),
      ),
    )

pub returns-then-is_inside-clause-ended : goal.returns-then-is_inside-clause-ended
returns-then-is_inside-clause-ended g c =
    let (read, written, consumed, appended, all) = c.loop.invariant.so_far in
    let last : ℕ = (g.R.ReadAfterFlush.source c.read_after_flush.new.self).last in
    let none : c.in-Ok-read_after_flush.n ≡ 0 = omega (arith, c.if-n-eq0.true) in
    let inside : is_inside c.loop.conversation ≡ true = let told = c.is_inside.ensures in let test = c.if-is_inside.true in cc in (
      read,
      (
        written,
        (
          nothing_came g.S.Service.answers _ _ _ read c.read_after_flush.new.buffer c.in-Ok-read_after_flush.n consumed c.in-Ok-read_after_flush.ensures.bytes.0 none,
          (
            Appends-kept _ _ _ written appended c.in-Ok.ensures.bytes,
            cut_end g.S.Service.answers c.args.state.now c.loop.state c.loop.conversation read last written inside all,
          ),
        ),
      ),
    )

pub returns-then-n-eq0-clause-ended : goal.returns-then-n-eq0-clause-ended
returns-then-n-eq0-clause-ended g c =
    let (read, written, consumed, appended, all) = c.loop.invariant.so_far in
    let last : ℕ = (g.R.ReadAfterFlush.source c.read_after_flush.new.self).last in
    let none : c.in-Ok-read_after_flush.n ≡ 0 = omega (arith, c.if-n-eq0.true) in
    let between : is_inside c.loop.conversation ≡ false = let told = c.is_inside.ensures in let test = c.if-is_inside.false in cc in (
      read,
      (
        written,
        (
          nothing_came g.S.Service.answers _ _ _ read c.read_after_flush.new.buffer c.in-Ok-read_after_flush.n consumed c.in-Ok-read_after_flush.ensures.bytes.0 none,
          (
            Appends-kept _ _ _ written appended c.in-Ok.ensures.bytes,
            closed_end g.S.Service.answers c.args.state.now c.loop.state c.loop.conversation read last written c.loop.invariant.faultless between all,
          ),
        ),
      ),
    )

pub returns-in-Err-NoMemory-clause-ended : goal.returns-in-Err-NoMemory-clause-ended
returns-in-Err-NoMemory-clause-ended g c =
    let (read, before, consumed, appended, all) = c.loop.invariant.so_far in
    let last : ℕ = (g.R.ReadAfterFlush.source c.read_after_flush.new.self).last in
    let n = c.in-Ok-read_after_flush.n in
    let piece = take n c.read_after_flush.new.buffer in
    let is : last ≡ n = c.in-Ok-read_after_flush.ensures.ok.0 in
    let long : length piece ≡ last = sym c.in-Ok-read_after_flush.ensures.within.1 ∙ sym is in
    let some : 1 ≤ last = omega (arith, c.if-n-eq0.false, is) in
    let (same, still, unwritten) = c.take.ensures.memory (let a = c.in-Err-NoMemory.is in let b = c.in-Err-NoMemory.field-0-is in cc) in
    let (w, rest) = memory_ends g.S.Service.answers c.args.state.now c.loop.state c.take.new.state c.refuse-in-Err-NoMemory.result (g.W.Sink.state c.args.writer.now) (g.W.Sink.state c.flush.new.self) (g.W.Sink.state c.take.new.sink) (g.W.Sink.state c.refuse-in-Err-NoMemory.new.writer) c.loop.conversation read piece last before long some
    c.refuse-in-Err-NoMemory.ensures.either c.refuse-in-Err-NoMemory.ensures.whole c.refuse-in-Err-NoMemory.ensures.front still unwritten (Appends-kept _ _ _ before appended c.in-Ok.ensures.bytes) c.loop.invariant.faultless all in
    (read ++ piece, (w, (Consumes-trans _ _ _ read piece consumed c.in-Ok-read_after_flush.ensures.bytes.0, rest)))

pub returns-in-Err-WriteFailed-clause-ended : goal.returns-in-Err-WriteFailed-clause-ended
returns-in-Err-WriteFailed-clause-ended g c =
    let (read, before, consumed, appended, all) = c.loop.invariant.so_far in
    let last : ℕ = (g.R.ReadAfterFlush.source c.read_after_flush.new.self).last in
    let piece = take c.in-Ok-read_after_flush.n c.read_after_flush.new.buffer in
    let (part, more, breaks) = c.take.ensures.write (let a = c.in-Err-WriteFailed.is in let b = c.in-Err-WriteFailed.field-0-is in cc) in (
      read ++ piece,
      (
        before ++ part,
        (
          Consumes-trans _ _ _ read piece consumed c.in-Ok-read_after_flush.ensures.bytes.0,
          (
            Appends-trans _ _ _ before part (Appends-kept _ _ _ before appended c.in-Ok.ensures.bytes) more.0,
            write_failed_end g.S.Service.answers c.args.state.now c.loop.state c.take.new.state c.loop.conversation c.take.new.self read piece last before part all breaks,
          ),
        ),
      ),
    )

pub returns-in-Err-Refused-clause-ended : goal.returns-in-Err-Refused-clause-ended
returns-in-Err-Refused-clause-ended g c =
    let (read, before, consumed, appended, all) = c.loop.invariant.so_far in
    let last : ℕ = (g.R.ReadAfterFlush.source c.read_after_flush.new.self).last in
    let piece = take c.in-Ok-read_after_flush.n c.read_after_flush.new.buffer in
    let e = c.in-Err-Refused.field-0-is in
    let (faulty, (written, more, answered)) = c.take.ensures.refused c.in-Err-Refused.fault (let a = c.in-Err-Refused.is in cc) in
    let all2 = pieces_whole g.S.Service.answers (open_at None []) c.loop.conversation c.take.new.self c.args.state.now c.loop.state c.take.new.state read piece before written all answered in
    let (w, rest) = fault_ends g.S.Service.answers c.args.state.now c.take.new.state c.refuse.result c.in-Err-Refused.fault c.number.result (g.W.Sink.state c.args.writer.now) (g.W.Sink.state c.take.new.sink) (g.W.Sink.state c.refuse.new.writer) c.take.new.self (read ++ piece) last (before ++ written) (rw e at c.number.ensures)
    (rw e at c.refuse.ensures.either) (rw e at c.refuse.ensures.whole) c.refuse.ensures.front (Appends-trans _ _ _ before written (Appends-kept _ _ _ before appended c.in-Ok.ensures.bytes) more.0) faulty all2 in
    (read ++ piece, (w, (Consumes-trans _ _ _ read piece consumed c.in-Ok-read_after_flush.ensures.bytes.0, rest)))

pub loop-preserved : goal.loop-preserved
loop-preserved g c =
    let (read, before, consumed, appended, all) = c.loop.invariant.so_far in
    let piece = take c.in-Ok-read_after_flush.n c.read_after_flush.new.buffer in
    let some : 1 ≤ c.in-Ok-read_after_flush.n = omega (arith, c.if-n-eq0.false) in
    let (faultless, (written, more, answered)) = c.in-Ok-take.ensures.ok in
    record {
      ends = c.in-Ok-read_after_flush.ensures.ok.2 some ∙ c.loop.invariant.ends;
      reads = c.in-Ok-read_after_flush.ensures.ok.3 ∙ c.loop.invariant.reads;
      writes = more.1 ∙ (c.in-Ok.ensures.ok ∙ c.loop.invariant.writes);
      faultless = faultless;
      so_far = (
        read ++ piece,
        before ++ written,
        Consumes-trans _ _ _ read piece consumed c.in-Ok-read_after_flush.ensures.bytes.0,
        Appends-trans _ _ _ before written (Appends-kept _ _ _ before appended c.in-Ok.ensures.bytes) more.0,
        pieces_whole g.S.Service.answers (open_at None []) c.loop.conversation c.take.new.self c.args.state.now c.loop.state c.take.new.state read piece before written all answered,
      );
    }
