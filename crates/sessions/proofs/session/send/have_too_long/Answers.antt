use Rattle.std.proofs.Common.{◌≤◌, ◌<◌, length, ap, sym, arith}
use Rattle.client_protocol.specs.Bodies.{limits_after}
use Rattle.sessions.proofs.SendingLemmas.{short_more, long_among}
use Rattle.sessions.proofs.session.send.have_too_long.Goals as goal
use Rattle.sessions.proofs.session.send.have_too_long.Goals.{else-most-lt-VALUE_BYTES-via-then-most-lt-VALUE_BYTES+else-value-most, else-most-lt-VALUE_BYTES-via-else-most-lt-VALUE_BYTES}

-- the value at this position is too long
pub returns-then-value-most : goal.returns-then-value-most
returns-then-value-most c =
    let most = ap (λ l. l.value) c.after-most.ensures in
    let value = c.get.result.1.now in
    let long : (limits_after c.args.hello).value < length value = omega (arith, c.if-value-most.true, most) in
    sym (long_among c.args.hello c.args.items.now c.loop-position.position c.get.result.0.now value (omega arith) c.get.ensures.entry long)

-- none up to this position is: this one is not, or none can be
pub loop-position-preserved : goal.loop-position-preserved
loop-position-preserved c =
    let most = ap (λ l. l.value) c.after-most.ensures in
    let value = c.get.result.1.now in
    let short : length value ≤ (limits_after c.args.hello).value = elim c.else-most-lt-VALUE_BYTES.branch [
      | else-most-lt-VALUE_BYTES-via-then-most-lt-VALUE_BYTES+else-value-most w ↦ omega (arith, w.if-value-most.false, most)
      | else-most-lt-VALUE_BYTES-via-else-most-lt-VALUE_BYTES w ↦ omega (arith, w.if-most-lt-VALUE_BYTES.false, c.get.ensures.value, most)
    ] in
    short_more c.args.hello c.args.items.now c.loop-position.position c.get.result.0.now value (omega arith) c.get.ensures.entry c.loop-position.invariant short
