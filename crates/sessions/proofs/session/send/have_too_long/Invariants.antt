-- none of the values so far is too long
use Rattle.std.proofs.Common.{◌≡◌, take, map, false}
use Rattle.sessions.specs.Answering.{item_of, has_too_long}
use Rattle.sessions.proofs.session.send.have_too_long.Given as goal

abbrev pub invariant-loop-position : goal.invariant-loop-position
invariant-loop-position l = has_too_long l.fn.hello (map item_of (take l.position l.items)) ≡ false
