use Rattle.client_protocol.proofs.HeldLaws.{lacks_length, lacks_rest}
use Rattle.client_protocol.proofs.frames.lacking.Goals as goal

pub returns-in-None : goal.returns-in-None
returns-in-None c = lacks_length c.args.hello c.args.bytes.now c.in-None.ensures.none

pub returns-in-Some : goal.returns-in-Some
returns-in-Some c = lacks_rest c.args.hello c.args.bytes.now c.in-Some.len c.in-Some.part.now c.requires.begun c.in-Some.ensures.fits c.in-Some.ensures.some
