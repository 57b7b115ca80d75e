use Rattle.redis_commands.proofs.PlaceLemmas.{goes_on_by_any, goes_on_by_one}
use Rattle.redis_commands.proofs.glob.go_on.Goals as goal

pub returns-in-AnyBytes-clause-on : goal.returns-in-AnyBytes-clause-on
returns-in-AnyBytes-clause-on c =
    goes_on_by_any c.args.piece.now c.args.places.now c.spread.new.places c.args.text.now c.in-AnyBytes.is c.requires c.spread.ensures.value

pub returns-in_default-clause-on : goal.returns-in_default-clause-on
returns-in_default-clause-on c =
    goes_on_by_one c.args.piece.now c.args.places.now c.shift.new.places c.args.text.now c.in_default.not-AnyBytes c.requires c.shift.ensures.value
