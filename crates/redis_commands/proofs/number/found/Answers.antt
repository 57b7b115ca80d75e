use Rattle.std.proofs.Common.{◌∙◌, ap, sym, Some}
use Rattle.std.specs.Int.{w64}
use Rattle.std.proofs.lemmas.Int.{to_z-of_z}
use Rattle.redis_commands.proofs.NumberLemmas.{integer_some}
use Rattle.redis_commands.proofs.number.found.Goals as goal

pub returns : goal.returns
returns c = ap Some (to_z-of_z w64 c.args.n c.ranges.n) ∙ sym (integer_some c.args.text.now c.args.n c.ranges.n c.requires)
