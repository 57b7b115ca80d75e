use Rattle.std.proofs.Common.{◌∙◌, ◌-◌, sym, drop, take, length}
use Rattle.redis_commands.specs.Commands.{fault_by}
use Rattle.redis_commands.proofs.OptionLemmas.{rest_whole}
use Rattle.redis_commands.proofs.AskedLemmas.{unknown_asked}
use Rattle.redis_commands.proofs.asking.named_command_of.Goals as goal

pub returns-in_default-named-clause-asked : goal.returns-in_default-named-clause-asked
returns-in_default-named-clause-asked c =
    unknown_asked c.args.now c.args.words.now (take (length c.args.words.now - 1) (drop 1 c.args.words.now)) (fault_by c.unknown.result)
    c.in-len1-up.len_at_least (rest_whole 1 c.args.words.now) (sym c.named.ensures ∙ c.in_default-named.is) c.unknown.ensures
