use Rattle.std.proofs.Common.{◌∙◌, sym}
use Rattle.redis_commands.proofs.FilterLemmas.{kill_options}
use Rattle.redis_commands.proofs.clients.kill.Goals as goal

pub returns-in-len2-up : goal.returns-in-len2-up
returns-in-len2-up c = c.kill_by-in-len2-up.ensures ∙ sym (kill_options c.args.args.now c.in-len2-up.len_at_least)
