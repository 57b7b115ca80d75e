use Rattle.std.proofs.Common.{◌∙◌, ap}
use Rattle.redis_commands.specs.Names.{first_named}
use Rattle.redis_commands.proofs.NameLemmas.{named_by_length}
use Rattle.redis_commands.proofs.name.Name.named.Goals as goal

pub returns : goal.returns
returns c =
    c.first_named.ensures ∙ ap (λ names. first_named names c.args.word.now) c.names_of_length.ensures ∙ named_by_length c.args.word.now
