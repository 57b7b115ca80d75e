use Rattle.std.proofs.Common.{◌%◌, ◌∙◌, sym, ap}
use Rattle.redis_commands.specs.Commands.{texts}
use Rattle.redis_commands.specs.Reading.{err_by}
use Rattle.redis_commands.proofs.LimitLemmas.{pairs_within, length_texts}
use Rattle.redis_commands.proofs.keyed.set_each.Goals as goal

pub returns-clause-limits : goal.returns-clause-limits
returns-clause-limits c =
    pairs_within (texts c.args.words.now) (sym c.check_pairs.ensures ∙ ap err_by c.in_ok-check_pairs.was)
    (λ odd. c.if-words-eq1.false (ap (λ n. n % 2) (sym (length_texts c.args.words.now)) ∙ odd))
