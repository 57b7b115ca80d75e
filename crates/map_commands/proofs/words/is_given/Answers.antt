use Rattle.std.proofs.Common.{◌∙◌, codes}
use Rattle.clap.specs.Words.{found_of}
use Rattle.clap.proofs.WalkLemmas.{first_value-rows}
use Rattle.map_commands.proofs.WordLemmas.{is_given_by, is_not_given}
use Rattle.map_commands.proofs.words.is_given.Goals as goal

pub returns-in-Some : goal.returns-in-Some
returns-in-Some c = is_given_by c.in-Some.text.now (codes "true") _ c.eq.result (c.in-Some.ensures ∙ first_value-rows (found_of c.args.matches.now) c.args.name.now) c.eq.ensures

pub returns-in-None : goal.returns-in-None
returns-in-None c = is_not_given (codes "true") _ (c.in-None.ensures ∙ first_value-rows (found_of c.args.matches.now) c.args.name.now)
