use Rattle.std.proofs.Common.{◌∙◌}
use Rattle.std.specs.Str.Parse.{ParsesUnsigned, ExplainsUnsignedError, HasUnsignedDigitsIfOk}
use Rattle.clap.specs.Words.{found_of}
use Rattle.clap.proofs.WalkLemmas.{one_text-rows}
use Rattle.map_commands.proofs.WordLemmas.{number_read}
use Rattle.map_server.proofs.words.given_number.Goals as goal

pub returns : goal.returns
returns c =
    let e = one_text-rows (found_of c.args.matches.now) c.args.name.now in
    number_read (λ bs r. ParsesUnsigned 16 10 bs r × ExplainsUnsignedError 10 bs r × HasUnsignedDigitsIfOk bs r) (λ text r h. h.0) _ _ (λ none. c.get_one.ensures.none (e ∙ none)) (λ text some. c.get_one.ensures.value text (e ∙ some))
