use Rattle.std.proofs.Common.{◌∙◌, ℕ, List, Result}
use Rattle.std.specs.declared.num.ParseIntError.{ParseIntError}
use Rattle.std.specs.Str.Parse.{ParsesUnsigned, ExplainsUnsignedError, HasUnsignedDigitsIfOk}
use Rattle.clap.specs.Words.{found_of}
use Rattle.clap.proofs.WalkLemmas.{one_text-rows}
use Rattle.map_commands.proofs.WordLemmas.{size_read}
use Rattle.map_commands.proofs.words.given_size.Goals as goal

-- `from_str` of `u16`
gives : List ℕ → Result ℕ ParseIntError → Type 0
gives bs r = ParsesUnsigned 16 10 bs r × ExplainsUnsignedError 10 bs r × HasUnsignedDigitsIfOk bs r

pub returns : goal.returns
returns c =
    let e = one_text-rows (found_of c.args.matches.now) c.args.name.now in
    c.unwrap_or.ensures ∙ size_read (λ bs r. ParsesUnsigned 16 10 bs r × ExplainsUnsignedError 10 bs r × HasUnsignedDigitsIfOk bs r) (λ text r h. h.0) _ _ _ (λ none. c.get_one.ensures.none (e ∙ none)) (λ text some. c.get_one.ensures.value text (e ∙ some))
