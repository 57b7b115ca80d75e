use Rattle.std.proofs.Common.{◌∙◌, ap, []}
use Rattle.std.specs.Prelude.{unwrap_or}
use Rattle.clap.specs.Words.{found_of}
use Rattle.clap.proofs.WalkLemmas.{first_value-rows}
use Rattle.map_commands.proofs.WordLemmas.{text_or}
use Rattle.map_commands.proofs.words.texts_of.Goals as goal

pub returns : goal.returns
returns c =
    let found = found_of c.args.matches.now in record {
      key = ap (λ text. text.now) c.unwrap_or.ensures ∙ text_or c.get_str.result _ ∙ ap (λ o. unwrap_or o []) (c.get_str.ensures ∙ first_value-rows found _);
      old = c.get_str-2.ensures ∙ first_value-rows found _;
      arg = c.get_str-3.ensures ∙ first_value-rows found _;
    }
