use Rattle.std.proofs.Common.{◌∙◌, refl, inl, ap, sym}
use Rattle.clap.specs.Walk.{texts}
use Rattle.clap.specs.Words.{found_of}
use Rattle.clap.proofs.WalkLemmas.{first_value-rows}
use Rattle.std.specs.Prelude.{is_some, true, not}
use Rattle.map_server.proofs.ServerWordLemmas.{address_given, asks_by, fails_by, in_range, listen_given, server_parse_fails, server_parse_succeeds, server_rows}
use Rattle.map_server.proofs.words.words_with_listen.Goals as goal

pub fault_of_error-requires : goal.fault_of_error-requires
fault_of_error-requires c =
    fails_by true (texts c.args.words.now) c.in-Err.error (ap not c.requires) (server_parse_fails true _ c.in_ok-mapd_command.ensures (texts c.args.words.now) c.in-Err.error c.in-Err.ensures.kinds)

pub returns-in_ok-words_of-in-Ok-clause-ok : goal.returns-in_ok-words_of-in-Ok-clause-ok
returns-in_ok-words_of-in-Ok-clause-ok c =
    let built = c.in_ok-mapd_command.ensures in
    let words = texts c.args.words.now in
    let rows = server_rows true _ built words c.in-Ok.matches c.in-Ok.ensures.matches in
    asks_by true words _ _ (ap not c.requires) (server_parse_succeeds true _ built words c.in-Ok.ensures.kinds) rows c.in_ok-words_of-in-Ok.ensures

pub returns-in_ok-words_of-in-Ok-clause-range : goal.returns-in_ok-words_of-in-Ok-clause-range
returns-in_ok-words_of-in-Ok-clause-range c =
    let built = c.in_ok-mapd_command.ensures in
    let asked = c.in_ok-words_of-in-Ok.ensures in
    in_range true _ built c.in-Ok.matches c.in-Ok.ensures.parsed _ asked (inl (address_given _ asked.listen (ap is_some (sym (first_value-rows (found_of c.in-Ok.matches) _)) ∙ listen_given true _ built refl c.in-Ok.matches c.in-Ok.ensures.parsed)))
