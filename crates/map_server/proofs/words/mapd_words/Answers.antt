use Rattle.std.proofs.Common.{rules, ◌∙◌, ap, sym, inr, false, not, is_some}
use Rattle.clap.specs.Walk.{texts}
use Rattle.clap.specs.Words.{found_of, rows_of}
use Rattle.clap.proofs.WalkLemmas.{first_value-rows}
use Rattle.map_server.proofs.ServerWordLemmas.{address_given, asks_by, in_range, mapped, redis_given, redis_not_given, server_parse_fails, server_parse_succeeds, server_rows}
use Rattle.map_server.proofs.words.mapd_words.Goals as goal

pub words_with_listen-requires : goal.words_with_listen-requires
words_with_listen-requires c =
    let built = c.in_ok-mapd_command.ensures in
    let words = texts c.args.words.now in
    redis_given words (rows_of (found_of c.in-Ok.matches)) _ (server_parse_succeeds false _ built words c.in-Ok.ensures.kinds) (server_rows false _ built words c.in-Ok.matches c.in-Ok.ensures.matches)
    (c.get_str.ensures ∙ first_value-rows (found_of c.in-Ok.matches) _) ∙ (mapped _ c.get_str.result ∙ c.if-is_none.ensures)

pub words_with_listen-requires-in-Err-2 : goal.words_with_listen-requires-in-Err-2
words_with_listen-requires-in-Err-2 c =
    let words = texts c.args.words.now in
    redis_not_given words c.in-Err.error (server_parse_fails false _ c.in_ok-mapd_command.ensures words c.in-Err.error c.in-Err.ensures.kinds) (search rules)

pub returns-in_ok-words_of-in-Ok-clause-ok : goal.returns-in_ok-words_of-in-Ok-clause-ok
returns-in_ok-words_of-in-Ok-clause-ok c =
    let built = c.in_ok-mapd_command.ensures in
    let words = texts c.args.words.now in
    let rows = server_rows false _ built words c.in-Ok.matches c.in-Ok.ensures.matches in
    let none = server_parse_succeeds false _ built words c.in-Ok.ensures.kinds in
    let given = redis_given words (rows_of (found_of c.in-Ok.matches)) _ none rows (c.get_str.ensures ∙ first_value-rows (found_of c.in-Ok.matches) _) in
    asks_by false words _ _ (ap not (given ∙ (mapped _ c.get_str.result ∙ c.if-is_none.ensures))) none rows c.in_ok-words_of-in-Ok.ensures

pub returns-in_ok-words_of-in-Ok-clause-range : goal.returns-in_ok-words_of-in-Ok-clause-range
returns-in_ok-words_of-in-Ok-clause-range c =
    let asked = c.in_ok-words_of-in-Ok.ensures in
    in_range false _ c.in_ok-mapd_command.ensures c.in-Ok.matches c.in-Ok.ensures.parsed _ asked
    (inr (address_given _ asked.redis (ap is_some (sym (c.get_str.ensures ∙ first_value-rows (found_of c.in-Ok.matches) _)) ∙ (mapped _ c.get_str.result ∙ c.if-is_none.ensures))))
