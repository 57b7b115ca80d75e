use Rattle.std.proofs.Common.{subst, sym}
use Rattle.clap.specs.Walk.{texts}
use Rattle.clap.proofs.KindLemmas.{fails_by_from}
use Rattle.map_commands.specs.CommandLine.{IsAsked, NamesOne}
use Rattle.map_commands.proofs.WordLemmas.{faultless_names_one, parse_fails, parse_names, parse_succeeds}
use Rattle.map_commands.proofs.words.parse_words.Goals as goal

pub returns-in_err-matches-clause-kinds : goal.returns-in_err-matches-clause-kinds
returns-in_err-matches-clause-kinds c =
    let error = c.in_err-matches.field-0.0 in
    let result = c.from_residual-in_err-matches.ensures in
    fails_by_from _ _ error (parse_fails _ c.in_ok-bpfmap_command.ensures (texts c.args.words.now) error c.in_err-matches.ensures.kinds) result.0 result.1

pub task_of-requires : goal.task_of-requires
task_of-requires c =
    let built = c.in_ok-bpfmap_command.ensures in
    let words = texts c.args.words.now in
    let named = parse_names _ built words c.in_ok-matches.matches c.in_ok-matches.ensures.matches in
    subst NamesOne (sym named) (faultless_names_one words (parse_succeeds _ built words c.in_ok-matches.ensures.kinds))

pub returns-clause-ok : goal.returns-clause-ok
returns-clause-ok c =
    let built = c.in_ok-bpfmap_command.ensures in
    let words = texts c.args.words.now in
    let named = parse_names _ built words c.in_ok-matches.matches c.in_ok-matches.ensures.matches in
    (parse_succeeds _ built words c.in_ok-matches.ensures.kinds, subst (λ found. IsAsked found c.task_of.result) named c.task_of.ensures)

pub returns-clause-kinds : goal.returns-clause-kinds
returns-clause-kinds c = parse_succeeds _ c.in_ok-bpfmap_command.ensures (texts c.args.words.now) c.in_ok-matches.ensures.kinds
