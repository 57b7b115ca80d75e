use Rattle.std.proofs.Common.{List, Bool, take, sym, ap, subst, arith, ◌++◌}
use Rattle.bin_stripes.specs.Passes.{PassState}
use Rattle.crews.specs.declared.talk.Talk.TheVariants.{Commands}
use Rattle.crews.specs.Lives.{known}
use Rattle.crews.specs.Stations.{Station}
use Rattle.crews.specs.Turns.{SaysMore}
use Rattle.crews.proofs.PieceLemmas.{commands_say}
use Rattle.crews.proofs.answering.answer_commands.Goals as goal

pub returns-clause-says : goal.returns-clause-says
returns-clause-says g c password exchanges tokens read said says =
    let old = c.args.room.now.serving in
    let owed = c.args.owed.now in
    let piece = take c.args.room.now.count c.args.room.now.piece in
    let new = c.answer_commands-taken.new.self in
    let next = c.answer_commands-taken.new.talk in
    let left = c.leaving_talk.new.owed in
    let leaving = c.leaving_talk.result in
    let taken = c.answer_commands-taken.ensures in
    subst (λ (k : List PassState × Bool). SaysMore password (known old) (record { pass = new.pass; team = k.0; is_strict = k.1 }) exchanges tokens tokens (Commands next) leaving (read ++ piece) said owed.rest left.rest) (λ i. (sym taken.team i, sym taken.strict i))
    (commands_say password c.answer_commands-taken.result tokens old.team old.is_strict old.pass new.pass c.args.room.now.now c.refuses_changes.result c.args.talk.now next piece leaving owed c.answer_commands-taken.new.sink left
    (omega (arith, c.requires.some, c.requires.within)) c.requires.is_open c.refuses_changes.ensures taken.same taken.numbers taken.ok taken.over
    (λ is. let (talk_is, still, kept) = taken.memory is in (talk_is, ap (λ (s : Station). s.pass) still, kept))
    taken.write c.leaving_talk.ensures exchanges read said says)
