use Rattle.std.proofs.Common.{◌≡◌, true, false, map}
use Rattle.sessions.specs.Answering.{item_of, has_too_long}
use Rattle.sessions.proofs.SendingLemmas.{walk_refused, walk_whole}
use Rattle.sessions.proofs.session.send.send_walk.Goals as goal

pub returns-then-have_too_long-clause-ok : goal.returns-then-have_too_long-clause-ok
returns-then-have_too_long-clause-ok g c =
    let long : has_too_long c.args.hello (map item_of c.args.reply.items) ≡ true = let told = c.have_too_long.ensures in let test = c.if-have_too_long.true in cc in
    rw (walk_refused c.args.hello c.args.reply long) c.send_too_long.ensures.ok

pub returns-then-have_too_long-clause-err : goal.returns-then-have_too_long-clause-err
returns-then-have_too_long-clause-err g c =
    let long : has_too_long c.args.hello (map item_of c.args.reply.items) ≡ true = let told = c.have_too_long.ensures in let test = c.if-have_too_long.true in cc in
    rw (walk_refused c.args.hello c.args.reply long) c.send_too_long.ensures.err

pub returns-clause-ok : goal.returns-clause-ok
returns-clause-ok g c =
    let short : has_too_long c.args.hello (map item_of c.args.reply.items) ≡ false = let told = c.have_too_long.ensures in let test = c.if-have_too_long.false in cc in
    rw (walk_whole c.args.hello c.args.reply short) c.send_reply.ensures.ok

pub returns-clause-err : goal.returns-clause-err
returns-clause-err g c =
    let short : has_too_long c.args.hello (map item_of c.args.reply.items) ≡ false = let told = c.have_too_long.ensures in let test = c.if-have_too_long.false in cc in
    rw (walk_whole c.args.hello c.args.reply short) c.send_reply.ensures.err
