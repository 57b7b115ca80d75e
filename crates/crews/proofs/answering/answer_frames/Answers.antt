use Rattle.std.proofs.Common.{take, sym, subst, arith, ◌++◌, None}
use Rattle.client_protocol.specs.Frames.{Held}
use Rattle.crews.specs.declared.talk.Talk.TheVariants.{Frames}
use Rattle.crews.specs.Lives.{known}
use Rattle.crews.specs.Partings.{SaysSo}
use Rattle.crews.specs.Turns.{SaysMore}
use Rattle.crews.proofs.PieceLemmas.{leaves_sent, piece_says, says_around}
use Rattle.crews.proofs.answering.answer_frames.Goals as goal

pub returns-clause-says : goal.returns-clause-says
returns-clause-says g c password exchanges read said says =
    let room = c.args.room.now in
    let owed = c.args.owed.now in
    let tokens = c.args.tokens.now in
    let piece = take room.count room.piece in
    let s1 = c.lend.new.self in
    let t = c.take_and_send-taken.new in
    let taken = c.take_and_send-taken.result in
    let leaving = c.leaving_after.result in
    let held = c.resume.new.self in
    let left = c.leaving_after.new.owed in
    let (whole, sent, takes) = c.take_and_send-taken.ensures.taken in
    let (after, sent_all, leaves) = leaves_sent taken (g.C.Channel.state c.args.channel.now) (g.C.Channel.state t.channel) leaving whole t.owed left sent c.leaving_after.ensures in
    let m : SaysMore password (known s1) (known t.state) exchanges s1.tokens t.state.tokens (Frames t.self) leaving (read ++ piece) said owed.rest after.rest =
    piece_says password taken s1 t.state held t.self piece leaving owed whole after (omega (arith, c.requires.some, c.requires.within)) takes leaves
    exchanges read said (subst (λ (h : Held). SaysSo password None (Frames h) exchanges read said) (sym c.resume.ensures.here) says) in (
      after,
      sent_all,
      subst (λ (h : Held). SaysMore password (known room.serving) (known c.lend-2.new.self) exchanges tokens c.lend-2.new.tokens (Frames h) leaving (read ++ piece) said owed.rest after.rest) (sym c.resume-2.ensures.there)
          (says_around password room.serving s1 t.state c.lend-2.new.self tokens c.lend.new.tokens c.lend-2.new.tokens (Frames t.self) leaving exchanges (read ++ piece) said owed.rest after.rest
          c.lend.ensures.here c.lend-2.ensures.here c.lend-2.ensures.there m),
    )
