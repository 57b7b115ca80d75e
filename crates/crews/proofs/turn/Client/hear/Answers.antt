use Rattle.std.proofs.Common.{◌≡◌, Option, Some, None, subst, take}
use Rattle.sessions.specs.declared.session.SessionEnd.TheVariants.{Cut, Closed, ReadFailed}
use Rattle.crews.specs.declared.clients.Parting.{Parting}
use Rattle.crews.specs.declared.clients.Parting.TheVariants.{Ended}
use Rattle.crews.specs.Lives.{known, Stands}
use Rattle.crews.proofs.TurnLemmas.{none_leaving, turns_quietly, turns_by_piece, stands_kept, cut_now, closed_now, failed_now}
use Rattle.crews.proofs.turn.Client.hear.Goals as goal

pub returns-then-is_some-clause-turns : goal.returns-then-is_some-clause-turns
returns-then-is_some-clause-turns g c registry password came exchanges stands =
    let s = c.args.self.now in
    turns_quietly g.C.Channel.state registry password (known c.args.room.now.serving) came s.channel exchanges s.tokens s.talk s.owed s.leaving stands

pub returns-in-NotNow-clause-turns : goal.returns-in-NotNow-clause-turns
returns-in-NotNow-clause-turns g c registry password came exchanges stands =
    let s = c.args.self.now in
    let state = g.C.Channel.state in
    turns_quietly state registry password (known c.args.room.now.serving) came c.receive.new.self exchanges s.tokens s.talk s.owed s.leaving
    (stands_kept state registry password came s.channel c.receive.new.self exchanges s.tokens s.talk s.owed s.leaving s.leaving c.in-NotNow.ensures (λ read said says. says) (λ is. is) stands)

pub returns-in-Failed-clause-turns : goal.returns-in-Failed-clause-turns
returns-in-Failed-clause-turns g c registry password came exchanges stands =
    let s = c.args.self.now in
    let state = g.C.Channel.state in
    let none : s.leaving ≡ None = none_leaving s.leaving c.is_some.result c.is_some.ensures c.if-is_some.false in
    let here = subst (λ (l : Option Parting). Stands state registry password came s.channel exchanges s.tokens s.talk s.owed l) none stands in
    turns_quietly state registry password (known c.args.room.now.serving) came c.receive.new.self exchanges s.tokens s.talk s.owed (Some (Ended ReadFailed))
    (stands_kept state registry password came s.channel c.receive.new.self exchanges s.tokens s.talk s.owed None (Some (Ended ReadFailed)) c.in-Failed.ensures (λ read said says. failed_now password s.talk exchanges read said says) (λ is. absurd cc) here)

pub returns-in-Ended-clause-turns : goal.returns-in-Ended-clause-turns
returns-in-Ended-clause-turns g c registry password came exchanges stands =
    let s = c.args.self.now in
    let state = g.C.Channel.state in
    let none : s.leaving ≡ None = none_leaving s.leaving c.is_some.result c.is_some.ensures c.if-is_some.false in
    let here = subst (λ (l : Option Parting). Stands state registry password came s.channel exchanges s.tokens s.talk s.owed l) none stands in
    let inside = c.is_inside.ensures.inside c.if-is_inside.true in
    turns_quietly state registry password (known c.args.room.now.serving) came c.receive.new.self exchanges s.tokens s.talk s.owed (Some (Ended Cut))
    (stands_kept state registry password came s.channel c.receive.new.self exchanges s.tokens s.talk s.owed None (Some (Ended Cut)) c.in-Ended.ensures.0 (λ read said says. cut_now password s.talk exchanges read said inside says) (λ is. absurd cc) here)

pub returns-in-Ended-2-clause-turns : goal.returns-in-Ended-2-clause-turns
returns-in-Ended-2-clause-turns g c registry password came exchanges stands =
    let s = c.args.self.now in
    let state = g.C.Channel.state in
    let none : s.leaving ≡ None = none_leaving s.leaving c.is_some.result c.is_some.ensures c.if-is_some.false in
    let here = subst (λ (l : Option Parting). Stands state registry password came s.channel exchanges s.tokens s.talk s.owed l) none stands in
    let between = c.is_inside.ensures.between c.if-is_inside.false in
    turns_quietly state registry password (known c.args.room.now.serving) came c.receive.new.self exchanges s.tokens s.talk s.owed (Some (Ended Closed))
    (stands_kept state registry password came s.channel c.receive.new.self exchanges s.tokens s.talk s.owed None (Some (Ended Closed)) c.in-Ended-2.ensures.0 (λ read said says. closed_now password s.talk exchanges read said between says) (λ is. absurd cc) here)

pub returns-in-Bytes-clause-turns : goal.returns-in-Bytes-clause-turns
returns-in-Bytes-clause-turns g c registry password came exchanges stands =
    let s = c.args.self.now in
    let state = g.C.Channel.state in
    let a = c.answer_piece.new.self in
    let none : s.leaving ≡ None = none_leaving s.leaving c.is_some.result c.is_some.ensures c.if-is_some.false in
    let here = subst (λ (l : Option Parting). Stands state registry password came s.channel exchanges s.tokens s.talk s.owed l) none stands in
    let (some, within, consumed, kept) = c.in-Bytes.ensures in
    turns_by_piece state registry password (known c.args.room.now.serving) (known c.answer_piece.new.room.serving) came s.channel c.receive.new.self a.channel exchanges s.tokens a.tokens s.talk a.talk s.owed a.owed a.leaving
    (take c.in-Bytes.count c.receive.new.room) consumed kept (c.answer_piece.ensures.says password exchanges) c.answer_piece.ensures.speaks c.answer_piece.ensures.unfailed here
