use Rattle.std.proofs.Common.{◌++◌, take, None, subst}
use Rattle.crews.specs.declared.talk.Talk.{Talk}
use Rattle.crews.specs.declared.talk.Talk.TheVariants.{Commands}
use Rattle.crews.specs.Lives.{known}
use Rattle.crews.specs.Partings.{SaysSo}
use Rattle.crews.proofs.TurnLemmas.{sends_none}
use Rattle.crews.proofs.turn.Client.answer_piece.Goals as goal
use Rattle.crews.proofs.turn.Client.answer_piece.Goals.{in-Frames, in-Commands}

pub returns-clause-says : goal.returns-clause-says
returns-clause-says g c password exchanges read said says =
    let s = c.args.self.now in
    let room = c.args.room.now in
    elim c.match-self.branch [
      | in-Frames w ↦ rw w.self-is (rw w.room-is (rw w.self2-is
          (w.answer_frames-self.ensures.says password exchanges read said (subst (λ (t : Talk). SaysSo password None t exchanges read said) w.in-Frames.is says))))
      | in-Commands w ↦ rw w.self-is (rw w.room-is (rw w.self2-is
          (sends_none (g.C.Channel.state s.channel) password (known room.serving) (known w.answer_commands-self.new.room.serving) exchanges s.tokens s.tokens (Commands w.answer_commands-self.new.talk) w.answer_commands-self.result
          (read ++ take room.count room.piece) said s.owed w.answer_commands-self.new.owed
          (w.answer_commands-self.ensures.says password exchanges s.tokens read said (subst (λ (t : Talk). SaysSo password None t exchanges read said) w.in-Commands.is says)))))
    ]
