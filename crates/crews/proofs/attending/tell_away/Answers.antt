use Rattle.std.proofs.Common.{List, ℕ, subst, ◌∙◌}
use Rattle.devices.specs.Channels.{Sends}
use Rattle.crews.proofs.attending.tell_away.Goals as goal

pub returns-in-Frames : goal.returns-in-Frames
returns-in-Frames g c =
    let state = g.C.Channel.state in
    rw c.in-Frames.is
    (subst (λ (bytes : List ℕ). Sends (state c.args.channel.now) (state c.send.new.self) c.send.result bytes) (c.as_slice.ensures.value ∙ c.frame-frame.ensures) c.send.ensures)
