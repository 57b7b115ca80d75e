use Rattle.std.proofs.Common.{◌≡◌, ℕ, List, ◌-◌, length, take, drop, ap, ◌∙◌, sym, subst}
use Rattle.std.proofs.lemmas.List.{take_rest}
use Rattle.std.specs.Io.KnownBytes.{Appends}
use Rattle.devices.proofs.ChannelLemmas.{parts_at}
use Rattle.devices.proofs.owed.Owed.send_front.Goals as goal

pub returns-in-Took-clause-taken : goal.returns-in-Took-clause-taken
returns-in-Took-clause-taken g c =
    let n = c.in-Took.n in
    let inside = c.self.inside in
    let sent = c.deref.result.now in
    let (some, within, unread, taken) = c.in-Took.ensures in
    let is : take (length sent - inside.taken) (drop inside.taken sent) ≡ drop inside.taken inside.bytes.items = take_rest sent inside.taken ∙ ap (drop inside.taken) c.deref.ensures.value in
    rw (sym c.self.view_is)
    record {
      front = take n (drop inside.taken inside.bytes.items);
      parts = parts_at inside.bytes.items inside.taken n;
      taken = subst (λ (l : List ℕ). Appends (g.C.Channel.state c.args.channel.now).held (g.C.Channel.state c.send-sent.new.self).held (take n l)) is taken;
      unread = unread;
    }
