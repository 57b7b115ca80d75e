use Rattle.std.proofs.Common.{ℕ, List, [], length, sym, subst}
use Rattle.std.proofs.lemmas.List.{append-nil}
use Rattle.resp.specs.Replies.{array_head}
use Rattle.redis_service.specs.Sending.{Sends}
use Rattle.redis_service.proofs.SendLemmas.{takes_none}
use Rattle.redis_service.proofs.slowlogs.put_entries.Goals as goal

pub loop-entry-init : goal.loop-entry-init
loop-entry-init g c =
    let before = g.W.Sink.state c.args.sink.now in
    record {
      can = c.send_after-sent.ensures.can;
      told =
          subst (λ (t : List ℕ). Sends c.send_after-sent.result before (g.W.Sink.state c.send_after-sent.new.sink) t)
          (sym (append-nil (array_head (length c.args.entries.now))))
          (c.send_after-sent.ensures.more before [] (takes_none before));
    }
