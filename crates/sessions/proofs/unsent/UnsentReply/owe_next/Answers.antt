use Rattle.std.proofs.Common.{◌≡◌, ◌++◌, subst, sym, ap, ◌∙◌, arith}
use Rattle.client_protocol.specs.Responses.{response_frame}
use Rattle.atomic_methods.specs.declared.walk_reply.WalkReply.{WalkReply}
use Rattle.sessions.specs.Answering.{end_of}
use Rattle.sessions.specs.Unsent.{frames_from}
use Rattle.sessions.proofs.UnsentLemmas.{all_owed}
use Rattle.sessions.proofs.unsent.UnsentReply.owe_next.Goals as goal

pub returns-clause-done : goal.returns-clause-done
returns-clause-done c all =
    let inside = c.self.inside in
    let reply = c.deref-reply.result.now in
    let end : c.as_slice.result.now ≡ response_frame (end_of reply.counts) = c.as_slice.ensures.value ∙ c.frame.ensures ∙ ap response_frame c.end_of.ensures in
    rw (sym c.self.view_is)
    (subst (λ (reply : WalkReply). c.append.new.self ≡ c.args.owed.now ++ frames_from reply inside.next) c.deref-reply.ensures
    (all_owed c.args.owed.now c.owe_items.new.owed (response_frame (end_of reply.counts)) c.append.new.self reply.items inside.next c.owe_items.new.next
    (omega (arith, c.if-self-len.false, c.len.ensures.value)) c.owe_items.ensures.whole (rw end at c.in_ok-append.ensures.ok)))
