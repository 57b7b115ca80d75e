use Rattle.std.proofs.Common.{◌≡◌, ℕ, List, [], ◌++◌, rules, decimal, subst, ap, ◌∙◌, if◌then◌else◌}
use Rattle.resp.specs.Replies.{array_head, value_bytes}
use Rattle.redis_commands.specs.Commands.{text}
use Rattle.redis_service.specs.Sending.{Sends}
use Rattle.redis_service.specs.Walks.{keys_bytes, shown}
use Rattle.redis_service.proofs.SendLemmas.{takes_none}
use Rattle.redis_service.proofs.walks.put_page.Goals as goal

pub returns : goal.returns
returns g c =
    let before = g.W.Sink.state c.args.sink.now in
    let after = g.W.Sink.state c.put_keys.new.sink in
    let head = c.send_after-sent.ensures.more before [] (takes_none before) in
    let cursor = c.send_after-sent-2.ensures.more before _ head in
    let whole = c.put_keys.ensures before _ cursor in
    let digits : c.as_bytes.result.now ≡ decimal c.in-Ok.page.next = search rules in
    let found : c.deref.result.now ≡ shown (text c.args.pattern) c.in-Ok.page.keys.items = c.deref.ensures.value ∙ c.shown-keys.ensures in
    let keys : c.if_strings.result.now ≡ (if c.args.is_string then shown (text c.args.pattern) c.in-Ok.page.keys.items else []) =
    c.if_strings.ensures ∙ ap (λ (t : List (List ℕ)). if c.args.is_string then t else []) found in
    rw c.in-Ok.is
    (subst (λ (t : List ℕ). Sends c.put_keys.result before after ((array_head 2 ++ value_bytes t) ++ keys_bytes (if c.args.is_string then shown (text c.args.pattern) c.in-Ok.page.keys.items else []))) digits
    (subst (λ (t : List (List ℕ)). Sends c.put_keys.result before after ((array_head 2 ++ value_bytes c.as_bytes.result.now) ++ keys_bytes t)) keys whole))
