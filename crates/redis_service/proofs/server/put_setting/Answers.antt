use Rattle.std.proofs.Common.{ℕ, List, ◌++◌, Bool, ◌∙◌, ap, sym, subst, append_assoc}
use Rattle.std.specs.Prelude.{codes, if◌then◌else◌}
use Rattle.resp.specs.Replies.{value_bytes}
use Rattle.redis_service.specs.Sending.{Sends}
use Rattle.redis_service.specs.Server.{least_text, setting_of}
use Rattle.redis_service.specs.Texts.{text_of}
use Rattle.redis_service.proofs.server.put_setting.Goals as goal

-- the name, and then the value
pub returns-then-is_slow_setting-clause-more : goal.returns-then-is_slow_setting-clause-more
returns-then-is_slow_setting-clause-more g c before said time is sends =
    let word = c.args.word.now in
    let name : List ℕ = codes "$23\r\nslowlog-log-slower-than\r\n" in
    let meant = ap (λ (b : Bool). if b then name ++ value_bytes (least_text time) else text_of (setting_of word)) (sym c.if-is_slow_setting.true ∙ c.is_slow_setting.ensures) in
    subst (λ (t : List ℕ). Sends c.send_after.result before (g.W.Sink.state c.send_after.new.sink) t)
    (append_assoc said name (value_bytes c.args.least.now) ∙ ap (λ (t : List ℕ). said ++ t) (ap (λ (t : List ℕ). name ++ value_bytes t) is ∙ meant))
    (c.send_after.ensures.more before (said ++ name) (c.send_after-sent.ensures.more before said sends))
