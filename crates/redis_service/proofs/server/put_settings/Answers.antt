use Rattle.std.proofs.Common.{ℕ, List, [], ◌++◌, ◌*◌, take, flat_map, get_or, count_by, Bor, ap, sym, subst, ◌∙◌, arith, append_assoc}
use Rattle.std.proofs.lemmas.List.{append-nil}
use Rattle.resp.specs.Replies.{array_head}
use Rattle.redis_commands.specs.Commands.{texts}
use Rattle.redis_service.specs.Server.{is_setting, setting_bytes}
use Rattle.redis_service.specs.Sending.{Sends}
use Rattle.redis_service.proofs.EachLemmas.{mapped_more}
use Rattle.redis_service.proofs.SendLemmas.{takes_none}
use Rattle.redis_service.proofs.server.put_settings.Goals as goal

pub loop-word-init : goal.loop-word-init
loop-word-init g c =
    let before = g.W.Sink.state c.args.sink.now in
    record {
      can = c.send_after-sent.ensures.can;
      sends =
          subst (λ (t : List ℕ). Sends c.send_after-sent.result before (g.W.Sink.state c.send_after-sent.new.sink) t)
          (ap (λ (n : ℕ). array_head (2 * n)) c.count_settings-count.ensures.count ∙ sym (append-nil (array_head (2 * count_by is_setting (texts c.args.words.now)))))
          (c.send_after-sent.ensures.more before [] (takes_none before));
    }

-- one more word is answered
pub loop-word-preserved : goal.loop-word-preserved
loop-word-preserved g c =
    let before = g.W.Sink.state c.args.sink.now in
    let words = c.args.words.now in
    let d : Bor (List ℕ) = record { ref_ptr = (0, 0); now = [] } in
    let word = (get_or words c.loop-word.word-index d).now in
    let head = array_head (2 * count_by is_setting (texts words)) in
    let front = flat_map (setting_bytes c.args.least) (texts (take c.loop-word.word-index words)) in
    record {
      can = c.put_setting-sent.ensures.can;
      sends =
          subst (λ (t : List ℕ). Sends c.put_setting-sent.result before (g.W.Sink.state c.put_setting-sent.new.sink) t)
          (append_assoc head front (setting_bytes c.args.least word) ∙ ap (λ (t : List ℕ). head ++ t) (mapped_more (setting_bytes c.args.least) words c.loop-word.word-index d (omega arith)))
          (c.put_setting-sent.ensures.more before (head ++ front) c.args.least c.least_text-text.ensures c.loop-word.invariant.sends);
    }
