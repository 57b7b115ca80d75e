use Rattle.std.proofs.Common.{ℕ, List, [], ◌∷◌, arith, ◌∙◌, ap, sym, ◌+◌, get_or, count_by, Bor}
use Rattle.redis_service.specs.Server.{is_setting}
use Rattle.redis_service.proofs.EachLemmas.{count_words_more, count_one}
use Rattle.redis_service.proofs.server.count_settings.Goals as goal

pub loop-word-preserved : goal.loop-word-preserved
loop-word-preserved c =
    let d : Bor (List ℕ) = record { ref_ptr = (0, 0); now = [] } in
    let word = (get_or c.args.words.now c.loop-word.word-index d).now in
    record {
      count =
          c.one_more-count.ensures ∙ ap (λ (n : ℕ). n + count_by is_setting (word ∷ [])) c.loop-word.invariant.count
          ∙ sym (count_words_more is_setting c.args.words.now c.loop-word.word-index d (omega arith));
      most = omega (arith, c.one_more-count.ensures, count_one is_setting word, c.loop-word.invariant.most);
    }
