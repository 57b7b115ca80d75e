use Rattle.std.proofs.Common.{ℕ, List, arith, ◌++◌, ◌∷◌, [], length, flat_map, refl, sym, ap, subst, ◌∙◌}
use Rattle.std.proofs.lemmas.List.{append-nil, length-map, take_all}
use Rattle.std.specs.Borrow.{Bor}
use Rattle.resp.specs.Replies.{array_head}
use Rattle.redis_commands.specs.Commands.{texts}
use Rattle.redis_service.specs.Calls.{Each}
use Rattle.redis_service.specs.Programs.{Looks}
use Rattle.redis_service.specs.Sending.{Sends}
use Rattle.redis_service.specs.Texts.{one_if}
use Rattle.redis_service.proofs.EachLemmas.{each_at}
use Rattle.redis_service.proofs.ProgramLemmas.{told_each}
use Rattle.redis_service.proofs.SendLemmas.{takes_none}
use Rattle.redis_service.proofs.programs.mark_each.Goals as goal

pub loop-word-init : goal.loop-word-init
loop-word-init g c = record {
  can = c.send_after-sent.ensures.can;
  each = λ pass. (
    [],
    refl,
    subst (λ (t : List ℕ). Sends c.send_after-sent.result (g.W.Sink.state c.args.sink.now) (g.W.Sink.state c.send_after-sent.new.sink) t)
        (sym (append-nil (array_head (length c.args.words.now))))
        (c.send_after-sent.ensures.more (g.W.Sink.state c.args.sink.now) [] (takes_none (g.W.Sink.state c.args.sink.now))),
  );
}

pub loop-word-preserved : goal.loop-word-preserved
loop-word-preserved g c =
    let head = array_head (length c.args.words.now) in
    let before = g.W.Sink.state c.args.sink.now in
    let is = c.is_known-is.result in
    record {
      can = c.send_after-sent-in-loop-word.ensures.can;
      each = λ pass.
          let (marks, each, sends) = c.loop-word.invariant.each pass in (
            marks ++ is ∷ [],
            each_at Looks pass pass pass c.args.words.now c.loop-word.word-index _ marks is (omega arith) each (c.is_known-is.ensures, refl),
            subst (λ (t : List ℕ). Sends c.send_after-sent-in-loop-word.result before (g.W.Sink.state c.send_after-sent-in-loop-word.new.sink) t)
                (ap (λ (t : List ℕ). (head ++ flat_map one_if marks) ++ t) (c.one_if.ensures []) ∙ told_each one_if head marks is)
                (c.send_after-sent-in-loop-word.ensures.more before (head ++ flat_map one_if marks) sends),
          );
    }

pub returns : goal.returns
returns g c = record {
  answers = λ now pass.
      let (marks, each, sends) = c.loop-word.invariant.each pass in (
        array_head (length c.args.words.now) ++ flat_map one_if marks,
        sends,
        (marks, subst (λ (t : List (Bor (List ℕ))). Each Looks pass (texts t) marks pass) (take_all c.loop-word.word-index c.args.words.now (omega arith)) each, ap (λ (n : ℕ). array_head n ++ flat_map one_if marks) (sym (length-map c.args.words.now (λ (w : Bor (List ℕ)). w.now)))),
      );
}
