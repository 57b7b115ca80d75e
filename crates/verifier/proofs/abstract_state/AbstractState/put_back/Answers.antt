use Rattle.std.proofs.Common.{◌≡◌, ◌∙◌, ap, sym, arith}
use Rattle.verifier.specs.Changes.{second_register}
use Rattle.verifier.specs.Joins.{register}
use Rattle.verifier.proofs.ChangeLemmas.{put_back}
use Rattle.verifier.proofs.abstract_state.AbstractState.put_back.Goals as goal

pub returns : goal.returns
returns c = record {
  back = λ before long dst src narrows others.
      let first : c.args.dst ≡ c.number-2.result = sym c.number-2.ensures.value in
      let second : second_register c.args.dst c.args.src ≡ c.number.result = sym c.source.ensures.value ∙ sym c.number.ensures.value in
      put_back before c.args.self.now c.number-2.result c.number.result c.args.operands.dst c.args.operands.src (omega (arith, long)) (omega arith) (omega arith) (dst ∙ ap (register before) first) (src ∙ ap (register before) second) narrows.frame (λ r apart apart_too. others r (λ is. apart (is ∙ first)) (λ is. apart_too (is ∙ second)));
}
