use Rattle.std.proofs.Common.{◌≡◌, ◌∙◌, true, sym, subst, arith, rules}
use Rattle.stack_slots.specs.declared.frame.Frame.{Frame}
use Rattle.verifier.specs.declared.abstract_state.AbstractState.{AbstractState}
use Rattle.verifier.specs.Describes.{Includes}
use Rattle.verifier.specs.Joins.{JoinsFrames, KeepsCommon}
use Rattle.verifier.proofs.JoinLemmas.{joins_same, joins_first, joins_second, joins_keep}
use Rattle.verifier.proofs.abstract_state.kept.KeptState.join.Goals as goal

pub returns-in_ok-self-inside-clause-first : goal.returns-in_ok-self-inside-clause-first
returns-in_ok-self-inside-clause-first c =
    let kept : AbstractState = record { registers = c.self.inside.registers; frame = c.self.inside.frame.value } in
    let joined : AbstractState = record { registers = c.join_registers.new.registers; frame = c.in_ok-self-inside.field-0.value } in
    let frames : JoinsFrames kept.frame c.args.other.now.frame joined.frame = subst (λ (f : Frame). JoinsFrames f c.args.other.now.frame joined.frame) c.deref-then-not-is.ensures c.in_ok-self-inside.ensures.joins in
    subst (λ (k : AbstractState). Includes k joined) c.self.view_is (joins_first kept c.args.other.now joined (omega arith) c.join_registers.ensures.joins frames)

pub returns-in_ok-self-inside-clause-second : goal.returns-in_ok-self-inside-clause-second
returns-in_ok-self-inside-clause-second c =
    let kept : AbstractState = record { registers = c.self.inside.registers; frame = c.self.inside.frame.value } in
    let joined : AbstractState = record { registers = c.join_registers.new.registers; frame = c.in_ok-self-inside.field-0.value } in
    let frames : JoinsFrames kept.frame c.args.other.now.frame joined.frame = subst (λ (f : Frame). JoinsFrames f c.args.other.now.frame joined.frame) c.deref-then-not-is.ensures c.in_ok-self-inside.ensures.joins in
    joins_second kept c.args.other.now joined (omega arith) c.join_registers.ensures.joins frames

pub returns-in_ok-self-inside-clause-keeps : goal.returns-in_ok-self-inside-clause-keeps
returns-in_ok-self-inside-clause-keeps c =
    let kept : AbstractState = record { registers = c.self.inside.registers; frame = c.self.inside.frame.value } in
    let joined : AbstractState = record { registers = c.join_registers.new.registers; frame = c.in_ok-self-inside.field-0.value } in
    let frames : JoinsFrames kept.frame c.args.other.now.frame joined.frame = subst (λ (f : Frame). JoinsFrames f c.args.other.now.frame joined.frame) c.deref-then-not-is.ensures c.in_ok-self-inside.ensures.joins in
    subst (λ (k : AbstractState). KeepsCommon k c.args.other.now joined) c.self.view_is (joins_keep kept c.args.other.now joined c.join_registers.ensures.joins frames)

pub returns-else-not-is-clause-first : goal.returns-else-not-is-clause-first
returns-else-not-is-clause-first c =
    let kept : AbstractState = record { registers = c.self.inside.registers; frame = c.self.inside.frame.value } in
    let joined : AbstractState = record { registers = c.join_registers.new.registers; frame = c.self.inside.frame.value } in
    let yes : c.is.result ≡ true = search rules in
    let one : kept.frame ≡ c.args.other.now.frame = sym c.deref.ensures ∙ c.is.ensures.same yes in
    let frames : JoinsFrames kept.frame c.args.other.now.frame joined.frame = subst (λ (g : Frame). JoinsFrames kept.frame g kept.frame) one (joins_same kept.frame) in
    subst (λ (k : AbstractState). Includes k joined) c.self.view_is (joins_first kept c.args.other.now joined (omega arith) c.join_registers.ensures.joins frames)

pub returns-else-not-is-clause-second : goal.returns-else-not-is-clause-second
returns-else-not-is-clause-second c =
    let kept : AbstractState = record { registers = c.self.inside.registers; frame = c.self.inside.frame.value } in
    let joined : AbstractState = record { registers = c.join_registers.new.registers; frame = c.self.inside.frame.value } in
    let yes : c.is.result ≡ true = search rules in
    let one : kept.frame ≡ c.args.other.now.frame = sym c.deref.ensures ∙ c.is.ensures.same yes in
    let frames : JoinsFrames kept.frame c.args.other.now.frame joined.frame = subst (λ (g : Frame). JoinsFrames kept.frame g kept.frame) one (joins_same kept.frame) in
    joins_second kept c.args.other.now joined (omega arith) c.join_registers.ensures.joins frames

pub returns-else-not-is-clause-keeps : goal.returns-else-not-is-clause-keeps
returns-else-not-is-clause-keeps c =
    let kept : AbstractState = record { registers = c.self.inside.registers; frame = c.self.inside.frame.value } in
    let joined : AbstractState = record { registers = c.join_registers.new.registers; frame = c.self.inside.frame.value } in
    let yes : c.is.result ≡ true = search rules in
    let one : kept.frame ≡ c.args.other.now.frame = sym c.deref.ensures ∙ c.is.ensures.same yes in
    let frames : JoinsFrames kept.frame c.args.other.now.frame joined.frame = subst (λ (g : Frame). JoinsFrames kept.frame g kept.frame) one (joins_same kept.frame) in
    subst (λ (k : AbstractState). KeepsCommon k c.args.other.now joined) c.self.view_is (joins_keep kept c.args.other.now joined c.join_registers.ensures.joins frames)
