use Rattle.std.proofs.Common.{subst, arith}
use Rattle.stack_slots.specs.declared.frame.Frame.{Frame}
use Rattle.verifier.specs.declared.abstract_state.AbstractState.{AbstractState}
use Rattle.verifier.specs.Describes.{Includes}
use Rattle.verifier.specs.Joins.{JoinsStates, JoinsFrames, KeepsCommon}
use Rattle.verifier.proofs.JoinLemmas.{joins_first, joins_second, joins_keep}
use Rattle.verifier.proofs.abstract_state.AbstractState.join.Goals as goal

pub returns-clause-first : goal.returns-clause-first
returns-clause-first c =
    let kept : AbstractState = record { registers = c.kept.inside.registers; frame = c.kept.inside.frame.value } in
    let joined : AbstractState = record { registers = c.join_registers.new.registers; frame = c.join_frames.new.frame } in
    let e = c.join_frames.ensures in
    let frames : JoinsFrames c.args.self.now.frame kept.frame joined.frame = subst (λ (g : Frame). JoinsFrames c.args.self.now.frame g joined.frame) c.deref.ensures e.joins in
    joins_first c.args.self.now kept joined (omega arith) c.join_registers.ensures.joins frames

pub returns-clause-second : goal.returns-clause-second
returns-clause-second c =
    let kept : AbstractState = record { registers = c.kept.inside.registers; frame = c.kept.inside.frame.value } in
    let joined : AbstractState = record { registers = c.join_registers.new.registers; frame = c.join_frames.new.frame } in
    let e = c.join_frames.ensures in
    let frames : JoinsFrames c.args.self.now.frame kept.frame joined.frame = subst (λ (g : Frame). JoinsFrames c.args.self.now.frame g joined.frame) c.deref.ensures e.joins in
    subst (λ (k : AbstractState). Includes k joined) c.kept.view_is (joins_second c.args.self.now kept joined (omega arith) c.join_registers.ensures.joins frames)

pub returns-clause-exact : goal.returns-clause-exact
returns-clause-exact c =
    let kept : AbstractState = record { registers = c.kept.inside.registers; frame = c.kept.inside.frame.value } in
    let joined : AbstractState = record { registers = c.join_registers.new.registers; frame = c.join_frames.new.frame } in
    let e = c.join_frames.ensures in
    subst (λ (k : AbstractState). JoinsStates c.args.self.now k joined) c.kept.view_is (record { registers = c.join_registers.ensures.joins; marks = rw c.deref.ensures at e.joins.marks; slots = rw c.deref.ensures at e.slots })

pub returns-clause-keeps : goal.returns-clause-keeps
returns-clause-keeps c =
    let kept : AbstractState = record { registers = c.kept.inside.registers; frame = c.kept.inside.frame.value } in
    let joined : AbstractState = record { registers = c.join_registers.new.registers; frame = c.join_frames.new.frame } in
    let e = c.join_frames.ensures in
    let frames : JoinsFrames c.args.self.now.frame kept.frame joined.frame = subst (λ (g : Frame). JoinsFrames c.args.self.now.frame g joined.frame) c.deref.ensures e.joins in
    subst (λ (k : AbstractState). KeepsCommon c.args.self.now k joined) c.kept.view_is (joins_keep c.args.self.now kept joined c.join_registers.ensures.joins frames)
