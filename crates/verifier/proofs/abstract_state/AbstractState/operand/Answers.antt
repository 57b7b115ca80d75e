use Rattle.std.proofs.Common.{rules, refl, ap, pos, ◌∙◌, SFits, arith}
use Rattle.std.specs.Int.{w32}
use Rattle.std.proofs.lemmas.Int.{ints, to_z-of_z}
use Rattle.bpf_model.specs.Words.{sign_extended}
use Rattle.verifier.proofs.ChangeLemmas.{signed_back, immediate_is, mask_word}
use Rattle.verifier.proofs.abstract_state.AbstractState.operand.Goals as goal

pub returns-in-Register-clause-ok : goal.returns-in-Register-clause-ok
returns-in-Register-clause-ok c = rw c.in-Register.is (rw c.number.ensures.value at c.read.ensures.ok)

pub returns-in-Immediate-clause-constant : goal.returns-in-Immediate-clause-constant
returns-in-Immediate-clause-constant c = λ k is.
    let fits : SFits w32 c.in-Immediate.imm = search rules in
    let same = immediate_is c.in-Immediate.imm k (rw c.in-Immediate.is at is) in
    let word = rw (to_z-of_z w32 c.in-Immediate.imm fits) at c.immediate_word.ensures in
    let single = rw word at c.single.ensures.single in
    let least = single.smin ∙ signed_back c.in-Immediate.imm fits ∙ same in
    let greatest = single.smax ∙ signed_back c.in-Immediate.imm fits ∙ same in
    record { range = c.single.result; is = refl; least = omega (arith, ints, least); greatest = omega (arith, ints, greatest) }

pub returns-in-Immediate-clause-mask : goal.returns-in-Immediate-clause-mask
returns-in-Immediate-clause-mask c = λ m is.
    let fits : SFits w32 c.in-Immediate.imm = search rules in
    let same = immediate_is c.in-Immediate.imm (pos m) (rw c.in-Immediate.is at is) in
    let plain = mask_word m (rw same at fits) in
    let word = rw (to_z-of_z w32 c.in-Immediate.imm fits) at c.immediate_word.ensures in
    let is_m = word ∙ ap sign_extended same ∙ plain.0 in
    record { range = c.single.result; is = refl; single = rw is_m at c.single.ensures.single; small = plain.1 }
