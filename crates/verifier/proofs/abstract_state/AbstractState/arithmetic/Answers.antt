use Rattle.std.proofs.Common.{refl, inr}
use Rattle.std.proofs.lemmas.Result.{on_ok_weaker}
use Rattle.bpf_model.specs.declared.instruction.Insn.TheVariants.{Alu}
use Rattle.bpf_model.specs.Arithmetic.{alu_value}
use Rattle.verifier.proofs.ChangeLemmas.{alu_changes}
use Rattle.verifier.proofs.LeadsLemmas.{leads_set}
use Rattle.verifier.proofs.abstract_state.AbstractState.arithmetic.Goals as goal

pub returns-clause-ok : goal.returns-clause-ok
returns-clause-ok c =
    let i = c.args in
    on_ok_weaker c.assign.result (λ sets sizes s d.
    let a = rw c.number.ensures.value at (c.in_ok-a.ensures.ok sizes s d) in
    let b = c.in_ok-b.ensures.ok sizes s d in
    let w = alu_value i.op i.width a.word b.word in
    let stands = c.operate.ensures.holds a.word b.word a.stands b.stands in
    inr (leads_set c.assign.new.self sizes (Alu i.op i.width i.dst i.src) s i.dst w (rw (a.is, b.is) refl) (sets sizes s 1 w d stands))) c.assign.ensures.ok

pub returns-clause-changes : goal.returns-clause-changes
returns-clause-changes c =
    let i = c.args in
    let first = rw c.number.ensures.value at c.in_ok-a.ensures.exact in
    let second = c.in_ok-b.ensures in
    on_ok_weaker c.assign.result (λ sets. alu_changes i.op i.width i.dst i.src i.self.now c.assign.new.self c.operate.result sets c.operate.ensures.value
    (λ m is-op is-width is.
    let k = second.mask m is in
    c.operate.ensures.mask is-op is-width m k.range k.is k.single k.small)
    (λ s w lo hi from to is-op is-width is near pointer number.
    c.operate.ensures.sum is-op is-width w lo hi from to near (rw first.0 pointer) (rw (second.register s is) number))) c.assign.ensures.exact
