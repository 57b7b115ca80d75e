use Rattle.std.proofs.Common.{refl, inr}
use Rattle.std.proofs.lemmas.Result.{on_ok_weaker}
use Rattle.bpf_model.specs.declared.instruction.Insn.TheVariants.{Negate}
use Rattle.bpf_model.specs.Arithmetic.{negated}
use Rattle.verifier.proofs.ValueLemmas.{number_some}
use Rattle.verifier.proofs.ChangeLemmas.{set_changes}
use Rattle.verifier.proofs.LeadsLemmas.{leads_set}
use Rattle.verifier.proofs.abstract_state.AbstractState.negate.Goals as goal

pub returns-clause-ok : goal.returns-clause-ok
returns-clause-ok c =
    let a = c.args in
    on_ok_weaker c.assign.result (λ sets sizes s d.
    let x = rw c.number.ensures.value at (c.in_ok-read.ensures.ok sizes s d) in
    let w = negated a.width x.word in
    let lies = c.negate.ensures.holds x.word (c.as_number-number.ensures.holds x.word x.stands) in
    inr (leads_set c.assign.new.self sizes (Negate a.width a.dst) s a.dst w (rw x.is refl) (sets sizes s 1 w d lies))) c.assign.ensures.ok

pub returns-clause-changes : goal.returns-clause-changes
returns-clause-changes c =
    let a = c.args in
    on_ok_weaker c.assign.result (λ sets. set_changes (Negate a.width a.dst) a.dst a.self.now c.assign.new.self _ refl refl (λ w d s e. absurd cc) (λ o w d s e. absurd cc) sets (λ none. number_some _)) c.assign.ensures.exact
