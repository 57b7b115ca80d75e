use Rattle.std.proofs.Common.{refl, inr, ◌∙◌}
use Rattle.std.proofs.lemmas.Result.{on_ok_weaker}
use Rattle.bpf_model.specs.declared.instruction.Insn.TheVariants.{Mov}
use Rattle.bpf_model.specs.Arithmetic.{mov_value}
use Rattle.verifier.proofs.ChangeLemmas.{mov_changes}
use Rattle.verifier.proofs.LeadsLemmas.{leads_set}
use Rattle.verifier.proofs.abstract_state.AbstractState.mov.Goals as goal

pub returns-clause-ok : goal.returns-clause-ok
returns-clause-ok c =
    let a = c.args in
    on_ok_weaker c.assign.result (λ sets sizes s d.
    let x = c.in_ok-value.ensures.ok sizes s d in
    let w = mov_value a.width x.word in
    inr (leads_set c.assign.new.self sizes (Mov a.width a.dst a.src) s a.dst w (rw x.is refl) (sets sizes s 1 w d (c.moved.ensures.holds x.word x.stands)))) c.assign.ensures.ok

pub returns-clause-changes : goal.returns-clause-changes
returns-clause-changes c =
    let a = c.args in
    let value = c.in_ok-value.ensures in
    let moved = c.moved.ensures in
    on_ok_weaker c.assign.result (λ sets. mov_changes a.width a.dst a.src a.self.now c.assign.new.self c.moved.result sets (moved.value value.value)
    (λ s whole is. moved.whole whole ∙ value.register s is)
    (λ k whole is. rw (moved.whole whole) (value.constant k is))) c.assign.ensures.exact
