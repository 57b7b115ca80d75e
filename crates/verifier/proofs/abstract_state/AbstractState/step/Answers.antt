use Rattle.std.proofs.Common.{rules, refl, inr, SFits}
use Rattle.std.specs.Int.{w16}
use Rattle.std.proofs.lemmas.Int.{to_z-of_z}
use Rattle.std.proofs.lemmas.Result.{on_ok_weaker}
use Rattle.bpf_model.specs.declared.instruction.Insn.TheVariants.{Alu, Negate, Mov, SignExtend, Reorder, Wide}
use Rattle.verifier.proofs.ValueLemmas.{number_some}
use Rattle.verifier.proofs.ChangeLemmas.{set_changes}
use Rattle.verifier.proofs.AccessLemmas.{no_access}
use Rattle.verifier.proofs.LeadsLemmas.{leads_set}
use Rattle.verifier.proofs.abstract_state.AbstractState.step.Goals as goal

pub returns-in-Load-clause-ok : goal.returns-in-Load-clause-ok
returns-in-Load-clause-ok c =
    let fits : SFits w16 c.in-Load.offset = search rules in
    rw c.in-Load.is (rw (to_z-of_z w16 c.in-Load.offset fits) at c.load.ensures.ok)

pub returns-in-Load-clause-changes : goal.returns-in-Load-clause-changes
returns-in-Load-clause-changes c =
    let fits : SFits w16 c.in-Load.offset = search rules in
    rw c.in-Load.is (rw (to_z-of_z w16 c.in-Load.offset fits) at c.load.ensures.changes)

pub returns-in-Load-clause-accepts : goal.returns-in-Load-clause-accepts
returns-in-Load-clause-accepts c =
    let fits : SFits w16 c.in-Load.offset = search rules in
    rw c.in-Load.is (rw (to_z-of_z w16 c.in-Load.offset fits) at c.load.ensures.accepts)

pub returns-in-Store-clause-ok : goal.returns-in-Store-clause-ok
returns-in-Store-clause-ok c =
    let fits : SFits w16 c.in-Store.offset = search rules in
    rw c.in-Store.is (rw (to_z-of_z w16 c.in-Store.offset fits) at c.store.ensures.ok)

pub returns-in-Store-clause-changes : goal.returns-in-Store-clause-changes
returns-in-Store-clause-changes c =
    let fits : SFits w16 c.in-Store.offset = search rules in
    rw c.in-Store.is (rw (to_z-of_z w16 c.in-Store.offset fits) at c.store.ensures.changes)

pub returns-in-Store-clause-accepts : goal.returns-in-Store-clause-accepts
returns-in-Store-clause-accepts c =
    let fits : SFits w16 c.in-Store.offset = search rules in
    rw c.in-Store.is (rw (to_z-of_z w16 c.in-Store.offset fits) at c.store.ensures.accepts)

pub returns-in-Wide-clause-ok : goal.returns-in-Wide-clause-ok
returns-in-Wide-clause-ok c =
    let i = c.in-Wide in
    rw i.is (on_ok_weaker c.assign.result (λ sets s d.
    inr (leads_set c.assign.new.self c.args.sizes (Wide i.dst i.value) s i.dst i.value refl (sets c.args.sizes s 2 i.value d c.single.ensures.holds))) c.assign.ensures.ok)

pub returns-in-Wide-clause-changes : goal.returns-in-Wide-clause-changes
returns-in-Wide-clause-changes c =
    let i = c.in-Wide in
    rw i.is (on_ok_weaker c.assign.result (λ sets. set_changes (Wide i.dst i.value) i.dst c.args.self.now c.assign.new.self _ refl refl (λ w d s e. absurd cc) (λ o w d s e. absurd cc) sets (λ none. number_some _)) c.assign.ensures.exact)

pub returns-in-Alu-clause-accepts : goal.returns-in-Alu-clause-accepts
returns-in-Alu-clause-accepts c = λ suffices. c.arithmetic.ensures.accepts c.args.sizes (rw c.in-Alu.is at suffices)

pub returns-in-Negate-clause-accepts : goal.returns-in-Negate-clause-accepts
returns-in-Negate-clause-accepts c = λ suffices. c.negate.ensures.accepts c.args.sizes (rw c.in-Negate.is at suffices)

pub returns-in-Mov-clause-accepts : goal.returns-in-Mov-clause-accepts
returns-in-Mov-clause-accepts c = λ suffices. c.mov.ensures.accepts c.args.sizes (rw c.in-Mov.is at suffices)

pub returns-in-SignExtend-clause-accepts : goal.returns-in-SignExtend-clause-accepts
returns-in-SignExtend-clause-accepts c = λ suffices. c.sign_extend.ensures.accepts c.args.sizes (rw c.in-SignExtend.is at suffices)

pub returns-in-Reorder-clause-accepts : goal.returns-in-Reorder-clause-accepts
returns-in-Reorder-clause-accepts c = λ suffices. c.reorder.ensures.accepts c.args.sizes (rw c.in-Reorder.is at suffices)

pub returns-in-Load-clause-window : goal.returns-in-Load-clause-window
returns-in-Load-clause-window c =
    let fits : SFits w16 c.in-Load.offset = search rules in
    rw c.in-Load.is (rw (to_z-of_z w16 c.in-Load.offset fits) at c.load.ensures.window)

pub returns-in-Store-clause-window : goal.returns-in-Store-clause-window
returns-in-Store-clause-window c =
    let fits : SFits w16 c.in-Store.offset = search rules in
    rw c.in-Store.is (rw (to_z-of_z w16 c.in-Store.offset fits) at c.store.ensures.window)

pub returns-in-Alu-clause-window : goal.returns-in-Alu-clause-window
returns-in-Alu-clause-window c =
    let i = c.in-Alu in
    rw i.is (on_ok_weaker c.arithmetic.result (λ done. no_access c.args.sizes (Alu i.op i.width i.dst i.src) c.args.self.now refl refl) c.arithmetic.ensures.changes)

pub returns-in-Negate-clause-window : goal.returns-in-Negate-clause-window
returns-in-Negate-clause-window c =
    let i = c.in-Negate in
    rw i.is (on_ok_weaker c.negate.result (λ done. no_access c.args.sizes (Negate i.width i.dst) c.args.self.now refl refl) c.negate.ensures.changes)

pub returns-in-Mov-clause-window : goal.returns-in-Mov-clause-window
returns-in-Mov-clause-window c =
    let i = c.in-Mov in
    rw i.is (on_ok_weaker c.mov.result (λ done. no_access c.args.sizes (Mov i.width i.dst i.src) c.args.self.now refl refl) c.mov.ensures.changes)

pub returns-in-SignExtend-clause-window : goal.returns-in-SignExtend-clause-window
returns-in-SignExtend-clause-window c =
    let i = c.in-SignExtend in
    rw i.is (on_ok_weaker c.sign_extend.result (λ done. no_access c.args.sizes (SignExtend i.extension i.dst i.src) c.args.self.now refl refl) c.sign_extend.ensures.changes)

pub returns-in-Reorder-clause-window : goal.returns-in-Reorder-clause-window
returns-in-Reorder-clause-window c =
    let i = c.in-Reorder in
    rw i.is (on_ok_weaker c.reorder.result (λ done. no_access c.args.sizes (Reorder i.order i.size i.dst) c.args.self.now refl refl) c.reorder.ensures.changes)

pub returns-in-Wide-clause-window : goal.returns-in-Wide-clause-window
returns-in-Wide-clause-window c =
    let i = c.in-Wide in
    rw i.is (on_ok_weaker c.assign.result (λ done. no_access c.args.sizes (Wide i.dst i.value) c.args.self.now refl refl) c.assign.ensures.exact)
