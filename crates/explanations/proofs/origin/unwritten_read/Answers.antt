use Rattle.std.proofs.Common.{◌∙◌, refl, sym, add-one}
use Rattle.explanations.specs.Origins.{unwritten_read}
use Rattle.explanations.proofs.OriginLemmas.{unwritten_here, not_unwritten_here}
use Rattle.explanations.proofs.origin.unwritten_read.Goals as goal
use Rattle.explanations.proofs.origin.unwritten_read.Goals.{then-reads_unwritten, else-reads_unwritten}

pub loop-register-init : goal.loop-register-init
unfolding unwritten_read
loop-register-init c = record { last = refl; inside = tt }

pub loop-register-preserved : goal.loop-register-preserved
loop-register-preserved c =
    let i = c.args.insn.now in
    let a = c.args.state.now in
    let r = c.loop-register.register in
    elim c.if-reads_unwritten.branch [
      | then-reads_unwritten w ↦
          rw (add-one, w.last-is) record { last = unwritten_here i a r (sym c.reads_unwritten.ensures ∙ w.if-reads_unwritten.true); inside = c.loop-register-test.true }
      | else-reads_unwritten w ↦
          rw (add-one, w.last-is) record {
            last = not_unwritten_here i a r _ c.loop-register.invariant.last (sym c.reads_unwritten.ensures ∙ w.if-reads_unwritten.false);
            inside = c.loop-register.invariant.inside;
          }
    ]
