use Rattle.std.proofs.Common.{◌∙◌, refl, sym, add-one}
use Rattle.explanations.specs.Origins.{last_write}
use Rattle.explanations.proofs.ListingLemmas.{got}
use Rattle.explanations.proofs.OriginLemmas.{write_here, no_write_here}
use Rattle.explanations.proofs.origin.last_write.Goals as goal
use Rattle.explanations.proofs.origin.last_write.Goals.{then-is_write, else-is_write}

pub loop-index-init : goal.loop-index-init
unfolding last_write
loop-index-init c = record { last = refl; inside = tt }

pub loop-index-preserved : goal.loop-index-preserved
loop-index-preserved c =
    let before = c.args.before.now in
    let states = c.args.states.now in
    let k = c.loop-index.index in
    let found = c.get.ensures.lookup in
    let seen = c.get-in-loop-index.ensures.lookup in
    let insn = sym (got before k c.get.result found.0 found.1) in
    let known = sym (got states k c.get-in-loop-index.result seen.0 seen.1) in
    elim c.if-is_write.branch [
      | then-is_write w ↦
          rw (add-one, w.last-is) record { last = write_here before states c.args.register k _ _ insn known (sym c.is_write.ensures ∙ w.if-is_write.true); inside = c.loop-index-test.true }
      | else-is_write w ↦
          rw (add-one, w.last-is) record {
            last = no_write_here before states c.args.register k _ _ insn known _ c.loop-index.invariant.last (sym c.is_write.ensures ∙ w.if-is_write.false);
            inside = c.loop-index.invariant.inside;
          }
    ]
