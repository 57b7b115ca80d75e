use Rattle.std.proofs.Common.{sym, append-nil, add-one, string_bytes}
use Rattle.explanations.specs.Accesses.{unwritten_below}
use Rattle.explanations.proofs.ListingLemmas.{told_more}
use Rattle.explanations.proofs.access.write_unwritten.Goals as goal

pub loop-step-init : goal.loop-step-init
unfolding unwritten_below
loop-step-init c = sym (append-nil (string_bytes c.args.text.now))

pub loop-step-preserved : goal.loop-step-preserved
unfolding unwritten_below
loop-step-preserved c = rw add-one (told_more _ _ _ _ _ c.loop-step.invariant c.in_ok-write_byte.ensures)
