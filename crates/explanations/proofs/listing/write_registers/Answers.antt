use Rattle.std.proofs.Common.{sym, append-nil, add-one, string_bytes}
use Rattle.explanations.specs.Listings.{registers_below}
use Rattle.explanations.proofs.ListingLemmas.{told_more}
use Rattle.explanations.proofs.listing.write_registers.Goals as goal

pub loop-register-init : goal.loop-register-init
unfolding registers_below
loop-register-init c = sym (append-nil (string_bytes c.args.text.now))

pub loop-register-preserved : goal.loop-register-preserved
unfolding registers_below
loop-register-preserved c = rw add-one (told_more _ _ _ _ _ c.loop-register.invariant c.in_ok-write_register.ensures)
