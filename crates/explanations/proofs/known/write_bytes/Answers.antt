use Rattle.std.proofs.Common.{sym, append-nil, add-one, string_bytes}
use Rattle.explanations.specs.Known.{bytes_below}
use Rattle.explanations.proofs.ListingLemmas.{told_more}
use Rattle.explanations.proofs.known.write_bytes.Goals as goal

pub loop-byte-init : goal.loop-byte-init
unfolding bytes_below
loop-byte-init c = sym (append-nil (string_bytes c.args.text.now))

pub loop-byte-preserved : goal.loop-byte-preserved
unfolding bytes_below
loop-byte-preserved c = rw add-one (told_more _ _ _ _ _ c.loop-byte.invariant c.in_ok-write_byte.ensures)
