use Rattle.std.proofs.lemmas.List.{get_or_default}
use Rattle.bulk_walks.proofs.running.are_bytes.Goals as goal

pub returns : goal.returns
returns c = λ k d h. rw (get_or_default c.args.bytes.now k d 0 h) (c.type_inv.bytes k).fits
