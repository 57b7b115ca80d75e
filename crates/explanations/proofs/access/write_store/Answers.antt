use Rattle.explanations.proofs.ListingLemmas.{three_told}
use Rattle.explanations.proofs.access.write_store.Goals as goal

pub returns : goal.returns
returns c = three_told _ _ _ _ _ _ _ c.in_ok-write_name.ensures c.in_ok-write_pointer.ensures c.in_ok-push_str.ensures.bytes
