use Rattle.std.proofs.Common.{rules, of_calls}
use Rattle.std.proofs.lemmas.Fn.{always_returns_same}
use Rattle.bins.specs.Table.{by_bytes}
use Rattle.bins.proofs.MapEdits.{total}
use Rattle.bins.proofs.SearchLemmas.{searched}
use Rattle.bins.proofs.list_bins.position_with.Goals as goal

-- the closure compares an entry's key with the wanted one
pub returns : goal.returns
returns c =
    let facts = c.binary_search_by.ensures in
    let by_key = facts.position (λ entry. by_bytes entry.0 c.args.key.now) (always_returns_same _ _ _ (λ a r f k. search (rules, of_calls))) in
    searched total _ c.args.key.now c.requires _ facts.bound by_key
