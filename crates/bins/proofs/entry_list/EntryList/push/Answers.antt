use Rattle.std.proofs.Common.{◌++◌, ◌∷◌, [], List, ℕ, ap, ◌∙◌}
use Rattle.bins.specs.Table.{Entry}
use Rattle.bins.proofs.PairedEntries.{joined}
use Rattle.bins.proofs.entry_list.EntryList.push.Goals as goal

-- there is one more key, and its value
pub returns-clause-ok : goal.returns-clause-ok
returns-clause-ok c =
    let key = c.args.key.now in
    let value = c.args.value.now in
    let keys = c.push_reserved.ensures.keys ∙ ap (λ (xs : List (List ℕ)). xs ++ key ∷ []) c.reserve.ensures.keys in
    let values = c.push_reserved.ensures.values ∙ ap (λ (xs : List (List ℕ)). xs ++ value ∷ []) c.reserve.ensures.values in
    joined _ _ c.self.invariant key value _ _ keys values ∙ ap (λ (es : List Entry). es ++ (key, value) ∷ []) c.self.view_is
