use Rattle.std.proofs.Common.{◌≡◌, [], List, ℕ, set, sym, ap, ◌∙◌}
use Rattle.std.proofs.lemmas.List.{set-set}
use Rattle.bins.specs.KeptRows.{string_at}
use Rattle.bins.specs.Rows.{keys_in, values_in}
use Rattle.bins.proofs.RowSteps.{written_same}
use Rattle.bins.proofs.raw_rows.RawRows.refill.Goals as goal

-- the key is written where it stood
pub returns-clause-keys : goal.returns-clause-keys
returns-clause-keys c =
    let keys = keys_in c.args.self.now in
    let p = c.args.position in
    let made = rw c.unwrap-key.ensures at c.from_slice-key.ensures.value in
    let is : c.as_slice.result.now ≡ string_at keys p = c.as_slice.ensures.value ∙ made ∙ c.entry.ensures.key in
    c.fill.ensures.keys ∙ ap (λ (xs : List (List ℕ)). set xs p c.as_slice.result.now) c.vacate.ensures.keys ∙ set-set keys p [] c.as_slice.result.now
    ∙ written_same keys p c.as_slice.result.now (sym is)

pub returns-clause-values : goal.returns-clause-values
returns-clause-values c =
    c.fill.ensures.values ∙ ap (λ (xs : List (List ℕ)). set xs c.args.position c.args.bytes.now) c.vacate.ensures.values ∙ set-set (values_in c.args.self.now) c.args.position [] c.args.bytes.now
