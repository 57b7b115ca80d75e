use Rattle.std.proofs.Common.{arith, sym, ap, ◌∙◌, List, length}
use Rattle.std.specs.FinMap as map
use Rattle.std.specs.FinMap.{len-entries}
use Rattle.bins.specs.Table.{Table}
use Rattle.bins.proofs.EntryCounts.{len-table}
use Rattle.atomic_methods.specs.Whole.{all_entries, whole}
use Rattle.atomic_methods.proofs.WholeLemmas.{Distinct-stripes}
use Rattle.atomic_methods.proofs.striped.Striped.count.Goals as goal

pub count_all-requires : goal.count_all-requires
count_all-requires c = let all = ap (λ (ts : List Table). length ts) c.deref.ensures.value in omega (arith, all, c.self.invariant.count.1)

-- no key is in two stripes
pub returns : goal.returns
returns c =
    let stripes = c.self.inside.stripes.items in
    record {
      value = c.count_all.ensures ∙ ap (λ (ts : List Table). length (all_entries ts)) c.deref.ensures.value ∙ sym (len-table (all_entries stripes) (Distinct-stripes _ c.self.invariant))
          ∙ len-entries (whole stripes) ∙ ap (λ (t : Table). length (map.entries t)) c.self.view_is;
    }
