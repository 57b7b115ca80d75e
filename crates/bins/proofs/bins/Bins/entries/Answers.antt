use Rattle.std.proofs.Common.{List, ◌++◌, sum_by, ap, ◌∙◌}
use Rattle.bins.specs.Table.{Entry}
use Rattle.bins.proofs.bins.Bins.entries.Goals as goal

-- copies of the entries, in key order
pub returns : goal.returns
returns g c = let adds = c.in_ok-copy_into.ensures.ok in record {
  ok = c.in_ok-found.ensures.order (g.Self.Bins.table c.args.self.now)
      (λ weight. ap (λ (es : List Entry). sum_by weight es) (adds.added ∙ ap (λ (es : List Entry). es ++ adds.copies) c.new-list.ensures) ∙ adds.are weight);
}
