use Rattle.std.proofs.Common.{List, sym, ap, ◌∙◌}
use Rattle.bins.specs.Table.{Entry}
use Rattle.bins.specs.Entries.{entry_of}
use Rattle.bins.proofs.OrderedEntries.{paired-entry}
use Rattle.bins.proofs.entry_list.EntryList.get_any.Goals as goal

-- an entry stands where its key and its value stand
pub returns-clause-entry : goal.returns-clause-entry
returns-clause-entry c =
    (λ i. (c.get_any.ensures.key i, c.get_any.ensures.value i)) ∙ sym (paired-entry _ _ c.self.invariant c.args.position) ∙ ap (λ (es : List Entry). entry_of es c.args.position) c.self.view_is
