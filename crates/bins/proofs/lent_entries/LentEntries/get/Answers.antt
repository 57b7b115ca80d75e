use Rattle.std.proofs.Common.{List, sym, ap, subst, ◌∙◌}
use Rattle.bins.specs.declared.lent_entries.Storage.{Storage}
use Rattle.bins.specs.Table.{Entry}
use Rattle.bins.specs.Entries.{entry_of}
use Rattle.bins.specs.Lent.{entries_stored, ArePaired}
use Rattle.bins.proofs.OrderedEntries.{paired-entry}
use Rattle.bins.proofs.lent_entries.LentEntries.get.Goals as goal

-- an entry stands where its key and its value stand
pub returns-in-Rows-clause-entry : goal.returns-in-Rows-clause-entry
returns-in-Rows-clause-entry c =
    let paired = subst (λ (storage : Storage). ArePaired storage) c.in-Rows.is c.self.invariant.0 in
    (λ i. (c.get_any.ensures.key i, c.get_any.ensures.value i)) ∙ sym (paired-entry _ _ paired c.args.position)
    ∙ ap (λ (es : List Entry). entry_of es c.args.position) (ap (λ (storage : Storage). entries_stored storage) (sym c.in-Rows.is) ∙ c.self.view_is)
