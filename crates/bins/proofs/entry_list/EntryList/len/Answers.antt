use Rattle.std.proofs.Common.{List, length, sym, ap, ◌∙◌}
use Rattle.bins.specs.Table.{Entry}
use Rattle.bins.proofs.PairedEntries.{paired-length}
use Rattle.bins.proofs.entry_list.EntryList.len.Goals as goal

-- there are as many entries as keys
pub returns : goal.returns
returns c = record { value = c.len.ensures.value ∙ sym (paired-length _ _ c.self.invariant) ∙ ap (λ (es : List Entry). length es) c.self.view_is }
