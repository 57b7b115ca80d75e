use Rattle.noted_bins.proofs.KeyLemmas.{last_apart}
use Rattle.noted_bins.proofs.notes.Notes.last.Goals as goal

-- a long key stands at the end
pub returns-in-Some : goal.returns-in-Some
returns-in-Some c =
    let item = c.in-Some.ensures.item in
    rw (← c.self.view_is, c.copied.ensures) (last_apart c.self.inside.short.items _ _ (rw c.deref.ensures.value at item.3.0) (rw c.deref.ensures.value at item.1))
