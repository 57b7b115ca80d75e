use Rattle.atomic_methods.proofs.WholeLemmas.{Apart-stripes}
use Rattle.atomic_methods.proofs.ReplaceLemmas.{replaces_whole, AreStripes-replaced}
use Rattle.atomic_methods.proofs.striped.Striped.replace_each.Goals as goal

pub invariant_of-self : goal.invariant_of-self
invariant_of-self c = AreStripes-replaced _ _ _ _ _ c.self.invariant c.replace_stripes.ensures.each

pub returns : goal.returns
returns c = record { each = rw (← c.self.view_is) (replaces_whole _ _ _ _ _ (Apart-stripes _ c.self.invariant) c.replace_stripes.ensures.each) }
