use Rattle.std.proofs.Common.{refl}
use Rattle.atomic_methods.proofs.TableLemmas.{keeps}
use Rattle.atomic_methods.proofs.methods.make_change.Goals as goal

-- the key keeps its value
pub returns-in-Keep-clause-ok : goal.returns-in-Keep-clause-ok
returns-in-Keep-clause-ok g c = rw c.in-Keep.is (keeps _ _ _ refl)
