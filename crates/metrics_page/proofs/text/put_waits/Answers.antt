use Rattle.std.proofs.Common.{refl}
use Rattle.metrics_page.proofs.PageLemmas.{more}
use Rattle.metrics_page.proofs.text.put_waits.Goals as goal

pub returns-clause-items : goal.returns-clause-items
returns-clause-items c = more _ _ _ _ _ _ (more _ _ _ _ _ _ c.put.ensures.items c.put-2.ensures.items refl) c.put-3.ensures.items refl
