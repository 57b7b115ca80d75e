use Rattle.std.proofs.Common.{ap}
use Rattle.std.specs.Prelude.{codes}
use Rattle.metrics_page.specs.Pages.{metric}
use Rattle.metrics_page.specs.declared.text.Kind.TheVariants.{Gauge}
use Rattle.metrics_page.proofs.PageLemmas.{more}
use Rattle.metrics_page.proofs.text.put_saves.Goals as goal

pub returns-clause-items : goal.returns-clause-items
returns-clause-items c =
    more _ _ _ _ _ _ c.put.ensures.items c.put-2.ensures.items
    (ap (metric Gauge (codes "mapd_save_failing") (codes "1 if the last save could not be written, else 0.")) c.one_if.ensures)
