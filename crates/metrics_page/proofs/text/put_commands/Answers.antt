use Rattle.std.proofs.Common.{ap, List}
use Rattle.std.specs.Prelude.{codes}
use Rattle.metrics_page.specs.Pages.{series}
use Rattle.metrics_page.specs.declared.numbers.Labelled.{Labelled}
use Rattle.metrics_page.proofs.PageLemmas.{after}
use Rattle.metrics_page.proofs.text.put_commands.Goals as goal

pub returns-clause-items : goal.returns-clause-items
returns-clause-items c =
    after _ _ _ _ _ _ c.put_series.ensures.items
    (ap (λ (all : List Labelled). series (codes "mapd_commands_total") (codes "Commands on the Redis port, right ones and wrong ones.") (codes "command") all)
    c.as_slice.ensures.value)
    c.put.ensures.items
