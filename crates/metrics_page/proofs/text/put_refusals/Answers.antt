use Rattle.std.proofs.Common.{◌∙◌, ap, List, ◌++◌}
use Rattle.std.specs.Prelude.{codes}
use Rattle.metrics_page.specs.Pages.{series}
use Rattle.metrics_page.specs.declared.numbers.Labelled.{Labelled}
use Rattle.metrics_page.proofs.text.put_refusals.Goals as goal

pub returns-clause-items : goal.returns-clause-items
returns-clause-items c =
    c.put_series.ensures.items
    ∙ ap (λ (all : List Labelled). c.args.text.now.items
    ++ series (codes "mapd_refusals_total") (codes "Refusals in frames by their numbers; OOM: memory was refused to commands on the Redis port.") (codes "number") all)
    c.as_slice.ensures.value
