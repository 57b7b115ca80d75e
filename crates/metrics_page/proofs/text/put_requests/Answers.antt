use Rattle.std.proofs.Common.{◌∙◌, ap, List, ◌++◌}
use Rattle.std.specs.Prelude.{codes}
use Rattle.metrics_page.specs.Pages.{series}
use Rattle.metrics_page.specs.declared.numbers.Labelled.{Labelled}
use Rattle.metrics_page.proofs.text.put_requests.Goals as goal

pub returns-clause-items : goal.returns-clause-items
returns-clause-items c =
    c.put_series.ensures.items
    ∙ ap (λ (all : List Labelled). c.args.text.now.items
    ++ series (codes "mapd_requests_total") (codes "Requests in frames.") (codes "request") all)
    c.as_slice.ensures.value
