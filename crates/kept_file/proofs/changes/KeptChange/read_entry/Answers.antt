use Rattle.std.proofs.Common.{◌∙◌, Some, sym, subst}
use Rattle.kept_file.specs.Changes.{BeginsWithLongValue}
use Rattle.kept_file.proofs.changes.KeptChange.read_entry.Goals as goal
use Rattle.kept_file.proofs.ChangeLemmas.{after_deadline}

pub returns-in_ok-deadline-in-2-clause-too_long : goal.returns-in_ok-deadline-in-2-clause-too_long
returns-in_ok-deadline-in-2-clause-too_long c =
    let at = c.in_ok-deadline-in-2.deadline in
    let rest = c.in_ok-deadline-in-2.rest.now in
    let read = c.in_ok-deadline-in-2.ensures.ok in
    let value = c.read_value-in-2.ensures.too_long in (
      λ fails. (Some at, rest, c.in-2.is, read, value.0 fails),
      λ long. value.1 (subst BeginsWithLongValue (sym (after_deadline rest long.1 at long.0 (sym c.in-2.is ∙ long.2) (sym read ∙ long.3))) long.4),
    )
