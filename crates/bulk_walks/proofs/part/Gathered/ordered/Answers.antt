use Rattle.std.proofs.Common.{refl}
use Rattle.bulk_walks.proofs.part.Gathered.ordered.Goals as goal

-- the reply to a walk that gives all answers; what was kept of them is in order
pub returns : goal.returns
returns c checked arg found had = record {
  reply = record { items = had.all; counts = record { scanned = _; given = _; unfit = _ } };
  is_reply = record {
    outcomes = had.runs.outcomes;
    one_each = had.runs.one_each;
    are_outcomes = had.runs.are_outcomes;
    items = had.runs.answers;
    scanned = had.scanned;
    given = refl;
    unfit = had.runs.unfit_is;
  };
  stands = record {
    keeps = c.in_ok-order.ensures had.all had.kept;
    scanned = refl;
    unfit = refl;
  };
}
