use Rattle.std.proofs.Common.{◌≡◌, take}
use Rattle.bulk_walks.specs.Leads.{leads_in}
use Rattle.bulk_walks.proofs.answers.leads_of.Given as goal

-- the leads so far
abbrev pub invariant-loop-position : goal.invariant-loop-position
invariant-loop-position l = l.leads.items ≡ leads_in l.list (take l.position-index l.order)
