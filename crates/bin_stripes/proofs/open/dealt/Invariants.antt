use Rattle.std.proofs.Common.{◌≡◌, ◌-◌, [], map}
use Rattle.stripe_rule.specs.Rule.{newcomer, from_on}
use Rattle.bin_stripes.specs.Opened.{pass_of}
use Rattle.bin_stripes.proofs.open.dealt.Given as goal

abbrev pub invariant-loop-number : goal.invariant-loop-number
invariant-loop-number g l = (l.rest.table_id ≡ l.table.table_id)
    × (l.rest.me ≡ (newcomer l.table.table_id.slots l.passes (from_on l.number (l.passes - l.number)), []))
    × (l.all.items ≡ map (pass_of l.table.table_id l.passes) (from_on 0 l.number))
