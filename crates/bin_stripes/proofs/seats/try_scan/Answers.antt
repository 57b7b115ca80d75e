use Rattle.std.proofs.Common.{◌∷◌, [], rules, sym, subst}
use Rattle.stripe_rule.specs.Gains.{seen_of}
use Rattle.bin_stripes.specs.Actions.{scanned}
use Rattle.bin_stripes.specs.Invoked.{AreOf}
use Rattle.bin_stripes.proofs.StepLemmas.{settles_as}
use Rattle.bin_stripes.proofs.StripeTables.{entries_are_of}
use Rattle.bin_stripes.proofs.seats.try_scan.Goals as goal

pub returns-clause-ok : goal.returns-clause-ok
returns-clause-ok g c = let ok = c.in_ok-make_scan.ensures in let n = c.args.table.now.table_id.slots in let k = c.args.stripe in let found = c.in_ok-make_scan.field-0.items in let t = ok.entries in record {
  settles = settles_as g.B.Bins.table g.B.NotedBins.noted n k c.args.seat.now.me c.try_take_stripe.new.seat.me c.make_scan.new.seat.me (scanned found ∷ []) c.requires.rests (search rules) ok.ok;
  are = subst (λ es. AreOf n k es) (sym t.1.1) (entries_are_of n k t.0 (seen_of c.try_take_stripe.new.seat.me.0 k) t.1.0);
}
