use Rattle.std.proofs.Common.{subst}
use Rattle.bin_stripes.specs.AllSeen.{CarriesAll, SeesJustMine}
use Rattle.bin_stripes.specs.Passes.{PassState, stripes_of}
use Rattle.bin_stripes.proofs.AllSeenLemmas.{sees_just_mine}
use Rattle.stripe_rule.specs.Steps.{view_of}
use Rattle.bin_stripes.proofs.pass.Pass.vouch.Goals as goal

pub returns-clause-once : goal.returns-clause-once
returns-clause-once c = let known = c.self.inside.known in
    subst (λ (p : PassState). CarriesAll p.view → SeesJustMine p.view) c.self.view_is
    (sees_just_mine (stripes_of known.table_id) (view_of known.views) c.self.invariant.sound)
