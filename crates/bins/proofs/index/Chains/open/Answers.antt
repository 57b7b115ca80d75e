use Rattle.std.proofs.Common.{rules, arith, length, ap, sym, ◌∙◌}
use Rattle.bins.proofs.ChainLemmas.{links_none}
use Rattle.bins.proofs.index.Chains.open.Goals as goal

pub returns-clause-chained : goal.returns-clause-chained
returns-clause-chained c =
    let zeros = c.in_ok-first_heads.ensures.none in
    let bins = c.in_ok-first_heads.ensures.bins in
    record {
      spread = record { power = (3, search rules); some = omega arith; least = omega (arith, bins); most = omega (arith, bins); bounded = omega arith };
      long = ap length c.new.ensures.nexts ∙ sym (ap length c.new.ensures.hashes);
      links = links_none _ _ _ _ (ap length c.new.ensures.hashes) zeros;
    }
