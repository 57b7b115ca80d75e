use Rattle.std.proofs.Common.{length, slice_index, sym, ap, arith}
use Rattle.bins.specs.Chains.{bin_of, bins_of}
use Rattle.bins.proofs.ChainBins.{bin_within}
use Rattle.bins.proofs.ChainLemmas.{last_at, last_in}
use Rattle.bins.proofs.index.Chains.before.Goals as goal

pub returns : goal.returns
returns c =
    let is = c.requires.chained in
    let within = bin_within c.args.self.now.half (length c.args.self.now.heads.items) (slice_index c.args.self.now.records.hashes c.args.position) is.spread in
    let last = last_at (bins_of c.args.self.now.half (length c.args.self.now.heads.items) c.args.self.now.records.hashes) _ _ _ _ (sym c.next.ensures) (is.links.at_nexts c.args.position c.requires.range within) in
    record {
      value = c.find_from.ensures.value c.args.position (omega (arith, c.requires.range))
          (last_in (bins_of c.args.self.now.half (length c.args.self.now.heads.items) c.args.self.now.records.hashes) _ _ _ _
          (ap (bin_of c.args.self.now.half (length c.args.self.now.heads.items)) c.requires.same) last);
    }
