use Rattle.std.proofs.Common.{◌≢◌, ◌<◌, ◌-◌, ℕ, length, slice_index, sym, ap, ◌∙◌, arith, inl, inr}
use Rattle.std.proofs.lemmas.Bool.{cases_lt}
use Rattle.bins.specs.Chains.{bin_of, bins_of}
use Rattle.bins.proofs.ChainBins.{bin_within}
use Rattle.bins.proofs.ChainLemmas.{last_at, passed_on}
use Rattle.bins.proofs.index.Chains.find_from.Goals as goal

pub returns-then-hash : goal.returns-then-hash
returns-then-hash c =
    let before = c.loop-at.invariant in
    let pos : 0 < c.loop-at.at = elim (cases_lt 0 c.loop-at.at) [ inl lt ↦ lt | inr ge ↦ absurd (c.loop-at-test.true (omega (arith, ge))) ] in
    record {
      value = λ n le first.
          let passed = before.passed n le first in (
            omega (arith, pos, passed.0),
            sym c.hash.ensures ∙ c.if-hash.true,
            λ j behind high. passed.1 j (omega (arith, behind, pos)) high,
          );
    }

pub loop-at-preserved : goal.loop-at-preserved
loop-at-preserved c =
    let before = c.loop-at.invariant in
    let pos : 0 < c.loop-at.at = elim (cases_lt 0 c.loop-at.at) [ inl lt ↦ lt | inr ge ↦ absurd (c.loop-at-test.true (omega (arith, ge))) ] in
    let low : c.loop-at.at - 1 < length c.args.self.now.records.hashes = omega (arith, pos, before.range) in
    let links = c.requires.chained.links in
    let bin : ℕ → ℕ = bins_of c.args.self.now.half (length c.args.self.now.heads.items) c.args.self.now.records.hashes in
    let within = bin_within c.args.self.now.half (length c.args.self.now.heads.items) (slice_index c.args.self.now.records.hashes (c.loop-at.at - 1)) c.requires.chained.spread in
    let differs : slice_index c.args.self.now.records.hashes (c.loop-at.at - 1) ≢ c.args.hash = λ same. c.if-hash.false (c.hash.ensures ∙ same) in
    let last = last_at (bins_of c.args.self.now.half (length c.args.self.now.heads.items) c.args.self.now.records.hashes) _ _ _ _ (sym c.next-at.ensures) (links.at_nexts (c.loop-at.at - 1) low within) in
    record {
      range = omega (arith, c.next-at.ensures, links.falls (c.loop-at.at - 1) low, before.range, pos);
      passed = λ n le first. passed_on (bins_of c.args.self.now.half (length c.args.self.now.heads.items) c.args.self.now.records.hashes) c.args.self.now.records.hashes c.args.hash
          (bin_of c.args.self.now.half (length c.args.self.now.heads.items) c.args.hash) n c.loop-at.at c.next-at.result
          (λ j e. ap (bin_of c.args.self.now.half (length c.args.self.now.heads.items)) e) pos differs last (before.passed n le first);
    }
