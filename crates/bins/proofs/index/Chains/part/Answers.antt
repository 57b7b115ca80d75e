use Rattle.std.proofs.Common.{◌≡◌, ◌≢◌, ◌<◌, ◌+◌, ◌-◌, ℕ, List, length, slice_index, refl, sym, ap, ◌∙◌, arith, inl, inr}
use Rattle.std.proofs.lemmas.Bool.{cases_lt}
use Rattle.std.proofs.lemmas.List.{get_or_read}
use Rattle.bins.specs.Chains.{IsLast, bin_of, bins_of}
use Rattle.bins.proofs.ChainBins.{bin_same, bin_parted}
use Rattle.bins.proofs.ChainLemmas.{last_in, last_at}
use Rattle.bins.proofs.ChainParts.{between, to_come, none_parted, one_moved, one_stays, next_there}
use Rattle.bins.proofs.index.Chains.part.Goals as goal
use Rattle.bins.proofs.index.Chains.part.Goals.{After-bin_of}

pub loop-at-init : goal.loop-at-init
loop-at-init c =
    let half : ℕ = c.args.self.now.half in
    let hashes : List ℕ = c.args.self.now.records.hashes in
    let old : ℕ → ℕ = bins_of half c.args.into hashes in
    let new : ℕ → ℕ = bins_of half (c.args.into + 1) hashes in
    let inside : c.args.into - half < length c.args.self.now.heads.items = omega (arith, c.requires.bins) in
    let read = c.at-at.ensures.value ∙ get_or_read c.args.self.now.heads.items (c.args.into - half) c.index.result.now inside c.index.ensures 0 in
    let last = last_at old (length c.args.self.now.records.nexts) (c.args.into - half) _ _ (sym read) (c.requires.linked.at_heads (c.args.into - half) inside) in
    record {
      half = refl;
      hashes = refl;
      nexts = refl;
      bins = refl;
      range = last.range;
      there = last.there;
      linked = none_parted old new (c.args.into - half) (λ j. bin_same half c.args.into c.requires.spread c.requires.few (slice_index hashes j))
          (length c.args.self.now.records.nexts) c.at-at.result c.args.self.now.heads.items c.args.self.now.records.nexts c.requires.linked last;
    }

some : (c : After-bin_of) → 0 < c.loop-at.at
some c = elim (cases_lt 0 c.loop-at.at) [ inl lt ↦ lt | inr ge ↦ absurd (c.loop-at-test.true (omega (arith, ge))) ]

-- the position leads to the last one before it in the bin
next_last : (c : After-bin_of) → IsLast (between (bins_of c.args.self.now.half c.args.into c.args.self.now.records.hashes) (bins_of c.args.self.now.half (c.args.into + 1) c.args.self.now.records.hashes) c.loop-at.at)
    (c.loop-at.at - 1) (c.args.into - c.args.self.now.half) c.next-at.result
next_last c =
    let before = c.loop-at.invariant in
    let old : ℕ → ℕ = bins_of c.args.self.now.half c.args.into c.args.self.now.records.hashes in
    let new : ℕ → ℕ = bins_of c.args.self.now.half (c.args.into + 1) c.args.self.now.records.hashes in
    let pos = some c in
    let there : between old new c.loop-at.at (c.loop-at.at - 1) ≡ c.args.into - c.args.self.now.half =
    to_come old new c.loop-at.at (c.loop-at.at - 1) (omega (arith, pos)) ∙ before.there pos in
    let high : c.loop-at.at - 1 < length c.loop-at.self.records.nexts = omega (arith, pos, before.range) in
    let in_range : between old new c.loop-at.at (c.loop-at.at - 1) < length c.loop-at.self.heads.items = omega (arith, there, before.bins, c.requires.bins) in
    last_at (between old new c.loop-at.at) (c.loop-at.at - 1) (c.args.into - c.args.self.now.half) _ _ (sym c.next-at.ensures)
    (last_in (between old new c.loop-at.at) (c.loop-at.at - 1) _ _ _ there (before.linked.at_nexts (c.loop-at.at - 1) high in_range))

-- the bin that was computed
bin_is : (c : After-bin_of) → c.bin_of.result ≡ bins_of c.args.self.now.half (c.args.into + 1) c.args.self.now.records.hashes (c.loop-at.at - 1)
bin_is c =
    let before = c.loop-at.invariant in
    let bins : c.len-bins.result ≡ c.args.into + 1 = c.len-bins.ensures ∙ c.args.self.now.heads.ok.0 ∙ c.requires.bins in
    c.bin_of.ensures.value ∙ ap (λ (n : ℕ). bin_of n c.len-bins.result c.hash-hash.result) before.half ∙ ap (λ (n : ℕ). bin_of c.args.self.now.half n c.hash-hash.result) bins
    ∙ ap (bin_of c.args.self.now.half (c.args.into + 1)) (c.hash-hash.ensures ∙ ap (λ (xs : List ℕ). slice_index xs (c.loop-at.at - 1)) before.hashes)

pub loop-at-preserved-then-bin_of-into : goal.loop-at-preserved-then-bin_of-into
loop-at-preserved-then-bin_of-into c =
    let step = (goal.at.loop-at-preserved-then-bin_of-into c).After-bin_of in
    let before = c.loop-at.invariant in
    let half : ℕ = c.args.self.now.half in
    let hashes : List ℕ = c.args.self.now.records.hashes in
    let old : ℕ → ℕ = bins_of half c.args.into hashes in
    let new : ℕ → ℕ = bins_of half (c.args.into + 1) hashes in
    let same : (j : ℕ) → old j ≢ c.args.into - half → new j ≡ old j = λ j. bin_same half c.args.into c.requires.spread c.requires.few (slice_index hashes j) in
    let pos = some step in
    let last = next_last step in
    let moved = one_moved old new (c.args.into - half) same c.loop-at.at c.next-at.result pos last c.args.into (sym (bin_is step) ∙ c.if-bin_of-into.true) in
    record {
      half = c.move_to.ensures.half ∙ before.half;
      hashes = c.move_to.ensures.hashes ∙ before.hashes;
      nexts = c.move_to.ensures.nexts ∙ before.nexts;
      bins = c.move_to.ensures.bins ∙ before.bins;
      range = omega (arith, last.range, before.range, c.move_to.ensures.nexts, pos);
      there = next_there old new (c.args.into - half) same c.loop-at.at c.next-at.result pos last;
      linked = c.move_to.ensures.linked (between old new c.loop-at.at) (between old new c.next-at.result) before.linked
          (to_come old new c.loop-at.at (c.loop-at.at - 1) (omega (arith, pos)) ∙ before.there pos) moved;
    }

pub loop-at-preserved : goal.loop-at-preserved
loop-at-preserved c =
    let step = (goal.at.loop-at-preserved c).After-bin_of in
    let before = c.loop-at.invariant in
    let half : ℕ = c.args.self.now.half in
    let hashes : List ℕ = c.args.self.now.records.hashes in
    let old : ℕ → ℕ = bins_of half c.args.into hashes in
    let new : ℕ → ℕ = bins_of half (c.args.into + 1) hashes in
    let same : (j : ℕ) → old j ≢ c.args.into - half → new j ≡ old j = λ j. bin_same half c.args.into c.requires.spread c.requires.few (slice_index hashes j) in
    let pos = some step in
    let last = next_last step in
    let there = before.there pos in
    let stays : new (c.loop-at.at - 1) ≡ old (c.loop-at.at - 1) =
    bin_parted half c.args.into c.requires.spread c.requires.few (slice_index hashes (c.loop-at.at - 1)) there (λ e. c.if-bin_of-into.false (bin_is step ∙ e)) ∙ sym there in
    record {
      half = before.half;
      hashes = before.hashes;
      nexts = before.nexts;
      bins = before.bins;
      range = omega (arith, last.range, before.range, pos);
      there = next_there old new (c.args.into - half) same c.loop-at.at c.next-at.result pos last;
      linked = one_stays old new (c.args.into - half) same c.loop-at.at c.next-at.result pos last
          (length c.loop-at.self.records.nexts) c.loop-at.self.heads.items c.loop-at.self.records.nexts stays before.linked;
    }
