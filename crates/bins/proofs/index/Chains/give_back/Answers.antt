use Rattle.std.proofs.Common.{◌≡◌, ◌≤◌, ℕ, List, length, take, slice_index, refl, sym, ap, ◌∙◌, arith}
use Rattle.std.proofs.lemmas.List.{length-take-le}
use Rattle.bins.specs.Records.{Recorded}
use Rattle.bins.specs.Chains.{bins_of}
use Rattle.bins.proofs.ChainLemmas.{links_none, none_lead}
use Rattle.bins.proofs.index.Chains.give_back.Goals as goal

-- no head that is left leads anywhere
pub returns-clause-chained : goal.returns-clause-chained
returns-clause-chained c =
    let before = c.requires.chained in
    let heads : List ℕ = c.args.self.now.heads.items in
    let many : 8 ≤ length heads = omega (arith, before.spread.some, before.spread.least) in
    let cut : c.shrink_to_fit.new.self.items ≡ take 8 heads = c.shrink_to_fit.ensures.items ∙ c.truncate.ensures.items in
    let bins : length c.shrink_to_fit.new.self.items ≡ 8 = ap length cut ∙ length-take-le 8 heads many in
    let none : length c.give_back.new.self.hashes ≡ 0 = ap (λ (r : Recorded). length r.hashes) c.give_back.ensures.same ∙ c.requires.empty in
    record {
      spread = record { power = (3, refl); some = omega arith; least = omega (arith, bins); most = omega (arith, bins); bounded = omega arith };
      long = ap (λ (r : Recorded). length r.nexts) c.give_back.ensures.same ∙ before.long ∙ sym (ap (λ (r : Recorded). length r.hashes) c.give_back.ensures.same);
      links = links_none (bins_of 8 (length c.shrink_to_fit.new.self.items) c.give_back.new.self.hashes) _ _ _ none
          (λ b. ap (λ (xs : List ℕ). slice_index xs b) cut ∙ none_lead _ _ 8 heads _ before.links c.requires.empty many b);
    }
