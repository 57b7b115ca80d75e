use Rattle.std.proofs.Common.{◌≡◌, ◌<◌, ◌+◌, ◌++◌, ◌∷◌, [], ℕ, length, set, sym, ap, subst, ◌∙◌}
use Rattle.std.proofs.lemmas.List.{get_or_read, length-set, length_push}
use Rattle.bins.specs.Chains.{AreSpread, bin_of}
use Rattle.bins.proofs.ChainEdits.{links_added}
use Rattle.bins.proofs.index.Chains.add.Goals as goal

pub returns-clause-chained : goal.returns-clause-chained
returns-clause-chained c =
    let before = c.requires.chained in
    let bins : c.len.result ≡ length c.args.self.now.heads.items = c.len.ensures ∙ c.args.self.now.heads.ok.0 in
    let bin : c.bin_of-bin.result ≡ bin_of c.args.self.now.half (length c.args.self.now.heads.items) c.args.hash =
    c.bin_of-bin.ensures.value ∙ ap (λ (n : ℕ). bin_of c.args.self.now.half n c.args.hash) bins in
    let range : c.bin_of-bin.result < length c.args.self.now.heads.items = subst (λ (n : ℕ). c.bin_of-bin.result < n) bins c.bin_of-bin.ensures.range in
    let pushed = c.in_ok-push.ensures.ok_hashes in
    let read = c.copied.ensures ∙ get_or_read c.args.self.now.heads.items c.bin_of-bin.result c.index.result.now range c.index.ensures 0 in
    let next_pushed = c.in_ok-push.ensures.ok_nexts ∙ ap (λ (x : ℕ). c.args.self.now.records.nexts ++ x ∷ []) read in
    record {
      spread = subst (AreSpread c.args.self.now.half) (sym (length-set c.args.self.now.heads.items c.bin_of-bin.result c.new.result)) before.spread;
      long = ap length next_pushed ∙ length_push _ _ ∙ ap (λ (n : ℕ). n + 1) before.long ∙ sym (ap length pushed ∙ length_push _ _);
      links = links_added c.args.self.now.half c.args.hash c.bin_of-bin.result c.args.self.now.heads.items c.args.self.now.records.hashes c.args.self.now.records.nexts
          c.push.new.self.hashes c.push.new.self.nexts (set c.args.self.now.heads.items c.bin_of-bin.result c.new.result)
          before.links before.long bin range pushed next_pushed (ap (set c.args.self.now.heads.items c.bin_of-bin.result) (c.new.ensures ∙ c.len-2.ensures.nexts));
    }
