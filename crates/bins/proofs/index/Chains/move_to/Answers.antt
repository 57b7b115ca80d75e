use Rattle.std.proofs.Common.{◌≡◌, ◌+◌, ◌-◌, ℕ, List, length, set, ap, ◌∙◌, arith}
use Rattle.bins.specs.Chains.{Links, heads_relinked, nexts_relinked}
use Rattle.bins.proofs.ChainEdits.{hidden, moved_out, moved_in, length-heads_relinked, length-nexts_relinked}
use Rattle.bins.proofs.index.Chains.move_to.Goals as goal
use Rattle.bins.proofs.index.Chains.move_to.Goals.{After-relink}

-- the position was taken out of its chain
taken_out : (c : After-relink) (bin : ℕ → ℕ) → Links bin (length c.args.self.now.records.nexts) c.args.self.now.heads.items c.args.self.now.records.nexts → bin (c.args.at - 1) ≡ c.args.from
    → Links (hidden bin (c.args.at - 1) (length c.args.self.now.heads.items)) (length c.relink.new.self.records.nexts) c.relink.new.self.heads.items c.relink.new.self.records.nexts
taken_out c bin is e = moved_out bin c.args.self.now.heads.items c.args.self.now.records.nexts c.relink.new.self.heads.items c.relink.new.self.records.nexts (c.args.at - 1) c.args.from c.copied-next.result c.link_to-old_link.result
    is (omega (arith, c.requires.some, c.requires.range)) e c.requires.from (c.copied-next.ensures ∙ c.link.ensures.value) (c.link_to-old_link.ensures.leads bin is) c.relink.ensures.value.heads c.relink.ensures.value.nexts

pub link_to-old_link-requires-clause-linked : goal.link_to-old_link-requires-clause-linked
link_to-old_link-requires-clause-linked c = (c.requires.linked.0, c.requires.linked.1)

pub link_to-new_link-requires-clause-linked : goal.link_to-new_link-requires-clause-linked
link_to-new_link-requires-clause-linked c = (
  hidden c.requires.linked.0 (c.args.at - 1) (length c.args.self.now.heads.items),
  taken_out (goal.at.link_to-new_link-requires-clause-linked c).After-relink c.requires.linked.0 c.requires.linked.1 c.requires.linked.2,
)

-- and linked in at its new place
pub returns-clause-linked : goal.returns-clause-linked
returns-clause-linked c = λ bin new is e moved.
    let heads_out : length c.relink.new.self.heads.items ≡ length c.args.self.now.heads.items =
    ap length c.relink.ensures.value.heads ∙ length-heads_relinked c.link_to-old_link.result c.copied-next.result c.args.self.now.heads.items in
    let nexts_out : length c.relink.new.self.records.nexts ≡ length c.args.self.now.records.nexts =
    ap length c.relink.ensures.value.nexts ∙ length-nexts_relinked c.link_to-old_link.result c.copied-next.result c.args.self.now.records.nexts in
    let out = taken_out (goal.at.returns-clause-linked c).After-relink bin is e in
    let place : c.new.result ≡ c.args.at - 1 + 1 = c.new.ensures ∙ omega (arith, c.requires.some) in
    moved_in bin new (length c.args.self.now.heads.items) c.relink.new.self.heads.items c.relink.new.self.records.nexts c.relink-2.new.self.heads.items c.relink-2.new.self.records.nexts
    (c.args.at - 1) c.args.into c.follow-after.result c.link_to-new_link.result out heads_out (omega (arith, nexts_out, c.requires.some, c.requires.range))
    c.requires.into moved.here moved.others c.follow-after.ensures.value (c.link_to-new_link.ensures.leads _ out)
    (c.relink-2.ensures.value.heads ∙ ap (λ (n : ℕ). heads_relinked c.link_to-new_link.result n c.relink.new.self.heads.items) place)
    (c.relink-2.ensures.value.nexts ∙ ap (λ (xs : List ℕ). nexts_relinked c.link_to-new_link.result c.new.result xs) c.set_next.ensures.nexts
    ∙ ap (λ (n : ℕ). nexts_relinked c.link_to-new_link.result n (set c.relink.new.self.records.nexts (c.args.at - 1) c.follow-after.result)) place)
