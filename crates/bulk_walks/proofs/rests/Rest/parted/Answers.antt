use Rattle.std.proofs.Common.{List, ℕ, take, drop, sym, ap, ◌∙◌}
use Rattle.bulk_walks.specs.Leads.{leads_in}
use Rattle.bulk_walks.proofs.HalfLemmas.{leads_front, leads_back}
use Rattle.bulk_walks.proofs.rests.Rest.parted.Goals as goal

pub of-front-requires : goal.of-front-requires
of-front-requires c =
    let rest = c.self.inside in
    let es = rest.items.now in
    let n = rest.next in
    let m = c.count_before-before.result in
    record {
      led = c.split_at-4.ensures.front ∙ ap (λ (ls : List ℕ). take m ls) c.split_at-2.ensures.back ∙ leads_front es rest.order.now rest.leads.now c.self.invariant.1 n m
          ∙ ap (λ (ps : List ℕ). leads_in es ps) (sym (c.split_at-3.ensures.front ∙ ap (λ (ps : List ℕ). take m ps) c.split_at.ensures.back));
    }

pub of-requires : goal.of-requires
of-requires c =
    let rest = c.self.inside in
    let es = rest.items.now in
    let n = rest.next in
    let m = c.count_before-before.result in
    record {
      led = c.split_at-4.ensures.back ∙ ap (λ (ls : List ℕ). drop m ls) c.split_at-2.ensures.back ∙ leads_back es rest.order.now rest.leads.now c.self.invariant.1 n m
          ∙ ap (λ (ps : List ℕ). leads_in es ps) (sym (c.split_at-3.ensures.back ∙ ap (λ (ps : List ℕ). drop m ps) c.split_at.ensures.back));
    }
