use Rattle.std.proofs.Common.{ℕ, ◌≡◌, ◌-◌, length, take, map, ap, sym, ◌∙◌, arith}
use Rattle.std.proofs.lemmas.List.{take-map, length-map}
use Rattle.bins.specs.declared.index.Record.{Record}
use Rattle.bins.proofs.index.Records.remove_last.Goals as goal
use Rattle.bins.proofs.index.Records.remove_last.Goals.{After-truncate}

pub returns-clause-hashes : goal.returns-clause-hashes
returns-clause-hashes c = rw (← c.self.view_is) (
    let many : c.saturating_sub.result ≡ length (map (λ (kept : Record). kept.hash) c.self.inside.list.items) - 1 =
    omega (arith, c.saturating_sub.ensures, c.len.ensures, c.self.inside.list.ok.0, length-map c.self.inside.list.items (λ (kept : Record). kept.hash)) in
    ap (map (λ (kept : Record). kept.hash)) c.truncate.ensures.items
    ∙ sym (take-map (λ (kept : Record). kept.hash) c.saturating_sub.result c.self.inside.list.items)
    ∙ ap (λ (n : ℕ). take n (map (λ (kept : Record). kept.hash) c.self.inside.list.items)) many)

pub returns-clause-nexts : goal.returns-clause-nexts
returns-clause-nexts c = rw (← c.self.view_is) (
    let many : c.saturating_sub.result ≡ length (map (λ (kept : Record). kept.next) c.self.inside.list.items) - 1 =
    omega (arith, c.saturating_sub.ensures, c.len.ensures, c.self.inside.list.ok.0, length-map c.self.inside.list.items (λ (kept : Record). kept.next)) in
    ap (map (λ (kept : Record). kept.next)) c.truncate.ensures.items
    ∙ sym (take-map (λ (kept : Record). kept.next) c.saturating_sub.result c.self.inside.list.items)
    ∙ ap (λ (n : ℕ). take n (map (λ (kept : Record). kept.next) c.self.inside.list.items)) many)
