use Rattle.std.proofs.Common.{sym, subst, ◌∙◌, List, ℕ, Result, IfOk}
use Rattle.bpf_model.specs.declared.memory.NoMemory.{NoMemory}
use Rattle.redis_service.specs.Clients.{AreLines, IsOwn}
use Rattle.redis_service.proofs.ClientLemmas.{nobody, after_line}
use Rattle.redis_service.proofs.clients.own_lines.Goals as goal

pub returns : goal.returns
returns g c =
    let now = c.args.moment.now.time in
    let Own = IsOwn c.args.talk.now in
    subst (λ (r : Result (Unit {0}) NoMemory). IfOk r (λ _. AreLines Own now c.add_line.new.text.items)) c.in_ok-add_line.was
    (after_line Own now c.new-text.result.items c.add_line.new.text.items c.own_view-view.result c.name.result.now c.add_line.result
    (subst (λ (t : List ℕ). AreLines Own now t) (sym c.new-text.ensures.items) (nobody Own now))
    (λ command. (c.own_view-view.ensures ∙ c.number.ensures, c.name.ensures)) c.add_line.ensures)
