use Rattle.std.proofs.Common.{arith, sym, subst, List, ℕ, ◌<◌, length, Result, IfOk, Bor}
use Rattle.std.proofs.lemmas.List.{get_or-map}
use Rattle.bpf_model.specs.declared.memory.NoMemory.{NoMemory}
use Rattle.redis_commands.specs.Commands.{texts}
use Rattle.redis_commands.proofs.LimitLemmas.{length_texts}
use Rattle.redis_commands.proofs.OptionLemmas.{nothing}
use Rattle.redis_service.specs.Clients.{AreLines, IsNamed}
use Rattle.redis_service.proofs.ClientLemmas.{nobody}
use Rattle.redis_service.proofs.clients.named_lines.Goals as goal

pub loop-word-init : goal.loop-word-init
loop-word-init g c =
    let words = texts c.args.words.now in
    subst (λ (t : List ℕ). AreLines (IsNamed words) c.args.moment.now.time t) (sym c.new-text.ensures.items) (nobody (IsNamed words) c.args.moment.now.time)

pub loop-word-preserved : goal.loop-word-preserved
loop-word-preserved g c =
    let words = texts c.args.words.now in
    let k = c.loop-word.word-index in
    let below : k < length c.args.words.now = omega arith in
    let inside : k < length words = omega (arith, below, length_texts c.args.words.now) in
    subst (λ (r : Result (Unit {0}) NoMemory). IfOk r (λ _. AreLines (IsNamed words) c.args.moment.now.time c.add_named.new.text.items)) c.in_ok-add_named.was
    (c.add_named.ensures words k inside (get_or-map (λ (w : Bor (List ℕ)). w.now) c.args.words.now k nothing nothing.now below) c.loop-word.invariant)
