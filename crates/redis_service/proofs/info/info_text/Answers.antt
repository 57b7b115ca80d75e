use Rattle.std.proofs.Common.{◌≡◌, ℕ, List, IfOk, codes, ap, subst, ◌∙◌}
use Rattle.redis_commands.specs.Commands.{texts}
use Rattle.redis_service.specs.Info as spec
use Rattle.redis_service.specs.Info.{shown, shown_more, info_text}
use Rattle.redis_service.specs.Server.{joined}
use Rattle.redis_service.proofs.InfoLemmas.{all_parts}
use Rattle.redis_service.proofs.info.info_text.Goals as goal

pub returns : goal.returns
unfolding info_text
returns c all calls =
    let words : List (List ℕ) = texts c.args.words.now in
    let info = c.args.info.now in
    let s1 : c.shown.result.now ≡ shown (codes "server") words (spec.server info) =
    c.shown.ensures ∙ ap (λ (t : List ℕ). shown (codes "server") words t) (c.deref.ensures.value ∙ c.in_ok-server.ensures) in
    let s2 : c.shown-2.result.now ≡ shown (codes "clients") words (spec.clients info) =
    c.shown-2.ensures ∙ ap (λ (t : List ℕ). shown (codes "clients") words t) (c.deref-2.ensures.value ∙ c.in_ok-clients.ensures) in
    let s3 : c.shown-3.result.now ≡ shown (codes "memory") words (spec.memory info) =
    c.shown-3.ensures ∙ ap (λ (t : List ℕ). shown (codes "memory") words t) (c.deref-3.ensures.value ∙ c.in_ok-memory.ensures) in
    let s4 : c.shown-4.result.now ≡ shown (codes "persistence") words (spec.persistence info) =
    c.shown-4.ensures ∙ ap (λ (t : List ℕ). shown (codes "persistence") words t) (c.deref-4.ensures.value ∙ c.in_ok-persistence.ensures) in
    let s5 : c.shown-5.result.now ≡ shown (codes "stats") words (spec.stats info) =
    c.shown-5.ensures ∙ ap (λ (t : List ℕ). shown (codes "stats") words t) (c.deref-5.ensures.value ∙ c.in_ok-stats.ensures) in
    let s6 : c.shown-6.result.now ≡ shown (codes "replication") words spec.replication = c.shown-6.ensures in
    let s7 : c.shown_more.result.now ≡ shown_more (codes "commandstats") words (spec.command_stats all) =
    c.shown_more.ensures ∙ ap (λ (t : List ℕ). shown_more (codes "commandstats") words t) (c.deref-6.ensures.value ∙ c.in_ok-commands.ensures all calls) in
    let s8 : c.shown-7.result.now ≡ shown (codes "errorstats") words (spec.error_stats info) =
    c.shown-7.ensures ∙ ap (λ (t : List ℕ). shown (codes "errorstats") words t) (c.deref-7.ensures.value ∙ c.in_ok-errors.ensures) in
    let s9 : c.shown-8.result.now ≡ shown (codes "keyspace") words (spec.keyspace info) =
    c.shown-8.ensures ∙ ap (λ (t : List ℕ). shown (codes "keyspace") words t) (c.deref-8.ensures.value ∙ c.in_ok-keyspace.ensures) in
    subst (λ (parts : List (List ℕ)). IfOk c.joined.result (λ text. text.items ≡ joined parts))
    (all_parts _ _ _ _ _ _ _ _ _ _ _ _ _ _ _ _ _ _ s1 s2 s3 s4 s5 s6 s7 s8 s9) c.joined.ensures
