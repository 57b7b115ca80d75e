use Rattle.std.proofs.Common.{inl, inr, ap, sym, subst, ◌∙◌}
use Rattle.map_server.specs.Servers.{HasPorts}
use Rattle.map_server.proofs.ServerRunLemmas.{has_listener}
use Rattle.map_server.proofs.program.serve_bound.Goals as goal

pub returns-in-Err : goal.returns-in-Err
returns-in-Err g c = inl c.tell_not_restored.ensures

-- it is ready as it was asked for
pub returns : goal.returns
returns g c =
    let asked = c.requires.asked in
    let watched = has_listener g.K.Binder.bound c.args.asked.now.metrics c.args.bound.0.metrics c.requires.ports.metrics in
    inr (elim c.serve_ready-status.ensures [
      | inl unprinted ↦ inl unprinted
      | inr ended ↦
          let was = ended.2 in
          let terms = was.terms in
          inr (
            c.args.bound.1,
            ended.0,
            c.args.bound.0.metrics,
            asked,
            record {
              sessions = terms.sessions ∙ asked.sessions;
              clients = ap (λ limits. limits.clients) terms.limits ∙ asked.clients;
              idle = ap (λ limits. limits.idle) terms.limits ∙ asked.idle;
              slow = ap (λ limits. limits.slow) terms.limits ∙ asked.slow;
              memory = ap (λ limits. limits.session_bytes) terms.limits ∙ asked.memory;
              strict = ap (λ limits. limits.is_strict) terms.limits ∙ asked.strict;
              password = terms.password ∙ c.requires.password;
              keeps = terms.keeps ∙ c.in-Ok.ensures.keeps;
              watches = terms.watches ∙ (c.of.ensures.there (watched ∙ sym asked.watcher) ∙ asked.watcher);
            },
            subst (λ ports. HasPorts g.K.Binder.bound c.args.asked.now ports c.args.bound.0.metrics) (sym was.ports) c.requires.ports,
            c.requires.password,
            (ended.1, ended.3, ended.4),
          )
    ])
