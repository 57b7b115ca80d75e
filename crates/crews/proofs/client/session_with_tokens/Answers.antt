use Rattle.std.proofs.Common.{◌≡◌, ◌∙◌, refl, sym, ap, subst, All, false, is_some}
use Rattle.atomic_table.specs.Seated.{TableId}
use Rattle.bin_stripes.specs.declared.pass.Pass.{Pass}
use Rattle.crews.specs.Crews.{team_numbers, station}
use Rattle.crews.specs.Stations.{Station, no_tokens, tokens_of}
use Rattle.crews.proofs.NumberLemmas.{ended_as, ended_same, station_same}
use Rattle.crews.proofs.client.session_with_tokens.Goals as goal

pub returns-clause-crew : goal.returns-clause-crew
returns-clause-crew g c =
    let (read, (written, (consumed, (appended, ended)))) = c.run_session-end.ensures.ended in
    let s = ended_same _ _ read _ written _ ended in
    let pass = ap (λ (t : Station). t.pass.map) c.serving.view_is ∙ s.map ∙ c.requires.crew.pass in
    let here : c.serving.inside.map.now ≡ c.args.worker.now.map.now = sym c.serving.invariant.0 ∙ pass in
    record {
      pass = pass;
      team = subst (λ ps. All (λ (member : Pass). member.map ≡ c.args.worker.now.map.now) ps.items) (sym c.in-Ok.ensures.team)
          (subst (λ (id : TableId). All (λ (member : Pass). member.map ≡ id) c.serving.inside.team.items) here c.serving.invariant.1);
    }

pub returns-clause-same : goal.returns-clause-same
returns-clause-same g c =
    let (read, (written, (consumed, (appended, ended)))) = c.run_session-end.ensures.ended in
    let s = ended_same _ _ read _ written _ ended in
    record {
      worker = refl;
      pass = ap (λ (t : Station). t.pass.view.numbers) c.serving.view_is ∙ s.pass;
      team = ap (λ ps. team_numbers ps.items) c.in-Ok.ensures.team ∙ ap (λ (t : Station). team_numbers t.team) c.serving.view_is ∙ s.team ∙ ap (λ ps. team_numbers ps.items) c.into_passes.ensures;
    }

pub returns-clause-registry : goal.returns-clause-registry
returns-clause-registry g c =
    let (read, (written, (consumed, (appended, ended)))) = c.run_session-end.ensures.ended in
    let s = ended_same _ _ read _ written _ ended in
    ap (λ (t : Station). t.tokens.registry) c.serving.view_is ∙ s.registry

-- it is not strict, at its end either
pub returns-clause-ended : goal.returns-clause-ended
returns-clause-ended g c =
    let (read, (written, (consumed, (appended, ended)))) = c.run_session-end.ensures.ended in
    let s = ended_same _ _ read _ written _ ended in
    let last = c.serving.inside in
    let tokens = tokens_of last.registry.now last.tokens.items in
    let strict : is_some last.strict ≡ false = ap (λ (t : Station). t.is_strict) c.serving.view_is ∙ s.strict in
    let end : Station = record { pass = last.pass; team = c.in-Ok.team.passes.items; tokens = tokens; is_strict = false } in
    let ends = station_same end (record { pass = last.pass; team = last.team.items; tokens = tokens; is_strict = is_some last.strict }) refl (ap (λ ps. ps.items) c.in-Ok.ensures.team) refl (sym strict) ∙ c.serving.view_is in
    let registry = c.args.worker.now.registry.now in
    let start : Station = record { pass = c.args.crew.pass; team = c.into_passes.result.items; tokens = tokens_of registry c.new.result.items; is_strict = false } in
    let begins = station_same start (station c.args.crew (no_tokens registry)) refl (ap (λ ps. ps.items) c.into_passes.ensures) (ap (λ ts. tokens_of registry ts) c.new.ensures.items) refl in
    (read, (written, (consumed, (appended, ended_as _ _ _ read _ written _ end begins ends ended))))
