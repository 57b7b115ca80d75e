-- The crews of a server, one after the other.
use Rattle.std.proofs.Common.{◌≡◌, ◌∙◌, ◌+◌, ◌++◌, ℕ, suc, List, [], ◌∷◌, vec_len, sym, ap, subst, arith}
use Rattle.std.proofs.lemmas.List.Elements.{All-push}
use Rattle.stripe_rule.specs.Rule.{from_on}
use Rattle.std.proofs.lemmas.List.{map-append}
use Rattle.bin_stripes.proofs.OpenedLemmas.{from_on-more}
use Rattle.crews.specs.declared.crew.Crew.{Crew}
use Rattle.map_server.specs.Servers.{AreAsked}

-- with one more crew, whose worker has the next number
pub next_asked : (workers team : ℕ) (crews news : List Crew) (crew : Crew) → AreAsked workers team crews → crew.worker ≡ workers
    → vec_len crew.team.passes ≡ team → news ≡ crews ++ crew ∷ [] → AreAsked (workers + 1) team news
next_asked workers team crews news crew asked number members is =
    let same : crew.worker ≡ 0 + workers = omega (arith, number) in
    let next : suc workers ≡ workers + 1 = omega arith in
    subst (λ (all : List Crew). AreAsked (workers + 1) team all) (sym is) (record {
      numbered =
          map-append (λ (c : Crew). c.worker) crews (crew ∷ [])
          ∙ (ap (λ (ns : List ℕ). ns ++ crew.worker ∷ []) asked.numbered
          ∙ (ap (λ (n : ℕ). from_on 0 workers ++ n ∷ []) same ∙ (sym (from_on-more 0 workers) ∙ ap (from_on 0) next)));
      teams = All-push (λ (c : Crew). vec_len c.team.passes ≡ team) crews crew asked.teams members;
    })
