use Rattle.std.proofs.Common.{List, ℕ, [], ◌∷◌, ◌++◌, take, refl, sym, ap, subst, ◌∙◌}
use Rattle.std.proofs.lemmas.List.{take_more, take_all}
use Rattle.key_walks.specs.Turns.{Chain}
use Rattle.key_walks.specs.Walks.{Removes}
use Rattle.key_walks.proofs.ChainLemmas.{same_map, same_on, chain_more}
use Rattle.key_walks.proofs.clearing.remove_each.Goals as goal

pub loop-key-init : goal.loop-key-init
loop-key-init g c = record { map = refl; same = same_map c.args.pass.now; done = refl }

pub loop-key-preserved : goal.loop-key-preserved
loop-key-preserved g c =
    let p = c.args.pass.now in
    let q = c.loop-key.pass in
    let r = c.remove.new.pass in
    let e = c.remove.ensures in
    let inv = c.loop-key.invariant in
    let keys = c.args.keys.now in
    let i = c.loop-key.key-index in
    let key = c.key-item.result in
    let next = take_more keys i key c.loop-key-test.true ∙ ap (λ (k : List ℕ). take i keys ++ k ∷ []) (sym c.key-item.is) in
    record {
      map = e.same.map ∙ inv.map;
      same = same_on p q r inv.same e.same;
      done = subst (λ (ks : List (List ℕ)). Chain Removes p ks r) (sym next) (chain_more Removes p q r (take i keys) key inv.done e.same e.removes);
    }

pub returns-clause-removes : goal.returns-clause-removes
returns-clause-removes g c =
    subst (λ (ks : List (List ℕ)). Chain Removes c.args.pass.now ks c.loop-key.pass) (take_all c.loop-key.key-index c.args.keys.now c.loop-key-test.false) c.loop-key.invariant.done
