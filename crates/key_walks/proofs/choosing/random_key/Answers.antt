use Rattle.std.proofs.Common.{◌≡◌, [], refl, sym, ap, subst, ◌∙◌}
use Rattle.atomic_table.specs.Seated.{TableId}
use Rattle.bin_stripes.specs.Passes.{stripes_of}
use Rattle.key_walks.specs.Expired.{FindsLive, StopsLive}
use Rattle.key_walks.specs.Walks.{each_from}
use Rattle.key_walks.proofs.ChainLemmas.{same_map, same_on, on_err}
use Rattle.key_walks.proofs.ChoiceLemmas.{empty_none, empty_more, empty_stops}
use Rattle.key_walks.proofs.choosing.random_key.Goals as goal

pub loop-turn-init : goal.loop-turn-init
loop-turn-init g c = record { map = refl; same = same_map c.args.pass.now; done = empty_none c.args.now (stripes_of c.args.pass.now.map) c.args.number c.args.pass.now }

pub loop-turn-preserved : goal.loop-turn-preserved
loop-turn-preserved g c =
    let p = c.args.pass.now in
    let q = c.loop-turn.pass in
    let r = c.live_keys.new.pass in
    let e = c.in_ok-keys.ensures in
    let inv = c.loop-turn.invariant in
    let whole = c.stripes-stripes.ensures.value ∙ sym (ap (λ (m : TableId). stripes_of m) c.requires.map) in
    let none : c.in_ok-keys.keys.items ≡ [] = sym c.deref.ensures.value ∙ c.in_default.ensures in
    record {
      map = e.same.map ∙ inv.map;
      same = same_on p q r inv.same e.same;
      done = empty_more c.args.now (stripes_of p.map) c.args.number c.loop-turn.turn _ p q r c.in_ok-keys.keys.items inv.done e.same
          (ap (λ s. each_from s c.args.number c.loop-turn.turn) whole) e.ok none;
    }

pub returns-in_err-keys-clause-err : goal.returns-in_err-keys-clause-err
returns-in_err-keys-clause-err g c =
    let p = c.args.pass.now in
    let table = ap (λ (m : TableId). stripes_of m) c.requires.map in
    let whole = c.stripes-stripes.ensures.value ∙ sym table in
    on_err _ (subst (λ s. StopsLive c.args.now (FindsLive c.args.now) (each_from s c.args.number) p c.live_keys.new.pass) table
    (empty_stops c.args.now (stripes_of p.map) c.args.number c.loop-turn.turn _ p c.loop-turn.pass c.live_keys.new.pass c.loop-turn.invariant.done
    (ap (λ s. each_from s c.args.number c.loop-turn.turn) whole) c.in_err-keys.ensures.err))
