use Rattle.std.proofs.Common.{◌∙◌, Bool, if◌then◌else◌, [], ◌∷◌, OnOk, sym, subst}
use Rattle.sqlite.specs.Held.{state}
use Rattle.kept_file.specs.Steps.{clearing}
use Rattle.map_keeper.specs.Written.{MakesAll}
use Rattle.map_keeper.proofs.WriteLemmas.{makes_none, makes_one, on_ok, survives_same}
use Rattle.map_keeper.proofs.taker.write_start.Goals as goal

-- only rows of some keys come
pub returns-then-not-begins_anew-clause-made : goal.returns-then-not-begins_anew-clause-made
returns-then-not-begins_anew-clause-made g c clean =
    subst (λ (anew : Bool). MakesAll (state g.S.Store) (if anew then clearing c.args.stripe ∷ [] else []) c.args.save.now.conn.now c.args.save.now.conn.now)
    (sym (sym c.begins_anew.ensures ∙ c.if-not-begins_anew.true)) (makes_none (state g.S.Store) c.args.save.now.conn.now)

pub returns-then-not-begins_anew-clause-kept : goal.returns-then-not-begins_anew-clause-kept
returns-then-not-begins_anew-clause-kept g c = survives_same _

-- the stripe begins anew
pub returns-clause-made : goal.returns-clause-made
returns-clause-made g c clean =
    subst (λ (anew : Bool). OnOk c.start_anew.result (MakesAll (state g.S.Store) (if anew then clearing c.args.stripe ∷ [] else []) c.args.save.now.conn.now c.start_anew.new.save.conn.now))
    (sym (sym c.begins_anew.ensures ∙ c.if-not-begins_anew.false))
    (on_ok c.start_anew.result _ _ (makes_one (state g.S.Store) (clearing c.args.stripe) c.args.save.now.conn.now c.start_anew.new.save.conn.now) (c.start_anew.ensures.made clean))
