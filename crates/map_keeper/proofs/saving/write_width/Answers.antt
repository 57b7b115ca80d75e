use Rattle.std.proofs.Common.{inl, inr, refl}
use Rattle.sqlite.specs.Held.{state}
use Rattle.map_keeper.proofs.WriteLemmas.{clean_before, kept_then, on_ok, others_one, others_then}
use Rattle.map_keeper.proofs.saving.write_width.Goals as goal

-- the setting after the stripes
pub returns-clause-wrote : goal.returns-clause-wrote
returns-clause-wrote g c clean =
    on_ok c.set_stripes.result _ _
    (λ made. others_then (state g.S.Store) c.args.stripes c.args.save.now.conn.now c.drop_stripes.new.save.conn.now c.set_stripes.new.save.conn.now
    (c.in_ok-drop_stripes.ensures.wrote (clean_before _ _ _ c.set_stripes.ensures.kept clean))
    (others_one (state g.S.Store) c.args.stripes _ c.drop_stripes.new.save.conn.now c.set_stripes.new.save.conn.now (inr (inl (c.args.stripes, refl))) made))
    (c.set_stripes.ensures.made clean)

pub returns-clause-kept : goal.returns-clause-kept
returns-clause-kept g c = kept_then _ _ _ c.drop_stripes.ensures.kept c.set_stripes.ensures.kept
