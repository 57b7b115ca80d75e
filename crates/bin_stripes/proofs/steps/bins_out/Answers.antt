use Rattle.std.proofs.Common.{◌∷◌, Some, sym, ap, ◌∙◌}
use Rattle.atomic_table.specs.Table.{rest}
use Rattle.bin_stripes.proofs.steps.bins_out.Goals as goal

pub exchange-requires : goal.exchange-requires
exchange-requires g c = let held = c.requires.held in
    (c.requires.table, (Some held.bins, held.out ∙ ap (λ l. (c.args.stripe, Some held.bins) ∷ l) (sym (ap rest held.out))))
