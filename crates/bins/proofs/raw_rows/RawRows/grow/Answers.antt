use Rattle.std.proofs.Common.{◌∙◌}
use Rattle.bins.proofs.RoomLemmas.{same_lists}
use Rattle.bins.proofs.raw_rows.RawRows.grow.Goals as goal

pub returns-in_err-widen-clause-rows : goal.returns-in_err-widen-clause-rows
returns-in_err-widen-clause-rows c = same_lists c.open.new.self.widths.items c.widen.new.widths.items c.widen.ensures.wider ∙ c.open.ensures.rows

pub returns-in_err-added-clause-rows : goal.returns-in_err-added-clause-rows
returns-in_err-added-clause-rows c = same_lists c.open.new.self.widths.items c.widen.new.widths.items c.widen.ensures.wider ∙ c.open.ensures.rows

pub returns-clause-rows : goal.returns-clause-rows
returns-clause-rows c = same_lists c.open.new.self.widths.items c.widen.new.widths.items c.widen.ensures.wider ∙ c.open.ensures.rows
