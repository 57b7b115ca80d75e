use Rattle.std.proofs.Common.{refl}
use Rattle.bins.proofs.RoomLemmas.{kept_new}
use Rattle.bins.proofs.raw_rows.RawRows.new.Goals as goal

pub returns-clause-kept : goal.returns-clause-kept
returns-clause-kept c = kept_new _ c.new.ensures.items c.new-2.ensures.items c.new-3.ensures.items refl
