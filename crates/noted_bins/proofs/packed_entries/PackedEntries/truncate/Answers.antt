use Rattle.std.proofs.Common.{map, take, ap, ◌∙◌}
use Rattle.noted_bins.specs.Packed.{entry_at}
use Rattle.noted_bins.proofs.PackedLemmas.{map_take}
use Rattle.noted_bins.proofs.packed_entries.PackedEntries.truncate.Goals as goal

pub returns : goal.returns
returns c =
    ap (map (entry_at c.self.inside.bytes.items)) c.truncate.ensures.items
    ∙ map_take (entry_at c.self.inside.bytes.items) c.args.many c.self.inside.places.items ∙ ap (take c.args.many) c.self.view_is
