use Rattle.std.proofs.Common.{◌≡◌, ◌+◌, ◌++◌, length, take}
use Rattle.bins.specs.Rows.{AreIn, IsRoomy, keys_in, values_in}
use Rattle.bins.proofs.raw_rows.RawRows.push_all.Given as goal

-- the strings so far were added, and there is as much room as there was
abbrev pub invariant-loop-position : goal.invariant-loop-position
invariant-loop-position l = record {
  rows : AreIn l.self;
  keys : keys_in l.self ≡ keys_in l.fn.self ++ take l.position (keys_in l.other);
  values : values_in l.self ≡ values_in l.fn.self ++ take l.position (values_in l.other);
  counted : length l.self.locations.items ≡ length l.fn.self.locations.items + l.position;
  room : IsRoomy l.self;
  same : l.self.room ≡ l.fn.self.room;
}
