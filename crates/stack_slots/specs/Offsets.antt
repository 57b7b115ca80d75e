-- How far pointers reach. Our profile of RFC 9669.
use Rattle.std.specs.Prelude.{◌^◌, ℤ, pos, neg_ℤ, ◌≤ℤ◌}

-- offsets from -2^20 to 2^20
pub record AreInReach (least greatest : ℤ) : Type 0 where
  pub above : neg_ℤ (pos (2 ^ 20)) ≤ℤ least
  pub below : greatest ≤ℤ pos (2 ^ 20)
