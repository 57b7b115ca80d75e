use Rattle.std.proofs.Common.{string_bytes}
use Rattle.map_commands.proofs.commands.with_verdict.Goals as goal

pub returns : goal.returns
returns c = (
  string_bytes c.in_ok-explained.field-0,
  c.in_ok-explained.ensures,
  rw (c.into_bytes-printed.ensures.value, c.as_slice.ensures.value, c.verdict_line.ensures) at c.in_ok-extend_from_slice.ensures.items,
)
