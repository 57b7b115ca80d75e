use Rattle.std.proofs.Common.{length, refl}
use Rattle.bins.proofs.RowBytes.{string_written}
use Rattle.bins.proofs.width_rows.put_value.Goals as goal

pub returns : goal.returns
returns c = record { after = string_written 4 (length c.args.value.now) c.args.rest.now c.put_value_length.new.bytes c.args.value.now c.put_bytes.new.rest _ c.put_value_length.ensures.after c.put_bytes.ensures.after refl }
