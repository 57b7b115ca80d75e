use Rattle.std.proofs.Common.{length, refl}
use Rattle.bins.proofs.RowBytes.{string_written}
use Rattle.bins.proofs.width_rows.put_key.Goals as goal

pub returns : goal.returns
returns c = record { after = string_written 2 (length c.args.key.now) c.args.rest.now c.put_key_length.new.bytes c.args.key.now c.put_bytes.new.rest _ c.put_key_length.ensures.after c.put_bytes.ensures.after refl }
