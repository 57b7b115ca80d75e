use Rattle.std.proofs.Common.{refl}
use Rattle.bins.proofs.RowBytes.{strings_written}
use Rattle.bins.proofs.width_rows.put_strings.Goals as goal

pub returns : goal.returns
returns c = record { after = strings_written c.args.rest.now c.put_key.new.rest c.args.key.now c.args.value.now c.put_value.new.rest _ c.put_key.ensures.after c.put_value.ensures.after refl }
