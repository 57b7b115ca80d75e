use Rattle.std.proofs.Common.{refl}
use Rattle.bins.proofs.RowBytes.{written_reads}
use Rattle.bins.proofs.width_rows.write.Goals as goal

pub returns-clause-row : goal.returns-clause-row
returns-clause-row c = (written_reads c.args.owner c.args.key.now c.args.value.now _ c.ranges.owner.fits c.requires.key c.requires.value c.args.row.now c.put_owner.new.bytes c.put_strings.new.rest _ c.put_owner.ensures.after c.put_strings.ensures.after refl).row

pub returns-clause-holds : goal.returns-clause-holds
returns-clause-holds c = (written_reads c.args.owner c.args.key.now c.args.value.now _ c.ranges.owner.fits c.requires.key c.requires.value c.args.row.now c.put_owner.new.bytes c.put_strings.new.rest _ c.put_owner.ensures.after c.put_strings.ensures.after refl).holds
