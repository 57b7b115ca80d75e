use Rattle.bins.proofs.RowBytes.{told_reads}
use Rattle.bins.proofs.width_rows.set_owner.Goals as goal

pub returns-clause-row : goal.returns-clause-row
returns-clause-row c = (told_reads c.args.row.now c.requires c.args.owner c.ranges.owner.fits c.put_owner.new.bytes c.put_owner.ensures.after).row

pub returns-clause-holds : goal.returns-clause-holds
returns-clause-holds c = (told_reads c.args.row.now c.requires c.args.owner c.ranges.owner.fits c.put_owner.new.bytes c.put_owner.ensures.after).holds
