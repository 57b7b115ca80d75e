use Rattle.stripe_rule.specs.Gains.{least}
use Rattle.stripe_rule.proofs.JoinLemmas.{unites}
use Rattle.bin_stripes.specs.Histories.{empty, does}
use Rattle.bin_stripes.specs.Saves.{keeps}
use Rattle.bin_stripes.proofs.tell.unite.Goals as goal

pub join_seat-requires : goal.join_seat-requires
join_seat-requires g c = let shape = c.args.table.now.key in let v = c.args.seat.now.me.0 in let w = c.args.other.me.0 in
    let r = c.requires.rests.0 in let s = c.requires.rests.1 in (
      c.requires.table.0,
      c.requires.table.1,
      s.none_out,
      c.requires.table.2,
      unites (does shape.stripes) empty g.B.Bins.table (keeps g.B.Bins.table g.B.NotedBins.noted) shape.stripes shape.passes c.args.seat.now.id v c.args.other.id w (least v.numbers) (least w.numbers) r.some s.some r.idle s.idle,
    )
