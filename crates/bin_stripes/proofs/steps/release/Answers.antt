use Rattle.std.proofs.Common.{◌<◌, sym, subst, arith}
use Rattle.stripe_rule.specs.Words.{word_at}
use Rattle.bin_stripes.proofs.StepLemmas.{releases_stripe}
use Rattle.bin_stripes.proofs.steps.release.Goals as goal

pub swap-requires : goal.swap-requires
swap-requires g c = let seat = c.args.seat.now in let table = c.args.table.now in let made = c.requires.made in (
  c.requires.table.1,
  subst (λ n. word_at c.args.stripe < n) (sym c.requires.table.0.words) (let inside = c.requires.stripe in omega arith),
  releases_stripe g.B.Bins.table g.B.NotedBins.noted table.table_id table.key c.requires.table.0 g.J.May.may seat.id c.args.stripe seat.me c.requires.stripe c.requires.held.1 c.requires.held.0
      made.0 made.1.0 made.1.1.0 made.1.1.1.0 made.1.1.1.1.0 made.1.1.1.1.1,
)
