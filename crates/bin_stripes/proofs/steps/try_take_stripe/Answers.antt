use Rattle.std.proofs.Common.{◌<◌, refl, sym, subst, arith}
use Rattle.stripe_rule.specs.Words.{word_at}
use Rattle.bin_stripes.proofs.StepLemmas.{takes_stripe, won_or_lost}
use Rattle.bin_stripes.proofs.steps.try_take_stripe.Goals as goal

pub compare_exchange-requires : goal.compare_exchange-requires
compare_exchange-requires g c = let seat = c.args.seat.now in let table = c.args.table.now in (
  c.requires.table.1,
  subst (λ n. word_at c.args.stripe < n) (sym c.requires.table.0.words) (let inside = c.requires.stripe in omega arith),
  takes_stripe g.B.Bins.table g.B.NotedBins.noted table.table_id table.key c.requires.table.0 seat.id c.args.stripe seat.me c.requires.stripe c.requires.pass.0 c.requires.pass.1,
)

pub returns-clause-took : goal.returns-clause-took
returns-clause-took g c = won_or_lost c.compare_exchange.result (c.compare_exchange.ensures.2 c.args.stripe refl)
