use Rattle.std.proofs.Common.{◌<◌, refl, sym, subst, arith}
use Rattle.stripe_rule.specs.Words.{word_at}
use Rattle.bin_stripes.proofs.StepLemmas.{looks_at}
use Rattle.bin_stripes.proofs.steps.look.Goals as goal

pub load-requires : goal.load-requires
load-requires g c = let seat = c.args.seat.now in let table = c.args.table.now in (
  c.requires.table.1,
  subst (λ n. word_at c.args.stripe < n) (sym c.requires.table.0.words) (let inside = c.requires.stripe in omega arith),
  looks_at g.B.Bins.table g.B.NotedBins.noted table.table_id table.key c.requires.table.0 seat.id c.args.stripe seat.me c.requires.stripe c.requires.pass,
)

pub returns-clause-looked : goal.returns-clause-looked
returns-clause-looked g c = c.load.ensures.2 c.args.stripe refl
