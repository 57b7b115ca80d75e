use Rattle.noted_bins.proofs.FilterLemmas.{all_forgotten, kept_all}
use Rattle.noted_bins.proofs.HandLemmas.{if_err, if_ok}
use Rattle.noted_bins.proofs.noted.take_filtered.Goals as goal

-- memory was refused
pub returns-then-is_err-clause-handed : goal.returns-then-is_err-clause-handed
returns-then-is_err-clause-handed g c = kept_all _ _ _ _ (if_err c.add_filtered.result c.if-is_err.ensures.value c.add_filtered.ensures.err)

pub returns-clause-handed : goal.returns-clause-handed
returns-clause-handed g c =
    let handed = rw c.filter.ensures at (if_ok c.add_filtered.result c.if-is_err.ensures.value c.add_filtered.ensures.ok) in
    all_forgotten _ _ _ _ _ _ _ handed c.all.ensures.from c.all.ensures.to
