use Rattle.std.proofs.Common.{◌≤◌, ℕ, List, Option, length, option_copied, ap, subst}
use Rattle.bpf_model.specs.declared.limits.TheConstants.{KEY_BYTES}
use Rattle.bins.specs.Entries.{entry_of}
use Rattle.bulk_walks.specs.Kept.{item_of}
use Rattle.bulk_walks.proofs.running.First.to_list.Goals as goal

pub push-requires-clause-key : goal.push-requires-clause-key
push-requires-clause-key c = subst (λ (key : Option (List ℕ)). length (entry_of (item_of key c.self.inside.answer) 0).0 ≤ KEY_BYTES) (ap option_copied c.in-Some.is) c.self.invariant.fits
