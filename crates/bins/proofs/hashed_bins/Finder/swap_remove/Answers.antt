use Rattle.std.proofs.Common.{List, ℕ, [], map, sym, ap, subst, ◌∙◌}
use Rattle.std.specs.List.{swap_remove}
use Rattle.bins.specs.Mixed.{mixed}
use Rattle.bins.specs.declared.hashes.Seed.{Seed}
use Rattle.bins.specs.Finders.{Finds}
use Rattle.bins.specs.declared.hashed_bins.Finder.{Finder}
use Rattle.bins.proofs.FinderLemmas.{map-swap_remove}
use Rattle.bins.proofs.hashed_bins.Finder.swap_remove.Goals as goal

-- the hash of the key is removed with it
pub returns-in-Hashes : goal.returns-in-Hashes
returns-in-Hashes c =
    let hashes = subst (λ (f : Finder). Finds f c.args.rows.now.keys) c.in-Hashes.is c.requires.finds in
    record {
      finds = c.swap_remove.ensures.hashes ∙ ap (λ (hs : List ℕ). swap_remove hs c.args.position 0) hashes ∙ map-swap_remove (mixed c.in-Hashes.index.seed) c.args.rows.now.keys c.args.position [] 0 c.requires.range
          ∙ ap (λ (seed : Seed). map (mixed seed) (swap_remove c.args.rows.now.keys c.args.position [])) (sym c.swap_remove.ensures.seed);
    }
