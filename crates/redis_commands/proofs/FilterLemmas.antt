-- Options of CLIENT KILL, two words at a time.
use Rattle.std.proofs.Common.{arith, ◌≡◌, ℕ, ◌<◌, ◌≤◌, List, [], ◌∷◌, length, drop, get_or, Result, Ok, Err, Bor, ap, refl, sym}
use Rattle.redis_commands.specs.Words.{given}
use Rattle.redis_commands.specs.Commands.{Fault, Filter, texts}
use Rattle.redis_commands.specs.Commands.Fault.{Syntax}
use Rattle.redis_commands.specs.Clients.{filtered, filter_of, kill_by, kill}
use Rattle.redis_commands.proofs.OptionLemmas.{nothing}

pub filter_next : (o n : Filter) (words : List (Bor (List ℕ))) → 2 ≤ length words
    → filtered o (get_or words 0 nothing).now (get_or words 1 nothing).now ≡ Ok n
    → filter_of n (texts (drop 2 words)) ≡ filter_of o (texts words)
filter_next o n [] h e = absurd (omega (arith, h))
filter_next o n (w ∷ []) h e = absurd (omega (arith, h))
filter_next o n (w ∷ v ∷ more) h e = sym (ap (λ (r : Result Filter Fault). given r (λ next. filter_of next (texts more))) e)

pub filter_fault : (o : Filter) (f : Fault) (words : List (Bor (List ℕ))) → 2 ≤ length words
    → filtered o (get_or words 0 nothing).now (get_or words 1 nothing).now ≡ Err f
    → filter_of o (texts words) ≡ Err f
filter_fault o f [] h e = absurd (omega (arith, h))
filter_fault o f (w ∷ []) h e = absurd (omega (arith, h))
filter_fault o f (w ∷ v ∷ more) h e = ap (λ (r : Result Filter Fault). given r (λ next. filter_of next (texts more))) e

pub filter_end : (o : Filter) (words : List (Bor (List ℕ))) → length words < 2 → 0 < length words → filter_of o (texts words) ≡ Err Syntax
filter_end o [] h some = absurd (omega (arith, some))
filter_end o (w ∷ []) h some = refl
filter_end o (w ∷ v ∷ more) h some = absurd (omega (arith, h))

-- two words and more are options
pub kill_options : (words : List (Bor (List ℕ))) → 2 ≤ length words → kill (texts words) ≡ kill_by (texts words)
kill_options [] h = absurd (omega (arith, h))
kill_options (w ∷ []) h = absurd (omega (arith, h))
kill_options (w ∷ v ∷ more) h = refl
