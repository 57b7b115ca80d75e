-- If a table is opened, or memory is refused to it, it may have this number of stripes.
use Rattle.std.proofs.Common.{◌≡◌, ℕ, sym, subst, Result, Ok, Err}
use Rattle.std.specs.Prelude.{◌↔◌, IsErrOf}
use Rattle.atomic_methods.specs.Hashes.{IsStripeCount}
use Rattle.atomic_methods.specs.declared.fault.OpenFault.{OpenFault}
use Rattle.atomic_methods.specs.declared.fault.OpenFault.TheVariants.{BadStripes, NoMemory}
use Rattle.sessions.specs.declared.alone.Alone.{Alone}
use Rattle.map_commands.specs.Executions.{IsBadCount}

pub is_no_bad_count : (stripes count : ℕ) (result : Result Alone OpenFault) → count ≡ stripes → (IsErrOf result BadStripes → ⊥)
    → (IsErrOf result BadStripes ↔ (IsStripeCount count → ⊥)) → IsBadCount stripes → ⊥
is_no_bad_count stripes count result is other exact bad = other (exact.1 (subst (λ (n : ℕ). IsStripeCount n → ⊥) (sym is) bad))

pub is_opened : (alone : Alone) → IsErrOf {T = Alone} {E = OpenFault} (Ok alone) BadStripes → ⊥
is_opened alone e = absurd cc

pub is_want_of_memory : (fault : OpenFault) → fault ≡ NoMemory → IsErrOf {T = Alone} {E = OpenFault} (Err fault) BadStripes → ⊥
is_want_of_memory fault is e = absurd cc
