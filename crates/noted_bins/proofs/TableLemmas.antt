-- A table with another value at one key.
use Rattle.std.proofs.Common.{◌≡◌, ◌≢◌, ℕ, Bool, true, false, cond, List, Option, Some, None, refl, ◌∙◌}
use Rattle.std.specs.FinMap as map
use Rattle.std.specs.FinMap.{get-insert, get-remove}
use Rattle.bins.specs.Table.{Table}
use Rattle.bins.proofs.DistinctEntries.{same_itself, differ}
use Rattle.bins.proofs.MapEdits.{total}
use Rattle.atomic_methods.specs.Methods.{with_value}

chosen : {A : Type 0} (b : Bool) (x y : A) → b ≡ true → cond b x y ≡ x
chosen b x y e = rw e refl

skipped : {A : Type 0} (b : Bool) (x y : A) → b ≡ false → cond b x y ≡ y
skipped b x y e = rw e refl

pub beside_gone : (table : Table) (key other : List ℕ) → other ≢ key → map.get (map.remove table key) other ≡ map.get table other
beside_gone table key other apart = get-remove total table key other ∙ skipped _ None (map.get table other) (differ other key apart)

pub beside : (table : Table) (key : List ℕ) (value : Option (List ℕ)) (other : List ℕ) → other ≢ key → map.get (with_value table key value) other ≡ map.get table other
beside table key (Some value) other apart =
    get-insert total table key value other ∙ skipped _ (Some value) (map.get table other) (differ other key apart)
beside table key None other apart = beside_gone table key other apart

pub here : (table : Table) (key : List ℕ) (value : Option (List ℕ)) → map.get (with_value table key value) key ≡ value
here table key (Some value) = get-insert total table key value key ∙ chosen _ (Some value) (map.get table key) (same_itself key)
here table key None = get-remove total table key key ∙ chosen _ None (map.get table key) (same_itself key)
