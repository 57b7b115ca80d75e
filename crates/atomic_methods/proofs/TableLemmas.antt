-- Edits of a table, one after another.
use Rattle.std.proofs.Common.{◌≡◌, ℕ, List, Bool, true, false, cond, is_eq, Option, Some, None, Ordering, Less, Equal, Greater, refl, sym, ap, ◌∙◌}
use Rattle.std.specs.Ordering.{eq_by_cmp}
use Rattle.std.specs.Cmp.{tied_itself}
use Rattle.std.specs.FinMap as map
use Rattle.std.specs.FinMap.{same_map, get-insert, get-remove, get_tied}
use Rattle.bins.specs.Table.{Table, by_bytes}
use Rattle.bins.proofs.MapEdits.{total, antisymmetric, remove_absent}
use Rattle.atomic_methods.specs.declared.reply.Reply.TheVariants.{Value}
use Rattle.atomic_methods.specs.Invocations.{Invocation, get, on_key}
use Rattle.atomic_methods.specs.Methods.{with_value, Answers}

twice : {A : Type 0} (b : Bool) (x y z : A) → cond b x (cond b y z) ≡ cond b x z
twice true x y z = refl
twice false x y z = refl

-- removing a key that was just entered is the same as removing it
pub remove-insert : (table : Table) (key value : List ℕ) → map.remove (map.insert table key value) key ≡ map.remove table key
remove-insert table key value = same_map total antisymmetric _ _ (λ q.
    get-remove total (map.insert table key value) key q
    ∙ ap (cond (eq_by_cmp by_bytes q key) None) (get-insert total table key value q)
    ∙ twice (eq_by_cmp by_bytes q key) None (Some value) (map.get table q)
    ∙ sym (get-remove total table key q))

-- entering a key that was just removed is the same as entering it
pub insert-remove : (table : Table) (key value : List ℕ) → map.insert (map.remove table key) key value ≡ map.insert table key value
insert-remove table key value = same_map total antisymmetric _ _ (λ q.
    get-insert total (map.remove table key) key value q
    ∙ ap (cond (eq_by_cmp by_bytes q key) (Some value)) (get-remove total table key q)
    ∙ twice (eq_by_cmp by_bytes q key) (Some value) None (map.get table q)
    ∙ sym (get-insert total table key value q))

-- a removed key is absent
pub get-removed : (table : Table) (key : List ℕ) → map.get (map.remove table key) key ≡ None
get-removed table key = get-remove total table key key ∙ ap (λ b. cond b None (map.get table key)) (ap is_eq (tied_itself total key))

present_at : (table : Table) (key value q : List ℕ) (r : Ordering) → map.get table key ≡ Some value → by_bytes q key ≡ r → cond (is_eq r) (Some value) (map.get table q) ≡ map.get table q
present_at table key value q Less found e = refl
present_at table key value q Equal found e = sym found ∙ get_tied total table q key e
present_at table key value q Greater found e = refl

-- entering the value that a key has changes nothing
pub insert-same : (table : Table) (key value : List ℕ) → map.get table key ≡ Some value → map.insert table key value ≡ table
insert-same table key value found = same_map total antisymmetric _ _ (λ q. get-insert total table key value q ∙ present_at table key value q (by_bytes q key) found refl)

-- a key keeps its value
pub keeps : (table : Table) (key : List ℕ) (value : Option (List ℕ)) → map.get table key ≡ value → table ≡ with_value table key value
keeps table key (Some value) is = sym (insert-same table key value is)
keeps table key None is = sym (remove_absent table key is)

-- a read of a present key replies its value, and the table stays
pub value_read : (table : Table) (invocation : Invocation) (key old : List ℕ) → on_key key get ≡ invocation → Some old ≡ map.get table invocation.key → Answers table invocation table (Value (Some old))
value_read table invocation key old asked found =
    let reads : invocation.method ≡ get = rw (← asked) refl in
    (Some old, (rw (reads, ← found) (refl, refl), keeps table invocation.key (Some old) (sym found)))
