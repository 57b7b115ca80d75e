-- The tables that the events of a stripe leave: their keys belong to the stripe.
use Rattle.std.proofs.Common.{◌≡◌, ℕ, true, false, cond, is_eq, List, [], ◌∷◌, Option, Some, None, refl, sym, ap, ◌∙◌, subst, All}
use Rattle.std.proofs.lemmas.List.Elements.{All-nil, All-cons}
use Rattle.std.specs.Ordering.{eq_by_cmp}
use Rattle.std.specs.Cmp.{tied_itself}
use Rattle.std.specs.FinMap as map
use Rattle.std.specs.FinMap.{find, get-entries, get-empty, get-insert, get-remove, entries_sorted}
use Rattle.stripe_rule.specs.declared.view.Event.{Event}
use Rattle.bins.specs.Table.{Entry, Table, by_bytes}
use Rattle.bins.specs.Entries.{Distinct}
use Rattle.bins.proofs.MapEdits.{total}
use Rattle.bins.proofs.DistinctEntries.{alike}
use Rattle.bins.proofs.EntryCounts.{Distinct-sorted}
use Rattle.atomic_methods.specs.Hashes.{stripe_of}
use Rattle.atomic_methods.specs.Methods.{with_value}
use Rattle.atomic_methods.proofs.WholeLemmas.{some_of_none}
use Rattle.bin_stripes.specs.declared.ghost_action.GhostAction.{GhostAction}
use Rattle.bin_stripes.specs.Actions.{Action, called, scanned, replaced, saved, Does}
use Rattle.bin_stripes.specs.Histories.{does, empty, Leaves}
use Rattle.bin_stripes.specs.Invoked.{AreOf}

-- each key of the table belongs to the stripe k
abbrev pub IsWithin : ℕ → ℕ → Table → Type 0
IsWithin n k table = (key value : List ℕ) → map.get table key ≡ Some value → stripe_of n key ≡ k

module _ (n k : ℕ) where
  abbrev Within : Table → Type 0
  Within = IsWithin n k

  insert_within : (t : Table) (key value : List ℕ) → stripe_of n key ≡ k → Within t → Within (map.insert t key value)
  insert_within t key value here all q v found =
      elim (eq_by_cmp by_bytes q key) as (λ b. eq_by_cmp by_bytes q key ≡ b → cond b (Some value) (map.get t q) ≡ Some v → stripe_of n q ≡ k) [
        | true ↦ λ same is. ap (stripe_of n) (alike q key same) ∙ here
        | false ↦ λ other is. all q v is
      ] refl (sym (get-insert total t key value q) ∙ found)

  remove_within : (t : Table) (key : List ℕ) → Within t → Within (map.remove t key)
  remove_within t key all q v found =
      elim (eq_by_cmp by_bytes q key) as (λ b. cond b None (map.get t q) ≡ Some v → stripe_of n q ≡ k) [
        | true ↦ λ is. absurd (some_of_none None v refl is)
        | false ↦ λ is. all q v is
      ] (sym (get-remove total t key q) ∙ found)

  with_within : (t : Table) (key : List ℕ) (value : Option (List ℕ)) → stripe_of n key ≡ k → Within t → Within (with_value t key value)
  with_within t key (Some value) here all = insert_within t key value here all
  with_within t key None here all = remove_within t key all

  does_within : (t u : Table) (action : Action) → Does n k t action u → Within t → Within u
  does_within t u (called invocation reply) d all = subst Within (sym d.1.1.1) (with_within t invocation.key d.1.0 d.0 all)
  does_within t u (scanned entries) d all = subst Within (sym d.1) all
  does_within t u (replaced key program arg outcome) d all = subst Within (sym d.1.1.1.1) (insert_within t key _ d.0 all)
  does_within t u (saved whole rows) d all = subst Within (sym d.1.1) all

  replays_within : (t u : Table) (es : List (Event GhostAction)) → Rattle.stripe_rule.specs.History.Replays (does n k) t es u → Within t → Within u
  replays_within t u [] r all = subst Within (sym r) all
  replays_within t u (e ∷ es) r all = replays_within r.0 u es r.1.1 (does_within t r.0 e.action.action r.1.0 all)

  -- the keys that a list of events leaves belong to the stripe
  pub leaves_within : (t : Table) (es : List (Event GhostAction)) → Leaves n k es t → Within t
  leaves_within t es l = replays_within empty t es l (λ q v found. absurd (some_of_none (map.get empty q) v (get-empty by_bytes q) found))

  all_within : (es : List Entry) → Distinct es → ((key value : List ℕ) → find by_bytes key es ≡ Some value → stripe_of n key ≡ k) → All (λ e. stripe_of n e.0 ≡ k) es
  all_within [] d all = All-nil (λ (e : Entry). stripe_of n e.0 ≡ k)
  all_within (e ∷ es) d all = All-cons (λ (x : Entry). stripe_of n x.0 ≡ k) e es
      (all e.0 e.1 (ap (λ r. cond (is_eq r) (Some e.1) (find by_bytes e.0 es)) (tied_itself total e.0)))
      (all_within es d.1 (λ q v found. all q v (behind q v found)))
    where
      behind : (q v : List ℕ) → find by_bytes q es ≡ Some v → find by_bytes q (e ∷ es) ≡ Some v
      behind q v found = elim (eq_by_cmp by_bytes q e.0) as (λ b. eq_by_cmp by_bytes q e.0 ≡ b → cond b (Some e.1) (find by_bytes q es) ≡ Some v) [
        | true ↦ λ same. absurd (some_of_none (find by_bytes q es) v (ap (λ x. find by_bytes x es) (alike q e.0 same) ∙ d.0) found)
        | false ↦ λ other. found
      ] refl

  -- the entries that a list of events leaves
  pub entries_are_of : (t : Table) (es : List (Event GhostAction)) → Leaves n k es t → AreOf n k (map.entries t)
  entries_are_of t es l = record {
    order = entries_sorted t;
    stripe = all_within (map.entries t) (Distinct-sorted (map.entries t) (entries_sorted t)) (λ q v found. leaves_within t es l q v (get-entries t q ∙ found));
  }
