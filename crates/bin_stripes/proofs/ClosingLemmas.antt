-- The last entries of a map: the copies made by a pass that has taken every stripe.
use Rattle.std.proofs.Common.{◌≡◌, ℕ, suc, ◌+◌, Bool, true, List, [], ◌∷◌, ◌++◌, Option, Some, None, refl, sym, ap, ◌∙◌, subst, append-nil, arith}
use Rattle.std.proofs.lemmas.Grind.{flat_map-append}
use Rattle.std.specs.FinMap as map
use Rattle.std.specs.FinMap.{get-empty}
use mathlib.Core.Logic.{dite}
use native.Mathlib.Decide.{dec_le}
use Rattle.atomic_table.specs.Table.{Me}
use Rattle.stripe_rule.specs.declared.view.View.{View}
use Rattle.stripe_rule.specs.Gains.{least, Carries, seen_of}
use Rattle.stripe_rule.specs.Steps.{Extends, Takes, HasTaken}
use Rattle.stripe_rule.proofs.ViewLemmas.{get_or-beyond}
use Rattle.stripe_rule.proofs.CallLemmas.{least_has, carries_same}
use Rattle.stripe_rule.proofs.CloseLemmas.{taken_more, left_behind, none_between}
use Rattle.bins.specs.Table.{Entry, Table, by_bytes}
use Rattle.atomic_methods.specs.Hashes.{stripe_of, IsStripeCount}
use Rattle.atomic_methods.specs.Whole.{all_entries, whole, stripe_at, AreStripes}
use Rattle.bin_stripes.specs.declared.ghost_action.GhostAction.{GhostAction}
use Rattle.bin_stripes.specs.Histories.{empty, does, Leaves, Sound}
use Rattle.bin_stripes.specs.Saves.{keeps}
use Rattle.bin_stripes.specs.Passes.{PassState, stripes_of}
use Rattle.bin_stripes.specs.Closed.{Closes}
use Rattle.bin_stripes.proofs.StripeTables.{leaves_within}

-- the entries of one more stripe
pub all_entries-push : (tables : List Table) (table : Table) → all_entries (tables ++ table ∷ []) ≡ all_entries tables ++ map.entries table
all_entries-push tables table = flat_map-append map.entries tables (table ∷ []) ∙ ap (λ (es : List Entry). all_entries tables ++ es) (append-nil (map.entries table))

-- the view carries its least number after a take
pub carries_next : (w u x : View GhostAction) (k : ℕ) → x ≡ u → Extends w k true u → Carries w (least w.numbers) → Carries x (least x.numbers)
carries_next w u x k is e c = subst (λ (z : View GhostAction). Carries z (least z.numbers)) (sym is) (least_has (least w.numbers) u.numbers (carries_same w u (least w.numbers) e.sets.numbers c))

-- one more stripe is taken
pub taken_next : {B : Type 0} (content : B → Table) (noted : B → List ℕ → Bool) (n k : ℕ) (v : View GhostAction) (me me' : Me (Option B) (View GhostAction)) (x : View GhostAction) (tables : List Table) (bins : B) → HasTaken (does n) empty v k tables me.0
    → Takes (does n) empty content (keeps content noted) k me me' → x ≡ me'.0 → Leaves n k (seen_of me'.0 k) (content bins) → HasTaken (does n) empty v (k + 1) (tables ++ content bins ∷ []) x
taken_next content noted n k v me me' x tables bins h t is found = subst (λ (z : View GhostAction). HasTaken (does n) empty v (k + 1) (tables ++ content bins ∷ []) z) (sym is)
    (taken_more (does n) empty v me.0 me'.0 k tables (content bins) h t.extends found)

none_unless : (x : Option (List ℕ)) → ((value : List ℕ) → x ≡ Some value → ⊥) → x ≡ None
none_unless None f = refl
none_unless (Some value) f = absurd (f value refl)

-- the tables of the stripes taken are the stripes of one table
pub are_stripes : (n : ℕ) (v w : View GhostAction) (tables : List Table) → IsStripeCount n → HasTaken (does n) empty v n tables w → AreStripes tables
are_stripes n v w tables count h = record {
  count = subst IsStripeCount (sym h.count) count;
  apart = λ i key other. dite (dec_le (suc i) n)
      (λ inside. none_unless (map.get (stripe_at tables i) key) (λ value found. other (sym (leaves_within n i (stripe_at tables i) (seen_of w i) (h.left i map.empty inside) key value found) ∙ ap (λ m. stripe_of m key) (sym h.count))))
      (λ beyond. ap (λ (t : Table). map.get t key) (get_or-beyond tables i map.empty (let c = h.count in omega arith)) ∙ get-empty by_bytes key);
}

-- the result for a pass that has taken every stripe
pub closes_with : (pass : PassState) (w : View GhostAction) (tables : List Table) (found : List Entry) → HasTaken (does (stripes_of pass.map)) empty pass.view (stripes_of pass.map) tables w → Sound (stripes_of pass.map) w
    → found ≡ map.entries (whole tables) → Closes pass found
closes_with pass w tables found h sound is = let n = stripes_of pass.map in record {
  tables = tables;
  one_each = h.count;
  between = λ k. (h.gains k).between;
  others = λ k _. (h.gains k).others;
  left = λ k inside. left_behind (does n) empty pass.view w n tables h k map.empty inside;
  whole_seen = λ all k _. none_between (does n) empty pass.view w n tables h sound all k;
  entries_are = is;
}
