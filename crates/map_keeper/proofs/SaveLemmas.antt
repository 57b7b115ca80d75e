-- What saves of stripes come to, one after the other.
use Rattle.std.proofs.Common.{◌≡◌, ◌∙◌, ◌≢◌, ◌⊎◌, ◌+◌, ◌<◌, ◌≤◌, ℕ, zero, suc, false, List, [], ◌∷◌, ◌++◌, All, refl, sym, ap, subst, inl, inr, arith}
use Rattle.std.proofs.lemmas.List.{append-nil, append_assoc}
use Rattle.std.proofs.lemmas.List.Elements.{All-nil, All-cons, All-append}
use Rattle.atomic_table.specs.Seated.{TableId}
use Rattle.stripe_rule.specs.declared.view.Event.{Event}
use Rattle.stripe_rule.specs.declared.view.View.{View}
use Rattle.stripe_rule.specs.Gains.{Keeps, seen_of, mine_of}
use Rattle.noted_bins.specs.Rows.{Row, values_of}
use Rattle.noted_bins.specs.Notes.{is_some}
use Rattle.noted_bins.specs.declared.taken.Taken.{Taken}
use Rattle.bin_stripes.specs.declared.ghost_action.GhostAction.{GhostAction}
use Rattle.bin_stripes.specs.Actions.{saved}
use Rattle.bin_stripes.specs.Histories.{Leaves, own_events}
use Rattle.bin_stripes.specs.Passes.{PassState, ServesSameMap, stripes_of}
use Rattle.bin_stripes.specs.Invoked.{Makes}
use Rattle.bin_stripes.specs.Saves.{SavesStripe, kept_in}
use Rattle.map_keeper.specs.Saves.{IsSave, IsWhole, IsWholeIn, MadeOnlySaves}

pub same_or_not : (j k : ℕ) → (j ≡ k) ⊎ (j ≢ k)
same_or_not zero zero = inl refl
same_or_not zero (suc k) = inr (λ e. omega (arith, e))
same_or_not (suc j) zero = inr (λ e. omega (arith, e))
same_or_not (suc j) (suc k) = elim (same_or_not j k) [
  | inl e ↦ inl (ap suc e)
  | inr apart ↦ inr (λ e. apart (omega (arith, e)))
]

abbrev Adds : View GhostAction → View GhostAction → ℕ → Type 0
Adds old new k = (more : List (Event GhostAction)) × (mine_of new k ≡ mine_of old k ++ more) × All IsSave more

nothing : (old new : View GhostAction) (k : ℕ) → mine_of new k ≡ mine_of old k → Adds old new k
nothing old new k same = ([], same ∙ sym (append-nil (mine_of old k)), All-nil IsSave)

-- the stripe k has these saves more, and the others nothing
on_stripe : (old new : View GhostAction) (k : ℕ) → Adds old new k → ((j : ℕ) → j ≢ k → Keeps old new j) → MadeOnlySaves old new
on_stripe old new k adds elsewhere j = elim (same_or_not j k) [
  | inl e ↦ subst (Adds old new) (sym e) adds
  | inr apart ↦ nothing old new j (elsewhere j apart).mine
]

-- after one save of the stripe k
pub one_save : (old : PassState) (k : ℕ) (before after : List Row) (taken : Taken) (new : PassState) → SavesStripe old k before after taken new
    → MadeOnlySaves old.view new.view
one_save old k before after taken new saves =
    let events = own_events old.view (saved taken (values_of saves.rows) ∷ []) in
    on_stripe old.view new.view k (events, saves.makes.here.mine, All-cons IsSave _ [] (taken, values_of saves.rows, refl) (All-nil IsSave)) saves.makes.elsewhere

-- after a save that failed
pub no_save : (old : PassState) (k : ℕ) (new : PassState) → Makes old k [] new → MadeOnlySaves old.view new.view
no_save old k new makes = on_stripe old.view new.view k ([], makes.here.mine, All-nil IsSave) makes.elsewhere

-- if nothing is noted any more, the stripe is whole
pub whole_save : (old : PassState) (k : ℕ) (before after : List Row) (taken : Taken) (new : PassState) → ServesSameMap old new
    → SavesStripe old k before after taken new → is_some taken ≡ false → IsWhole new k
whole_save old k before after taken new same saves none =
    subst (λ (id : TableId). Leaves (stripes_of id) k (seen_of new.view k) (kept_in (seen_of new.view k))) (sym same.map) (saves.whole none)

-- saves after saves
pub saves_then : (v u w : View GhostAction) → MadeOnlySaves v u → MadeOnlySaves u w → MadeOnlySaves v w
saves_then v u w first second k =
    let one = first k in
    let other = second k in
    (one.0 ++ other.0, other.1 ∙ (ap (λ (l : List (Event GhostAction)). l ++ other.0) one.1 ∙ append_assoc (mine_of v k) one.0 other.0), All-append IsSave one.0 other.0 one.2 other.2)

pub saves_at_first : (v : View GhostAction) → MadeOnlySaves v v
saves_at_first v k = nothing v v k refl

pub same_then : (p q r : PassState) → ServesSameMap p q → ServesSameMap q r → ServesSameMap p r
same_then p q r one other = record { map = other.map ∙ one.map; passes = other.passes ∙ one.passes }

pub keeps_then : (v u w : View GhostAction) (k : ℕ) → Keeps v u k → Keeps u w k → Keeps v w k
keeps_then v u w k p q = record { seen = q.seen ∙ p.seen; mine = q.mine ∙ p.mine }

-- a stripe that the pass knows nothing new of stays whole
pub whole_in_kept : (stripes : ℕ) (v w : View GhostAction) (k : ℕ) → Keeps v w k → IsWholeIn stripes v k → IsWholeIn stripes w k
whole_in_kept stripes v w k keeps whole = subst (λ (seen : List (Event GhostAction)). Leaves stripes k seen (kept_in seen)) (sym keeps.seen) whole

pub whole_kept : (old new : PassState) (k : ℕ) → ServesSameMap old new → Keeps old.view new.view k → IsWhole old k → IsWhole new k
whole_kept old new k same keeps whole =
    whole_in_kept (stripes_of new.map) old.view new.view k keeps (subst (λ (id : TableId). IsWholeIn (stripes_of id) old.view k) (sym same.map) whole)

pub below : (j k : ℕ) → j < suc k → j ≢ k → j < k
below zero zero low apart = absurd (apart refl)
below zero (suc k) low apart = omega arith
below (suc j) zero low apart = absurd (omega (arith, low))
below (suc j) (suc k) low apart =
    let less : j < k = below j k (omega (arith, low)) (λ e. apart (ap suc e)) in
    omega (arith, less)

-- with the stripe k those up to k + 1 are whole
pub one_more : (old new : PassState) (start k : ℕ) → ServesSameMap old new → ((j : ℕ) → j ≢ k → Keeps old.view new.view j)
    → ((j : ℕ) → start ≤ j → j < k → IsWhole old j) → IsWhole new k → (j : ℕ) → start ≤ j → j < k + 1 → IsWhole new j
one_more old new start k same elsewhere before here j up low = elim (same_or_not j k) [
  | inl e ↦ subst (IsWhole new) (sym e) here
  | inr apart ↦ whole_kept old new j same (elsewhere j apart) (before j up (below j k (omega (arith, low)) apart))
]

pub lower_or_not : (j n : ℕ) → (j < n) ⊎ (n ≤ j)
lower_or_not zero zero = inr (omega arith)
lower_or_not zero (suc n) = inl (omega arith)
lower_or_not (suc j) zero = inr (omega arith)
lower_or_not (suc j) (suc n) = elim (lower_or_not j n) [
  | inl low ↦ inl (omega (arith, low))
  | inr up ↦ inr (omega (arith, up))
]
