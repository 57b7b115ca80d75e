-- What saves handed out, and the bins that events leave.
use Rattle.std.proofs.Common.{◌≡◌, ◌⊎◌, ℕ, Bool, true, false, true≢false, cond, if◌then◌else◌, IsTrue, List, [], ◌∷◌, ◌++◌, Option, Some, None, option_map, All, refl, sym, ap, ◌∙◌, subst, inl, inr, ⊎_elim}
use Rattle.std.proofs.lemmas.List.Elements.{All-head, All-tail, All-map, All-weaker}
use Rattle.std.specs.Ordering.{eq_by_cmp}
use Rattle.std.specs.FinMap as finmap
use Rattle.std.specs.FinMap.{get-empty, get-insert, get-remove, same_map}
use Rattle.stripe_rule.specs.declared.view.Event.{Event}
use Rattle.stripe_rule.specs.declared.view.View.{View}
use Rattle.stripe_rule.specs.Gains.{seen_of}
use Rattle.stripe_rule.proofs.HistoryLemmas.{Replays-append}
use Rattle.bins.specs.Table.{Table, by_bytes}
use Rattle.bins.proofs.MapEdits.{total, antisymmetric}
use Rattle.bins.proofs.DistinctEntries.{alike}
use Rattle.atomic_methods.specs.Methods.{with_value}
use Rattle.timed_bins.specs.Deadlines.{TimedTable}
use Rattle.noted_bins.specs.declared.taken.Taken.{Taken}
use Rattle.noted_bins.specs.declared.taken.Taken.TheVariants as taken
use Rattle.noted_bins.specs.Rows.{Row, row_of, value_in, values_of, put_rows, has_row, same_key}
use Rattle.noted_bins.specs.Notes.{NotesChanges, CoversValues, TakesChanges, IsKnown, is_all, is_anew, is_some}
use Rattle.bin_stripes.specs.declared.ghost_action.GhostAction.{GhostAction}
use Rattle.bin_stripes.specs.Actions.{Action, saved}
use Rattle.bin_stripes.specs.Histories.{empty, does, own_events, Leaves}
use Rattle.bin_stripes.specs.Holding.{IsEmptyBins}
use Rattle.bin_stripes.specs.Saves.{kept_after, kept_from, kept_in, keeps, LeavesBins}
use Rattle.bin_stripes.specs.Deeds.{SavesBy}

kept-append : (kept : Table) (xs ys : List (Event GhostAction)) → kept_from kept (xs ++ ys) ≡ kept_from (kept_from kept xs) ys
kept-append kept [] ys = refl
kept-append kept (e ∷ es) ys = kept-append (kept_after kept e.action.action) es ys

-- these actions hand nothing out
abbrev pub HandNothingOut : List Action → Type 0
HandNothingOut actions = (v : View GhostAction) (kept : Table) → kept_from kept (own_events v actions) ≡ kept

module _ {B : Type 0} (content : B → Table) (noted : B → List ℕ → Bool) where
  -- bins without entries, of which nothing was handed out
  pub all_empty : (slots : List (Option B)) → All (IsEmptyBins content) slots
      → All (λ slot. (b : B) × ((slot ≡ Some b) × ((content b ≡ empty) × ((k : ℕ) → keeps content noted k [] b)))) slots
  all_empty slots all = All-weaker (IsEmptyBins content) (λ slot. (b : B) × ((slot ≡ Some b) × ((content b ≡ empty) × ((k : ℕ) → keeps content noted k [] b))))
      (λ slot e. (e.0, (e.1.0, (e.1.1, λ k key off. ap (λ (t : Table). finmap.get t key) (sym e.1.1))))) slots all

  -- more events that hand nothing out, and bins that still have what was handed out
  pub left_more : (n k : ℕ) (v : View GhostAction) (b c : B) (did : List Action → Type 0) → LeavesBins content noted n k (seen_of v k) b
      → ((kept : Table) → CoversValues (noted b) (content b) kept → CoversValues (noted c) (content c) kept)
      → ((actions : List Action) → did actions → HandNothingOut actions)
      → ((actions : List Action) × (did actions × Leaves n k (seen_of v k ++ own_events v actions) (content c)))
      → (actions : List Action) × (did actions × LeavesBins content noted n k (seen_of v k ++ own_events v actions) c)
  left_more n k v b c did left still none m = (
    m.0,
    (
      m.1.0,
      record {
        table = m.1.1;
        kept = subst (λ (t : Table). CoversValues (noted c) (content c) t) (sym (kept-append finmap.empty (seen_of v k) (own_events v m.0) ∙ none m.0 m.1.0 v (kept_in (seen_of v k))))
            (still (kept_in (seen_of v k)) left.kept);
      },
    ),
  )

  -- the same bins
  pub left_same : (n k : ℕ) (v : View GhostAction) (b c : B) (did : List Action → Type 0) → LeavesBins content noted n k (seen_of v k) b → c ≡ b
      → ((actions : List Action) → did actions → HandNothingOut actions)
      → ((actions : List Action) × (did actions × Leaves n k (seen_of v k ++ own_events v actions) (content c)))
      → (actions : List Action) × (did actions × LeavesBins content noted n k (seen_of v k ++ own_events v actions) c)
  left_same n k v b c did left same none m = left_more n k v b c did left (λ kept covers. subst (λ (x : B). CoversValues (noted x) (content x) kept) (sym same) covers) none m

value_of : (deadline : Option ℕ) (value : Option (List ℕ)) → option_map (λ (has : List ℕ × Option ℕ). has.0) (option_map (λ (x : List ℕ). (x, deadline)) value) ≡ value
value_of deadline None = refl
value_of deadline (Some value) = refl

-- a change that is noted leaves what was handed out of the keys that aren't
pub still_covered : (noted noted' : List ℕ → Bool) (old new : TimedTable) → NotesChanges noted old noted' new
    → (kept : Table) → CoversValues noted old.table kept → CoversValues noted' new.table kept
still_covered noted noted' old new notes kept covers key off = let n = notes key off in covers key n.0
    ∙ sym (sym (value_of (new.deadline key) (finmap.get new.table key)) ∙ (ap (option_map (λ (has : List ℕ × Option ℕ). has.0)) n.1 ∙ value_of (old.deadline key) (finmap.get old.table key)))

-- the same keys are noted, and the table is the same
pub same_covered : (noted noted' : List ℕ → Bool) (old new kept : Table) → noted' ≡ noted → new ≡ old → CoversValues noted old kept → CoversValues noted' new kept
same_covered noted noted' old new kept is same covers = subst (λ (x : (List ℕ → Bool) × Table). CoversValues x.0 x.1 kept) (λ i. (sym is i, sym same i)) covers

get-with_value : (t : Table) (key : List ℕ) (value : Option (List ℕ)) (q : List ℕ) → finmap.get (with_value t key value) q ≡ cond (eq_by_cmp by_bytes q key) value (finmap.get t q)
get-with_value t key (Some value) q = get-insert total t key value q
get-with_value t key None q = get-remove total t key q

module _ (bins : TimedTable) where
  abbrev IsPresent : Row → Type 0
  IsPresent row = row.1 ≡ row_of bins row.0

  present_value : (row : Row) → IsPresent row → value_in row.1 ≡ finmap.get bins.table row.0
  present_value row is = ap value_in is ∙ value_of (bins.deadline row.0) (finmap.get bins.table row.0)

  abbrev Agrees : Table → List ℕ → Type 0
  Agrees t q = finmap.get t q ≡ finmap.get bins.table q

  -- a present row sets its key as in the table, and no other
  row_sets : (t : Table) (row : Row) (q : List ℕ) → IsPresent row → (same_key q row.0 ≡ true) ⊎ Agrees t q → Agrees (with_value t row.0 (value_in row.1)) q
  row_sets t row q is agrees = get-with_value t row.0 (value_in row.1) q
      ∙ elim (eq_by_cmp by_bytes q row.0) as (λ b. eq_by_cmp by_bytes q row.0 ≡ b → cond b (value_in row.1) (finmap.get t q) ≡ finmap.get bins.table q) [
        | true ↦ λ e. present_value row is ∙ ap (finmap.get bins.table) (sym (alike q row.0 e))
        | false ↦ λ e. ⊎_elim (λ (here : same_key q row.0 ≡ true). absurd (true≢false (sym here ∙ e))) (λ (old : Agrees t q). old) agrees
      ] refl

  -- present rows set their keys as in the table, and no others
  rows_set : (t : Table) (rows : List Row) (q : List ℕ) → All IsPresent rows → (has_row rows q ≡ true) ⊎ Agrees t q → Agrees (put_rows t (values_of rows)) q
  rows_set t [] q all agrees = ⊎_elim (λ (none : false ≡ true). absurd (true≢false (sym none))) (λ (old : Agrees t q). old) agrees
  rows_set t (row ∷ rows) q all agrees = rows_set (with_value t row.0 (value_in row.1)) rows q (All-tail IsPresent row rows all) (⊎_elim
      (λ (has : has_row (row ∷ rows) q ≡ true). elim (same_key q row.0) as (λ b. same_key q row.0 ≡ b → cond b true (has_row rows q) ≡ true → (has_row rows q ≡ true) ⊎ Agrees (with_value t row.0 (value_in row.1)) q) [
        | true ↦ λ e h. inr (row_sets t row q (All-head IsPresent row rows all) (inl e))
        | false ↦ λ e h. inl h
      ] refl has)
      (λ (old : Agrees t q). inr (row_sets t row q (All-head IsPresent row rows all) (inr old)))
      agrees)

  pub present_values : (rows : List Row) → All IsPresent rows → All (λ (row : List ℕ × Option (List ℕ)). row.1 ≡ finmap.get bins.table row.0) (values_of rows)
  present_values rows all = All-map (λ (row : List ℕ × Option (List ℕ)). row.1 ≡ finmap.get bins.table row.0) (λ (row : Row). (row.0, value_in row.1)) rows
      (All-weaker IsPresent (λ row. value_in row.1 ≡ finmap.get bins.table row.0) present_value rows all)

  module _ (noted noted' : List ℕ → Bool) (rows : List Row) (came : Taken) (new : TimedTable) (t : TakesChanges noted bins came rows noted' new) where
    -- what was there of a key that has no row
    before : (came : Taken) (kept : Table) (key : List ℕ) → CoversValues noted bins.table kept → IsKnown came noted bins key → Agrees (if is_anew came then finmap.empty else kept) key
    before taken.All kept key covers known = get-empty by_bytes key ∙ sym known
    before taken.Begun kept key covers known = get-empty by_bytes key ∙ sym known
    before taken.Some kept key covers known = covers key known
    before taken.Rest kept key covers known = covers key known

    -- what the rows come to, but for the keys that the save left noted
    pub take_covers : (kept : Table) → CoversValues noted bins.table kept → CoversValues noted' bins.table (kept_after kept (saved came (values_of rows)))
    take_covers kept covers key off = rows_set (if is_anew came then finmap.empty else kept) rows key t.present
        (⊎_elim (λ (has : has_row rows key ≡ true). inl has) (λ (known : IsKnown came noted bins key). inr (before came kept key covers known)) (t.known key off))

  -- a save of all entries hands out just them
  pub all_handed_out : (noted noted' : List ℕ → Bool) (rows : List Row) (came : Taken) (new : TimedTable) → TakesChanges noted bins came rows noted' new
      → IsTrue (is_all came) → put_rows finmap.empty (values_of rows) ≡ bins.table
  all_handed_out noted noted' rows taken.All new t anew = same_map total antisymmetric (put_rows finmap.empty (values_of rows)) bins.table (λ key. rows_set finmap.empty rows key t.present
      (⊎_elim (λ (has : has_row rows key ≡ true). inl has) (λ (known : finmap.get bins.table key ≡ None). inr (get-empty by_bytes key ∙ sym known)) (t.known key (t.none refl key))))
  all_handed_out noted noted' rows taken.Begun new t anew = absurd (true≢false (sym anew))
  all_handed_out noted noted' rows taken.Some new t anew = absurd (true≢false (sym anew))
  all_handed_out noted noted' rows taken.Rest new t anew = absurd (true≢false (sym anew))

  -- if no key is left noted, all that was handed out is the table
  pub whole_is : (noted' : List ℕ → Bool) (kept : Table) → ((key : List ℕ) → noted' key ≡ false) → CoversValues noted' bins.table kept → kept ≡ bins.table
  whole_is noted' kept none covers = same_map total antisymmetric kept bins.table (λ key. covers key (none key))

module _ (n k : ℕ) (v : View GhostAction) (noted noted' : List ℕ → Bool) (before after : TimedTable) (rows : List Row) (came : Taken)
    (l : Leaves n k (seen_of v k) before.table) (covers : CoversValues noted before.table (kept_in (seen_of v k))) (t : TakesChanges noted before came rows noted' after) where
  abbrev action : Action
  action = saved came (values_of rows)

  abbrev events : List (Event GhostAction)
  events = seen_of v k ++ own_events v (action ∷ [])

  kept_is : kept_in events ≡ kept_after (kept_in (seen_of v k)) action
  kept_is = kept-append finmap.empty (seen_of v k) (own_events v (action ∷ []))

  left_after : Leaves n k events before.table
  left_after = Replays-append (does n k) empty before.table before.table (seen_of v k) (own_events v (action ∷ [])) l
      (before.table, ((present_values before rows t.present, (all_handed_out before noted noted' rows came after t, refl)), refl))

  covered_after : CoversValues noted' before.table (kept_in events)
  covered_after = subst (λ (x : Table). CoversValues noted' before.table x) (sym kept_is) (take_covers before noted noted' rows came after t (kept_in (seen_of v k)) covers)

  -- a save was made
  pub save_made : (old new : List Row) → new ≡ old ++ rows
      → (actions : List Action) × (SavesBy old new came noted before noted' after actions
      × (Leaves n k (seen_of v k ++ own_events v actions) after.table × CoversValues noted' after.table (kept_in (seen_of v k ++ own_events v actions))))
  save_made old new added = (
    action ∷ [],
    (
      (rows, (added, (t, refl))),
      subst (λ (x : Table). Leaves n k events x × CoversValues noted' x (kept_in events)) (sym (ap (λ (x : TimedTable). x.table) t.same)) (left_after, covered_after),
    ),
  )

  -- if it left no key noted, all that was handed out is the table
  pub whole_left : is_some came ≡ false → (seen : List (Event GhostAction)) (actions : List Action) → seen ≡ seen_of v k ++ own_events v actions → actions ≡ action ∷ [] → Leaves n k seen (kept_in seen)
  whole_left whole seen actions is made = subst (λ es. Leaves n k es (kept_in es)) (sym (is ∙ ap (λ acts. seen_of v k ++ own_events v acts) made))
      (subst (λ (x : Table). Leaves n k events x) (sym (whole_is before noted' (kept_in events) (t.none whole) covered_after)) left_after)

  -- the save leaves the table as it was
  pub still_left : (seen : List (Event GhostAction)) (actions : List Action) → seen ≡ seen_of v k ++ own_events v actions → actions ≡ action ∷ [] → Leaves n k seen before.table
  still_left seen actions is made = subst (λ es. Leaves n k es before.table) (sym (is ∙ ap (λ acts. seen_of v k ++ own_events v acts) made)) left_after
