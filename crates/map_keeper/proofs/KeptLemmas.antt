-- What the steps of a save make of the stripes that a file has.
use Rattle.std.proofs.Common.{◌≡◌, ◌≢◌, ◌∙◌, ◌⊎◌, ℕ, zero, suc, ◌+◌, ◌^◌, ◌<◌, ◌≤◌, Bool, true, false, cond, List, [], ◌∷◌, ◌++◌, map, Option, All, IsTrue, refl, sym, ap, subst, inl, inr, arith}
use Rattle.std.proofs.lemmas.List.{map-append}
use Rattle.std.specs.FinMap as finite
use Rattle.std.specs.List.{AllByRecursion}
use Rattle.sqlite.specs.Effect.{Database, IsDatabase}
use Rattle.sqlite.specs.Held.{Held, state}
use Rattle.sqlite.specs.Store as store
use Rattle.sqlite.specs.Tree.{rowid, IsTable, Trees}
use Rattle.sqlite.specs.View.{is_int}
use Rattle.sqlite.specs.Order.{Row}
use Rattle.sqlite.specs.State.{State}
use Rattle.atomic_methods.specs.Methods.{with_value}
use Rattle.bins.specs.Table.{Table}
use Rattle.kept_file.specs.Changes.{Change, IsWithin, changes_bytes}
use Rattle.kept_file.specs.Content.{Appends, ChangesOf, HasBatches, HasTables, batch_in, batches_of, others_of}
use Rattle.kept_file.specs.Rows.{kept_number}
use Rattle.kept_file.specs.Steps.{Step, MakesStep, clearing}
use Rattle.kept_file.specs.Tables.{batches_tree}
use Rattle.kept_file.proofs.AppendLemmas.{appends}
use Rattle.kept_file.proofs.ChangeLemmas.{spells_all}
use Rattle.kept_file.proofs.DeleteLemmas.{clears}
use Rattle.kept_file.proofs.LogLemmas.{changes_beside, changes_cleared, changes_more, cleared_beside}
use Rattle.kept_file.proofs.OtherLemmas.{sets, scripts, programs}
use Rattle.noted_bins.specs.Notes.{is_anew}
use Rattle.noted_bins.specs.Rows.{Row as SavedRow, put_rows, value_in, values_of}
use Rattle.stripe_rule.specs.declared.view.Event.{Event}
use Rattle.stripe_rule.specs.declared.view.View.{View}
use Rattle.stripe_rule.specs.Gains.{mine_of}
use Rattle.bin_stripes.specs.declared.ghost_action.GhostAction.{GhostAction}
use Rattle.bin_stripes.specs.Actions.{Action}
use Rattle.bin_stripes.specs.Histories.{Sound}
use Rattle.bin_stripes.specs.Passes.{PassState, stripes_of}
use Rattle.bin_stripes.specs.Saves.{kept_after, kept_from, kept_in}
use Rattle.map_keeper.proofs.HistoryLemmas.{has_content}
use Rattle.map_keeper.specs.Kept.{IsInStep, IsSavedPartly, with_trees}
use Rattle.map_keeper.specs.Saves.{IsWholeIn}
use Rattle.map_keeper.specs.Stripes.{HasStripe}
use Rattle.map_keeper.proofs.SaveLemmas.{lower_or_not, same_or_not as same_stripe, below as stripe_below}
use Rattle.map_keeper.specs.Written.{Round, BeginsAnew, IsFit, MakesAll, SavesFrom, SavesMap, SavesParts, SavesStripe, WouldSave, WritesPart, IsOther, rows_of, step_of, steps_of, steps_in, action_of, actions_in, begun}

-- stripes below 2 ^ 63 are kept under numbers of their own
pub kept_apart : (j k : ℕ) → j < 2 ^ 63 → k < 2 ^ 63 → j ≢ k → kept_number j ≢ kept_number k
kept_apart j k low high apart e = apart (omega (arith, low, high, e))

-- ---- the table after more rows

put_rows-append : (table : Table) (xs ys : List (List ℕ × Option (List ℕ))) → put_rows table (xs ++ ys) ≡ put_rows (put_rows table xs) ys
put_rows-append table [] ys = refl
put_rows-append table (x ∷ xs) ys = put_rows-append (with_value table x.0 x.1) xs ys

values_more : (table : Table) (xs ys : List Change) → put_rows table (values_of (xs ++ ys)) ≡ put_rows (put_rows table (values_of xs)) (values_of ys)
values_more table xs ys = ap (put_rows table) (map-append (λ (row : Change). (row.0, value_in row.1)) xs ys) ∙ put_rows-append table (values_of xs) (values_of ys)

-- ---- one step

-- a batch comes
stripe_more : (k : ℕ) (part : List Change) (old new : State) (table : Table) → All IsWithin part → Appends (kept_number k) (changes_bytes part) old new → HasStripe old k table
    → HasStripe new k (put_rows table (values_of part))
stripe_more k part old new table within appends had = record {
  changes = had.changes ++ part;
  are = subst (λ (l : List Row). ChangesOf (kept_number k) l (had.changes ++ part)) (sym appends.appended.are)
      (changes_more (kept_number k) (batches_of old) appends.batch (changes_bytes part) had.changes part had.are appends.of_stripe appends.has_bytes (spells_all part within));
  come_to = ap (λ t. put_rows t (values_of part)) had.come_to ∙ sym (values_more finite.empty had.changes part);
}

-- .. of another stripe
more_beside : (j k : ℕ) (bytes : List ℕ) (old new : State) (table : Table) → kept_number j ≢ kept_number k → Appends (kept_number k) bytes old new → HasStripe old j table → HasStripe new j table
more_beside j k bytes old new table apart appends had = record {
  changes = had.changes;
  are = subst (λ (l : List Row). ChangesOf (kept_number j) l had.changes) (sym appends.appended.are)
      (changes_beside (kept_number k) (kept_number j) (batches_of old) appends.batch had.changes apart had.are appends.of_stripe);
  come_to = had.come_to;
}

-- a stripe that is cleared has nothing
stripe_cleared : (k : ℕ) (old new : State) → HasBatches new (others_of (kept_number k) (batches_of old)) → HasStripe new k finite.empty
stripe_cleared k old new cleared = record {
  changes = [];
  are = subst (λ (l : List Row). ChangesOf (kept_number k) l []) (sym cleared.are) (changes_cleared (kept_number k) (batches_of old));
  come_to = refl;
}

-- .. and another what it had
clear_beside : (j k : ℕ) (old new : State) (table : Table) → kept_number j ≢ kept_number k → HasBatches new (others_of (kept_number k) (batches_of old)) → HasStripe old j table → HasStripe new j table
clear_beside j k old new table apart cleared had = record {
  changes = had.changes;
  are = subst (λ (l : List Row). ChangesOf (kept_number j) l had.changes) (sym cleared.are) (cleared_beside (kept_number k) (kept_number j) (batches_of old) had.changes apart had.are);
  come_to = had.come_to;
}

-- if all batches stay, each stripe has what it had
stripe_stays : (j : ℕ) (old new : State) (table : Table) → HasBatches new (batches_of old) → HasStripe old j table → HasStripe new j table
stripe_stays j old new table stay had = record {
  changes = had.changes;
  are = subst (λ (l : List Row). ChangesOf (kept_number j) l had.changes) (sym stay.are) had.are;
  come_to = had.come_to;
}

-- ---- rows and rounds

-- what the stripe k has is `table`, and what other stripes had stays
pub record Changes (k : ℕ) (table : Table) (old new : State) : Type 1 where
  pub tables : HasTables new
  pub mine : HasStripe new k table
  pub others : (j : ℕ) (other : Table) → kept_number j ≢ kept_number k → HasStripe old j other → HasStripe new j other

-- each stripe from `start` up to `end` has what was handed out, and the others below n what they had
pub record ChangesBetween (w : View GhostAction) (n start end : ℕ) (old new : State) : Type 1 where
  pub tables : HasTables new
  pub mine : (j : ℕ) → start ≤ j → j < end → HasStripe new j (kept_in (mine_of w j))
  pub lower : (j : ℕ) (table : Table) → j < start → HasStripe old j table → HasStripe new j table
  pub upper : (j : ℕ) (table : Table) → end ≤ j → j < n → HasStripe old j table → HasStripe new j table

module _ {S : Type 0} (shown : Held S → State) where
  parts_change : (k : ℕ) (parts : List (List SavedRow)) (table : Table) (old new : Held S) → All (All IsWithin) parts → HasTables (shown old) → HasStripe (shown old) k table
      → MakesAll shown (map (step_of k) parts) old new → Changes k (put_rows table (values_of (rows_of parts))) (shown old) (shown new)
  unfolding MakesAll
  parts_change k [] table old new within has stripe same =
      subst (λ (h : Held S). Changes k table (shown old) (shown h)) (sym same) (record { tables = has; mine = stripe; others = λ j other apart was. was })
  parts_change k (part ∷ parts) table old new within has stripe made =
      let one = appends (kept_number k) (changes_bytes part) (shown old) (shown made.0) has made.1 in
      let more = parts_change k parts (put_rows table (values_of part)) made.0 new (λ i d low. within (suc i) d (omega (arith, low))) one.appended.tables
      (stripe_more k part (shown old) (shown made.0) table (within 0 part (omega arith)) one stripe) made.2 in
      record {
        tables = more.tables;
        mine = subst (HasStripe (shown new) k) (sym (values_more table part (rows_of parts))) more.mine;
        others = λ j other apart was. more.others j other apart (more_beside j k (changes_bytes part) (shown old) (shown made.0) other apart one was);
      }

  -- a round, if rows before it count no more, or if the file had what was handed out before it
  round_changes : (k : ℕ) (round : Round) (table : Table) (old new : Held S) → IsFit round → HasTables (shown old) → (is_anew round.taken ≡ true) ⊎ HasStripe (shown old) k table
      → MakesAll shown (steps_of k round) old new → Changes k (kept_after table (action_of round)) (shown old) (shown new)
  unfolding MakesAll
  round_changes k round table old new fit has start made = by_anew (is_anew round.taken) refl start made
    where
      by_anew : (anew : Bool) → is_anew round.taken ≡ anew → (is_anew round.taken ≡ true) ⊎ HasStripe (shown old) k table → MakesAll shown (steps_of k round) old new
          → Changes k (kept_after table (action_of round)) (shown old) (shown new)
      by_anew true is start made =
          let made_all = subst (λ b. MakesAll shown (cond b (clearing k ∷ []) [] ++ map (step_of k) round.parts) old new) is made in
          let cleared = clears shown (kept_number k) old made_all.0 has made_all.1 in
          let more = parts_change k round.parts finite.empty made_all.0 new fit cleared.tables (stripe_cleared k (shown old) (shown made_all.0) cleared) made_all.2 in
          subst (λ b. Changes k (put_rows (cond b finite.empty table) (values_of (rows_of round.parts))) (shown old) (shown new)) (sym is) (record {
            tables = more.tables;
            mine = more.mine;
            others = λ j other apart was. more.others j other apart (clear_beside j k (shown old) (shown made_all.0) other apart cleared was);
          })
      by_anew false is start made =
          let made_rows = subst (λ b. MakesAll shown (cond b (clearing k ∷ []) [] ++ map (step_of k) round.parts) old new) is made in
          let stripe : HasStripe (shown old) k table = elim start [ inl all ↦ absurd (let e = sym is ∙ all in cc) | inr had ↦ had ] in
          subst (λ b. Changes k (put_rows (cond b finite.empty table) (values_of (rows_of round.parts))) (shown old) (shown new)) (sym is)
          (parts_change k round.parts table old new fit has stripe made_rows)

  -- steps, and then more of them
  makes_apart : (xs ys : List Step) (old new : Held S) → MakesAll shown (xs ++ ys) old new → (mid : Held S) × MakesAll shown xs old mid × MakesAll shown ys mid new
  unfolding MakesAll
  makes_apart [] ys old new made = (old, refl, made)
  makes_apart (x ∷ xs) ys old new made = let more = makes_apart xs ys made.0 new made.2 in (more.0, (made.0, made.1, more.1), more.2)

  abbrev after_rounds : Table → List Round → Table
  after_rounds table [] = table
  after_rounds table (round ∷ rounds) = after_rounds (kept_after table (action_of round)) rounds

  later_change : (k : ℕ) (rounds : List Round) (table : Table) (old new : Held S) → All IsFit rounds → HasTables (shown old) → HasStripe (shown old) k table
      → MakesAll shown (steps_in k rounds) old new → Changes k (after_rounds table rounds) (shown old) (shown new)
  unfolding MakesAll
  later_change k [] table old new fit has stripe same =
      subst (λ (h : Held S). Changes k table (shown old) (shown h)) (sym same) (record { tables = has; mine = stripe; others = λ j other apart was. was })
  later_change k (round ∷ rounds) table old new fit has stripe made =
      let parts = makes_apart (steps_of k round) (steps_in k rounds) old new made in
      let one = round_changes k round table old parts.0 (fit 0 round (omega arith)) has (inr stripe) parts.1 in
      let more = later_change k rounds (kept_after table (action_of round)) parts.0 new (λ i d low. fit (suc i) d (omega (arith, low))) one.tables one.mine parts.2 in
      record { tables = more.tables; mine = more.mine; others = λ j other apart was. more.others j other apart (one.others j other apart was) }

  -- all rounds, the first of which may begin anew
  rounds_change : (k : ℕ) (first : Round) (rounds : List Round) (table : Table) (old new : Held S) → All IsFit (first ∷ rounds) → HasTables (shown old) → (is_anew first.taken ≡ true) ⊎ HasStripe (shown old) k table
      → MakesAll shown (steps_in k (first ∷ rounds)) old new → Changes k (after_rounds table (first ∷ rounds)) (shown old) (shown new)
  rounds_change k first rounds table old new fit has start made =
      let parts = makes_apart (steps_of k first) (steps_in k rounds) old new made in
      let one = round_changes k first table old parts.0 (fit 0 first (omega arith)) has start parts.1 in
      let more = later_change k rounds (kept_after table (action_of first)) parts.0 new (λ i d low. fit (suc i) d (omega (arith, low))) one.tables one.mine parts.2 in
      record { tables = more.tables; mine = more.mine; others = λ j other apart was. more.others j other apart (one.others j other apart was) }

  -- what events hand out
  kept_append : (table : Table) (xs ys : List (Event GhostAction)) → kept_from table (xs ++ ys) ≡ kept_from (kept_from table xs) ys
  kept_append table [] ys = refl
  kept_append table (x ∷ xs) ys = kept_append (kept_after table x.action.action) xs ys

  abbrev after_actions : Table → List Action → Table
  after_actions table [] = table
  after_actions table (action ∷ actions) = after_actions (kept_after table action) actions

  kept_by_actions : (table : Table) (events : List (Event GhostAction)) → kept_from table events ≡ after_actions table (actions_in events)
  kept_by_actions table [] = refl
  kept_by_actions table (event ∷ events) = kept_by_actions (kept_after table event.action.action) events

  after_their_actions : (table : Table) (rounds : List Round) → after_rounds table rounds ≡ after_actions table (map action_of rounds)
  after_their_actions table [] = refl
  after_their_actions table (round ∷ rounds) = after_their_actions (kept_after table (action_of round)) rounds

  some_rounds : (rounds : List Round) (events earlier : List (Event GhostAction)) (last : Event GhostAction) → actions_in events ≡ map action_of rounds → events ≡ earlier ++ last ∷ []
      → (first : Round) × (more : List Round) × (rounds ≡ first ∷ more)
  some_rounds [] [] [] last are is = cc
  some_rounds [] [] (x ∷ earlier) last are is = cc
  some_rounds [] (event ∷ events) earlier last are is = cc
  some_rounds (first ∷ more) events earlier last are is = (first, more, refl)

  -- a stripe is saved
  stripe_changes : (anew : Bool) (v w : View GhostAction) (k : ℕ) (old new : Held S) → HasTables (shown old) → IsTrue anew ⊎ HasStripe (shown old) k (kept_in (mine_of v k))
      → SavesStripe shown anew v w k old new → Changes k (kept_in (mine_of w k)) (shown old) (shown new)
  stripe_changes anew v w k old new has start saves =
      let handed = saves.ends.handed in
      let some = some_rounds saves.rounds handed.events saves.ends.earlier saves.ends.last handed.actions saves.ends.mine in
      let table = kept_in (mine_of v k) in
      let begins = subst (BeginsAnew anew) some.2 handed.start in
      let first : (is_anew some.0.taken ≡ true) ⊎ HasStripe (shown old) k table = elim start [ inl all ↦ inl (begins all) | inr had ↦ inr had ] in
      let change = rounds_change k some.0 some.1 table old new (subst (All IsFit) some.2 saves.fit) has first (subst (λ r. MakesAll shown (steps_in k r) old new) some.2 saves.made) in
      let is : after_rounds table (some.0 ∷ some.1) ≡ kept_in (mine_of w k) =
      ap (after_rounds table) (sym some.2) ∙ (after_their_actions table saves.rounds ∙ (ap (after_actions table) (sym handed.actions)
      ∙ (sym (kept_by_actions table handed.events) ∙ (sym (kept_append finite.empty (mine_of v k) handed.events) ∙ ap kept_in (sym handed.made))))) in
      subst (λ t. Changes k t (shown old) (shown new)) is change

  from_changes : (anew : Bool) (v w : View GhostAction) (n start many : ℕ) (old new : Held S) → n ≤ 2 ^ 63 → start + many ≤ n → HasTables (shown old)
      → ((k : ℕ) → start ≤ k → k < start + many → IsTrue anew ⊎ HasStripe (shown old) k (kept_in (mine_of v k))) → SavesFrom shown anew v w start many old new
      → ChangesBetween w n start (start + many) (shown old) (shown new)
  unfolding SavesFrom
  from_changes anew v w n start zero old new high within has begins same =
      subst (λ (h : Held S). ChangesBetween w n start (start + zero) (shown old) (shown h)) (sym same)
      (record { tables = has; mine = λ j up low. absurd (omega (arith, up, low)); lower = λ j table low had. had; upper = λ j table up low had. had })
  from_changes anew v w n start (suc many) old new high within has begins saves =
      let k = start + many in
      let k_low : k < 2 ^ 63 = omega (arith, high, within) in
      let before = from_changes anew v w n start many old saves.0 high (omega (arith, within)) has (λ j up low. begins j up (omega (arith, low))) saves.1 in
      let mine : IsTrue anew ⊎ HasStripe (shown saves.0) k (kept_in (mine_of v k)) = elim (begins k (omega arith) (omega arith)) [
        | inl all ↦ inl all
        | inr had ↦ inr (before.upper k (kept_in (mine_of v k)) (omega arith) (omega (arith, within)) had)
      ] in
      let change = stripe_changes anew v w k saves.0 new before.tables mine saves.2 in
      record {
        tables = change.tables;
        mine = λ j up low. elim (same_stripe j k) [
          | inl same ↦ subst (λ i. HasStripe (shown new) i (kept_in (mine_of w i))) (sym same) change.mine
          | inr apart ↦ change.others j (kept_in (mine_of w j)) (kept_apart j k (omega (arith, low, high, within)) k_low apart) (before.mine j up (stripe_below j k (omega (arith, low)) apart))
        ];
        lower = λ j table low had.
            change.others j table (kept_apart j k (omega (arith, low, high, within)) k_low (λ e. omega (arith, low, e))) (before.lower j table low had);
        upper = λ j table up low had.
            change.others j table (kept_apart j k (omega (arith, low, high)) k_low (λ e. omega (arith, up, e))) (before.upper j table (omega (arith, up)) low had);
      }

  -- ---- what else is written, and the commit

  other_stays : (stripes : ℕ) (step : Step) (old new : Held S) → stripes < 2 ^ 63 → IsOther stripes step → HasTables (shown old) → MakesStep shown step old new
      → HasTables (shown new) × ((j : ℕ) (table : Table) → j < stripes → HasStripe (shown old) j table → HasStripe (shown new) j table)
  other_stays stripes step old new high (inl (k, beyond, is)) has made =
      let cleared = clears shown (kept_number k) old new has (subst (λ (s : Step). MakesStep shown s old new) is made) in (
        cleared.tables,
        λ j table low had.
            let apart : kept_number j ≢ kept_number k = λ e. omega (arith, low, beyond, high, e) in
            clear_beside j k (shown old) (shown new) table apart cleared had,
      )
  other_stays stripes step old new high (inr (inl (count, is))) has made =
      let stays = sets _ (shown old) (shown new) has (subst (λ (s : Step). MakesStep shown s old new) is made) in
      (stays.tables, λ j table low had. stripe_stays j (shown old) (shown new) table stays had)
  other_stays stripes step old new high (inr (inr (inl (text, is)))) has made =
      let stays = scripts _ (shown old) (shown new) has (subst (λ (s : Step). MakesStep shown s old new) is made) in
      (stays.tables, λ j table low had. stripe_stays j (shown old) (shown new) table stays had)
  other_stays stripes step old new high (inr (inr (inr (at, sizes, bytes, is)))) has made =
      let stays = programs _ (shown old) (shown new) has (subst (λ (s : Step). MakesStep shown s old new) is made) in
      (stays.tables, λ j table low had. stripe_stays j (shown old) (shown new) table stays had)

  others_stay : (stripes : ℕ) (others : List Step) (old new : Held S) → stripes < 2 ^ 63 → All (IsOther stripes) others → HasTables (shown old) → MakesAll shown others old new
      → HasTables (shown new) × ((j : ℕ) (table : Table) → j < stripes → HasStripe (shown old) j table → HasStripe (shown new) j table)
  unfolding MakesAll
  others_stay stripes [] old new high are has same =
      (subst (λ (h : Held S). HasTables (shown h)) (sym same) has, λ j table low had. subst (λ (h : Held S). HasStripe (shown h) j table) (sym same) had)
  others_stay stripes (x ∷ others) old new high are has made =
      let one = other_stays stripes x old made.0 high (are 0 x (omega arith)) has made.1 in
      let more = others_stay stripes others made.0 new high (λ i d low. are (suc i) d (omega (arith, low))) one.0 made.2 in
      (more.0, λ j table low had. more.1 j table low (one.1 j table low had))

same_now : (old new : State) → new.now ≡ old.now → HasTables old → HasBatches new (batches_of old)
same_now old new same has = record {
  tables = record {
    tables = ap (λ (d : Database). d.schema) same ∙ has.tables;
    sound = subst IsDatabase (sym same) has.sound;
    ordered = subst (λ (d : Database). IsTable (d.trees batches_tree)) (sym same) has.ordered;
    numbered = subst (λ (d : Database). AllByRecursion (λ row. IsTrue (is_int (rowid row))) (d.trees batches_tree)) (sym same) has.numbered;
  };
  are = ap (λ (d : Database). map batch_in (d.trees batches_tree)) same;
}

-- a stripe has what the next rows are added to
abbrev Begins : Bool → View GhostAction → State → ℕ → Type 0
Begins anew v file k = IsTrue anew ⊎ HasStripe file k (kept_in (mine_of v k))

begins_still : (anew : Bool) (v : View GhostAction) (k : ℕ) (old new : State) → (HasStripe old k (kept_in (mine_of v k)) → HasStripe new k (kept_in (mine_of v k)))
    → Begins anew v old k → Begins anew v new k
begins_still anew v k old new stays (inl all) = inl all
begins_still anew v k old new stays (inr had) = inr (stays had)

-- what a transaction made that saved these stripes, before it is committed
part_changes : {S : Type 0} (g : store.Ghosts S) (anew : Bool) (v w : View GhostAction) (stripes start end : ℕ) (old last : Held S) → stripes < 2 ^ 63 → end ≤ stripes
    → HasTables (state g old) → ((k : ℕ) → start ≤ k → k < end → Begins anew v (state g old) k) → WritesPart (state g) anew v w stripes start end (begun old) last
    → ChangesBetween w stripes start end (state g old) (state g last)
part_changes g anew v w stripes start end old last high within has begins writes =
    let saves = writes.saved in
    let begins_now = same_now (state g old) (state g (begun old)) refl has in
    let moved = λ (k : ℕ) (table : Table). stripe_stays k (state g old) (state g (begun old)) table begins_now in
    let change = subst (λ (n : ℕ). ChangesBetween w stripes start n (state g (begun old)) (state g writes.mid)) saves.are
    (from_changes (state g) anew v w stripes start saves.many (begun old) writes.mid (omega (arith, high)) (omega (arith, within, saves.are)) begins_now.tables
    (λ k up low. begins_still anew v k (state g old) (state g (begun old)) (moved k (kept_in (mine_of v k))) (begins k up (omega (arith, low, saves.are)))) saves.saved) in
    let rest = others_stay (state g) stripes writes.rest.others writes.mid last high writes.rest.are change.tables writes.rest.made in
    record {
      tables = rest.0;
      mine = λ j up low. rest.1 j (kept_in (mine_of w j)) (omega (arith, low, within)) (change.mine j up low);
      lower = λ j table low had. rest.1 j table (omega (arith, low, within, saves.are)) (change.lower j table low (moved j table had));
      upper = λ j table up low had. rest.1 j table low (change.upper j table up low (moved j table had));
    }

-- .. and then it is committed
committed_changes : (w : View GhostAction) (n start end : ℕ) (old mid new : State) → new.now ≡ mid.now → ChangesBetween w n start end old mid → ChangesBetween w n start end old new
committed_changes w n start end old mid new same change =
    let last = same_now mid new same change.tables in
    record {
      tables = last.tables;
      mine = λ j up low. stripe_stays j mid new (kept_in (mine_of w j)) last (change.mine j up low);
      lower = λ j table low had. stripe_stays j mid new table last (change.lower j table low had);
      upper = λ j table up low had. stripe_stays j mid new table last (change.upper j table up low had);
    }

-- more stripes after those below `start`
changes_then : (w : View GhostAction) (n start end : ℕ) (old mid new : State) → start ≤ end → ChangesBetween w n 0 start old mid → ChangesBetween w n start end mid new
    → ChangesBetween w n 0 end old new
changes_then w n start end old mid new more before after = record {
  tables = after.tables;
  mine = λ j up low. elim (lower_or_not j start) [
    | inl less ↦ after.lower j (kept_in (mine_of w j)) less (before.mine j (omega arith) less)
    | inr beyond ↦ after.mine j beyond low
  ];
  lower = λ j table low had. absurd (omega (arith, low));
  upper = λ j table up low had. after.upper j table up low (before.upper j table (omega (arith, up, more)) low had);
}

-- .. which one transaction more made
next_changes : {S : Type 0} (g : store.Ghosts S) (anew : Bool) (v w : View GhostAction) (stripes start end : ℕ) (old : State) (mid last : Held S) → stripes < 2 ^ 63 → end ≤ stripes
    → ((k : ℕ) → k < stripes → Begins anew v old k) → ChangesBetween w stripes 0 start old (state g mid) → WritesPart (state g) anew v w stripes start end (begun mid) last
    → ChangesBetween w stripes 0 end old (state g last)
next_changes g anew v w stripes start end old mid last high within begins before writes =
    changes_then w stripes start end old (state g mid) (state g last) (omega (arith, writes.saved.are)) before
    (part_changes g anew v w stripes start end mid last high within before.tables
    (λ k up low. begins_still anew v k old (state g mid) (before.upper k (kept_in (mine_of v k)) up (omega (arith, low, within))) (begins k (omega (arith, low, within)))) writes)

-- after some parts each stripe below `end` has what was handed out, and the others what they had
pub parts_changes : {S : Type 0} (g : store.Ghosts S) (anew : Bool) (v w : View GhostAction) (stripes parts end : ℕ) (old new : Held S) → stripes < 2 ^ 63 → end ≤ stripes
    → HasTables (state g old) → ((k : ℕ) → k < stripes → Begins anew v (state g old) k) → SavesParts (state g) anew v w stripes parts end old new
    → ChangesBetween w stripes 0 end (state g old) (state g new)
unfolding SavesParts
parts_changes g anew v w stripes zero end old new high within has begins saves =
    subst (λ (h : Held _). ChangesBetween w stripes 0 end (state g old) (state g h)) (sym saves.1)
    (record { tables = has; mine = λ j up low. absurd (omega (arith, low, saves.0)); lower = λ j table low had. had; upper = λ j table up low had. had })
parts_changes g anew v w stripes (suc parts) end old new high within has begins saves =
    let start = saves.1 in
    let part = saves.3 in
    let before = parts_changes g anew v w stripes parts start old saves.0 high (omega (arith, within, part.wrote.saved.are)) has begins saves.2 in
    committed_changes w stripes 0 end (state g old) (state g part.last) (state g new) part.committed.now_is
    (next_changes g anew v w stripes start end (state g old) saves.0 part.last high within begins before part.wrote)

-- after a save that was committed the file is in step
pub in_step : {S : Type 0} (g : store.Ghosts S) (anew : Bool) (v w : View GhostAction) (stripes : ℕ) (old new : Held S) → stripes < 2 ^ 63
    → SavesMap (state g) anew v w stripes old new → IsInStep anew v stripes (state g old) → IsInStep false w stripes (state g new)
in_step g anew v w stripes old new high saves step =
    let change = parts_changes g anew v w stripes (suc saves.0) stripes old new high (omega arith) step.tables step.stripes saves.1 in
    record { tables = change.tables; stripes = λ k low. inr (change.mine k (omega arith) low) }

-- the stripes of all parts are whole
parts_whole : {S : Type 0} (g : store.Ghosts S) (anew : Bool) (v w : View GhostAction) (stripes parts end : ℕ) (old new : Held S) → SavesParts (state g) anew v w stripes parts end old new
    → (k : ℕ) → k < end → IsWholeIn stripes w k
unfolding SavesParts
parts_whole g anew v w stripes zero end old new saves k low = absurd (omega (arith, low, saves.0))
parts_whole g anew v w stripes (suc parts) end old new saves k low = elim (lower_or_not k saves.1) [
  | inl less ↦ parts_whole g anew v w stripes parts saves.1 old saves.0 saves.2 k less
  | inr up ↦ saves.3.wrote.whole k up low
]

-- what a save would leave that is cut off has each stripe as it was, or as it was handed out, which is its content if no other pass saves
pub would_leave_stripes : {S : Type 0} (g : store.Ghosts S) (anew : Bool) (v : View GhostAction) (pass : PassState) (old : Held S) (trees : Trees) → stripes_of pass.map < 2 ^ 63
    → Sound (stripes_of pass.map) pass.view → IsInStep anew v (stripes_of pass.map) (state g old) → WouldSave (state g) anew v pass.view (stripes_of pass.map) old trees
    → IsSavedPartly pass (stripes_of pass.map) (state g old) (with_trees (state g old) trees)
would_leave_stripes g anew v pass old trees high sound step would =
    let w = pass.view in
    let stripes = stripes_of pass.map in
    let next = would.next in
    let last = state g next.last in
    let left = with_trees (state g old) trees in
    let before = parts_changes g anew v w stripes would.earlier would.start old would.mid high (omega (arith, would.within, next.wrote.saved.are)) step.tables step.stripes would.saved in
    let change = next_changes g anew v w stripes would.start would.end (state g old) would.mid next.last high would.within step.stripes before next.wrote in
    let same : left.now ≡ last.now = λ i. record { schema = (step.tables.tables ∙ sym change.tables.tables) i; trees = next.are i } in
    let stay = same_now last left same change.tables in
    let saved : (k : ℕ) → k < would.end → HasStripe left k (kept_in (mine_of w k)) =
    λ k low. stripe_stays k last left (kept_in (mine_of w k)) stay (change.mine k (omega arith) low) in
    let whole : (k : ℕ) → k < would.end → IsWholeIn stripes w k = λ k low. elim (lower_or_not k would.start) [
      | inl less ↦ parts_whole g anew v w stripes would.earlier would.start old would.mid would.saved k less
      | inr up ↦ next.wrote.whole k up low
    ] in
    record {
      tables = stay.tables;
      reached = would.end;
      saved = saved;
      content = λ k q low one only. has_content pass left q k sound one only (whole k low) (saved k low);
      others = λ k table up low had. stripe_stays k last left table stay (change.upper k table up low had);
    }
