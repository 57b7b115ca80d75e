-- Actions on the bins of a stripe, as events after those that were seen.
use Rattle.std.proofs.Common.{◌≡◌, ℕ, true, false, cond, is_eq, List, [], ◌∷◌, ◌++◌, Option, Some, None, refl, sym, ap, ◌∙◌, subst, map}
use Rattle.std.specs.Option.{option_map}
use Rattle.std.specs.Ordering.{eq_by_cmp}
use Rattle.std.specs.Cmp.{tied_itself}
use Rattle.std.specs.FinMap as finmap
use Rattle.std.specs.FinMap.{find, same_map, get-entries, get-insert, len-entries, entries_sorted}
use Rattle.stripe_rule.specs.declared.view.View.{View}
use Rattle.stripe_rule.specs.History.{Replays}
use Rattle.stripe_rule.specs.Gains.{seen_of}
use Rattle.stripe_rule.proofs.HistoryLemmas.{Replays-append}
use Rattle.bpf_model.specs.Fits.{input_of}
use Rattle.verifier.specs.Checked.{Checked}
use Rattle.bins.specs.declared.counts.Counts.{Counts}
use Rattle.bins.specs.Table.{Entry, Table, by_bytes}
use Rattle.bins.specs.Entries.{Distinct}
use Rattle.bins.proofs.MapEdits.{total, antisymmetric}
use Rattle.bins.proofs.DistinctEntries.{alike}
use Rattle.bins.proofs.EntryCounts.{Distinct-sorted}
use Rattle.bins.specs.Replacements.{Outcome, ComesTo, value_after, ReplacesEach}
use Rattle.atomic_methods.specs.declared.reply.Reply.{Reply}
use Rattle.atomic_methods.specs.Hashes.{stripe_of}
use Rattle.atomic_methods.specs.Invocations.{Invocation}
use Rattle.atomic_methods.specs.Methods.{Answers}
use Rattle.atomic_methods.proofs.WholeLemmas.{some_of_none}
use Rattle.bin_stripes.specs.declared.ghost_action.GhostAction.{GhostAction}
use Rattle.bin_stripes.specs.Actions.{Action, called, scanned, replaced, Does}
use Rattle.bin_stripes.specs.Histories.{does, empty, own_events, Leaves}
use Rattle.bin_stripes.specs.Invoked.{AreReplacements}
use Rattle.bin_stripes.specs.Saves.{kept_from}
use Rattle.bin_stripes.proofs.SaveLemmas.{HandNothingOut}
use Rattle.bin_stripes.proofs.StripeTables.{IsWithin, leaves_within}

module _ (n k : ℕ) where
  leaves_more : (v : View GhostAction) (t u : Table) (actions : List Action) → Leaves n k (seen_of v k) t
      → Replays (does n k) t (own_events v actions) u → Leaves n k (seen_of v k ++ own_events v actions) u
  leaves_more v t u actions l r = Replays-append (does n k) empty t u (seen_of v k) (own_events v actions) l r

  -- nothing was done; w is then the view
  pub nothing_made : (v w : View GhostAction) (t u : Table) → w ≡ v → u ≡ t → Leaves n k (seen_of v k) t
      → (actions : List Action) × ((actions ≡ []) × Leaves n k (seen_of w k ++ own_events w actions) u)
  nothing_made v w t u is same l = subst (λ (x : View GhostAction × Table). (actions : List Action) × ((actions ≡ []) × Leaves n k (seen_of x.0 k ++ own_events x.0 actions) x.1)) (λ i. (sym is i, sym same i))
      ([], (refl, leaves_more v t t [] l refl))

  -- one action was done
  one_made : (v w : View GhostAction) (t u : Table) (action : Action) → w ≡ v → Leaves n k (seen_of v k) t → Does n k t action u
      → (actions : List Action) × ((actions ≡ action ∷ []) × Leaves n k (seen_of w k ++ own_events w actions) u)
  one_made v w t u action is l d = subst (λ (x : View GhostAction). (actions : List Action) × ((actions ≡ action ∷ []) × Leaves n k (seen_of x k ++ own_events x actions) u)) (sym is)
      (action ∷ [], (refl, leaves_more v t u (action ∷ []) l (u, (d, refl))))

  pub call_made : (v w : View GhostAction) (t u : Table) (invocation : Invocation) (reply : Reply) → w ≡ v → Leaves n k (seen_of v k) t
      → stripe_of n invocation.key ≡ k → Answers t invocation u reply
      → (actions : List Action) × ((actions ≡ called invocation reply ∷ []) × Leaves n k (seen_of w k ++ own_events w actions) u)
  call_made v w t u invocation reply is l here answers = one_made v w t u (called invocation reply) is l (here, answers)

  pub scan_made : (v w : View GhostAction) (t : Table) (entries : List Entry) → w ≡ v → Leaves n k (seen_of v k) t → entries ≡ finmap.entries t
      → (actions : List Action) × ((actions ≡ scanned entries ∷ []) × Leaves n k (seen_of w k ++ own_events w actions) t)
  scan_made v w t entries is l found = one_made v w t t (scanned entries) is l (found, refl)

  module _ (program : Checked) (arg : Option (List ℕ)) (outcome : List ℕ → Outcome) where
    abbrev pub action_at : Entry → Action
    action_at e = replaced e.0 program arg (outcome e.0)

    -- the remaining entries are as in the old table, and all others as in the new one
    abbrev Between : Table → Table → List Entry → Table → Type 0
    Between old new todo t = (q : List ℕ) → ((find by_bytes q todo ≡ None → finmap.get t q ≡ finmap.get new q)
        × ((v : List ℕ) → find by_bytes q todo ≡ Some v → finmap.get t q ≡ Some v))

    module _ (old new : Table) (v : View GhostAction)
        (values : (q : List ℕ) → finmap.get new q ≡ option_map (value_after (outcome q)) (finmap.get old q))
        (comes : (key value : List ℕ) → finmap.get old key ≡ Some value → ComesTo program (input_of key (Some value) arg) (outcome key))
        (within : IsWithin n k old) where
      -- one more entry is replaced
      next_between : (e : Entry) (rest : List Entry) (t : Table) → finmap.get old e.0 ≡ Some e.1 → find by_bytes e.0 rest ≡ None
          → Between old new (e ∷ rest) t → Between old new rest (finmap.insert t e.0 (value_after (outcome e.0) e.1))
      next_between e rest t was once b q = let u = finmap.insert t e.0 (value_after (outcome e.0) e.1) in
          elim (eq_by_cmp by_bytes q e.0) as (λ x. eq_by_cmp by_bytes q e.0 ≡ x
          → ((cond x (Some e.1) (find by_bytes q rest) ≡ None → finmap.get t q ≡ finmap.get new q)
          × ((z : List ℕ) → cond x (Some e.1) (find by_bytes q rest) ≡ Some z → finmap.get t q ≡ Some z))
          → (finmap.get u q ≡ cond x (Some (value_after (outcome e.0) e.1)) (finmap.get t q))
          → ((find by_bytes q rest ≡ None → finmap.get u q ≡ finmap.get new q)
          × ((z : List ℕ) → find by_bytes q rest ≡ Some z → finmap.get u q ≡ Some z))) [
            | true ↦ λ same here is. let at = alike q e.0 same in (
              (λ none. is ∙ sym (values q ∙ ap (λ (o : Outcome × Option (List ℕ)). option_map (value_after o.0) o.1) (λ i. (outcome (at i), (ap (finmap.get old) at ∙ was) i)))),
              λ z found. absurd (some_of_none (find by_bytes q rest) z (ap (λ x. find by_bytes x rest) at ∙ once) found),
            )
            | false ↦ λ other here is. ((λ none. is ∙ here.0 none), λ z found. is ∙ here.1 z found)
          ] refl (b q) (get-insert total t e.0 (value_after (outcome e.0) e.1) q)

      replays_rest : (todo : List Entry) (t : Table) → Distinct todo → ((q z : List ℕ) → find by_bytes q todo ≡ Some z → finmap.get old q ≡ Some z) → Between old new todo t
          → Replays (does n k) t (own_events v (map action_at todo)) new
      replays_rest [] t d from b = same_map total antisymmetric new t (λ q. sym ((b q).0 refl))
      replays_rest (e ∷ rest) t d from b = let first : find by_bytes e.0 (e ∷ rest) ≡ Some e.1 = ap (λ r. cond (is_eq r) (Some e.1) (find by_bytes e.0 rest)) (tied_itself total e.0) in
          let was = from e.0 e.1 first in let u = finmap.insert t e.0 (value_after (outcome e.0) e.1) in (
            u,
            (
              (within e.0 e.1 was, (e.1, ((b e.0).1 e.1 first, (comes e.0 e.1 was, refl)))),
              replays_rest rest u d.1 (λ q z found. from q z (behind e rest q z d.0 found)) (next_between e rest t was d.0 b),
            ),
          )
        where
          behind : (e : Entry) (rest : List Entry) (q z : List ℕ) → find by_bytes e.0 rest ≡ None → find by_bytes q rest ≡ Some z → find by_bytes q (e ∷ rest) ≡ Some z
          behind e rest q z once found = elim (eq_by_cmp by_bytes q e.0) as (λ b. eq_by_cmp by_bytes q e.0 ≡ b → cond b (Some e.1) (find by_bytes q rest) ≡ Some z) [
            | true ↦ λ same. absurd (some_of_none (find by_bytes q rest) z (ap (λ x. find by_bytes x rest) (alike q e.0 same) ∙ once) found)
            | false ↦ λ other. found
          ] refl

      pub replays_all : Replays (does n k) old (own_events v (map action_at (finmap.entries old))) new
      replays_all = replays_rest (finmap.entries old) old (Distinct-sorted (finmap.entries old) (entries_sorted old)) (λ q z found. get-entries old q ∙ found)
          (λ q. ((λ none. sym (values q ∙ (ap (option_map (value_after (outcome q))) (get-entries old q ∙ none) ∙ sym (get-entries old q ∙ none)))), λ z found. get-entries old q ∙ found))

  -- each key's value was replaced
  pub replacements_made : (v w : View GhostAction) (old new : Table) (program : Checked) (arg : Option (List ℕ)) (counts : Counts) → w ≡ v → Leaves n k (seen_of v k) old → ReplacesEach program arg old new counts
      → (actions : List Action) × (AreReplacements program arg (finmap.entries old) actions counts × Leaves n k (seen_of w k ++ own_events w actions) new)
  replacements_made v w old new program arg counts is l r = let actions : List Action = map (action_at program arg r.outcome) (finmap.entries old) in (
    actions,
    (
      record { outcome = r.outcome; actions_are = refl; scanned_are = r.scanned ∙ len-entries old; given_are = r.given; unfit_are = r.unfit },
      subst (λ (x : View GhostAction). Leaves n k (seen_of x k ++ own_events x actions) new) (sym is)
          (leaves_more v old new actions l (replays_all program arg r.outcome old new v r.values r.comes_to (leaves_within n k old (seen_of v k) l))),
    ),
  )

-- none of these actions hands anything out
pub nothing_hands_out : (actions : List Action) → actions ≡ [] → HandNothingOut actions
nothing_hands_out actions is v kept = ap (λ acts. kept_from kept (own_events v acts)) is

pub scan_hands_out : (entries : List Entry) (actions : List Action) → actions ≡ scanned entries ∷ [] → HandNothingOut actions
scan_hands_out entries actions is v kept = ap (λ acts. kept_from kept (own_events v acts)) is

pub replacements_hand_out : (program : Checked) (arg : Option (List ℕ)) (entries : List Entry) (actions : List Action) (counts : Counts)
    → AreReplacements program arg entries actions counts → HandNothingOut actions
replacements_hand_out program arg entries actions counts r v kept = ap (λ acts. kept_from kept (own_events v acts)) r.actions_are ∙ none entries
  where
    none : (entries : List Entry) → kept_from kept (own_events v (map (λ entry. replaced entry.0 program arg (r.outcome entry.0)) entries)) ≡ kept
    none [] = refl
    none (entry ∷ rest) = none rest
