-- Saves, from the bins to the seat, and from the seat to the pass.
use Rattle.std.proofs.Common.{◌≡◌, ℕ, ◌≤◌, Bool, true, true≢false, List, [], ◌∷◌, length, Option, Some, None, option_map, All, refl, sym, ap, ◌∙◌, subst}
use Rattle.std.specs.Prelude.{IsSome}
use Rattle.std.proofs.lemmas.List.Elements.{All-weaker}
use Rattle.std.specs.FinMap as finmap
use Rattle.atomic_table.specs.Table.{Me}
use Rattle.atomic_table.specs.Seated.{TableId}
use Rattle.stripe_rule.specs.declared.view.View.{View}
use Rattle.stripe_rule.specs.Gains.{seen_of}
use Rattle.stripe_rule.specs.Steps.{Takes, view_of}
use Rattle.bins.specs.Table.{Table}
use Rattle.atomic_methods.specs.Hashes.{stripe_of}
use Rattle.timed_bins.specs.Deadlines.{TimedTable}
use Rattle.noted_bins.specs.declared.taken.Taken.{Taken}
use Rattle.noted_bins.specs.Notes.{is_all}
use Rattle.noted_bins.specs.Rows.{Row, row_of, values_of}
use Rattle.bin_stripes.specs.declared.ghost_action.GhostAction.{GhostAction}
use Rattle.bin_stripes.specs.Actions.{Action, saved}
use Rattle.bin_stripes.specs.Histories.{empty, does, Leaves}
use Rattle.bin_stripes.specs.Saves.{keeps, kept_in, LeavesBins, SavesStripe, TakesAllEntries}
use Rattle.bin_stripes.specs.Releasing.{Lets}
use Rattle.bin_stripes.specs.Deeds.{SavesBy, LetsSave}
use Rattle.bin_stripes.specs.Holding.{Rests}
use Rattle.bin_stripes.specs.Passes.{PassState, stripes_of}
use Rattle.bin_stripes.proofs.SaveLemmas.{whole_left, still_left}
use Rattle.bin_stripes.proofs.StripeTables.{IsWithin, leaves_within}
use Rattle.bin_stripes.proofs.PassLemmas.{state}
use Rattle.bin_stripes.proofs.TimedLemmas.{settles_at, makes_from}

-- what a release lets after a save
pub lets_save : {B : Type 0} (content : B → Table) (noted : B → List ℕ → Bool) (n k : ℕ) (me me' : Me (Option B) (View GhostAction)) (before after : TimedTable) (b : B) (noted' : List ℕ → Bool)
    (old new : List Row) (came : Taken) → LeavesBins content noted n k (seen_of me.0 k) b → before.table ≡ content b
    → Lets (SavesBy old new came (noted b) before noted' after) n k me me' → LetsSave n k old new came me me'
lets_save content noted n k me me' before after b noted' old new came left is l = let by = l.may_be in let rows = by.0 in let t = by.1.1.0 in
    let found : Leaves n k (seen_of me.0 k) before.table = subst (λ (x : Table). Leaves n k (seen_of me.0 k) x) (sym is) left.table in
    let covers = subst (λ (x : Table). Rattle.noted_bins.specs.Notes.CoversValues (noted b) x (kept_in (seen_of me.0 k))) (sym is) left.kept in record {
      rows = rows;
      added = by.1.0;
      bins = before;
      found = found;
      present = t.present;
      lets = record { actions = l.actions; may_be = by.1.1.1; releases = l.releases };
      whole = λ whole. whole_left n k me.0 (noted b) noted' before after rows came found covers t whole (seen_of me'.0 k) l.actions (ap (λ p. p.seen) l.releases.sets.here) by.1.1.1;
    }

-- the table that the save leaves, all of which was taken if it has few enough entries
pub lets_all : {B : Type 0} (content : B → Table) (noted : B → List ℕ → Bool) (n k most : ℕ) (me me' : Me (Option B) (View GhostAction)) (before after : TimedTable) (b : B) (noted' : List ℕ → Bool)
    (old new : List Row) (came : Taken) → LeavesBins content noted n k (seen_of me.0 k) b → before.table ≡ content b → (length (finmap.entries (content b)) ≤ most → is_all came ≡ true)
    → Lets (SavesBy old new came (noted b) before noted' after) n k me me' → TakesAllEntries n k most came me'.0
lets_all content noted n k most me me' before after b noted' old new came left is all l = let by = l.may_be in
    let found : Leaves n k (seen_of me.0 k) before.table = subst (λ (x : Table). Leaves n k (seen_of me.0 k) x) (sym is) left.table in
    let covers = subst (λ (x : Table). Rattle.noted_bins.specs.Notes.CoversValues (noted b) x (kept_in (seen_of me.0 k))) (sym is) left.kept in (
      before.table,
      still_left n k me.0 (noted b) noted' before after by.0 came found covers by.1.1.0 (seen_of me'.0 k) l.actions (ap (λ p. p.seen) l.releases.sets.here) by.1.1.1,
      (λ few. all (subst (λ (x : Table). length (finmap.entries x) ≤ most) is few)),
    )

-- the same of a view that is this one, in a map of as many stripes
pub all_of : (n n' k most : ℕ) (came : Taken) (v v' : View GhostAction) → n ≡ n' → v ≡ v' → TakesAllEntries n k most came v → TakesAllEntries n' k most came v'
all_of n n' k most came v v' same is all = subst (λ (z : ℕ × View GhostAction). TakesAllEntries z.0 k most came z.1) (λ i. (same i, is i)) all

-- a row of an entry has a key of the stripe
row_within : (n k : ℕ) (bins : TimedTable) → IsWithin n k bins.table → (row : Row) → row.1 ≡ row_of bins row.0 → IsSome row.1 → stripe_of n row.0 ≡ k
row_within n k bins within row is some = found (finmap.get bins.table row.0) refl
  where
    found : (x : Option (List ℕ)) → finmap.get bins.table row.0 ≡ x → stripe_of n row.0 ≡ k
    found (Some value) e = within row.0 value e
    found None e = let none : ◌≡◌ {A = Option (List ℕ × Option ℕ)} row.1 None = is ∙ ap (option_map (λ (value : List ℕ). (value, bins.deadline row.0))) e in
        let no : IsSome {T = List ℕ × Option ℕ} None = subst (λ (s : Option (List ℕ × Option ℕ)). IsSome s) none some in absurd (true≢false (sym no))

module _ {B : Type 0} (id : TableId) (views : List (View GhostAction)) (me : Me (Option B) (View GhostAction)) (is : views ≡ me.0 ∷ [])
    (k : ℕ) (me' : Me (Option B) (View GhostAction)) (id' : TableId) (views' : List (View GhostAction)) (is' : views' ≡ me'.0 ∷ [])
    (old : PassState) (view_is : state id views ≡ old) where
  -- a save of the stripe
  pub saves_stripe : (content : B → Table) (noted : B → List ℕ → Bool) (held : Me (Option B) (View GhostAction)) (before after : List Row) (came : Taken)
      → Rests me → Takes (does (stripes_of id)) empty content (keeps content noted) k me held → LetsSave (stripes_of id) k before after came held me' → SavesStripe old k before after came (state id' views')
  saves_stripe content noted held before after came r t l = let did : TimedTable → TimedTable → List Action → Type 0 = λ _ _ actions. actions ≡ saved came (values_of l.rows) ∷ [] in
      let s = settles_at content noted did (stripes_of id) k me held me' r t record { before = l.bins; after = l.bins; found = l.found; lets = l.lets } in
      let m = makes_from id views me is k me' id' views' is' old view_is did s (saved came (values_of l.rows) ∷ []) k s.did_so refl in
      let same : stripes_of id ≡ stripes_of old.map = ap (λ (p : PassState). stripes_of p.map) view_is in record {
        rows = l.rows;
        added = l.added;
        makes = m.0;
        bins = l.bins;
        found = m.1;
        present = l.present;
        of_stripe = subst (λ n. All (λ (row : Row). IsSome row.1 → stripe_of n row.0 ≡ k) l.rows) same
            (All-weaker (λ (row : Row). row.1 ≡ row_of l.bins row.0) (λ row. IsSome row.1 → stripe_of (stripes_of id) row.0 ≡ k)
            (row_within (stripes_of id) k l.bins (leaves_within (stripes_of id) k l.bins.table (seen_of held.0 k) l.found)) l.rows l.present);
        whole = λ whole. subst (λ (z : ℕ × View GhostAction). Leaves z.0 k (seen_of z.1 k) (kept_in (seen_of z.1 k))) (λ i. (same i, sym (ap view_of is') i)) (l.whole whole);
      }

  -- the same, if the table has this name too
  pub saves_stripe_of : (sid : TableId) → id ≡ sid → (content : B → Table) (noted : B → List ℕ → Bool) (held : Me (Option B) (View GhostAction)) (before after : List Row) (came : Taken)
      → Rests me → Takes (does (stripes_of sid)) empty content (keeps content noted) k me held → LetsSave (stripes_of sid) k before after came held me' → SavesStripe old k before after came (state id' views')
  saves_stripe_of sid e content noted held before after came r t l = let x = subst (λ z. Takes (does (stripes_of z)) empty content (keeps content noted) k me held × LetsSave (stripes_of z) k before after came held me') (sym e) (t, l) in
      saves_stripe content noted held before after came r x.0 x.1
