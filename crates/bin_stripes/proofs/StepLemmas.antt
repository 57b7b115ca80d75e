-- The steps of a map's table on one stripe, by the lemmas of the rule.
use Rattle.std.proofs.Common.{◌≡◌, ◌≢◌, ℕ, ◌<◌, ◌==◌, Bool, true, false, MatchBool, eqb, List, [], ◌∷◌, ◌++◌, Option, Some, None, inl, inr, refl, sym, ap, ◌∙◌, subst, map}
use Rattle.std.proofs.lemmas.Bool.{cases_eq, ne_eqb}
use mathlib.Core.Option as maybe
use prog.Atomic.{either}
use Rattle.atomic_table.specs.Table.{State, Me, step, rest, Allows}
use Rattle.atomic_table.specs.Seated.{TableId}
use Rattle.stripe_rule.specs.declared.view.View.{View}
use Rattle.stripe_rule.specs.History.{AreUnder}
use Rattle.stripe_rule.specs.Gains.{least, Carries, held_at, seen_of, mine_of, own_event, part_of, Adds}
use Rattle.stripe_rule.specs.Words.{word_at}
use Rattle.stripe_rule.specs.Rule.{Kept}
use Rattle.stripe_rule.specs.Steps.{SetsPart, Extends, Looks, Takes, Releases, grown}
use Rattle.stripe_rule.proofs.TakeLemmas.{takes_it, looks}
use Rattle.stripe_rule.proofs.ReleaseLemmas.{releases}
use Rattle.stripe_rule.proofs.CallLemmas.{least_has, own_under, own_same, carries_same, extends_again, adds_none, adds_after, idle_after, idle_released}
use Rattle.bins.specs.Table.{Table}
use Rattle.bin_stripes.specs.declared.ghost_action.GhostAction.{GhostAction}
use Rattle.bin_stripes.specs.declared.rule.Shape.{Shape}
use Rattle.bin_stripes.specs.Actions.{Action}
use Rattle.bin_stripes.specs.Histories.{empty, does, own_events, Leaves}
use Rattle.bin_stripes.specs.Saves.{keeps, LeavesBins}
use Rattle.bin_stripes.specs.Releasing.{stripe_looked, stripe_took, stripe_released, Lets}
use Rattle.bin_stripes.specs.Holding.{IsLaid, Rests, Settles, SeatHolds, SeatRefuses, SeatReplaces}
use Rattle.bin_stripes.specs.Invoked.{AreReplacements}
use Rattle.verifier.specs.Checked.{Checked}
use Rattle.bins.specs.declared.counts.Counts.{Counts}
use Rattle.std.specs.FinMap as finmap

-- the action of an action
abbrev pub deed_of : Action → GhostAction
deed_of action = record { action = action }

-- a pass's own events as events of actions
pub events_are : (v : View GhostAction) (actions : List Action) → map (own_event v) (map deed_of actions) ≡ own_events v actions
events_are v [] = refl
events_are v (a ∷ rest) = ap (λ es. own_event v (deed_of a) ∷ es) (events_are v rest)

pub events_under : (v : View GhostAction) (actions : List Action) → Carries v (least v.numbers) → AreUnder v.numbers (own_events v actions)
events_under v actions c = subst (λ es. AreUnder v.numbers es) (events_are v actions) (own_under v (map deed_of actions) c)

pub events_same : (v w : View GhostAction) (actions : List Action) → w.numbers ≡ v.numbers → own_events w actions ≡ own_events v actions
events_same v w actions e = sym (events_are w actions) ∙ (own_same v w (map deed_of actions) e ∙ events_are v actions)

-- if a word of 0 means one thing and any other word another, a test for 0 tells which
pub won_or_lost : {P Q : Type 0} (found : ℕ) → (found ≡ 0 → P) × (found ≢ 0 → Q) → MatchBool (found == 0) P Q
won_or_lost {P = P} {Q = Q} found p = elim (cases_eq found 0) [
  | inl e ↦ subst (λ n. MatchBool (n == 0) P Q) (sym e) (p.0 e)
  | inr ne ↦ let test : (found == 0) ≡ false = ne_eqb found 0 ne in subst (λ b. MatchBool b P Q) (sym test) (p.1 ne)
]

module _ {B : Type 0} (content : B → Table) (noted : B → List ℕ → Bool) (table : TableId) (shape : Shape) (laid : IsLaid table shape) where
  abbrev pub Rule : State (Option B) (View GhostAction) → Type 0
  Rule = Kept (does shape.stripes) empty content (keeps content noted) shape.stripes shape.passes

  -- a take of a stripe, won or lost
  pub takes_stripe : (id k : ℕ) (me : Me (Option B) (View GhostAction)) → k < table.slots → Carries me.0 (least me.0.numbers) → held_at me.0 k ≡ false
      → Allows Rule table.slots id me (word_at k) (λ n. either (eqb n 0) 1 n) (stripe_took content noted (step table.slots (word_at k) 0 1 maybe.none) me)
  takes_stripe id k me inside c idle =
      subst (λ n. Allows (Kept (does n) empty content (keeps content noted) n shape.passes) table.slots id me (word_at k) (λ x. either (eqb x 0) 1 x) (stripe_took content noted (step table.slots (word_at k) 0 1 maybe.none) me)) (sym laid.stripes)
      (takes_it (does table.slots) empty content (keeps content noted) table.slots shape.passes table.slots id k me (least me.0.numbers) inside c idle)

  -- a look at a stripe
  pub looks_at : (id k : ℕ) (me : Me (Option B) (View GhostAction)) → k < table.slots → Carries me.0 (least me.0.numbers)
      → Allows Rule table.slots id me (word_at k) (λ n. n) (stripe_looked (step table.slots (word_at k) 0 0 maybe.none) me)
  looks_at id k me inside c =
      subst (λ n. Allows (Kept (does n) empty content (keeps content noted) n shape.passes) table.slots id me (word_at k) (λ x. x) (stripe_looked (step table.slots (word_at k) 0 0 maybe.none) me)) (sym laid.stripes)
      (looks (does table.slots) empty content (keeps content noted) table.slots shape.passes table.slots id k me (least me.0.numbers) inside c)

  -- a release that adds these actions
  pub releases_stripe : (may : List Action → Type 0) (id k : ℕ) (me : Me (Option B) (View GhostAction)) → k < table.slots → Carries me.0 (least me.0.numbers) → held_at me.0 k ≡ true
      → (bins : B) (others : List (ℕ × Option B)) → me.1 ≡ (k, Some bins) ∷ others
      → (actions : List Action) → may actions → LeavesBins content noted table.slots k (seen_of me.0 k ++ own_events me.0 actions) bins
      → Allows Rule table.slots id me (word_at k) (λ _. 0) (stripe_released may (step table.slots (word_at k) 0 0 maybe.none) me)
  releases_stripe may id k me inside c held bins others out actions may_be leaves s r wide at small =
      let t = subst (λ n. Allows (Kept (does n) empty content (keeps content noted) n shape.passes) table.slots id me (word_at k) (λ _. 0) (Rattle.stripe_rule.specs.Steps.released (does table.slots) empty (own_events me.0 actions) (step table.slots (word_at k) 0 0 maybe.none) me)) (sym laid.stripes)
      (releases (does table.slots) empty content (keeps content noted) table.slots shape.passes table.slots id k me others bins (own_events me.0 actions) (least me.0.numbers) inside c held out leaves.table leaves.kept (events_under me.0 actions c)) s r wide at small in
      (t.0, t.1, t.2, t.3, λ j e. record { actions = actions; may_be = may_be; releases = t.4 j e })

module _ {B : Type 0} (content : B → Table) (noted : B → List ℕ → Bool) (stripes k : ℕ) where
  -- a take after looks
  pub takes_since : (v : View GhostAction) (me me' : Me (Option B) (View GhostAction)) (out : List (ℕ × Option B)) → me.1 ≡ out → Extends v k false me.0
      → Takes (does stripes) empty content (keeps content noted) k me me' → Takes (does stripes) empty content (keeps content noted) k (v, out) me'
  takes_since v me me' out is e t = record {
    extends = extends_again v me.0 me'.0 k false true e t.extends;
    sound = t.sound;
    out = record { bins = t.out.bins; out = t.out.out ∙ ap (λ l. (k, Some t.out.bins) ∷ l) is; content_is = t.out.content_is; beside_is = t.out.beside_is };
  }

  -- a lost take after looks
  pub looks_since : (v : View GhostAction) (me me' : Me (Option B) (View GhostAction)) (out : List (ℕ × Option B)) → me.1 ≡ out → Extends v k false me.0
      → Looks (does stripes) empty k me me' → (me'.1 ≡ out) × Extends v k false me'.0
  looks_since v me me' out is e l = (
    l.out ∙ is,
    extends_again v me.0 me'.0 k false false e (subst (λ b. Extends me.0 k b me'.0) (ap (λ p. p.held) e.sets.here) l.extends),
  )

  -- after a take the seat holds the stripe
  pub holds_after : (me me' : Me (Option B) (View GhostAction)) → Carries me.0 (least me.0.numbers) → Takes (does stripes) empty content (keeps content noted) k me me' → SeatHolds content noted stripes k me'
  holds_after me me' c t = record {
    held = ap (λ p. p.held) t.extends.sets.here;
    some = least_has (least me.0.numbers) me'.0.numbers (carries_same me.0 me'.0 (least me.0.numbers) t.extends.sets.numbers c);
    bins = t.out.bins;
    others = me.1;
    out = t.out.out;
    left = record { table = t.out.content_is; kept = t.out.beside_is };
  }

  -- a lost take of a seat at rest
  pub settles_lost : (me me' : Me (Option B) (View GhostAction)) → Rests me → Looks (does stripes) empty k me me' → Settles stripes k me [] me'
  settles_lost me me' r l = let e : Extends me.0 k false me'.0 = subst (λ b. Extends me.0 k b me'.0) (r.idle k) l.extends in record {
    adds = adds_none me.0 me'.0 k false e;
    passes = e.sets.passes;
    wide = e.sets.wide;
    sound = l.sound;
    rests = record {
      idle = idle_after me.0 me'.0 k r.idle e;
      some = least_has (least me.0.numbers) me'.0.numbers (carries_same me.0 me'.0 (least me.0.numbers) e.sets.numbers r.some);
      none_out = l.out ∙ r.none_out;
    };
  }

  pub rests_after : (me held me' : Me (Option B) (View GhostAction)) (actions : List Action) → Rests me → Takes (does stripes) empty content (keeps content noted) k me held
      → Releases (does stripes) empty (own_events held.0 actions) k held me' → Rests me'
  rests_after me held me' actions r t l = record {
    idle = idle_released me.0 held.0 me'.0 k true (own_events held.0 actions) r.idle t.extends l.sets;
    some = least_has (least me.0.numbers) me'.0.numbers (carries_same me.0 me'.0 (least me.0.numbers) (l.sets.numbers ∙ t.extends.sets.numbers) r.some);
    none_out = l.out ∙ (ap rest t.out.out ∙ r.none_out);
  }

  -- what a take and the release after it add, with the pass's least number
  abbrev pub adds_own : (me held me' : Me (Option B) (View GhostAction)) (actions : List Action) → Takes (does stripes) empty content (keeps content noted) k me held
      → Releases (does stripes) empty (own_events held.0 actions) k held me' → Adds me.0 k (own_events me.0 actions) me'.0
  adds_own me held me' actions t l = let a = adds_after me.0 held.0 me'.0 k true (own_events held.0 actions) t.extends l.sets in
      let same = events_same me.0 held.0 actions t.extends.sets.numbers in record {
        numbers = a.numbers;
        here = record {
          between = t.extends.between;
          others = t.extends.others;
          seen = ap (λ p. p.seen) l.sets.here ∙ (ap (λ p. p.seen ++ own_events held.0 actions) t.extends.sets.here ∙ ap (λ es. (seen_of me.0 k ++ t.extends.between) ++ es) same);
          mine = a.here.mine ∙ ap (λ es. mine_of me.0 k ++ es) same;
        };
        elsewhere = a.elsewhere;
      }

  -- a take, and the release after it
  abbrev pub settles_after : (me held me' : Me (Option B) (View GhostAction)) (actions : List Action) → Rests me → Takes (does stripes) empty content (keeps content noted) k me held
      → Releases (does stripes) empty (own_events held.0 actions) k held me' → Settles stripes k me actions me'
  settles_after me held me' actions r t l = record {
    adds = adds_own me held me' actions t l;
    passes = l.sets.passes ∙ t.extends.sets.passes;
    wide = l.sets.wide ∙ t.extends.sets.wide;
    sound = l.sound;
    rests = rests_after me held me' actions r t l;
  }

  -- the same, if it is known which actions were added
  pub settles_as : (me held me' : Me (Option B) (View GhostAction)) (actions : List Action) → Rests me → Takes (does stripes) empty content (keeps content noted) k me held
      → Lets (λ made. made ≡ actions) stripes k held me' → Settles stripes k me actions me'
  settles_as me held me' actions r t l = settles_after me held me' actions r t
      (subst (λ a. Releases (does stripes) empty (own_events held.0 a) k held me') l.may_be l.releases)

  -- a refusal after a take is still one after a release that adds nothing
  pub refuses_after : (held me' : Me (Option B) (View GhostAction)) (invocation : Rattle.atomic_methods.specs.Invocations.Invocation) → Lets (λ made. made ≡ []) stripes k held me'
      → SeatRefuses stripes k held invocation → SeatRefuses stripes k me' invocation
  refuses_after held me' invocation l r = record {
    table = r.table;
    left = subst (λ es. Leaves stripes k es r.table)
        (sym (ap (λ p. p.seen) l.releases.sets.here ∙ (ap (λ a. seen_of held.0 k ++ own_events held.0 a) l.may_be ∙ Rattle.std.proofs.Common.append-nil (seen_of held.0 k)))) r.left;
    adds = r.adds;
  }

  -- replacements after a take
  pub replaces_after : (me held me' : Me (Option B) (View GhostAction)) (program : Checked) (arg : Option (List ℕ)) (counts : Counts) → Rests me → Takes (does stripes) empty content (keeps content noted) k me held
      → (table : Table) → Leaves stripes k (seen_of held.0 k) table → Lets (λ made. AreReplacements program arg (finmap.entries table) made counts) stripes k held me'
      → SeatReplaces stripes k me program arg counts me'
  replaces_after me held me' program arg counts r t table found l = record {
    actions = l.actions;
    settles = settles_after me held me' l.actions r t l.releases;
    table = table;
    found = subst (λ es. Leaves stripes k es table) (ap (λ p. p.seen) t.extends.sets.here) found;
    are = l.may_be;
  }

  abbrev pub first_bins : B → List (ℕ × Option B) → B
  first_bins d [] = d
  first_bins d ((j, None) ∷ xs) = d
  first_bins d ((j, Some b) ∷ xs) = b

  -- the bins that are out
  pub found_bins : (me : Me (Option B) (View GhostAction)) (b : B) (others : List (ℕ × Option B)) → SeatHolds content noted stripes k me → me.1 ≡ (k, Some b) ∷ others → LeavesBins content noted stripes k (seen_of me.0 k) b
  found_bins me b others h out = subst (λ (x : B). LeavesBins content noted stripes k (seen_of me.0 k) x) (ap (first_bins b) (sym h.out ∙ out)) h.left

  -- their contents
  pub found_is : (me : Me (Option B) (View GhostAction)) (b : B) (others : List (ℕ × Option B)) → SeatHolds content noted stripes k me → me.1 ≡ (k, Some b) ∷ others → Leaves stripes k (seen_of me.0 k) (content b)
  found_is me b others h out = (found_bins me b others h out).table

  -- a seat that holds the stripe still holds it while the bins are out
  pub held_still : (me : Me (Option B) (View GhostAction)) (v : View GhostAction) (xs others : List (ℕ × Option B)) → SeatHolds content noted stripes k me → v ≡ me.0 → xs ≡ (k, None) ∷ others
      → (held_at v k ≡ true) × Carries v (least v.numbers) × ((others : List (ℕ × Option B)) × (xs ≡ (k, None) ∷ others))
  held_still me v xs others h is out = (ap (λ (x : View GhostAction). held_at x k) is ∙ h.held, subst (λ (x : View GhostAction). Carries x (least x.numbers)) (sym is) h.some, (others, out))

module _ {B : Type 0} (stripes k : ℕ) where
  -- what a release lets, given the seat while the bins were out, or before
  pub lets_from : (may : List Action → Type 0) (me mid me' : Me (Option B) (View GhostAction)) (others : List (ℕ × Option B)) (x y : Option B) → mid.0 ≡ me.0 → me.1 ≡ (k, x) ∷ others → mid.1 ≡ (k, y) ∷ others
      → Lets may stripes k mid me' → Lets may stripes k me me'
  lets_from may me mid me' others x y is before after l = record {
    actions = l.actions;
    may_be = l.may_be;
    releases = record {
      sets = subst (λ (v : View GhostAction). SetsPart v k (grown (part_of v k) (own_events v l.actions)) me'.0) is l.releases.sets;
      sound = l.releases.sound;
      out = l.releases.out ∙ (ap rest after ∙ sym (ap rest before));
    };
  }

  pub lets_as : (may may' : List Action → Type 0) (me me' : Me (Option B) (View GhostAction)) → ((actions : List Action) → may actions → may' actions) → Lets may stripes k me me' → Lets may' stripes k me me'
  lets_as may may' me me' f l = record { actions = l.actions; may_be = f l.actions l.may_be; releases = l.releases }
