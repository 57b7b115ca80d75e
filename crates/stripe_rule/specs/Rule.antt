-- The rule of the table: its words, the values at home and the knowledge of all passes. A stripe's word is 1 while it
-- is held.
use Rattle.std.specs.Prelude.{◌≡◌, ℕ, zero, suc, ◌+◌, ◌<◌, ◌⊎◌, true, false, List, [], ◌∷◌, ◌++◌, length, replicate, slice_index, Option, Some}
use mathlib.Core.Option as maybe
use lib.ListN.{get_elem?}
use Rattle.atomic_table.specs.Table.{State}
use Rattle.stripe_rule.specs.declared.view.Event.{Event}
use Rattle.stripe_rule.specs.declared.view.View.{View}
use Rattle.stripe_rule.specs.History.{made_by, AreUnder, AreOthers, AreBelow, StartsWith, Replays, IsLegal}
use Rattle.stripe_rule.specs.Words.{words_of, word_at}
use Rattle.stripe_rule.specs.Gains.{blank, seen_of, mine_of, told_of, held_at, Carries}

-- this many numbers, from n on
abbrev pub from_on : ℕ → ℕ → List ℕ
from_on n zero = []
from_on n (suc count) = n ∷ from_on (n + 1) count

-- the value of the table's slot, if it is at home
abbrev pub Home : Type 0 → Type 0
Home B = maybe.Option (Option B)

module _ {D : Type 0} where
  -- a view that carries these numbers and has seen nothing
  abbrev pub newcomer : ℕ → ℕ → List ℕ → View D
  newcomer stripes passes numbers = record { numbers = numbers; passes = passes; parts = replicate stripes blank }

  -- the first view of a new table: it carries the number of every pass
  abbrev pub opener : ℕ → ℕ → View D
  opener stripes passes = newcomer stripes passes (from_on 0 passes)

  -- the view of the pass id
  abbrev pub At : List (View D) → ℕ → View D → Type 0
  At views id v = get_elem? views id ≡ maybe.some v

  -- no number is carried twice
  abbrev pub AreApart : List (View D) → Type 0
  AreApart views = (i j : ℕ) (v w : View D) (q : ℕ)
      → At views i v → At views j w → Carries v q → Carries w q → i ≡ j

  -- a view that carries a number knows how many stripes and passes there are, and its numbers are those of passes
  pub record IsCounted (stripes passes : ℕ) (v : View D) : Type 0 where
    pub wide : (q : ℕ) → Carries v q → length v.parts ≡ stripes
    pub count : (q : ℕ) → Carries v q → v.passes ≡ passes
    pub small : (q : ℕ) → Carries v q → q < passes

  -- a view's knowledge of the stripe k, compared with the one list of all events there: it has seen a beginning of the
  -- list, which has all events with its numbers, and these are the ones that it made
  pub record FitsLog (k : ℕ) (log : List (Event D)) (v : View D) : Type 0 where
    pub rest : List (Event D)
    pub begins : log ≡ seen_of v k ++ rest
    pub others : AreOthers v.numbers rest
    pub own : (q : ℕ) → Carries v q → made_by q (seen_of v k) ≡ made_by q (mine_of v k)
    pub under : AreUnder v.numbers (mine_of v k)
    pub heard : StartsWith log (told_of v k)

-- `does k table action new`: doing the action on the table of the stripe k leaves the new one, and its answer is the recorded
-- one. `content bins`: the table that the bins hold. `beside k log bins`: what else holds of the bins at home, beside the
-- list of events of the stripe k
module _ {D T B : Type 0} (does : ℕ → T → D → T → Type 0) (empty : T) (content : B → T)
    (beside : ℕ → List (Event D) → B → Type 0) where
  -- the stripe is free: the word is 0, the bins are at home with the table that the list leaves, and no view holds it
  pub record IsFree (k : ℕ) (log : List (Event D)) (word : ℕ) (home : Home B) (views : List (View D)) : Type 0 where
    pub word_is : word ≡ 0
    pub bins : B
    pub home_is : home ≡ maybe.some (Some bins)
    pub content_is : Replays (does k) empty log (content bins)
    pub beside_is : beside k log bins
    pub nobody : (id : ℕ) (v : View D) → At views id v → held_at v k ≡ false

  -- the stripe is held: the word is 1, the bins are out, and the one view that holds it has seen the whole list
  pub record IsHeld (k : ℕ) (log : List (Event D)) (word : ℕ) (home : Home B) (views : List (View D)) : Type 0 where
    pub word_is : word ≡ 1
    pub home_is : home ≡ maybe.none
    pub who : ℕ
    pub view : View D
    pub at : At views who view
    pub held : held_at view k ≡ true
    pub whole : seen_of view k ≡ log
    pub alone : (id : ℕ) (v : View D) → At views id v → held_at v k ≡ true → id ≡ who

  -- the stripe k has one legal list of events, made by the passes, and each view fits it
  pub record Stripe (passes k word : ℕ) (home : Home B) (views : List (View D)) : Type 0 where
    pub log : List (Event D)
    pub legal : IsLegal (does k) empty log
    pub below : AreBelow passes log
    pub fits : (id : ℕ) (v : View D) → At views id v → FitsLog k log v
    pub holding : IsFree k log word home views ⊎ IsHeld k log word home views

  -- the rule
  pub record Kept (stripes passes : ℕ) (s : State (Option B) (View D)) : Type 0 where
    pub words : length s.words ≡ words_of stripes
    pub between : (k i : ℕ) → k < stripes → 0 < i → i < 16 → slice_index s.words (word_at k + i) ≡ 0
    pub apart : AreApart s.views
    pub counted : (id : ℕ) (v : View D) → At s.views id v → IsCounted stripes passes v
    pub stripe : (k : ℕ) → k < stripes → (home : Home B)
        × ((get_elem? s.homes k ≡ maybe.some home) × Stripe passes k (slice_index s.words (word_at k)) home s.views)
