-- How each step changes the view of the pass that makes it.
use Rattle.std.specs.Prelude.{◌≡◌, ◌≢◌, ℕ, ◌<◌, ◌≤◌, Bool, true, false, List, [], ◌∷◌, ◌++◌, length, slice_index_or, Option, Some}
use Rattle.atomic_table.specs.Table.{Me, Step, rest}
use Rattle.stripe_rule.specs.declared.view.Event.{Event}
use Rattle.stripe_rule.specs.declared.view.Part.{Part}
use Rattle.stripe_rule.specs.declared.view.View.{View}
use Rattle.stripe_rule.specs.History.{AreOthers, StartsWith, Replays}
use Rattle.stripe_rule.specs.Gains.{part_of, seen_of, told_of, held_at, Gains, IsSound}
use Rattle.stripe_rule.specs.Words.{word_at}

module _ {D : Type 0} where
  -- only the knowledge of the stripe k is new: it is this part
  pub record SetsPart (v : View D) (k : ℕ) (part : Part D) (w : View D) : Type 0 where
    pub numbers : w.numbers ≡ v.numbers
    pub passes : w.passes ≡ v.passes
    pub wide : length w.parts ≡ length v.parts
    pub here : part_of w k ≡ part
    pub elsewhere : (j : ℕ) → j ≢ k → part_of w j ≡ part_of v j

  -- these events after all that was seen
  abbrev pub lengthened : Part D → List (Event D) → Bool → Part D
  lengthened p between held = record { seen = p.seen ++ between; mine = p.mine; told = p.told; held = held }

  -- these events of its own after all that was seen, and the stripe let go
  abbrev pub grown : Part D → List (Event D) → Part D
  grown p more = record { seen = p.seen ++ more; mine = p.mine ++ more; told = p.told; held = false }

  -- told of these events
  abbrev pub told_part : Part D → List (Event D) → Part D
  told_part p told = record { seen = p.seen; mine = p.mine; told = told; held = p.held }

  -- others' events came after what was seen of the stripe k, and it is then held or not
  pub record Extends (v : View D) (k : ℕ) (held : Bool) (w : View D) : Type 0 where
    pub between : List (Event D)
    pub others : AreOthers v.numbers between
    pub sets : SetsPart v k (lengthened (part_of v k) between held) w

  -- it was told, for each stripe, all that the other has seen
  pub record IsTold (from v w : View D) : Type 0 where
    pub numbers : w.numbers ≡ v.numbers
    pub passes : w.passes ≡ v.passes
    pub wide : length w.parts ≡ length v.parts
    pub parts : (k : ℕ) → part_of w k ≡ told_part (part_of v k) (seen_of from k)

  -- after being told all that the other has seen, it has looked at the first n stripes
  pub record HasHeard (from v : View D) (n : ℕ) (w : View D) : Type 0 where
    pub numbers : w.numbers ≡ v.numbers
    pub passes : w.passes ≡ v.passes
    pub wide : length w.parts ≡ length v.parts
    pub held : (k : ℕ) → held_at w k ≡ held_at v k
    pub told : (k : ℕ) → told_of w k ≡ seen_of from k
    pub gains : (k : ℕ) → Gains v w k []
    pub begins : (k : ℕ) → k < n → StartsWith (seen_of w k) (seen_of from k)

-- `does` and `empty` as in the rule
module _ {D T : Type 0} (does : ℕ → T → D → T → Type 0) (empty : T) where
  -- a look at the word k, by a pass with these slots out: it has then seen all that it was told
  pub record Looks {S : Type 0} (k : ℕ) (me me' : Me S (View D)) : Type 0 where
    pub extends : Extends me.0 k (held_at me.0 k) me'.0
    pub heard : StartsWith (seen_of me'.0 k) (told_of me.0 k)
    pub sound : IsSound does empty me'.0
    pub out : me'.1 ≡ me.1

  -- the swap of the word to 0, which puts the last taken slot back home and adds these events
  pub record Releases {S : Type 0} (more : List (Event D)) (k : ℕ) (me me' : Me S (View D)) : Type 0 where
    pub sets : SetsPart me.0 k (grown (part_of me.0 k) more) me'.0
    pub sound : IsSound does empty me'.0
    pub out : me'.1 ≡ rest me.1

  -- it has taken the first n stripes, one after another, and their bins hold these tables
  pub record HasTaken (v : View D) (n : ℕ) (tables : List T) (w : View D) : Type 0 where
    pub numbers : w.numbers ≡ v.numbers
    pub passes : w.passes ≡ v.passes
    pub count : length tables ≡ n
    pub held : (k : ℕ) → n ≤ k → held_at w k ≡ held_at v k
    pub gains : (k : ℕ) → Gains v w k []
    pub left : (k : ℕ) (d : T) → k < n → Replays (does k) empty (seen_of w k) (slice_index_or tables k d)

  -- a load of a stripe's word, in the table's terms
  abbrev pub looked : {S : Type 0} → Step S → Me S (View D) → ℕ → Me S (View D) → Type 0
  looked st me found me' = (k : ℕ) → st.word ≡ word_at k → Looks k me me'

  -- the swap of the word to 0, in the table's terms
  abbrev pub released : {S : Type 0} → List (Event D) → Step S → Me S (View D) → ℕ → Me S (View D) → Type 0
  released more st me found me' = (k : ℕ) → st.word ≡ word_at k → Releases more k me me'

  -- `content` and `beside` as in the rule
  module _ {B : Type 0} (content : B → T) (beside : ℕ → List (Event D) → B → Type 0) where
    -- the slot of the stripe k is out with the pass, which has seen everything that was done there
    pub record IsOut (k : ℕ) (me me' : Me (Option B) (View D)) : Type 0 where
      pub bins : B
      pub out : me'.1 ≡ (k, Some bins) ∷ me.1
      pub content_is : Replays (does k) empty (seen_of me'.0 k) (content bins)
      pub beside_is : beside k (seen_of me'.0 k) bins

    -- a take that wins: the stripe is held
    pub record Takes (k : ℕ) (me me' : Me (Option B) (View D)) : Type 0 where
      pub extends : Extends me.0 k true me'.0
      pub sound : IsSound does empty me'.0
      pub out : IsOut k me me'

    -- the compare-exchange of the word from 0 to 1, in the table's terms
    abbrev pub took : Step (Option B) → Me (Option B) (View D) → ℕ → Me (Option B) (View D) → Type 0
    took st me found me' = (k : ℕ) → st.word ≡ word_at k → (found ≡ 0 → Takes k me me') × (found ≢ 0 → Looks k me me')

abbrev pub head_of : List ℕ → List ℕ
head_of [] = []
head_of (n ∷ ns) = n ∷ []

abbrev pub tail_of : List ℕ → List ℕ
tail_of [] = []
tail_of (n ∷ ns) = ns

module _ {D : Type 0} where
  -- the same view with other numbers
  abbrev pub with_numbers : View D → List ℕ → View D
  with_numbers v ns = record { numbers = ns; passes = v.passes; parts = v.parts }

  -- the longer of two beginnings of one list
  abbrev pub longer : List (Event D) → List (Event D) → List (Event D)
  longer [] ys = ys
  longer (x ∷ xs) [] = x ∷ xs
  longer (x ∷ xs) (y ∷ ys) = x ∷ longer xs ys

  -- what both know of a stripe
  abbrev pub united_part : Part D → Part D → Part D
  united_part p q = record { seen = longer p.seen q.seen; mine = p.mine ++ q.mine; told = p.told; held = p.held }

  abbrev pub united_parts : List (Part D) → List (Part D) → List (Part D)
  united_parts [] qs = []
  united_parts (p ∷ ps) [] = p ∷ ps
  united_parts (p ∷ ps) (q ∷ qs) = united_part p q ∷ united_parts ps qs

  -- the view that carries what both carried
  abbrev pub united : View D → View D → View D
  united v w = record { numbers = v.numbers ++ w.numbers; passes = v.passes; parts = united_parts v.parts w.parts }

  -- the view that is left of the other
  abbrev pub spent : View D
  spent = record { numbers = []; passes = 0; parts = [] }

  -- the view of a seat, if there is one
  abbrev pub view_of : List (View D) → View D
  view_of [] = spent
  view_of (v ∷ vs) = v
