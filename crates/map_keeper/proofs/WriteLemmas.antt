-- Steps one after the other, and the rows that they are of.
use Rattle.std.proofs.Common.{◌≡◌, ◌==◌, ◌∙◌, ◌≢◌, ◌+◌, ◌<◌, ◌≤◌, ℕ, zero, suc, Bool, All, IsTrue, true, if◌then◌else◌, List, [], ◌∷◌, ◌++◌, map, length, Result, Ok, Err, IfErr, OnOk, refl, sym, ap, subst, inl, inr, arith, length-append}
use Rattle.std.proofs.lemmas.Bool.Decides.{nat_tests}
use Rattle.std.proofs.lemmas.List.{append-nil, append_assoc, map-append}
use Rattle.std.proofs.lemmas.List.Elements.{All-nil, All-cons, All-append}
use Rattle.sqlite.specs.Held.{Held}
use Rattle.sqlite.specs.Tree.{Trees}
use Rattle.sqlite.specs.State.{State, HasCleanDisk, Survives}
use Rattle.sqlite.proofs.StateLemmas.{survives_then}
use Rattle.stripe_rule.specs.declared.view.Event.{Event}
use Rattle.stripe_rule.specs.declared.view.View.{View}
use Rattle.stripe_rule.specs.Gains.{Keeps, seen_of, mine_of, own_event}
use Rattle.noted_bins.specs.Rows.{Row, values_of}
use Rattle.noted_bins.specs.Notes.{is_anew}
use Rattle.noted_bins.specs.declared.taken.Taken.{Taken}
use Rattle.kept_file.specs.Steps.{Step, MakesStep, appending, clearing}
use Rattle.kept_file.specs.Changes.{IsWithin, change_bytes}
use Rattle.kept_file.proofs.ChangeLemmas.{changes_bytes-more, changes_bytes-none}
use Rattle.bin_stripes.specs.declared.ghost_action.GhostAction.{GhostAction}
use Rattle.bin_stripes.specs.Actions.{Action, saved}
use Rattle.bin_stripes.specs.Passes.{PassState}
use Rattle.bin_stripes.specs.Saves.{SavesStripe as Saves}
use Rattle.map_keeper.proofs.SaveLemmas.{same_or_not, below}
use Rattle.map_keeper.specs.Written.{BeginsAnew, IsFit, Round, action_of, rows_of, step_of, steps_of, steps_in, HandsOut, EndsWithOwn, IsSavedSince, IsOther, MakesAll, Pending, SavesStripe, SavesBetween, SavesFrom, WritesOthers, WritesRound, WritesRows}

-- a list of no length has nothing
pub none_left : (bytes : List ℕ) → (length bytes == 0) ≡ true → bytes ≡ []
none_left [] none = refl
none_left (x ∷ bytes) none = absurd (let zero : length (x ∷ bytes) ≡ 0 = grind (arith, nat_tests) in omega (arith, zero))

-- nothing was handed out yet
hands_nothing : (anew : Bool) (v : View GhostAction) (k : ℕ) → HandsOut anew v v k []
hands_nothing anew v k = record {
  start = tt;
  events = [];
  made = sym (append-nil (mine_of v k));
  actions = refl;
  more = [];
  seen = sym (append-nil (seen_of v k));
}

-- the first round stays the first
start_more : (anew : Bool) (rounds : List Round) (round : Round) → BeginsAnew anew rounds → (length rounds ≡ 0 → IsTrue anew → is_anew round.taken ≡ true)
    → BeginsAnew anew (rounds ++ round ∷ [])
start_more anew [] round start first = first refl
start_more anew (one ∷ more) round start first = start

-- if no round came before, this one is the first
is_first_round : (i n : ℕ) → (0 < i → 0 < n) → n ≡ 0 → i ≡ 0
is_first_round zero n later none = refl
is_first_round (suc i) n later none = absurd (omega (arith, later (omega arith)))

some_more : (rounds : List Round) (round : Round) → 0 < length (rounds ++ round ∷ [])
some_more rounds round = omega (arith, length-append {A = Round})

-- one round more, after which the last event is its own
hands_more : (anew : Bool) (v : View GhostAction) (p : PassState) (k : ℕ) (rows : List Row) (taken : Taken) (q : PassState) (rounds : List Round) (round : Round)
    → HandsOut anew v p.view k rounds → Saves p k [] rows taken q → (length rounds ≡ 0 → IsTrue anew → is_anew taken ≡ true)
    → round.taken ≡ taken → rows ≡ rows_of round.parts → EndsWithOwn anew v q.view k (rounds ++ round ∷ [])
hands_more anew v p k rows taken q rounds round hands saves first is_so has_rows =
    let here = saves.makes.here in
    let event : Event GhostAction = own_event p.view (record { action = saved taken (values_of saves.rows) }) in
    let own : List (Event GhostAction) = event ∷ [] in
    let same : saved taken (values_of saves.rows) ≡ action_of round = ap (λ (t : Taken). saved t (values_of saves.rows)) (sym is_so) ∙ ap (λ (l : List Row). saved round.taken (values_of l)) (sym saves.added ∙ has_rows) in
    record {
      handed = record {
        start = start_more anew rounds round hands.start (λ none yes. ap is_anew is_so ∙ first none yes);
        events = hands.events ++ own;
        made = here.mine ∙ (ap (λ (l : List (Event GhostAction)). l ++ own) hands.made ∙ append_assoc (mine_of v k) hands.events own);
        actions = map-append (λ (e : Event GhostAction). e.action.action) hands.events own
            ∙ (ap (λ l. l ++ saved taken (values_of saves.rows) ∷ []) hands.actions
            ∙ (ap (λ (action : Action). map action_of rounds ++ action ∷ []) same ∙ sym (map-append action_of rounds (round ∷ []))));
        more = (hands.more ++ here.between) ++ own;
        seen = here.seen ∙ (ap (λ (l : List (Event GhostAction)). (l ++ here.between) ++ own) hands.seen
            ∙ (ap (λ (l : List (Event GhostAction)). l ++ own) (append_assoc (seen_of v k) hands.more here.between)
            ∙ append_assoc (seen_of v k) (hands.more ++ here.between) own));
      };
      earlier = hands.events;
      between = hands.more ++ here.between;
      last = event;
      mine = refl;
      seen = refl;
    }

-- the rounds of the stripe k since then
pub record Handed (anew : Bool) (v w : View GhostAction) (k i : ℕ) : Type 0 where
  pub rounds : List Round
  pub hands : HandsOut anew v w k rounds
  pub later : 0 < i → 0 < length rounds

pub handed_none : (anew : Bool) (v : View GhostAction) (k : ℕ) → Handed anew v v k 0
handed_none anew v k = record { rounds = []; hands = hands_nothing anew v k; later = λ low. absurd (omega (arith, low)) }

-- one more, after which the last event is its own
pub handed_more : (anew : Bool) (v : View GhostAction) (p : PassState) (k i : ℕ) (rows : List Row) (taken : Taken) (q : PassState) → Handed anew v p.view k i
    → Saves p k [] rows taken q → (i ≡ 0 → IsTrue anew → is_anew taken ≡ true) → IsSavedSince anew v q.view k
handed_more anew v p k i rows taken q handed saves first =
    let round : Round = record { taken = taken; parts = rows ∷ [] } in (
      handed.rounds ++ round ∷ [],
      hands_more anew v p k rows taken q handed.rounds round handed.hands saves (λ none yes. first (is_first_round i (length handed.rounds) handed.later none) yes) refl (sym (append-nil rows)),
    )

-- .. and not the last one
pub handed_on : (anew : Bool) (v : View GhostAction) (p : PassState) (k i : ℕ) (rows : List Row) (taken : Taken) (q : PassState) → Handed anew v p.view k i
    → Saves p k [] rows taken q → (i ≡ 0 → IsTrue anew → is_anew taken ≡ true) → Handed anew v q.view k (i + 1)
handed_on anew v p k i rows taken q handed saves first =
    let round : Round = record { taken = taken; parts = rows ∷ [] } in
    let ends = hands_more anew v p k rows taken q handed.rounds round handed.hands saves (λ none yes. first (is_first_round i (length handed.rounds) handed.later none) yes) refl (sym (append-nil rows)) in
    record { rounds = handed.rounds ++ round ∷ []; hands = ends.handed; later = λ low. some_more handed.rounds round }

-- what was handed out of a stripe stays so if the pass then learns nothing of it
pub ends_kept : (anew : Bool) (v u w : View GhostAction) (k : ℕ) (rounds : List Round) → EndsWithOwn anew v u k rounds → Keeps u w k → EndsWithOwn anew v w k rounds
ends_kept anew v u w k rounds ends keeps = record {
  handed = record {
    start = ends.handed.start;
    events = ends.handed.events;
    made = keeps.mine ∙ ends.handed.made;
    actions = ends.handed.actions;
    more = ends.handed.more;
    seen = keeps.seen ∙ ends.handed.seen;
  };
  earlier = ends.earlier;
  between = ends.between;
  last = ends.last;
  mine = ends.mine;
  seen = ends.seen;
}

-- .. or if it had learned nothing of it before
pub ends_after : (anew : Bool) (v u w : View GhostAction) (k : ℕ) (rounds : List Round) → Keeps v u k → EndsWithOwn anew u w k rounds → EndsWithOwn anew v w k rounds
ends_after anew v u w k rounds keeps ends = record {
  handed = record {
    start = ends.handed.start;
    events = ends.handed.events;
    made = ends.handed.made ∙ ap (λ (l : List (Event GhostAction)). l ++ ends.handed.events) keeps.mine;
    actions = ends.handed.actions;
    more = ends.handed.more;
    seen = ends.handed.seen ∙ ap (λ (l : List (Event GhostAction)). l ++ ends.handed.more) keeps.seen;
  };
  earlier = ends.earlier;
  between = ends.between;
  last = ends.last;
  mine = ends.mine;
  seen = ends.seen;
}

pub since_kept : (anew : Bool) (v u w : View GhostAction) (k : ℕ) → IsSavedSince anew v u k → Keeps u w k → IsSavedSince anew v w k
since_kept anew v u w k since keeps = (since.0, ends_kept anew v u w k since.0 since.1 keeps)

pub since_after : (anew : Bool) (v u w : View GhostAction) (k : ℕ) → Keeps v u k → IsSavedSince anew u w k → IsSavedSince anew v w k
since_after anew v u w k keeps since = (since.0, ends_after anew v u w k since.0 keeps since.1)

pub keeps_same : (v : View GhostAction) (k : ℕ) → Keeps v v k
keeps_same v k = record { seen = refl; mine = refl }

-- the steps of one round more
pub steps_in-more : (k : ℕ) (rounds : List Round) (round : Round) → steps_in k (rounds ++ round ∷ []) ≡ steps_in k rounds ++ steps_of k round
steps_in-more k [] round = append-nil (steps_of k round)
steps_in-more k (first ∷ rounds) round =
    ap (λ (l : List Step). steps_of k first ++ l) (steps_in-more k rounds round)
    ∙ sym (append_assoc (steps_of k first) (steps_in k rounds) (steps_of k round))

-- what follows if a call returned `Ok`
pub on_ok : {A E : Type 0} (r : Result A E) (P Q : Type 0) → (P → Q) → OnOk r P → OnOk r Q
on_ok (Ok x) P Q f p = f p
on_ok (Err e) P Q f p = tt

pub on_any : {A E : Type 0} (r : Result A E) (P : Type 0) → P → OnOk r P
on_any (Ok x) P p = p
on_any (Err e) P p = tt

pub on_err : {A E : Type 0} (r : Result A E) (P : Type 0) → P → IfErr r (λ _. P)
on_err (Ok x) P p = tt
on_err (Err e) P p = p

-- clean now, so clean before
pub clean_before : (old new : State) (P : Trees → Type 0) → Survives old new P → HasCleanDisk new → HasCleanDisk old
clean_before old new P survives clean = omega (arith, survives.clean)

pub survives_same : (s : State) → Survives s s (λ _. ⊥)
survives_same s = record {
  clean = omega arith;
  shield = λ h. h;
  counts = omega arith;
  limit = refl;
  closes = λ clean up. inl up;
  crash = λ clean db may. inl may;
}

pub kept_then : (a b c : State) → Survives a b (λ _. ⊥) → Survives b c (λ _. ⊥) → Survives a c (λ _. ⊥)
kept_then a b c one two = survives_then a b c _ _ (λ _. ⊥) (λ _ db none. none) (λ _ db none. none) one two

module _ {S : Type 0} (shown : Held S → State) where
  pub makes_none : (a : Held S) → MakesAll shown [] a a
  unfolding MakesAll
  makes_none a = refl

  pub makes_one : (step : Step) (a b : Held S) → MakesStep shown step a b → MakesAll shown (step ∷ []) a b
  unfolding MakesAll
  makes_one step a b made = (b, made, refl)

  pub makes_then : (xs ys : List Step) (a b c : Held S) → MakesAll shown xs a b → MakesAll shown ys b c → MakesAll shown (xs ++ ys) a c
  unfolding MakesAll
  makes_then [] ys a b c same after = subst (λ (h : Held S). MakesAll shown ys h c) same after
  makes_then (x ∷ xs) ys a b c one after = (one.0, one.1, makes_then xs ys one.0 b c one.2 after)

  -- one round more
  pub makes_round : (k : ℕ) (rounds : List Round) (round : Round) (a b c : Held S) → MakesAll shown (steps_in k rounds) a b
      → MakesAll shown (steps_of k round) b c → MakesAll shown (steps_in k (rounds ++ round ∷ [])) a c
  makes_round k rounds round a b c first after =
      subst (λ (l : List Step). MakesAll shown l a c) (sym (steps_in-more k rounds round))
      (makes_then (steps_in k rounds) (steps_of k round) a b c first after)

  -- the steps of one part more
  pub makes_part : (k : ℕ) (parts : List (List Row)) (part : List Row) (a b c : Held S) → MakesAll shown (map (step_of k) parts) a b
      → MakesStep shown (step_of k part) b c → MakesAll shown (map (step_of k) (parts ++ part ∷ [])) a c
  makes_part k parts part a b c before made =
      subst (λ (l : List Step). MakesAll shown l a c) (sym (map-append (step_of k) parts (part ∷ [])))
      (makes_then (map (step_of k) parts) (step_of k part ∷ []) a b c before (makes_one (step_of k part) b c made))

  -- ---- rows that are written in parts

  pub pending_none : (k : ℕ) (bytes : List ℕ) (a : Held S) → bytes ≡ [] → Pending shown k [] bytes a a
  pending_none k bytes a none = record {
    parts = [];
    left = [];
    within = All-nil (All IsWithin);
    left_within = All-nil IsWithin;
    are = refl;
    bytes_are = none;
    made = makes_none a;
  }

  -- one row more
  pub pending_more : (k : ℕ) (rows : List Row) (row : Row) (bytes more : List ℕ) (a b : Held S) → Pending shown k rows bytes a b → IsWithin row → more ≡ bytes ++ change_bytes row
      → Pending shown k (rows ++ row ∷ []) more a b
  pending_more k rows row bytes more a b pending within is = record {
    parts = pending.parts;
    left = pending.left ++ row ∷ [];
    within = pending.within;
    left_within = All-append IsWithin pending.left (row ∷ []) pending.left_within (All-cons IsWithin row [] within (All-nil IsWithin));
    are = ap (λ (l : List Row). l ++ row ∷ []) pending.are ∙ append_assoc (rows_of pending.parts) pending.left (row ∷ []);
    bytes_are = is ∙ (ap (λ l. l ++ change_bytes row) pending.bytes_are ∙ sym (changes_bytes-more pending.left row));
    made = pending.made;
  }

  rows_of-more : (parts : List (List Row)) (part : List Row) → rows_of (parts ++ part ∷ []) ≡ rows_of parts ++ part
  rows_of-more [] part = append-nil part
  rows_of-more (first ∷ parts) part = ap (λ (l : List Row). first ++ l) (rows_of-more parts part) ∙ sym (append_assoc first (rows_of parts) part)

  -- what is pending is written
  pub pending_written : (k : ℕ) (rows : List Row) (bytes : List ℕ) (a b c : Held S) → Pending shown k rows bytes a b → MakesStep shown (appending k bytes) b c
      → WritesRows shown k rows a c
  pending_written k rows bytes a b c pending made = record {
    parts = pending.parts ++ pending.left ∷ [];
    within = All-append (All IsWithin) pending.parts (pending.left ∷ []) pending.within (All-cons (All IsWithin) pending.left [] pending.left_within (All-nil (All IsWithin)));
    are = pending.are ∙ sym (rows_of-more pending.parts pending.left);
    made = makes_part k pending.parts pending.left a b c pending.made (subst (λ l. MakesStep shown (appending k l) b c) pending.bytes_are made);
  }

  -- .. and nothing is pending
  pub written_pending : (k : ℕ) (rows : List Row) (bytes : List ℕ) (a b : Held S) → WritesRows shown k rows a b → bytes ≡ [] → Pending shown k rows bytes a b
  written_pending k rows bytes a b writes none = record {
    parts = writes.parts;
    left = [];
    within = writes.within;
    left_within = All-nil IsWithin;
    are = writes.are ∙ sym (append-nil (rows_of writes.parts));
    bytes_are = none;
    made = writes.made;
  }

  -- if nothing is pending, all is written
  pub pending_all : (k : ℕ) (rows : List Row) (bytes : List ℕ) (a b : Held S) → Pending shown k rows bytes a b → bytes ≡ [] → WritesRows shown k rows a b
  pending_all k rows bytes a b pending none =
      let nothing : pending.left ≡ [] = changes_bytes-none pending.left (sym pending.bytes_are ∙ none) in
      record {
        parts = pending.parts;
        within = pending.within;
        are = pending.are ∙ (ap (λ (l : List Row). rows_of pending.parts ++ l) nothing ∙ append-nil (rows_of pending.parts));
        made = pending.made;
      }

  -- the round of rows that were written
  abbrev pub round_of : (k : ℕ) (taken : Taken) (rows : List Row) (a b : Held S) → WritesRound shown k (is_anew taken) rows a b → Round
  round_of k taken rows a b writes = record { taken = taken; parts = writes.rest.parts }

  -- its steps were made
  round_made : (k : ℕ) (taken : Taken) (rows : List Row) (a b : Held S) (writes : WritesRound shown k (is_anew taken) rows a b)
      → MakesAll shown (steps_of k (round_of k taken rows a b writes)) a b
  round_made k taken rows a b writes = makes_then (if is_anew taken then clearing k ∷ [] else []) (map (step_of k) writes.rest.parts) a writes.mid b writes.start writes.rest.made

  -- rounds of the stripe k since then, whose steps were made
  pub record Wrote (anew : Bool) (v w : View GhostAction) (k i : ℕ) (a b : Held S) : Type 0 where
    pub rounds : List Round
    pub hands : HandsOut anew v w k rounds
    pub later : 0 < i → 0 < length rounds
    pub fit : All IsFit rounds
    pub made : MakesAll shown (steps_in k rounds) a b

  pub wrote_none : (anew : Bool) (v : View GhostAction) (k : ℕ) (a : Held S) → Wrote anew v v k 0 a a
  wrote_none anew v k a = record { rounds = []; hands = hands_nothing anew v k; later = λ low. absurd (omega (arith, low)); fit = All-nil IsFit; made = makes_none a }

  -- one round more, after which the last event is its own
  pub wrote_more : (anew : Bool) (v : View GhostAction) (p : PassState) (k i : ℕ) (rows : List Row) (taken : Taken) (q : PassState) (a b c : Held S) → Wrote anew v p.view k i a b
      → Saves p k [] rows taken q → (i ≡ 0 → IsTrue anew → is_anew taken ≡ true) → WritesRound shown k (is_anew taken) rows b c → SavesStripe shown anew v q.view k a c
  wrote_more anew v p k i rows taken q a b c wrote saves first writes =
      let round = round_of k taken rows b c writes in
      record {
        rounds = wrote.rounds ++ round ∷ [];
        ends = hands_more anew v p k rows taken q wrote.rounds round wrote.hands saves (λ none yes. first (is_first_round i (length wrote.rounds) wrote.later none) yes) refl writes.rest.are;
        fit = All-append IsFit wrote.rounds (round ∷ []) wrote.fit (All-cons IsFit round [] writes.rest.within (All-nil IsFit));
        made = makes_round k wrote.rounds round a b c wrote.made (round_made k taken rows b c writes);
      }

  -- .. and not the last one
  pub wrote_on : (anew : Bool) (v : View GhostAction) (p : PassState) (k i : ℕ) (rows : List Row) (taken : Taken) (q : PassState) (a b c : Held S) → Wrote anew v p.view k i a b
      → Saves p k [] rows taken q → (i ≡ 0 → IsTrue anew → is_anew taken ≡ true) → WritesRound shown k (is_anew taken) rows b c → Wrote anew v q.view k (i + 1) a c
  unfolding wrote_more
  wrote_on anew v p k i rows taken q a b c wrote saves first writes =
      let more = wrote_more anew v p k i rows taken q a b c wrote saves first writes in
      record { rounds = more.rounds; hands = more.ends.handed; later = λ low. some_more wrote.rounds (round_of k taken rows b c writes); fit = more.fit; made = more.made }

  pub stripe_kept : (anew : Bool) (v u w : View GhostAction) (k : ℕ) (a b : Held S) → SavesStripe shown anew v u k a b → Keeps u w k → SavesStripe shown anew v w k a b
  stripe_kept anew v u w k a b saves keeps = record { rounds = saves.rounds; ends = ends_kept anew v u w k saves.rounds saves.ends keeps; fit = saves.fit; made = saves.made }

  pub stripe_after : (anew : Bool) (v u w : View GhostAction) (k : ℕ) (a b : Held S) → Keeps v u k → SavesStripe shown anew u w k a b → SavesStripe shown anew v w k a b
  stripe_after anew v u w k a b keeps saves = record { rounds = saves.rounds; ends = ends_after anew v u w k saves.rounds keeps saves.ends; fit = saves.fit; made = saves.made }

  -- no stripe yet
  pub between_none : (anew : Bool) (v : View GhostAction) (start : ℕ) (a : Held S) → SavesBetween shown anew v v start start a a
  unfolding SavesFrom
  between_none anew v start a = record { many = 0; are = omega arith; saved = refl }

  from_kept : (anew : Bool) (v u w : View GhostAction) (start many : ℕ) (a b : Held S) → ((j : ℕ) → start ≤ j → j < start + many → Keeps u w j)
      → SavesFrom shown anew v u start many a b → SavesFrom shown anew v w start many a b
  unfolding SavesFrom
  from_kept anew v u w start zero a b keeps saves = saves
  from_kept anew v u w start (suc many) a b keeps saves = (
    saves.0,
    from_kept anew v u w start many a saves.0 (λ j up low. keeps j up (omega (arith, low))) saves.1,
    stripe_kept anew v u w (start + many) saves.0 b saves.2 (keeps (start + many) (omega arith) (omega arith)),
  )

  from_after : (anew : Bool) (v u w : View GhostAction) (start many : ℕ) (a b : Held S) → ((j : ℕ) → start ≤ j → j < start + many → Keeps v u j)
      → SavesFrom shown anew u w start many a b → SavesFrom shown anew v w start many a b
  unfolding SavesFrom
  from_after anew v u w start zero a b keeps saves = saves
  from_after anew v u w start (suc many) a b keeps saves = (
    saves.0,
    from_after anew v u w start many a saves.0 (λ j up low. keeps j up (omega (arith, low))) saves.1,
    stripe_after anew v u w (start + many) saves.0 b (keeps (start + many) (omega arith) (omega arith)) saves.2,
  )

  from_suc : (anew : Bool) (v w : View GhostAction) (start many : ℕ) (a b c : Held S) → SavesFrom shown anew v w start many a b → SavesStripe shown anew v w (start + many) b c
      → SavesFrom shown anew v w start (suc many) a c
  unfolding SavesFrom
  from_suc anew v w start many a b c before here = (b, before, here)

  -- what was saved stays so if the pass then learns nothing of these stripes
  pub between_kept : (anew : Bool) (v u w : View GhostAction) (start end : ℕ) (a b : Held S) → ((j : ℕ) → j < end → Keeps u w j) → SavesBetween shown anew v u start end a b
      → SavesBetween shown anew v w start end a b
  between_kept anew v u w start end a b keeps saves =
      record { many = saves.many; are = saves.are; saved = from_kept anew v u w start saves.many a b (λ j up low. keeps j (omega (arith, low, saves.are))) saves.saved }

  -- .. or if it had learned nothing of them before
  pub between_after : (anew : Bool) (v u w : View GhostAction) (start end : ℕ) (a b : Held S) → ((j : ℕ) → start ≤ j → Keeps v u j) → SavesBetween shown anew u w start end a b
      → SavesBetween shown anew v w start end a b
  between_after anew v u w start end a b keeps saves =
      record { many = saves.many; are = saves.are; saved = from_after anew v u w start saves.many a b (λ j up low. keeps j up) saves.saved }

  -- one stripe more
  pub between_more : (anew : Bool) (v u w : View GhostAction) (start k : ℕ) (a b c : Held S) → SavesBetween shown anew v u start k a b → Keeps v u k → ((j : ℕ) → j ≢ k → Keeps u w j)
      → SavesStripe shown anew u w k b c → SavesBetween shown anew v w start (k + 1) a c
  between_more anew v u w start k a b c before fresh elsewhere here = record {
    many = suc before.many;
    are = omega (arith, before.are);
    saved = from_suc anew v w start before.many a b c
        (from_kept anew v u w start before.many a b (λ j up low. elsewhere j (λ e. omega (arith, low, e, before.are))) before.saved)
        (subst (λ (i : ℕ). SavesStripe shown anew v w i b c) (sym before.are) (stripe_after anew v u w k b c fresh here));
  }

  pub others_none : (stripes : ℕ) (a : Held S) → WritesOthers shown stripes a a
  others_none stripes a = record { others = []; are = All-nil (IsOther stripes); made = makes_none a }

  pub others_one : (stripes : ℕ) (step : Step) (a b : Held S) → IsOther stripes step → MakesStep shown step a b → WritesOthers shown stripes a b
  others_one stripes step a b other made =
      record { others = step ∷ []; are = All-cons (IsOther stripes) step [] other (All-nil (IsOther stripes)); made = makes_one step a b made }

  pub others_then : (stripes : ℕ) (a b c : Held S) → WritesOthers shown stripes a b → WritesOthers shown stripes b c → WritesOthers shown stripes a c
  others_then stripes a b c one two = record {
    others = one.others ++ two.others;
    are = All-append (IsOther stripes) one.others two.others one.are two.are;
    made = makes_then one.others two.others a b c one.made two.made;
  }

-- one stripe more is saved
pub since_more : (anew : Bool) (v u w : View GhostAction) (start k : ℕ) → Keeps v u k → ((j : ℕ) → j ≢ k → Keeps u w j) → ((j : ℕ) → start ≤ j → j < k → IsSavedSince anew v u j)
    → IsSavedSince anew u w k → (j : ℕ) → start ≤ j → j < k + 1 → IsSavedSince anew v w j
since_more anew v u w start k fresh elsewhere before here j up low = elim (same_or_not j k) [
  | inl e ↦ subst (IsSavedSince anew v w) (sym e) (since_after anew v u w k fresh here)
  | inr apart ↦ since_kept anew v u w j (before j up (below j k (omega (arith, low)) apart)) (elsewhere j apart)
]
