-- What whole crews make as they answer requests, and what two joined crews then have seen.
use Rattle.std.proofs.Common.{◌≡◌, ◌≢◌, ◌⊎◌, ◌==◌, if◌then◌else◌, inl, inr, ℕ, zero, suc, ◌+◌, ◌<◌, ◌≤◌, ◌%◌, List, [], ◌∷◌, ◌++◌, All, map, flat_map, length, slice_index_or, Bool, true, false, Option, refl, sym, ap, subst, ◌∙◌, append-nil, append_assoc, eq-eqb, ne_eqb, arith}
use Rattle.std.proofs.lemmas.Bool.{cases_eq, cases_lt}
use Rattle.std.proofs.lemmas.List.{map-append}
use Rattle.std.proofs.lemmas.List.Concat.{flat_map-append}
use Rattle.stripe_rule.specs.declared.view.View.{View}
use Rattle.stripe_rule.specs.History.{made_by, StartsWith}
use Rattle.stripe_rule.specs.Gains.{seen_of, mine_of, Gains, Keeps, IsJoined}
use Rattle.atomic_methods.specs.Invocations.{Invocation}
use Rattle.atomic_methods.specs.declared.reply.Reply.{Reply}
use Rattle.bin_stripes.specs.Actions.{Action, called}
use Rattle.bin_stripes.specs.declared.ghost_action.GhostAction.{GhostAction}
use Rattle.bin_stripes.specs.Histories.{own_events, Sound}
use Rattle.bin_stripes.specs.Invoked.{Makes, Calls, RefusesCall, stripe_for}
use Rattle.bin_stripes.specs.Passes.{PassState, stripes_of}
use Rattle.bulk_walks.specs.Walks.{Events, AllWalked}
use Rattle.client_protocol.specs.declared.limits.Version.{Version}
use Rattle.client_protocol.specs.Requests.{Request}
use Rattle.client_protocol.specs.declared.response.Response.{Response}
use Rattle.client_protocol.specs.declared.response.Response.TheVariants as tell
use Rattle.sessions.specs.Asking.{Asked, asked, greeting, registration, call, walk, replacement, count, unknown, response_to, AnswersOnce}
use Rattle.crews.specs.declared.crew.Crew.{Crew}
use Rattle.crews.specs.Collected.{in_session}
use Rattle.crews.specs.Crews.{station}
use Rattle.crews.specs.Lives.{Known, known, known_of}
use Rattle.crews.specs.Stations.{Station, no_tokens}
use Rattle.crews.specs.Steps.{IsToldBy, Pairwise, HearsEach, keeping, CrewMeets, CrewServes}
use Rattle.crews.specs.Together.{SessionsOfCrew}
use Rattle.crews.specs.Whole.{CrewEvent, own, walked, own_of, walked_of, events_of, made_in_turn, made_by_walk, made_by_call, made_as_asked, made_by_step, made_in_sessions, team_made, crew_made, HasInOrder, SeesInOrder, SeesCrews, SeesSessions, IsOfOneMap, all_mine, Joins}
use Rattle.crews.proofs.ChainLemmas.{session_leads}
use Rattle.crews.proofs.NumberLemmas.{ended_same}

-- ---- lists

pub starts_on : (xs ys zs : Events) → StartsWith ys xs → StartsWith zs ys → StartsWith zs xs
starts_on xs ys zs (r, is) (s, also) = (r ++ s, also ∙ ap (λ es. es ++ s) is ∙ append_assoc xs r s)

starts_same : (xs : Events) → StartsWith xs xs
starts_same xs = ([], sym (append-nil xs))

in_order_behind : (es front all : Events) → HasInOrder es all → HasInOrder es (front ++ all)
in_order_behind [] front all has = tt
in_order_behind (e ∷ es) front all (before, after, is, more) =
    (front ++ before, after, ap (λ xs. front ++ xs) is ∙ sym (append_assoc front before (e ∷ after)), more)

in_order_on : (es fs all more : Events) → HasInOrder es all → HasInOrder fs more → HasInOrder (es ++ fs) (all ++ more)
in_order_on [] fs all more has also = in_order_behind fs all more also
in_order_on (e ∷ es) fs all more (before, after, is, has) also =
    (before, after ++ more, ap (λ xs. xs ++ more) is ∙ append_assoc before (e ∷ after) more, in_order_on es fs after more has also)

in_order_same : (es : Events) → HasInOrder es es
in_order_same [] = tt
in_order_same (e ∷ es) = ([], es, refl, in_order_same es)

-- with others around them
in_order_within : (es front back : Events) → HasInOrder es ((front ++ es) ++ back)
in_order_within es front back =
    subst (λ (fs : Events). HasInOrder fs ((front ++ es) ++ back)) (append-nil es) (in_order_on es [] (front ++ es) back (in_order_behind es front es (in_order_same es)) tt)

own_own : (es : Events) → own_of (own es) ≡ es
own_own [] = refl
own_own (e ∷ es) = ap (λ xs. e ∷ xs) (own_own es)

walked_own : (es : Events) → walked_of (own es) ≡ []
walked_own [] = refl
walked_own (e ∷ es) = walked_own es

events_own : (es : Events) → events_of (own es) ≡ es
events_own [] = refl
events_own (e ∷ es) = ap (λ xs. e ∷ xs) (events_own es)

own_walked : (es : Events) → own_of (walked es) ≡ []
own_walked [] = refl
own_walked (e ∷ es) = own_walked es

walked_walked : (es : Events) → walked_of (walked es) ≡ es
walked_walked [] = refl
walked_walked (e ∷ es) = ap (λ xs. e ∷ xs) (walked_walked es)

events_walked : (es : Events) → events_of (walked es) ≡ es
events_walked [] = refl
events_walked (e ∷ es) = ap (λ xs. e ∷ xs) (events_walked es)

-- ---- a chain of steps, on the stripe k

module _ (k : ℕ) where
  -- each pass of the team made these events, if the stripe is in its turn
  abbrev pub TeamAdds : (workers j : ℕ) (old : List PassState) (events : Events) (new : List PassState) → Type 0
  TeamAdds workers j [] events [] = Unit {0}
  TeamAdds workers j (p ∷ old) events (q ∷ new) =
      (mine_of q.view k ≡ mine_of p.view k ++ (if k % workers == j then events else [])) × TeamAdds workers (suc j) old events new
  TeamAdds workers j old events new = ⊥

  nothing : (b : Bool) (es : Events) → es ≡ es ++ (if b then [] else [])
  nothing true es = sym (append-nil es)
  nothing false es = sym (append-nil es)

  team_none : (workers j : ℕ) (team : List PassState) → TeamAdds workers j team [] team
  team_none workers j [] = tt
  team_none workers j (p ∷ team) = (nothing (k % workers == j) (mine_of p.view k), team_none workers (suc j) team)

  both : (b : Bool) (xs ys : Events) → (if b then xs else []) ++ (if b then ys else []) ≡ (if b then xs ++ ys else [])
  both true xs ys = refl
  both false xs ys = refl

  team_on : (workers j : ℕ) (a : List PassState) (xs : Events) (b : List PassState) (ys : Events) (c : List PassState)
      → TeamAdds workers j a xs b → TeamAdds workers j b ys c → TeamAdds workers j a (xs ++ ys) c
  team_on workers j [] xs [] ys [] one more = tt
  team_on workers j [] xs [] ys (r ∷ c) one more = absurd more
  team_on workers j [] xs (q ∷ b) ys c one more = absurd one
  team_on workers j (p ∷ a) xs [] ys c one more = absurd one
  team_on workers j (p ∷ a) xs (q ∷ b) ys [] one more = absurd more
  team_on workers j (p ∷ a) xs (q ∷ b) ys (r ∷ c) one more = (
    more.0 ∙ ap (λ es. es ++ (if k % workers == j then ys else [])) one.0
        ∙ append_assoc (mine_of p.view k) (if k % workers == j then xs else []) (if k % workers == j then ys else [])
        ∙ ap (λ es. mine_of p.view k ++ es) (both (k % workers == j) xs ys),
    team_on workers (suc j) a xs b ys c one.1 more.1,
  )

  team_length : (workers j : ℕ) (a : List PassState) (xs : Events) (b : List PassState) → TeamAdds workers j a xs b → length b ≡ length a
  team_length workers j [] xs [] adds = refl
  team_length workers j [] xs (q ∷ b) adds = absurd adds
  team_length workers j (p ∷ a) xs [] adds = absurd adds
  team_length workers j (p ∷ a) xs (q ∷ b) adds = ap suc (team_length workers (suc j) a xs b adds.1)

  -- what they then have made in all
  team_is : (workers j : ℕ) (a : List PassState) (xs : Events) (b : List PassState) → TeamAdds workers j a xs b → all_mine k b ≡ team_made k workers j a xs
  team_is workers j [] xs [] adds = refl
  team_is workers j [] xs (q ∷ b) adds = absurd adds
  team_is workers j (p ∷ a) xs [] adds = absurd adds
  team_is workers j (p ∷ a) xs (q ∷ b) adds =
      ap (λ es. es ++ all_mine k b) adds.0 ∙ ap (λ es. (mine_of p.view k ++ (if k % workers == j then xs else [])) ++ es) (team_is workers (suc j) a xs b adds.1)

  -- ---- one pass

  -- a pass made these events, in their order, after what it had seen
  pub record Grows (old : PassState) (more : Events) (new : PassState) : Type 0 where
    pub mine : mine_of new.view k ≡ mine_of old.view k ++ more
    pub rest : Events
    pub begins : seen_of new.view k ≡ seen_of old.view k ++ rest
    pub order : HasInOrder more rest

  of_gains : (old new : PassState) (more : Events) → Gains old.view new.view k more → Grows old more new
  of_gains old new more gains = record {
    mine = gains.mine;
    rest = gains.between ++ more;
    begins = gains.seen ∙ append_assoc (seen_of old.view k) gains.between more;
    order = in_order_behind more gains.between more (in_order_same more);
  }

  of_keeps : (old new : PassState) → Keeps old.view new.view k → Grows old [] new
  of_keeps old new keeps = record {
    mine = keeps.mine ∙ sym (append-nil (mine_of old.view k));
    rest = [];
    begins = keeps.seen ∙ sym (append-nil (seen_of old.view k));
    order = tt;
  }

  pub nothing_grows : (old new : PassState) → new ≡ old → Grows old [] new
  nothing_grows old new same = subst (λ (p : PassState). Grows old [] p) (sym same)
      (record { mine = sym (append-nil (mine_of old.view k)); rest = []; begins = sym (append-nil (seen_of old.view k)); order = tt })

  pub grows_on : (a b c : PassState) (xs ys : Events) → Grows a xs b → Grows b ys c → Grows a (xs ++ ys) c
  grows_on a b c xs ys one more = record {
    mine = more.mine ∙ ap (λ es. es ++ ys) one.mine ∙ append_assoc (mine_of a.view k) xs ys;
    rest = one.rest ++ more.rest;
    begins = more.begins ∙ ap (λ es. es ++ more.rest) one.begins ∙ append_assoc (seen_of a.view k) one.rest more.rest;
    order = in_order_on xs ys one.rest more.rest one.order more.order;
  }

  chosen : (b : Bool) (es : Events) → b ≡ true → es ≡ (if b then es else [])
  chosen b es is = rw is refl

  not_chosen : (b : Bool) (es : Events) → b ≡ false → [] ≡ (if b then es else [])
  not_chosen b es is = rw is refl

  pub makes_grows : (old new : PassState) (j : ℕ) (actions : List Action) → Makes old j actions new → Grows old (if j == k then own_events old.view actions else []) new
  makes_grows old new j actions makes = elim (cases_eq j k) [
    | inl here ↦ subst (λ (es : Events). Grows old es new) (chosen (j == k) (own_events old.view actions) (eq-eqb j k here))
        (of_gains old new (own_events old.view actions) (subst (λ (i : ℕ). Gains old.view new.view i (own_events old.view actions)) here makes.here))
    | inr other ↦ subst (λ (es : Events). Grows old es new) (not_chosen (j == k) (own_events old.view actions) (ne_eqb j k other))
        (of_keeps old new (makes.elsewhere k (λ e. other (sym e))))
  ]

  -- ---- a crew

  -- the stripe is one of the map, whose passes the crew's are
  abbrev pub On : Known → Type 0
  On at = (k < stripes_of at.pass.map) × IsOfOneMap at

  -- a crew made these events
  pub record Goes (old : Known) (made : List CrewEvent) (new : Known) : Type 0 where
    pub on : On new
    pub map : new.pass.map ≡ old.pass.map
    pub mine : mine_of new.pass.view k ≡ mine_of old.pass.view k ++ own_of made
    pub team : TeamAdds (length old.team) 0 old.team (walked_of made) new.team
    pub sees : SeesInOrder k old made new.pass

  abbrev pub Leads : Known → List CrewEvent → Known → Type 0
  Leads old made new = On old → Goes old made new

  pub stays : (s : Known) → Leads s [] s
  stays s on = record {
    on = on;
    map = refl;
    mine = sym (append-nil (mine_of s.pass.view k));
    team = team_none (length s.team) 0 s.team;
    sees = record { rest = []; begins = sym (append-nil (seen_of s.pass.view k)); order = tt };
  }

  own_append : (xs ys : List CrewEvent) → own_of (xs ++ ys) ≡ own_of xs ++ own_of ys
  own_append xs ys = flat_map-append (λ (one : CrewEvent). if one.is_of_walk then [] else one.event ∷ []) xs ys

  walked_append : (xs ys : List CrewEvent) → walked_of (xs ++ ys) ≡ walked_of xs ++ walked_of ys
  walked_append xs ys = flat_map-append (λ (one : CrewEvent). if one.is_of_walk then one.event ∷ [] else []) xs ys

  events_append : (xs ys : List CrewEvent) → events_of (xs ++ ys) ≡ events_of xs ++ events_of ys
  events_append xs ys = map-append (λ (one : CrewEvent). one.event) xs ys

  sees_on : (a b c : Known) (xs ys : List CrewEvent) → SeesInOrder k a xs b.pass → SeesInOrder k b ys c.pass → SeesInOrder k a (xs ++ ys) c.pass
  sees_on a b c xs ys one more = record {
    rest = one.rest ++ more.rest;
    begins = more.begins ∙ ap (λ es. es ++ more.rest) one.begins ∙ append_assoc (seen_of a.pass.view k) one.rest more.rest;
    order = subst (λ (es : Events). HasInOrder es (one.rest ++ more.rest)) (sym (events_append xs ys))
        (in_order_on (events_of xs) (events_of ys) one.rest more.rest one.order more.order);
  }

  pub goes_on : (a b c : Known) (xs ys : List CrewEvent) → Leads a xs b → Leads b ys c → Leads a (xs ++ ys) c
  goes_on a b c xs ys leads further on =
      let one = leads on in
      let more = further one.on in
      let teams : TeamAdds (length a.team) 0 b.team (walked_of ys) c.team = subst (λ (n : ℕ). TeamAdds n 0 b.team (walked_of ys) c.team) (team_length (length a.team) 0 a.team (walked_of xs) b.team one.team) more.team in
      record {
        on = more.on;
        map = more.map ∙ one.map;
        mine = more.mine ∙ ap (λ es. es ++ own_of ys) one.mine ∙ append_assoc (mine_of a.pass.view k) (own_of xs) (own_of ys)
            ∙ ap (λ es. mine_of a.pass.view k ++ es) (sym (own_append xs ys));
        team = subst (λ (es : Events). TeamAdds (length a.team) 0 a.team es c.team) (sym (walked_append xs ys))
            (team_on (length a.team) 0 a.team (walked_of xs) b.team (walked_of ys) c.team one.team teams);
        sees = sees_on a b c xs ys one.sees more.sees;
      }

  -- its own pass made these, and its team stays
  pub grows_goes : (old new : Known) (more : Events) → Grows old.pass more new.pass → new.pass.map ≡ old.pass.map → new.team ≡ old.team → Leads old (own more) new
  grows_goes old new more grows map team on =
      let none : TeamAdds (length old.team) 0 old.team [] new.team = subst (λ (t : List PassState). TeamAdds (length old.team) 0 old.team [] t) (sym team) (team_none (length old.team) 0 old.team) in
      record {
        on = (
          subst (λ (n : ℕ). k < n) (sym (ap stripes_of map)) on.0,
          subst (λ (t : List PassState). All (λ (member : PassState). member.map ≡ new.pass.map) t) (sym team) (λ i d lt. on.1 i d lt ∙ sym map),
        );
        map = map;
        mine = grows.mine ∙ ap (λ es. mine_of old.pass.view k ++ es) (sym (own_own more));
        team = subst (λ (es : Events). TeamAdds (length old.team) 0 old.team es new.team) (sym (walked_own more)) none;
        sees = record {
          rest = grows.rest;
          begins = grows.begins;
          order = subst (λ (es : Events). HasInOrder es grows.rest) (sym (events_own more)) grows.order;
        };
      }

  -- nothing but tokens is new
  pub same_goes : (old new : Known) → new ≡ old → Leads old [] new
  same_goes old new same = subst (λ (s : Known). Leads old [] s) (sym same) (stays old)

  -- ---- a walk

  heard_from : (old : PassState) (passes : List PassState) (new : PassState) → HearsEach old passes new → k < stripes_of old.map → StartsWith (seen_of new.view k) (seen_of old.view k)
  heard_from old [] new is lt = subst (λ (p : PassState). StartsWith (seen_of p.view k) (seen_of old.view k)) (sym is) (starts_same (seen_of old.view k))
  heard_from old (pass ∷ passes) new (next, told, rest) lt =
      let gains = told.hears.gains k lt in
      starts_on (seen_of old.view k) (seen_of next.view k) (seen_of new.view k) (gains.between, gains.seen ∙ append-nil (seen_of old.view k ++ gains.between))
      (heard_from next passes new rest (subst (λ (n : ℕ). k < n) (sym (ap stripes_of told.same.map)) lt))

  heard_map : (old : PassState) (passes : List PassState) (new : PassState) → HearsEach old passes new → new.map ≡ old.map
  heard_map old [] new is = ap (λ (p : PassState). p.map) is
  heard_map old (pass ∷ passes) new (next, told, rest) = heard_map next passes new rest ∙ told.same.map

  heard_mine : (old : PassState) (passes : List PassState) (new : PassState) → HearsEach old passes new → k < stripes_of old.map → mine_of new.view k ≡ mine_of old.view k
  heard_mine old [] new is lt = ap (λ (p : PassState). mine_of p.view k) is
  heard_mine old (pass ∷ passes) new (next, told, rest) lt =
      heard_mine next passes new rest (subst (λ (n : ℕ). k < n) (sym (ap stripes_of told.same.map)) lt)
      ∙ (told.hears.gains k lt).mine ∙ append-nil (mine_of old.view k)

  -- it begins with what each of them has seen
  heard_member : (old : PassState) (passes : List PassState) (new : PassState) (i : ℕ) (d : PassState) → HearsEach old passes new → k < stripes_of old.map → i < length passes
      → StartsWith (seen_of new.view k) (seen_of (slice_index_or passes i d).view k)
  heard_member old [] new i d is lt within = absurd (omega arith)
  heard_member old (pass ∷ passes) new zero d (next, told, rest) lt within =
      starts_on (seen_of pass.view k) (seen_of next.view k) (seen_of new.view k) (told.hears.begins k lt)
      (heard_from next passes new rest (subst (λ (n : ℕ). k < n) (sym (ap stripes_of told.same.map)) lt))
  heard_member old (pass ∷ passes) new (suc i) d (next, told, rest) lt within =
      heard_member next passes new i d rest (subst (λ (n : ℕ). k < n) (sym (ap stripes_of told.same.map)) lt) (omega arith)

  told_length : (from : PassState) (team told : List PassState) → Pairwise (IsToldBy from) team told → length told ≡ length team
  told_length from [] [] tells = refl
  told_length from [] (q ∷ told) tells = absurd tells
  told_length from (p ∷ team) [] tells = absurd tells
  told_length from (p ∷ team) (q ∷ told) tells = ap suc (told_length from team told tells.1)

  told_at : (from : PassState) (team told : List PassState) (i : ℕ) (d : PassState) → Pairwise (IsToldBy from) team told → i < length team
      → IsToldBy from (slice_index_or team i d) (slice_index_or told i d)
  told_at from [] told i d tells lt = absurd (omega arith)
  told_at from (p ∷ team) [] i d tells lt = absurd tells
  told_at from (p ∷ team) (q ∷ told) zero d tells lt = tells.0
  told_at from (p ∷ team) (q ∷ told) (suc i) d tells lt = told_at from team told i d tells.1 (omega arith)

  -- passes by their places
  by_place : (workers first : ℕ) (before after : List PassState) (d : PassState) (events : Events) → length after ≡ length before
      → ((j : ℕ) → j < length before → mine_of (slice_index_or after j d).view k ≡ mine_of (slice_index_or before j d).view k ++ (if k % workers == first + j then events else []))
      → TeamAdds workers first before events after
  by_place workers first [] [] d events long each = tt
  by_place workers first [] (q ∷ after) d events long each = absurd cc
  by_place workers first (p ∷ before) [] d events long each = absurd cc
  by_place workers first (p ∷ before) (q ∷ after) d events long each =
      let here : mine_of q.view k ≡ mine_of p.view k ++ (if k % workers == first + 0 then events else []) = each zero (omega arith) in
      let at : first + 0 ≡ first = omega arith in
      let further : length after ≡ length before = omega (arith, long) in
      let next : (j : ℕ) → suc first + j ≡ first + suc j = λ j. omega arith in (
        subst (λ (n : ℕ). mine_of q.view k ≡ mine_of p.view k ++ (if k % workers == n then events else [])) at here,
        by_place workers (suc first) before after d events further
            (λ j lt. subst (λ (n : ℕ). mine_of (slice_index_or after j d).view k ≡ mine_of (slice_index_or before j d).view k ++ (if k % workers == n then events else []))
            (sym (next j)) (each (suc j) (omega (arith, lt)))),
      )

  module _ {Made : ℕ → View GhostAction → Events → Events → Type 0} (old new : Known) (told : List PassState) (tells : Pairwise (IsToldBy old.pass) old.team told)
      (walks : AllWalked (stripes_of old.pass.map) Made told new.team) (hears : HearsEach old.pass new.team new.pass)
      (maps : All (λ (member : PassState). member.map ≡ old.pass.map) new.team) where
    -- a pass that was told has made what it had made
    told_mine : On old → (j : ℕ) → j < length old.team → mine_of (slice_index_or told j old.pass).view k ≡ mine_of (slice_index_or old.team j old.pass).view k
    told_mine on j lt =
        let one = told_at old.pass old.team told j old.pass tells lt in
        let here : (slice_index_or old.team j old.pass).map ≡ old.pass.map = on.1 j old.pass lt in
        let low : k < stripes_of (slice_index_or old.team j old.pass).map = subst (λ (n : ℕ). k < n) (sym (ap stripes_of here)) on.0 in
        (one.hears.gains k low).mine ∙ append-nil (mine_of (slice_index_or old.team j old.pass).view k)

    -- the pass whose turn the stripe isn't makes nothing
    idle : (j : ℕ) → j < length told → k % length told ≢ j → mine_of (slice_index_or new.team j old.pass).view k ≡ mine_of (slice_index_or told j old.pass).view k
    idle j lt other = ((walks.each j old.pass lt).others k (λ turn. other turn.1)).mine

    walk_on : On old → On new
    walk_on on =
        let map = heard_map old.pass new.team new.pass hears in
        (subst (λ (n : ℕ). k < n) (sym (ap stripes_of map)) on.0, λ i d lt. maps i d lt ∙ sym map)

    -- what the team made on the stripe, and that the crew's pass has it after what it had seen
    team_goes : (events : Events) → ((j : ℕ) → j < length told → k % length told ≡ j → mine_of (slice_index_or new.team j old.pass).view k ≡ mine_of (slice_index_or told j old.pass).view k ++ events)
        → SeesInOrder k old (walked events) new.pass → On old → Goes old (walked events) new
    team_goes events in_turn sees on =
        let long = told_length old.pass old.team told tells in
        record {
          on = walk_on on;
          map = heard_map old.pass new.team new.pass hears;
          mine = heard_mine old.pass new.team new.pass hears on.0 ∙ sym (append-nil (mine_of old.pass.view k))
              ∙ ap (λ es. mine_of old.pass.view k ++ es) (sym (own_walked events));
          team = subst (λ (es : Events). TeamAdds (length old.team) 0 old.team es new.team) (sym (walked_walked events))
              (by_place (length old.team) 0 old.team new.team old.pass events (walks.order ∙ long) (λ j lt. made j lt (subst (λ (n : ℕ). j < n) (sym long) lt) (cases_eq (k % length old.team) j)));
          sees = sees;
        } where
          made : (j : ℕ) → j < length old.team → j < length told → (k % length old.team ≡ j) ⊎ (k % length old.team ≢ j)
              → mine_of (slice_index_or new.team j old.pass).view k ≡ mine_of (slice_index_or old.team j old.pass).view k ++ (if k % length old.team == 0 + j then events else [])
          made j lt below (inl turn) =
              let long = told_length old.pass old.team told tells in
              let here : k % length old.team ≡ 0 + j = turn ∙ omega arith in
              in_turn j below (subst (λ (n : ℕ). k % n ≡ j) (sym long) turn) ∙ ap (λ es. es ++ events) (told_mine on j lt)
              ∙ ap (λ es. mine_of (slice_index_or old.team j old.pass).view k ++ es) (chosen (k % length old.team == 0 + j) events (eq-eqb (k % length old.team) (0 + j) here))
          made j lt below (inr other) =
              let long = told_length old.pass old.team told tells in
              let away : k % length old.team ≢ 0 + j = λ e. other (e ∙ omega arith) in
              idle j below (λ e. other (subst (λ (n : ℕ). k % n ≡ j) long e)) ∙ told_mine on j lt ∙ sym (append-nil (mine_of (slice_index_or old.team j old.pass).view k))
              ∙ ap (λ es. mine_of (slice_index_or old.team j old.pass).view k ++ es) (not_chosen (k % length old.team == 0 + j) events (ne_eqb (k % length old.team) (0 + j) away))

    -- the pass that made them has them last, after what it was told
    sees_turn : (events : Events) (j : ℕ) → j < length told → Gains (slice_index_or told j old.pass).view (slice_index_or new.team j old.pass).view k events → On old → SeesInOrder k old (walked events) new.pass
    sees_turn events j lt gains on =
        let long = told_length old.pass old.team told tells in
        let within : j < length old.team = subst (λ (n : ℕ). j < n) long lt in
        let one = told_at old.pass old.team told j old.pass tells within in
        let here : (slice_index_or old.team j old.pass).map ≡ old.pass.map = on.1 j old.pass within in
        let low : k < stripes_of (slice_index_or old.team j old.pass).map = subst (λ (n : ℕ). k < n) (sym (ap stripes_of here)) on.0 in
        let (r, knows) = one.hears.begins k low in
        let (s, hear) = heard_member old.pass new.team new.pass j old.pass hears on.0 (subst (λ (n : ℕ). j < n) (sym walks.order) lt) in
        let seen = seen_of old.pass.view k in
        let front = r ++ gains.between in
        record {
          rest = (front ++ events) ++ s;
          begins = hear ∙ ap (λ es. es ++ s) (gains.seen ∙ ap (λ es. (es ++ gains.between) ++ events) knows)
              ∙ ap (λ es. (es ++ events) ++ s) (append_assoc seen r gains.between)
              ∙ ap (λ es. es ++ s) (append_assoc seen front events) ∙ append_assoc seen (front ++ events) s;
          order = subst (λ (es : Events). HasInOrder es ((front ++ events) ++ s)) (sym (events_walked events)) (in_order_within events front s);
        }

    sees_none : On old → SeesInOrder k old [] new.pass
    sees_none on =
        let (rest, is) = heard_from old.pass new.team new.pass hears on.0 in
        record { rest = rest; begins = is; order = tt }

    goes_by : (x : (k < stripes_of old.pass.map) ⊎ (stripes_of old.pass.map ≤ k)) (y : (k % length told < length told) ⊎ (length told ≤ k % length told))
        → On old → Goes old (walked (made_in_turn k (stripes_of old.pass.map) old.pass told new.team walks x y)) new
    goes_by (inl within) (inl some) on =
        let j = k % length told in
        let turn = (walks.each j old.pass some).turns k (within, refl) in
        team_goes turn.0 (λ i lt e. subst (λ (m : ℕ). mine_of (slice_index_or new.team m old.pass).view k ≡ mine_of (slice_index_or told m old.pass).view k ++ turn.0) e turn.1.0.mine)
        (sees_turn turn.0 j some turn.1.0 on) on
    goes_by (inl within) (inr none) on = team_goes [] (λ i lt e. absurd (omega (arith, lt, e, none))) (sees_none on) on
    goes_by (inr beyond) y on = absurd (let low = on.0 in omega (arith, low, beyond))

    pub walk_goes : Leads old (made_by_walk k (stripes_of old.pass.map) old.pass told new.team walks) new
    walk_goes on = goes_by (cases_lt k (stripes_of old.pass.map)) (cases_lt (k % length told) (length told)) on

  -- a walk that made nothing
  told_adds : (old : Known) (told : List PassState) → Pairwise (IsToldBy old.pass) old.team told → On old → TeamAdds (length old.team) 0 old.team [] told
  told_adds old told tells on = by_place (length old.team) 0 old.team told old.pass [] (told_length old.pass old.team told tells) (λ j lt.
      let one = told_at old.pass old.team told j old.pass tells lt in
      let here : (slice_index_or old.team j old.pass).map ≡ old.pass.map = on.1 j old.pass lt in
      let low : k < stripes_of (slice_index_or old.team j old.pass).map = subst (λ (n : ℕ). k < n) (sym (ap stripes_of here)) on.0 in
      (one.hears.gains k low).mine ∙ ap (λ es. mine_of (slice_index_or old.team j old.pass).view k ++ es) (neither (k % length old.team == 0 + j) [])) where
        neither : (b : Bool) (es : Events) → es ≡ (if b then es else es)
        neither true es = refl
        neither false es = refl

  stops_go : (old new : Known) (told : List PassState) → Pairwise (IsToldBy old.pass) old.team told → new.team ≡ told → HearsEach old.pass new.team new.pass
      → All (λ (member : PassState). member.map ≡ old.pass.map) new.team → Leads old [] new
  stops_go old new told tells same hears maps on =
      let map = heard_map old.pass new.team new.pass hears in
      let (rest, is) = heard_from old.pass new.team new.pass hears on.0 in
      record {
        on = (subst (λ (n : ℕ). k < n) (sym (ap stripes_of map)) on.0, λ i d lt. maps i d lt ∙ sym map);
        map = map;
        mine = heard_mine old.pass new.team new.pass hears on.0 ∙ sym (append-nil (mine_of old.pass.view k));
        team = subst (λ (t : List PassState). TeamAdds (length old.team) 0 old.team [] t) (sym same) (told_adds old told tells on);
        sees = record { rest = rest; begins = is; order = tt };
      }

  -- ---- the steps of a crew

  once : (old new : Station) (response : Response) (responses : List Response) → AnswersOnce old response responses new → Leads (known old) [] (known new)
  once old new response responses (is, same) = same_goes (known old) (known new) (ap known same)

  call_goes : (old new : Station) (responses : List Response) (invocation : Invocation) → new.pass.map ≡ old.pass.map → new.team ≡ old.team
      → (m : (((reply : Reply) × Calls old.pass invocation reply new.pass × (responses ≡ response_to reply ∷ []))
      ⊎ (RefusesCall old.pass invocation new.pass × (responses ≡ tell.Refused 9 0 ∷ [])))) → Leads (known old) (made_by_call k old.pass new.pass responses invocation m) (known new)
  call_goes old new responses invocation map team (inl (reply, calls, is)) =
      grows_goes (known old) (known new) (if stripe_for old.pass invocation == k then own_events old.pass.view (called invocation reply ∷ []) else [])
      (makes_grows old.pass new.pass (stripe_for old.pass invocation) (called invocation reply ∷ []) calls) map team
  call_goes old new responses invocation map team (inr (refuses, is)) =
      let j = stripe_for old.pass invocation in
      grows_goes (known old) (known new) [] (subst (λ (es : Events). Grows old.pass es new.pass) (empty (j == k)) (makes_grows old.pass new.pass j [] refuses.nothing)) map team where
        empty : (b : Bool) → (if b then own_events old.pass.view [] else []) ≡ []
        empty true = refl
        empty false = refl

  asked_goes : (hello : Option Version) (old : Station) (responses : List Response) (new : Station) (asks : Asked) (m : CrewMeets hello old asks responses new)
      → Leads (known old) (made_as_asked k hello old new responses asks m) (known new)
  asked_goes hello old responses new (greeting version) m = once old new _ responses m
  asked_goes hello old responses new (registration sizes bytes) (inl (token, admits, is, same)) = same_goes (known old) (known new) (ap known same)
  asked_goes hello old responses new (registration sizes bytes) (inr (inl (token, admits, held, m))) = once old new _ responses m
  asked_goes hello old responses new (registration sizes bytes) (inr (inr (inl (response, refuses, m)))) = once old new response responses m
  asked_goes hello old responses new (registration sizes bytes) (inr (inr (inr m))) = once old new _ responses m
  asked_goes hello old responses new (call invocation) m = call_goes old new responses invocation m.same.map m.team m.made
  asked_goes hello old responses new (walk kind program arg) (inl (reply, w, is)) = walk_goes (known old) (known new) w.told w.tells w.walks.walked w.hears w.map
  asked_goes hello old responses new (walk kind program arg) (inr (w, is)) = walk_goes (known old) (known new) w.told w.tells w.walks w.hears w.map
  asked_goes hello old responses new (replacement program arg) (inl (reply, w, is)) = walk_goes (known old) (known new) w.told w.tells w.walks.walked w.hears w.map
  asked_goes hello old responses new (replacement program arg) (inr (w, is)) = stops_go (known old) (known new) w.told w.tells w.walks w.hears w.map
  asked_goes hello old responses new count (inl (reply, w, is)) = walk_goes (known old) (known new) w.told w.tells w.walks.walked w.hears w.map
  asked_goes hello old responses new count (inr (w, is)) = walk_goes (known old) (known new) w.told w.tells w.walks w.hears w.map
  asked_goes hello old responses new unknown m = once old new _ responses m

  pub step_goes : (hello : Option Version) (old : Station) (request : Request) (responses : List Response) (new : Station) (one : CrewServes hello old request responses new)
      → Leads (known old) (made_by_step k hello old request responses new one) (known new)
  step_goes hello old request responses new (inl answers) on =
      asked_goes hello (keeping old answers.kept) responses new (asked (λ _. answers.found) request) answers.meets on
  step_goes hello old request responses new (inr (names, refused)) on = once old new _ responses refused on

  sessions_go : (n : ℕ) (old new : Crew) (s : SessionsOfCrew n old new) → Leads (known_of old) (made_in_sessions k n old new s) (known_of new)
  sessions_go zero old new same = same_goes (known_of old) (known_of new) (ap known_of same)
  sessions_go (suc n) old new (mid, before, one) =
      let begin = station mid (no_tokens one.registry) in
      let end = station new one.tokens in
      goes_on (known_of old) (known_of mid) (known_of new) (made_in_sessions k n old mid before)
      (in_session CrewServes (made_by_step k) begin end one.read one.written one.last one.end one.ended)
      (sessions_go n old mid before)
      (session_leads CrewServes (made_by_step k) (λ a made b. Leads (known a) made (known b)) (λ s. stays (known s)) (λ a b c xs ys. goes_on (known a) (known b) (known c) xs ys) step_goes
      begin end one.read one.written one.last one.end one.ended)

  -- ---- joined crews

  whole_made : (old : Known) (made : List CrewEvent) (new : Known) (pass : PassState) → Goes old made new → Joins k new pass → mine_of pass.view k ≡ crew_made k old made
  whole_made old made new pass goes joins =
      joins.mine ∙ ap (λ es. es ++ all_mine k new.team) goes.mine
      ∙ ap (λ es. (mine_of old.pass.view k ++ own_of made) ++ es) (team_is (length old.team) 0 old.team (walked_of made) new.team goes.team)

  whole_sees : (old : Known) (made : List CrewEvent) (new : Known) (pass joined : PassState) → Goes old made new → Joins k new pass → StartsWith (seen_of joined.view k) (seen_of pass.view k)
      → SeesInOrder k old made joined
  whole_sees old made new pass joined goes joins begins =
      let (r, is) = starts_on (seen_of new.pass.view k) (seen_of pass.view k) (seen_of joined.view k) joins.begins begins in
      record {
        rest = goes.sees.rest ++ r;
        begins = is ∙ ap (λ es. es ++ r) goes.sees.begins ∙ append_assoc (seen_of old.pass.view k) goes.sees.rest r;
        order = subst (λ (es : Events). HasInOrder es (goes.sees.rest ++ r)) (append-nil (events_of made)) (in_order_on (events_of made) [] goes.sees.rest r goes.sees.order tt);
      }

  pub sees_crews : (first : Known) (made : List CrewEvent) (one : Known) (second : Known) (later : List CrewEvent) (other : Known) (left right joined : PassState)
      → Goes first made one → Goes second later other → Joins k one left → Joins k other right → (k < stripes_of joined.map)
      → IsJoined (stripes_of joined.map) left.view right.view joined.view → Sound (stripes_of joined.map) joined.view → SeesCrews k first made second later joined
  sees_crews first made one second later other left right joined goes also joins joins_other lt is sound = record {
    once = λ q carried. sound.own k q carried ∙ ap (made_by q) (is.mine k lt
        ∙ ap (λ es. es ++ mine_of right.view k) (whole_made first made one left goes joins)
        ∙ ap (λ es. crew_made k first made ++ es) (whole_made second later other right also joins_other));
    order = whole_sees first made one left joined goes joins (is.begins k lt);
    order_other = whole_sees second later other right joined also joins_other (is.begins_other k lt);
  }

-- sessions leave a crew's pass with the map that it had
sessions_keep : (n : ℕ) (old new : Crew) → SessionsOfCrew n old new → new.pass.map ≡ old.pass.map
sessions_keep zero old new same = ap (λ (c : Crew). c.pass.map) same
sessions_keep (suc n) old new (mid, before, one) =
    (ended_same (station mid (no_tokens one.registry)) one.end one.read one.last one.written (station new one.tokens) one.ended).map ∙ sessions_keep n old mid before

-- what two crews were answered in sessions is in the pass that joins all their passes
pub sees_sessions : (one other : Crew) (left right joined : PassState)
    → ((k : ℕ) → k < stripes_of joined.map → Joins k (known_of one) left) → ((k : ℕ) → k < stripes_of joined.map → Joins k (known_of other) right)
    → one.pass.map ≡ joined.map → other.pass.map ≡ joined.map
    → IsJoined (stripes_of joined.map) left.view right.view joined.view → Sound (stripes_of joined.map) joined.view → SeesSessions one other joined
sees_sessions one other left right joined joins joins_other map map_other is sound n m first second sessions later k of_first of_second lt =
    sees_crews k (known_of first) (made_in_sessions k n first one sessions) (known_of one) (known_of second) (made_in_sessions k m second other later) (known_of other) left right joined
    (sessions_go k n first one sessions (low first one (sessions_keep n first one sessions) map, of_first))
    (sessions_go k m second other later (low second other (sessions_keep m second other later) map_other, of_second))
    (joins k lt) (joins_other k lt) lt is sound where
      low : (old new : Crew) → new.pass.map ≡ old.pass.map → new.pass.map ≡ joined.map → k < stripes_of old.pass.map
      low old new same at = subst (λ (n : ℕ). k < n) (ap stripes_of (sym at ∙ same)) lt

-- ---- a list that is taken from its end

pub last_of : {A B : Type 0} (f : A → List B) (xs ys : List A) (x : A) → ys ≡ xs ++ x ∷ [] → flat_map f xs ++ f x ≡ flat_map f ys
last_of f xs ys x is = sym (ap (flat_map f) is ∙ flat_map-append f xs (x ∷ []) ∙ ap (λ t. flat_map f xs ++ t) (append-nil (f x)))

pub one_less : {A B : Type 0} (f : A → List B) (xs ys : List A) (x : A) (joined more all : List B) → ys ≡ xs ++ x ∷ [] → more ≡ f x ++ joined → flat_map f ys ++ joined ≡ all
    → flat_map f xs ++ more ≡ all
one_less f xs ys x joined more all is joins before =
    ap (λ t. flat_map f xs ++ t) joins ∙ sym (append_assoc (flat_map f xs) (f x) joined) ∙ ap (λ t. t ++ joined) (last_of f xs ys x is) ∙ before
