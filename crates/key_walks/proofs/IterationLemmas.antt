-- The pages of a whole walk come to each place.
use Rattle.std.proofs.Common.{◌≡◌, ◌≢◌, ℕ, zero, suc, ◌+◌, ◌/◌, ◌^◌, ◌<◌, ◌≤◌, ◌⊎◌, Bool, true, false, cond, max, List, [], ◌∷◌, inl, inr, refl, sym, ap, ◌∙◌, subst, arith, length, sum_by, count_by, filter}
use Rattle.std.specs.List.{flat_map, fold}
use Rattle.std.specs.Str.{bytes_eq}
use Rattle.std.proofs.lemmas.Bool.{cases_lt, cond_both, lt-ltb}
use Rattle.std.proofs.lemmas.Bool.Decides.{nat_tests}
use Rattle.std.proofs.lemmas.List.Sums.{sum_by-cons, sum_by-append}
use Rattle.std.proofs.lemmas.Slice.Eq.{bytes_eq-Decides}
use Rattle.stripe_rule.specs.Gains.{Keeps}
use Rattle.bins.specs.Table.{Entry}
use Rattle.bin_stripes.specs.Invoked.{Scans}
use Rattle.bin_stripes.specs.Passes.{PassState, ServesSameMap}
use Rattle.key_walks.specs.Places.{fnv, fnv_more, place_of, start_of, stands_in, cursor_of}
use Rattle.key_walks.specs.Turns.{InTurn, AreKeysOf}
use Rattle.key_walks.specs.Expired.{Expires, AfterExpiry}
use Rattle.key_walks.specs.Pages.{Part, TakesLive, Follow, IsPage, stripes_from}
use Rattle.key_walks.specs.Iterations.{PageCall, GoesOn, IsWhole, Shows, AreShown}
use Rattle.key_walks.proofs.ChainLemmas.{same_map, same_on}
use Rattle.key_walks.proofs.ExpiryLemmas.{keeps_on, expires_numbers, expires_elsewhere}
use Rattle.key_walks.proofs.PageLemmas.{filtered}

folded_below : (h : ℕ) (key : List ℕ) → h < 2 ^ 32 → fold fnv_more h key < 2 ^ 32
folded_below h [] low = low
folded_below h (x ∷ xs) low = folded_below (fnv_more h x) xs (omega arith)

fnv_below : (key : List ℕ) → fnv key < 2 ^ 32
unfolding fnv
fnv_below key = folded_below 2166136261 key (omega arith)

-- the key stands in a part that goes round its place
stands_here : (k from until : ℕ) (key : List ℕ) → from ≤ place_of k key → place_of k key < until → stands_in k from until key ≡ true
stands_here k from until key low high = grind (arith, nat_tests)

no_weight : (b : Bool) → cond b zero zero ≡ zero
no_weight true = refl
no_weight false = refl

same_weight : (k from until : ℕ) (key : List ℕ) → from ≤ place_of k key → place_of k key < until → (entry : Entry)
    → ◌≡◌ {A = ℕ} (cond (stands_in k from until entry.0) (cond (bytes_eq key entry.0) 1 0) 0) (cond (bytes_eq key entry.0) 1 0)
same_weight k from until key low high entry =
    cond_both {A = ℕ} (bytes_eq key entry.0) 1 0 (λ (x : ℕ). cond (stands_in k from until entry.0) x 0 ≡ x)
    (λ eq.
    let stands = subst (λ (other : List ℕ). stands_in k from until other ≡ true) ((bytes_eq-Decides key entry.0).0 eq) (stands_here k from until key low high) in
    ap (λ (b : Bool). cond b (suc zero) zero) stands)
    (λ ne. no_weight (stands_in k from until entry.0))

sums_same : (f g : Entry → ℕ) (xs : List Entry) → ((x : Entry) → f x ≡ g x) → sum_by f xs ≡ sum_by g xs
sums_same f g [] e = refl
sums_same f g (x ∷ xs) e =
    let rest = sums_same f g xs e in
    let one = sum_by-cons f x xs in
    let other = sum_by-cons g x xs in
    let here = e x in
    omega (arith, rest, one, other, here)

-- a part that goes round the key's place has the key as often as the scan found it
part_shows : (k from until : ℕ) (key : List ℕ) (entries : List Entry) (keys : List (List ℕ)) → from ≤ place_of k key → place_of k key < until
    → AreKeysOf (filter (λ (entry : Entry). stands_in k from until entry.0) entries) keys
    → count_by (λ (other : List ℕ). bytes_eq key other) keys ≡ count_by (λ (entry : Entry). bytes_eq key entry.0) entries
part_shows k from until key entries keys low high are =
    are (λ other. cond (bytes_eq key other) 1 0)
    ∙ filtered (λ entry. cond (bytes_eq key entry.0) 1 0) (λ (entry : Entry). stands_in k from until entry.0) entries
    ∙ sums_same _ _ entries (same_weight k from until key low high)

live_numbers : (now most : ℕ) (p : PassState) (k : ℕ) (part : Part) (q : PassState) → TakesLive now most p k part q → q.view.numbers ≡ p.view.numbers
live_numbers now most p k part q takes = takes.did.scans.numbers ∙ expires_numbers now p k takes.between takes.expires

live_elsewhere : (now most : ℕ) (p : PassState) (k : ℕ) (part : Part) (q : PassState) (j : ℕ) → j ≢ k → TakesLive now most p k part q → Keeps p.view q.view j
live_elsewhere now most p k part q j apart takes =
    keeps_on p.view takes.between.view q.view j (expires_elsewhere now p k takes.between j apart takes.expires) (takes.did.scans.elsewhere j apart)

-- the scan of the part's stripe, after the expiries there
live_scans : (now most : ℕ) (p : PassState) (k j : ℕ) (part : Part) (q : PassState) (takes : TakesLive now most p j part q) → k ≡ j
    → AfterExpiry now (λ p q. Scans p k takes.did.entries q) p k q
live_scans now most p k j part q takes same = record {
  between = takes.between;
  same = takes.same;
  expires = subst (λ m. Expires now p m takes.between) (sym same) takes.expires;
  did = subst (λ m. Scans takes.between m takes.did.entries q) (sym same) takes.did.scans;
}

module _ (now most : ℕ) where
  -- parts of other stripes
  takes_others : (at : ℕ → ℕ) (old new : PassState) (parts : List Part) (k : ℕ) → InTurn (TakesLive now most) at old parts new → ((i : ℕ) → k ≢ at i)
      → Keeps old.view new.view k
  takes_others at old new [] k turns apart =
      subst (λ (p : PassState). Keeps old.view p.view k) (sym turns) (record { seen = refl; mine = refl })
  takes_others at old new (part ∷ parts) k turns apart =
      keeps_on old.view turns.0.view new.view k (live_elsewhere now most old (at 0) part turns.0 k (apart 0) turns.1.1.0)
      (takes_others (λ i. at (suc i)) turns.0 new parts k turns.1.1.1 (λ i. apart (suc i)))

  -- the parts go on
  reaches : (at : ℕ → ℕ) (old new : PassState) (parts : List Part) (from before until : ℕ) → InTurn (TakesLive now most) at old parts new → Follow from before parts until
      → from ≤ until
  reaches at old new [] from before until turns follow = omega (arith, follow)
  reaches at old new (part ∷ parts) from before until turns follow =
      let rest = reaches (λ i. at (suc i)) turns.0 new parts part.until (before + length part.keys) until turns.1.1.1 follow.1.1 in
      let on = turns.1.1.0.did.goes_on in
      let begins = follow.0 in
      omega (arith, rest, on, begins)

-- one of the parts goes round the key's place; its stripe is not before the first one
record Comes (now k : ℕ) (key : List ℕ) (first : ℕ) (old new : PassState) (keys : List (List ℕ)) : Type 0 where
  pub before : PassState
  pub same : ServesSameMap old before
  pub numbers : before.view.numbers ≡ old.view.numbers
  pub nothing_before : Keeps old.view before.view k
  pub entries : List Entry
  pub after : PassState
  pub scans : AfterExpiry now (λ p q. Scans p k entries q) before k after
  pub nothing_after : Keeps after.view new.view k
  pub shows : count_by (λ (entry : Entry). bytes_eq key entry.0) entries ≤ count_by (λ (other : List ℕ). bytes_eq key other) keys
  pub later : first ≤ k

rising : (at : ℕ → ℕ) → ((i : ℕ) → at i < at (suc i)) → (i : ℕ) → at 0 < at (suc i)
rising at inc zero = inc 0
rising at inc (suc i) = let before = rising at inc i in let here = inc (suc i) in omega (arith, before, here)

-- the part's stripe is the key's
same_stripe : (k first from until h : ℕ) → from / 2 ^ 32 ≡ first → until ≤ start_of (first + 1) → from ≤ start_of k + h → start_of k + h < until → h < 2 ^ 32 → k ≡ first
same_stripe k first from until h begins ends low high small = omega (arith, begins, ends, low, high, small)

comes : (now most : ℕ) (at : ℕ → ℕ) (old new : PassState) (parts : List Part) (from before until k : ℕ) (key : List ℕ) → ((i : ℕ) → at i < at (suc i))
    → InTurn (TakesLive now most) at old parts new → Follow from before parts until → from ≤ place_of k key → place_of k key < until
    → Comes now k key (at 0) old new (flat_map (λ (p : Part). p.keys) parts)
comes now most at old new [] from before until k key inc turns follow low high = absurd (omega (arith, follow, low, high))
comes now most at old new (part ∷ parts) from before until k key inc turns follow low high =
    let between = turns.0 in
    let live = turns.1.1.0 in
    let takes = live.did in
    let begins = follow.0 in
    let both = sum_by-append (λ (other : List ℕ). cond (bytes_eq key other) 1 0) part.keys (flat_map (λ (p : Part). p.keys) parts) in
    elim (cases_lt (place_of k key) part.until) [
      | inl here ↦
          let same = same_stripe k (at 0) part.from part.until (fnv key) takes.begins takes.ends (omega (arith, low, begins)) here (fnv_below key) in
          let keys_are = subst (λ m. AreKeysOf (filter (λ (entry : Entry). stands_in m part.from part.until entry.0) takes.entries) part.keys) (sym same) takes.keys_are in
          let shows = part_shows k part.from part.until key takes.entries part.keys (omega (arith, low, begins)) here keys_are in
          record {
            before = old;
            same = same_map old;
            numbers = refl;
            nothing_before = record { seen = refl; mine = refl };
            entries = takes.entries;
            after = between;
            scans = live_scans now most old k (at 0) part between live same;
            nothing_after = takes_others now most (λ i. at (suc i)) between new parts k turns.1.1.1
                (λ i e. let up = rising at inc i in omega (arith, same, e, up));
            shows = omega (arith, shows, both);
            later = omega (arith, same);
          }
      | inr past ↦
          let rest = comes now most (λ i. at (suc i)) between new parts part.until (before + length part.keys) until k key (λ i. inc (suc i)) turns.1.1.1 follow.1.1 past high in
          let up = inc 0 in
          let later = rest.later in
          let shows = rest.shows in
          let kept = live_elsewhere now most old (at 0) part between k (λ e. omega (arith, e, up, later)) live in
          record {
            before = rest.before;
            same = same_on old between rest.before turns.1.0 rest.same;
            numbers = rest.numbers ∙ live_numbers now most old (at 0) part between live;
            nothing_before = keeps_on old.view between.view rest.before.view k kept rest.nothing_before;
            entries = rest.entries;
            after = rest.after;
            scans = rest.scans;
            nothing_after = rest.nothing_after;
            shows = omega (arith, shows, both);
            later = omega (arith, up, later);
          }
    ]

page_shows : (page : PageCall) (is : IsPage page.now page.old page.cursor page.most page.keys page.next page.new) (k : ℕ) (key : List ℕ) → page.cursor ≤ place_of k key
    → place_of k key < is.until → Shows k key page
page_shows page is k key low high =
    let c = comes page.now (max page.most 1) (stripes_from page.cursor) page.old page.new is.parts page.cursor 0 is.until k key (λ i. omega arith) is.turns is.follow low high in
    record {
      before = c.before;
      same = c.same;
      numbers = c.numbers;
      nothing_before = c.nothing_before;
      entries = c.entries;
      after = c.after;
      scans = c.scans;
      nothing_after = c.nothing_after;
      shows = subst (λ (keys : List (List ℕ)). count_by (λ (entry : Entry). bytes_eq key entry.0) c.entries ≤ count_by (λ (other : List ℕ). bytes_eq key other) keys) (sym is.keys_are) c.shows;
    }

-- a page that is not the last comes further
further : (now most stripes : ℕ) (at : ℕ → ℕ) (old new : PassState) (parts : List Part) (cursor until : ℕ) (keys : List (List ℕ)) → InTurn (TakesLive now (max most 1)) at old parts new
    → Follow cursor 0 parts until → keys ≡ flat_map (λ (p : Part). p.keys) parts → (max most 1 ≤ length keys) ⊎ (start_of stripes ≤ until) → until < start_of stripes → 0 < until
further now most stripes at old new [] cursor until keys turns follow are enough low =
    let none : length keys ≡ 0 = ap (λ (ks : List (List ℕ)). length ks) are in
    elim enough [ inl many ↦ absurd (omega (arith, many, none)) | inr end ↦ absurd (omega (arith, end, low)) ]
further now most stripes at old new (part ∷ parts) cursor until keys turns follow are enough low =
    let rest = reaches now (max most 1) (λ i. at (suc i)) turns.0 new parts part.until (0 + length part.keys) until turns.1.1.1 follow.1.1 in
    let on = turns.1.1.0.did.goes_on in
    omega (arith, rest, on)

shown_on : (stripes k : ℕ) (key : List ℕ) → k < stripes → (cursor : ℕ) (pages : List PageCall) → (pages ≢ []) ⊎ (cursor ≢ 0) → GoesOn stripes cursor pages
    → cursor ≤ place_of k key → AreShown k key pages
shown_on stripes k key inside cursor [] some goes low = elim some [ inl ne ↦ absurd (ne refl) | inr ne ↦ absurd (ne goes) ]
shown_on stripes k key inside cursor (page ∷ pages) some goes low =
    let is = goes.1.1.0 in
    let begins = goes.1.0 in
    elim (cases_lt (place_of k key) is.until) [
      | inl here ↦ (0, page, omega arith, refl, page_shows page is k key (omega (arith, begins, low)) here)
      | inr past ↦
          let small = fnv_below key in
          let left : is.until < start_of stripes = omega (arith, past, inside, small) in
          let on = further page.now page.most stripes (stripes_from page.cursor) page.old page.new is.parts page.cursor is.until page.keys is.turns is.follow is.keys_are
          (subst (λ s. (max page.most 1 ≤ length page.keys) ⊎ (start_of s ≤ is.until)) goes.0 is.enough) left in
          let next : page.next ≡ is.until =
          is.next_is ∙ ap (λ s. cursor_of s is.until) goes.0 ∙ ap (λ (b : Bool). cond b is.until zero) (lt-ltb is.until (start_of stripes) left) in
          let rest = shown_on stripes k key inside page.next pages (inr (λ e. omega (arith, e, next, on))) goes.1.1.1 (omega (arith, next, past)) in
          (suc rest.0, rest.1, (let low' = rest.2 in omega (arith, low')), rest.3, rest.4)
    ]

-- each key has its turn in a whole walk
pub all_shown : (stripes k : ℕ) (key : List ℕ) (pages : List PageCall) → IsWhole stripes pages → k < stripes → AreShown k key pages
all_shown stripes k key pages whole inside = shown_on stripes k key inside 0 pages (inl whole.0) whole.1 (omega arith)
