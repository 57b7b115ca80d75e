-- Pages and their parts.
use Rattle.std.proofs.Common.{◌≡◌, ℕ, zero, suc, ◌+◌, ◌-◌, ◌/◌, ◌^◌, ◌<◌, ◌≤◌, Bool, false, cond, leb, ltb, ◌&&◌, List, [], ◌∷◌, ◌++◌, ◌⊎◌, max, inl, inr, refl, sym, ap, ◌∙◌, subst, arith, map, length, sum_by, count_by, filter, length-append}
use Rattle.std.specs.List.{flat_map}
use Rattle.std.proofs.lemmas.Bool.{cases_lt, cond_both}
use Rattle.std.proofs.lemmas.Bool.Decides.{nat_tests}
use Rattle.std.proofs.lemmas.List.{flat_map_more, length-map}
use Rattle.std.proofs.lemmas.List.Sums.{sum_by-cons, length-filter}
use Rattle.bins.specs.Copies.{WeighSame}
use Rattle.bins.specs.Table.{Entry}
use Rattle.bin_stripes.specs.Invoked.{CopiesStripe}
use Rattle.bin_stripes.specs.Passes.{PassState, ServesSameMap, stripes_of}
use Rattle.key_walks.specs.Places.{place_of, start_of, stands_in, cursor_of}
use Rattle.key_walks.specs.Turns.{InTurn, AreKeysOf}
use Rattle.key_walks.specs.Expired.{Expires, MayScanLive, StopsLive}
use Rattle.key_walks.specs.Pages.{Part, TakesLive, TakesMore, Follow, IsPage, stripes_from}
use Rattle.key_walks.proofs.ChainLemmas.{turn_more}
use Rattle.key_walks.proofs.FindingLemmas.{sum_by_mapped}

nowhere : (from place : ℕ) → (leb from place && ltb place from) ≡ false
nowhere from place = grind (arith, nat_tests)

-- no place lies between a place and itself
pub none_between : (from : ℕ) (places : List ℕ) → count_by (λ place. leb from place && ltb place from) places ≡ 0
none_between from [] = refl
none_between from (x ∷ xs) =
    let rest = none_between from xs in
    let one = sum_by-cons (λ place. cond (leb from place && ltb place from) 1 0) x xs in
    let here : cond (leb from x && ltb x from) 1 0 ≡ 0 = ap (λ (b : Bool). cond b (suc zero) zero) (nowhere from x) in
    omega (arith, rest, one, here)

-- the places were counted, and so the entries
pub count_places : (k from until : ℕ) (found : List Entry) (places : List ℕ) → places ≡ map (λ (e : Entry). place_of k e.0) found
    → count_by (λ place. leb from place && ltb place until) places ≡ count_by (λ (e : Entry). stands_in k from until e.0) found
count_places k from until found places are =
    ap (λ (ps : List ℕ). count_by (λ place. leb from place && ltb place until) ps) are
    ∙ sum_by_mapped (λ place. cond (leb from place && ltb place until) 1 0) (λ (e : Entry). place_of k e.0) found

-- what passes weighs as much as what passes in the list
pub filtered : (weight : Entry → ℕ) (p : Entry → Bool) (xs : List Entry) → sum_by weight (filter p xs) ≡ sum_by (λ x. cond (p x) (weight x) 0) xs
filtered weight p [] = refl
filtered weight p (x ∷ xs) =
    let rest = filtered weight p xs in
    let other = sum_by-cons (λ (x : Entry). cond (p x) (weight x) 0) x xs in
    let one = sum_by-cons weight x (filter p xs) in
    cond_both (p x) (x ∷ filter p xs) (filter p xs) (λ (ys : List Entry). sum_by weight ys ≡ sum_by (λ x. cond (p x) (weight x) 0) (x ∷ xs))
    (λ passes. let here : cond (p x) (weight x) 0 ≡ weight x = ap (λ (b : Bool). cond b (weight x) zero) passes in omega (arith, rest, one, other, here))
    (λ fails. let here : cond (p x) (weight x) 0 ≡ 0 = ap (λ (b : Bool). cond b (weight x) zero) fails in omega (arith, rest, other, here))

-- copies that weigh the same have the same keys in a part
pub keys_in_part : (p : Entry → Bool) (found entries : List Entry) → WeighSame found entries → AreKeysOf (filter p entries) (map (λ (e : Entry). e.0) (filter p found))
keys_in_part p found entries same weight =
    sum_by_mapped weight (λ (e : Entry). e.0) (filter p found) ∙ filtered (λ e. weight e.0) p found ∙ same (λ e. cond (p e) (weight e.0) 0)
    ∙ sym (filtered (λ e. weight e.0) p entries)

-- a part of the stripe that the place is in
pub takes_more : (now most : ℕ) (first old new : PassState) (before after : List (List ℕ)) (from until : ℕ) (none found : List Entry)
    → ServesSameMap first old → Expires now first (from / 2 ^ 32) old → none ≡ [] → CopiesStripe old (from / 2 ^ 32) none found new → from < until → until ≤ start_of (from / 2 ^ 32 + 1)
    → after ≡ before ++ map (λ (e : Entry). e.0) (filter (λ (e : Entry). stands_in (from / 2 ^ 32) from until e.0) found)
    → (length before + count_by (λ (e : Entry). stands_in (from / 2 ^ 32) from until e.0) found < most → until ≡ start_of (from / 2 ^ 32 + 1))
    → length before + count_by (λ (e : Entry). stands_in (from / 2 ^ 32) from (until - 1) e.0) found < most
    → TakesMore now most first before from after until new
takes_more now most first old new before after from until none found same_first expires is_none copies on inside added enough few =
    let k = from / 2 ^ 32 in
    let p = λ (e : Entry). stands_in k from until e.0 in
    let keys = map (λ (e : Entry). e.0) (filter p found) in
    let is : found ≡ copies.copies = copies.added ∙ ap (λ (es : List Entry). es ++ copies.copies) is_none in
    let same : WeighSame found copies.entries = subst (λ (es : List Entry). WeighSame es copies.entries) (sym is) copies.same in
    let many : length keys ≡ count_by p found = length-map (filter p found) (λ (e : Entry). e.0) ∙ length-filter p found in
    let weighs = same (λ e. cond (stands_in k from (until - 1) e.0) 1 0) in
    record {
      part = record { from = from; until = until; before = length before; keys = keys };
      takes = record {
        between = old;
        same = same_first;
        expires = expires;
        did = record {
          entries = copies.entries;
          scans = copies.scans;
          begins = refl;
          goes_on = on;
          ends = inside;
          keys_are = keys_in_part p found copies.entries same;
          enough = elim (cases_lt (length before + count_by p found) most) [
            | inl lt ↦ inr (enough lt)
            | inr ge ↦ inl (omega (arith, ge, many))
          ];
          few = omega (arith, few, weighs);
        };
      };
      from_is = refl;
      until_is = refl;
      before_is = refl;
      added = added;
    }

-- one more part
follow_more : (from before : ℕ) (parts : List Part) (until : ℕ) (part : Part) → Follow from before parts until → part.from ≡ until
    → part.before ≡ before + length (flat_map (λ (p : Part). p.keys) parts) → Follow from before (parts ++ part ∷ []) part.until
follow_more from before [] until part f at b = (at ∙ f, (omega (arith, b), refl))
follow_more from before (p ∷ ps) until part f at b =
    let both = length-append p.keys (flat_map (λ (p : Part). p.keys) ps) in
    (f.0, (f.1.0, follow_more p.until (before + length p.keys) ps until part f.1.1 at (omega (arith, b, both))))

-- the parts so far
pub record Came (now most cursor : ℕ) (old : PassState) (keys : List (List ℕ)) (place : ℕ) (new : PassState) : Type 0 where
  pub parts : List Part
  pub turns : InTurn (TakesLive now most) (stripes_from cursor) old parts new
  pub follow : Follow cursor 0 parts place
  pub keys_are : keys ≡ flat_map (λ (p : Part). p.keys) parts
  -- a part that was not enough went on to the end of its stripe
  pub here : length keys < most → place / 2 ^ 32 ≡ stripes_from cursor (length parts)

pub came_none : (now most cursor : ℕ) (p : PassState) → Came now most cursor p [] cursor p
came_none now most cursor p = record { parts = []; turns = refl; follow = refl; keys_are = refl; here = λ _. omega arith }

-- the stripe after the k-th
next_stripe : (k place : ℕ) → place ≡ start_of (k + 1) → place / 2 ^ 32 ≡ k + 1
next_stripe k place e = omega (arith, e)

pub came_more : (now most cursor : ℕ) (p q r : PassState) (keys all : List (List ℕ)) (place until : ℕ) → Came now most cursor p keys place q → ServesSameMap q r → length keys < most
    → TakesMore now most q keys place all until r → Came now most cursor p all until r
came_more now most cursor p q r keys all place until f same some takes =
    let part = takes.part in
    let k = place / 2 ^ 32 in
    let had = f.here some in
    let longer = length-append f.parts (part ∷ []) in
    let sum = length-append keys part.keys in
    let whole = ap (λ (ks : List (List ℕ)). length ks) takes.added in
    record {
      parts = f.parts ++ part ∷ [];
      turns = turn_more (TakesLive now most) (stripes_from cursor) p q r f.parts part f.turns same (subst (λ m. TakesLive now most q m part r) had takes.takes);
      follow = subst (λ m. Follow cursor 0 (f.parts ++ part ∷ []) m) takes.until_is
          (follow_more cursor 0 f.parts place part f.follow takes.from_is (let e = ap (λ (ks : List (List ℕ)). length ks) f.keys_are in let b = takes.before_is in omega (arith, e, b)));
      keys_are = takes.added ∙ ap (λ (ks : List (List ℕ)). ks ++ part.keys) f.keys_are ∙ flat_map_more (λ (p : Part). p.keys) [] f.parts part;
      here = λ less. elim takes.takes.did.enough [
        | inl enough ↦ absurd (let b = takes.before_is in omega (arith, less, enough, sum, whole, b))
        | inr end ↦ let next = next_stripe k until (sym takes.until_is ∙ end) in omega (arith, next, had, longer)
      ];
    }

pub came_stops : (now most cursor : ℕ) (p q r : PassState) (keys : List (List ℕ)) (place : ℕ) → Came now most cursor p keys place q → length keys < most → MayScanLive now q (place / 2 ^ 32) r
    → StopsLive now (TakesLive now most) (stripes_from cursor) p r
came_stops now most cursor p q r keys place f some may = record { items = f.parts; between = q; turns = f.turns; last = subst (λ k. MayScanLive now q k r) (f.here some) may }

pub came_all : (now most cursor : ℕ) (p q : PassState) (keys : List (List ℕ)) (place next : ℕ) → Came now (max most 1) cursor p keys place q
    → (max most 1 ≤ length keys) ⊎ (start_of (stripes_of p.map) ≤ place) → next ≡ cursor_of (stripes_of p.map) place → IsPage now p cursor most keys next q
came_all now most cursor p q keys place next f enough is =
    record { parts = f.parts; until = place; turns = f.turns; follow = f.follow; keys_are = f.keys_are; enough = enough; next_is = is }
