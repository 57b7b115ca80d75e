-- The keys of stripes.
use Rattle.std.proofs.Common.{◌≡◌, ℕ, ◌+◌, List, [], ◌∷◌, ◌++◌, inr, refl, sym, ap, ◌∙◌, subst, arith, map, length, sum_by, length-append}
use Rattle.std.specs.List.{flat_map}
use Rattle.std.proofs.lemmas.List.{flat_map_more}
use Rattle.std.proofs.lemmas.List.Sums.{sum_by-cons}
use Rattle.bins.specs.Table.{Entry}
use Rattle.bin_stripes.specs.Invoked.{CopiesStripe}
use Rattle.bin_stripes.specs.Passes.{PassState, ServesSameMap, stripes_of}
use Rattle.key_walks.specs.Turns.{InTurn, FindsKeys, MayScan}
use Rattle.key_walks.specs.Expired.{FindsLive, MayScanLive, StopsLive}
use Rattle.key_walks.specs.Walks.{FindsAll, each}
use Rattle.key_walks.proofs.ChainLemmas.{turn_more}

pub sum_by_mapped : {X Y : Type 0} (h : Y → ℕ) (f : X → Y) (xs : List X) → sum_by h (map f xs) ≡ sum_by (λ x. h (f x)) xs
sum_by_mapped h f [] = refl
sum_by_mapped h f (x ∷ xs) =
    let rest = sum_by_mapped h f xs in
    let one = sum_by-cons h (f x) (map f xs) in
    let other = sum_by-cons (λ y. h (f y)) x xs in
    omega (arith, rest, one, other)

-- the keys of the copies are those of the found entries
pub finds_keys : (old new : PassState) (k : ℕ) (before found : List Entry) (keys : List (List ℕ)) → before ≡ [] → CopiesStripe old k before found new
    → keys ≡ map (λ (entry : Entry). entry.0) found → FindsKeys old k keys new
finds_keys old new k before found keys none copies are =
    let added : found ≡ copies.copies = copies.added ∙ ap (λ (es : List Entry). es ++ copies.copies) none in
    record {
      entries = copies.entries;
      scans = copies.scans;
      keys_are = λ weight.
          ap (λ (ks : List (List ℕ)). sum_by weight ks) (are ∙ ap (λ (es : List Entry). map (λ (entry : Entry). entry.0) es) added)
          ∙ sum_by_mapped weight (λ (entry : Entry). entry.0) copies.copies ∙ copies.same (λ entry. weight entry.0);
    }

scanned_once : (old new : PassState) (k : ℕ) (keys : List (List ℕ)) → FindsKeys old k keys new → MayScan old k new
scanned_once old new k keys f = inr (f.entries, f.scans)

pub live_scanned_once : (now : ℕ) (old new : PassState) (k : ℕ) (keys : List (List ℕ)) → FindsLive now old k keys new → MayScanLive now old k new
live_scanned_once now old new k keys f =
    record { between = f.between; same = f.same; expires = f.expires; did = scanned_once f.between new k keys f.did }

-- the first n stripes were scanned
pub record Found (now n : ℕ) (old : PassState) (keys : List (List ℕ)) (new : PassState) : Type 0 where
  pub lists : List (List (List ℕ))
  pub turns : InTurn (FindsLive now) each old lists new
  pub some : length lists ≡ n
  pub keys_are : keys ≡ flat_map (λ list. list) lists

pub found_none : (now : ℕ) (p : PassState) → Found now 0 p [] p
found_none now p = record { lists = []; turns = refl; some = refl; keys_are = refl }

pub found_more : (now n : ℕ) (p q r : PassState) (keys more : List (List ℕ)) → Found now n p keys q → ServesSameMap q r → FindsLive now q n more r
    → Found now (n + 1) p (keys ++ more) r
found_more now n p q r keys more f same finds =
    let longer = length-append f.lists (more ∷ []) in
    let some = f.some in
    record {
      lists = f.lists ++ more ∷ [];
      turns = turn_more (FindsLive now) each p q r f.lists more f.turns same (subst (λ k. FindsLive now q k more r) (sym f.some) finds);
      some = omega (arith, longer, some);
      keys_are = ap (λ (ks : List (List ℕ)). ks ++ more) f.keys_are ∙ flat_map_more (λ (list : List (List ℕ)). list) [] f.lists more;
    }

pub found_at : (now n : ℕ) (p q : PassState) (keys all : List (List ℕ)) → Found now n p keys q → all ≡ keys → Found now n p all q
found_at now n p q keys all f e = subst (λ (ks : List (List ℕ)). Found now n p ks q) (sym e) f

pub found_all : (now n : ℕ) (p q : PassState) (keys : List (List ℕ)) → Found now n p keys q → n ≡ stripes_of p.map → FindsAll now p keys q
found_all now n p q keys f all = record { lists = f.lists; turns = f.turns; all = f.some ∙ all; keys_are = f.keys_are }

-- the next stripe was scanned at most once, and then memory was refused
pub found_stops : (now n : ℕ) (p q r : PassState) (keys : List (List ℕ)) → Found now n p keys q → MayScanLive now q n r → StopsLive now (FindsLive now) each p r
found_stops now n p q r keys f may = record { items = f.lists; between = q; turns = f.turns; last = subst (λ k. MayScanLive now q k r) (sym f.some) may }
