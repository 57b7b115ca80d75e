-- One more item of a chain.
use Rattle.std.proofs.Common.{Result, Ok, Err, OnErr, ◌≡◌, ℕ, suc, ◌+◌, ◌*◌, ◌^◌, ◌<◌, ◌≤◌, List, [], ◌∷◌, ◌++◌, refl, sym, ◌∙◌, subst, arith, length, sum_by, length-append}
use Rattle.std.proofs.lemmas.List.Sums.{sum_by-append}
use Rattle.bin_stripes.specs.Invoked.{CountsStripe}
use Rattle.bin_stripes.specs.Passes.{PassState, ServesSameMap, stripes_of}
use Rattle.key_walks.specs.Turns.{Chain, InTurn}
use Rattle.key_walks.specs.Walks.{CountsAll, each}

pub same_map : (p : PassState) → ServesSameMap p p
same_map p = record { map = refl; passes = refl }

pub same_on : (p q r : PassState) → ServesSameMap p q → ServesSameMap q r → ServesSameMap p r
same_on p q r a b = record { map = b.map ∙ a.map; passes = b.passes ∙ a.passes }

-- the pass is the same one
pub same_as : (p q r : PassState) → ServesSameMap p q → r ≡ q → ServesSameMap p r
same_as p q r a e = subst (λ (s : PassState). ServesSameMap p s) (sym e) a

-- after an error this holds anyway
pub on_err : {X E P : Type 0} (r : Result X E) → P → OnErr r P
on_err (Ok x) p = tt
on_err (Err e) p = p

module _ {X : Type 0} where
  pub chain_more : (Did : PassState → X → PassState → Type 0) (old between new : PassState) (xs : List X) (x : X) → Chain Did old xs between
      → ServesSameMap between new → Did between x new → Chain Did old (xs ++ x ∷ []) new
  chain_more Did old between new [] x chain same did =
      (new, (subst (λ (p : PassState). ServesSameMap p new) chain same, (subst (λ (p : PassState). Did p x new) chain did, refl)))
  chain_more Did old between new (y ∷ ys) x chain same did =
      (chain.0, (chain.1.0, (chain.1.1.0, chain_more Did chain.0 between new ys x chain.1.1.1 same did)))

  pub turn_more : (Did : PassState → ℕ → X → PassState → Type 0) (at : ℕ → ℕ) (old between new : PassState) (xs : List X) (x : X) → InTurn Did at old xs between
      → ServesSameMap between new → Did between (at (length xs)) x new → InTurn Did at old (xs ++ x ∷ []) new
  turn_more Did at old between new [] x turns same did =
      (new, (subst (λ (p : PassState). ServesSameMap p new) turns same, (subst (λ (p : PassState). Did p (at 0) x new) turns did, refl)))
  turn_more Did at old between new (y ∷ ys) x turns same did =
      (turns.0, (turns.1.0, (turns.1.1.0, turn_more Did (λ i. at (suc i)) turns.0 between new ys x turns.1.1.1 same did)))

-- the first n stripes were counted
pub record Counted (n : ℕ) (old : PassState) (count : ℕ) (new : PassState) : Type 0 where
  pub counts : List ℕ
  pub turns : InTurn CountsStripe each old counts new
  pub some : length counts ≡ n
  pub count_is : count ≡ sum_by (λ (c : ℕ). c) counts
  pub bounded : count ≤ n * 2 ^ 57

pub counted_none : (p : PassState) → Counted 0 p 0 p
counted_none p = record { counts = []; turns = refl; some = refl; count_is = refl; bounded = omega arith }

pub counted_more : (n : ℕ) (p q r : PassState) (count more : ℕ) → Counted n p count q → ServesSameMap q r → CountsStripe q n more r → more < 2 ^ 57
    → Counted (n + 1) p (count + more) r
counted_more n p q r count more f same counts few =
    let longer = length-append f.counts (more ∷ []) in
    let sums = sum_by-append (λ (c : ℕ). c) f.counts (more ∷ []) in
    let some = f.some in
    let sum = f.count_is in
    let bounded = f.bounded in
    record {
      counts = f.counts ++ more ∷ [];
      turns = turn_more CountsStripe each p q r f.counts more f.turns same (subst (λ k. CountsStripe q k more r) (sym f.some) counts);
      some = omega (arith, longer, some);
      count_is = omega (arith, sums, sum);
      bounded = omega (arith, bounded, few);
    }

pub counted_all : (n : ℕ) (p q : PassState) (count : ℕ) → Counted n p count q → n ≡ stripes_of p.map → CountsAll p count q
counted_all n p q count f all = record { counts = f.counts; turns = f.turns; all = f.some ∙ all; count_is = f.count_is }

pub counted_at : (n : ℕ) (p q r : PassState) (count total : ℕ) → Counted n p count q → r ≡ q → total ≡ count → Counted n p total r
counted_at n p q r count total f same e = subst (λ (s : PassState). Counted n p total s) (sym same) (subst (λ c. Counted n p c q) (sym e) f)
