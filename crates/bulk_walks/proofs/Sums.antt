-- Sums over stripes, by turns and by workers.
use Rattle.std.proofs.Common.{ltb, ◌≡◌, ◌≢◌, ℕ, zero, suc, ◌+◌, ◌%◌, ◌*◌, ◌<◌, ◌≤◌, cond, eqb, add-one, List, [], ◌∷◌, map, inl, inr, refl, sym, ap, ◌∙◌, arith, sum_by, length, get_or, take}
use Rattle.std.proofs.lemmas.Bool.{le-ltb, lt-ltb, cases_eq, eq-eqb, ne_eqb, cond_both}
use Rattle.std.proofs.lemmas.Bool.Decides.{nat_tests}
use Rattle.std.proofs.lemmas.List.Sums.{sum_by_more, sum_by-cons}
use Rattle.std.proofs.Math.Nat.{mod-lt}
use Rattle.std.proofs.lemmas.List.{take_all}
use Rattle.bulk_walks.specs.Walks.{sum_below, IsTurn}
use Rattle.bulk_walks.specs.Turns.{turn_sum}

-- f, but x at n
abbrev pub with_at : {X : Type 0} → (ℕ → X) → ℕ → X → ℕ → X
with_at f n x k = cond (eqb k n) x (f k)

pub with_at-same : {X : Type 0} (f : ℕ → X) (n : ℕ) (x : X) → with_at f n x n ≡ x
with_at-same f n x = ap (λ b. cond b x (f n)) (eq-eqb n n refl)

pub with_at-other : {X : Type 0} (f : ℕ → X) (n : ℕ) (x : X) (k : ℕ) → k ≢ n → with_at f n x k ≡ f k
with_at-other f n x k ne = ap (λ b. cond b x (f k)) (ne_eqb k n ne)

module _ (workers worker : ℕ) where
  -- only the stripes of the turns count
  pub turn_sum-same : (f h : ℕ → ℕ) (n : ℕ) → ((k : ℕ) → IsTurn n workers worker k → f k ≡ h k) → turn_sum workers worker f n ≡ turn_sum workers worker h n
  turn_sum-same f h zero e = refl
  turn_sum-same f h (suc n) e =
      let before : turn_sum workers worker f n ≡ turn_sum workers worker h n = turn_sum-same f h n (λ k t. e k (omega arith, t.1)) in
      let here : cond (eqb (n % workers) worker) (f n) 0 ≡ cond (eqb (n % workers) worker) (h n) 0 =
      elim (cases_eq (n % workers) worker) [
        | inl t ↦ ap (λ x. cond (eqb (n % workers) worker) x 0) (e n (omega arith, t))
        | inr miss ↦ let b = ne_eqb (n % workers) worker miss in ap (λ b. cond b (f n) 0) b ∙ sym (ap (λ b. cond b (h n) 0) b)
      ] in
      omega (arith, before, here)

  pub turn_sum-turn : (f : ℕ → ℕ) (n : ℕ) → n % workers ≡ worker → turn_sum workers worker f (n + 1) ≡ turn_sum workers worker f n + f n
  turn_sum-turn f n t = rw add-one (ap (λ b. turn_sum workers worker f n + cond b (f n) 0) (eq-eqb (n % workers) worker t))

  pub turn_sum-past : (f : ℕ → ℕ) (n : ℕ) → n % workers ≢ worker → turn_sum workers worker f (n + 1) ≡ turn_sum workers worker f n
  turn_sum-past f n miss =
      let e : turn_sum workers worker f (suc n) ≡ turn_sum workers worker f n + 0 = ap (λ b. turn_sum workers worker f n + cond b (f n) 0) (ne_eqb (n % workers) worker miss) in
      rw add-one (omega (arith, e))

  pub turn_sum-le : (f : ℕ → ℕ) (most n : ℕ) → ((k : ℕ) → f k ≤ most) → turn_sum workers worker f n ≤ n * most
  turn_sum-le f most zero below = omega arith
  turn_sum-le f most (suc n) below =
      let rest = turn_sum-le f most n below in
      let here : cond (eqb (n % workers) worker) (f n) 0 ≤ most = cond_both (eqb (n % workers) worker) (f n) 0 (λ x. x ≤ most) (λ _. below n) (λ _. omega arith) in
      omega (arith, rest, here)

-- the sum over the turns after one more is counted
pub turn_sum-more : (workers worker : ℕ) {X : Type 0} (h : X → ℕ) (f : ℕ → X) (n : ℕ) (x : X) → n % workers ≡ worker → turn_sum workers worker (λ k. h (with_at f n x k)) (n + 1) ≡ turn_sum workers worker (λ k. h (f k)) n + h x
turn_sum-more workers worker h f n x t =
    let all = turn_sum-turn workers worker (λ k. h (with_at f n x k)) n t in
    let before = turn_sum-same workers worker (λ k. h (with_at f n x k)) (λ k. h (f k)) n (λ k i. ap h (with_at-other f n x k (λ e. omega arith))) in
    let here = ap h (with_at-same f n x) in
    omega (arith, all, before, here)

-- f of each stripe whose turn belongs to a worker before the i-th
abbrev upto : ℕ → ℕ → (ℕ → ℕ) → ℕ → ℕ
upto workers i f n = sum_below n (λ k. cond (ltb (k % workers) i) (f k) 0)

split_at : (m i x : ℕ) → cond (ltb m (i + 1)) x 0 ≡ cond (ltb m i) x 0 + cond (eqb m i) x 0
split_at m i x = grind (arith, nat_tests)

upto-none : (workers : ℕ) (f : ℕ → ℕ) (n : ℕ) → upto workers 0 f n ≡ 0
upto-none workers f zero = refl
upto-none workers f (suc n) = let b = le-ltb (n % workers) 0 (omega arith) in let e = ap (λ b. cond b (f n) 0) b in let r = upto-none workers f n in omega arith

upto-more : (workers i : ℕ) (f : ℕ → ℕ) (n : ℕ) → upto workers (i + 1) f n ≡ upto workers i f n + turn_sum workers i f n
upto-more workers i f zero = refl
upto-more workers i f (suc n) = let r = upto-more workers i f n in let s = split_at (n % workers) i (f n) in omega (arith, r, s)

upto-all : (workers : ℕ) (f : ℕ → ℕ) (n : ℕ) → 0 < workers → upto workers workers f n ≡ sum_below n f
upto-all workers f zero some = refl
upto-all workers f (suc n) some =
    let b = lt-ltb (n % workers) workers (mod-lt n some) in let e = ap (λ b. cond b (f n) 0) b in let r = upto-all workers f n some in omega (arith, e, r)

pub sum_below-const : (n c : ℕ) → sum_below n (λ _. c) ≡ n * c
sum_below-const zero c = omega arith
sum_below-const (suc n) c = let r = sum_below-const n c in omega (arith, r)

module _ {X : Type 0} (h : X → ℕ) (rs : List X) (f : ℕ → ℕ) (n : ℕ) where
  sums_so_far : (e : X) (i : ℕ) → i ≤ length rs → ((k : ℕ) → k < length rs → h (get_or rs k e) ≡ turn_sum (length rs) k f n) → sum_by h (take i rs) ≡ upto (length rs) i f n
  sums_so_far e zero le each = sym (upto-none (length rs) f n)
  sums_so_far e (suc i) le each =
      let r = sums_so_far e i (omega arith) each in
      let m = sum_by_more h rs i e (omega arith) in
      let u = upto-more (length rs) i f n in
      let here = each i (omega arith) in
      rw (← add-one) (omega (arith, r, m, u, here))

  -- the workers' sums add up to the sum over all stripes
  pub sums_of_turns : (e : X) → 0 < length rs → ((k : ℕ) → k < length rs → h (get_or rs k e) ≡ turn_sum (length rs) k f n) → sum_by h rs ≡ sum_below n f
  sums_of_turns e some each =
      let r = sums_so_far e (length rs) (omega arith) each in
      let whole : sum_by h (take (length rs) rs) ≡ sum_by h rs = ap (λ (xs : List X). sum_by h xs) (take_all (length rs) rs (omega arith)) in
      sym whole ∙ r ∙ upto-all (length rs) f n some

  bounds_so_far : (e : X) (i : ℕ) → i ≤ length rs → ((k : ℕ) → k < length rs → h (get_or rs k e) ≤ turn_sum (length rs) k f n) → sum_by h (take i rs) ≤ upto (length rs) i f n
  bounds_so_far e zero le each = omega arith
  bounds_so_far e (suc i) le each =
      let r = bounds_so_far e i (omega arith) each in
      let m = sum_by_more h rs i e (omega arith) in
      let u = upto-more (length rs) i f n in
      let here = each i (omega arith) in
      rw (← add-one) (omega (arith, r, m, u, here))

  pub bound_of_turns : (e : X) → 0 < length rs → ((k : ℕ) → k < length rs → h (get_or rs k e) ≤ turn_sum (length rs) k f n) → sum_by h rs ≤ sum_below n f
  bound_of_turns e some each =
      let r = bounds_so_far e (length rs) (omega arith) each in
      let whole : sum_by h (take (length rs) rs) ≡ sum_by h rs = ap (λ (xs : List X). sum_by h xs) (take_all (length rs) rs (omega arith)) in
      let u = upto-all (length rs) f n some in
      omega (arith, whole, r, u)

pub sum_by_mapped : {X Y : Type 0} (h : Y → ℕ) (f : X → Y) (xs : List X) → sum_by h (map f xs) ≡ sum_by (λ x. h (f x)) xs
sum_by_mapped h f [] = refl
sum_by_mapped h f (x ∷ xs) =
    let rest = sum_by_mapped h f xs in
    let one = sum_by-cons h (f x) (map f xs) in
    let other = sum_by-cons (λ y. h (f y)) x xs in
    omega (arith, rest, one, other)

pub sum_of_ones : {X : Type 0} (xs : List X) → sum_by (λ _. 1) xs ≡ length xs
sum_of_ones [] = refl
sum_of_ones (x ∷ xs) = let rest = sum_of_ones xs in let c = sum_by-cons (λ _. 1) x xs in omega (arith, rest, c)

pub sum_below-le : (n : ℕ) (f : ℕ → ℕ) (most : ℕ) → ((k : ℕ) → k < n → f k ≤ most) → sum_below n f ≤ n * most
sum_below-le zero f most below = omega arith
sum_below-le (suc n) f most below = let rest = sum_below-le n f most (λ k low. below k (omega (arith, low))) in let here = below n (omega arith) in omega (arith, rest, here)
