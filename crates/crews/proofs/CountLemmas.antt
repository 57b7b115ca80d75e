-- How many clients are there, and how many seats are taken.
use Rattle.std.proofs.Common.{◌≡◌, ℕ, zero, suc, ◌+◌, List, [], ◌∷◌, Option, Some, None, is_some, count_by, slice_index_or, cond, ap, IsSome, ◌<◌, ◌≤◌, inl, inr, refl, sym, subst, ◌∙◌, arith}
use Rattle.std.proofs.lemmas.Bool.{cases_eq, cases_lt}
use Rattle.program_registry.specs.declared.registry.Registry.{Registry}
use Rattle.std.proofs.lemmas.List.Sums.{sum_by-set}
use Rattle.slab.specs.Slab.{Slab, get, with_value, Updates, slab_len}
use Rattle.slab.proofs.SlabLemmas.{ContainsKey-within}
use Rattle.crews.specs.Arrivals.{CountGoes}

module _ {P : Type 0} (there : P → ℕ → Type 0) where
  -- this many more are there all along
  pub counts_by : (a b : P) (i j k m n : ℕ) → m ≡ i + k → n ≡ j + k → CountGoes there a i b j → CountGoes there a m b n
  counts_by a b i j k m n first last goes others at =
      subst (λ (t : ℕ). there b t) (omega (arith, last)) (goes (others + k) (subst (λ (t : ℕ). there a t) (omega (arith, first)) at))

  pub counts_on : (a b c : P) (i j k : ℕ) → CountGoes there a i b j → CountGoes there b j c k → CountGoes there a i c k
  counts_on a b c i j k one more others at = more others (one others at)

  pub counts_stay : (a : P) (m n : ℕ) → m ≡ n → CountGoes there a m a n
  counts_stay a m n same others at = subst (λ (t : ℕ). there a (others + t)) same at

-- the same of the registry that the client's tokens are of
pub counts_of : {P : Type 0} (there : Registry → P → ℕ → Type 0) (one other : Registry) (a b : P) (i j : ℕ) → one ≡ other → CountGoes (there one) a i b j → CountGoes (there other) a i b j
counts_of there one other a b i j same goes = subst (λ (r : Registry). CountGoes (there r) a i b j) same goes

-- as many seats are taken when another sits in one
pub same_count : {T : Type 0} (seats : Slab T) (seat : ℕ) (was one : T) → Some was ≡ get seats seat → slab_len (with_value seats seat one) ≡ slab_len seats
same_count {T} seats seat was one here =
    let f : Option T → ℕ = λ slot. cond (is_some slot) 1 0 in
    let within = ContainsKey-within seats seat (subst (λ (slot : Option T). IsSome slot) here refl) in
    let taken : f (get seats seat) ≡ 1 = ap f (sym here) in
    let after : count_by is_some (with_value seats seat one).slots + f (get seats seat) ≡ count_by is_some seats.slots + 1 = sum_by-set f seats.slots seat (Some one) None within in
    omega (arith, taken, after)

-- no seat is taken
some_none : {T : Type 0} (one : T) → Some one ≡ None → ⊥
some_none one is = cc

pub none_taken : {T : Type 0} (slots : List (Option T)) → ((i : ℕ) → slice_index_or slots i None ≡ None) → count_by is_some slots ≡ 0
none_taken [] empty = refl
none_taken (Some one ∷ slots) empty = absurd (some_none one (empty zero))
none_taken (None ∷ slots) empty = none_taken slots (λ i. empty (suc i))

-- a seat that is empty stays so when another is left
pub still_empty : {T : Type 0} (seats after : Slab T) (seat other : ℕ) → Updates seats after seat None → get seats other ≡ None → get after other ≡ None
still_empty seats after seat other updates empty = elim (cases_eq other seat) [
  | inl here ↦ subst (λ (k : ℕ). get after k ≡ None) (sym here) updates.changed
  | inr apart ↦ updates.others other apart ∙ empty
]

-- one seat more is empty
pub one_more_empty : {T : Type 0} (seats after : Slab T) (i : ℕ) → get after i ≡ None → ((other : ℕ) → get seats other ≡ None → get after other ≡ None)
    → ((j : ℕ) → j < i → get seats j ≡ None) → (j : ℕ) → j < i + 1 → get after j ≡ None
one_more_empty seats after i gone others below j low = elim (cases_eq j i) [
  | inl here ↦ subst (λ (k : ℕ). get after k ≡ None) (sym here) gone
  | inr apart ↦ others j (below j (omega (arith, low, apart)))
]

-- all seats are
pub all_empty : {T : Type 0} (seats : Slab T) (i end : ℕ) → end ≤ i → ((j : ℕ) → j < i → get seats j ≡ None) → ((j : ℕ) → end ≤ j → get seats j ≡ None) → slab_len seats ≡ 0
all_empty seats i end passed below above = none_taken seats.slots (λ j. elim (cases_lt j i) [
  | inl low ↦ below j low
  | inr high ↦ above j (omega (arith, passed, high))
])
