-- What threads took from their seats, and brought back.
use Rattle.std.proofs.Common.{◌≡◌, ℕ, zero, suc, ◌<◌, List, [], ◌∷◌, length, map, slice_index_or, Option, Some, None, IsSome, IsSomeAnd, All, sym, subst, arith}
use Rattle.crews.specs.Steps.{Pairwise}

-- each of these is in its seat
pub each_seated : {T : Type 0} (Q : T → Type 0) (all : List T) (i : ℕ) (seat : Option T) → All Q all → i < length (map Some all)
    → seat ≡ slice_index_or (map Some all) i seat → IsSomeAnd seat Q
each_seated Q [] i seat held low is = absurd (omega (arith, low))
each_seated {T} Q (one ∷ all) zero seat held low is = subst (λ (s : Option T). IsSomeAnd s Q) (sym is) (held zero one (omega arith))
each_seated Q (one ∷ all) (suc i) seat held low is = each_seated Q all i seat (λ k d lt. held (suc k) d (omega (arith, lt))) (omega (arith, low)) is

module _ {T : Type 0} (S : Option T → Option T → Type 0) where
  -- it holds of each seat, before and after
  abbrev pub EachSeat : List (Option T) → List (Option T) → Type 0
  EachSeat olds news = (length news ≡ length olds)
      × ((i : ℕ) (d : Option T) → i < length olds → S (slice_index_or olds i d) (slice_index_or news i d))

  rest_of : (old new : Option T) (olds news : List (Option T)) → EachSeat (old ∷ olds) (new ∷ news) → EachSeat olds news
  rest_of old new olds news (long, each) = (omega (arith, long), λ i d low. each (suc i) d (omega (arith, low)))

  -- what it says of one before and after, it says of all
  pub pairwise_of : (R : T → T → Type 0) → ((old new : T) → S (Some old) (Some new) → R old new)
      → (olds news : List T) → EachSeat (map Some olds) (map Some news) → Pairwise R olds news
  pairwise_of R says [] [] each = tt
  pairwise_of R says [] (new ∷ news) (long, each) = absurd cc
  pairwise_of R says (old ∷ olds) [] (long, each) = absurd cc
  pairwise_of R says (old ∷ olds) (new ∷ news) (long, each) = (
    says old new (each zero None (omega arith)),
    pairwise_of R says olds news (rest_of (Some old) (Some new) (map Some olds) (map Some news) (long, each)),
  )

  -- what it says of one that is back, it says of all
  pub all_of : (Q : T → Type 0) → ((old new : T) → S (Some old) (Some new) → Q new)
      → (olds news : List T) → EachSeat (map Some olds) (map Some news) → (i : ℕ) (d : T) → i < length news → Q (slice_index_or news i d)
  all_of Q says olds [] each i d low = absurd (omega (arith, low))
  all_of Q says [] (new ∷ news) (long, each) i d low = absurd cc
  all_of Q says (old ∷ olds) (new ∷ news) (long, each) zero d low = says old new (each zero None (omega arith))
  all_of Q says (old ∷ olds) (new ∷ news) (long, each) (suc i) d low =
      all_of Q says olds news (rest_of (Some old) (Some new) (map Some olds) (map Some news) (long, each)) i d (omega (arith, low))

  -- each seat is taken again
  pub each_left : ((old new : Option T) → S old new → IsSome new) → (olds news : List (Option T)) → EachSeat olds news → All (λ seat. IsSome seat) news
  each_left says olds news (long, each) = λ i d low. says _ _ (each i d (omega (arith, low, long)))
