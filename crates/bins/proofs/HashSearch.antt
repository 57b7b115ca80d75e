-- A search by hash among keys, with their hashes in a list beside them.
use Rattle.std.proofs.Common.{◌≡◌, ◌≢◌, ℕ, ◌<◌, List, length, get_or, slice_index, map, Some, None, sym, ap, subst, ◌∙◌, arith, inl, inr}
use Rattle.std.specs.List.{AllWithin}
use Rattle.std.proofs.lemmas.Bool.{cases_lt}
use Rattle.std.proofs.lemmas.List.{get_or-map, length-map}
use Rattle.bins.specs.Chains.{IsLastOf}

module _ (hash : List ℕ → ℕ) (hs : List ℕ) (ks : List (List ℕ)) (are : hs ≡ map hash ks) where
  pub as_many : length hs ≡ length ks
  as_many = ap length are ∙ length-map ks hash

  hash_at : (j : ℕ) (d : List ℕ) → j < length ks → slice_index hs j ≡ hash (get_or ks j d)
  hash_at j d lt = ap (λ (xs : List ℕ). slice_index xs j) are ∙ get_or-map hash ks j d 0 lt

  module _ (key : List ℕ) (h : ℕ) (is : h ≡ hash key) where
    -- no position from this one on has the key
    abbrev pub LacksFrom : ℕ → Type 0
    LacksFrom n = AllWithin (λ k. k ≢ key) ks n (length ks)

    -- a key with another hash is another key
    by_hash : (j : ℕ) (d : List ℕ) → j < length ks → slice_index hs j ≢ h → get_or ks j d ≢ key
    by_hash j d lt other same = other (hash_at j d lt ∙ ap hash same ∙ sym is)

    -- past the last position of the hash, which has another key
    pub past : (end position : ℕ) → LacksFrom end → IsLastOf hs end h (Some position) → ((d : List ℕ) → get_or ks position d ≢ key) → LacksFrom position
    past end position behind last other j d low high = elim (cases_lt j end) [
      | inl lt ↦ elim (cases_lt position j) [
        | inl above ↦ by_hash j d high (last.2 j above lt)
        | inr le ↦ let here : position ≡ j = omega (arith, le, low) in subst (λ (n : ℕ). get_or ks n d ≢ key) here (other d)
      ]
      | inr ge ↦ behind j d ge high
    ]

    -- past all of them
    pub past_all : (end : ℕ) → LacksFrom end → IsLastOf hs end h None → LacksFrom 0
    past_all end behind none j d low high = elim (cases_lt j end) [
      | inl lt ↦ by_hash j d high (none j lt)
      | inr ge ↦ behind j d ge high
    ]
