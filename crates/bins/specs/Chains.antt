-- Chains of positions among a list of hashes: each position leads to the last one before it in the same bin. Our profile
-- decides which bin a hash goes to, and how many bins are reported.
use Rattle.std.specs.Prelude.{◌≡◌, ◌≢◌, ℕ, ◌-◌, ◌*◌, ◌%◌, ◌<◌, ◌≤◌, ◌⊎◌, List, Option, Some, None, length, set, slice_index, cond, nat_lt}
use Rattle.std.specs.Int.{IsPowerOfTwo}
use Rattle.bins.specs.declared.told_size.TheConstants.{MOST_BINS}
use Rattle.bins.specs.declared.index.TheConstants.{FIRST_HEADS, MOST_HALF}
use Rattle.bins.specs.declared.index.Chains.{Chains}
use Rattle.bins.specs.declared.hashes.Seed.{Seed}
use Rattle.bins.specs.declared.index.Link.{Link}
use Rattle.bins.specs.declared.index.Link.TheVariants.{Head, Next}

-- the bin of a hash, if there are at least `half` bins and at most twice as many: its remainder by twice the half, or by the
-- half if there is no bin with that number yet
unfoldable pub bin_of : ℕ → ℕ → ℕ → ℕ
bin_of half bins hash = let rest = hash % (2 * half) in cond (nat_lt rest bins) rest (rest - half)

-- hashes may be spread over this many bins by this half
pub record AreSpread (half bins : ℕ) : Type 0 where
  pub power : IsPowerOfTwo half
  pub some : FIRST_HEADS ≤ half
  pub least : half ≤ bins
  pub most : bins ≤ 2 * half
  pub bounded : half ≤ MOST_HALF

-- the hashes at positions, by this seed and in their order, and the bins that are reported of them
pub record PlacedHashes : Type 0 where
  pub bins : ℕ
  pub seed : Seed
  pub hashes : List ℕ

-- there are more than twice as many hashes as bins, and there may be more bins
abbrev pub IsCrowded : ℕ → List ℕ → Type 0
IsCrowded bins hashes = (2 * bins < length hashes) × (bins < MOST_BINS)

-- the last among the first n hashes that is this one
abbrev pub IsLastOf : List ℕ → ℕ → ℕ → Option ℕ → Type 0
IsLastOf hashes n hash None = (j : ℕ) → j < n → slice_index hashes j ≢ hash
IsLastOf hashes n hash (Some position) =
    (position < n) × (slice_index hashes position ≡ hash)
    × ((j : ℕ) → position < j → j < n → slice_index hashes j ≢ hash)

-- p counts from 1, and is the last of the first n positions that are in bin b; 0 if there is none
pub record IsLast (bin : ℕ → ℕ) (n b p : ℕ) : Type 0 where
  pub range : p ≤ n
  pub later : (j : ℕ) → p ≤ j → j < n → bin j ≢ b
  pub there : 0 < p → bin (p - 1) ≡ b

-- the first n positions are chained: a head is a bin's last position, and a next is the one before in the same bin
pub record Links (bin : ℕ → ℕ) (n : ℕ) (heads nexts : List ℕ) : Type 0 where
  pub long : n ≤ length nexts
  pub falls : (i : ℕ) → i < n → slice_index nexts i ≤ i
  pub at_heads : (b : ℕ) → b < length heads → IsLast bin n b (slice_index heads b)
  pub at_nexts : (i : ℕ) → i < n → bin i < length heads → IsLast bin i (bin i) (slice_index nexts i)

-- the bin of each position
abbrev pub bins_of : ℕ → ℕ → List ℕ → ℕ → ℕ
bins_of half bins hashes position = bin_of half bins (slice_index hashes position)

-- the bin of a hash among these chains, and that of a position
abbrev pub bin_in : Chains → ℕ → ℕ
bin_in chains hash = bin_of chains.half (length chains.heads.items) hash

abbrev pub position_bin : Chains → ℕ → ℕ
position_bin chains position = bin_in chains (slice_index chains.records.hashes position)

-- all positions are chained by these bins
abbrev pub AreLinkedBy : (ℕ → ℕ) → Chains → Type 0
AreLinkedBy bin chains = Links bin (length chains.records.nexts) chains.heads.items chains.records.nexts

-- all positions are chained by their hashes
pub record AreChained (chains : Chains) : Type 0 where
  pub spread : AreSpread chains.half (length chains.heads.items)
  pub long : length chains.records.nexts ≡ length chains.records.hashes
  pub links : Links (bins_of chains.half (length chains.heads.items) chains.records.hashes)
      (length chains.records.hashes) chains.heads.items chains.records.nexts

-- all positions are chained by some bins
abbrev pub AreLinked : Chains → Type 0
AreLinked chains = (bin : ℕ → ℕ) × AreLinkedBy bin chains

-- the link of a bin's chain that leads, or would lead, to this position: no position of the bin stands between them
abbrev pub IsLinkTo : (ℕ → ℕ) → ℕ → ℕ → ℕ → Link → Type 0
IsLinkTo bin n b position (Head c) = (c ≡ b) × ((j : ℕ) → position < j → j < n → bin j ≢ b)
IsLinkTo bin n b position (Next next) =
    (position < next) × (next < n) × (bin next ≡ b) × ((j : ℕ) → position < j → j < next → bin j ≢ b)

-- the position that a link leads to, counted from 1
abbrev pub follow : List ℕ → List ℕ → Link → ℕ
follow heads nexts (Head bin) = slice_index heads bin
follow heads nexts (Next position) = slice_index nexts position

-- the chains have this link
abbrev pub IsLink : Chains → Link → Type 0
IsLink chains (Head bin) = bin < length chains.heads.items
IsLink chains (Next position) = position < length chains.records.nexts

-- the heads, and the nexts, after one link was made to lead elsewhere
abbrev pub heads_relinked : Link → ℕ → List ℕ → List ℕ
heads_relinked (Head bin) at heads = set heads bin at
heads_relinked (Next position) at heads = heads

abbrev pub nexts_relinked : Link → ℕ → List ℕ → List ℕ
nexts_relinked (Head bin) at nexts = nexts
nexts_relinked (Next position) at nexts = set nexts position at

-- one link leads elsewhere, and nothing else changed
pub record Relinked (link : Link) (at : ℕ) (old new : Chains) : Type 0 where
  pub half : new.half ≡ old.half
  pub hashes : new.records.hashes ≡ old.records.hashes
  pub heads : new.heads.items ≡ heads_relinked link at old.heads.items
  pub nexts : new.records.nexts ≡ nexts_relinked link at old.records.nexts

-- this position moved to a bin, and the others are where they were
pub record Moved (bin new : ℕ → ℕ) (position into : ℕ) : Type 0 where
  pub here : new position ≡ into
  pub others : (j : ℕ) → j ≢ position → new j ≡ bin j

-- all positions are chained by some bins, and these put this position in bin b
abbrev pub AreLinkedAt : ℕ → ℕ → Chains → Type 0
AreLinkedAt position b chains = (bin : ℕ → ℕ) × AreLinkedBy bin chains × (bin position ≡ b)

-- after one more hash as many bins are reported as before, or twice as many if they had become crowded
abbrev pub MayDouble : PlacedHashes → PlacedHashes → Type 0
MayDouble old new = (new.bins ≡ old.bins) ⊎ (IsCrowded old.bins new.hashes × (new.bins ≡ 2 * old.bins))
