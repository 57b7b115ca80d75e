-- Walks over all stripes.
use Rattle.std.specs.Prelude.{◌≡◌, ℕ, ◌+◌, ◌%◌, ◌<◌, List, [], length, sum, flat_map, All, Contains, Option, MatchOption}
use Rattle.atomic_methods.specs.declared.reply.Reply.{Reply}
use Rattle.atomic_methods.specs.Invocations.{on_key, remove}
use Rattle.bin_stripes.specs.Invoked.{Calls, CountsStripe}
use Rattle.bin_stripes.specs.Passes.{PassState, ServesSameMap, stripes_of}
use Rattle.key_walks.specs.Turns.{Chain, InTurn, FindsKeys}
use Rattle.key_walks.specs.Expired.{FindsLive}

-- each stripe in turn
abbrev pub each : ℕ → ℕ
each i = i

-- all stripes were scanned in turn, and have this many entries together
pub record CountsAll (old : PassState) (count : ℕ) (new : PassState) : Type 0 where
  pub counts : List ℕ
  pub turns : InTurn CountsStripe each old counts new
  pub all : length counts ≡ stripes_of old.map
  pub count_is : count ≡ sum counts

-- each stripe in turn was scanned, after its entries whose time was over were taken away; they have these keys together
pub record FindsAll (now : ℕ) (old : PassState) (keys : List (List ℕ)) (new : PassState) : Type 0 where
  pub lists : List (List (List ℕ))
  pub turns : InTurn (FindsLive now) each old lists new
  pub all : length lists ≡ stripes_of old.map
  pub keys_are : keys ≡ flat_map (λ list. list) lists

-- a call removed the key, if it was there
abbrev pub Removes : PassState → List ℕ → PassState → Type 0
Removes old key new = (reply : Reply) × Calls old (on_key key remove) reply new

-- a scan of the stripe k found these keys, and a call for each in turn removed it
pub record Clears (old : PassState) (k : ℕ) (keys : List (List ℕ)) (new : PassState) : Type 0 where
  pub between : PassState
  pub same : ServesSameMap old between
  pub finds : FindsKeys old k keys between
  pub removes : Chain Removes between keys new

-- all stripes were cleared in turn
pub record ClearsAll (old new : PassState) : Type 0 where
  pub lists : List (List (List ℕ))
  pub turns : InTurn Clears each old lists new
  pub all : length lists ≡ stripes_of old.map

-- the stripes from the one of this number on, and after the last one the first
abbrev pub each_from : ℕ → ℕ → ℕ → ℕ
each_from stripes number i = (number % stripes + i) % stripes

-- stripes in turn were scanned, each after its entries whose time was over were taken away, until one had a key, and that is the
-- choice; or all of them had none
pub record Chooses (now number : ℕ) (old : PassState) (choice : Option (List ℕ)) (new : PassState) : Type 0 where
  pub lists : List (List (List ℕ))
  pub empty : All (λ keys. keys ≡ []) lists
  pub between : PassState
  pub turns : InTurn (FindsLive now) (each_from (stripes_of old.map) number) old lists between
  pub choice_is : MatchOption choice ((length lists ≡ stripes_of old.map) × (new ≡ between))
      (λ key. (length lists < stripes_of old.map) × ((keys : List (List ℕ))
      × (FindsLive now between (each_from (stripes_of old.map) number (length lists)) keys new × Contains keys key)))
