-- The ranks of keys: their positions in the order in which bins keep them.
use Rattle.std.specs.Prelude.{◌≡◌, ◌≢◌, ℕ, ◌+◌, ◌≤◌, Bool, true, cond, nat_lt, List, [], ◌∷◌, Option, Some, None}
use Rattle.std.specs.Coded.{Coded, code_by, coded_ℕ, coded_list, coded×}
use Rattle.std.specs.FinMap as map
use Rattle.std.specs.Ordering.{eq_by_cmp}
use mathlib.Core.Path.{refl}
use Rattle.bins.specs.Table.{Table, by_bytes}
use Rattle.bins.specs.Entries.{entries_in}
use Rattle.bins.specs.declared.ranks.Ranks.{Ranks}

-- the position of a key, if the first one's is n; 0 if the key isn't there
abbrev pub rank_from : ℕ → List (List ℕ) → List ℕ → ℕ
rank_from n [] key = 0
rank_from n (one ∷ keys) key = cond (eq_by_cmp by_bytes key one) n (rank_from (n + 1) keys key)

-- a key's rank in this order; 0 if it isn't there
abbrev pub rank_in : List (List ℕ) → List ℕ → ℕ
rank_in order key = rank_from 0 order key

-- no entry of a table got a higher rank
abbrev pub KeepsRanks : Table → List (List ℕ) → List (List ℕ) → Type 0
KeepsRanks table old new = (key : List ℕ) → map.get table key ≢ None → rank_in new key ≤ rank_in old key

-- if a rank comes before this one, or there is no end
abbrev pub is_below : Option ℕ → ℕ → Bool
is_below None rank = true
is_below (Some end) rank = nat_lt rank end

-- a rank, or a position, is one of these
abbrev pub IsOneOf : Ranks → ℕ → Type 0
IsOneOf ranks rank = (ranks.from ≤ rank) × (is_below ranks.to rank ≡ true)

-- keys in the order of their ranks, with their values at the same positions
pub record Held : Type 0 where
  pub keys : List (List ℕ)
  pub values : List (List ℕ)

abbrev pub held_code : Coded Held
held_code =
    code_by (List (List ℕ) × List (List ℕ)) (coded× (coded_list (coded_list coded_ℕ)) (coded_list (coded_list coded_ℕ)))
    (λ h. (h.keys, h.values)) (λ x. record { keys = x.0; values = x.1 }) (λ _. refl)

-- the entries as one map
abbrev pub table_in : Held → Table
table_in held = map.from_entries (entries_in held.keys held.values)
