-- A list without the element at a position: the last takes the gap.
use Rattle.std.proofs.Common.{◌≡◌, ◌≢◌, ℕ, ◌-◌, ◌<◌, List, length, get_or, set, ◌∙◌, arith, get_or-set_same, get_or-set_other}
use Rattle.std.specs.List.{swap_remove}
use Rattle.std.proofs.lemmas.List.{length-set, get_or_default, get_or-take, length-take-le}

module _ {X : Type 0} (xs : List X) (at : ℕ) (d n : X) (lt : at < length xs) where
  abbrev pub end : ℕ
  end = length xs - 1

  pub kept_else : (i : ℕ) → i < end → i ≢ at → get_or (swap_remove xs at d) i n ≡ get_or xs i n
  kept_else i below other = get_or-take end (set xs at (get_or xs end d)) i n below ∙ get_or-set_other xs at i (get_or xs end d) n other

  pub kept_moved : at < end → get_or (swap_remove xs at d) at n ≡ get_or xs end n
  kept_moved below = get_or-take end (set xs at (get_or xs end d)) at n below ∙ get_or-set_same xs at (get_or xs end d) n lt ∙ get_or_default xs end d n (omega (arith, lt))

  pub one_less : length (swap_remove xs at d) ≡ end
  one_less = length-take-le end (set xs at (get_or xs end d)) (omega (arith, length-set xs at (get_or xs end d)))
