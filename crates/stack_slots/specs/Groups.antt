-- Values of slots in groups. This verifier's own.
use Rattle.std.specs.Prelude.{◌≡◌, List, Option, Some, None, length}
use Rattle.std.specs.List.{flat_map}
use Rattle.std.specs.Global.{Vec, Global}
use Rattle.std.specs.declared.rc.Rc.{Rc}
use Rattle.stack_slots.specs.declared.reg_value.RegValue.{RegValue}

-- the values of all groups, in their order
abbrev pub together : List (Rc (List (Option RegValue)) Global) → List (Option RegValue)
together groups = flat_map (λ g. g.value) groups

-- the same, if there are groups
abbrev pub ungrouped : Option (Vec (Rc (List (Option RegValue)) Global)) → Option (List (Option RegValue))
ungrouped None = None
ungrouped (Some groups) = Some (together groups.items)

-- there is a group for each eight slots
abbrev pub AreWhole : Option (Vec (Rc (List (Option RegValue)) Global)) → Type 0
AreWhole None = Unit {0}
AreWhole (Some groups) = length groups.items ≡ 8
