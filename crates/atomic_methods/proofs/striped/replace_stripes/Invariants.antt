use Rattle.std.proofs.Common.{◌≡◌, ◌≤◌, ◌*◌, ◌^◌, take, drop}
use Rattle.atomic_methods.specs.Whole.{ReplacesStripes}
use Rattle.atomic_methods.proofs.striped.replace_stripes.Given as goal

-- the stripes before this one were replaced and counted, the others are unchanged
abbrev pub invariant-loop-stripe : goal.invariant-loop-stripe
invariant-loop-stripe l = record {
  done : ReplacesStripes l.fn.program l.fn.arg (take l.stripe-index l.fn.stripes.items) (take l.stripe-index l.stripe-items) (record { scanned = l.scanned; given = l.given; unfit = l.unfit });
  rest : drop l.stripe-index l.stripe-items ≡ drop l.stripe-index l.fn.stripes.items;
  bounded_scanned : l.scanned ≤ l.stripe-index * 2 ^ 57;
  bounded_given : l.given ≤ l.scanned;
  bounded_unfit : l.unfit ≤ l.scanned;
}
