-- Pointers and numbers within bounds.
use Rattle.std.proofs.Common.{◌≡◌, ◌≢◌, ℤ, sym, ◌∙◌}
use Rattle.std.specs.Prelude.{◌≤ℤ◌}
use Rattle.bpf_model.specs.declared.window.Window.{Window}
use Rattle.value_ranges.specs.declared.range.Range.{Range}
use Rattle.stack_slots.specs.declared.pointer.Pointer.{Pointer}
use Rattle.stack_slots.specs.declared.reg_value.RegValue.{RegValue}
use Rattle.stack_slots.specs.declared.reg_value.RegValue.TheVariants.{Unwritten, Number, Pointer as PointerInto}
use Rattle.stack_slots.specs.Values.{IsPointerIn, IsNumberIn}

number_is : (r q : Range) → Number r ≡ Number q → r ≡ q
number_is r q e = cc

pub pointer_is : (p q : Pointer) → PointerInto p ≡ PointerInto q → p ≡ q
pointer_is p q e = cc

pub number_in : (r : Range) (lo hi : ℤ) → IsNumberIn lo hi (Number r) → (lo ≤ℤ r.smin) × (r.smax ≤ℤ hi)
number_in r lo hi n = rw (number_is r n.range n.is) (n.least, n.greatest)

pub pointer_in : (p : Pointer) (w : Window) (lo hi : ℤ) → IsPointerIn w lo hi (PointerInto p) → (p.window ≡ w) × ((lo ≤ℤ p.least) × (p.greatest ≤ℤ hi))
pointer_in p w lo hi x = rw (pointer_is p x.pointer x.is) (x.window, (x.least, x.greatest))

pub number_some : (r : Range) → Number r ≢ Unwritten
number_some r e = absurd cc

pub pointer_some : (w : Window) (lo hi : ℤ) (x : RegValue) → IsPointerIn w lo hi x → x ≢ Unwritten
pointer_some w lo hi x p none = let e = sym p.is ∙ none in absurd cc
