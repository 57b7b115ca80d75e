-- The windows of accesses.
use Rattle.std.proofs.Common.{◌≡◌, ℕ, Some, None, sym, ap, subst, ◌∙◌, arith, ℤ}
use Rattle.std.specs.Prelude.{true}
use Rattle.bpf_model.specs.declared.input.Sizes.{Sizes}
use Rattle.bpf_model.specs.declared.window.Window.{Window}
use Rattle.bpf_model.specs.declared.window.Window.TheVariants.{Key, Old, Arg, Result, Stack}
use Rattle.bpf_model.specs.declared.accesses.AccessSize.{AccessSize}
use Rattle.bpf_model.specs.declared.instruction.Insn.{Insn}
use Rattle.bpf_model.specs.declared.instruction.Insn.TheVariants.{Load, Store}
use Rattle.bpf_model.specs.Accesses.{byte_count}
use Rattle.bpf_model.specs.Memory.{lies_in_window}
use Rattle.bpf_model.specs.State.{State}
use Rattle.bpf_model.specs.Step.{address_of}
use Rattle.bpf_model.proofs.Options.{some_is}
use Rattle.bound_operations.specs.Binding.{IsWritten}
use Rattle.stack_slots.specs.declared.reg_value.RegValue.{RegValue}
use Rattle.stack_slots.specs.Kept.{IsKept}
use Rattle.stack_slots.specs.Values.{StandsFor}
use Rattle.verifier.specs.declared.abstract_state.AbstractState.{AbstractState}
use Rattle.verifier.specs.declared.abstract_state.span.Span.{Span}
use Rattle.verifier.specs.Instructions.{load_of, store_of}
use Rattle.verifier.specs.Joins.{register}
use Rattle.verifier.specs.Describes.{Describes, Knows, IsInSpan, LiesInside}
use Rattle.verifier.specs.Windows.{pointed_window, window_of, LiesIn}
use Rattle.verifier.proofs.WindowLemmas.{lies_inside}

-- an instruction that neither loads nor stores
pub no_access : (sizes : Sizes) (i : Insn) (a : AbstractState) → load_of i ≡ None → store_of i ≡ None → LiesIn sizes i a (window_of i a)
no_access sizes (Load kind dst src offset) a load store = absurd cc
no_access sizes (Store size dst src offset) a load store = absurd cc
no_access sizes other a load store = record { can_bind = tt; inside = λ s d. tt }

pub kept_written : (r : Window) → IsKept r → IsWritten r
kept_written Key h = h
kept_written Old h = h
kept_written Arg h = h
kept_written Result h = h
kept_written Stack h = h

-- an access at a span inside its window lies in the window that its register points into
pub access_lies : (sizes : Sizes) (a : AbstractState) (r : ℕ) (base : RegValue) (offset : ℤ) (p : Span) (size : AccessSize) → base ≡ register a r → Knows a r base → p.window ≡ pointed_window base → LiesInside sizes p size → ((w : ℕ) → StandsFor base (Some w) → IsInSpan p (address_of w offset))
    → (s : State) → Describes a sizes s → (w : ℕ) → s.registers r ≡ Some w → lies_in_window sizes (pointed_window (register a r)) (address_of w offset) (byte_count size) ≡ true
access_lies sizes a r base offset p size is knows window inside at s d w has =
    let k = knows sizes s d in
    let same : k.word ≡ w = some_is k.word w (sym k.is ∙ has) in
    let there = at w (subst (λ (v : ℕ). StandsFor base (Some v)) same k.stands) in
    let window : p.window ≡ pointed_window (register a r) = window ∙ ap pointed_window is in
    let lies : lies_in_window sizes p.window (address_of w offset) (byte_count size) ≡ true = rw there.is (lies_inside sizes p.window there.distance (byte_count size) (omega (arith, there.greatest, inside))) in
    subst (λ (u : Window). lies_in_window sizes u (address_of w offset) (byte_count size) ≡ true) window lies
