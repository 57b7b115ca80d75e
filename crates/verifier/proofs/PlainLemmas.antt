-- In a plain program, the facts that hold of every path are enough for each instruction.
use Rattle.std.proofs.Common.{◌≡◌, ℕ, suc, ◌+◌, ◌≤◌, ◌^◌, true, List, [], ◌∷◌, Some, sym, subst, ap, ◌∙◌, inl, inr, arith, pos}
use Rattle.std.proofs.lemmas.Int.{ints}
use Rattle.std.proofs.lemmas.Bool.{cases_order}
use Rattle.bpf_model.specs.declared.input.Sizes.{Sizes}
use Rattle.bpf_model.specs.declared.window.Window.{Window}
use Rattle.bpf_model.specs.declared.window.Window.TheVariants.{Key, Old, Arg, Result, Stack}
use Rattle.bpf_model.specs.declared.instruction.Insn.{Insn}
use Rattle.bpf_model.specs.Program.{instruction_at}
use Rattle.bpf_model.specs.Memory.{window_size}
use Rattle.bpf_model.specs.Fits.{AreWithinLimits}
use Rattle.bpf_model.proofs.ProgramLemmas.{place_of, none_inside, units_of-some}
use Rattle.stack_slots.specs.Kept.{IsKept}
use Rattle.stack_slots.specs.Offsets.{AreInReach}
use Rattle.stack_slots.specs.Frames.{is_written}
use Rattle.verifier.specs.declared.abstract_state.AbstractState.{AbstractState}
use Rattle.verifier.specs.Instructions.{Touch, IsAboveLeastOffset}
use Rattle.verifier.specs.Changes.{CanTouch, Suffices}
use Rattle.verifier.specs.Paths.{base_offset, IsNextUnit, IsTarget, IsPathTo, OnEveryPath, EndsIn}
use Rattle.verifier.specs.Plain.{copy_of, mask_of, addition_of, constant_of, LiesPlainly, IsPlain}
use Rattle.verifier.specs.Grants.{PointsPast, Grants}

-- if no jump leads to a unit, runs enter it only from the instruction before
only_from : (program : List Insn) (u v : ℕ) (i : Insn) → instruction_at program v ≡ Some i → (IsTarget program (suc v) → ⊥) → IsNextUnit program u (suc v) → u ≡ v
only_from program u v i at apart (inr jump) = absurd (apart (u, jump))
only_from program u v i at apart (inl falls) =
    elim (cases_order u v) [
      | inl same ↦ same
      | inr other ↦
          let j = falls.0 in
          let next = falls.1.1.1 in
          let span = place_of program u j falls.1.0 in
          elim other [
            | inr more ↦ absurd (omega (arith, next, more, units_of-some j))
            | inl less ↦ absurd (let none = none_inside program span.0 j v span.1.0 (omega (arith, span.1.1, less)) (omega (arith, span.1.1, next)) in cc)
          ]
    ]

-- so that instruction ends every path to it
ends_more : (program : List Insn) (v : ℕ) (i : Insn) (more : List Insn) → instruction_at program v ≡ Some i → (IsTarget program (suc v) → ⊥) → OnEveryPath program v (EndsIn program more) → OnEveryPath program (suc v) (EndsIn program (i ∷ more))
ends_more program v i more at apart all [] comes = absurd (omega (arith, comes))
ends_more program v i more at apart all (u ∷ before) comes =
    let is = only_from program u v i at apart comes.0 in
    (rw is at, all before (subst (IsPathTo program before) is comes.1))

ends_there : (program : List Insn) (v : ℕ) → OnEveryPath program v (EndsIn program [])
ends_there program v = λ before comes. tt

-- windows and the distances of their registers are small
small_offset : (w : Window) → base_offset w ≤ 512
small_offset Key = omega arith
small_offset Old = omega arith
small_offset Arg = omega arith
small_offset Result = omega arith
small_offset Stack = omega arith

small_window : (sizes : Sizes) (w : Window) → AreWithinLimits sizes → window_size sizes w ≤ 1024
small_window sizes Key h = omega (arith, h.key)
small_window sizes Old h = omega (arith, h.old)
small_window sizes Arg h = omega (arith, h.arg)
small_window sizes Result h = omega (arith, h.result)
small_window sizes Stack h = omega arith

-- if an access is plain, the state knows a pointer for it
touched : (program : List Insn) (sizes : Sizes) (unit : ℕ) (a : AbstractState) (t : Touch) (p : LiesPlainly program sizes unit t) → AreWithinLimits sizes → IsAboveLeastOffset t.offset → Grants program unit a → PointsPast p.window p.further a t.base
touched program sizes unit a t p limits near g =
    elim p.through [
      | inl direct ↦ rw (direct.0, direct.1) (g.bases p.window)
      | inr masked ↦
          let small = small_window sizes p.window limits in
          let short : base_offset p.window + p.further ≤ 2 ^ 20 = omega (arith, ints, p.begins, p.inside, near, small) in
          let reach : AreInReach (pos (base_offset p.window)) (pos (base_offset p.window + p.further)) = record { above = omega (arith, ints); below = omega (arith, ints, short) } in
          let first = ends_more program masked.start (copy_of t.base p.window) [] masked.copies masked.mask_apart (ends_there program masked.start) in
          let second = ends_more program (suc masked.start) (mask_of masked.x p.further) (copy_of t.base p.window ∷ []) masked.masks masked.sum_apart first in
          let third = ends_more program (suc (suc masked.start)) (addition_of t.base masked.x) (mask_of masked.x p.further ∷ copy_of t.base p.window ∷ []) masked.adds (subst (λ (u : ℕ). IsTarget program u → ⊥) masked.is masked.access_apart) second in
          g.added t.base masked.x p.further p.window masked.other reach (subst (λ (u : ℕ). OnEveryPath program u (EndsIn program (addition_of t.base masked.x ∷ mask_of masked.x p.further ∷ copy_of t.base p.window ∷ []))) (sym masked.is) third)
    ]

can_touch : (program : List Insn) (sizes : Sizes) (unit : ℕ) (a : AbstractState) (t : Touch) (p : LiesPlainly program sizes unit t) → PointsPast p.window p.further a t.base → CanTouch sizes a t
can_touch program sizes unit a t p x = record {
  pointer = x.pointer;
  through = x.is;
  inside = record { least = omega (arith, ints, x.least, p.begins); greatest = rw x.window (omega (arith, ints, x.greatest, p.begins, p.inside)) };
}

-- a plain program's instruction is accepted if the state knows what holds of every path to it
pub plain_suffices : (program : List Insn) (sizes : Sizes) (unit : ℕ) (i : Insn) (a : AbstractState) → IsPlain program sizes → instruction_at program unit ≡ Some i → Grants program unit a → Suffices sizes i a
unfolding can_touch
plain_suffices program sizes unit i a plain at g = record {
  read = λ r reading. g.written r (plain.reading unit i r at reading);
  target = plain.bases unit i Stack at;
  loads = λ t is near.
      let l = plain.loading unit i t at is in
      let x = touched program sizes unit a t l.span plain.limits near g in
      record {
        touch = can_touch program sizes unit a t l.span x;
        written = λ j kept from to.
            let inside : IsKept l.span.window = subst IsKept x.window kept in
            subst (λ (w : Window). is_written a.frame w j ≡ true) (sym x.window) (g.stored l.span.window j (l.stored j inside (omega (arith, ints, from, x.least, l.span.begins)) (omega (arith, ints, to, x.greatest, l.span.begins))));
      };
  stores = λ t is near.
      let s = plain.storing unit i t at is in
      let x = touched program sizes unit a t s.span plain.limits near g in
      record { touch = can_touch program sizes unit a t s.span x; kept = subst IsKept (sym x.window) s.kept };
  exits = λ is.
      let e = plain.exiting unit (at ∙ ap Some is) in
      let ends = ends_more program e.before (constant_of e.answer) [] e.moves (subst (λ (u : ℕ). IsTarget program u → ⊥) e.is e.apart) (ends_there program e.before) in
      record {
        answer = e.answer;
        constant = g.answer e.answer (subst (λ (u : ℕ). OnEveryPath program u (EndsIn program (constant_of e.answer ∷ []))) (sym e.is) ends);
        written = elim (e.plain g.reached.0 g.reached.1) [
          | inl nothing ↦ inl nothing
          | inr some ↦ inr (
            some.0,
            (
              some.1.0,
              λ j less. g.stored Result j (λ before comes. elim (e.plain before comes) [
                | inl nothing ↦ absurd (let z = sym some.1.0 ∙ nothing in cc)
                | inr other ↦ other.1.1 j (omega (arith, ints, less, sym some.1.0 ∙ other.1.0))
              ]),
            ),
          )
        ];
      };
}
