-- In a plain program, if something holds of every path to a unit, the state after its instruction knows it too.
use Rattle.std.proofs.Common.{◌≡◌, ◌≢◌, ℕ, ◌+◌, Bool, true, false, List, ◌∷◌, Some, None, refl, sym, ap, ◌∙◌, inl, inr, arith, ℤ, pos}
use Rattle.std.proofs.lemmas.Int.{ints}
use Rattle.bpf_model.specs.declared.window.Window.{Window}
use Rattle.bpf_model.specs.declared.instruction.Insn.{Insn}
use Rattle.bpf_model.specs.declared.instruction.Insn.TheVariants.{Store, Jump, JumpLong, Branch, Exit}
use Rattle.bpf_model.specs.Program.{instruction_at}
use Rattle.bpf_model.proofs.Options.{test_of, some_is}
use Rattle.stack_slots.specs.declared.reg_value.RegValue.{RegValue}
use Rattle.stack_slots.specs.declared.reg_value.RegValue.TheVariants.{Unwritten, Number, Pointer as PointerInto}
use Rattle.stack_slots.specs.Offsets.{AreInReach}
use Rattle.stack_slots.specs.Values.{IsPointerIn, IsNumberIn}
use Rattle.stack_slots.specs.Frames.{is_written}
use Rattle.verifier.specs.declared.abstract_state.AbstractState.{AbstractState}
use Rattle.verifier.specs.Instructions.{written_by, store_of}
use Rattle.verifier.specs.Joins.{register, KeepsCommon}
use Rattle.verifier.specs.Describes.{goes_straight}
use Rattle.verifier.specs.Changes.{Changes, IsNarrowed, OnlyNarrows}
use Rattle.verifier.specs.Paths.{base_of, base_offset, IsNextUnit, IsPathTo, OnEveryPath, WasWritten, WasStored}
use Rattle.verifier.specs.Plain.{copy_of, mask_of, addition_of, constant_of}
use Rattle.verifier.specs.Grants.{PointsPast, Grants}

-- the join of two states grants what both do
pub join_grants : (program : List Insn) (unit : ℕ) (a b c : AbstractState) → Grants program unit a → Grants program unit b → KeepsCommon a b c → Grants program unit c
join_grants program unit a b c g h j = record {
  reached = g.reached;
  bases = λ w. j.pointer (base_of w) w _ _ (g.bases w) (h.bases w);
  written = λ r p. j.value r (g.written r p) (h.written r p);
  spills = j.spills g.spills h.spills;
  stored = λ w k p. j.marks w k (g.stored w k p) (h.stored w k p);
  copied = λ d w p. j.pointer d w _ _ (g.copied d w p) (h.copied d w p);
  masked = λ d x m w other p.
      let y = g.masked d x m w other p in
      let z = h.masked d x m w other p in
      (j.pointer d w _ _ y.0 z.0, j.number x _ _ y.1 z.1);
  added = λ d x m w other near p. j.pointer d w _ _ (g.added d x m w other near p) (h.added d x m w other near p);
  answer = λ k p. j.number 0 k k (g.answer k p) (h.answer k p);
}

clash : (b : Bool) → b ≡ true → b ≡ false → ⊥
clash true t f = cc
clash false t f = cc

same_instruction : (program : List Insn) (u : ℕ) (i j : Insn) → instruction_at program u ≡ Some i → instruction_at program u ≡ Some j → i ≡ j
same_instruction program u i j first second = some_is i j (sym first ∙ second)

-- if an instruction doesn't write a register, the register was written before it
written_before : (program : List Insn) (unit next r : ℕ) (i : Insn) → instruction_at program unit ≡ Some i → IsNextUnit program unit next → written_by i ≢ Some r → OnEveryPath program next (WasWritten program r) → OnEveryPath program unit (WasWritten program r)
written_before program unit next r i at follows apart all path comes =
    elim (all (unit ∷ path) (follows, comes)) [
      | inl now ↦ absurd (apart (ap written_by (same_instruction program unit i now.0 at now.1.0) ∙ now.1.1))
      | inr earlier ↦ earlier
    ]

-- a register that was written on every path to the next unit has a value there
step_written : (program : List Insn) (unit next : ℕ) (i : Insn) (a b : AbstractState) (r : ℕ) → instruction_at program unit ≡ Some i → IsNextUnit program unit next → Grants program unit a → Changes i a b → OnEveryPath program next (WasWritten program r) → register b r ≢ Unwritten
step_written program unit next i a b r at follows g ch all = λ none.
    let apart : written_by i ≢ Some r = λ is. ch.target r g.spills is none in
    g.written r (written_before program unit next r i at follows apart all) (sym (ch.others r apart) ∙ none)

-- if a byte was stored on every path to the next unit, the state there knows that it was written
step_stored : (program : List Insn) (unit next : ℕ) (i : Insn) (a b : AbstractState) (w : Window) (j : ℕ) → instruction_at program unit ≡ Some i → IsNextUnit program unit next → Grants program unit a → Changes i a b → OnEveryPath program next (WasStored program w j) → is_written b.frame w j ≡ true
step_stored program unit next i a b w j at follows g ch all =
    elim (test_of (is_written b.frame w j)) [
      | inl marked ↦ marked
      | inr unmarked ↦
          let before : OnEveryPath program unit (WasStored program w j) = λ path comes.
          elim (all (unit ∷ path) (follows, comes)) [
            | inl now ↦
                let is = same_instruction program unit i now.i at now.at in
                let base = g.bases w in
                let there : IsPointerIn w (pos (base_offset w)) (pos (base_offset w)) (register a now.t.base) = rw now.through (record { pointer = base.pointer; is = base.is; window = base.window; least = base.least; greatest = omega (arith, ints, base.greatest) }) in
                let marked = ch.stores now.t w j (ap store_of is ∙ now.is) (record { distance = pos (base_offset w); first = now.first; through = there; begins = now.begins; from = now.from; to = now.to }) in
                absurd (clash (is_written b.frame w j) marked unmarked)
            | inr earlier ↦ earlier
          ] in
          absurd (clash (is_written b.frame w j) (ch.marks w j (g.stored w j before)) unmarked)
    ]

-- the sum of a copied window's register and a masked number
step_added : (d x m : ℕ) (w : Window) (a b : AbstractState) (i : Insn) → i ≡ addition_of d x → AreInReach (pos (base_offset w)) (pos (base_offset w + m)) → PointsPast w 0 a d × IsNumberIn (pos 0) (pos m) (register a x) → Changes i a b → PointsPast w m b d
step_added d x m w a b i is near both ch =
    let sum = ch.adds d x w (pos (base_offset w)) (pos (base_offset w + 0)) (pos 0) (pos m) is (record { above = omega (arith, ints, near.above); below = omega (arith, ints, near.below) }) both.0 both.1 in
    record { pointer = sum.pointer; is = sum.is; window = sum.window; least = omega (arith, ints, sum.least); greatest = omega (arith, ints, sum.greatest) }

-- an instruction that doesn't jump grants at the next unit what it granted at its own
pub step_grants : (program : List Insn) (unit next : ℕ) (i : Insn) (a b : AbstractState) → ((w : Window) → written_by i ≢ Some (base_of w)) → instruction_at program unit ≡ Some i → IsNextUnit program unit next → Grants program unit a → Changes i a b → Grants program next b
step_grants program unit next i a b apart at follows g ch = record {
  reached = (unit ∷ g.reached.0, (follows, g.reached.1));
  bases = λ w. rw (ch.others (base_of w) (apart w)) (g.bases w);
  written = λ r all. step_written program unit next i a b r at follows g ch all;
  spills = ch.spills g.spills;
  stored = λ w j all. step_stored program unit next i a b w j at follows g ch all;
  copied = λ d w all.
      let is = same_instruction program unit i (copy_of d w) at (all path comes).0 in
      rw (ch.moves d (base_of w) is) (g.bases w);
  masked = λ d x m w other all.
      let is = same_instruction program unit i (mask_of x m) at (all path comes).0 in
      let first = g.copied d w (λ before c. (all (unit ∷ before) (follows, c)).1) in
      let untouched : written_by i ≢ Some d = λ e. other (some_is d x (sym e ∙ ap written_by is)) in
      (rw (ch.others d untouched) first, ch.masks x m is);
  added = λ d x m w other near all.
      let is = same_instruction program unit i (addition_of d x) at (all path comes).0 in
      step_added d x m w a b i is near (g.masked d x m w other (λ before c. (all (unit ∷ before) (follows, c)).1)) ch;
  answer = λ c all. ch.constant 0 c (same_instruction program unit i (constant_of c) at (all path comes).0);
}
  where
    path : List ℕ
    path = unit ∷ g.reached.0

    comes : IsPathTo program path next
    comes = (follows, g.reached.1)

-- if a condition narrows a value, there is still a value, and a pointer stays
keeps_value : (x y : RegValue) → IsNarrowed x y → x ≢ Unwritten → y ≢ Unwritten
keeps_value Unwritten y n h = absurd (h refl)
keeps_value (Number r) y n h = λ e. absurd (let z = sym n.1 ∙ e in cc)
keeps_value (PointerInto p) y n h = λ e. absurd (let z = sym n ∙ e in cc)

keeps_pointer : (w : Window) (lo hi : ℤ) (x y : RegValue) → IsNarrowed x y → IsPointerIn w lo hi x → IsPointerIn w lo hi y
keeps_pointer w lo hi Unwritten y n p = absurd (let e = p.is in cc)
keeps_pointer w lo hi (Number r) y n p = absurd (let e = p.is in cc)
keeps_pointer w lo hi (PointerInto q) y n p = rw n p

jump_writes_none : (i : Insn) (r : ℕ) → goes_straight i ≡ false → written_by i ≢ Some r
jump_writes_none (Jump distance) r jump = λ e. cc
jump_writes_none (JumpLong distance) r jump = λ e. cc
jump_writes_none (Branch test width dst src distance) r jump = λ e. cc
jump_writes_none Exit r jump = λ e. cc
jump_writes_none other r jump = absurd cc

jump_stores_none : (i : Insn) → goes_straight i ≡ false → store_of i ≡ None
jump_stores_none (Store size dst src offset) jump = absurd cc
jump_stores_none other jump = refl

-- a jump grants on each of its ways what it granted at its own unit
pub narrow_grants : (program : List Insn) (unit next : ℕ) (i : Insn) (a b : AbstractState) → goes_straight i ≡ false → instruction_at program unit ≡ Some i → IsNextUnit program unit next → Grants program unit a → OnlyNarrows a b → Grants program next b
narrow_grants program unit next i a b jump at follows g n = record {
  reached = (path, comes);
  bases = λ w. keeps_pointer w _ _ (register a (base_of w)) (register b (base_of w)) (n.registers (base_of w)) (g.bases w);
  written = λ r all. keeps_value (register a r) (register b r) (n.registers r) (g.written r (written_before program unit next r i at follows (jump_writes_none i r jump) all));
  spills = rw n.frame g.spills;
  stored = λ w j all. rw n.frame (g.stored w j (stored_before w j all));
  copied = λ d w all. absurd (no_other (copy_of d w) refl (all path comes).0);
  masked = λ d x m w other all. absurd (no_other (mask_of x m) refl (all path comes).0);
  added = λ d x m w other near all. absurd (no_other (addition_of d x) refl (all path comes).0);
  answer = λ c all. absurd (no_other (constant_of c) refl (all path comes).0);
}
  where
    path : List ℕ
    path = unit ∷ g.reached.0

    comes : IsPathTo program path next
    comes = (follows, g.reached.1)

    no_other : (j : Insn) → goes_straight j ≡ true → instruction_at program unit ≡ Some j → ⊥
    no_other j on there = clash (goes_straight j) on (ap goes_straight (same_instruction program unit j i there at) ∙ jump)

    stored_before : (w : Window) (j : ℕ) → OnEveryPath program next (WasStored program w j) → OnEveryPath program unit (WasStored program w j)
    stored_before w j all before c =
        elim (all (unit ∷ before) (follows, c)) [
          | inl now ↦
              let is = same_instruction program unit i now.i at now.at in
              absurd (let none = sym now.is ∙ (ap store_of (sym is) ∙ jump_stores_none i jump) in cc)
          | inr earlier ↦ earlier
        ]
