-- How instructions change an abstract state.
use Rattle.std.proofs.Common.{◌≡◌, ◌≢◌, ℕ, ◌+◌, ◌<◌, ◌≤◌, ◌^◌, ◌⊎◌, true, List, length, inl, inr, Some, refl, None, sym, subst, ap, ◌∙◌, arith, SFits, ℤ, pos, negsuc}
use Rattle.std.specs.Prelude.{◌+ℤ◌, slice_index_or, slice_set}
use Rattle.std.specs.Int.{w32, w64}
use Rattle.std.proofs.lemmas.List.{get_or-set_same, get_or-set_other, length-set, ext_get_or}
use Rattle.std.proofs.lemmas.Int.{ints, to_z-of_z}
use Rattle.bpf_model.specs.declared.input.Sizes.{Sizes}
use Rattle.bpf_model.specs.declared.window.Window.{Window}
use Rattle.bpf_model.specs.declared.operations.AluOp.{AluOp}
use Rattle.bpf_model.specs.declared.operations.AluOp.TheVariants.{Add, And}
use Rattle.bpf_model.specs.declared.operations.Width.{Width}
use Rattle.bpf_model.specs.declared.operations.Width.TheVariants.{W64}
use Rattle.bpf_model.specs.declared.accesses.AccessSize.{AccessSize}
use Rattle.bpf_model.specs.declared.instruction.Operand.{Operand}
use Rattle.bpf_model.specs.declared.instruction.Operand.TheVariants.{Register, Immediate}
use Rattle.bpf_model.specs.declared.instruction.Insn.{Insn}
use Rattle.bpf_model.specs.declared.instruction.Insn.TheVariants.{Alu, Mov, Store}
use Rattle.bpf_model.specs.Accesses.{byte_count}
use Rattle.bpf_model.specs.Words.{signed, sign_extended}
use Rattle.bpf_model.proofs.Options.{some_is}
use Rattle.stack_slots.specs.declared.pointer.Pointer.{Pointer}
use Rattle.stack_slots.specs.declared.reg_value.RegValue.{RegValue}
use Rattle.stack_slots.specs.declared.reg_value.RegValue.TheVariants.{Unwritten, Number, Pointer as PointerInto}
use Rattle.stack_slots.specs.Kept.{IsKept}
use Rattle.stack_slots.specs.Offsets.{AreInReach}
use Rattle.stack_slots.specs.Values.{IsPointerIn, IsNumberIn}
use Rattle.stack_slots.specs.Frames.{is_written, NoneUnwritten}
use Rattle.verifier.specs.declared.abstract_state.AbstractState.{AbstractState}
use Rattle.verifier.specs.declared.abstract_state.span.Span.{Span}
use Rattle.verifier.specs.Joins.{register, SetsTo}
use Rattle.verifier.specs.Instructions.{written_by, store_of, Touch}
use Rattle.verifier.specs.Changes.{TouchesByte, Changes, IsSpan, WritesAt, CanLoad, AreMarked, IsNarrowed, OnlyNarrows}

fits_more : (z : ℤ) → SFits w32 z → SFits w64 z
fits_more (pos n) h = record { sfits = omega (arith, h.sfits) }
fits_more (negsuc n) h = record { sfits = omega (arith, h.sfits) }

-- an immediate is read back unchanged
pub signed_back : (z : ℤ) → SFits w32 z → signed (sign_extended z) ≡ z
signed_back z fits = to_z-of_z w64 z (fits_more z fits)

pub immediate_is : (y z : ℤ) → Immediate y ≡ Immediate z → y ≡ z
immediate_is y z e = cc

pub mask_word : (m : ℕ) → SFits w32 (pos m) → (sign_extended (pos m) ≡ m) × (m < 2 ^ 63)
mask_word m fits = (omega (arith, ints, fits.sfits), omega (arith, fits.sfits))

target_has : (a b : AbstractState) (dst r : ℕ) (x : RegValue) → SetsTo a dst x b → x ≢ Unwritten → Some dst ≡ Some r → register b r ≢ Unwritten
target_has a b dst r x sets some is = λ none. some (sym sets.here ∙ ap (register b) (some_is dst r is) ∙ none)

mov_parts : (width v : Width) (dst d : ℕ) (src s : Operand) → Mov width dst src ≡ Mov v d s → (width ≡ v) × ((dst ≡ d) × (src ≡ s))
mov_parts width v dst d src s e = (cc, (cc, cc))

alu_parts : (op o : AluOp) (width v : Width) (dst d : ℕ) (src s : Operand) → Alu op width dst src ≡ Alu o v d s → (op ≡ o) × ((width ≡ v) × ((dst ≡ d) × (src ≡ s)))
alu_parts op o width v dst d src s e = (cc, (cc, (cc, cc)))

-- a move: a moved register keeps its value, and a moved number is that number
pub mov_changes : (width : Width) (dst : ℕ) (src : Operand) (a b : AbstractState) (x : RegValue) → SetsTo a dst x b → x ≢ Unwritten
    → ((s : ℕ) → width ≡ W64 → src ≡ Register s → x ≡ register a s) → ((k : ℤ) → width ≡ W64 → src ≡ Immediate k → IsNumberIn k k x) → Changes (Mov width dst src) a b
mov_changes width dst src a b x sets some moved constant = record {
  others = λ r apart. sets.others r (λ e. apart (ap (λ (k : ℕ). Some k) (sym e)));
  target = λ r none is. target_has a b dst r x sets some is;
  marks = λ w j yet. rw sets.frame yet;
  spills = λ none. rw sets.frame none;
  stores = λ t w j is at. absurd cc;
  moves = λ d s e.
      let p = mov_parts width W64 dst d src (Register s) e in
      ap (register b) (sym p.1.0) ∙ sets.here ∙ moved s p.0 p.1.1;
  constant = λ d k e.
      let p = mov_parts width W64 dst d src (Immediate k) e in
      subst (IsNumberIn k k) (sym (ap (register b) (sym p.1.0) ∙ sets.here)) (constant k p.0 p.1.1);
  masks = λ d m e. absurd cc;
  adds = λ d y w lo hi from to e. absurd cc;
}

-- arithmetic: a mask gives a small number, and a pointer plus a number is a pointer
pub alu_changes : (op : AluOp) (width : Width) (dst : ℕ) (src : Operand) (a b : AbstractState) (x : RegValue) → SetsTo a dst x b → x ≢ Unwritten
    → ((m : ℕ) → op ≡ And → width ≡ W64 → src ≡ Immediate (pos m) → IsNumberIn (pos 0) (pos m) x)
    → ((s : ℕ) (w : Window) (lo hi from to : ℤ) → op ≡ Add → width ≡ W64 → src ≡ Register s → AreInReach (lo +ℤ from) (hi +ℤ to)
    → IsPointerIn w lo hi (register a dst) → IsNumberIn from to (register a s) → IsPointerIn w (lo +ℤ from) (hi +ℤ to) x)
    → Changes (Alu op width dst src) a b
alu_changes op width dst src a b x sets some mask sum = record {
  others = λ r apart. sets.others r (λ e. apart (ap (λ (k : ℕ). Some k) (sym e)));
  target = λ r none is. target_has a b dst r x sets some is;
  marks = λ w j yet. rw sets.frame yet;
  spills = λ none. rw sets.frame none;
  stores = λ t w j is at. absurd cc;
  moves = λ d s e. absurd cc;
  constant = λ d k e. absurd cc;
  masks = λ d m e.
      let p = alu_parts op And width W64 dst d src (Immediate (pos m)) e in
      subst (IsNumberIn (pos 0) (pos m)) (sym (ap (register b) (sym p.1.1.0) ∙ sets.here)) (mask m p.0 p.1.0 p.1.1.1);
  adds = λ d y w lo hi from to e near pointer number.
      let p = alu_parts op Add width W64 dst d src (Register y) e in
      let at = subst (λ (k : ℕ). IsPointerIn w lo hi (register a k)) (sym p.1.1.0) pointer in
      subst (IsPointerIn w (lo +ℤ from) (hi +ℤ to)) (sym (ap (register b) (sym p.1.1.0) ∙ sets.here)) (sum y w lo hi from to p.0 p.1.0 p.1.1.1 near at number);
}

-- any other instruction that sets a register
pub set_changes : (i : Insn) (dst : ℕ) (a b : AbstractState) (x : RegValue) → written_by i ≡ Some dst → store_of i ≡ None → ((width : Width) (d : ℕ) (src : Operand) → i ≢ Mov width d src)
    → ((op : AluOp) (width : Width) (d : ℕ) (src : Operand) → i ≢ Alu op width d src) → SetsTo a dst x b → (NoneUnwritten a.frame → x ≢ Unwritten) → Changes i a b
set_changes i dst a b x sets_dst no_store no_mov no_alu sets some = record {
  others = λ r apart. sets.others r (λ e. apart (sets_dst ∙ ap (λ (k : ℕ). Some k) (sym e)));
  target = λ r none is. target_has a b dst r x sets (some none) (sym sets_dst ∙ is);
  marks = λ w j yet. rw sets.frame yet;
  spills = λ none. rw sets.frame none;
  stores = λ t w j is at. absurd (let e = sym no_store ∙ is in cc);
  moves = λ d s e. absurd (no_mov W64 d (Register s) e);
  constant = λ d k e. absurd (no_mov W64 d (Immediate k) e);
  masks = λ d m e. absurd (no_alu And W64 d (Immediate (pos m)) e);
  adds = λ d y w lo hi from to e. absurd (no_alu Add W64 d (Register y) e);
}

-- an access at only one offset touches the bytes from it on
touched_at : (size : AccessSize) (offset : ℤ) (a : AbstractState) (t : Touch) (span : Span) (x : RegValue) (w : Window) (j : ℕ) → x ≡ register a t.base → t.offset ≡ offset → t.count ≡ byte_count size
    → ((p : Pointer) → x ≡ PointerInto p → IsSpan p offset span) → TouchesByte a t w j → (span.window ≡ w) × ((span.least ≡ span.greatest) × ((span.least ≤ j) × (j < span.greatest + byte_count size)))
touched_at size offset a t span x w j is at_offset of_size at touches =
    let p = touches.through.pointer in
    let here = at p (is ∙ touches.through.is) in
    let least = here.least_is in
    let greatest = here.greatest_is in
    let begins = touches.begins in
    let alone : span.least ≡ span.greatest = omega (arith, ints, least, greatest, p.order, touches.through.least, touches.through.greatest) in (
      here.window_is ∙ touches.through.window,
      (
        alone,
        (
          omega (arith, ints, least, begins, at_offset, p.order, touches.through.least, touches.through.greatest, touches.from),
          omega (arith, ints, greatest, begins, at_offset, of_size, p.order, touches.through.least, touches.through.greatest, touches.to),
        ),
      ),
    )

-- a store
pub store_changes : (size : AccessSize) (dst : ℕ) (src : Operand) (offset : ℤ) (a b : AbstractState) (x y : RegValue) (span : Span) → x ≡ register a dst → y ≢ Unwritten
    → ((p : Pointer) → x ≡ PointerInto p → IsSpan p offset span) → WritesAt a span size y b → Changes (Store size dst src offset) a b
store_changes size dst src offset a b x y span is some at writes = record {
  others = λ r apart. ap (λ (xs : List RegValue). slice_index_or xs r Unwritten) writes.registers;
  target = λ r none e. absurd cc;
  marks = writes.keeps;
  spills = writes.spills some;
  stores = λ t w j e touches.
      let t_is = some_is _ t e in
      let base : t.base ≡ dst = ap (λ (u : Touch). u.base) (sym t_is) in
      let off : t.offset ≡ offset = ap (λ (u : Touch). u.offset) (sym t_is) in
      let count : t.count ≡ byte_count size = ap (λ (u : Touch). u.count) (sym t_is) in
      let h = touched_at size offset a t span x w j (is ∙ ap (register a) (sym base)) off count at touches in
      subst (λ (r : Window). is_written b.frame r j ≡ true) h.0 (writes.marks h.1.0 j h.1.1.0 h.1.1.1);
  moves = λ d s e. absurd cc;
  constant = λ d k e. absurd cc;
  masks = λ d m e. absurd cc;
  adds = λ d z w lo hi from to e. absurd cc;
}

-- the bytes that a load may touch, if it has what is enough
pub can_read : (sizes : Sizes) (a : AbstractState) (t : Touch) (span : Span) (can : CanLoad sizes a t) → IsSpan can.touch.pointer t.offset span → IsKept span.window → AreMarked a span t.count
can_read sizes a t span can at kept = λ j least greatest.
    subst (λ (r : Window). is_written a.frame r j ≡ true) (sym at.window_is)
    (can.written j (subst IsKept at.window_is kept) (omega (arith, ints, at.least_is, least)) (omega (arith, ints, at.greatest_is, greatest)))

pub narrowed_same : (x : RegValue) → IsNarrowed x x
narrowed_same Unwritten = refl
narrowed_same (Number r) = (r, refl)
narrowed_same (PointerInto p) = refl

pub narrows_same : (a : AbstractState) → OnlyNarrows a a
narrows_same a = record { registers = λ r. narrowed_same (register a r); frame = refl }

-- one register is narrowed
pub narrows_at : (a : AbstractState) (n : ℕ) (v : RegValue) → n < length a.registers → IsNarrowed (register a n) v → OnlyNarrows a (record { registers = slice_set a.registers n v; frame = a.frame })
narrows_at a n v lt narrowed = record {
  registers = λ r. elim (decide r n) [
    | inl is ↦ subst (λ (k : ℕ). IsNarrowed (register a k) (slice_index_or (slice_set a.registers n v) k Unwritten)) (sym is) (subst (IsNarrowed (register a n)) (sym (get_or-set_same a.registers n v Unwritten lt)) narrowed)
    | inr apart ↦ subst (IsNarrowed (register a r)) (sym (get_or-set_other a.registers n r v Unwritten apart)) (narrowed_same (register a r))
  ];
  frame = refl;
}
  where
    decide : (r n : ℕ) → (r ≡ n) ⊎ (r ≢ n)
    decide r n = grind arith

narrowed_then : (x y z : RegValue) → IsNarrowed x y → IsNarrowed y z → IsNarrowed x z
narrowed_then Unwritten y z first second = rw first at second
narrowed_then (Number r) y z first second = rw first.1 at second
narrowed_then (PointerInto p) y z first second = rw first at second

pub narrows_then : (a b d : AbstractState) → OnlyNarrows a b → OnlyNarrows b d → OnlyNarrows a d
narrows_then a b d first second = record {
  registers = λ r. narrowed_then (register a r) (register b r) (register d r) (first.registers r) (second.registers r);
  frame = second.frame ∙ first.frame;
}

-- narrowed registers are put back
pub put_back : (before a : AbstractState) (d p : ℕ) (x y : RegValue) → length a.registers ≡ length before.registers → d < length a.registers → p < length a.registers → x ≡ register before d → y ≡ register before p → a.frame ≡ before.frame → ((r : ℕ) → r ≢ d → r ≢ p → register a r ≡ register before r)
    → ◌≡◌ {A = AbstractState} (record { registers = slice_set (slice_set a.registers p y) d x; frame = a.frame }) before
put_back before a d p x y long in_d in_p is_x is_y frame others =
    let once = slice_set a.registers p y in
    let lengths : length once ≡ length a.registers = length-set a.registers p y in
    let lengths_too : length (slice_set once d x) ≡ length once = length-set once d x in
    let same : slice_set once d x ≡ before.registers = ext_get_or Unwritten (slice_set once d x) before.registers (lengths_too ∙ lengths ∙ long) (λ r inside. elim (decide r d) [
      | inl is ↦ rw is (get_or-set_same once d x Unwritten (omega (arith, lengths, in_d)) ∙ is_x)
      | inr apart ↦ get_or-set_other once d r x Unwritten apart ∙ (elim (decide r p) [
        | inl is ↦ rw is (get_or-set_same a.registers p y Unwritten in_p ∙ is_y)
        | inr apart_too ↦ get_or-set_other a.registers p r y Unwritten apart_too ∙ others r apart apart_too
      ])
    ]) in
    rw (same, frame) refl
  where
    decide : (r n : ℕ) → (r ≡ n) ⊎ (r ≢ n)
    decide r n = grind arith
