-- Opcodes from their parts, and which fields they use.
use Rattle.std.proofs.Common.{◌≡◌, ◌≢◌, ℕ, ◌/◌, ◌%◌, ◌<◌, Bool, false, true, ◌&&◌, ◌||◌, Option, Some, refl, sym, ap, ◌∙◌, arith, pos}
use Rattle.std.specs.Prelude.{nat_eq}
use Rattle.std.proofs.lemmas.Bool.Decides.{nat_tests}
use Rattle.bpf_model.specs.declared.operations.AluOp.{AluOp}
use Rattle.bpf_model.specs.declared.operations.AluOp.TheVariants.{Div, SDiv, Mod, SMod}
use Rattle.bpf_model.specs.declared.operations.Width.{Width}
use Rattle.bpf_model.specs.declared.operations.Width.TheVariants.{W32, W64}
use Rattle.bpf_model.specs.declared.operations.ByteOrder.{ByteOrder}
use Rattle.bpf_model.specs.declared.operations.ByteOrder.TheVariants.{Little, Big, Swap}
use Rattle.bpf_model.specs.declared.conditions.JumpOp.{JumpOp}
use Rattle.bpf_model.specs.declared.conditions.JumpOp.TheVariants.{Eq}
use Rattle.bpf_model.specs.declared.accesses.AccessSize.{AccessSize}
use Rattle.bpf_model.specs.declared.accesses.AccessSize.TheVariants.{Byte}
use Rattle.bpf_model.specs.declared.accesses.LoadKind.{LoadKind}
use Rattle.bpf_model.specs.declared.accesses.LoadKind.TheVariants.{Byte as LoadByte}
use Rattle.bpf_model.specs.Accesses.{loaded_size}
use Rattle.bpf_model.specs.Spelling.{Fields, opcode, access_opcode, class_ldx, alu_class, jump_class, source_k, source_x, code_of, offset_of, neg_code, mov_code, end_code, test_code, size_code, mode_mem, mode_of, order_source}
use Rattle.bpf_decode.specs.declared.opcode.Source.{Source}
use Rattle.bpf_decode.specs.declared.opcode.Source.TheVariants.{Immediate, Register}
use Rattle.bpf_decode.specs.declared.opcode.Opcode.{Opcode}
use Rattle.bpf_decode.specs.declared.opcode.Opcode.TheVariants.{Alu, Negate, Mov, Reorder, Wide, Load, Store, Jump, JumpLong, Branch, Exit}
use Rattle.bpf_decode.specs.declared.unit.UsedFields.{UsedFields}
use Rattle.bpf_decode.specs.declared.fault.UnitFault.{UnitFault}
use Rattle.bpf_decode.specs.Opcodes.{used_fields, used_by_alu, used_by_jump, used_by_load, used_by_store, is_alu_code, is_test_code, is_division, operands}
use Rattle.bpf_decode.specs.UnitFaults.{has_bad_width, has_bad_alu_width, is_sign, is_move, is_swap, fault_under, unit_fault}
use Rattle.bpf_decode.specs.OpcodeFields.{source_number, stored_class, opcode_byte, used_by, IsZeroUnlessUsed}

-- an opcode splits into the parts it was made of
pub class_in-alu : (code source : ℕ) (w : Width) → source < 2 → opcode code source (alu_class w) % 8 ≡ alu_class w
class_in-alu code source W32 h = omega (arith, h)
class_in-alu code source W64 h = omega (arith, h)

pub class_in-jump : (code source : ℕ) (w : Width) → source < 2 → opcode code source (jump_class w) % 8 ≡ jump_class w
class_in-jump code source W32 h = omega (arith, h)
class_in-jump code source W64 h = omega (arith, h)

pub source_in-opcode : (code source class : ℕ) → source < 2 → class < 8 → opcode code source class / 8 % 2 ≡ source
source_in-opcode code source class h g = omega (arith, h, g)

pub code_in-opcode : (code source class : ℕ) → source < 2 → class < 8 → opcode code source class / 16 ≡ code
code_in-opcode code source class h g = omega (arith, h, g)

pub class_in-access : (mode size class : ℕ) → size < 4 → class < 8 → access_opcode mode size class % 8 ≡ class
class_in-access mode size class h g = omega (arith, h, g)

pub size_in-access : (mode size class : ℕ) → size < 4 → class < 8 → access_opcode mode size class / 8 % 4 ≡ size
size_in-access mode size class h g = omega (arith, h, g)

pub mode_in-access : (mode size class : ℕ) → size < 4 → class < 8 → access_opcode mode size class / 32 ≡ mode
mode_in-access mode size class h g = omega (arith, h, g)

-- the parts have their bits
pub source_number-bounded : (source : Source) → source_number source < 2
source_number-bounded Immediate = omega arith
source_number-bounded Register = omega arith

pub order_source-bounded : (order : ByteOrder) → order_source order < 2
order_source-bounded Little = omega arith
order_source-bounded Big = omega arith
order_source-bounded Swap = omega arith

pub alu_class-bounded : (w : Width) → alu_class w < 8
alu_class-bounded W32 = omega arith
alu_class-bounded W64 = omega arith

pub jump_class-bounded : (w : Width) → jump_class w < 8
jump_class-bounded W32 = omega arith
jump_class-bounded W64 = omega arith

pub size_code-bounded : (size : AccessSize) → size_code size < 4
size_code-bounded Byte = omega arith
size_code-bounded size = omega arith

pub mode_of-bounded : (kind : LoadKind) → mode_of kind < 8
mode_of-bounded LoadByte = omega arith
mode_of-bounded kind = omega arith

-- facts about each operation's code and offset
pub record AluFacts (op : AluOp) : Type 0 where
  pub bounded : code_of op < 16
  pub listed : is_alu_code (code_of op) ≡ true
  pub no_negation : nat_eq (code_of op) neg_code ≡ false
  pub no_move : nat_eq (code_of op) mov_code ≡ false
  pub no_order : nat_eq (code_of op) end_code ≡ false
  pub sign : IsZeroUnlessUsed (is_division (code_of op)) (offset_of op)
  pub signed : is_sign (offset_of op) ≡ true

pub alu_facts : (op : AluOp) → AluFacts op
alu_facts Div = record { bounded = omega arith; listed = refl; no_negation = refl; no_move = refl; no_order = refl; sign = tt; signed = refl }
alu_facts SDiv = record { bounded = omega arith; listed = refl; no_negation = refl; no_move = refl; no_order = refl; sign = tt; signed = refl }
alu_facts Mod = record { bounded = omega arith; listed = refl; no_negation = refl; no_move = refl; no_order = refl; sign = tt; signed = refl }
alu_facts SMod = record { bounded = omega arith; listed = refl; no_negation = refl; no_move = refl; no_order = refl; sign = tt; signed = refl }
alu_facts op = record { bounded = omega arith; listed = refl; no_negation = refl; no_move = refl; no_order = refl; sign = refl; signed = refl }

-- facts about each test's code
pub test_code-bounded : (test : JumpOp) → test_code test < 16
test_code-bounded Eq = omega arith
test_code-bounded test = omega arith

pub test_code-listed : (test : JumpOp) → is_test_code (test_code test) ≡ true
test_code-listed Eq = refl
test_code-listed test = refl

-- a load's mode and size are those of a load
pub load_listed : (kind : LoadKind) → used_by_load (mode_of kind) (size_code (loaded_size kind)) ≡ Some (operands source_x true)
load_listed LoadByte = refl
load_listed kind = refl

-- the fields that arithmetic, jumps and accesses use, by the parts of the opcode
used_fields-alu : (code source : ℕ) (w : Width) → source < 2 → used_fields (opcode code source (alu_class w)) ≡ used_by_alu w source code
used_fields-alu code source W32 h = rw (class_in-alu code source W32 h, source_in-opcode code source 4 h (omega arith), code_in-opcode code source 4 h (omega arith)) refl
used_fields-alu code source W64 h = rw (class_in-alu code source W64 h, source_in-opcode code source 7 h (omega arith), code_in-opcode code source 7 h (omega arith)) refl

used_fields-jump : (code source : ℕ) (w : Width) → source < 2 → used_fields (opcode code source (jump_class w)) ≡ used_by_jump w source code
used_fields-jump code source W32 h = rw (class_in-jump code source W32 h, source_in-opcode code source 6 h (omega arith), code_in-opcode code source 6 h (omega arith)) refl
used_fields-jump code source W64 h = rw (class_in-jump code source W64 h, source_in-opcode code source 5 h (omega arith), code_in-opcode code source 5 h (omega arith)) refl

used_fields-load : (mode size : ℕ) → size < 4 → used_fields (access_opcode mode size class_ldx) ≡ used_by_load mode size
used_fields-load mode size h = rw (class_in-access mode size 1 h (omega arith), size_in-access mode size 1 h (omega arith), mode_in-access mode size 1 h (omega arith)) refl

used_fields-store : (source : Source) (mode size : ℕ) → size < 4 → used_fields (access_opcode mode size (stored_class source)) ≡ used_by_store (source_number source) mode
used_fields-store Immediate mode size h = rw (class_in-access mode size 2 h (omega arith), mode_in-access mode size 2 h (omega arith)) refl
used_fields-store Register mode size h = rw (class_in-access mode size 3 h (omega arith), mode_in-access mode size 3 h (omega arith)) refl

-- each opcode is in the table, with its fields
pub used_fields-byte_of : (o : Opcode) → used_fields (opcode_byte o) ≡ Some (used_by o)
used_fields-byte_of (Alu op source w) = used_fields-alu (code_of op) (source_number source) w (source_number-bounded source) ∙ rw (AluFacts.listed (alu_facts op)) refl
used_fields-byte_of (Negate W32) = refl
used_fields-byte_of (Negate W64) = refl
used_fields-byte_of (Mov Immediate W32) = refl
used_fields-byte_of (Mov Immediate W64) = refl
used_fields-byte_of (Mov Register W32) = refl
used_fields-byte_of (Mov Register W64) = refl
used_fields-byte_of (Reorder Little) = refl
used_fields-byte_of (Reorder Big) = refl
used_fields-byte_of (Reorder Swap) = refl
used_fields-byte_of Wide = refl
used_fields-byte_of (Load kind) = used_fields-load (mode_of kind) (size_code (loaded_size kind)) (size_code-bounded (loaded_size kind)) ∙ load_listed kind
used_fields-byte_of (Store source size) = used_fields-store source mode_mem (size_code size) (size_code-bounded size)
used_fields-byte_of Jump = refl
used_fields-byte_of JumpLong = refl
used_fields-byte_of (Branch test source w) = used_fields-jump (test_code test) (source_number source) w (source_number-bounded source) ∙ rw (test_code-listed test) refl
used_fields-byte_of Exit = refl

-- widths of arithmetic, by the parts of the opcode
has_bad_width-alu : (f : Fields) (code source : ℕ) (w : Width) → source < 2 → f.opcode ≡ opcode code source (alu_class w) → has_bad_width f ≡ has_bad_alu_width w source code f
has_bad_width-alu f code source W32 h e =
    let class : f.opcode % 8 ≡ 4 = omega (arith, h, e) in
    let in_source : f.opcode / 8 % 2 ≡ source = omega (arith, h, e) in
    let in_code : f.opcode / 16 ≡ code = omega (arith, h, e) in
    rw (class, in_source, in_code) refl
has_bad_width-alu f code source W64 h e =
    let class : f.opcode % 8 ≡ 7 = omega (arith, h, e) in
    let in_source : f.opcode / 8 % 2 ≡ source = omega (arith, h, e) in
    let in_code : f.opcode / 16 ≡ code = omega (arith, h, e) in
    rw (class, in_source, in_code) refl

-- other classes have no widths
pub no_width : (f : Fields) → f.opcode % 8 < 4 → has_bad_width f ≡ false
no_width f h =
    let narrow : nat_eq (f.opcode % 8) 4 ≡ false = grind (arith, nat_tests) in
    let broad : nat_eq (f.opcode % 8) 7 ≡ false = grind (arith, nat_tests) in
    rw (narrow, broad) refl

pub no_width_of_jump : (f : Fields) (w : Width) → f.opcode % 8 ≡ jump_class w → has_bad_width f ≡ false
no_width_of_jump f W32 h = rw h refl
no_width_of_jump f W64 h = rw h refl

-- an offset of a quotient or remainder that is not a sign
pub bad_sign : (f : Fields) (op : AluOp) (source : Source) (w : Width) → f.opcode ≡ opcode_byte (Alu op source w)
    → is_division (code_of op) ≡ true → is_sign f.offset ≡ false → has_bad_width f ≡ true
bad_sign f op source w e d s = has_bad_width-alu f (code_of op) (source_number source) w (source_number-bounded source) e ∙ rw (d, s) refl

-- an offset of a move that is not a width
pub bad_move : (f : Fields) (source : Source) (w : Width) → f.opcode ≡ opcode_byte (Mov source w)
    → IsZeroUnlessUsed (nat_eq (source_number source) source_x) f.offset → f.offset ≢ pos 0 → is_move w f.offset ≡ false → has_bad_width f ≡ true
bad_move f Immediate w e z n m = absurd (n z)
bad_move f Register w e z n m = has_bad_width-alu f mov_code source_x w (omega arith) e ∙ rw m refl

-- an operation of two operands has the offset of its sign, so its width is valid
pub good_sign : (f : Fields) (op : AluOp) (source : ℕ) (w : Width) → source < 2 → f.opcode ≡ opcode (code_of op) source (alu_class w) → is_sign f.offset ≡ true → has_bad_width f ≡ false
good_sign f op source w h e sign =
    let facts = alu_facts op in
    has_bad_width-alu f (code_of op) source w h e ∙ rw (sign, facts.no_move, facts.no_order) (no_case (is_division (code_of op)))
  where
    no_case : (b : Bool) → ((b && false) || (false || false)) ≡ false
    no_case true = refl
    no_case false = refl

-- a move of the whole or of a valid width
pub good_move : (f : Fields) (source : ℕ) (w : Width) → source < 2 → f.opcode ≡ opcode mov_code source (alu_class w) → is_move w f.offset ≡ true → has_bad_width f ≡ false
good_move f source w h e move =
    has_bad_width-alu f mov_code source w h e ∙ rw move (no_case (nat_eq source source_x))
  where
    no_case : (b : Bool) → (false || ((b && false) || false)) ≡ false
    no_case true = refl
    no_case false = refl

-- a change of byte order of a valid width
pub good_order : (f : Fields) (source : ℕ) (w : Width) → source < 2 → f.opcode ≡ opcode end_code source (alu_class w) → is_swap f.imm ≡ true → has_bad_width f ≡ false
good_order f source w h e swap = has_bad_width-alu f end_code source w h e ∙ rw swap refl

-- a change of sign
pub good_negation : (f : Fields) (w : Width) → f.opcode ≡ opcode neg_code source_k (alu_class w) → has_bad_width f ≡ false
good_negation f w e = has_bad_width-alu f neg_code source_k w (omega arith) e

-- a fault of the fields that an opcode uses is the fields' fault
pub fault_of_use : (f : Fields) (o : Opcode) (used : UsedFields) (fault : Option UnitFault)
    → opcode_byte o ≡ f.opcode → used ≡ used_by o → fault_under (Some used) f ≡ fault → unit_fault f ≡ fault
fault_of_use f o used fault e u h =
    let listed : used_fields f.opcode ≡ Some used = ap used_fields (sym e) ∙ used_fields-byte_of o ∙ ap (λ (x : UsedFields). Some x) (sym u) in
    ap (λ (x : Option UsedFields). fault_under x f) listed ∙ h
