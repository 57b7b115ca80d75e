-- The names of instructions: a word for the operation, and one for the width, the size or the kind.
use Rattle.std.specs.Prelude.{ℕ, List, [], ◌∷◌, ◌++◌, codes, map}
use Rattle.bpf_model.specs.declared.operations.AluOp.{AluOp}
use Rattle.bpf_model.specs.declared.operations.AluOp.TheVariants.{Add, Sub, Mul, Div, SDiv, Or, And, Lsh, Rsh, Mod, SMod, Xor, Arsh}
use Rattle.bpf_model.specs.declared.operations.Width.{Width}
use Rattle.bpf_model.specs.declared.operations.Width.TheVariants.{W32, W64}
use Rattle.bpf_model.specs.declared.operations.SignExtension.{SignExtension}
use Rattle.bpf_model.specs.declared.operations.SignExtension.TheVariants.{From8To32, From16To32, From8To64, From16To64, From32To64}
use Rattle.bpf_model.specs.declared.operations.ByteOrder.{ByteOrder}
use Rattle.bpf_model.specs.declared.operations.ByteOrder.TheVariants.{Little, Big, Swap}
use Rattle.bpf_model.specs.declared.operations.SwapWidth.{SwapWidth}
use Rattle.bpf_model.specs.declared.operations.SwapWidth.TheVariants.{S16, S32, S64}
use Rattle.bpf_model.specs.declared.conditions.JumpOp.{JumpOp}
use Rattle.bpf_model.specs.declared.conditions.JumpOp.TheVariants.{Eq, Gt, Ge, Set, Ne, SGt, SGe, Lt, Le, SLt, SLe}
use Rattle.bpf_model.specs.declared.accesses.AccessSize.{AccessSize}
use Rattle.bpf_model.specs.declared.accesses.AccessSize.TheVariants.{Byte, HalfWord, Word, DoubleWord}
use Rattle.bpf_model.specs.declared.accesses.LoadKind.{LoadKind}
use Rattle.bpf_model.specs.declared.accesses.LoadKind.TheVariants.{Byte as LoadByte, HalfWord as LoadHalfWord, Word as LoadWord, DoubleWord as LoadDoubleWord, SignedByte, SignedHalfWord, SignedWord}
use Rattle.bpf_model.specs.Spelling.{alu_ops}
use Rattle.bpf_assembler.specs.declared.mnemonic.Stem.{Stem}
use Rattle.bpf_assembler.specs.declared.mnemonic.Stem.TheVariants as stem
use Rattle.bpf_assembler.specs.declared.mnemonic.Mnemonic.{Mnemonic}
use Rattle.bpf_assembler.specs.declared.mnemonic.Mnemonic.TheVariants.{Alu, Negate, Mov, SignExtend, Reorder, Wide, Load, Store, StoreImmediate, Jump, JumpLong, Branch, Exit}

abbrev pub alu_word : AluOp → List ℕ
alu_word Add = codes "add"
alu_word Sub = codes "sub"
alu_word Mul = codes "mul"
alu_word Div = codes "div"
alu_word SDiv = codes "sdiv"
alu_word Or = codes "or"
alu_word And = codes "and"
alu_word Lsh = codes "lsh"
alu_word Rsh = codes "rsh"
alu_word Mod = codes "mod"
alu_word SMod = codes "smod"
alu_word Xor = codes "xor"
alu_word Arsh = codes "arsh"

abbrev pub width_word : Width → List ℕ
width_word W32 = codes "32"
width_word W64 = codes "64"

abbrev pub order_word : ByteOrder → List ℕ
order_word Little = codes "le"
order_word Big = codes "be"
order_word Swap = codes "swap"

abbrev pub swap_word : SwapWidth → List ℕ
swap_word S16 = codes "16"
swap_word S32 = codes "32"
swap_word S64 = codes "64"

abbrev pub extension_word : SignExtension → List ℕ
extension_word From8To32 = codes "8to32"
extension_word From16To32 = codes "16to32"
extension_word From8To64 = codes "8to64"
extension_word From16To64 = codes "16to64"
extension_word From32To64 = codes "32to64"

abbrev pub size_word : AccessSize → List ℕ
size_word Byte = codes "b"
size_word HalfWord = codes "h"
size_word Word = codes "w"
size_word DoubleWord = codes "d"

-- with a sign if the bytes read have one
abbrev pub kind_word : LoadKind → List ℕ
kind_word LoadByte = codes "b"
kind_word LoadHalfWord = codes "h"
kind_word LoadWord = codes "w"
kind_word LoadDoubleWord = codes "d"
kind_word SignedByte = codes "sb"
kind_word SignedHalfWord = codes "sh"
kind_word SignedWord = codes "sw"

abbrev pub test_word : JumpOp → List ℕ
test_word Eq = codes "jeq"
test_word Gt = codes "jgt"
test_word Ge = codes "jge"
test_word Set = codes "jset"
test_word Ne = codes "jne"
test_word SGt = codes "jsgt"
test_word SGe = codes "jsge"
test_word Lt = codes "jlt"
test_word Le = codes "jle"
test_word SLt = codes "jslt"
test_word SLe = codes "jsle"

-- the word for the operation
abbrev pub stem_word : Stem → List ℕ
stem_word (stem.Alu op) = alu_word op
stem_word stem.Negate = codes "neg"
stem_word stem.Mov = codes "mov"
stem_word stem.SignExtend = codes "sx"
stem_word (stem.Reorder order) = order_word order
stem_word stem.Wide = codes "wide"
stem_word stem.Load = codes "ld"
stem_word stem.Store = codes "stx"
stem_word stem.StoreImmediate = codes "st"
stem_word stem.Jump = codes "ja"
stem_word stem.JumpLong = codes "jal"
stem_word (stem.Branch test) = test_word test
stem_word stem.Exit = codes "exit"

-- the operation
abbrev pub stem_of : Mnemonic → Stem
stem_of (Alu op width) = stem.Alu op
stem_of (Negate width) = stem.Negate
stem_of (Mov width) = stem.Mov
stem_of (SignExtend extension) = stem.SignExtend
stem_of (Reorder order size) = stem.Reorder order
stem_of Wide = stem.Wide
stem_of (Load kind) = stem.Load
stem_of (Store size) = stem.Store
stem_of (StoreImmediate size) = stem.StoreImmediate
stem_of Jump = stem.Jump
stem_of JumpLong = stem.JumpLong
stem_of (Branch test width) = stem.Branch test
stem_of Exit = stem.Exit

-- the word for the width, the size or the kind, if it has one
abbrev pub suffix_of : Mnemonic → List ℕ
suffix_of (Alu op width) = width_word width
suffix_of (Negate width) = width_word width
suffix_of (Mov width) = width_word width
suffix_of (Branch test width) = width_word width
suffix_of (SignExtend extension) = extension_word extension
suffix_of (Reorder order size) = swap_word size
suffix_of (Load kind) = kind_word kind
suffix_of (Store size) = size_word size
suffix_of (StoreImmediate size) = size_word size
suffix_of m = []

unfoldable pub name_of : Mnemonic → List ℕ
name_of m = stem_word (stem_of m) ++ suffix_of m

-- all of each kind
abbrev pub widths : List Width
widths = W32 ∷ W64 ∷ []

abbrev pub swap_widths : List SwapWidth
swap_widths = S16 ∷ S32 ∷ S64 ∷ []

abbrev pub extensions : List SignExtension
extensions = From8To32 ∷ From16To32 ∷ From8To64 ∷ From16To64 ∷ From32To64 ∷ []

abbrev pub sizes : List AccessSize
sizes = Byte ∷ HalfWord ∷ Word ∷ DoubleWord ∷ []

abbrev pub kinds : List LoadKind
kinds = LoadByte ∷ LoadHalfWord ∷ LoadWord ∷ LoadDoubleWord ∷ SignedByte ∷ SignedHalfWord ∷ SignedWord ∷ []

abbrev pub alu_stems : List Stem
alu_stems = map stem.Alu alu_ops

abbrev pub branch_stems : List Stem
branch_stems = map stem.Branch (Eq ∷ Gt ∷ Ge ∷ Set ∷ Ne ∷ SGt ∷ SGe ∷ Lt ∷ Le ∷ SLt ∷ SLe ∷ [])

abbrev pub reorder_stems : List Stem
reorder_stems = map stem.Reorder (Little ∷ Big ∷ Swap ∷ [])

abbrev pub other_stems : List Stem
other_stems = stem.Negate ∷ stem.Mov ∷ stem.SignExtend ∷ stem.Wide ∷ stem.Load ∷ stem.Store ∷ stem.StoreImmediate ∷ stem.Jump ∷ stem.JumpLong ∷ stem.Exit ∷ []

abbrev pub stems : List Stem
stems = alu_stems ++ branch_stems ++ reorder_stems ++ other_stems
