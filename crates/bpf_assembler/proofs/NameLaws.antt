-- Each instruction has one name, and each name one instruction.
use Rattle.std.proofs.Common.{◌≡◌, ℕ, List, [], ◌∷◌, ◌++◌, drop, take, length, Option, Some, None, refl, ap, sym, subst, ◌∙◌, arith, true, false, Bool, cond, inl, inr, ◌⊎◌}
use Rattle.std.specs.Prelude.{option_map, bytes_eq, nat_eq, find, ◌&&◌}
use Rattle.std.specs.Option.{option_or}
use Rattle.std.specs.List.{list_all, AllByRecursion}
use Rattle.std.proofs.lemmas.Bool.Decides.{nat_tests}
use Rattle.std.proofs.lemmas.Slice.Eq.{bytes_eq-Decides}
use Rattle.std.proofs.lemmas.List.{take-append-drop, nil_from_length}
use Rattle.bpf_model.proofs.Options.{chain_some, map_some, guard_some, chosen}
use Rattle.bpf_model.specs.declared.operations.AluOp.{AluOp}
use Rattle.bpf_model.specs.declared.operations.AluOp.TheVariants.{Add}
use Rattle.bpf_model.specs.declared.operations.Width.{Width}
use Rattle.bpf_model.specs.declared.operations.Width.TheVariants.{W32, W64}
use Rattle.bpf_model.specs.declared.operations.SignExtension.{SignExtension}
use Rattle.bpf_model.specs.declared.operations.SignExtension.TheVariants.{From8To32}
use Rattle.bpf_model.specs.declared.operations.ByteOrder.{ByteOrder}
use Rattle.bpf_model.specs.declared.operations.ByteOrder.TheVariants.{Little}
use Rattle.bpf_model.specs.declared.operations.SwapWidth.{SwapWidth}
use Rattle.bpf_model.specs.declared.operations.SwapWidth.TheVariants.{S16, S32, S64}
use Rattle.bpf_model.specs.declared.conditions.JumpOp.{JumpOp}
use Rattle.bpf_model.specs.declared.conditions.JumpOp.TheVariants.{Eq}
use Rattle.bpf_model.specs.declared.accesses.AccessSize.{AccessSize}
use Rattle.bpf_model.specs.declared.accesses.AccessSize.TheVariants.{Byte}
use Rattle.bpf_model.specs.declared.accesses.LoadKind.{LoadKind}
use Rattle.bpf_model.specs.declared.accesses.LoadKind.TheVariants.{Byte as LoadByte}
use Rattle.bpf_assembler.specs.declared.mnemonic.Stem.{Stem}
use Rattle.bpf_assembler.specs.declared.mnemonic.Stem.TheVariants as stem
use Rattle.bpf_assembler.specs.declared.mnemonic.Mnemonic.{Mnemonic}
use Rattle.bpf_assembler.specs.declared.mnemonic.Mnemonic.TheVariants.{Alu, Negate, Mov, SignExtend, Reorder, Wide, Load, Store, StoreImmediate, Jump, JumpLong, Branch, Exit}
use Rattle.bpf_assembler.specs.Names.{alu_word, test_word, stem_word, stem_of, suffix_of, name_of, stems, width_word, widths, extension_word, extensions, swap_word, swap_widths, kind_word, kinds, size_word, sizes}
use Rattle.bpf_assembler.specs.Reading.{rest_after, named_at, suffixed_at, mnemonic_at, is_name_byte}
use Rattle.bpf_assembler.proofs.NameLemmas.{with_stem}

both : (a b : Bool) → a && b ≡ true → (a ≡ true) × (b ≡ true)
both true b e = (refl, e)
both false b e = absurd cc

-- ---- a name is read as its instruction

alu_again : (width : Width) (op : AluOp) → mnemonic_at stems (name_of (Alu op width)) ≡ Some (Alu op width)
unfolding mnemonic_at name_of rest_after
alu_again W32 Add = refl
alu_again W32 op = refl
alu_again W64 Add = refl
alu_again W64 op = refl

branch_again : (width : Width) (test : JumpOp) → mnemonic_at stems (name_of (Branch test width)) ≡ Some (Branch test width)
unfolding mnemonic_at name_of rest_after
branch_again W32 Eq = refl
branch_again W32 test = refl
branch_again W64 Eq = refl
branch_again W64 test = refl

reorder_again : (size : SwapWidth) (order : ByteOrder) → mnemonic_at stems (name_of (Reorder order size)) ≡ Some (Reorder order size)
unfolding mnemonic_at name_of rest_after
reorder_again S16 Little = refl
reorder_again S16 order = refl
reorder_again S32 Little = refl
reorder_again S32 order = refl
reorder_again S64 Little = refl
reorder_again S64 order = refl

extension_again : (extension : SignExtension) → mnemonic_at stems (name_of (SignExtend extension)) ≡ Some (SignExtend extension)
unfolding mnemonic_at name_of rest_after
extension_again From8To32 = refl
extension_again extension = refl

load_again : (kind : LoadKind) → mnemonic_at stems (name_of (Load kind)) ≡ Some (Load kind)
unfolding mnemonic_at name_of rest_after
load_again LoadByte = refl
load_again kind = refl

store_again : (size : AccessSize) → mnemonic_at stems (name_of (Store size)) ≡ Some (Store size)
unfolding mnemonic_at name_of rest_after
store_again Byte = refl
store_again size = refl

store_immediate_again : (size : AccessSize) → mnemonic_at stems (name_of (StoreImmediate size)) ≡ Some (StoreImmediate size)
unfolding mnemonic_at name_of rest_after
store_immediate_again Byte = refl
store_immediate_again size = refl

pub mnemonic_again : (m : Mnemonic) → mnemonic_at stems (name_of m) ≡ Some m
unfolding mnemonic_at name_of rest_after
mnemonic_again (Alu op width) = alu_again width op
mnemonic_again (Negate W32) = refl
mnemonic_again (Negate W64) = refl
mnemonic_again (Mov W32) = refl
mnemonic_again (Mov W64) = refl
mnemonic_again (SignExtend extension) = extension_again extension
mnemonic_again (Reorder order size) = reorder_again size order
mnemonic_again Wide = refl
mnemonic_again (Load kind) = load_again kind
mnemonic_again (Store size) = store_again size
mnemonic_again (StoreImmediate size) = store_immediate_again size
mnemonic_again Jump = refl
mnemonic_again JumpLong = refl
mnemonic_again (Branch test width) = branch_again width test
mnemonic_again Exit = refl

-- ---- what was read has the name

after_found : (front text rest : List ℕ) → rest_after front text ≡ Some rest → text ≡ front ++ rest
unfolding rest_after
after_found front text rest e =
    let (same, behind) = guard_some (bytes_eq (take (length front) text) front) (Some (drop (length front) text)) rest e in
    let first : take (length front) text ≡ front = (bytes_eq-Decides (take (length front) text) front).0 same in
    let others : drop (length front) text ≡ rest = cc in
    sym (take-append-drop (length front) text) ∙ ap (λ x. x ++ drop (length front) text) first ∙ ap (λ x. front ++ x) others

named_found : {A : Type 0} (word : A → List ℕ) (all : List A) (text : List ℕ) (x : A) → named_at word all text ≡ Some x → word x ≡ text
named_found word [] text x e = absurd cc
named_found word (y ∷ all) text x e = elim (chosen (bytes_eq (word y) text) (Some y) (find (λ z. bytes_eq (word z) text) all) (Some x) e) [
  | inl c ↦ let same : y ≡ x = (let here = c.1 in cc) in ap word (sym same) ∙ (bytes_eq-Decides (word y) text).0 c.0
  | inr c ↦ named_found word all text x c.1
]

alone_found : (m n : Mnemonic) (text : List ℕ) → cond (nat_eq (length text) 0) (Some m) None ≡ Some n → (text ≡ []) × (m ≡ n)
alone_found m n text e =
    let (none, same) = guard_some (nat_eq (length text) 0) (Some m) n e in
    (nil_from_length text (grind (arith, nat_tests, none)), cc)

-- the instruction is of this stem and has this suffix
abbrev HasParts : Stem → List ℕ → Mnemonic → Type 0
HasParts s text m = (stem_of m ≡ s) × (suffix_of m ≡ text)

suffixed_by : {A : Type 0} (make : A → Mnemonic) (word : A → List ℕ) (all : List A) (s : Stem) (text : List ℕ) (m : Mnemonic) → ((x : A) → HasParts s (word x) (make x))
    → option_map make (named_at word all text) ≡ Some m → HasParts s text m
suffixed_by make word all s text m parts e =
    let (x, found, is) = map_some make (named_at word all text) m e in
    let named = named_found word all text x found in
    subst (HasParts s text) is ((parts x).0, (parts x).1 ∙ named)

alone_by : (k : Mnemonic) (s : Stem) (text : List ℕ) (m : Mnemonic) → HasParts s [] k → cond (nat_eq (length text) 0) (Some k) None ≡ Some m → HasParts s text m
alone_by k s text m parts e =
    let (none, same) = alone_found k m text e in
    subst (HasParts s text) same (parts.0, parts.1 ∙ sym none)

suffixed_found : (s : Stem) (text : List ℕ) (m : Mnemonic) → suffixed_at s text ≡ Some m → HasParts s text m
suffixed_found (stem.Alu op) text m e = suffixed_by (λ w. Alu op w) width_word widths (stem.Alu op) text m (λ w. (refl, refl)) e
suffixed_found stem.Negate text m e = suffixed_by Negate width_word widths stem.Negate text m (λ w. (refl, refl)) e
suffixed_found stem.Mov text m e = suffixed_by Mov width_word widths stem.Mov text m (λ w. (refl, refl)) e
suffixed_found stem.SignExtend text m e = suffixed_by SignExtend extension_word extensions stem.SignExtend text m (λ w. (refl, refl)) e
suffixed_found (stem.Reorder order) text m e = suffixed_by (λ w. Reorder order w) swap_word swap_widths (stem.Reorder order) text m (λ w. (refl, refl)) e
suffixed_found stem.Wide text m e = alone_by Wide stem.Wide text m (refl, refl) e
suffixed_found stem.Load text m e = suffixed_by Load kind_word kinds stem.Load text m (λ w. (refl, refl)) e
suffixed_found stem.Store text m e = suffixed_by Store size_word sizes stem.Store text m (λ w. (refl, refl)) e
suffixed_found stem.StoreImmediate text m e = suffixed_by StoreImmediate size_word sizes stem.StoreImmediate text m (λ w. (refl, refl)) e
suffixed_found stem.Jump text m e = alone_by Jump stem.Jump text m (refl, refl) e
suffixed_found stem.JumpLong text m e = alone_by JumpLong stem.JumpLong text m (refl, refl) e
suffixed_found (stem.Branch test) text m e = suffixed_by (λ w. Branch test w) width_word widths (stem.Branch test) text m (λ w. (refl, refl)) e
suffixed_found stem.Exit text m e = alone_by Exit stem.Exit text m (refl, refl) e

stem_makes : (s : Stem) (name : List ℕ) (m : Mnemonic) → with_stem s name ≡ Some m → name ≡ name_of m
unfolding name_of
stem_makes s name m e =
    let (suffix, behind, made) = chain_some (suffixed_at s) (rest_after (stem_word s) name) m e in
    let (of_stem, of_suffix) = suffixed_found s suffix m made in
    after_found (stem_word s) name suffix behind ∙ ap (λ x. stem_word x ++ suffix) (sym of_stem) ∙ ap (λ x. stem_word (stem_of m) ++ x) (sym of_suffix)

either_some : {A : Type 0} (o p : Option A) (x : A) → option_or o p ≡ Some x → (o ≡ Some x) ⊎ (p ≡ Some x)
either_some None p x e = inr e
either_some (Some y) p x e = inl e

pub mnemonic_found : (ss : List Stem) (name : List ℕ) (m : Mnemonic) → mnemonic_at ss name ≡ Some m → name ≡ name_of m
unfolding mnemonic_at
mnemonic_found [] name m e = absurd cc
mnemonic_found (s ∷ ss) name m e = elim (either_some (with_stem s name) (mnemonic_at ss name) m e) [
  | inl h ↦ stem_makes s name m h
  | inr h ↦ mnemonic_found ss name m h
]

-- ---- no name has a blank or a newline

width_bytes : (w : Width) → list_all is_name_byte (width_word w) ≡ true
width_bytes W32 = refl
width_bytes w = refl

alu_bytes : (op : AluOp) → list_all is_name_byte (alu_word op) ≡ true
alu_bytes Add = refl
alu_bytes op = refl

test_bytes : (test : JumpOp) → list_all is_name_byte (test_word test) ≡ true
test_bytes Eq = refl
test_bytes test = refl

stem_bytes : (s : Stem) → list_all is_name_byte (stem_word s) ≡ true
stem_bytes (stem.Alu op) = alu_bytes op
stem_bytes (stem.Branch test) = test_bytes test
stem_bytes (stem.Reorder Little) = refl
stem_bytes (stem.Reorder order) = refl
stem_bytes s = refl

suffix_bytes : (m : Mnemonic) → list_all is_name_byte (suffix_of m) ≡ true
suffix_bytes (Alu op w) = width_bytes w
suffix_bytes (Negate w) = width_bytes w
suffix_bytes (Mov w) = width_bytes w
suffix_bytes (SignExtend From8To32) = refl
suffix_bytes (SignExtend extension) = refl
suffix_bytes (Reorder order S16) = refl
suffix_bytes (Reorder order size) = refl
suffix_bytes (Load LoadByte) = refl
suffix_bytes (Load kind) = refl
suffix_bytes (Store Byte) = refl
suffix_bytes (Store size) = refl
suffix_bytes (StoreImmediate Byte) = refl
suffix_bytes (StoreImmediate size) = refl
suffix_bytes (Branch test w) = width_bytes w
suffix_bytes m = refl

AreNameBytes-append : (xs ys : List ℕ) → list_all is_name_byte xs ≡ true → list_all is_name_byte ys ≡ true → AllByRecursion (λ c. is_name_byte c ≡ true) (xs ++ ys)
AreNameBytes-append [] [] hx hy = tt
AreNameBytes-append [] (y ∷ ys) hx hy = let (here, rest) = both (is_name_byte y) (list_all is_name_byte ys) hy in (here, AreNameBytes-append [] ys refl rest)
AreNameBytes-append (x ∷ xs) ys hx hy = let (here, rest) = both (is_name_byte x) (list_all is_name_byte xs) hx in (here, AreNameBytes-append xs ys rest hy)

pub name_bytes : (m : Mnemonic) → AllByRecursion (λ c. is_name_byte c ≡ true) (name_of m)
unfolding name_of
name_bytes m = AreNameBytes-append (stem_word (stem_of m)) (suffix_of m) (stem_bytes (stem_of m)) (suffix_bytes m)
