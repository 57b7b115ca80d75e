-- First faults: bytes have one at most, and bytes that spell a program have none.
use Rattle.std.proofs.Common.{◌≡◌, ℕ, ◌+◌, ◌*◌, ◌/◌, ◌%◌, ◌<◌, ◌≤◌, ◌⊎◌, false, true, List, [], ◌∷◌, ◌++◌, length, Option, Some, None, Result, Ok, Err, refl, sym, ap, ◌∙◌, subst, arith, length-append, inl, inr}
use Rattle.std.specs.Prelude.{nat_eq, nat_lt, IfOk, IfErr, IsErrAnd}
use Rattle.std.proofs.lemmas.Bool.Decides.{nat_tests}
use Rattle.std.proofs.lemmas.List.Concat.{flat_map-cons}
use Rattle.bpf_model.specs.declared.instruction.Insn.{Insn}
use Rattle.bpf_model.specs.Words.{IsWord}
use Rattle.bpf_model.specs.Program.{unit_count}
use Rattle.bpf_model.specs.Spelling.{Fields, fields_of, unit_bytes, second_unit, second_bytes, spelling, spelling_of_all, IsInstruction, AreInstructions, Spells}
use Rattle.bpf_model.proofs.ProgramLemmas.{length-unit_count}
use Rattle.bpf_model.proofs.SpellingLaws.{length-spelling_of_all, spelling-first, spelled_once}
use Rattle.bpf_model.specs.declared.limits.TheConstants.{PROGRAM_UNITS}
use Rattle.bpf_model.specs.Refusals.{GivesUnless}
use Rattle.bpf_model.proofs.Options.{test_of}
use Rattle.std.proofs.lemmas.List.{append-nil, nil_from_length}
use Rattle.bpf_decode.specs.declared.fault.DecodeFault.{DecodeFault}
use Rattle.bpf_decode.specs.declared.fault.DecodeFault.TheVariants.{NoMemory}
use Rattle.bpf_decode.specs.declared.fault.UnitFault.{UnitFault}
use Rattle.bpf_decode.specs.UnitFaults.{FitUnit, unit_fault, has_imm_alone, HasSecondFault, UnitHas}
use Rattle.bpf_decode.specs.Faults.{length_fault, decode_fault_at, IsFirstDecodeFault}
use Rattle.bpf_decode.proofs.UnitLemmas.{length-unit_bytes, unit_bytes-first}
use Rattle.bpf_decode.proofs.FieldLemmas.{fit-fields_of, fit-second_unit, fault_of-fields_of}
use Rattle.bpf_decode.proofs.WideLemmas.{is_wide}
use Rattle.bpf_decode.proofs.SpellingLemmas.{spelling-first_unit, spelling_of_all-cons}

-- bytes that are a unit and more are not empty
is_a_unit : (f : Fields) (xs : List ℕ) → [] ≡ unit_bytes f ++ xs → ⊥
is_a_unit f xs e =
    let none : 0 ≡ length (unit_bytes f ++ xs) = ap length e in
    omega (arith, none, length-append (unit_bytes f) xs, length-unit_bytes f)

-- a value that is both present and absent
is_both : {A : Type 0} (o : Option A) (x : A) → o ≡ None → o ≡ Some x → ⊥
is_both o x n s = cc

-- after a wide instruction's first half comes its second, which has no fault
second_is_faultless : (value : ℕ) (xs ys : List ℕ) (fault : UnitFault) → IsWord value → HasSecondFault ys fault → unit_bytes (second_unit value) ++ xs ≡ ys → ⊥
second_is_faultless value xs ys fault word (inl (cut, none)) e = is_a_unit (second_unit value) xs (sym none ∙ sym e)
second_is_faultless value xs ys fault word (inr (unused, more)) e =
    let same : second_unit value ≡ more.fields = (unit_bytes-first (second_unit value) more.fields xs more.rest (fit-second_unit value word) more.fit (e ∙ more.spelled)).0 in
    let alone : has_imm_alone (second_unit value) ≡ true = refl in
    let not_alone : has_imm_alone (second_unit value) ≡ false = ap has_imm_alone same ∙ more.more in
    absurd cc

-- a unit with a fault begins no instruction
begins_none : (i : Insn) (f : Fields) (xs ys : List ℕ) (fault : UnitFault) → IsInstruction i → FitUnit f → UnitHas f ys fault → spelling i ++ xs ≡ unit_bytes f ++ ys → ⊥
begins_none i f xs ys fault is-i fit faulty e =
    let first = unit_bytes-first (fields_of i) f (second_bytes i ++ xs) ys (fit-fields_of i is-i) fit (sym (spelling-first_unit i xs) ∙ e) in
    elim faulty [
      | inl own ↦ is_both (unit_fault f) fault (ap unit_fault (sym first.0) ∙ fault_of-fields_of i is-i) own
      | inr (half, second) ↦
          let wide = is_wide i is-i (ap Fields.opcode first.0 ∙ half.opcode) in
          second_is_faultless wide.0 xs ys fault wide.1 second (ap (λ (x : List ℕ). x ++ xs) (sym wide.2) ∙ first.1)
    ]

-- after a first half comes one fault at most
second_fault_is_one : (xs : List ℕ) (a b : UnitFault) → HasSecondFault xs a → HasSecondFault xs b → a ≡ b
second_fault_is_one xs a b (inl (cut, none)) (inl (too, nothing)) = cut ∙ sym too
second_fault_is_one xs a b (inl (cut, none)) (inr (unused, more)) = absurd (is_a_unit more.fields more.rest (sym none ∙ more.spelled))
second_fault_is_one xs a b (inr (unused, more)) (inl (cut, none)) = absurd (is_a_unit more.fields more.rest (sym none ∙ more.spelled))
second_fault_is_one xs a b (inr (unused, more)) (inr (too, other)) = unused ∙ sym too

-- a unit has one fault at most
fault_is_one : (f : Fields) (xs : List ℕ) (a b : UnitFault) → UnitHas f xs a → UnitHas f xs b → a ≡ b
fault_is_one f xs a b (inl own) (inl too) = let both : Some a ≡ Some b = sym own ∙ too in cc
fault_is_one f xs a b (inl own) (inr (half, second)) = absurd (is_both (unit_fault f) a half.faultless own)
fault_is_one f xs a b (inr (half, second)) (inl own) = absurd (is_both (unit_fault f) b half.faultless own)
fault_is_one f xs a b (inr (half, second)) (inr (too, other)) = second_fault_is_one xs a b second other

-- after the same instructions comes the same fault
unit_faults_agree : (p q : List Insn) (f g : Fields) (xs ys : List ℕ) (a b : UnitFault)
    → AreInstructions p → AreInstructions q → FitUnit f → FitUnit g → UnitHas f xs a → UnitHas g ys b
    → spelling_of_all p ++ (unit_bytes f ++ xs) ≡ spelling_of_all q ++ (unit_bytes g ++ ys) → (p ≡ q) × (a ≡ b)
unit_faults_agree [] [] f g xs ys a b is-p is-q fit-f fit-g has-f has-g e =
    let same = unit_bytes-first f g xs ys fit-f fit-g e in
    (refl, fault_is_one g ys a b (subst (λ (h : Fields). UnitHas h ys a) same.0 (subst (λ (zs : List ℕ). UnitHas f zs a) same.1 has-f)) has-g)
unit_faults_agree [] (j ∷ q) f g xs ys a b is-p is-q fit-f fit-g has-f has-g e =
    absurd (begins_none j f (spelling_of_all q ++ (unit_bytes g ++ ys)) xs a is-q.0 fit-f has-f (sym (spelling_of_all-cons j q _) ∙ sym e))
unit_faults_agree (i ∷ p) [] f g xs ys a b is-p is-q fit-f fit-g has-f has-g e =
    absurd (begins_none i g (spelling_of_all p ++ (unit_bytes f ++ xs)) ys b is-p.0 fit-g has-g (sym (spelling_of_all-cons i p _) ∙ e))
unit_faults_agree (i ∷ p) (j ∷ q) f g xs ys a b is-p is-q fit-f fit-g has-f has-g e =
    let both = sym (spelling_of_all-cons i p (unit_bytes f ++ xs)) ∙ e ∙ spelling_of_all-cons j q (unit_bytes g ++ ys) in
    let first = spelling-first i j _ _ is-p.0 is-q.0 both in
    let rest = unit_faults_agree p q f g xs ys a b is-p.1 is-q.1 fit-f fit-g has-f has-g first.1 in
    let head = first.0 in
    let tail = rest.0 in
    (cc, rest.1)

-- no unit of instructions has a fault
spelled_is_faultless : (p q : List Insn) (f : Fields) (xs : List ℕ) (fault : UnitFault)
    → AreInstructions p → AreInstructions q → FitUnit f → UnitHas f xs fault → spelling_of_all p ≡ spelling_of_all q ++ (unit_bytes f ++ xs) → ⊥
spelled_is_faultless [] q f xs fault is-p is-q fit faulty e =
    let none : 0 ≡ length (spelling_of_all q ++ (unit_bytes f ++ xs)) = ap length e in
    omega (arith, none, length-append (spelling_of_all q) (unit_bytes f ++ xs), length-append (unit_bytes f) xs, length-unit_bytes f)
spelled_is_faultless (i ∷ p) [] f xs fault is-p is-q fit faulty e =
    begins_none i f (spelling_of_all p) xs fault is-p.0 fit faulty (sym (flat_map-cons spelling i p) ∙ e)
spelled_is_faultless (i ∷ p) (j ∷ q) f xs fault is-p is-q fit faulty e =
    let both = sym (flat_map-cons spelling i p) ∙ e ∙ spelling_of_all-cons j q (unit_bytes f ++ xs) in
    let first = spelling-first i j _ _ is-p.0 is-q.0 both in
    spelled_is_faultless p q f xs fault is-p.1 is-q.1 fit faulty first.1

-- how many bytes there are, if their number has no fault
length_fault-none : (bytes : List ℕ) → length_fault bytes ≡ None → (0 < length bytes) × (length bytes % 8 ≡ 0) × (length bytes / 8 ≤ PROGRAM_UNITS)
length_fault-none bytes h =
    elim (test_of (nat_eq (length bytes) 0)) [
      | inl t ↦ absurd (is_some (rw t at h))
      | inr f ↦ elim (test_of (nat_eq (length bytes % 8) 0)) [
        | inr t ↦ absurd (is_some (rw (f, t) at h))
        | inl g ↦ elim (test_of (nat_lt PROGRAM_UNITS (length bytes / 8))) [
          | inl t ↦ absurd (is_some (rw (f, g, t) at h))
          | inr k ↦ (grind (arith, nat_tests), grind (arith, nat_tests), grind (arith, nat_tests))
        ]
      ]
    ]
  where
    is_some : {x : DecodeFault} → Some x ≡ None → ⊥
    is_some e = cc

-- a program's spelling has the length of a program
pub length_fault-spelled : (bytes : List ℕ) (p : List Insn) → Spells bytes p → length_fault bytes ≡ None
length_fault-spelled bytes p h =
    let count = unit_count p in
    let len : length bytes ≡ 8 * count = ap length h.bytes ∙ length-spelling_of_all p in
    let more : 0 < count = omega (arith, h.program.some, length-unit_count p) in
    let some : nat_eq (length bytes) 0 ≡ false = grind (arith, nat_tests) in
    let whole : nat_eq (length bytes % 8) 0 ≡ true = grind (arith, nat_tests) in
    let bounded : nat_lt PROGRAM_UNITS (length bytes / 8) ≡ false = grind (arith, nat_tests, h.program.bounded) in
    rw (some, whole, bounded) refl

-- bytes that spell a program have no fault
pub spelled_has_no_fault : (bytes : List ℕ) (p : List Insn) (fault : DecodeFault) → Spells bytes p → IsFirstDecodeFault bytes fault → ⊥
spelled_has_no_fault bytes p fault h (inl e) = let none = length_fault-spelled bytes p h in absurd cc
spelled_has_no_fault bytes p fault h (inr (e, u)) =
    spelled_is_faultless p u.front u.fields u.rest u.of_unit h.fits u.instructions u.fit u.faulty (sym h.bytes ∙ u.spelled)

-- bytes have one first fault at most
pub first_fault_is_one : (bytes : List ℕ) (a b : DecodeFault) → IsFirstDecodeFault bytes a → IsFirstDecodeFault bytes b → a ≡ b
first_fault_is_one bytes a b (inl e) (inl d) = cc
first_fault_is_one bytes a b (inl e) (inr (d, v)) = absurd cc
first_fault_is_one bytes a b (inr (e, u)) (inl d) = absurd cc
first_fault_is_one bytes a b (inr (e, u)) (inr (d, v)) =
    let same = unit_faults_agree u.front v.front u.fields v.fields u.rest v.rest u.of_unit v.of_unit u.instructions v.instructions u.fit v.fit u.faulty v.faulty (sym u.spelled ∙ v.spelled) in
    u.named ∙ ap (λ (is : List Insn). decode_fault_at (unit_count is) u.of_unit) same.0 ∙ ap (decode_fault_at (unit_count v.front)) same.1 ∙ sym v.named

-- instructions with a unit are some
some_units : (is : List Insn) → 0 < unit_count is → 0 < length is
unfolding unit_count
some_units [] h = absurd (omega (arith, h))
some_units (i ∷ is) h = omega arith

-- if fewer bytes than a unit are left after instructions, and the length is a program's, nothing is left
pub Spells-all : (bytes rest : List ℕ) (is : List Insn) → length_fault bytes ≡ None → AreInstructions is → bytes ≡ spelling_of_all is ++ rest → length rest < 8 → Spells bytes is
Spells-all bytes rest is h fits e short =
    let len : length bytes ≡ 8 * unit_count is + length rest = ap length e ∙ length-append (spelling_of_all is) rest ∙ omega (arith, length-spelling_of_all is) in
    let units = length_fault-none bytes h in
    let nothing : rest ≡ [] = nil_from_length rest (omega (arith, len, units.1)) in
    record {
      program = record { some = some_units is (omega (arith, len, units.0, ap length nothing)); bounded = omega (arith, len, units.2) };
      fits = fits;
      bytes = e ∙ ap (λ (x : List ℕ). spelling_of_all is ++ x) nothing ∙ append-nil (spelling_of_all is);
    }

-- an answer that is the spelled program, the first fault, or a refusal of memory
pub record IsTrueOf (bytes : List ℕ) (result : Result (List Insn) DecodeFault) : Type 0 where
  pub found : IfOk result (Spells bytes)
  pub first_fault : IfErr result (λ e. (e ≡ NoMemory) ⊎ IsFirstDecodeFault bytes e)

-- an error that was passed on
pub IsTrueOf-passed : (bytes : List ℕ) (e : DecodeFault) (result : Result (List Insn) DecodeFault) → IsErrAnd result (λ x. x ≡ e) → (e ≡ NoMemory) ⊎ IsFirstDecodeFault bytes e → IsTrueOf bytes result
IsTrueOf-passed bytes e (Ok q) passed h = absurd passed
IsTrueOf-passed bytes e (Err x) passed h = record { found = tt; first_fault = rw passed h }

-- if a program is spelled, no other answer is true
pub only_program : (bytes : List ℕ) (p : List Insn) (result : Result (List Insn) DecodeFault) → IsTrueOf bytes result → Spells bytes p → GivesUnless NoMemory result (Ok p)
only_program bytes p (Ok q) h spells = inr (ap (λ (x : List Insn). Ok x) (spelled_once bytes q p h.found spells))
only_program bytes p (Err e) h spells = elim h.first_fault [
  | inl refused ↦ inl (ap (λ (x : DecodeFault). Err x) refused)
  | inr faulty ↦ absurd (spelled_has_no_fault bytes p e spells faulty)
]

-- if there is a first fault, no other answer is true
pub only_fault : (bytes : List ℕ) (fault : DecodeFault) (result : Result (List Insn) DecodeFault) → IsTrueOf bytes result → IsFirstDecodeFault bytes fault → GivesUnless NoMemory result (Err fault)
only_fault bytes fault (Ok q) h first = absurd (spelled_has_no_fault bytes q fault h.found first)
only_fault bytes fault (Err e) h first = elim h.first_fault [
  | inl refused ↦ inl (ap (λ (x : DecodeFault). Err x) refused)
  | inr faulty ↦ inr (ap (λ (x : DecodeFault). Err x) (first_fault_is_one bytes e fault faulty first))
]
