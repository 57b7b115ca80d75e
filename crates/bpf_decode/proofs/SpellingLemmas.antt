-- Instructions and their spellings.
use Rattle.std.proofs.Common.{◌≡◌, ℕ, ◌+◌, ◌-◌, ◌*◌, ◌/◌, ◌%◌, ◌<◌, ◌≤◌, take, drop, suc, Some, List, [], ◌∷◌, ◌++◌, length, sym, ap, ◌∙◌, append_assoc, arith, length-append}
use Rattle.std.specs.Prelude.{slice_get}
use Rattle.std.proofs.lemmas.List.{append-nil, take-append-drop}
use Rattle.std.proofs.lemmas.List.Concat.{flat_map-cons}
use Rattle.std.proofs.lemmas.Grind.{flat_map-append}
use Rattle.bpf_model.specs.declared.instruction.Insn.{Insn}
use Rattle.bpf_model.specs.Program.{units_of, unit_count}
use Rattle.bpf_model.specs.Spelling.{unit_bytes, fields_of, second_bytes, spelling, spelling_of_all}
use Rattle.bpf_model.proofs.ProgramLemmas.{units_of-some, length-unit_count, unit_count-next, unit_count-take}
use Rattle.bpf_model.proofs.SpellingLaws.{length-spelling, length-spelling_of_all}

-- one more instruction is spelled after the others
pub spelling_of_all-push : (is : List Insn) (i : Insn) → spelling_of_all (is ++ i ∷ []) ≡ spelling_of_all is ++ spelling i
spelling_of_all-push is i = flat_map-append spelling is (i ∷ []) ∙ ap (λ (x : List ℕ). spelling_of_all is ++ x) (flat_map-cons spelling i [] ∙ append-nil (spelling i))

-- an instruction's first unit comes first
pub spelling-first_unit : (i : Insn) (xs : List ℕ) → spelling i ++ xs ≡ unit_bytes (fields_of i) ++ (second_bytes i ++ xs)
spelling-first_unit i xs = append_assoc (unit_bytes (fields_of i)) (second_bytes i) xs

-- the first instruction's spelling comes first
pub spelling_of_all-cons : (i : Insn) (is : List Insn) (xs : List ℕ) → spelling_of_all (i ∷ is) ++ xs ≡ spelling i ++ (spelling_of_all is ++ xs)
spelling_of_all-cons i is xs = ap (λ (x : List ℕ). x ++ xs) (flat_map-cons spelling i is) ∙ append_assoc (spelling i) (spelling_of_all is) xs

-- how many units come before the rest
pub units_before : (bytes rest : List ℕ) (is : List Insn) → bytes ≡ spelling_of_all is ++ rest → (length bytes - length rest) / 8 ≡ unit_count is
units_before bytes rest is e =
    let len : length bytes ≡ length (spelling_of_all is) + length rest = ap length e ∙ length-append (spelling_of_all is) rest in
    omega (arith, len, length-spelling_of_all is)

-- if one more unit follows, there are fewer instructions than units in all
pub fewer_than_units : (bytes rest : List ℕ) (is : List Insn) → bytes ≡ spelling_of_all is ++ rest → 8 ≤ length rest → length is < length bytes / 8
fewer_than_units bytes rest is e more =
    let len : length bytes ≡ length (spelling_of_all is) + length rest = ap length e ∙ length-append (spelling_of_all is) rest in
    omega (arith, len, length-spelling_of_all is, length-unit_count is)

-- bytes that are cut after a unit begin with the unit
pub cut_unit : (bytes unit after text : List ℕ) → unit ≡ take 8 bytes → after ≡ drop 8 bytes → unit ≡ text → bytes ≡ text ++ after
cut_unit bytes unit after text u a t =
    sym (take-append-drop 8 bytes) ∙ ap (λ (x : List ℕ). x ++ drop 8 bytes) (sym u ∙ t) ∙ ap (λ (x : List ℕ). text ++ x) (sym a)

-- a unit that is cut off a rest
pub spelled_unit : (bytes front rest unit text after : List ℕ) → bytes ≡ front ++ rest → unit ≡ take 8 rest → after ≡ drop 8 rest → unit ≡ text → bytes ≡ front ++ (text ++ after)
spelled_unit bytes front rest unit text after e u a t = e ∙ ap (λ (x : List ℕ). front ++ x) (cut_unit rest unit after text u a t)

-- an instruction that is spelled at the front of a rest
pub spelled_more : (bytes rest next : List ℕ) (is : List Insn) (i : Insn) → bytes ≡ spelling_of_all is ++ rest → rest ≡ spelling i ++ next → bytes ≡ spelling_of_all (is ++ i ∷ []) ++ next
spelled_more bytes rest next is i e r =
    e ∙ ap (λ (x : List ℕ). spelling_of_all is ++ x) r ∙ sym (append_assoc (spelling_of_all is) (spelling i) next)
    ∙ ap (λ (x : List ℕ). x ++ next) (sym (spelling_of_all-push is i))

-- the rest after an instruction is shorter, and has whole units if all the bytes did
pub rest_is_shorter : (rest next : List ℕ) (i : Insn) → rest ≡ spelling i ++ next → (length next < length rest) × (length rest % 8 ≡ 0 → length next % 8 ≡ 0)
rest_is_shorter rest next i e =
    let len : length rest ≡ 8 * units_of i + length next = ap length e ∙ length-append (spelling i) next ∙ ap (λ (n : ℕ). n + length next) (length-spelling i) in
    (omega (arith, len, units_of-some i), λ h. omega (arith, len, h))

-- there is room for the next instruction if there is room for all
pub room_for_next : (is : List Insn) (k : ℕ) (i : Insn) (bytes : List ℕ) (room : ℕ) → slice_get is k ≡ Some i → bytes ≡ spelling_of_all (take k is) → 8 * unit_count is ≤ room → length bytes + 8 * units_of i ≤ room
room_for_next is k i bytes room e b h =
    let written : length bytes ≡ 8 * unit_count (take k is) = ap length b ∙ length-spelling_of_all (take k is) in
    omega (arith, written, unit_count-next is k i e, unit_count-take is (suc k), h)
