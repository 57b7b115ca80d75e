-- Texts have one program at most, and the text of a program has no faulty line.
use Rattle.std.proofs.Common.{◌≡◌, ℕ, ◌+◌, ◌<◌, ◌≤◌, ◌⊎◌, List, [], ◌∷◌, ◌++◌, length, Result, Ok, Err, Bool, false, refl, ap, sym, ◌∙◌, arith, length-append, append_assoc, inl, inr}
use Rattle.std.specs.Prelude.{IfOk, IfErr, IsErrAnd, nat_eq}
use Rattle.std.proofs.lemmas.Bool.Decides.{nat_tests}
use Rattle.std.proofs.lemmas.List.{append-nil}
use Rattle.std.proofs.lemmas.List.Concat.{flat_map-cons}
use Rattle.std.proofs.lemmas.Grind.{flat_map-append}
use Rattle.bpf_model.specs.declared.limits.TheConstants.{PROGRAM_UNITS}
use Rattle.bpf_model.specs.declared.instruction.Insn.{Insn}
use Rattle.bpf_model.specs.Program.{units_of, unit_count, IsProgram}
use Rattle.bpf_model.specs.Spelling.{IsInstruction, AreInstructions}
use Rattle.bpf_model.specs.Refusals.{GivesUnless}
use Rattle.bpf_assembler.specs.declared.fault.AsmFault.{AsmFault}
use Rattle.bpf_assembler.specs.declared.fault.AsmFault.TheVariants.{NoMemory, BadCount}
use Rattle.bpf_assembler.specs.declared.fault.LineFault.{LineFault}
use Rattle.bpf_assembler.specs.declared.fault.LineFault.TheVariants.{UnknownName, BadOperand, OutOfRange, Trailing}
use Rattle.bpf_assembler.specs.Reading.{line_at}
use Rattle.bpf_assembler.specs.Text.{line_of, text_of, IsTextOf, BeginsWithLine}
use Rattle.bpf_assembler.specs.Faults.{line_number, at_line, fault_in, IsFaultyLine, IsFirstAsmFault}
use Rattle.bpf_assembler.proofs.OperandLaws.{line-first, line_again, line_some}

-- ---- texts of lists

pub text_of-cons : (i : Insn) (is : List Insn) (rest : List ℕ) → text_of (i ∷ is) ++ rest ≡ line_of i ++ (text_of is ++ rest)
unfolding text_of
text_of-cons i is rest = ap (λ x. x ++ rest) (flat_map-cons line_of i is) ∙ append_assoc (line_of i) (text_of is) rest

pub text_of-push : (is : List Insn) (i : Insn) → text_of (is ++ i ∷ []) ≡ text_of is ++ line_of i
unfolding text_of
text_of-push is i = flat_map-append line_of is (i ∷ []) ∙ ap (λ x. text_of is ++ x) (flat_map-cons line_of i [] ∙ append-nil (line_of i))

text_some : (i : Insn) (is : List Insn) (rest : List ℕ) → 0 < length (text_of (i ∷ is) ++ rest)
text_some i is rest =
    let parts = ap length (text_of-cons i is rest) in
    omega (arith, parts, length-append (line_of i) (text_of is ++ rest), line_some i)

-- ---- one program at most

pub text_of-injective : (p q : List Insn) (a b : List ℕ) → AreInstructions p → AreInstructions q → a ≡ [] → b ≡ [] → text_of p ++ a ≡ text_of q ++ b → p ≡ q
unfolding text_of
text_of-injective [] [] a b hp hq ea eb e = refl
text_of-injective [] (j ∷ q) a b hp hq ea eb e = absurd (let none : length a ≡ length (text_of (j ∷ q) ++ b) = ap length e in let no_more : length a ≡ 0 = ap length ea in omega (arith, none, no_more, text_some j q b))
text_of-injective (i ∷ p) [] a b hp hq ea eb e = absurd (let none : length (text_of (i ∷ p) ++ a) ≡ length b = ap length e in let no_more : length b ≡ 0 = ap length eb in omega (arith, none, no_more, text_some i p a))
text_of-injective (i ∷ p) (j ∷ q) a b hp hq ea eb e =
    let (head, behind) = line-first i j (text_of p ++ a) (text_of q ++ b) hp.0 hq.0 (sym (text_of-cons i p a) ∙ e ∙ text_of-cons j q b) in
    let tail = text_of-injective p q a b hp.1 hq.1 ea eb behind in
    cc (head, tail)

-- ---- no faulty line

faultless : (k : ℕ) (p q : List Insn) (rest : List ℕ) → AreInstructions p → AreInstructions q → text_of p ++ [] ≡ text_of q ++ rest → 0 < length rest
    → ((i : Insn) (more : List ℕ) → IsInstruction i → rest ≡ line_of i ++ more → PROGRAM_UNITS < k + unit_count q + units_of i) → k + unit_count p ≤ PROGRAM_UNITS → ⊥
unfolding text_of unit_count
faultless k [] q rest hp hq e some faulty bounded =
    let none : 0 ≡ length (text_of q ++ rest) = ap length e in
    omega (arith, none, some, length-append (text_of q) rest)
faultless k (i ∷ p) [] rest hp hq e some faulty bounded =
    let past = faulty i (text_of p ++ []) hp.0 (sym e ∙ text_of-cons i p []) in
    omega (arith, past, bounded)
faultless k (i ∷ p) (j ∷ q) rest hp hq e some faulty bounded =
    let (head, behind) = line-first i j (text_of p ++ []) (text_of q ++ rest) hp.0 hq.0 (sym (text_of-cons i p []) ∙ e ∙ text_of-cons j q rest) in
    let same : units_of i ≡ units_of j = ap units_of head in
    faultless (k + units_of i) p q rest hp.1 hq.1 behind some (λ x more h g. omega (arith, same, faulty x more h g)) (omega (arith, bounded))

pub no_faulty_line : (text : List ℕ) (p : List Insn) (fault : AsmFault) → IsTextOf text p → IsFirstAsmFault text fault → ⊥
unfolding text_of
no_faulty_line text [] e h fault = omega (arith, h.program.some)
no_faulty_line text (i ∷ p) e h (inl empty) =
    let none : length (text_of (i ∷ p) ++ []) ≡ 0 = ap length (append-nil (text_of (i ∷ p)) ∙ sym h.lines ∙ empty.0) in
    omega (arith, none, text_some i p [])
no_faulty_line text (i ∷ p) e h (inr fault) =
    faultless 0 (i ∷ p) fault.front fault.rest h.fits fault.fits (append-nil (text_of (i ∷ p)) ∙ sym h.lines ∙ fault.lines) fault.some
    (λ x more g e. omega (arith, fault.faulty x more g e)) (omega (arith, h.program.bounded))

-- ---- one first fault

-- the lines before a faulty line are the same
fronts_agree : (k : ℕ) (p q : List Insn) (r s : List ℕ) → AreInstructions p → AreInstructions q → text_of p ++ r ≡ text_of q ++ s
    → ((i : Insn) (more : List ℕ) → IsInstruction i → r ≡ line_of i ++ more → PROGRAM_UNITS < k + unit_count p + units_of i)
    → ((i : Insn) (more : List ℕ) → IsInstruction i → s ≡ line_of i ++ more → PROGRAM_UNITS < k + unit_count q + units_of i)
    → k + unit_count p ≤ PROGRAM_UNITS → k + unit_count q ≤ PROGRAM_UNITS → (p ≡ q) × (r ≡ s)
unfolding text_of unit_count
fronts_agree k [] [] r s hp hq e past_r past_s bounded_p bounded_q = (refl, e)
fronts_agree k [] (j ∷ q) r s hp hq e past_r past_s bounded_p bounded_q =
    let past = past_r j (text_of q ++ s) hq.0 (e ∙ text_of-cons j q s) in
    absurd (omega (arith, past, bounded_q))
fronts_agree k (i ∷ p) [] r s hp hq e past_r past_s bounded_p bounded_q =
    let past = past_s i (text_of p ++ r) hp.0 (sym e ∙ text_of-cons i p r) in
    absurd (omega (arith, past, bounded_p))
fronts_agree k (i ∷ p) (j ∷ q) r s hp hq e past_r past_s bounded_p bounded_q =
    let (head, behind) = line-first i j (text_of p ++ r) (text_of q ++ s) hp.0 hq.0 (sym (text_of-cons i p r) ∙ e ∙ text_of-cons j q s) in
    let same : units_of i ≡ units_of j = ap units_of head in
    let (tail, rest) = fronts_agree (k + units_of i) p q r s hp.1 hq.1 behind (λ x more h g. omega (arith, past_r x more h g)) (λ x more h g. omega (arith, same, past_s x more h g)) (omega (arith, bounded_p)) (omega (arith, same, bounded_q)) in
    (cc (head, tail), rest)

first_fault_is_one : (text : List ℕ) (a b : AsmFault) → IsFirstAsmFault text a → IsFirstAsmFault text b → a ≡ b
first_fault_is_one text a b (inl x) (inl y) = x.1 ∙ sym y.1
first_fault_is_one text a b (inl x) (inr y) =
    let none : length (text_of y.front ++ y.rest) ≡ 0 = ap length (sym y.lines ∙ x.0) in
    absurd (omega (arith, none, y.some, length-append (text_of y.front) y.rest))
first_fault_is_one text a b (inr x) (inl y) =
    let none : length (text_of x.front ++ x.rest) ≡ 0 = ap length (sym x.lines ∙ y.0) in
    absurd (omega (arith, none, x.some, length-append (text_of x.front) x.rest))
first_fault_is_one text a b (inr x) (inr y) =
    let (front, rest) = fronts_agree 0 x.front y.front x.rest y.rest x.fits y.fits (sym x.lines ∙ y.lines)
    (λ i more h e. omega (arith, x.faulty i more h e)) (λ i more h e. omega (arith, y.faulty i more h e)) (omega (arith, x.bounded)) (omega (arith, y.bounded)) in
    x.first ∙ ap (λ r. fault_in (line_at r) (length x.front + 1)) rest ∙ ap (λ (is : List Insn). fault_in (line_at y.rest) (length is + 1)) front ∙ sym y.first

-- ---- answers

-- an answer that is the text's program, or its first faulty line, or a refusal of memory
pub record IsTrueOf (text : List ℕ) (result : Result (List Insn) AsmFault) : Type 0 where
  pub found : IfOk result (IsTextOf text)
  pub first_fault : IfErr result (λ e. (e ≡ NoMemory) ⊎ IsFirstAsmFault text e)

-- an error that was passed on
pub IsTrueOf-passed : (text : List ℕ) (e : AsmFault) (result : Result (List Insn) AsmFault) → IsErrAnd result (λ x. x ≡ e) → (e ≡ NoMemory) ⊎ IsFirstAsmFault text e → IsTrueOf text result
IsTrueOf-passed text e (Ok q) passed h = absurd passed
IsTrueOf-passed text e (Err x) passed h = record { found = tt; first_fault = rw passed h }

-- if a program has this text, no other answer is true
pub only_program : (text : List ℕ) (p : List Insn) (result : Result (List Insn) AsmFault) → IsTrueOf text result → IsTextOf text p → GivesUnless NoMemory result (Ok p)
only_program text p (Ok q) h is_text =
    let same : text_of q ++ [] ≡ text_of p ++ [] = ap (λ x. x ++ []) (sym h.found.lines ∙ is_text.lines) in
    inr (ap (λ x. Ok x) (text_of-injective q p [] [] h.found.fits is_text.fits refl refl same))
only_program text p (Err e) h is_text = elim h.first_fault [
  | inl refused ↦ inl (ap (λ x. Err x) refused)
  | inr faulty ↦ absurd (no_faulty_line text p e is_text faulty)
]

-- if there is a first fault, no other answer is true
pub only_fault : (text : List ℕ) (fault : AsmFault) (result : Result (List Insn) AsmFault) → IsTrueOf text result → IsFirstAsmFault text fault → GivesUnless NoMemory result (Err fault)
only_fault text fault (Ok q) h first = absurd (no_faulty_line text q fault h.found first)
only_fault text fault (Err e) h first = elim h.first_fault [
  | inl refused ↦ inl (ap (λ x. Err x) refused)
  | inr faulty ↦ inr (ap (λ x. Err x) (first_fault_is_one text e fault faulty first))
]

-- ---- the line that is refused

-- if a line can't be read, the text begins with no line
pub no_line : (rest : List ℕ) (fault : LineFault) (i : Insn) (more : List ℕ) → line_at rest ≡ Err fault → IsInstruction i → rest ≡ line_of i ++ more → ⊥
no_line rest fault i more unread h e =
    let read : line_at rest ≡ Ok (i, more) = ap line_at e ∙ line_again i more h in
    absurd (let both = sym unread ∙ read in cc)

line_number-at_line : (n : ℕ) (fault : LineFault) → line_number (at_line n fault) ≡ n
line_number-at_line n UnknownName = refl
line_number-at_line n fault = refl

not_empty : (rest : List ℕ) (done : Bool) → done ≡ nat_eq (length rest) 0 → done ≡ false → 0 < length rest
not_empty rest done is more = let test : nat_eq (length rest) 0 ≡ false = sym is ∙ more in grind (arith, nat_tests)

pub unread_line : (text rest : List ℕ) (is : List Insn) (units : ℕ) (done : Bool) (fault : LineFault) (e : AsmFault) → AreInstructions is → units ≡ unit_count is → units ≤ PROGRAM_UNITS → text ≡ text_of is ++ rest
    → done ≡ nat_eq (length rest) 0 → done ≡ false → line_at rest ≡ Err fault → e ≡ at_line (length is + 1) fault → IsFaultyLine text e
unread_line text rest is units done fault e fits counted bounded lines is_done more unread named = record {
  front = is;
  rest = rest;
  fits = fits;
  bounded = omega (arith, counted, bounded);
  lines = lines;
  some = not_empty rest done is_done more;
  faulty = λ i behind h begins. absurd (no_line rest fault i behind unread h begins);
  line = ap line_number named ∙ line_number-at_line (length is + 1) fault;
  first = named ∙ ap (λ r. fault_in r (length is + 1)) (sym unread);
}

pub line_past_units : (text rest new : List ℕ) (is : List Insn) (units : ℕ) (done : Bool) (i : Insn) → AreInstructions is → units ≡ unit_count is → units ≤ PROGRAM_UNITS → text ≡ text_of is ++ rest
    → done ≡ nat_eq (length rest) 0 → done ≡ false → rest ≡ line_of i ++ new → IsInstruction i → PROGRAM_UNITS < units + units_of i → IsFaultyLine text (BadCount (length is + 1))
line_past_units text rest new is units done i fits counted bounded lines is_done more read h past = record {
  front = is;
  rest = rest;
  fits = fits;
  bounded = omega (arith, counted, bounded);
  lines = lines;
  some = not_empty rest done is_done more;
  faulty = λ j behind g begins.
      let same : units_of i ≡ units_of j = ap units_of (line-first i j new behind h g (sym read ∙ begins)).0 in
      omega (arith, same, counted, past);
  line = refl;
  first = ap (λ r. fault_in r (length is + 1)) (sym (line_again i new h) ∙ ap line_at (sym read));
}

pub unit_count-push : (is : List Insn) (i : Insn) → unit_count (is ++ i ∷ []) ≡ unit_count is + units_of i
unfolding unit_count
unit_count-push [] i = omega arith
unit_count-push (x ∷ is) i = omega (arith, unit_count-push is i)

-- one more line was read
pub lines_push : (text rest new : List ℕ) (is : List Insn) (i : Insn) → text ≡ text_of is ++ rest → rest ≡ line_of i ++ new → text ≡ text_of (is ++ i ∷ []) ++ new
lines_push text rest new is i lines read = rw (text_of-push is i) (lines ∙ ap (λ x. text_of is ++ x) read ∙ sym (append_assoc (text_of is) (line_of i) new))

-- the first line of all, after another was read
pub first_line : (text rest new : List ℕ) (is : List Insn) (i : Insn) → AreInstructions is → IsInstruction i → text ≡ text_of is ++ rest → rest ≡ line_of i ++ new → BeginsWithLine text
unfolding text_of
first_line text rest new [] i fits h lines read = record { first = i; rest = new; fits = h; line = lines ∙ read }
first_line text rest new (j ∷ is) i fits h lines read = record { first = j; rest = text_of is ++ rest; fits = fits.0; line = lines ∙ text_of-cons j is rest }

-- no line's own fault is a lack of memory
pub at_line_says_no_memory : (n : ℕ) (fault : LineFault) → at_line n fault ≡ NoMemory → ⊥
at_line_says_no_memory n UnknownName e = absurd cc
at_line_says_no_memory n BadOperand e = absurd cc
at_line_says_no_memory n OutOfRange e = absurd cc
at_line_says_no_memory n Trailing e = absurd cc

-- each line takes at least a byte
pub line_shortens : (rest new : List ℕ) (i : Insn) → rest ≡ line_of i ++ new → length new < length rest
line_shortens rest new i read =
    let parts : length rest ≡ length (line_of i ++ new) = ap length read in
    omega (arith, parts, length-append (line_of i) new, line_some i)

-- instructions that are few enough and yet no program are none, so their text is empty
pub empty_text : (text : List ℕ) (is : List Insn) → (IsProgram is → ⊥) → unit_count is ≤ PROGRAM_UNITS → text ≡ text_of is → text ≡ []
unfolding text_of
empty_text text [] none bounded lines = lines
empty_text text (i ∷ is) none bounded lines = absurd (none (record { some = omega arith; bounded = bounded }))
