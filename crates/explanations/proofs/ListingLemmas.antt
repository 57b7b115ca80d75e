-- Texts that grow by pieces.
use Rattle.std.proofs.Common.{◌≡◌, ◌∙◌, ◌++◌, ◌<◌, ◌≤◌, List, ℕ, suc, Some, None, Option, Bor, take, length, get_or, refl, sym, ap, ap₂, append_assoc, arith}
use Rattle.std.specs.Prelude.{slice_get, is_some, ltb, IfSome, option_map}
use Rattle.std.proofs.lemmas.Bool.Decides.{nat_tests}
use Rattle.std.proofs.lemmas.Option.{slice_get_past, slice_get_read}
use Rattle.bpf_model.specs.declared.input.Sizes.{Sizes}
use Rattle.bpf_model.specs.declared.instruction.Insn.{Insn}
use Rattle.bpf_model.specs.Program.{unit_count}
use Rattle.bpf_assembler.specs.Text.{instruction_text}
use Rattle.stack_slots.specs.declared.reg_value.RegValue.{RegValue}
use Rattle.verifier.specs.declared.abstract_state.AbstractState.{AbstractState}
use Rattle.verifier.specs.Walks.{KnowsRuns}
use Rattle.explanations.specs.Reasons.{DescribesAt}
use Rattle.explanations.specs.Listings.{line_text, told_line, lines_below, values_after, values_before}

-- one more piece after those that were told
pub told_more : (start done told piece new : List ℕ) → told ≡ start ++ done → new ≡ told ++ piece → new ≡ start ++ (done ++ piece)
told_more start done told piece new before grown = grown ∙ ap (λ (xs : List ℕ). xs ++ piece) before ∙ append_assoc start done piece

-- three pieces, one after the other
pub three_told : (start a b c one two new : List ℕ) → one ≡ start ++ a → two ≡ one ++ b → new ≡ two ++ c → new ≡ start ++ (a ++ (b ++ c))
three_told start a b c one two new first second third =
    third ∙ ap (λ (xs : List ℕ). xs ++ c) (second ∙ ap (λ (xs : List ℕ). xs ++ b) first) ∙ append_assoc (start ++ a) b c ∙ append_assoc start a (b ++ c)

-- what a list has at an index, as a reference to it
pub got : {A : Type 0} (xs : List A) (k : ℕ) (r : Option (Bor A)) → is_some r ≡ ltb k (length xs) → IfSome r (λ x. x.now ≡ get_or xs k x.now)
    → option_map (λ x. x.now) r ≡ slice_get xs k
got xs k None some has = let past : length xs ≤ k = grind (arith, nat_tests) in sym (slice_get_past xs k past)
got xs k (Some x) some has = let within : k < length xs = grind (arith, nat_tests) in sym (slice_get_read xs (length xs) k x.now refl within has)

module _ (program : List Insn) (states : List (Option AbstractState)) (sizes : Sizes) (k : ℕ) where
  -- the line of the instruction at the index
  pub line_is : (i : Insn) (unit : ℕ) (values : List RegValue) (known : Option (Option AbstractState)) (instruction : List ℕ)
      → slice_get program k ≡ Some i → unit ≡ unit_count (take k program) → values ≡ values_before states k → known ≡ slice_get states k → instruction ≡ instruction_text i
      → line_text unit instruction sizes values known ≡ told_line program states sizes k
  line_is i unit values known instruction here counted before at text = rw (here, counted, before, at, text) refl

  -- one more line
  pub next_lines : (text line new : List ℕ) → text ≡ lines_below program states sizes k → line ≡ told_line program states sizes k → new ≡ text ++ line
      → new ≡ lines_below program states sizes (suc k)
  unfolding lines_below
  next_lines text line new told is grown = grown ∙ ap₂ (λ (xs ys : List ℕ). xs ++ ys) told is

  -- what is known above the next instruction
  pub next_values : (values new : List RegValue) (known : Option (Option AbstractState)) → values ≡ values_before states k → known ≡ slice_get states k → new ≡ values_after values known
      → new ≡ values_before states (suc k)
  unfolding values_before
  next_values values new known before at grown = grown ∙ ap₂ values_after before at

-- what is listed at the index of the unit describes each run that comes there
pub described_at : (program : List Insn) (states : List (Option AbstractState)) (sizes : Sizes) (unit index : ℕ) (a : AbstractState) → KnowsRuns program states sizes
    → slice_get states index ≡ Some (Some a) → unit_count (take index program) ≡ unit → DescribesAt program sizes unit a
described_at program states sizes unit index a knows here counted = λ input bytes fits n s reach at. knows input bytes fits n s reach index (Some a) here (at ∙ sym counted)
