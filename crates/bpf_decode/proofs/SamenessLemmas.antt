-- Comparing bytes with an instruction's spelling, and with a program's.
use Rattle.std.proofs.Common.{◌≡◌, ◌≢◌, ◌∙◌, ℕ, ◌<◌, suc, List, ◌∷◌, ◌++◌, length, take, drop, get_or, Option, Some, None, IfSome, IfNone, Bor, sym, ap, subst, ◌+◌, true≢false}
use Rattle.std.specs.Prelude.{MatchOption, true, false, nat_eq, IsTrue}
use Rattle.std.specs.Cmp.Lexicographic.{pointwise}
use Rattle.std.proofs.lemmas.Bool.Decides.{Decides-eqb}
use Rattle.std.proofs.lemmas.List.{take-append-drop, append_cancel_left}
use Rattle.std.proofs.lemmas.Slice.Eq.{strip_prefix_is}
use Rattle.std.proofs.lemmas.List.Concat.{flat_map-cons}
use Rattle.std.proofs.lemmas.Grind.{flat_map-append}
use Rattle.std.proofs.Math.Seq.{drop-cons}
use Rattle.bpf_model.specs.declared.instruction.Insn.{Insn}
use Rattle.bpf_model.specs.Spelling.{unit_bytes, fields_of, second_bytes, spelling, spelling_of_all, Spells}
use Rattle.bpf_decode.proofs.SpellingLemmas.{spelling-first_unit}

-- the rest of the bytes after these, or the bytes don't begin with them
abbrev pub CutsOff : List ℕ → List ℕ → Option (Bor (List ℕ)) → Type 0
CutsOff front bytes result = MatchOption result ((rest : List ℕ) → bytes ≢ front ++ rest) (λ rest. bytes ≡ front ++ rest.now)

module _ (i : Insn) (bytes : List ℕ) where
  -- without its first unit they don't begin with it
  pub no_first_unit : ((rest : List ℕ) → bytes ≢ unit_bytes (fields_of i) ++ rest) → (rest : List ℕ) → bytes ≢ spelling i ++ rest
  no_first_unit lacks rest e = lacks (second_bytes i ++ rest) (e ∙ spelling-first_unit i rest)

  -- with both of its units they do
  pub both_units : (after rest : List ℕ) → bytes ≡ unit_bytes (fields_of i) ++ after → after ≡ second_bytes i ++ rest → bytes ≡ spelling i ++ rest
  both_units after rest first second = first ∙ ap (λ (x : List ℕ). unit_bytes (fields_of i) ++ x) second ∙ sym (spelling-first_unit i rest)

  -- without its second unit they don't
  no_second_unit : (after : List ℕ) → bytes ≡ unit_bytes (fields_of i) ++ after → ((rest : List ℕ) → after ≢ second_bytes i ++ rest) → (rest : List ℕ) → bytes ≢ spelling i ++ rest
  no_second_unit after first lacks rest e = lacks rest (append_cancel_left (unit_bytes (fields_of i)) after (second_bytes i ++ rest) (sym first ∙ e ∙ spelling-first_unit i rest))

  pub second_found : (after : List ℕ) (result : Option (Bor (List ℕ))) → bytes ≡ unit_bytes (fields_of i) ++ after → CutsOff (second_bytes i) after result → IfSome result (λ rest. bytes ≡ spelling i ++ rest.now)
  second_found after None first cuts = tt
  second_found after (Some rest) first cuts = both_units after rest.now first cuts

  pub second_missing : (after : List ℕ) (result : Option (Bor (List ℕ))) → bytes ≡ unit_bytes (fields_of i) ++ after → CutsOff (second_bytes i) after result → IfNone result ((rest : List ℕ) → bytes ≢ spelling i ++ rest)
  second_missing after None first cuts = no_second_unit after first cuts
  second_missing after (Some rest) first cuts = tt

-- the meaning of std's `strip_prefix` for bytes
pub stripped : (front text bytes : List ℕ) (result : Option (Bor (List ℕ))) → front ≡ text
    → MatchOption result (pointwise nat_eq (take (length front) bytes) front ≡ false) (λ x. (pointwise nat_eq (take (length front) bytes) front ≡ true) × (x.now ≡ drop (length front) bytes) × (length x.now + length front ≡ length bytes))
    → CutsOff text bytes result
stripped front text bytes result e cases = subst (λ (t : List ℕ). CutsOff t bytes result) e (strip_prefix_is Decides-eqb bytes front result cases)

-- bytes that don't go on with the program's next instruction don't spell it
pub spelled_otherwise : (bytes rest : List ℕ) (is program : List Insn) (k : ℕ) (i : Insn) → is ≡ program → k < length is → i ≡ get_or is k i → bytes ≡ spelling_of_all (take k is) ++ rest
    → ((next : List ℕ) → rest ≢ spelling i ++ next) → (IsTrue false → Spells bytes program) × (Spells bytes program → IsTrue false)
spelled_otherwise bytes rest is program k i same lt at spelled lacks =
    (λ f. absurd (true≢false (sym f)), λ spells. absurd (lacks (spelling_of_all (drop (suc k) is)) (append_cancel_left (spelling_of_all (take k is)) rest _ (sym spelled ∙ spells.bytes ∙ ap spelling_of_all (sym same) ∙ whole))))
  where
    whole : spelling_of_all is ≡ spelling_of_all (take k is) ++ (spelling i ++ spelling_of_all (drop (suc k) is))
    whole =
        ap spelling_of_all (sym (take-append-drop k is)) ∙ flat_map-append spelling (take k is) (drop k is)
        ∙ ap (λ (x : List Insn). spelling_of_all (take k is) ++ spelling_of_all x) (drop-cons is k i lt)
        ∙ ap (λ (j : Insn). spelling_of_all (take k is) ++ spelling_of_all (j ∷ drop (suc k) is)) (sym at)
        ∙ ap (λ (x : List ℕ). spelling_of_all (take k is) ++ x) (flat_map-cons spelling i (drop (suc k) is))
