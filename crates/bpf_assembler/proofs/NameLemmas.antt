-- Names: a word for the operation, and a suffix.
use Rattle.std.proofs.Common.{◌≡◌, ℕ, ◌+◌, ◌≤◌, ◌<◌, List, drop, length, get_or, Option, Some, None, refl, ap, sym, ◌∙◌, is_some, true, false, add-one, drop-cons}
use Rattle.std.proofs.lemmas.List.{drop_all}
use Rattle.std.specs.Prelude.{option_and_then}
use Rattle.std.specs.Option.{option_or}
use Rattle.bpf_assembler.specs.declared.mnemonic.Stem.{Stem}
use Rattle.bpf_assembler.specs.declared.mnemonic.Mnemonic.{Mnemonic}
use Rattle.bpf_assembler.specs.Names.{stem_word}
use Rattle.bpf_assembler.specs.Reading.{rest_after, suffixed_at, mnemonic_at}

-- the instruction that one stem makes of a name
abbrev pub with_stem : Stem → List ℕ → Option Mnemonic
with_stem s name = option_and_then (suffixed_at s) (rest_after (stem_word s) name)

-- a stem that makes a name ends the search; one that makes none is skipped
option_or-some : {A : Type 0} (o p : Option A) → is_some o ≡ true → option_or o p ≡ o
option_or-some None p e = absurd cc
option_or-some (Some x) p e = refl

option_or-none : {A : Type 0} (o p : Option A) → is_some o ≡ false → option_or o p ≡ p
option_or-none None p e = refl
option_or-none (Some x) p e = absurd cc

-- the stem at an index is tried before those after it
mnemonic_at-next : (ss : List Stem) (k : ℕ) (d : Stem) (name : List ℕ) → k < length ss → mnemonic_at (drop k ss) name ≡ option_or (with_stem (get_or ss k d) name) (mnemonic_at (drop (k + 1) ss) name)
unfolding mnemonic_at
mnemonic_at-next ss k d name h = rw (drop-cons ss k d h, add-one) refl

pub stem_found : (ss : List Stem) (k : ℕ) (d : Stem) (name : List ℕ) (r total : Option Mnemonic) → k < length ss → r ≡ with_stem (get_or ss k d) name → is_some r ≡ true
    → mnemonic_at (drop k ss) name ≡ total → r ≡ total
stem_found ss k d name r total h e some before =
    let has : is_some (with_stem (get_or ss k d) name) ≡ true = ap is_some (sym e) ∙ some in
    e ∙ sym (option_or-some (with_stem (get_or ss k d) name) (mnemonic_at (drop (k + 1) ss) name) has) ∙ sym (mnemonic_at-next ss k d name h) ∙ before

pub stem_passed : (ss : List Stem) (k : ℕ) (d : Stem) (name : List ℕ) (r total : Option Mnemonic) → k < length ss → r ≡ with_stem (get_or ss k d) name → is_some r ≡ false
    → mnemonic_at (drop k ss) name ≡ total → mnemonic_at (drop (k + 1) ss) name ≡ total
stem_passed ss k d name r total h e none before =
    let has : is_some (with_stem (get_or ss k d) name) ≡ false = ap is_some (sym e) ∙ none in
    sym (option_or-none (with_stem (get_or ss k d) name) (mnemonic_at (drop (k + 1) ss) name) has) ∙ sym (mnemonic_at-next ss k d name h) ∙ before

-- after the last stem there is none
pub mnemonic_at-end : (ss : List Stem) (k : ℕ) (name : List ℕ) → length ss ≤ k → mnemonic_at (drop k ss) name ≡ None
unfolding mnemonic_at
mnemonic_at-end ss k name h = rw (drop_all k ss h) refl
