-- How a text is told, from its front on.
use Rattle.std.proofs.Common.{◌≡◌, ◌≢◌, ℕ, zero, suc, ◌-◌, ◌<◌, ◌≤◌, List, [], ◌∷◌, ◌++◌, length, take, drop, get_or, refl, sym, ap, ◌∙◌, append_assoc, append-nil, arith, ◌+◌, true}
use Rattle.std.specs.Prelude.{max, nat_le}
use Rattle.std.specs.List.{flat_map}
use Rattle.std.proofs.lemmas.List.{at_drop_more}
use Rattle.std.proofs.lemmas.Bool.Decides.{nat_tests}
use Rattle.map_commands.specs.Shown.{before_equals, behind_equals, longest_echo, word_echo, shown_byte, shown_own, shown_word, told, told_from}

-- the first `=` of a word parts it
pub parted : (word : List ℕ) (k : ℕ) → ((j : ℕ) → j < k → get_or word j 0 ≢ 61) → k < length word → get_or word k 0 ≡ 61
    → (before_equals word ≡ take k word) × (behind_equals word ≡ drop (suc k) word)
parted [] k none inside is = absurd (omega arith)
parted (c ∷ word) zero none inside is = (rw is refl, rw is refl)
parted (c ∷ word) (suc k) none inside is =
    let other : c ≢ 61 = none 0 (omega arith) in
    let rest = parted word k (λ j lt. none (suc j) (omega arith)) (omega arith) is in
    (grind (arith, nat_tests, rest.0), grind (arith, nat_tests, rest.1))

-- a word without one is not parted
pub whole : (word : List ℕ) → ((j : ℕ) → j < length word → get_or word j 0 ≢ 61) → (before_equals word ≡ word) × (behind_equals word ≡ [])
whole [] none = (refl, refl)
whole (c ∷ word) none =
    let other : c ≢ 61 = none 0 (omega arith) in
    let rest = whole word (λ j lt. none (suc j) (omega arith)) in
    (grind (arith, nat_tests, rest.0), grind (arith, nat_tests, rest.1))

-- what belongs to an echo is passed over
told_from-skips : (words : List (List ℕ)) (n : ℕ) (text : List ℕ) → told_from words n text ≡ told words (drop n text)
unfolding told_from
told_from-skips words zero text = refl
told_from-skips words (suc n) [] = refl
told_from-skips words (suc n) (c ∷ text) = told_from-skips words n text

pub told-none : (words : List (List ℕ)) → told words [] ≡ []
unfolding told_from
told-none words = refl

-- a byte with which no echo begins
pub told-own : (words : List (List ℕ)) (text : List ℕ) → 1 ≤ length text → longest_echo text words ≡ 0 → told words text ≡ shown_own (get_or text 0 0) ++ told words (drop 1 text)
unfolding told_from
told-own words [] some none = absurd (omega arith)
told-own words (c ∷ text) some none = rw none refl

-- an echo
pub told-echo : (words : List (List ℕ)) (text : List ℕ) (n : ℕ) → 1 ≤ n → n ≤ length text → longest_echo text words ≡ n → told words text ≡ shown_word (take n text) ++ told words (drop n text)
unfolding told_from
told-echo words text zero some inside is = absurd (omega arith)
told-echo words [] (suc n) some inside is = absurd (omega arith)
told-echo words (c ∷ text) (suc n) some inside is =
    let less : suc n - 1 ≡ n = omega arith in
    rw (is, less) (ap (λ (xs : List ℕ). shown_word (c ∷ take n text) ++ xs) (told_from-skips words n text))

-- one more piece is told
pub told-more : (words : List (List ℕ)) (text rest left shown piece more : List ℕ) → shown ++ told words rest ≡ text → told words rest ≡ piece ++ told words left → more ≡ shown ++ piece → more ++ told words left ≡ text
told-more words text rest left shown piece more is step grown = rw grown (append_assoc shown piece (told words left) ∙ ap (λ (xs : List ℕ). shown ++ xs) (sym step) ∙ is)

-- the longest echo of the words that are left
pub longest_echo-next : (text : List ℕ) (words : List (List ℕ)) (k : ℕ) → k < length words
    → longest_echo text (drop k words) ≡ max (word_echo text (get_or words k [])) (longest_echo text (drop (k + 1) words))
longest_echo-next text words k inside = at_drop_more (longest_echo text) words k [] inside

-- nothing of a short word is cut
pub short_word : (word : List ℕ) → length word ≤ 80 → flat_map shown_byte (take 80 word) ≡ shown_word word
short_word word short =
    let test : nat_le (length word) 80 ≡ true = grind (arith, nat_tests) in
    rw test (sym (append-nil (flat_map shown_byte (take 80 word))))
