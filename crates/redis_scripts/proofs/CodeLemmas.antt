-- Steps of reading the code in a line.
use Rattle.std.proofs.Common.{◌≡◌, ℕ, suc, ◌+◌, ◌-◌, ◌<◌, ◌≤◌, List, [], ◌∷◌, ◌++◌, length, take, drop, get_or, reverse, refl, ap, sym, ◌∙◌, arith, true, false, append_assoc, append-nil}
use Rattle.std.specs.List.{prefix_len}
use Rattle.std.proofs.lemmas.List.{drop_more, take_more, take_all, drop_all, reverse-append, reverse-reverse}
use Rattle.std.specs.Prelude.{nat_le}
use Rattle.std.proofs.lemmas.Bool.Decides.{nat_tests}
use Rattle.redis_scripts.specs.Code.{is_blank, begins_comment, before_comment, without_front_blanks, without_end_blanks, has_code, line_with_code}

-- ---- comments

comes_first : (c : ℕ) (cs : List ℕ) → begins_comment (c ∷ cs) ≡ false → before_comment (c ∷ cs) ≡ c ∷ before_comment cs
unfolding before_comment
comes_first c cs other = rw other refl

-- no comment begins at this place
pub before_comment-more : (line : List ℕ) (i : ℕ) → i < length line → begins_comment (drop i line) ≡ false → before_comment line ≡ take i line ++ before_comment (drop i line)
    → before_comment line ≡ take (i + 1) line ++ before_comment (drop (i + 1) line)
before_comment-more line i inside other before =
    let split = drop_more line i 0 inside in
    let first = comes_first (get_or line i 0) (drop (i + 1) line) (rw split at other) in
    before ∙ ap (λ rest. take i line ++ before_comment rest) split ∙ ap (λ rest. take i line ++ rest) first
    ∙ sym (append_assoc (take i line) (get_or line i 0 ∷ []) (before_comment (drop (i + 1) line))) ∙ ap (λ front. front ++ before_comment (drop (i + 1) line)) (sym (take_more line i 0 inside))

stops : (text : List ℕ) → begins_comment text ≡ true → before_comment text ≡ []
unfolding before_comment
stops [] is = refl
stops (c ∷ cs) is = rw is refl

-- one begins there
pub before_comment-here : (line : List ℕ) (i : ℕ) → begins_comment (drop i line) ≡ true → before_comment line ≡ take i line ++ before_comment (drop i line) → before_comment line ≡ take i line
before_comment-here line i is before = before ∙ ap (λ rest. take i line ++ rest) (stops (drop i line) is) ∙ append-nil (take i line)

nothing : before_comment [] ≡ []
unfolding before_comment
nothing = refl

-- there is none
pub before_comment-end : (line : List ℕ) (i : ℕ) → length line ≤ i → before_comment line ≡ take i line ++ before_comment (drop i line) → before_comment line ≡ line
before_comment-end line i past before =
    before ∙ ap (λ rest. take i line ++ before_comment rest) (drop_all i line past) ∙ ap (λ rest. take i line ++ rest) nothing ∙ append-nil (take i line) ∙ take_all i line past

-- ---- blanks in front

pub front-more : (text : List ℕ) → 1 ≤ length text → is_blank (get_or text 0 0) ≡ true → without_front_blanks text ≡ without_front_blanks (drop 1 text)
front-more [] some is = absurd (omega (arith, some))
front-more (c ∷ cs) some is = let more : 1 + prefix_len is_blank cs ≡ suc (prefix_len is_blank cs) = omega arith in rw (is, more) refl

pub front-stops : (text : List ℕ) → is_blank (get_or text 0 0) ≡ false → without_front_blanks text ≡ text
front-stops [] is = refl
front-stops (c ∷ cs) is = rw is refl

pub front-empty : (text : List ℕ) → length text ≡ 0 → without_front_blanks text ≡ text
front-empty [] none = refl
front-empty (c ∷ cs) none = absurd (omega (arith, none))

-- ---- blanks at the end

turned : (text : List ℕ) → 1 ≤ length text → reverse text ≡ get_or text (length text - 1) 0 ∷ reverse (take (length text - 1) text)
turned text some =
    let last = length text - 1 in
    let inside : last < length text = omega (arith, some) in
    let after : length text ≤ last + 1 = omega (arith, some) in
    let parts : text ≡ take last text ++ get_or text last 0 ∷ [] = sym (take_all (last + 1) text after) ∙ take_more text last 0 inside in
    ap reverse parts ∙ reverse-append (take last text) (get_or text last 0 ∷ [])

pub end-more : (text : List ℕ) → 1 ≤ length text → is_blank (get_or text (length text - 1) 0) ≡ true → without_end_blanks text ≡ without_end_blanks (take (length text - 1) text)
end-more text some is =
    let front = reverse (take (length text - 1) text) in
    let last = get_or text (length text - 1) 0 in
    ap (λ t. reverse (without_front_blanks t)) (turned text some) ∙ ap reverse (front-more (last ∷ front) (omega arith) is)

pub end-stops : (text : List ℕ) → 1 ≤ length text → is_blank (get_or text (length text - 1) 0) ≡ false → without_end_blanks text ≡ text
end-stops text some is =
    let front = reverse (take (length text - 1) text) in
    let last = get_or text (length text - 1) 0 in
    ap (λ t. reverse (without_front_blanks t)) (turned text some) ∙ ap reverse (front-stops (last ∷ front) is) ∙ ap reverse (sym (turned text some)) ∙ reverse-reverse text

pub end-empty : (text : List ℕ) → length text ≡ 0 → without_end_blanks text ≡ text
end-empty [] none = refl
end-empty (c ∷ cs) none = absurd (omega (arith, none))

-- ---- numbers of lines

pub number-here : (number n : ℕ) (line : List ℕ) (others : List (List ℕ)) → has_code line ≡ true → n ≤ 1 → line_with_code number n (line ∷ others) ≡ number
unfolding line_with_code
number-here number n line others has few = let few : nat_le n 1 ≡ true = grind (arith, nat_tests) in rw (has, few) refl

pub number-later : (number n : ℕ) (line : List ℕ) (others : List (List ℕ)) → has_code line ≡ true → 1 < n → line_with_code number n (line ∷ others) ≡ line_with_code (number + 1) (n - 1) others
unfolding line_with_code
number-later number n line others has many = let many : nat_le n 1 ≡ false = grind (arith, nat_tests) in rw (has, many) refl

pub number-empty : (number n : ℕ) (line : List ℕ) (others : List (List ℕ)) → has_code line ≡ false → line_with_code number n (line ∷ others) ≡ line_with_code (number + 1) n others
unfolding line_with_code
number-empty number n line others has = rw has refl

pub number-none : (number n : ℕ) → line_with_code number n [] ≡ number
unfolding line_with_code
number-none number n = refl
