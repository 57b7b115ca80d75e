-- What begins bytes begins them in one way.
use Rattle.std.proofs.Common.{arith, ◌≡◌, ◌≢◌, ◌⊎◌, inl, inr, ℕ, ◌<◌, ◌≤◌, ◌^◌, List, [], ◌∷◌, ◌++◌, length, refl, sym, ap, subst, ◌∙◌, append_assoc, append-nil, All}
use Rattle.std.proofs.lemmas.List.{length-append}
use Rattle.std.proofs.lemmas.List.Elements.{All-head, All-tail}
use Rattle.resp.specs.declared.limits.TheConstants.{COMMAND_WORDS}
use Rattle.resp.specs.Grammar.{newline, number_line, word_bytes, words_bytes, array_bytes, ends_line, IsWord, IsArray, IsEmptyArray, IsSomeArray, IsLineFront, IsLine, Spells, IsIgnored, IsWhole, IsBegun}
use Rattle.resp.specs.LineWords.{is_no_blank, BeginsWord, HasWords, AreBlanks}
use Rattle.resp.proofs.StreamLemmas.{heads, tails, front_is, one_cut}
use Rattle.resp.proofs.NumberLemmas.{one_number}
use Rattle.resp.proofs.ArrayLemmas.{no_sign}
use Rattle.resp.proofs.LineLemmas.{no_others, blanks_after, word_no_blanks, one_begun}

-- ---- words

pub one_word : (v w x y : List ℕ) → IsWord v → IsWord w → word_bytes v ++ x ≡ word_bytes w ++ y → (v ≡ w) × (x ≡ y)
one_word v w x y is too e =
    let inner : number_line (length v) ++ ((v ++ newline) ++ x) ≡ number_line (length w) ++ ((w ++ newline) ++ y) =
    sym (append_assoc (number_line (length v)) (v ++ newline) x)
    ∙ tails 36 36 ((number_line (length v) ++ (v ++ newline)) ++ x) ((number_line (length w) ++ (w ++ newline)) ++ y) e
    ∙ append_assoc (number_line (length w)) (w ++ newline) y in
    let (len, left) = one_number (length v) (length w) ((v ++ newline) ++ x) ((w ++ newline) ++ y) (omega (arith, is)) (omega (arith, too)) inner in
    let (same, more) = front_is v w (newline ++ x) (newline ++ y) len (sym (append_assoc v newline x) ∙ left ∙ append_assoc w newline y) in
    (same, tails 10 10 x y (tails 13 13 (10 ∷ x) (10 ∷ y) more))

-- the fewer words begin the others
pub more_words : (vs ws : List (List ℕ)) (x y : List ℕ) → All IsWord vs → All IsWord ws → length vs ≤ length ws → words_bytes vs ++ x ≡ words_bytes ws ++ y → (later : List (List ℕ)) × (ws ≡ vs ++ later) × All IsWord later × (x ≡ words_bytes later ++ y)
more_words [] ws x y all too less e = (ws, refl, too, e)
more_words (v ∷ vs) [] x y all too less e = absurd (omega (arith, less))
more_words (v ∷ vs) (w ∷ ws) x y all too less e =
    let (same, left) = one_word v w (words_bytes vs ++ x) (words_bytes ws ++ y) (All-head IsWord v vs all) (All-head IsWord w ws too)
    (sym (append_assoc (word_bytes v) (words_bytes vs) x) ∙ e ∙ append_assoc (word_bytes w) (words_bytes ws) y) in
    let (later, is, fine, rest) = more_words vs ws x y (All-tail IsWord v vs all) (All-tail IsWord w ws too) (omega (arith, less)) left in
    (later, ap (λ (t : List (List ℕ)). w ∷ t) is ∙ ap (λ (u : List ℕ). u ∷ (vs ++ later)) (sym same), fine, rest)

-- ---- arrays

pub one_count : (n m : ℕ) (x y : List ℕ) → n < 2 ^ 64 → m < 2 ^ 64 → 42 ∷ (number_line n ++ x) ≡ 42 ∷ (number_line m ++ y) → (n ≡ m) × (x ≡ y)
one_count n m x y small below e = one_number n m x y small below (tails 42 42 (number_line n ++ x) (number_line m ++ y) e)

pub array_parts : (words : List (List ℕ)) (bytes x : List ℕ) → bytes ≡ array_bytes words → bytes ++ x ≡ 42 ∷ (number_line (length words) ++ (words_bytes words ++ x))
array_parts words bytes x e = ap (λ (t : List ℕ). t ++ x) e ∙ ap (λ (t : List ℕ). 42 ∷ t) (append_assoc (number_line (length words)) (words_bytes words) x)

arrays : (v w : List (List ℕ)) (a b x y : List ℕ) → IsArray v a → IsArray w b → a ++ x ≡ b ++ y → (v ≡ w) × (x ≡ y)
arrays v w a b x y (are, all, fits, is) (too, fine, below, js) e =
    let (len, left) = one_count (length v) (length w) (words_bytes v ++ x) (words_bytes w ++ y) (omega (arith, are.1)) (omega (arith, too.1)) (sym (array_parts v a x is) ∙ e ∙ array_parts w b y js) in
    let (later, same, good, rest) = more_words v w x y all fine (omega (arith, len)) left in
    by_later later same rest len
  where
    by_later : (later : List (List ℕ)) → w ≡ v ++ later → x ≡ words_bytes later ++ y → length v ≡ length w → (v ≡ w) × (x ≡ y)
    by_later [] same rest len = (sym (append-nil v) ∙ sym same, rest)
    by_later (l ∷ later) same rest len =
        let more = ap length same in absurd (omega (arith, more, len, length-append v (l ∷ later)))

array_empty : (v : List (List ℕ)) (a b x y : List ℕ) → IsArray v a → IsEmptyArray b → a ++ x ≡ b ++ y → ⊥
array_empty v a b x y (are, all, fits, is) (inl none) e =
    let (len, left) = one_count (length v) 0 (words_bytes v ++ x) y (omega (arith, are.1)) (omega arith) (sym (array_parts v a x is) ∙ e ∙ ap (λ (t : List ℕ). t ++ y) none) in
    omega (arith, len, are.0)
array_empty v a b x y (are, all, fits, is) (inr (n, from, within, none)) e =
    let whole : 42 ∷ 45 ∷ (number_line n ++ y) ≡ 42 ∷ (number_line (length v) ++ (words_bytes v ++ x)) = ap (λ (t : List ℕ). t ++ y) (sym none) ∙ sym e ∙ array_parts v a x is in
    no_sign (length v) (number_line n ++ y) (words_bytes v ++ x) (omega (arith, are.1)) (tails 42 42 (45 ∷ (number_line n ++ y)) (number_line (length v) ++ (words_bytes v ++ x)) whole)

zero_negative : (n : ℕ) (a b x y : List ℕ) → a ≡ 42 ∷ number_line 0 → b ≡ 42 ∷ 45 ∷ number_line n → a ++ x ≡ b ++ y → ⊥
zero_negative n a b x y is js e =
    let whole : 42 ∷ 45 ∷ (number_line n ++ y) ≡ 42 ∷ (number_line 0 ++ x) = ap (λ (t : List ℕ). t ++ y) (sym js) ∙ sym e ∙ ap (λ (t : List ℕ). t ++ x) is in
    no_sign 0 (number_line n ++ y) x (omega arith) (tails 42 42 (45 ∷ (number_line n ++ y)) (number_line 0 ++ x) whole)

empties : (a b x y : List ℕ) → IsEmptyArray a → IsEmptyArray b → a ++ x ≡ b ++ y → x ≡ y
empties a b x y (inl is) (inl js) e =
    (one_count 0 0 x y (omega arith) (omega arith) (ap (λ (t : List ℕ). t ++ x) (sym is) ∙ e ∙ ap (λ (t : List ℕ). t ++ y) js)).1
empties a b x y (inl is) (inr (n, from, within, js)) e = absurd (zero_negative n a b x y is js e)
empties a b x y (inr (n, from, within, is)) (inl js) e = absurd (zero_negative n b a y x js is (sym e))
empties a b x y (inr (n, from, within, is)) (inr (m, some, below, js)) e =
    let whole : 42 ∷ 45 ∷ (number_line n ++ x) ≡ 42 ∷ 45 ∷ (number_line m ++ y) = ap (λ (t : List ℕ). t ++ x) (sym is) ∙ e ∙ ap (λ (t : List ℕ). t ++ y) js in
    (one_number n m x y (omega (arith, within)) (omega (arith, below)) (tails 45 45 (number_line n ++ x) (number_line m ++ y) (tails 42 42 (45 ∷ (number_line n ++ x)) (45 ∷ (number_line m ++ y)) whole))).1

pub star : (a : List ℕ) → IsSomeArray a → (z : List ℕ) × (a ≡ 42 ∷ z)
star a (inl (words, (are, all, fits, is))) = (number_line (length words) ++ words_bytes words, is)
star a (inr (inl is)) = (number_line 0, is)
star a (inr (inr (n, from, within, is))) = (45 ∷ number_line n, is)

-- ---- lines

pub front_no_star : (line x z : List ℕ) → ((rest : List ℕ) → line ≢ 42 ∷ rest) → 1 ≤ length line → line ++ x ≡ 42 ∷ z → ⊥
front_no_star [] x z front some e = absurd (omega (arith, some))
front_no_star (b ∷ line) x z front some e = front line (ap (λ (c : ℕ). c ∷ line) (heads b 42 (line ++ x) z e))

pub line_no_star : (line x z : List ℕ) → IsLineFront line → line ++ 10 ∷ x ≡ 42 ∷ z → ⊥
line_no_star [] x z front e = let bad = heads 10 42 x z e in absurd (omega (arith, bad))
line_no_star (b ∷ line) x z front e = front.1 line (ap (λ (c : ℕ). c ∷ line) (heads b 42 (line ++ 10 ∷ x) z e))

pub line_parts : (line bytes x : List ℕ) → bytes ≡ line ++ 10 ∷ [] → bytes ++ x ≡ line ++ 10 ∷ x
line_parts line bytes x e = ap (λ (t : List ℕ). t ++ x) e ∙ append_assoc line (10 ∷ []) x

pub array_line : (a line b x y : List ℕ) → IsSomeArray a → IsLine line b → a ++ x ≡ b ++ y → ⊥
array_line a line b x y is (front, short, js) e =
    let (z, at) = star a is in
    line_no_star line y (z ++ x) front (sym (line_parts line b y js) ∙ sym e ∙ ap (λ (t : List ℕ). t ++ x) at)

pub lines : (l m a b x y : List ℕ) → IsLine l a → IsLine m b → a ++ x ≡ b ++ y → (l ≡ m) × (x ≡ y)
lines l m a b x y (front, short, is) (other, too, js) e =
    let (same, left) = one_cut ends_line l (10 ∷ x) m (10 ∷ y) front.0 refl other.0 refl (sym (line_parts l a x is) ∙ e ∙ line_parts m b y js) in
    (same, tails 10 10 x y left)

pub one_split : (line : List ℕ) (v w : List (List ℕ)) → HasWords line v → HasWords line w → v ≡ w
one_split line [] [] has too = refl
one_split line [] (w ∷ ws) has (blanks, bytes, rest, are, start, begins, e, later) =
    absurd (word_no_blanks bytes w rest start begins (blanks_after blanks bytes (subst AreBlanks e has)))
one_split line (v ∷ vs) [] (blanks, bytes, rest, are, start, begins, e, later) too =
    absurd (word_no_blanks bytes v rest start begins (blanks_after blanks bytes (subst AreBlanks e too)))
one_split line (v ∷ vs) (w ∷ ws) (blanks, bytes, rest, are, start, begins, e, later) (gap, others, end, all, stops, is, f, last) =
    let (same, left) = one_cut is_no_blank blanks bytes gap others (no_others blanks are) start (no_others gap all) stops (sym e ∙ f) in
    let (word, more) = one_begun bytes v rest w end begins (subst (λ (t : List ℕ). BeginsWord t w end) (sym left) is) in
    ap (λ (u : List ℕ). u ∷ vs) word ∙ ap (λ (t : List (List ℕ)). w ∷ t) (one_split rest vs ws later (subst (λ (t : List ℕ). HasWords t ws) (sym more) last))

-- ---- all that may begin a stream

pub commands : (v w : List (List ℕ)) (a b x y : List ℕ) → Spells v a → Spells w b → a ++ x ≡ b ++ y → (v ≡ w) × (x ≡ y)
commands v w a b x y (inl is) (inl js) e = arrays v w a b x y is js e
commands v w a b x y (inl is) (inr (line, are, js, has)) e = absurd (array_line a line b x y (inl (v, is)) js e)
commands v w a b x y (inr (line, are, is, has)) (inl js) e = absurd (array_line b line a y x (inl (w, js)) is (sym e))
commands v w a b x y (inr (line, are, is, has)) (inr (other, too, js, his)) e =
    let (same, left) = lines line other a b x y is js e in
    (one_split line v w has (subst (λ (t : List ℕ). HasWords t w) (sym same) his), left)

pub command_ignored : (v : List (List ℕ)) (a b x y : List ℕ) → Spells v a → IsIgnored b → a ++ x ≡ b ++ y → ⊥
command_ignored v a b x y (inl is) (inl js) e = array_empty v a b x y is js e
command_ignored v a b x y (inl is) (inr (line, js, has)) e = array_line a line b x y (inl (v, is)) js e
command_ignored v a b x y (inr (line, are, is, has)) (inl js) e = array_line b line a y x (inr js) is (sym e)
command_ignored v a b x y (inr (line, are, is, has)) (inr (other, js, his)) e =
    let (same, left) = lines line other a b x y is js e in
    let none = ap length (one_split line v [] has (subst (λ (t : List ℕ). HasWords t []) (sym same) his)) in
    omega (arith, none, are.0)

pub ignored : (a b x y : List ℕ) → IsIgnored a → IsIgnored b → a ++ x ≡ b ++ y → x ≡ y
ignored a b x y (inl is) (inl js) e = empties a b x y is js e
ignored a b x y (inl is) (inr (line, js, has)) e = absurd (array_line a line b x y (inr is) js e)
ignored a b x y (inr (line, is, has)) (inl js) e = absurd (array_line b line a y x (inr js) is (sym e))
ignored a b x y (inr (line, is, has)) (inr (other, js, his)) e = (lines line other a b x y is js e).1

pub wholes : (a b x y : List ℕ) → IsWhole a → IsWhole b → a ++ x ≡ b ++ y → x ≡ y
wholes a b x y (inl (v, is)) (inl (w, js)) e = (commands v w a b x y is js e).1
wholes a b x y (inl (v, is)) (inr js) e = absurd (command_ignored v a b x y is js e)
wholes a b x y (inr is) (inl (w, js)) e = absurd (command_ignored w b a y x js is (sym e))
wholes a b x y (inr is) (inr js) e = ignored a b x y is js e

pub array_whole : (a : List ℕ) → IsSomeArray a → IsWhole a
array_whole a (inl (words, is)) = inl (words, inl is)
array_whole a (inr is) = inr (inl is)

-- a whole is an array or a line
pub whole_kind : (a : List ℕ) → IsWhole a → IsSomeArray a ⊎ ((line : List ℕ) × IsLine line a × ((words : List (List ℕ)) × HasWords line words × (length words ≤ COMMAND_WORDS)))
whole_kind a (inl (words, inl is)) = inl (inl (words, is))
whole_kind a (inl (words, inr (line, are, is, has))) = inr (line, is, (words, has, are.1))
whole_kind a (inr (inl is)) = inl (inr is)
whole_kind a (inr (inr (line, is, has))) = inr (line, is, ([], has, omega arith))

pub begun_whole : (bytes a x : List ℕ) → IsBegun bytes → IsWhole a → bytes ≡ a ++ x → ⊥
begun_whole bytes a x (inl (more, (some, is))) whole e =
    let same : a ++ (x ++ more) ≡ (bytes ++ more) ++ [] = sym (append_assoc a x more) ∙ ap (λ (t : List ℕ). t ++ more) (sym e) ∙ sym (append-nil (bytes ++ more)) in
    let none = ap length (wholes a (bytes ++ more) (x ++ more) [] whole (array_whole (bytes ++ more) is) same) in
    omega (arith, none, some, length-append x more)
begun_whole bytes a x (inr (waits, short)) whole e = by_kind (whole_kind a whole)
  where
    by_kind : IsSomeArray a ⊎ ((line : List ℕ) × IsLine line a × ((words : List (List ℕ)) × HasWords line words × (length words ≤ COMMAND_WORDS))) → ⊥
    by_kind (inl is) = let (z, at) = star a is in waits.1 (z ++ x) (e ∙ ap (λ (t : List ℕ). t ++ x) at)
    by_kind (inr (line, (other, few, is), has)) = waits.0 line x other.0 (e ∙ line_parts line a x is)
