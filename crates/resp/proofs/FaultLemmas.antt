-- Faults: each is final, and bytes have one.
use Rattle.std.proofs.Common.{arith, ◌≡◌, ◌≢◌, ◌⊎◌, inl, inr, ℕ, ◌+◌, ◌<◌, ◌≤◌, List, [], ◌∷◌, ◌++◌, length, refl, sym, ap, subst, ◌∙◌, append_assoc, append-nil, All}
use Rattle.std.proofs.lemmas.List.{length-append}
use Rattle.std.proofs.lemmas.List.Elements.{All-head}
use Rattle.std.proofs.lemmas.List.Sums.{sum_by-append, sum_by-cons}
use Rattle.resp.specs.declared.limits.TheConstants.{COMMAND_WORDS, COMMAND_BYTES, WORD_BYTES, LINE_BYTES}
use Rattle.resp.specs.declared.fault.RespFault.{RespFault}
use Rattle.resp.specs.declared.fault.RespFault.TheVariants.{BadCount, NoDollar, BadLength, TooBigCommand, NoNewline, TooBigLine, UnbalancedQuotes, TooManyWords}
use Rattle.resp.specs.Streams.{NeverBegins}
use Rattle.resp.specs.Grammar.{newline, number_line, word_bytes, words_bytes, bytes_of, ends_line, IsWord, IsSomeArray, IsCountLine, IsNumberLine, IsNewline, IsOpenLine, IsLine, IsWhole, IsBegun, IsFaultyWord, HasFaultyWord, IsFaultyLine, IsFaulty}
use Rattle.resp.specs.LineWords.{HasWords}
use Rattle.resp.specs.Readings.{Reading, IsReading, with_more}
use Rattle.resp.specs.Readings.Reading.{command, nothing, part, faulty}
use Rattle.resp.proofs.StreamLemmas.{heads, tails, front_is, one_cut}
use Rattle.resp.proofs.NumberLemmas.{one_number}
use Rattle.resp.proofs.ArrayLemmas.{no_sign}
use Rattle.resp.proofs.WholeLemmas.{more_words, one_count, array_parts, star, front_no_star, line_no_star, line_parts, one_split, commands, command_ignored, ignored, array_whole, whole_kind, begun_whole}

-- ---- the four kinds of faults

abbrev BadAt : List ℕ → RespFault → Type 0
BadAt bytes fault = (fault ≡ BadCount) × ((rest : List ℕ) × (bytes ≡ 42 ∷ rest) × NeverBegins IsCountLine rest)

abbrev WordAt : List ℕ → RespFault → Type 0
WordAt bytes fault = HasFaultyWord fault bytes

abbrev BigAt : List ℕ → RespFault → Type 0
BigAt bytes fault = (fault ≡ TooBigLine) × ((line : List ℕ) × (rest : List ℕ) × IsOpenLine line × (LINE_BYTES < length line) × (bytes ≡ line ++ rest))

abbrev LineAt : List ℕ → RespFault → Type 0
LineAt bytes fault = (line : List ℕ) × (rest : List ℕ) × IsLine line (line ++ 10 ∷ []) × (bytes ≡ line ++ 10 ∷ rest) × IsFaultyLine fault line

kind : (bytes : List ℕ) (fault : RespFault) → IsFaulty fault bytes → BadAt bytes fault ⊎ (WordAt bytes fault ⊎ (BigAt bytes fault ⊎ LineAt bytes fault))
kind bytes BadCount is = inl (refl, is)
kind bytes (NoDollar b) is = inr (inl is)
kind bytes BadLength is = inr (inl is)
kind bytes TooBigCommand is = inr (inl is)
kind bytes NoNewline is = inr (inl is)
kind bytes TooBigLine is = inr (inr (inl (refl, is)))
kind bytes UnbalancedQuotes is = inr (inr (inr is))
kind bytes TooManyWords is = inr (inr (inr is))

-- ---- a faulty word

-- the word's number and what is after it
after_dollar : (rest w x : List ℕ) → 36 ∷ rest ≡ word_bytes w ++ x → rest ≡ number_line (length w) ++ ((w ++ newline) ++ x)
after_dollar rest w x e = tails 36 36 rest ((number_line (length w) ++ (w ++ newline)) ++ x) e ∙ append_assoc (number_line (length w)) (w ++ newline) x

faulty_no_word : (room : ℕ) (fault : RespFault) (bytes w x : List ℕ) → IsFaultyWord room fault bytes → IsWord w → length w ≤ room → bytes ≡ word_bytes w ++ x → ⊥
faulty_no_word room BadCount bytes w x is word fits e = is
faulty_no_word room (NoDollar b) bytes w x (rest, at, other) word fits e =
    other (heads b 36 rest ((number_line (length w) ++ (w ++ newline)) ++ x) (sym at ∙ e))
faulty_no_word room BadLength bytes w x (rest, at, much, never) word fits e =
    never [] (number_line (length w)) ((w ++ newline) ++ x) (length w, word, refl) (append-nil rest ∙ after_dollar rest w x (sym at ∙ e))
faulty_no_word room TooBigCommand bytes w x (rest, at, little, never) word fits e =
    never [] (number_line (length w)) ((w ++ newline) ++ x) (length w, fits, refl) (append-nil rest ∙ after_dollar rest w x (sym at ∙ e))
faulty_no_word room NoNewline bytes w x (v, rest, is, within, at, never) word fits e =
    let inner = after_dollar (number_line (length v) ++ (v ++ rest)) w x (sym at ∙ e) in
    let (len, left) = one_number (length v) (length w) (v ++ rest) ((w ++ newline) ++ x) (omega (arith, is)) (omega (arith, word)) inner in
    let (same, end) = front_is v w rest (newline ++ x) len (left ∙ append_assoc w newline x) in
    never [] newline x refl (append-nil rest ∙ end)
faulty_no_word room TooBigLine bytes w x is word fits e = is
faulty_no_word room UnbalancedQuotes bytes w x is word fits e = is
faulty_no_word room TooManyWords bytes w x is word fits e = is

-- no mark, and a mark
no_mark : (room b : ℕ) (bytes rest : List ℕ) → IsFaultyWord room (NoDollar b) bytes → bytes ≡ 36 ∷ rest → ⊥
no_mark room b bytes rest (more, at, other) e = other (heads b 36 more rest (sym at ∙ e))

-- a length that can't be, and one that is
no_length : (most : ℕ) (bytes rest word end : List ℕ) → bytes ≡ 36 ∷ rest → NeverBegins (IsNumberLine most) rest → length word ≤ most → bytes ≡ 36 ∷ (number_line (length word) ++ (word ++ end)) → ⊥
no_length most bytes rest word end at never fits e =
    never [] (number_line (length word)) (word ++ end) (length word, fits, refl) (append-nil rest ∙ tails 36 36 rest (number_line (length word) ++ (word ++ end)) (sym at ∙ e))

one_word_fault : (room : ℕ) (f g : RespFault) (bytes : List ℕ) → IsFaultyWord room f bytes → IsFaultyWord room g bytes → f ≡ g
one_word_fault room (NoDollar b) (NoDollar c) bytes (rest, at, other) (more, too, is) = ap NoDollar (heads b c rest more (sym at ∙ too))
one_word_fault room (NoDollar b) BadLength bytes is (rest, at, much, never) = absurd (no_mark room b bytes rest is at)
one_word_fault room (NoDollar b) TooBigCommand bytes is (rest, at, little, never) = absurd (no_mark room b bytes rest is at)
one_word_fault room (NoDollar b) NoNewline bytes is (word, rest, fits, within, at, never) = absurd (no_mark room b bytes (number_line (length word) ++ (word ++ rest)) is at)
one_word_fault room BadLength (NoDollar c) bytes (rest, at, much, never) js = absurd (no_mark room c bytes rest js at)
one_word_fault room BadLength BadLength bytes is js = refl
one_word_fault room BadLength TooBigCommand bytes (rest, at, much, never) (more, too, little, none) = absurd (omega (arith, much, little))
one_word_fault room BadLength NoNewline bytes (rest, at, much, never) (word, end, fits, within, e, last) = absurd (no_length WORD_BYTES bytes rest word end at never fits e)
one_word_fault room TooBigCommand (NoDollar c) bytes (rest, at, little, never) js = absurd (no_mark room c bytes rest js at)
one_word_fault room TooBigCommand BadLength bytes (rest, at, little, never) (more, too, much, none) = absurd (omega (arith, much, little))
one_word_fault room TooBigCommand TooBigCommand bytes is js = refl
one_word_fault room TooBigCommand NoNewline bytes (rest, at, little, never) (word, end, fits, within, e, last) = absurd (no_length room bytes rest word end at never within e)
one_word_fault room NoNewline (NoDollar c) bytes (word, rest, fits, within, at, never) js = absurd (no_mark room c bytes (number_line (length word) ++ (word ++ rest)) js at)
one_word_fault room NoNewline BadLength bytes (word, end, fits, within, e, last) (rest, at, much, never) = absurd (no_length WORD_BYTES bytes rest word end at never fits e)
one_word_fault room NoNewline TooBigCommand bytes (word, end, fits, within, e, last) (rest, at, little, never) = absurd (no_length room bytes rest word end at never within e)
one_word_fault room NoNewline NoNewline bytes is js = refl
one_word_fault room BadCount g bytes is js = absurd is
one_word_fault room (NoDollar b) BadCount bytes is js = absurd js
one_word_fault room (NoDollar b) TooBigLine bytes is js = absurd js
one_word_fault room (NoDollar b) UnbalancedQuotes bytes is js = absurd js
one_word_fault room (NoDollar b) TooManyWords bytes is js = absurd js
one_word_fault room BadLength BadCount bytes is js = absurd js
one_word_fault room BadLength TooBigLine bytes is js = absurd js
one_word_fault room BadLength UnbalancedQuotes bytes is js = absurd js
one_word_fault room BadLength TooManyWords bytes is js = absurd js
one_word_fault room TooBigCommand BadCount bytes is js = absurd js
one_word_fault room TooBigCommand TooBigLine bytes is js = absurd js
one_word_fault room TooBigCommand UnbalancedQuotes bytes is js = absurd js
one_word_fault room TooBigCommand TooManyWords bytes is js = absurd js
one_word_fault room NoNewline BadCount bytes is js = absurd js
one_word_fault room NoNewline TooBigLine bytes is js = absurd js
one_word_fault room NoNewline UnbalancedQuotes bytes is js = absurd js
one_word_fault room NoNewline TooManyWords bytes is js = absurd js
one_word_fault room TooBigLine g bytes is js = absurd is
one_word_fault room UnbalancedQuotes g bytes is js = absurd is
one_word_fault room TooManyWords g bytes is js = absurd is

-- ---- open arrays

open_parts : (count : ℕ) (ws : List (List ℕ)) (head rest : List ℕ) → head ≡ 42 ∷ (number_line count ++ words_bytes ws) → head ++ rest ≡ 42 ∷ (number_line count ++ (words_bytes ws ++ rest))
open_parts count ws head rest e = ap (λ (t : List ℕ). t ++ rest) e ∙ ap (λ (t : List ℕ). 42 ∷ t) (append_assoc (number_line count) (words_bytes ws) rest)

-- fewer words and then a faulty one are not more words
fewer : (room : ℕ) (fault : RespFault) (vs ws : List (List ℕ)) (x y : List ℕ) → All IsWord vs → All IsWord ws → bytes_of vs + room ≡ COMMAND_BYTES → bytes_of ws ≤ COMMAND_BYTES → length vs < length ws → IsFaultyWord room fault x
    → words_bytes vs ++ x ≡ words_bytes ws ++ y → ⊥
fewer room fault vs ws x y all fine left top less is e =
    let (later, same, good, rest) = more_words vs ws x y all fine (omega (arith, less)) e in by_later later same good rest
  where
    by_later : (later : List (List ℕ)) → ws ≡ vs ++ later → All IsWord later → x ≡ words_bytes later ++ y → ⊥
    by_later [] same good rest = let len = ap length same in omega (arith, len, less, length-append vs [])
    by_later (l ∷ later) same good rest =
        let total = ap bytes_of same ∙ sum_by-append length vs (l ∷ later) ∙ ap (λ (k : ℕ). bytes_of vs + k) (sum_by-cons length l later) in
        faulty_no_word room fault x l (words_bytes later ++ y) is (All-head IsWord l later good) (omega (arith, total, left, top)) (rest ∙ append_assoc (word_bytes l) (words_bytes later) y)

word_array : (bytes a x : List ℕ) (fault : RespFault) → WordAt bytes fault → IsSomeArray a → bytes ≡ a ++ x → ⊥
word_array bytes a x fault (room, head, rest, (count, ws, less, within, all, left, is), e, bad) (inl (words, (are, fine, top, js))) f =
    let (len, more) = one_count count (length words) (words_bytes ws ++ rest) (words_bytes words ++ x) (omega (arith, within)) (omega (arith, are.1))
    (sym (open_parts count ws head rest is) ∙ sym e ∙ f ∙ array_parts words a x js) in
    fewer room fault ws words rest x all fine left top (omega (arith, less, len)) bad more
word_array bytes a x fault (room, head, rest, (count, ws, less, within, all, fill, is), e, bad) (inr (inl js)) f =
    let (len, left) = one_count count 0 (words_bytes ws ++ rest) x (omega (arith, within)) (omega arith)
    (sym (open_parts count ws head rest is) ∙ sym e ∙ f ∙ ap (λ (t : List ℕ). t ++ x) js) in
    omega (arith, len, less)
word_array bytes a x fault (room, head, rest, (count, ws, less, within, all, fill, is), e, bad) (inr (inr (n, from, top, js))) f =
    let whole : 42 ∷ 45 ∷ (number_line n ++ x) ≡ 42 ∷ (number_line count ++ (words_bytes ws ++ rest)) =
    ap (λ (t : List ℕ). t ++ x) (sym js) ∙ sym f ∙ e ∙ open_parts count ws head rest is in
    no_sign count (number_line n ++ x) (words_bytes ws ++ rest) (omega (arith, within)) (tails 42 42 (45 ∷ (number_line n ++ x)) (number_line count ++ (words_bytes ws ++ rest)) whole)

one_open : (bytes : List ℕ) (f g : RespFault) → WordAt bytes f → WordAt bytes g → f ≡ g
one_open bytes f g (room, head, rest, (count, ws, less, within, all, fill, is), e, bad) (space, other, more, (most, vs, few, below, fine, full, js), h, worse) =
    let (len, left) = one_count count most (words_bytes ws ++ rest) (words_bytes vs ++ more) (omega (arith, within)) (omega (arith, below))
    (sym (open_parts count ws head rest is) ∙ sym e ∙ h ∙ open_parts most vs other more js) in
    by_length (nat_cases (length ws) (length vs)) left
  where
    nat_cases : (n m : ℕ) → (n < m) ⊎ ((m < n) ⊎ (n ≡ m))
    nat_cases n m = grind arith

    by_length : (length ws < length vs) ⊎ ((length vs < length ws) ⊎ (length ws ≡ length vs)) → words_bytes ws ++ rest ≡ words_bytes vs ++ more → f ≡ g
    by_length (inl l) left = absurd (fewer room f ws vs rest more all fine fill (omega (arith, full)) l bad left)
    by_length (inr (inl l)) left = absurd (fewer space g vs ws more rest fine all full (omega (arith, fill)) l worse (sym left))
    by_length (inr (inr same)) left =
        let (later, e, good, end) = more_words ws vs rest more all fine (omega (arith, same)) left in by_later later e end
      where
        by_later : (later : List (List ℕ)) → vs ≡ ws ++ later → rest ≡ words_bytes later ++ more → f ≡ g
        by_later [] e end =
            let total = ap bytes_of (e ∙ append-nil ws) in
            let same_room : space ≡ room = omega (arith, total, fill, full) in
            one_word_fault room f g more (subst (IsFaultyWord room f) end bad) (subst (λ (k : ℕ). IsFaultyWord k g more) same_room worse)
        by_later (l ∷ later) e end = let len = ap length e in absurd (omega (arith, len, same, length-append ws (l ∷ later)))

-- ---- bytes that begin with `*`

abbrev Starred : List ℕ → Type 0
Starred bytes = (z : List ℕ) × (bytes ≡ 42 ∷ z)

word_starred : (bytes : List ℕ) (fault : RespFault) → WordAt bytes fault → Starred bytes
word_starred bytes fault (room, head, rest, (count, ws, less, within, all, fill, is), e, bad) = (number_line count ++ (words_bytes ws ++ rest), e ∙ open_parts count ws head rest is)

starred_big : (bytes : List ℕ) (fault : RespFault) → Starred bytes → BigAt bytes fault → ⊥
starred_big bytes fault (z, at) (same, (line, rest, front, long, e)) = front_no_star line rest z front.1 (omega (arith, long)) (sym e ∙ at)

starred_line : (bytes : List ℕ) (fault : RespFault) → Starred bytes → LineAt bytes fault → ⊥
starred_line bytes fault (z, at) (line, rest, (front, short, is), e, bad) = line_no_star line rest z front (sym e ∙ at)

bad_word : (bytes : List ℕ) (f g : RespFault) → BadAt bytes f → WordAt bytes g → ⊥
bad_word bytes f g (same, (rest, at, never)) (room, head, more, (count, ws, less, within, all, fill, is), e, bad) =
    let inner = tails 42 42 rest (number_line count ++ (words_bytes ws ++ more)) (sym at ∙ e ∙ open_parts count ws head more is) in
    never [] (number_line count) (words_bytes ws ++ more) (inl (count, within, refl)) (append-nil rest ∙ inner)

-- the longer of two fronts begins with the shorter and its next byte
longer : (a x b y : List ℕ) (c : ℕ) → length b < length a → a ++ x ≡ b ++ c ∷ y → (more : List ℕ) × (a ≡ b ++ c ∷ more)
longer [] x b y c less e = absurd (omega (arith, less))
longer (d ∷ a) x [] y c less e = (a, ap (λ (n : ℕ). n ∷ a) (heads d c (a ++ x) y e))
longer (d ∷ a) x (b ∷ bs) y c less e =
    let (more, is) = longer a x bs y c (omega (arith, less)) (tails d b (a ++ x) (bs ++ c ∷ y) e) in
    (more, ap (λ (n : ℕ). n ∷ a) (heads d b (a ++ x) (bs ++ c ∷ y) e) ∙ ap (λ (t : List ℕ). b ∷ t) is)

big_line : (bytes line x : List ℕ) (fault : RespFault) → BigAt bytes fault → IsLine line (line ++ 10 ∷ []) → bytes ≡ line ++ 10 ∷ x → ⊥
big_line bytes line x fault (same, (long, rest, front, more, e)) (other, short, is) f =
    let (after, parts) = longer long rest line x 10 (omega (arith, more, short)) (sym e ∙ f) in front.0 line after other.0 parts

one_line_fault : (f g : RespFault) (line : List ℕ) → IsFaultyLine f line → IsFaultyLine g line → f ≡ g
one_line_fault BadCount g line is js = absurd is
one_line_fault (NoDollar b) g line is js = absurd is
one_line_fault BadLength g line is js = absurd is
one_line_fault TooBigCommand g line is js = absurd is
one_line_fault NoNewline g line is js = absurd is
one_line_fault TooBigLine g line is js = absurd is
one_line_fault UnbalancedQuotes UnbalancedQuotes line is js = refl
one_line_fault UnbalancedQuotes TooManyWords line is (words, has, many) = absurd (is words has)
one_line_fault UnbalancedQuotes BadCount line is js = absurd js
one_line_fault UnbalancedQuotes (NoDollar b) line is js = absurd js
one_line_fault UnbalancedQuotes BadLength line is js = absurd js
one_line_fault UnbalancedQuotes TooBigCommand line is js = absurd js
one_line_fault UnbalancedQuotes NoNewline line is js = absurd js
one_line_fault UnbalancedQuotes TooBigLine line is js = absurd js
one_line_fault TooManyWords UnbalancedQuotes line (words, has, many) js = absurd (js words has)
one_line_fault TooManyWords TooManyWords line is js = refl
one_line_fault TooManyWords BadCount line is js = absurd js
one_line_fault TooManyWords (NoDollar b) line is js = absurd js
one_line_fault TooManyWords BadLength line is js = absurd js
one_line_fault TooManyWords TooBigCommand line is js = absurd js
one_line_fault TooManyWords NoNewline line is js = absurd js
one_line_fault TooManyWords TooBigLine line is js = absurd js

same_line : (bytes : List ℕ) (f g : RespFault) → LineAt bytes f → LineAt bytes g → f ≡ g
same_line bytes f g (line, rest, (front, short, is), e, bad) (other, more, (too, few, js), h, worse) =
    let (same, left) = one_cut ends_line line (10 ∷ rest) other (10 ∷ more) front.0 refl too.0 refl (sym e ∙ h) in
    one_line_fault f g line bad (subst (IsFaultyLine g) (sym same) worse)

-- ---- one fault, and no whole

abbrev Kinds : List ℕ → RespFault → Type 0
Kinds bytes fault = BadAt bytes fault ⊎ (WordAt bytes fault ⊎ (BigAt bytes fault ⊎ LineAt bytes fault))

one_kind : (bytes : List ℕ) (f g : RespFault) → Kinds bytes f → Kinds bytes g → f ≡ g
one_kind bytes f g (inl (e, is)) (inl (h, js)) = e ∙ sym h
one_kind bytes f g (inl is) (inr (inl js)) = absurd (bad_word bytes f g is js)
one_kind bytes f g (inl (e, (rest, at, never))) (inr (inr (inl js))) = absurd (starred_big bytes g (rest, at) js)
one_kind bytes f g (inl (e, (rest, at, never))) (inr (inr (inr js))) = absurd (starred_line bytes g (rest, at) js)
one_kind bytes f g (inr (inl is)) (inl js) = absurd (bad_word bytes g f js is)
one_kind bytes f g (inr (inl is)) (inr (inl js)) = one_open bytes f g is js
one_kind bytes f g (inr (inl is)) (inr (inr (inl js))) = absurd (starred_big bytes g (word_starred bytes f is) js)
one_kind bytes f g (inr (inl is)) (inr (inr (inr js))) = absurd (starred_line bytes g (word_starred bytes f is) js)
one_kind bytes f g (inr (inr (inl is))) (inl (h, (rest, at, never))) = absurd (starred_big bytes f (rest, at) is)
one_kind bytes f g (inr (inr (inl is))) (inr (inl js)) = absurd (starred_big bytes f (word_starred bytes g js) is)
one_kind bytes f g (inr (inr (inl (e, is)))) (inr (inr (inl (h, js)))) = e ∙ sym h
one_kind bytes f g (inr (inr (inl is))) (inr (inr (inr (line, rest, js, h, worse)))) = absurd (big_line bytes line rest f is js h)
one_kind bytes f g (inr (inr (inr is))) (inl (h, (rest, at, never))) = absurd (starred_line bytes f (rest, at) is)
one_kind bytes f g (inr (inr (inr is))) (inr (inl js)) = absurd (starred_line bytes f (word_starred bytes g js) is)
one_kind bytes f g (inr (inr (inr (line, rest, is, e, bad)))) (inr (inr (inl js))) = absurd (big_line bytes line rest g js is e)
one_kind bytes f g (inr (inr (inr is))) (inr (inr (inr js))) = same_line bytes f g is js

pub one_fault : (bytes : List ℕ) (f g : RespFault) → IsFaulty f bytes → IsFaulty g bytes → f ≡ g
one_fault bytes f g is js = one_kind bytes f g (kind bytes f is) (kind bytes g js)

kind_array : (bytes a x : List ℕ) (fault : RespFault) → Kinds bytes fault → IsSomeArray a → bytes ≡ a ++ x → ⊥
kind_array bytes a x fault (inl (same, (rest, at, never))) (inl (words, (are, all, top, is))) e =
    let inner = tails 42 42 rest (number_line (length words) ++ (words_bytes words ++ x)) (sym at ∙ e ∙ array_parts words a x is) in
    never [] (number_line (length words)) (words_bytes words ++ x) (inl (length words, are.1, refl)) (append-nil rest ∙ inner)
kind_array bytes a x fault (inl (same, (rest, at, never))) (inr (inl is)) e =
    never [] (number_line 0) x (inl (0, omega arith, refl)) (append-nil rest ∙ tails 42 42 rest (number_line 0 ++ x) (sym at ∙ e ∙ ap (λ (t : List ℕ). t ++ x) is))
kind_array bytes a x fault (inl (same, (rest, at, never))) (inr (inr (n, from, within, is))) e =
    never [] (45 ∷ number_line n) x (inr (n, from, within, refl)) (append-nil rest ∙ tails 42 42 rest (45 ∷ (number_line n ++ x)) (sym at ∙ e ∙ ap (λ (t : List ℕ). t ++ x) is))
kind_array bytes a x fault (inr (inl is)) array e = word_array bytes a x fault is array e
kind_array bytes a x fault (inr (inr (inl is))) array e =
    let (z, at) = star a array in starred_big bytes fault (z ++ x, e ∙ ap (λ (t : List ℕ). t ++ x) at) is
kind_array bytes a x fault (inr (inr (inr is))) array e =
    let (z, at) = star a array in starred_line bytes fault (z ++ x, e ∙ ap (λ (t : List ℕ). t ++ x) at) is

line_faulty : (fault : RespFault) (line : List ℕ) (words : List (List ℕ)) → IsFaultyLine fault line → HasWords line words → length words ≤ COMMAND_WORDS → ⊥
line_faulty BadCount line words is has few = is
line_faulty (NoDollar b) line words is has few = is
line_faulty BadLength line words is has few = is
line_faulty TooBigCommand line words is has few = is
line_faulty NoNewline line words is has few = is
line_faulty TooBigLine line words is has few = is
line_faulty UnbalancedQuotes line words is has few = is words has
line_faulty TooManyWords line words (others, too, many) has few =
    let same = ap length (one_split line others words too has) in omega (arith, same, many, few)

kind_line : (bytes a line x : List ℕ) (words : List (List ℕ)) (fault : RespFault) → Kinds bytes fault → IsLine line a → HasWords line words → length words ≤ COMMAND_WORDS → bytes ≡ a ++ x → ⊥
kind_line bytes a line x words fault (inl (same, (rest, at, never))) (front, short, is) has few e = line_no_star line x rest front (sym (line_parts line a x is) ∙ sym e ∙ at)
kind_line bytes a line x words fault (inr (inl bad)) (front, short, is) has few e =
    let (z, at) = word_starred bytes fault bad in line_no_star line x z front (sym (line_parts line a x is) ∙ sym e ∙ at)
kind_line bytes a line x words fault (inr (inr (inl bad))) (front, short, is) has few e = big_line bytes line x fault bad (front, short, refl) (e ∙ line_parts line a x is)
kind_line bytes a line x words fault (inr (inr (inr (other, rest, (too, long, js), h, bad)))) (front, short, is) has few e =
    let (same, left) = one_cut ends_line other (10 ∷ rest) line (10 ∷ x) too.0 refl front.0 refl (sym h ∙ e ∙ line_parts line a x is) in
    line_faulty fault line words (subst (IsFaultyLine fault) same bad) has few

pub no_whole : (bytes a x : List ℕ) (fault : RespFault) → IsFaulty fault bytes → IsWhole a → bytes ≡ a ++ x → ⊥
no_whole bytes a x fault is whole e = by_kind (whole_kind a whole)
  where
    by_kind : IsSomeArray a ⊎ ((line : List ℕ) × IsLine line a × ((words : List (List ℕ)) × HasWords line words × (length words ≤ COMMAND_WORDS))) → ⊥
    by_kind (inl array) = kind_array bytes a x fault (kind bytes fault is) array e
    by_kind (inr (line, js, (words, has, few))) = kind_line bytes a line x words fault (kind bytes fault is) js has few e

-- ---- more bytes

never_more : (Text : List ℕ → Type 0) (bytes more : List ℕ) → NeverBegins Text bytes → NeverBegins Text (bytes ++ more)
never_more Text bytes more never later text rest is e = never (more ++ later) text rest is (sym (append_assoc bytes more later) ∙ e)

after : (bytes a x more : List ℕ) → bytes ≡ a ++ x → bytes ++ more ≡ a ++ (x ++ more)
after bytes a x more e = ap (λ (t : List ℕ). t ++ more) e ∙ append_assoc a x more

word_stays : (room : ℕ) (fault : RespFault) (bytes more : List ℕ) → IsFaultyWord room fault bytes → IsFaultyWord room fault (bytes ++ more)
word_stays room BadCount bytes more is = is
word_stays room (NoDollar b) bytes more (rest, at, other) = (rest ++ more, ap (λ (t : List ℕ). t ++ more) at, other)
word_stays room BadLength bytes more (rest, at, much, never) = (rest ++ more, ap (λ (t : List ℕ). t ++ more) at, much, never_more (IsNumberLine WORD_BYTES) rest more never)
word_stays room TooBigCommand bytes more (rest, at, little, never) = (rest ++ more, ap (λ (t : List ℕ). t ++ more) at, little, never_more (IsNumberLine room) rest more never)
word_stays room NoNewline bytes more (word, rest, is, within, at, never) = (
  word,
  rest ++ more,
  is,
  within,
  ap (λ (t : List ℕ). t ++ more) at ∙ ap (λ (t : List ℕ). 36 ∷ t) (append_assoc (number_line (length word)) (word ++ rest) more ∙ ap (λ (t : List ℕ). number_line (length word) ++ t) (append_assoc word rest more)),
  never_more IsNewline rest more never,
)
word_stays room TooBigLine bytes more is = is
word_stays room UnbalancedQuotes bytes more is = is
word_stays room TooManyWords bytes more is = is

open_stays : (fault : RespFault) (bytes more : List ℕ) → HasFaultyWord fault bytes → HasFaultyWord fault (bytes ++ more)
open_stays fault bytes more (room, head, rest, is, at, bad) = (room, head, rest ++ more, is, after bytes head rest more at, word_stays room fault rest more bad)

pub stays : (fault : RespFault) (bytes more : List ℕ) → IsFaulty fault bytes → IsFaulty fault (bytes ++ more)
stays BadCount bytes more (rest, at, never) = (rest ++ more, ap (λ (t : List ℕ). t ++ more) at, never_more IsCountLine rest more never)
stays (NoDollar b) bytes more is = open_stays (NoDollar b) bytes more is
stays BadLength bytes more is = open_stays BadLength bytes more is
stays TooBigCommand bytes more is = open_stays TooBigCommand bytes more is
stays NoNewline bytes more is = open_stays NoNewline bytes more is
stays TooBigLine bytes more (line, rest, front, long, at) = (line, rest ++ more, front, long, after bytes line rest more at)
stays UnbalancedQuotes bytes more (line, rest, is, at, bad) = (line, rest ++ more, is, after bytes line (10 ∷ rest) more at, bad)
stays TooManyWords bytes more (line, rest, is, at, bad) = (line, rest ++ more, is, after bytes line (10 ∷ rest) more at, bad)

pub begun_faulty : (bytes : List ℕ) (fault : RespFault) → IsBegun bytes → IsFaulty fault bytes → ⊥
begun_faulty bytes fault (inl (more, (some, is))) bad =
    no_whole (bytes ++ more) (bytes ++ more) [] fault (stays fault bytes more bad) (array_whole (bytes ++ more) is) (sym (append-nil (bytes ++ more)))
begun_faulty bytes fault (inr (front, short)) bad = by_kind (kind bytes fault bad)
  where
    by_kind : Kinds bytes fault → ⊥
    by_kind (inl (same, (rest, at, never))) = front.1 rest at
    by_kind (inr (inl is)) = let (z, at) = word_starred bytes fault is in front.1 z at
    by_kind (inr (inr (inl (same, (line, rest, other, long, e))))) =
        let len = ap length e in omega (arith, len, long, short, length-append line rest)
    by_kind (inr (inr (inr (line, rest, (other, few, same), e, worse)))) = front.0 line rest other.0 e

-- ---- the laws

pub one_reading : (bytes : List ℕ) (a b : Reading) → IsReading bytes a → IsReading bytes b → a ≡ b
one_reading bytes (command v x) (command w y) (f, is, e) (g, js, h) =
    let (same, left) = commands v w f g x y is js (sym e ∙ h) in ap (λ (t : List (List ℕ)). command t x) same ∙ ap (command w) left
one_reading bytes (command v x) (nothing y) (f, is, e) (g, js, h) = absurd (command_ignored v f g x y is js (sym e ∙ h))
one_reading bytes (command v x) part (f, is, e) js = absurd (begun_whole bytes f x js (inl (v, is)) e)
one_reading bytes (command v x) (faulty fault) (f, is, e) js = absurd (no_whole bytes f x fault js (inl (v, is)) e)
one_reading bytes (nothing x) (command w y) (f, is, e) (g, js, h) = absurd (command_ignored w g f y x js is (sym h ∙ e))
one_reading bytes (nothing x) (nothing y) (f, is, e) (g, js, h) = ap nothing (ignored f g x y is js (sym e ∙ h))
one_reading bytes (nothing x) part (f, is, e) js = absurd (begun_whole bytes f x js (inr is) e)
one_reading bytes (nothing x) (faulty fault) (f, is, e) js = absurd (no_whole bytes f x fault js (inr is) e)
one_reading bytes part (command w y) is (g, js, h) = absurd (begun_whole bytes g y is (inl (w, js)) h)
one_reading bytes part (nothing y) is (g, js, h) = absurd (begun_whole bytes g y is (inr js) h)
one_reading bytes part part is js = refl
one_reading bytes part (faulty fault) is js = absurd (begun_faulty bytes fault is js)
one_reading bytes (faulty fault) (command w y) is (g, js, h) = absurd (no_whole bytes g y fault is (inl (w, js)) h)
one_reading bytes (faulty fault) (nothing y) is (g, js, h) = absurd (no_whole bytes g y fault is (inr js) h)
one_reading bytes (faulty fault) part is js = absurd (begun_faulty bytes fault js is)
one_reading bytes (faulty fault) (faulty other) is js = ap faulty (one_fault bytes fault other is js)

pub readings_stay : (bytes more : List ℕ) (a : Reading) → a ≢ part → IsReading bytes a → IsReading (bytes ++ more) (with_more a more)
readings_stay bytes more (command v x) whole (f, is, e) = (f, is, after bytes f x more e)
readings_stay bytes more (nothing x) whole (f, is, e) = (f, is, after bytes f x more e)
readings_stay bytes more part whole is = absurd (whole refl)
readings_stay bytes more (faulty fault) whole is = stays fault bytes more is
