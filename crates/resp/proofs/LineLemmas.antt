-- Words of a line.
use Rattle.std.proofs.Common.{arith, ◌≡◌, ◌≢◌, inl, inr, ℕ, ◌<◌, ◌≤◌, Bool, true, false, not, ◌||◌, nat_eq, List, [], ◌∷◌, ◌++◌, length, refl, sym, ap, subst, ◌∙◌, append_assoc, append-nil, Bor}
use Rattle.std.proofs.lemmas.Bool.Decides.{nat_tests}
use Rattle.std.proofs.lemmas.List.{map-append, length-append}
use Rattle.std.proofs.lemmas.List.Elements.{All-append, All-nil, All-cons, All-head, All-tail}
use Rattle.resp.specs.declared.limits.TheConstants.{LINE_BYTES}
use Rattle.resp.specs.declared.fault.RespFault.TheVariants.{BadCount, NoDollar, BadLength, TooBigCommand, NoNewline, TooBigLine, UnbalancedQuotes, TooManyWords}
use Rattle.resp.specs.declared.fault.NextFault.{NextFault}
use Rattle.resp.specs.declared.fault.NextFault.TheVariants.{Faulty, NoMemory}
use Rattle.resp.specs.Streams.{StopsAt, HasNo}
use Rattle.resp.specs.Grammar.{texts, ends_line, IsLineFront, IsOpenLine, AreWords, Spells, IsIgnored, IsFaultyLine, IsFaulty}
use Rattle.resp.specs.LineWords.{is_gap, is_blank, is_no_blank, is_quote, ends_plain, IsInQuotes, BeginsPlain, BeginsQuoted, BeginsWord, AreBlanks, HasWords}
use Rattle.resp.specs.Reading.{CutsBefore, EndsQuoted, NoWord, IfFaulty, Refuses}
use Rattle.resp.proofs.QuoteLemmas.{one_quoted, quoted_shorter}
use Rattle.resp.proofs.StreamLemmas.{heads, tails, true_or_false, one_cut}

-- ---- kinds of bytes

false_both : (a b : Bool) → (a || b) ≡ false → (a ≡ false) × (b ≡ false)
false_both true b e = absurd cc
false_both false b e = (refl, e)

true_left : (a b : Bool) → a ≡ true → (a || b) ≡ true
true_left a b e = ap (λ (x : Bool). x || b) e

not_true : (a : Bool) → a ≡ true → not a ≡ false
not_true a e = ap not e

not_false : (a : Bool) → not a ≡ false → a ≡ true
not_false true e = refl
not_false false e = absurd cc

same_byte : (a b : ℕ) → nat_eq a b ≡ true → a ≡ b
same_byte a b e = grind (arith, nat_tests, e)

quote_is : (q : ℕ) → is_quote q ≡ true → is_blank q ≡ false
quote_is q e = by_first (nat_eq q 34) refl
  where
    by_first : (b : Bool) → nat_eq q 34 ≡ b → is_blank q ≡ false
    by_first true f = ap is_blank (same_byte q 34 f)
    by_first false f = ap is_blank (same_byte q 39 (ap (λ (x : Bool). x || nat_eq q 39) (sym f) ∙ e))

gap_blank : (b : ℕ) → is_blank b ≡ false → is_gap b ≡ false
gap_blank b e = (false_both (is_gap b) (nat_eq b 11 || nat_eq b 12) e).0

no_gap : (q : ℕ) → is_quote q ≡ true → is_gap q ≡ false
no_gap q e = gap_blank q (quote_is q e)

gap_stops : (rest : List ℕ) → StopsAt is_gap rest → StopsAt ends_plain rest
gap_stops [] stops = tt
gap_stops (b ∷ rest) stops = true_left (is_gap b) (is_quote b) stops

quote_stops : (q : ℕ) → is_quote q ≡ true → ends_plain q ≡ true
quote_stops q e = ap (λ (x : Bool). is_gap q || x) e ∙ ap (λ (x : Bool). x || true) (no_gap q e)

are_blanks : (xs : List ℕ) → HasNo is_no_blank xs → AreBlanks xs
are_blanks [] none = All-nil (λ b. is_blank b ≡ true)
are_blanks (b ∷ xs) none =
    All-cons (λ c. is_blank c ≡ true) b xs (not_false (is_blank b) (All-head (λ c. is_no_blank c ≡ false) b xs none)) (are_blanks xs (All-tail (λ c. is_no_blank c ≡ false) b xs none))

pub no_others : (xs : List ℕ) → AreBlanks xs → HasNo is_no_blank xs
no_others [] all = All-nil (λ b. is_no_blank b ≡ false)
no_others (b ∷ xs) all =
    All-cons (λ c. is_no_blank c ≡ false) b xs (not_true (is_blank b) (All-head (λ c. is_blank c ≡ true) b xs all)) (no_others xs (All-tail (λ c. is_blank c ≡ true) b xs all))

pub blanks_after : (xs ys : List ℕ) → AreBlanks (xs ++ ys) → AreBlanks ys
blanks_after [] ys all = all
blanks_after (b ∷ xs) ys all = blanks_after xs ys (All-tail (λ c. is_blank c ≡ true) b (xs ++ ys) all)

-- ---- a word

pub begins_shorter : (bytes word rest : List ℕ) → BeginsWord bytes word rest → length rest < length bytes
begins_shorter bytes word rest (inl (some, none, stops, e)) = omega (arith, some, ap length e, length-append word rest)
begins_shorter bytes word rest (inr (plain, quote, inside, quoted, none, is, e, inq, stops, w)) =
    omega (arith, ap length e, length-append plain (quote ∷ inside), quoted_shorter quote inside quoted rest inq)

-- bytes that begin with no blank are not only blanks
some_other : (bytes : List ℕ) → 1 ≤ length bytes → StopsAt is_no_blank bytes → AreBlanks bytes → ⊥
some_other [] more stops is = absurd (omega (arith, more))
some_other (b ∷ bytes) more stops is =
    true_or_false (is_no_blank b) stops (ap not (All-head (λ c. is_blank c ≡ true) b bytes is))

pub word_no_blanks : (bytes word rest : List ℕ) → StopsAt is_no_blank bytes → BeginsWord bytes word rest → AreBlanks bytes → ⊥
word_no_blanks bytes word rest start begins all = some_other bytes (omega (arith, begins_shorter bytes word rest begins)) start all

plain_and_quoted : (bytes v x w y : List ℕ) → BeginsPlain bytes v x → BeginsQuoted bytes w y → ⊥
plain_and_quoted bytes v x w y (some, none, stops, e) (plain, quote, inside, quoted, clean, is, f, inq, ends, g) =
    let (same, left) = one_cut ends_plain v x plain (quote ∷ inside) none (gap_stops x stops) clean (quote_stops quote is) (sym e ∙ f) in
    true_or_false (is_gap quote) (subst (StopsAt is_gap) left stops) (no_gap quote is)

-- bytes begin with one word
pub one_begun : (bytes v x w y : List ℕ) → BeginsWord bytes v x → BeginsWord bytes w y → (v ≡ w) × (x ≡ y)
one_begun bytes v x w y (inl (some, none, stops, e)) (inl (more, clean, ends, f)) =
    one_cut ends_plain v x w y none (gap_stops x stops) clean (gap_stops y ends) (sym e ∙ f)
one_begun bytes v x w y (inl is) (inr js) = absurd (plain_and_quoted bytes v x w y is js)
one_begun bytes v x w y (inr is) (inl js) = absurd (plain_and_quoted bytes w y v x js is)
one_begun bytes v x w y (inr (plain, quote, inside, quoted, none, is, e, inq, stops, g)) (inr (front, other, within, more, clean, too, f, read, ends, h)) =
    let (same, left) = one_cut ends_plain plain (quote ∷ inside) front (other ∷ within) none (quote_stops quote is) clean (quote_stops other too) (sym e ∙ f) in
    let alike : quote ≡ other = heads quote other inside within left in
    let begun : IsInQuotes quote inside more y = subst (λ (t : List ℕ). IsInQuotes quote t more y) (sym (tails quote other inside within left)) (subst (λ (q : ℕ). IsInQuotes q within more y) (sym alike) read) in
    let (word, rest) = one_quoted quote inside quoted x more y inq begun in
    (g ∙ ap (λ (t : List ℕ). t ++ quoted) same ∙ ap (λ (t : List ℕ). front ++ t) word ∙ sym h, rest)

-- ---- a word at the front

pub no_quoted : (bytes plain tail inside : List ℕ) (quote : ℕ) → CutsBefore ends_plain bytes plain tail → is_quote quote ≡ true → tail ≡ quote ∷ inside → ((word rest : List ℕ) → EndsQuoted plain quote inside word rest → ⊥) → NoWord bytes
no_quoted bytes plain tail inside quote (e, none, at) is f missing word rest (inl (some, clean, stops, g)) =
    let (same, left) = one_cut ends_plain plain tail word rest none at clean (gap_stops rest stops) (sym e ∙ g) in
    true_or_false (is_gap quote) (subst (StopsAt is_gap) (sym left ∙ f) stops) (no_gap quote is)
no_quoted bytes plain tail inside quote (e, none, at) is f missing word rest (inr (front, other, within, quoted, clean, too, g, inq, stops, h)) =
    let (same, left) = one_cut ends_plain plain tail front (other ∷ within) none at clean (quote_stops other too) (sym e ∙ g) in
    let both : quote ∷ inside ≡ other ∷ within = sym f ∙ left in
    let alike : quote ≡ other = heads quote other inside within both in
    let begun : IsInQuotes quote inside quoted rest = subst (λ (t : List ℕ). IsInQuotes quote t quoted rest) (sym (tails quote other inside within both)) (subst (λ (q : ℕ). IsInQuotes q within quoted rest) (sym alike) inq) in
    missing word rest (quoted, begun, stops, h ∙ ap (λ (t : List ℕ). t ++ quoted) (sym same))

-- a word whose quotes are followed by more of it, or have no end
pub no_other_end : (plain inside quoted rest : List ℕ) (quote : ℕ) → IsInQuotes quote inside quoted rest → (StopsAt is_blank rest → ⊥) → (word other : List ℕ) → EndsQuoted plain quote inside word other → ⊥
no_other_end plain inside quoted rest quote inq no_stop word other (more, begun, stops, e) =
    let (same, left) = one_quoted quote inside quoted rest more other inq begun in
    no_stop (subst (StopsAt is_blank) (sym left) stops)

pub unbalanced : (plain inside : List ℕ) (quote : ℕ) → ((quoted rest : List ℕ) → IsInQuotes quote inside quoted rest → ⊥) → (word rest : List ℕ) → EndsQuoted plain quote inside word rest → ⊥
unbalanced plain inside quote none word rest (quoted, inq, stops, e) = none quoted rest inq

-- ---- words up to a rest

-- the line has these words and then those of the rest, and no others
abbrev pub GoesOn : List ℕ → List (List ℕ) → List ℕ → Type 0
GoesOn line words rest =
    ((more : List (List ℕ)) → HasWords rest more → HasWords line (words ++ more))
    × ((all : List (List ℕ)) → HasWords line all → (more : List (List ℕ)) × (all ≡ words ++ more) × HasWords rest more)

pub goes_on_then : (a b c : List ℕ) (u v : List (List ℕ)) → GoesOn a u b → GoesOn b v c → GoesOn a (u ++ v) c
goes_on_then a b c u v (on, back) (later, before) = (
  λ more has. subst (HasWords a) (sym (append_assoc u v more)) (on (v ++ more) (later more has)),
  λ all has.
      let (more, e, rest) = back all has in
      let (last, f, end) = before more rest in
      (last, e ∙ ap (λ (t : List (List ℕ)). u ++ t) f ∙ sym (append_assoc u v last), end),
)

-- the first word, if no blank comes before it
first_word : (bytes : List ℕ) (w : List ℕ) (ws : List (List ℕ)) → StopsAt is_no_blank bytes → HasWords bytes (w ∷ ws) → (rest : List ℕ) × BeginsWord bytes w rest × HasWords rest ws
first_word bytes w ws start (blanks, tail, rest, all, stops, begins, e, later) =
    let (none, same) = one_cut is_no_blank [] bytes blanks tail (All-nil (λ b. is_no_blank b ≡ false)) start (no_others blanks all) stops e in
    (rest, subst (λ (t : List ℕ). BeginsWord t w rest) (sym same) begins, later)

pub goes_on_blanks : (line blanks rest : List ℕ) → CutsBefore is_no_blank line blanks rest → GoesOn line [] rest
goes_on_blanks line blanks rest (e, none, stops) = (on, back)
  where
    on : (more : List (List ℕ)) → HasWords rest more → HasWords line more
    on [] has = subst AreBlanks (sym e) (All-append (λ b. is_blank b ≡ true) blanks rest (are_blanks blanks none) has)
    on (w ∷ ws) (gap, bytes, tail, all, ends, begins, f, later) = (
      blanks ++ gap,
      bytes,
      tail,
      All-append (λ b. is_blank b ≡ true) blanks gap (are_blanks blanks none) all,
      ends,
      begins,
      e ∙ ap (λ (t : List ℕ). blanks ++ t) f ∙ sym (append_assoc blanks gap bytes),
      later,
    )

    back : (all : List (List ℕ)) → HasWords line all → (more : List (List ℕ)) × (all ≡ more) × HasWords rest more
    back [] has = ([], refl, blanks_after blanks rest (subst AreBlanks e has))
    back (w ∷ ws) (gap, bytes, tail, all, ends, begins, f, later) =
        let (same, left) = one_cut is_no_blank blanks rest gap bytes none stops (no_others gap all) ends (sym e ∙ f) in
        (w ∷ ws, refl, ([], bytes, tail, All-nil (λ b. is_blank b ≡ true), ends, begins, left, later))

pub goes_on_word : (bytes word rest : List ℕ) → StopsAt is_no_blank bytes → BeginsWord bytes word rest → GoesOn bytes (word ∷ []) rest
goes_on_word bytes word rest start begins = (on, back)
  where
    on : (more : List (List ℕ)) → HasWords rest more → HasWords bytes (word ∷ more)
    on more has = ([], bytes, rest, All-nil (λ b. is_blank b ≡ true), start, begins, refl, has)

    back : (all : List (List ℕ)) → HasWords bytes all → (more : List (List ℕ)) × (all ≡ word ∷ more) × HasWords rest more
    back [] has = absurd (word_no_blanks bytes word rest start begins has)
    back (w ∷ ws) has =
        let (tail, other, later) = first_word bytes w ws start has in
        let (same, left) = one_begun bytes word rest w tail begins other in
        (ws, ap (λ (v : List ℕ). v ∷ ws) (sym same), subst (λ (t : List ℕ). HasWords t ws) (sym left) later)

texts_more : (ws : List (Bor (List ℕ))) (w : Bor (List ℕ)) → texts (ws ++ w ∷ []) ≡ texts ws ++ w.now ∷ []
texts_more ws w = map-append (λ word. word.now) ws (w ∷ [])

pub goes_on_more : (line bytes tail blanks rest : List ℕ) (ws : List (Bor (List ℕ))) (w : Bor (List ℕ)) → GoesOn line (texts ws) bytes → StopsAt is_no_blank bytes → BeginsWord bytes w.now tail → CutsBefore is_no_blank tail blanks rest → GoesOn line (texts (ws ++ w ∷ [])) rest
goes_on_more line bytes tail blanks rest ws w on start begins cut =
    let word = goes_on_then line bytes tail (texts ws) (w.now ∷ []) on (goes_on_word bytes w.now tail start begins) in
    let gap = goes_on_then line tail rest (texts ws ++ w.now ∷ []) [] word (goes_on_blanks tail blanks rest cut) in
    subst (λ (t : List (List ℕ)). GoesOn line t rest) (append-nil (texts ws ++ w.now ∷ []) ∙ sym (texts_more ws w)) gap

pub all_words : (line rest : List ℕ) (words : List (List ℕ)) → GoesOn line words rest → rest ≡ [] → HasWords line words
all_words line rest words (on, back) none =
    subst (HasWords line) (append-nil words) (on [] (subst AreBlanks (sym none) (All-nil (λ b. is_blank b ≡ true))))

pub no_words : (line rest : List ℕ) (words : List (List ℕ)) → GoesOn line words rest → 1 ≤ length rest → StopsAt is_no_blank rest → NoWord rest → IsFaultyLine UnbalancedQuotes line
no_words line rest words (on, back) some start none all has =
    let (more, e, left) = back all has in by_more more left
  where
    by_more : (more : List (List ℕ)) → HasWords rest more → ⊥
    by_more [] is = some_other rest some start is
    by_more (w ∷ ws) is = let (tail, begins, later) = first_word rest w ws start is in none w tail begins

-- ---- the line of a command

line_front : (bytes line tail : List ℕ) → ((rest : List ℕ) → bytes ≢ 42 ∷ rest) → CutsBefore ends_line bytes line tail → IsLineFront line
line_front bytes line tail star (e, none, stops) = (none, λ rest f. star (rest ++ tail) (e ∙ ap (λ (t : List ℕ). t ++ tail) f))

pub has_newline : (line x : List ℕ) → HasNo ends_line (line ++ 10 ∷ x) → ⊥
has_newline [] x none = true_or_false (ends_line 10) refl (All-head (λ b. ends_line b ≡ false) 10 x none)
has_newline (b ∷ line) x none = has_newline line x (All-tail (λ c. ends_line c ≡ false) b (line ++ 10 ∷ x) none)

pub open_line : (bytes line tail : List ℕ) → ((rest : List ℕ) → bytes ≢ 42 ∷ rest) → CutsBefore ends_line bytes line tail → ((rest : List ℕ) → tail ≢ 10 ∷ rest) → IsOpenLine bytes
open_line bytes line tail star (e, none, stops) missing = (by_line, star)
  where
    by_line : (l r : List ℕ) → HasNo ends_line l → bytes ≢ l ++ 10 ∷ r
    by_line l r clean f = missing r ((one_cut ends_line line tail l (10 ∷ r) none stops clean refl (sym e ∙ f)).1)

pub too_big : (bytes line tail : List ℕ) → ((rest : List ℕ) → bytes ≢ 42 ∷ rest) → CutsBefore ends_line bytes line tail → LINE_BYTES < length line → IsFaulty TooBigLine bytes
too_big bytes line tail star cut long =
    (line, tail, (λ l r none e. has_newline l r (subst (HasNo ends_line) e cut.1), (line_front bytes line tail star cut).1), long, cut.0)

whole_line : (bytes line tail rest : List ℕ) → CutsBefore ends_line bytes line tail → tail ≡ 10 ∷ rest → bytes ≡ (line ++ 10 ∷ []) ++ rest
whole_line bytes line tail rest cut f = cut.0 ∙ ap (λ (t : List ℕ). line ++ t) f ∙ sym (append_assoc line (10 ∷ []) rest)

pub line_refused : (bytes line tail rest : List ℕ) (next : NextFault) → ((rest : List ℕ) → bytes ≢ 42 ∷ rest) → CutsBefore ends_line bytes line tail → length line ≤ LINE_BYTES → tail ≡ 10 ∷ rest → IfFaulty next (λ fault. IsFaultyLine fault line) → Refuses bytes next
line_refused bytes line tail rest NoMemory star cut short f has = tt
line_refused bytes line tail rest (Faulty BadCount) star cut short f has = absurd has
line_refused bytes line tail rest (Faulty (NoDollar b)) star cut short f has = absurd has
line_refused bytes line tail rest (Faulty BadLength) star cut short f has = absurd has
line_refused bytes line tail rest (Faulty TooBigCommand) star cut short f has = absurd has
line_refused bytes line tail rest (Faulty NoNewline) star cut short f has = absurd has
line_refused bytes line tail rest (Faulty TooBigLine) star cut short f has = absurd has
line_refused bytes line tail rest (Faulty UnbalancedQuotes) star cut short f has =
    (line, rest, (line_front bytes line tail star cut, short, refl), cut.0 ∙ ap (λ (t : List ℕ). line ++ t) f, has)
line_refused bytes line tail rest (Faulty TooManyWords) star cut short f has =
    (line, rest, (line_front bytes line tail star cut, short, refl), cut.0 ∙ ap (λ (t : List ℕ). line ++ t) f, has)

pub empty_line : (bytes line tail rest : List ℕ) (words : List (List ℕ)) → ((rest : List ℕ) → bytes ≢ 42 ∷ rest) → CutsBefore ends_line bytes line tail → length line ≤ LINE_BYTES → tail ≡ 10 ∷ rest → HasWords line words → words ≡ [] → (front : List ℕ) × IsIgnored front × (bytes ≡ front ++ rest)
empty_line bytes line tail rest words star cut short f has none =
    (line ++ 10 ∷ [], inr (line, (line_front bytes line tail star cut, short, refl), subst (HasWords line) none has), whole_line bytes line tail rest cut f)

pub command_line : (bytes line tail rest : List ℕ) (words : List (List ℕ)) → ((rest : List ℕ) → bytes ≢ 42 ∷ rest) → CutsBefore ends_line bytes line tail → length line ≤ LINE_BYTES → tail ≡ 10 ∷ rest → HasWords line words → AreWords words → (front : List ℕ) × Spells words front × (bytes ≡ front ++ rest)
command_line bytes line tail rest words star cut short f has are =
    (line ++ 10 ∷ [], inr (line, are, (line_front bytes line tail star cut, short, refl), has), whole_line bytes line tail rest cut f)
