-- Arrays that are whole, begun or refused.
use Rattle.std.proofs.Common.{arith, ◌≡◌, ◌≢◌, inl, inr, ℕ, zero, suc, ◌+◌, ◌-◌, ◌<◌, ◌≤◌, ◌^◌, false, List, [], ◌∷◌, ◌++◌, length, refl, sym, ap, subst, ◌∙◌, append_assoc, append-nil, decimal, All, Bor}
use Rattle.std.proofs.lemmas.List.{length-append, length-map, map-append}
use Rattle.std.proofs.lemmas.List.Elements.{All-append, All-nil, All-cons, All-head}
use Rattle.std.proofs.lemmas.List.Concat.{flat_map-append}
use Rattle.std.proofs.lemmas.List.Sums.{sum_by-append, sum_by-cons}
use Rattle.std.proofs.lemmas.Fmt.{decimal_digit, decimal_injective}
use Rattle.resp.specs.declared.limits.TheConstants.{COMMAND_WORDS, COMMAND_BYTES}
use Rattle.resp.specs.declared.fault.RespFault.{RespFault}
use Rattle.resp.specs.declared.fault.RespFault.TheVariants.{BadCount, NoDollar, BadLength, TooBigCommand, NoNewline, TooBigLine, UnbalancedQuotes, TooManyWords}
use Rattle.resp.specs.declared.fault.NextFault.{NextFault}
use Rattle.resp.specs.declared.fault.NextFault.TheVariants.{Faulty, NoMemory}
use Rattle.resp.specs.Streams.{IsFrontOf, NeverBegins, HasNo}
use Rattle.resp.specs.Grammar.{newline, number_line, word_bytes, words_bytes, array_bytes, bytes_of, texts, IsWord, IsCountLine, IsNumberLine, IsFaulty, IsBegun, Spells, IsIgnored}
use Rattle.resp.specs.Reading.{IsPositiveLine, LacksWords, FailsWords, IfFaulty, Refuses, is_other}
use Rattle.resp.proofs.StreamLemmas.{heads, tails, true_or_false}
use Rattle.resp.proofs.NumberLemmas.{at_least, zero_alone, decimal_digits}

-- empty words, to fill an array

blanks_are : (n : ℕ) → (ws : List (List ℕ)) × (length ws ≡ n) × All IsWord ws × (bytes_of ws ≡ 0)
blanks_are zero = ([], refl, All-nil IsWord, refl)
blanks_are (suc n) =
    let (ws, len, all, none) = blanks_are n in
    ([] ∷ ws, ap suc len, All-cons IsWord [] ws (omega arith) all, omega (arith, sum_by-cons length [] ws, none))

-- ---- the count

starts_zero : (n : ℕ) (x : List ℕ) → n ≡ 0 → number_line n ++ x ≡ 48 ∷ (newline ++ x)
starts_zero n x none = ap (λ (k : ℕ). number_line k ++ x) none ∙ ap (λ (t : List ℕ). (t ++ newline) ++ x) (decimal_digit 0 (omega arith))

pub no_zero : (bytes rest : List ℕ) → bytes ≡ 48 ∷ rest → NeverBegins IsPositiveLine bytes
no_zero bytes rest e more text after (n, some, within, is) f =
    let small : n < 2 ^ 64 = omega (arith, within) in
    let digits : HasNo is_other (48 ∷ []) = All-cons (λ b. is_other b ≡ false) 48 [] refl (All-nil (λ b. is_other b ≡ false)) in
    let whole : bytes ++ more ≡ decimal n ++ (newline ++ after) = f ∙ ap (λ (t : List ℕ). t ++ after) is ∙ append_assoc (decimal n) newline after in
    let (es, same, up) = at_least n (48 ∷ []) rest more (newline ++ after) bytes small digits e refl whole in
    let alone = zero_alone n es small same in
    let zero_is : n ≡ 0 = decimal_injective n 0 small (omega arith) (same ∙ ap (λ (t : List ℕ). 48 ∷ t) alone ∙ sym (decimal_digit 0 (omega arith))) in
    absurd (omega (arith, zero_is, some))

pub is_positive : (bytes rest : List ℕ) (n : ℕ) → ((t : List ℕ) → bytes ≢ 48 ∷ t) → n ≤ 2 ^ 63 → bytes ≡ number_line n ++ rest → (front : List ℕ) × IsPositiveLine front × (bytes ≡ front ++ rest)
is_positive bytes rest zero none within e = absurd (none (newline ++ rest) (e ∙ starts_zero zero rest refl))
is_positive bytes rest (suc n) none within e = (number_line (suc n), (suc n, omega arith, within, refl), e)

one_line : (bytes : List ℕ) → bytes ≡ [] → IsFrontOf IsPositiveLine bytes
one_line bytes none =
    (49 ∷ newline, (omega arith, (1, omega arith, omega arith, ap (λ (t : List ℕ). t ++ 49 ∷ newline) none ∙ ap (λ (t : List ℕ). t ++ newline) (sym (decimal_digit 1 (omega arith))))))

pub positive_goes_on : (bytes : List ℕ) → ((t : List ℕ) → bytes ≢ 48 ∷ t) → IsFrontOf (IsNumberLine (2 ^ 63)) bytes → IsFrontOf IsPositiveLine bytes
positive_goes_on [] none front = one_line [] refl
positive_goes_on (b ∷ bytes) none (more, (some, (zero, within, is))) =
    let whole : b ∷ (bytes ++ more) ≡ 48 ∷ newline = is ∙ ap (λ (t : List ℕ). t ++ newline) (decimal_digit 0 (omega arith)) in
    absurd (none bytes (ap (λ (k : ℕ). k ∷ bytes) (heads b 48 (bytes ++ more) newline whole)))
positive_goes_on (b ∷ bytes) none (more, (some, (suc n, within, is))) = (more, (some, (suc n, omega arith, within, is)))

pub never_positive : (bytes : List ℕ) → NeverBegins (IsNumberLine (2 ^ 63)) bytes → NeverBegins IsPositiveLine bytes
never_positive bytes never more text rest (n, some, within, is) e = never more text rest (n, within, is) e

pub no_sign : (n : ℕ) (x y : List ℕ) → n < 2 ^ 64 → 45 ∷ x ≢ number_line n ++ y
no_sign n x y small e = by_digits (decimal n) (decimal_digits n small) (e ∙ append_assoc (decimal n) newline y)
  where
    by_digits : (ds : List ℕ) → HasNo is_other ds → 45 ∷ x ≢ ds ++ (newline ++ y)
    by_digits [] all f = absurd cc
    by_digits (d ∷ ds) all f =
        true_or_false (is_other d) (ap is_other (sym (heads 45 d x (ds ++ (newline ++ y)) f))) (All-head (λ b. is_other b ≡ false) d ds all)

pub never_negative : (digits : List ℕ) → NeverBegins IsPositiveLine digits → IsFaulty BadCount (42 ∷ 45 ∷ digits)
never_negative digits never = (45 ∷ digits, refl, none)
  where
    none : NeverBegins IsCountLine (45 ∷ digits)
    none more text rest (inl (n, within, is)) e = no_sign n (digits ++ more) rest (omega (arith, within)) (e ∙ ap (λ (t : List ℕ). t ++ rest) is)
    none more text rest (inr (n, some, within, is)) e =
        never more (number_line n) rest (n, some, within, refl) (tails 45 45 (digits ++ more) (number_line n ++ rest) (e ∙ ap (λ (t : List ℕ). t ++ rest) is))

pub negative_goes_on : (digits : List ℕ) → IsFrontOf IsPositiveLine digits → IsBegun (42 ∷ 45 ∷ digits)
negative_goes_on digits (more, (some, (n, from, within, is))) = inl (more, (some, inr (inr (n, from, within, ap (λ (t : List ℕ). 42 ∷ 45 ∷ t) is))))

pub negative_ignored : (digits rest : List ℕ) → (front : List ℕ) × IsPositiveLine front × (digits ≡ front ++ rest) → (front : List ℕ) × IsIgnored front × (42 ∷ 45 ∷ digits ≡ front ++ rest)
negative_ignored digits rest (front, (n, from, within, is), e) = (42 ∷ 45 ∷ front, inl (inr (n, from, within, ap (λ (t : List ℕ). 42 ∷ 45 ∷ t) is)), ap (λ (t : List ℕ). 42 ∷ 45 ∷ t) e)

-- ---- arrays after their count

pub no_count : (head : List ℕ) → ((t : List ℕ) → head ≢ 45 ∷ t) → NeverBegins (IsNumberLine COMMAND_WORDS) head → IsFaulty BadCount (42 ∷ head)
no_count head sign never = (head, refl, none head sign never)
  where
    none : (h : List ℕ) → ((t : List ℕ) → h ≢ 45 ∷ t) → NeverBegins (IsNumberLine COMMAND_WORDS) h → NeverBegins IsCountLine h
    none h other bad more text rest (inl is) e = bad more text rest is e
    none [] other bad more text rest (inr is) e = absurd (bad (number_line 0) (number_line 0) [] (0, omega arith, refl) (sym (append-nil (number_line 0))))
    none (b ∷ h) other bad more text rest (inr (n, some, within, is)) e =
        other h (ap (λ (k : ℕ). k ∷ h) (heads b 45 (h ++ more) (number_line n ++ rest) (e ∙ ap (λ (t : List ℕ). t ++ rest) is)))

pub count_goes_on : (head : List ℕ) → IsFrontOf (IsNumberLine COMMAND_WORDS) head → IsBegun (42 ∷ head)
count_goes_on head (more, (some, (zero, within, is))) = inl (more, (some, inr (inl (ap (λ (t : List ℕ). 42 ∷ t) is))))
count_goes_on head (more, (some, (suc n, within, is))) =
    let (ws, len, all, none) = blanks_are (suc n) in
    let whole : 42 ∷ (head ++ (more ++ words_bytes ws)) ≡ array_bytes ws =
    ap (λ (t : List ℕ). 42 ∷ t) (sym (append_assoc head more (words_bytes ws)) ∙ ap (λ (t : List ℕ). t ++ words_bytes ws) is ∙ ap (λ (k : ℕ). number_line k ++ words_bytes ws) (sym len)) in
    inl (more ++ words_bytes ws, (omega (arith, some, length-append more (words_bytes ws)), inl (ws, ((omega (arith, len), omega (arith, len, within)), all, omega (arith, none), whole))))

pub zero_ignored : (head rest : List ℕ) (n : ℕ) → n ≡ 0 → head ≡ number_line n ++ rest → (front : List ℕ) × IsIgnored front × (42 ∷ head ≡ front ++ rest)
zero_ignored head rest n none e = (42 ∷ number_line 0, inl (inl refl), ap (λ (t : List ℕ). 42 ∷ t) (e ∙ ap (λ (k : ℕ). number_line k ++ rest) none))

-- an array up to one of its words
open_array : (head body part : List ℕ) (count : ℕ) (ws : List (List ℕ)) → head ≡ number_line count ++ body → body ≡ words_bytes ws ++ part → 42 ∷ head ≡ (42 ∷ (number_line count ++ words_bytes ws)) ++ part
open_array head body part count ws e f = ap (λ (t : List ℕ). 42 ∷ t) (e ∙ ap (λ (t : List ℕ). number_line count ++ t) f ∙ sym (append_assoc (number_line count) (words_bytes ws) part))

pub whole_array : (head body rest : List ℕ) (count : ℕ) (ws : List (Bor (List ℕ))) → 1 ≤ count → count ≤ COMMAND_WORDS → head ≡ number_line count ++ body → length ws ≡ count → All IsWord (texts ws) → bytes_of (texts ws) ≤ COMMAND_BYTES → body ≡ words_bytes (texts ws) ++ rest → (front : List ℕ) × Spells (texts ws) front × (42 ∷ head ≡ front ++ rest)
whole_array head body rest count ws some within e len all fit f =
    let same : length (texts ws) ≡ count = length-map ws (λ word. word.now) ∙ len in (
      array_bytes (texts ws),
      inl ((omega (arith, same, some), omega (arith, same, within)), all, fit, refl),
      open_array head body rest count (texts ws) e f ∙ ap (λ (k : ℕ). (42 ∷ (number_line k ++ words_bytes (texts ws))) ++ rest) (sym same),
    )

pub array_goes_on : (head body : List ℕ) (count : ℕ) → count ≤ COMMAND_WORDS → head ≡ number_line count ++ body → LacksWords count body → IsBegun (42 ∷ head)
array_goes_on head body count within e (ws, part, room, less, all, left, f, (more, (some, (word, is, fits, g)))) =
    let (later, len, fill, none) = blanks_are (count - length ws - 1) in
    let words = ws ++ word ∷ later in
    let total : bytes_of words ≡ bytes_of ws + (length word + bytes_of later) = sum_by-append length ws (word ∷ later) ∙ ap (λ (k : ℕ). bytes_of ws + k) (sum_by-cons length word later) in
    let same : length words ≡ count = length-append ws (word ∷ later) ∙ omega (arith, len, less) in
    let spelled : words_bytes words ≡ words_bytes ws ++ (word_bytes word ++ words_bytes later) = flat_map-append word_bytes ws (word ∷ later) in
    let end = more ++ words_bytes later in
    let body_whole : part ++ end ≡ word_bytes word ++ words_bytes later = sym (append_assoc part more (words_bytes later)) ∙ ap (λ (t : List ℕ). t ++ words_bytes later) g in
    let whole : (42 ∷ head) ++ end ≡ array_bytes words =
    ap (λ (t : List ℕ). t ++ end) (open_array head body part count ws e f)
    ∙ ap (λ (t : List ℕ). 42 ∷ t) (append_assoc (number_line count ++ words_bytes ws) part end ∙ append_assoc (number_line count) (words_bytes ws) (part ++ end)
    ∙ ap (λ (t : List ℕ). number_line count ++ t) (ap (λ (t : List ℕ). words_bytes ws ++ t) body_whole ∙ sym spelled)
    ∙ ap (λ (k : ℕ). number_line k ++ words_bytes words) (sym same)) in
    let many : 1 ≤ length words = omega (arith, same, less) in
    inl (
      end,
      (
        omega (arith, some, length-append more (words_bytes later)),
        inl (words, ((many, omega (arith, same, within)), All-append IsWord ws (word ∷ later) all (All-cons IsWord word later is fill), omega (arith, total, none, left, fits), whole)),
      ),
    )

pub array_faulty : (head body : List ℕ) (count : ℕ) (fault : RespFault) → count ≤ COMMAND_WORDS → head ≡ number_line count ++ body → FailsWords count fault body → IsFaulty fault (42 ∷ head)
array_faulty head body count BadCount within e (ws, part, room, less, all, left, f, is) = absurd is
array_faulty head body count (NoDollar b) within e (ws, part, room, less, all, left, f, is) =
    (room, 42 ∷ (number_line count ++ words_bytes ws), part, (count, ws, less, within, all, left, refl), open_array head body part count ws e f, is)
array_faulty head body count BadLength within e (ws, part, room, less, all, left, f, is) =
    (room, 42 ∷ (number_line count ++ words_bytes ws), part, (count, ws, less, within, all, left, refl), open_array head body part count ws e f, is)
array_faulty head body count TooBigCommand within e (ws, part, room, less, all, left, f, is) =
    (room, 42 ∷ (number_line count ++ words_bytes ws), part, (count, ws, less, within, all, left, refl), open_array head body part count ws e f, is)
array_faulty head body count NoNewline within e (ws, part, room, less, all, left, f, is) =
    (room, 42 ∷ (number_line count ++ words_bytes ws), part, (count, ws, less, within, all, left, refl), open_array head body part count ws e f, is)
array_faulty head body count TooBigLine within e (ws, part, room, less, all, left, f, is) = absurd is
array_faulty head body count UnbalancedQuotes within e (ws, part, room, less, all, left, f, is) = absurd is
array_faulty head body count TooManyWords within e (ws, part, room, less, all, left, f, is) = absurd is

pub array_refused : (head body : List ℕ) (count : ℕ) (next : NextFault) → count ≤ COMMAND_WORDS → head ≡ number_line count ++ body → IfFaulty next (λ fault. FailsWords count fault body) → Refuses (42 ∷ head) next
array_refused head body count (Faulty fault) within e has = array_faulty head body count fault within e has
array_refused head body count NoMemory within e has = tt

-- ---- one word more

texts_more : (ws : List (Bor (List ℕ))) (w : Bor (List ℕ)) → texts (ws ++ w ∷ []) ≡ texts ws ++ w.now ∷ []
texts_more ws w = map-append (λ word. word.now) ws (w ∷ [])

pub bytes_more : (ws : List (Bor (List ℕ))) (w : Bor (List ℕ)) → bytes_of (texts (ws ++ w ∷ [])) ≡ bytes_of (texts ws) + length w.now
bytes_more ws w =
    ap bytes_of (texts_more ws w) ∙ sum_by-append length (texts ws) (w.now ∷ []) ∙ ap (λ (k : ℕ). bytes_of (texts ws) + k) (sum_by-cons length w.now [] ∙ omega arith)

pub all_more : (ws : List (Bor (List ℕ))) (w : Bor (List ℕ)) → All IsWord (texts ws) → IsWord w.now → All IsWord (texts (ws ++ w ∷ []))
all_more ws w all is = subst (All IsWord) (sym (texts_more ws w)) (All-append IsWord (texts ws) (w.now ∷ []) all (All-cons IsWord w.now [] is (All-nil IsWord)))

pub spelled_more : (bytes rest next : List ℕ) (ws : List (Bor (List ℕ))) (w : Bor (List ℕ)) → bytes ≡ words_bytes (texts ws) ++ rest → rest ≡ word_bytes w.now ++ next → bytes ≡ words_bytes (texts (ws ++ w ∷ [])) ++ next
spelled_more bytes rest next ws w e f =
    e ∙ ap (λ (t : List ℕ). words_bytes (texts ws) ++ t) f
    ∙ sym (append_assoc (words_bytes (texts ws)) (word_bytes w.now) next)
    ∙ ap (λ (t : List ℕ). (words_bytes (texts ws) ++ t) ++ next) (sym (append-nil (word_bytes w.now)))
    ∙ ap (λ (t : List ℕ). t ++ next) (sym (flat_map-append word_bytes (texts ws) (w.now ∷ [])) ∙ ap words_bytes (sym (texts_more ws w)))
