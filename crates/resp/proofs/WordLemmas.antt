-- Words of an array.
use Rattle.std.proofs.Common.{arith, ◌≡◌, ℕ, ◌-◌, ◌<◌, ◌≤◌, List, [], ◌∷◌, ◌++◌, length, replicate, drop, sym, ap, ◌∙◌, append_assoc}
use Rattle.std.specs.List.{IsSplitAt}
use Rattle.std.proofs.lemmas.List.{length-append, length-replicate, take-append-drop}
use Rattle.resp.specs.declared.limits.TheConstants.{WORD_BYTES}
use Rattle.resp.specs.declared.fault.RespFault.TheVariants.{NoNewline}
use Rattle.resp.specs.Streams.{IsFrontOf, NeverBegins}
use Rattle.resp.specs.Grammar.{newline, number_line, word_bytes, IsWord, IsNumberLine, IsNewline, IsFaultyWord}
use Rattle.resp.specs.Reading.{IsWordText, IsLengthLine}

filler : (n : ℕ) → (w : List ℕ) × (length w ≡ n)
filler n = (replicate n 0, length-replicate n 0)

pub split_is : (xs front back : List ℕ) (mid : ℕ) → IsSplitAt xs mid front back → (xs ≡ front ++ back) × (length front ≡ mid)
split_is xs front back mid s =
    (sym (take-append-drop mid xs) ∙ ap (λ (t : List ℕ). t ++ drop mid xs) (sym s.1) ∙ ap (λ (t : List ℕ). front ++ t) (sym s.2), s.3)

-- ---- words that are not whole

pub word_of_nothing : (room : ℕ) (bytes : List ℕ) → bytes ≡ [] → IsFrontOf (IsWordText room) bytes
word_of_nothing room bytes none = (word_bytes [], (omega arith, ([], omega arith, omega arith, ap (λ (t : List ℕ). t ++ word_bytes []) none)))

pub length_line : (most room : ℕ) (bytes : List ℕ) → most ≤ WORD_BYTES → most ≤ room → IsFrontOf (IsNumberLine most) bytes → IsFrontOf (IsLengthLine room) bytes
length_line most room bytes few less (more, (some, (n, within, line))) = (more, (some, (n, omega (arith, within, few), omega (arith, within, less), line)))

pub length_goes_on : (room : ℕ) (bytes head : List ℕ) → bytes ≡ 36 ∷ head → IsFrontOf (IsLengthLine room) head → IsFrontOf (IsWordText room) bytes
length_goes_on room bytes head e (more, (some, (n, within, fits, line))) =
    let (word, len) = filler n in
    let all = more ++ (word ++ newline) in
    let whole : bytes ++ all ≡ word_bytes word =
    ap (λ (t : List ℕ). t ++ all) e
    ∙ ap (λ (t : List ℕ). 36 ∷ t) (sym (append_assoc head more (word ++ newline)) ∙ ap (λ (t : List ℕ). t ++ (word ++ newline)) line ∙ ap (λ (k : ℕ). number_line k ++ (word ++ newline)) (sym len)) in
    (all, (omega (arith, some, length-append more (word ++ newline)), (word, omega (arith, len, within), omega (arith, len, fits), whole)))

pub word_goes_on : (room : ℕ) (bytes head body : List ℕ) (n : ℕ) → bytes ≡ 36 ∷ head → head ≡ number_line n ++ body → n ≤ WORD_BYTES → n ≤ room → length body < n → IsFrontOf (IsWordText room) bytes
word_goes_on room bytes head body n e line within fits less =
    let (rest, len) = filler (n - length body) in
    let word = body ++ rest in
    let all : length word ≡ n = length-append body rest ∙ omega (arith, len, less) in
    let whole : bytes ++ (rest ++ newline) ≡ word_bytes word =
    ap (λ (t : List ℕ). t ++ (rest ++ newline)) e
    ∙ ap (λ (t : List ℕ). 36 ∷ t) (ap (λ (t : List ℕ). t ++ (rest ++ newline)) line ∙ append_assoc (number_line n) body (rest ++ newline)
    ∙ ap (λ (t : List ℕ). number_line n ++ t) (sym (append_assoc body rest newline)) ∙ ap (λ (k : ℕ). number_line k ++ (word ++ newline)) (sym all)) in
    (rest ++ newline, (omega (arith, len, less, length-append rest newline), (word, omega (arith, all, within), omega (arith, all, fits), whole)))

-- a word's parts
parts : (bytes head body word end : List ℕ) (n : ℕ) → bytes ≡ 36 ∷ head → head ≡ number_line n ++ body → body ≡ word ++ end → length word ≡ n → bytes ≡ 36 ∷ (number_line (length word) ++ (word ++ end))
parts bytes head body word end n e line split len =
    e ∙ ap (λ (t : List ℕ). 36 ∷ t) (line ∙ ap (λ (t : List ℕ). number_line n ++ t) split ∙ ap (λ (k : ℕ). number_line k ++ (word ++ end)) (sym len))

pub end_goes_on : (room : ℕ) (bytes head body word end : List ℕ) (n : ℕ) → bytes ≡ 36 ∷ head → head ≡ number_line n ++ body → n ≤ WORD_BYTES → n ≤ room → IsSplitAt body n word end → IsFrontOf IsNewline end → IsFrontOf (IsWordText room) bytes
end_goes_on room bytes head body word end n e line within fits split (more, (some, left)) =
    let (both, len) = split_is body word end n split in
    let whole : bytes ++ more ≡ word_bytes word =
    ap (λ (t : List ℕ). t ++ more) (parts bytes head body word end n e line both len)
    ∙ ap (λ (t : List ℕ). 36 ∷ t) (append_assoc (number_line (length word)) (word ++ end) more
    ∙ ap (λ (t : List ℕ). number_line (length word) ++ t) (append_assoc word end more ∙ ap (λ (t : List ℕ). word ++ t) left)) in
    (more, (some, (word, omega (arith, len, within), omega (arith, len, fits), whole)))

pub no_word_end : (room : ℕ) (bytes head body word end : List ℕ) (n : ℕ) → bytes ≡ 36 ∷ head → head ≡ number_line n ++ body → n ≤ WORD_BYTES → n ≤ room → IsSplitAt body n word end → NeverBegins IsNewline end → IsFaultyWord room NoNewline bytes
no_word_end room bytes head body word end n e line within fits split never =
    let (both, len) = split_is body word end n split in
    (word, end, omega (arith, len, within), omega (arith, len, fits), parts bytes head body word end n e line both len, never)

pub whole_word : (bytes head body word end rest : List ℕ) (n : ℕ) → bytes ≡ 36 ∷ head → head ≡ number_line n ++ body → n ≤ WORD_BYTES → IsSplitAt body n word end → end ≡ newline ++ rest → IsWord word × (bytes ≡ word_bytes word ++ rest)
whole_word bytes head body word end rest n e line within split left =
    let (both, len) = split_is body word end n split in (
      omega (arith, len, within),
      parts bytes head body word end n e line both len
          ∙ ap (λ (t : List ℕ). 36 ∷ t) (ap (λ (t : List ℕ). number_line (length word) ++ t) (ap (λ (t : List ℕ). word ++ t) left ∙ sym (append_assoc word newline rest))
          ∙ sym (append_assoc (number_line (length word)) (word ++ newline) rest)),
    )
