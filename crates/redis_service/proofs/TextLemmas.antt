-- Texts that commands make.
use Rattle.std.proofs.Common.{◌≡◌, ℕ, ℤ, suc, ◌+◌, ◌-◌, ◌≤◌, min, Bool, false, List, [], ◌++◌, length, take, drop, replicate, ap, sym, ◌∙◌, append_assoc, arith, if◌then◌else◌}
use Rattle.std.proofs.lemmas.List.{length-take, take_min, drop_min, drop-take, take_rest, take-replicate}
use Rattle.redis_service.specs.Texts.{place, is_backward, range_of, overwritten}

-- the bytes before a place that may be beyond the end
take_until : (n : ℕ) (xs : List ℕ) → take (min (min (length xs) n + 1) (length xs)) xs ≡ take (suc n) xs
take_until n xs = ap (λ (k : ℕ). take k xs) (omega arith) ∙ take_min (suc n) xs

-- the part between two places, of which each may be beyond the end
part_of_range : (from last : ℕ) (xs : List ℕ)
    → drop (min (min (length xs) from) (min (min (length xs) last + 1) (length xs))) (take (min (min (length xs) last + 1) (length xs)) xs)
    ≡ drop from (take (suc last) xs)
part_of_range from last xs =
    let until : ℕ = min (min (length xs) last + 1) (length xs) in
    let long : length (take until xs) ≡ until = length-take until xs ∙ omega arith in
    ap (λ (k : ℕ). drop k (take until xs)) (omega (arith, long)) ∙ drop_min from (take until xs) ∙ ap (λ (t : List ℕ). drop from t) (take_until last xs)

-- the part that a GETRANGE asks for
pub range_is : (start end : ℤ) (text : List ℕ) (from until : ℕ) → is_backward start end ≡ false
    → from ≡ min (min (length text) (place (length text) start)) until → until ≡ min (min (length text) (place (length text) end) + 1) (length text)
    → take (until - from) (drop from text) ≡ range_of start end text
range_is start end text from until forward from-is until-is =
    let whole : until ≡ from + (until - from) = omega (arith, from-is) in
    let p : ℕ = place (length text) start in
    let q : ℕ = place (length text) end in
    let rest : List ℕ = drop p (take (suc q) text) in
    let same : drop from (take until text) ≡ drop (min (min (length text) p) (min (min (length text) q + 1) (length text))) (take (min (min (length text) q + 1) (length text)) text) = cc (from-is, until-is) in
    sym (drop-take from (until - from) text) ∙ ap (λ (k : ℕ). drop from (take k text)) (sym whole) ∙ same ∙ part_of_range p q text
    ∙ ap (λ (b : Bool). if b then [] else rest) (sym forward)

-- a text that is written over, part by part
pub overwritten_is : (text more zeros z a b c d : List ℕ) (offset front end room : ℕ) → front ≡ min offset (length text) → end ≡ min (offset + length more) (length text)
    → zeros ≡ replicate room 0 → offset ≤ room → z ≡ [] → a ≡ z ++ take front text → b ≡ a ++ take (offset - front) zeros → c ≡ b ++ more
    → d ≡ c ++ take (length text - end) (drop end text) → d ≡ overwritten offset more text
overwritten_is text more zeros z a b c d offset front end room front-is end-is zeros-is wide z-is a-is b-is c-is d-is =
    let first : a ≡ take offset text = a-is ∙ ap (λ (t : List ℕ). t ++ take front text) z-is ∙ ap (λ (k : ℕ). take k text) front-is ∙ take_min offset text in
    let gap : take (offset - front) zeros ≡ replicate (offset - length text) 0 =
    ap (λ (t : List ℕ). take (offset - front) t) zeros-is ∙ take-replicate (offset - front) room 0 (omega arith)
    ∙ ap (λ (k : ℕ). replicate k 0) (omega arith) in
    let last : take (length text - end) (drop end text) ≡ drop (offset + length more) text =
    take_rest text end ∙ ap (λ (k : ℕ). drop k text) end-is ∙ drop_min (offset + length more) text in
    let front-whole : b ≡ take offset text ++ replicate (offset - length text) 0 = cc (b-is, first, gap) in
    let whole : d ≡ ((take offset text ++ replicate (offset - length text) 0) ++ more) ++ drop (offset + length more) text = cc (d-is, c-is, front-whole, last) in
    whole ∙ append_assoc (take offset text ++ replicate (offset - length text) 0) more (drop (offset + length more) text)
