-- What is between quotes is read in one way.
use Rattle.std.proofs.Common.{arith, ◌≡◌, ◌≢◌, inl, inr, ℕ, ◌+◌, ◌*◌, ◌<◌, List, [], ◌∷◌, ◌++◌, length, refl, sym, ap, subst, ◌∙◌, append_assoc, append-nil}
use Rattle.std.specs.Char.{digit_value}
use Rattle.resp.specs.LineWords.{escaped, IsHex, IsDoubleItem, IsSingleItem, IsItem, IsInQuotes}
use Rattle.resp.proofs.StreamLemmas.{heads, tails}

-- ---- an item

one_hex : (bytes x y : List ℕ) (a b : ℕ) → IsHex bytes a x → IsHex bytes b y → (a ≡ b) × (x ≡ y)
one_hex bytes x y a b (high, low, h, l, is, e) (other, less, k, m, js, f) =
    let all : high ∷ low ∷ x ≡ other ∷ less ∷ y = tails 120 120 (high ∷ low ∷ x) (other ∷ less ∷ y) (sym e ∙ f) in
    let left : low ∷ x ≡ less ∷ y = tails high other (low ∷ x) (less ∷ y) all in (
      is
          ∙ ap (λ (n : ℕ). 16 * digit_value n + digit_value low) (heads high other (low ∷ x) (less ∷ y) all)
          ∙ ap (λ (n : ℕ). 16 * digit_value other + digit_value n) (heads low less x y left)
          ∙ sym js,
      tails low less x y left,
    )

no_backslash : (b : ℕ) (bytes x y : List ℕ) → bytes ≡ 92 ∷ x → bytes ≡ b ∷ y → b ≢ 92 → ⊥
no_backslash b bytes x y e f unlike = unlike (sym (heads 92 b x y (sym e ∙ f)))

one_byte : (bytes x y : List ℕ) (a b : ℕ) → bytes ≡ a ∷ x → bytes ≡ b ∷ y → (a ≡ b) × (x ≡ y)
one_byte bytes x y a b e f = (heads a b x y (sym e ∙ f), tails a b x y (sym e ∙ f))

one_double : (bytes x y : List ℕ) (a b : ℕ) → IsDoubleItem bytes a x → IsDoubleItem bytes b y → (a ≡ b) × (x ≡ y)
one_double bytes x y a b (inl (escape, e, is)) (inl (other, f, js)) =
    one_hex escape x y a b is (subst (λ (t : List ℕ). IsHex t b y) (sym (tails 92 92 escape other (sym e ∙ f))) js)
one_double bytes x y a b (inl (escape, e, is)) (inr (inl (d, f, js, none))) =
    absurd (none a x (subst (λ (t : List ℕ). IsHex t a x) (tails 92 92 escape (d ∷ y) (sym e ∙ f)) is))
one_double bytes x y a b (inl (escape, e, is)) (inr (inr (f, unlike, never))) = absurd (no_backslash b bytes escape y e f never)
one_double bytes x y a b (inr (inl (c, e, is, none))) (inl (other, f, js)) =
    absurd (none b y (subst (λ (t : List ℕ). IsHex t b y) (tails 92 92 other (c ∷ x) (sym f ∙ e)) js))
one_double bytes x y a b (inr (inl (c, e, is, none))) (inr (inl (d, f, js, unlike))) =
    let left : c ∷ x ≡ d ∷ y = tails 92 92 (c ∷ x) (d ∷ y) (sym e ∙ f) in
    (is ∙ ap escaped (heads c d x y left) ∙ sym js, tails c d x y left)
one_double bytes x y a b (inr (inl (c, e, is, none))) (inr (inr (f, unlike, never))) = absurd (no_backslash b bytes (c ∷ x) y e f never)
one_double bytes x y a b (inr (inr (e, unlike, never))) (inl (other, f, js)) = absurd (no_backslash a bytes other x f e never)
one_double bytes x y a b (inr (inr (e, unlike, never))) (inr (inl (d, f, js, none))) = absurd (no_backslash a bytes (d ∷ y) x f e never)
one_double bytes x y a b (inr (inr (e, unlike, never))) (inr (inr (f, not, ever))) = one_byte bytes x y a b e f

one_single : (bytes x y : List ℕ) (a b : ℕ) → IsSingleItem bytes a x → IsSingleItem bytes b y → (a ≡ b) × (x ≡ y)
one_single bytes x y a b (inl (e, is)) (inl (f, js)) =
    (is ∙ sym js, tails 39 39 x y (tails 92 92 (39 ∷ x) (39 ∷ y) (sym e ∙ f)))
one_single bytes x y a b (inl (e, is)) (inr (f, unlike, never)) = absurd (never x e)
one_single bytes x y a b (inr (e, unlike, never)) (inl (f, js)) = absurd (never y f)
one_single bytes x y a b (inr (e, unlike, never)) (inr (f, not, ever)) = one_byte bytes x y a b e f

pub one_item : (quote : ℕ) (bytes x y : List ℕ) (a b : ℕ) → IsItem quote bytes a x → IsItem quote bytes b y → (a ≡ b) × (x ≡ y)
one_item quote bytes x y a b (inl (q, is)) (inl (r, js)) = one_double bytes x y a b is js
one_item quote bytes x y a b (inl (q, is)) (inr (r, js)) = absurd (omega (arith, q, r))
one_item quote bytes x y a b (inr (q, is)) (inl (r, js)) = absurd (omega (arith, q, r))
one_item quote bytes x y a b (inr (q, is)) (inr (r, js)) = one_single bytes x y a b is js

-- no item begins with the quote
other_first : (quote first : ℕ) (bytes x y : List ℕ) → bytes ≡ quote ∷ x → bytes ≡ first ∷ y → quote ≢ first → ⊥
other_first quote first bytes x y e f unlike = unlike (heads quote first x y (sym e ∙ f))

pub item_no_quote : (quote : ℕ) (bytes x rest : List ℕ) (b : ℕ) → IsItem quote bytes b x → bytes ≡ quote ∷ rest → ⊥
item_no_quote quote bytes x rest b (inl (q, inl (escape, e, is))) f = other_first quote 92 bytes rest escape f e (λ same. omega (arith, q, same))
item_no_quote quote bytes x rest b (inl (q, inr (inl (c, e, is, none)))) f = other_first quote 92 bytes rest (c ∷ x) f e (λ same. omega (arith, q, same))
item_no_quote quote bytes x rest b (inl (q, inr (inr (e, unlike, never)))) f = other_first quote b bytes rest x f e (λ same. unlike (sym same ∙ q))
item_no_quote quote bytes x rest b (inr (q, inl (e, is))) f = other_first quote 92 bytes rest (39 ∷ x) f e (λ same. omega (arith, q, same))
item_no_quote quote bytes x rest b (inr (q, inr (e, unlike, never))) f = other_first quote b bytes rest x f e (λ same. unlike (sym same ∙ q))

item_shorter : (quote : ℕ) (bytes x : List ℕ) (b : ℕ) → IsItem quote bytes b x → length x < length bytes
item_shorter quote bytes x b (inl (q, inl (escape, e, (high, low, h, l, is, f)))) = omega (arith, ap length e, ap length f)
item_shorter quote bytes x b (inl (q, inr (inl (c, e, is, none)))) = omega (arith, ap length e)
item_shorter quote bytes x b (inl (q, inr (inr (e, unlike, never)))) = omega (arith, ap length e)
item_shorter quote bytes x b (inr (q, inl (e, is))) = omega (arith, ap length e)
item_shorter quote bytes x b (inr (q, inr (e, unlike, never))) = omega (arith, ap length e)

-- a backslash and the byte after it
pub escape_item : (bytes rest : List ℕ) (b byte : ℕ) → bytes ≡ b ∷ rest → byte ≡ escaped b → ((other : ℕ) (more : List ℕ) → IsHex bytes other more → ⊥) → IsDoubleItem (92 ∷ bytes) byte rest
escape_item bytes rest b byte e is none =
    inr (inl (b, ap (λ (t : List ℕ). 92 ∷ t) e, is, subst (λ (t : List ℕ). (other : ℕ) (more : List ℕ) → IsHex t other more → ⊥) e none))

pub no_escape : (bytes rest : List ℕ) (first : ℕ) → bytes ≡ first ∷ rest → first ≡ 92 → ((byte : ℕ) (more : List ℕ) → IsDoubleItem (92 ∷ rest) byte more → ⊥) → (byte : ℕ) (more : List ℕ) → IsDoubleItem bytes byte more → ⊥
no_escape bytes rest first e is none =
    subst (λ (t : List ℕ). (byte : ℕ) (more : List ℕ) → IsDoubleItem t byte more → ⊥) (sym (e ∙ ap (λ (n : ℕ). n ∷ rest) is)) none

pub no_double_item : (quote : ℕ) (bytes : List ℕ) → quote ≡ 34 → ((byte : ℕ) (rest : List ℕ) → IsDoubleItem bytes byte rest → ⊥) → (byte : ℕ) (rest : List ℕ) → IsItem quote bytes byte rest → ⊥
no_double_item quote bytes q none byte rest (inl (r, is)) = none byte rest is
no_double_item quote bytes q none byte rest (inr (r, is)) = absurd (omega (arith, q, r))

pub no_single_item : (quote : ℕ) (bytes : List ℕ) → quote ≢ 34 → ((byte : ℕ) (rest : List ℕ) → IsSingleItem bytes byte rest → ⊥) → (byte : ℕ) (rest : List ℕ) → IsItem quote bytes byte rest → ⊥
no_single_item quote bytes q none byte rest (inl (r, is)) = q r
no_single_item quote bytes q none byte rest (inr (r, is)) = none byte rest is

-- ---- all items up to the other quote

pub one_quoted : (quote : ℕ) (bytes v x w y : List ℕ) → IsInQuotes quote bytes v x → IsInQuotes quote bytes w y → (v ≡ w) × (x ≡ y)
one_quoted quote bytes [] x [] y e f = (refl, tails quote quote x y (sym e ∙ f))
one_quoted quote bytes [] x (b ∷ w) y e (more, is, later) = absurd (item_no_quote quote bytes more x b is e)
one_quoted quote bytes (a ∷ v) x [] y (more, is, later) f = absurd (item_no_quote quote bytes more y a is f)
one_quoted quote bytes (a ∷ v) x (b ∷ w) y (more, is, later) (other, js, last) =
    let (same, left) = one_item quote bytes more other a b is js in
    let (word, rest) = one_quoted quote more v x w y later (subst (λ (t : List ℕ). IsInQuotes quote t w y) (sym left) last) in
    (ap (λ (n : ℕ). n ∷ v) same ∙ ap (λ (t : List ℕ). b ∷ t) word, rest)

pub quoted_shorter : (quote : ℕ) (bytes word rest : List ℕ) → IsInQuotes quote bytes word rest → length rest < length bytes
quoted_shorter quote bytes [] rest e = omega (arith, ap length e)
quoted_shorter quote bytes (b ∷ word) rest (more, item, later) =
    omega (arith, item_shorter quote bytes more b item, quoted_shorter quote more word rest later)

-- these bytes of the word stand before the rest, and the others in it
abbrev pub GoesIn : ℕ → List ℕ → List ℕ → List ℕ → Type 0
GoesIn quote bytes word rest =
    ((more end : List ℕ) → IsInQuotes quote rest more end → IsInQuotes quote bytes (word ++ more) end)
    × ((all end : List ℕ) → IsInQuotes quote bytes all end → (more : List ℕ) × (all ≡ word ++ more) × IsInQuotes quote rest more end)

pub goes_in_item : (quote : ℕ) (bytes word rest next : List ℕ) (b : ℕ) → GoesIn quote bytes word rest → IsItem quote rest b next → GoesIn quote bytes (word ++ b ∷ []) next
goes_in_item quote bytes word rest next b (on, back) item = (later, before)
  where
    later : (more end : List ℕ) → IsInQuotes quote next more end → IsInQuotes quote bytes ((word ++ b ∷ []) ++ more) end
    later more end is =
        subst (λ (t : List ℕ). IsInQuotes quote bytes t end) (sym (append_assoc word (b ∷ []) more)) (on (b ∷ more) end (next, item, is))

    by_more : (all more end : List ℕ) → all ≡ word ++ more → IsInQuotes quote rest more end → (left : List ℕ) × (all ≡ (word ++ b ∷ []) ++ left) × IsInQuotes quote next left end
    by_more all [] end e is = absurd (item_no_quote quote rest next end b item is)
    by_more all (c ∷ more) end e (tail, is, left) =
        let (same, rests) = one_item quote rest next tail b c item is in
        (more, e ∙ ap (λ (n : ℕ). word ++ n ∷ more) (sym same) ∙ sym (append_assoc word (b ∷ []) more), subst (λ (t : List ℕ). IsInQuotes quote t more end) (sym rests) left)

    before : (all end : List ℕ) → IsInQuotes quote bytes all end → (left : List ℕ) × (all ≡ (word ++ b ∷ []) ++ left) × IsInQuotes quote next left end
    before all end is = let (more, e, left) = back all end is in by_more all more end e left

pub goes_in_end : (quote : ℕ) (bytes word rest end : List ℕ) → GoesIn quote bytes word rest → rest ≡ quote ∷ end → IsInQuotes quote bytes word end
goes_in_end quote bytes word rest end (on, back) e =
    subst (λ (t : List ℕ). IsInQuotes quote bytes t end) (append-nil word) (on [] end e)

pub goes_in_no_end : (quote : ℕ) (bytes word rest : List ℕ) → GoesIn quote bytes word rest → ((b : ℕ) (more : List ℕ) → IsItem quote rest b more → ⊥) → ((end : List ℕ) → rest ≢ quote ∷ end) → (all end : List ℕ) → IsInQuotes quote bytes all end → ⊥
goes_in_no_end quote bytes word rest (on, back) none missing all end is =
    let (more, e, left) = back all end is in by_more more left
  where
    by_more : (more : List ℕ) → IsInQuotes quote rest more end → ⊥
    by_more [] at = missing end at
    by_more (b ∷ more) (next, item, later) = none b next item
