-- Classes and patterns, member by member and piece by piece.
use Rattle.std.proofs.Common.{arith, ◌≡◌, ◌≢◌, ℕ, zero, suc, ◌+◌, ◌<◌, ◌≤◌, true, false, List, [], ◌∷◌, length, drop, get_or, nat_eq, refl, sym, ap, ◌∙◌}
use Rattle.redis_commands.specs.Matching.{is_first, more_of_member, is_member_after, class_length_after, piece_at, more_bytes, pieces_after, stand_for, matches}

equal_test : (n m : ℕ) → n ≡ m → nat_eq n m ≡ true
equal_test n m e = grind (arith, e)

other_test : (n m : ℕ) → n ≢ m → nat_eq n m ≡ false
other_test n m h = grind (arith, h)

-- ---- members

member_skip : (n : ℕ) (xs : List ℕ) (b : ℕ) → is_member_after n xs b ≡ is_member_after 0 (drop n xs) b
unfolding is_member_after
member_skip zero xs b = refl
member_skip (suc n) [] b = refl
member_skip (suc n) (x ∷ xs) b = member_skip n xs b

pub member_none : (left : List ℕ) (b : ℕ) → length left < 1 → is_member_after 0 left b ≡ false
unfolding is_member_after
member_none [] b h = refl
member_none (x ∷ xs) b h = absurd (omega (arith, h))

pub member_ended : (left : List ℕ) (b : ℕ) → 1 ≤ length left → get_or left 0 0 ≡ 93 → is_member_after 0 left b ≡ false
unfolding is_member_after
member_ended [] b h e = absurd (omega (arith, h))
member_ended (x ∷ xs) b h e = rw (equal_test x 93 e) refl

pub member_found : (left rest : List ℕ) (b : ℕ) → 1 ≤ length left → rest ≡ drop 1 left → get_or left 0 0 ≢ 93
    → is_first (get_or left 0 0) rest b ≡ true → is_member_after 0 left b ≡ true
unfolding is_member_after
member_found [] rest b h is other e = absurd (omega (arith, h))
member_found (x ∷ xs) rest b h is other e = rw (other_test x 93 other, ap (λ r. is_first x r b) (sym is) ∙ e) refl

pub member_passed : (left rest next : List ℕ) (b k : ℕ) → 1 ≤ length left → rest ≡ drop 1 left → get_or left 0 0 ≢ 93
    → is_first (get_or left 0 0) rest b ≡ false → k ≡ more_of_member (get_or left 0 0) rest → next ≡ drop k rest
    → is_member_after 0 next b ≡ is_member_after 0 left b
unfolding is_member_after
member_passed [] rest next b k h is other e same after = absurd (omega (arith, h))
member_passed (x ∷ xs) rest next b k h is other e same after =
    let skip = member_skip (more_of_member x xs) xs b in
    let drops : next ≡ drop (more_of_member x xs) xs = after ∙ ap (λ n. drop n rest) (same ∙ ap (more_of_member x) is) ∙ ap (drop (more_of_member x xs)) is in
    rw (other_test x 93 other, ap (λ r. is_first x r b) (sym is) ∙ e) (ap (λ l. is_member_after 0 l b) drops ∙ sym skip)

-- ---- lengths of classes

length_skip : (n : ℕ) (xs : List ℕ) → n ≤ length xs → class_length_after n xs ≡ n + class_length_after 0 (drop n xs)
unfolding class_length_after
length_skip zero xs h = omega arith
length_skip (suc n) [] h = absurd (omega (arith, h))
length_skip (suc n) (x ∷ xs) h = let more = length_skip n xs (omega (arith, h)) in omega (arith, more)

pub length_none : (left : List ℕ) → length left < 1 → class_length_after 0 left ≡ 0
unfolding class_length_after
length_none [] h = refl
length_none (x ∷ xs) h = absurd (omega (arith, h))

pub length_ended : (left : List ℕ) → 1 ≤ length left → get_or left 0 0 ≡ 93 → class_length_after 0 left ≡ 1
unfolding class_length_after
length_ended [] h e = absurd (omega (arith, h))
length_ended (x ∷ xs) h e = rw (equal_test x 93 e) refl

pub length_passed : (left rest next : List ℕ) (k : ℕ) → 1 ≤ length left → rest ≡ drop 1 left → get_or left 0 0 ≢ 93
    → k ≡ more_of_member (get_or left 0 0) rest → k ≤ length rest → next ≡ drop k rest
    → class_length_after 0 left ≡ 1 + k + class_length_after 0 next
unfolding class_length_after
length_passed [] rest next k h is other same within after = absurd (omega (arith, h))
length_passed (x ∷ xs) rest next k h is other same within after =
    let fewer : more_of_member x xs ≡ k = sym (same ∙ ap (more_of_member x) is) in
    let drops : drop (more_of_member x xs) xs ≡ next = ap (λ n. drop n xs) fewer ∙ ap (drop k) (sym is) ∙ sym after in
    let skip = length_skip (more_of_member x xs) xs (omega (arith, fewer, within, ap length is)) in
    rw (other_test x 93 other) (omega (arith, skip, fewer, ap (class_length_after 0) drops))

-- ---- pieces

pieces_skip : (n : ℕ) (xs : List ℕ) → pieces_after n xs ≡ pieces_after 0 (drop n xs)
unfolding pieces_after
pieces_skip zero xs = refl
pieces_skip (suc n) [] = refl
pieces_skip (suc n) (x ∷ xs) = pieces_skip n xs

pub pieces_none : (left : List ℕ) → length left < 1 → pieces_after 0 left ≡ []
unfolding pieces_after
pieces_none [] h = refl
pieces_none (x ∷ xs) h = absurd (omega (arith, h))

pub pieces_first : (left rest next : List ℕ) (k : ℕ) → 1 ≤ length left → rest ≡ drop 1 left
    → k ≡ more_bytes (get_or left 0 0) rest → next ≡ drop k rest
    → pieces_after 0 left ≡ piece_at (get_or left 0 0) rest ∷ pieces_after 0 next
unfolding pieces_after
pieces_first [] rest next k h is same after = absurd (omega (arith, h))
pieces_first (x ∷ xs) rest next k h is same after =
    let skip = pieces_skip (more_bytes x xs) xs in
    let drops : drop (more_bytes x xs) xs ≡ next =
    ap (λ n. drop n xs) (sym (same ∙ ap (more_bytes x) is)) ∙ ap (drop k) (sym is) ∙ sym after in
    ap (λ l. piece_at x xs ∷ l) (skip ∙ ap (pieces_after 0) drops) ∙ ap (λ r. piece_at x r ∷ pieces_after 0 next) (sym is)

-- ---- the empty text

pub matches_some : (pattern text : List ℕ) → 1 ≤ length text → matches pattern text ≡ stand_for (pieces_after 0 pattern) text
matches_some pattern [] h = absurd (omega (arith, h))
matches_some pattern (b ∷ text) h = refl
