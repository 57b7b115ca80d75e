-- What is sent for responses, by their values' lengths.
use Rattle.std.proofs.Common.{◌≡◌, ℕ, zero, suc, ◌+◌, ◌<◌, ◌≤◌, Bool, true, false, map, get_or, List, [], ◌∷◌, ◌++◌, length, take, drop, Option, Some, refl, sym, ap, ◌∙◌, append-nil, arith}
use Rattle.std.specs.Prelude.{nat_lt, ◌||◌}
use Rattle.std.proofs.lemmas.Bool.Decides.{nat_tests}
use Rattle.std.proofs.lemmas.List.{map-append}
use Rattle.bins.specs.Entries.{entry_of}
use Rattle.atomic_methods.specs.declared.walk_reply.WalkReply.{WalkReply}
use Rattle.client_protocol.specs.declared.limits.Version.{Version}
use Rattle.client_protocol.specs.declared.response.Response.{Response}
use Rattle.client_protocol.specs.declared.response.Response.TheVariants.{Value}
use Rattle.client_protocol.specs.Bodies.{limits_after}
use Rattle.client_protocol.specs.Responses.{response_frame, response_frames}
use Rattle.sessions.specs.Answering.{item_of, end_of, is_too_long, has_too_long, sendable, walk_responses}
use Rattle.sessions.specs.Sessions.{refusal}
use Rattle.sessions.proofs.AnsweringLemmas.{front_at, parted_at}

-- an element of a list, whatever the default past the last one is
same : {A : Type 0} (xs : List A) (i : ℕ) (one other : A) → i < length xs → get_or xs i one ≡ get_or xs i other
same [] i one other lt = absurd (omega (arith, lt))
same (x ∷ xs) zero one other lt = refl
same (x ∷ xs) (suc i) one other lt = same xs i one other (omega (arith, lt))

-- one refusal replaces the responses
pub sends_refusal : (hello : Option Version) (responses : List Response) → has_too_long hello responses ≡ true → response_frames (sendable hello responses) ≡ refusal 65
sends_refusal hello responses is = rw is (append-nil (refusal 65))

-- the responses are sent themselves
pub sends_all : (hello : Option Version) (responses : List Response) → has_too_long hello responses ≡ false → response_frames (sendable hello responses) ≡ response_frames responses
sends_all hello responses is = rw is refl

less : (m n : ℕ) → m < n → nat_lt m n ≡ true
less m n lt = grind (arith, nat_tests)

not_less : (m n : ℕ) → n ≤ m → nat_lt m n ≡ false
not_less m n le = grind (arith, nat_tests)

or_false : (a : Bool) → (a || false) ≡ a
or_false true = refl
or_false false = refl

or_true : (a : Bool) → (a || true) ≡ true
or_true true = refl
or_true false = refl

-- a value that was found, too long or not
pub found_too_long : (hello : Option Version) (bytes : List ℕ) → (limits_after hello).value < length bytes → has_too_long hello (Value (Some bytes) ∷ []) ≡ true
found_too_long hello bytes long = rw (less (limits_after hello).value (length bytes) long) refl

pub found_short : (hello : Option Version) (bytes : List ℕ) → length bytes ≤ (limits_after hello).value → has_too_long hello (Value (Some bytes) ∷ []) ≡ false
found_short hello bytes short = rw (not_less (limits_after hello).value (length bytes) short) refl

too_long_both : (hello : Option Version) (xs ys : List Response) → has_too_long hello (xs ++ ys) ≡ (has_too_long hello xs || has_too_long hello ys)
too_long_both hello [] ys = refl
too_long_both hello (x ∷ xs) ys = by (is_too_long hello x) (too_long_both hello xs ys) where
  by : (a : Bool) → has_too_long hello (xs ++ ys) ≡ (has_too_long hello xs || has_too_long hello ys) → (a || has_too_long hello (xs ++ ys)) ≡ ((a || has_too_long hello xs) || has_too_long hello ys)
  by true e = refl
  by false e = e

-- one more item, whose value is short
pub short_more : (hello : Option Version) (items : List (List ℕ × List ℕ)) (i : ℕ) (key value : List ℕ) → i < length items → (key, value) ≡ entry_of items i
    → has_too_long hello (map item_of (take i items)) ≡ false → length value ≤ (limits_after hello).value → has_too_long hello (map item_of (take (i + 1) items)) ≡ false
short_more hello items i key value lt is before short =
    let item : List ℕ × List ℕ = (key, value) in
    let more = ap (λ (t : List (List ℕ × List ℕ)). has_too_long hello (map item_of t)) (front_at items i item lt (is ∙ same items i ([], []) item lt)) in
    let parts = ap (has_too_long hello) (map-append item_of (take i items) (item ∷ [])) ∙ too_long_both hello (map item_of (take i items)) (item_of item ∷ []) in
    more ∙ parts ∙ rw (before, not_less (limits_after hello).value (length value) short) refl

-- an item whose value is too long
pub long_among : (hello : Option Version) (items : List (List ℕ × List ℕ)) (i : ℕ) (key value : List ℕ) → i < length items → (key, value) ≡ entry_of items i
    → (limits_after hello).value < length value → has_too_long hello (map item_of items) ≡ true
long_among hello items i key value lt is long =
    let item : List ℕ × List ℕ = (key, value) in
    let whole = ap (λ (t : List (List ℕ × List ℕ)). has_too_long hello (map item_of t)) (sym (parted_at items i item lt (is ∙ same items i ([], []) item lt))) in
    let parts = ap (has_too_long hello) (map-append item_of (take i items) (item ∷ drop (i + 1) items)) ∙ too_long_both hello (map item_of (take i items)) (map item_of (item ∷ drop (i + 1) items)) in
    whole ∙ parts ∙ rw (less (limits_after hello).value (length value) long) (or_true (has_too_long hello (map item_of (take i items))))

-- the end after the items has no value
pub end_is_short : (hello : Option Version) (items : List (List ℕ × List ℕ)) (last : Response) → is_too_long hello last ≡ false
    → has_too_long hello (map item_of items ++ last ∷ []) ≡ has_too_long hello (map item_of items)
end_is_short hello items last none =
    too_long_both hello (map item_of items) (last ∷ []) ∙ rw none (or_false (has_too_long hello (map item_of items)))

-- an entry is at its position
pub stands : (items : List (List ℕ × List ℕ)) (i : ℕ) (key value : List ℕ) → i < length items → (key, value) ≡ entry_of items i → (key, value) ≡ get_or items i (key, value)
stands items i key value lt is = is ∙ same items i ([], []) (key, value) lt

-- what is sent for a walk's responses
pub walk_refused : (hello : Option Version) (reply : WalkReply) → has_too_long hello (map item_of reply.items) ≡ true → response_frames (sendable hello (walk_responses reply)) ≡ refusal 65
walk_refused hello reply long = sends_refusal hello (walk_responses reply) (end_is_short hello reply.items (end_of reply.counts) refl ∙ long)

pub walk_whole : (hello : Option Version) (reply : WalkReply) → has_too_long hello (map item_of reply.items) ≡ false
    → response_frames (sendable hello (walk_responses reply)) ≡ response_frames (walk_responses reply)
walk_whole hello reply short = sends_all hello (walk_responses reply) (end_is_short hello reply.items (end_of reply.counts) refl ∙ short)

-- a value that is short enough is sent
pub value_whole : (hello : Option Version) (value : List ℕ) → length value ≤ (limits_after hello).value
    → response_frames (sendable hello (Value (Some value) ∷ [])) ≡ response_frame (Value (Some value))
value_whole hello value short =
    sends_all hello (Value (Some value) ∷ []) (found_short hello value short) ∙ append-nil (response_frame (Value (Some value)))
