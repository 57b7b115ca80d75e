-- Requests answered one after the other, and the bytes written for them.
use Rattle.std.proofs.Common.{◌≡◌, ℕ, ◌+◌, ◌<◌, map, get_or, List, [], ◌∷◌, ◌++◌, length, take, drop, Option, refl, sym, ap, subst, ◌∙◌, append_assoc, append-nil, arith}
use Rattle.std.proofs.lemmas.List.{length-append, map-append, take_more, take-append-drop}
use Rattle.std.proofs.lemmas.List.Concat.{flat_map-append}
use Rattle.std.proofs.KnownBytes.{Appends-trans}
use Rattle.client_protocol.specs.declared.limits.Version.{Version}
use Rattle.client_protocol.specs.Requests.{Request}
use Rattle.client_protocol.specs.Bodies.{hello_after}
use Rattle.client_protocol.specs.declared.response.Response.{Response}
use Rattle.client_protocol.specs.Responses.{response_frame, response_frames}
use Rattle.devices.specs.Devices.{SinkState, TakesBytes, TakesPart, TakesThenFails}
use Rattle.sessions.specs.Answering.{item_of, sendable, hello_behind, AnswersInOrder, Answered, IsPart, BreaksOff}

-- the first bytes were taken, and then more
pub takes_then : (a b c : SinkState) (first more : List ℕ) → TakesBytes a b first → TakesBytes b c more → TakesBytes a c (first ++ more)
takes_then a b c first more taken later = (Appends-trans a.held b.held c.held first more taken.0 later.0, later.1 ∙ taken.1)

-- a part of the front is a part of the whole
pub part_more : (a b : SinkState) (bytes more : List ℕ) → TakesPart a b bytes → TakesPart a b (bytes ++ more)
part_more a b bytes more ((front, (rest, taken, parts, some)), count) =
    ((front, (rest ++ more, taken, ap (λ (t : List ℕ). t ++ more) parts ∙ append_assoc front rest more, omega (arith, some, length-append rest more))), count)

-- the front is there, and a part of the rest
pub part_after : (a b c : SinkState) (first bytes : List ℕ) → TakesBytes a b first → TakesPart b c bytes → TakesPart a c (first ++ bytes)
part_after a b c first bytes whole ((front, (rest, taken, parts, some)), count) = (
  (first ++ front, (rest, Appends-trans a.held b.held c.held first front whole.0 taken, ap (λ (t : List ℕ). first ++ t) parts ∙ sym (append_assoc first front rest), some)),
  count ∙ ap (λ (n : ℕ). n + 1) whole.1,
)

-- a front of a list, and one more element
pub front_at : {A : Type 0} (xs : List A) (i : ℕ) (x : A) → i < length xs → x ≡ get_or xs i x → take (i + 1) xs ≡ take i xs ++ x ∷ []
front_at {A} xs i x lt is = take_more xs i x lt ∙ ap (λ (y : A). take i xs ++ y ∷ []) (sym is)

-- a list is the part before an element, the element, and the part after it
pub parted_at : {A : Type 0} (xs : List A) (i : ℕ) (x : A) → i < length xs → x ≡ get_or xs i x → take i xs ++ x ∷ drop (i + 1) xs ≡ xs
parted_at {A} xs i x lt is =
    sym (append_assoc (take i xs) (x ∷ []) (drop (i + 1) xs)) ∙ ap (λ (t : List A). t ++ drop (i + 1) xs) (sym (front_at xs i x lt is)) ∙ take-append-drop (i + 1) xs

-- the items before this one, this one, and those after it
pub items_parted : (xs : List (List ℕ × List ℕ)) (i : ℕ) (x : List ℕ × List ℕ) → i < length xs → x ≡ get_or xs i x
    → response_frames (map item_of xs) ≡ response_frames (map item_of (take i xs)) ++ (response_frame (item_of x) ++ response_frames (map item_of (drop (i + 1) xs)))
items_parted xs i x lt is =
    ap (λ (t : List (List ℕ × List ℕ)). response_frames (map item_of t)) (sym (parted_at xs i x lt is))
    ∙ ap response_frames (map-append item_of (take i xs) (x ∷ drop (i + 1) xs))
    ∙ flat_map-append response_frame (map item_of (take i xs)) (map item_of (x ∷ drop (i + 1) xs))

-- one more item
pub items_more : (xs : List (List ℕ × List ℕ)) (i : ℕ) (x : List ℕ × List ℕ) → i < length xs → x ≡ get_or xs i x
    → response_frames (map item_of (take (i + 1) xs)) ≡ response_frames (map item_of (take i xs)) ++ response_frame (item_of x)
items_more xs i x lt is =
    ap (λ (t : List (List ℕ × List ℕ)). response_frames (map item_of t)) (front_at xs i x lt is)
    ∙ ap response_frames (map-append item_of (take i xs) (x ∷ []))
    ∙ flat_map-append response_frame (map item_of (take i xs)) (item_of x ∷ [])
    ∙ ap (λ (t : List ℕ). response_frames (map item_of (take i xs)) ++ t) (append-nil (response_frame (item_of x)))

-- the items before this one are written, and a part of this one
pub part_at : (a b c : SinkState) (xs : List (List ℕ × List ℕ)) (i : ℕ) (x : List ℕ × List ℕ) → i < length xs → x ≡ get_or xs i x
    → TakesBytes a b (response_frames (map item_of (take i xs))) → TakesPart b c (response_frame (item_of x)) → TakesPart a c (response_frames (map item_of xs))
part_at a b c xs i x lt is before part =
    rw (items_parted xs i x lt is)
    (part_after a b c (response_frames (map item_of (take i xs))) (response_frame (item_of x) ++ response_frames (map item_of (drop (i + 1) xs))) before
    (part_more b c (response_frame (item_of x)) (response_frames (map item_of (drop (i + 1) xs))) part))

-- one more item is written
pub item_at : (a b c : SinkState) (xs : List (List ℕ × List ℕ)) (i : ℕ) (x : List ℕ × List ℕ) → i < length xs → x ≡ get_or xs i x
    → TakesBytes a b (response_frames (map item_of (take i xs))) → TakesBytes b c (response_frame (item_of x)) → TakesBytes a c (response_frames (map item_of (take (i + 1) xs)))
item_at a b c xs i x lt is before more =
    rw (items_more xs i x lt is) (takes_then a b c (response_frames (map item_of (take i xs))) (response_frame (item_of x)) before more)

-- the frames of a walk's answer are those of its items, and the last one
pub walk_frames : (items : List (List ℕ × List ℕ)) (last : Response) → response_frames (map item_of items ++ last ∷ []) ≡ response_frames (map item_of items) ++ response_frame last
walk_frames items last =
    flat_map-append response_frame (map item_of items) (last ∷ []) ∙ ap (λ (t : List ℕ). response_frames (map item_of items) ++ t) (append-nil (response_frame last))

-- after the first requests and then the others
pub hello_behind_both : (hello : Option Version) (rs ss : List Request) → hello_behind hello (rs ++ ss) ≡ hello_behind (hello_behind hello rs) ss
hello_behind_both hello [] ss = refl
hello_behind_both hello (r ∷ rs) ss = hello_behind_both (hello_after hello r) rs ss

module _ {S : Type 0} (Answers : Option Version → S → Request → List Response → S → Type 0) where
  pub run_then : (hello : Option Version) (old mid new : S) (rs ss : List Request) (a b : List Response) → AnswersInOrder Answers hello old rs a mid
      → AnswersInOrder Answers (hello_behind hello rs) mid ss b new → AnswersInOrder Answers hello old (rs ++ ss) (a ++ b) new
  run_then hello old mid new [] ss a b (nothing, same) later =
      subst (λ (t : List Response). AnswersInOrder Answers hello old ss (t ++ b) new) (sym nothing) (subst (λ (m : S). AnswersInOrder Answers hello m ss b new) same later)
  run_then hello old mid new (r ∷ rs) ss a b (first, rest, next, answers, run, is) later = (
    first,
    rest ++ b,
    next,
    answers,
    run_then (hello_after hello r) next mid new rs ss rest b run later,
    ap (λ (t : List Response). t ++ b) is ∙ append_assoc (sendable hello first) rest b,
  )

  pub answered_then : (hello : Option Version) (old mid new : S) (rs ss : List Request) (v w : List ℕ) → Answered Answers hello old rs v mid
      → Answered Answers (hello_behind hello rs) mid ss w new → Answered Answers hello old (rs ++ ss) (v ++ w) new
  answered_then hello old mid new rs ss v w (a, first, v-is) (b, later, w-is) =
      (a ++ b, run_then hello old mid new rs ss a b first later, ap (λ (t : List ℕ). t ++ w) v-is ∙ ap (λ (t : List ℕ). response_frames a ++ t) w-is ∙ sym (flat_map-append response_frame a b))

  pub answered_one : (hello : Option Version) (old new : S) (r : Request) (out : List Response) → Answers hello old r out new
      → Answered Answers hello old (r ∷ []) (response_frames (sendable hello out)) new
  answered_one hello old new r out answers = (sendable hello out, (out, [], new, answers, (refl, refl), sym (append-nil (sendable hello out))), refl)

  pub answered_none : (hello : Option Version) (old : S) → Answered Answers hello old [] [] old
  answered_none hello old = ([], (refl, refl), refl)

  pub breaks_then : (hello : Option Version) (old mid new : S) (rs ss : List Request) (v w : List ℕ) → Answered Answers hello old rs v mid
      → BreaksOff Answers (hello_behind hello rs) mid ss w new → BreaksOff Answers hello old (rs ++ ss) (v ++ w) new
  breaks_then hello old mid new rs ss v w first b =
      let behind : hello_behind (hello_behind hello rs) b.done ≡ hello_behind hello (rs ++ b.done) = sym (hello_behind_both hello rs b.done) in
      record {
        done = rs ++ b.done;
        request = b.request;
        left = b.left;
        before = v ++ b.before;
        mid = b.mid;
        responses = b.responses;
        part = b.part;
        order = ap (λ (t : List Request). rs ++ t) b.order ∙ sym (append_assoc rs b.done (b.request ∷ b.left));
        answered = answered_then hello old mid b.mid rs b.done v b.before first b.answered;
        made = subst (λ (h : Option Version). Answers h b.mid b.request b.responses new) behind b.made;
        cut = subst (λ (h : Option Version). IsPart b.part (response_frames (sendable h b.responses))) behind b.cut;
        written_is = ap (λ (t : List ℕ). v ++ t) b.written_is ∙ sym (append_assoc v b.before b.part);
      }

  -- the answer to one request, written in part
  pub breaks_one : (hello : Option Version) (old new : S) (r : Request) (later : List Request) (out : List Response) (part : List ℕ) → Answers hello old r out new
      → IsPart part (response_frames (sendable hello out)) → BreaksOff Answers hello old (r ∷ later) part new
  breaks_one hello old new r later out part answers cut =
      record { done = []; request = r; left = later; before = []; mid = old; responses = out; part = part; order = refl; answered = answered_none hello old; made = answers; cut = cut; written_is = refl }

  -- one more request is answered
  pub answered_more : (a b c : SinkState) (hello here : Option Version) (old mid new : S) (xs : List Request) (i : ℕ) (r : Request) (out : List Response) (v : List ℕ) → i < length xs → r ≡ get_or xs i r
      → here ≡ hello_behind hello (take i xs) → TakesBytes a b v → Answered Answers hello old (take i xs) v mid → Answers here mid r out new → TakesBytes b c (response_frames (sendable here out))
      → (hello_after here r ≡ hello_behind hello (take (i + 1) xs)) × ((w : List ℕ) × TakesBytes a c w × Answered Answers hello old (take (i + 1) xs) w new)
  answered_more a b c hello here old mid new xs i r out v lt is behind taken before answers more = (
    ap (λ (h : Option Version). hello_after h r) behind ∙ sym (hello_behind_both hello (take i xs) (r ∷ [])) ∙ ap (λ (t : List Request). hello_behind hello t) (sym (front_at xs i r lt is)),
    (
      v ++ response_frames (sendable here out),
      takes_then a b c v (response_frames (sendable here out)) taken more,
      subst (λ (t : List Request). Answered Answers hello old t (v ++ response_frames (sendable here out)) new) (sym (front_at xs i r lt is))
          (answered_then hello old mid new (take i xs) (r ∷ []) v (response_frames (sendable here out)) before
          (subst (λ (h : Option Version). Answered Answers h mid (r ∷ []) (response_frames (sendable here out)) new) behind (answered_one here mid new r out answers))),
    ),
  )

  -- the answer to the next is written in part
  pub cut_at : (a b c : SinkState) (hello here : Option Version) (old mid new : S) (xs : List Request) (i : ℕ) (r : Request) (out : List Response) (v : List ℕ) → i < length xs → r ≡ get_or xs i r
      → here ≡ hello_behind hello (take i xs) → TakesBytes a b v → Answered Answers hello old (take i xs) v mid → Answers here mid r out new → TakesPart b c (response_frames (sendable here out))
      → (w : List ℕ) × TakesThenFails a c w × BreaksOff Answers hello old xs w new
  cut_at a b c hello here old mid new xs i r out v lt taken-is behind taken before answers ((front, (rest, more, parts, some)), count) = (
    v ++ front,
    (Appends-trans a.held b.held c.held v front taken.0 more, count ∙ ap (λ (n : ℕ). n + 1) taken.1),
    subst (λ (t : List Request). BreaksOff Answers hello old t (v ++ front) new) (parted_at xs i r lt taken-is)
        (breaks_then hello old mid new (take i xs) (r ∷ drop (i + 1) xs) v front before
        (subst (λ (h : Option Version). BreaksOff Answers h mid (r ∷ drop (i + 1) xs) front new) behind (breaks_one here mid new r (drop (i + 1) xs) out front answers (rest, parts, some)))),
  )
