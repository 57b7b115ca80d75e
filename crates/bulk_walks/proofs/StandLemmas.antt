-- The workers' answers and the replies that they stand for.
use Rattle.std.proofs.Common.{◌≡◌, ℕ, zero, suc, ◌+◌, ◌<◌, ◌≤◌, List, [], ◌∷◌, ◌++◌, cond, false, All, get_or, length, map, sum_by, Option, Some, None, IfSome, drop, refl, sym, ap, subst, arith, add-one, T}
use Rattle.std.specs.Ordering.{is_lt}
use Rattle.std.specs.FinMap.{is_sorted}
use Rattle.std.specs.List.Sorted.{IsSortedBy}
use Rattle.std.proofs.lemmas.List.{length-map, map_push}
use Rattle.std.proofs.lemmas.List.Elements.{All-head, All-tail}
use Rattle.std.proofs.lemmas.List.Sums.{sum_by-append, sum_by-cons}
use Rattle.verifier.specs.Checked.{Checked}
use Rattle.bins.specs.Copies.{comes_before}
use Rattle.bins.specs.Entries.{entries_at, entry_of}
use Rattle.bins.specs.Table.{Entry, by_bytes}
use Rattle.bins.proofs.SameEntries.{rises, at_key}
use Rattle.atomic_methods.specs.declared.walk_reply.WalkKind.{WalkKind}
use Rattle.atomic_methods.specs.declared.walk_reply.WalkKind.TheVariants.{Search, ForEach}
use Rattle.atomic_methods.specs.declared.walk_reply.WalkReply.{WalkReply}
use Rattle.bulk_walks.specs.declared.part.Part.{Part}
use Rattle.bulk_walks.specs.declared.answers.Answers.{Answers}
use Rattle.bulk_walks.specs.Turns.{items_in}
use Rattle.bulk_walks.specs.Runs.{AreGathered, lists_with}
use Rattle.bulk_walks.specs.Kept.{StandsFor, StandForAll, IsAnswered, AreAnswered, IsGathered, IsFirst, kept_of, kept_in}
use Rattle.bulk_walks.specs.Merges.{comes_first}
use Rattle.bulk_walks.proofs.Sums.{sum_of_ones}
use Rattle.bulk_walks.proofs.FirstLemmas.{first_same, first_of_both}

-- if each part has its answers, they are the answers to the entries of the parts
pub are_answered : (kind : WalkKind) (checked : Checked) (arg : Option (List ℕ)) (old new : List Part) (all : List Answers) → length new ≡ length old
    → ((i : ℕ) (d : Part) → i < length old → IfSome (get_or new i d).answers (λ answers. (early : List Entry) → IsGathered kind checked arg early (get_or old i d).gathered → IsAnswered kind checked arg (early ++ (get_or old i d).waiting) answers))
    → map Some all ≡ map (λ part. part.answers) new → (earlies : List (List Entry)) → AreGathered kind checked arg earlies old → AreAnswered kind checked arg (lists_with earlies old) all
are_answered kind checked arg [] [] [] len each told [] had = record { replies = []; are_replies = tt; stand = tt }
are_answered kind checked arg [] [] [] len each told (early ∷ earlies) had = absurd had
are_answered kind checked arg [] [] (a ∷ all) len each told earlies had = absurd (let n = ap (λ (os : List (Option Answers)). length os) told in omega (arith, n))
are_answered kind checked arg [] (y ∷ new) all len each told earlies had = absurd (omega (arith, len))
are_answered kind checked arg (x ∷ old) [] all len each told earlies had = absurd (omega (arith, len))
are_answered kind checked arg (x ∷ old) (y ∷ new) [] len each told earlies had = absurd (let n = ap (λ (os : List (Option Answers)). length os) told in omega (arith, n))
are_answered kind checked arg (x ∷ old) (y ∷ new) (a ∷ all) len each told [] had = absurd had
are_answered kind checked arg (x ∷ old) (y ∷ new) (a ∷ all) len each told (early ∷ earlies) had =
    let first : Some a ≡ y.answers = ap (λ (os : List (Option Answers)). get_or os 0 None) told in
    let others : map Some all ≡ map (λ part. part.answers) new = ap (λ (os : List (Option Answers)). drop 1 os) told in
    let here : IsAnswered kind checked arg (early ++ x.waiting) a = subst (λ (o : Option Answers). IfSome o (λ answers. (early : List Entry) → IsGathered kind checked arg early x.gathered → IsAnswered kind checked arg (early ++ x.waiting) answers)) (sym first) (each 0 x (omega arith)) early had.0 in
    let rest = are_answered kind checked arg old new all (omega (arith, len)) (λ i d low. each (suc i) d (omega (arith, low))) others earlies had.1 in
    record {
      replies = here.reply ∷ rest.replies;
      are_replies = (here.is_reply, rest.are_replies);
      stand = (here.stands, rest.stand);
    }

-- the sums of the counts are the same
pub scanned_same : (kind : WalkKind) (replies : List WalkReply) (all : List Answers) → StandForAll kind replies all → sum_by (λ (a : Answers). a.scanned) all ≡ sum_by (λ (r : WalkReply). r.counts.scanned) replies
scanned_same kind [] [] stand = refl
scanned_same kind [] (a ∷ all) stand = absurd stand
scanned_same kind (r ∷ replies) [] stand = absurd stand
scanned_same kind (r ∷ replies) (a ∷ all) stand =
    let rest = scanned_same kind replies all stand.1 in
    let one = sum_by-cons (λ (x : Answers). x.scanned) a all in
    let other = sum_by-cons (λ (x : WalkReply). x.counts.scanned) r replies in
    omega (arith, rest, one, other, stand.0.scanned)

pub unfit_same : (kind : WalkKind) (replies : List WalkReply) (all : List Answers) → StandForAll kind replies all → sum_by (λ (a : Answers). a.unfit) all ≡ sum_by (λ (r : WalkReply). r.counts.unfit) replies
unfit_same kind [] [] stand = refl
unfit_same kind [] (a ∷ all) stand = absurd stand
unfit_same kind (r ∷ replies) [] stand = absurd stand
unfit_same kind (r ∷ replies) (a ∷ all) stand =
    let rest = unfit_same kind replies all stand.1 in
    let one = sum_by-cons (λ (x : Answers). x.unfit) a all in
    let other = sum_by-cons (λ (x : WalkReply). x.counts.unfit) r replies in
    omega (arith, rest, one, other, stand.0.unfit)

-- no more items are in order than the reply has
ordered_le : (kind : WalkKind) (r : WalkReply) (a : Answers) → StandsFor kind r a → length a.order.items ≤ length r.items
ordered_le Search r a stands = let none = ap (λ (ps : List ℕ). length ps) stands.keeps.1 in omega (arith, none)
ordered_le ForEach r a stands =
    let w = stands.keeps.0 (λ _. 1) in
    let one = sum_of_ones (kept_of a) in
    let other = sum_of_ones r.items in
    let many = length-map a.order.items (entry_of a.items) in
    omega (arith, w, one, other, many)

pub given_le : (kind : WalkKind) (replies : List WalkReply) (all : List Answers) → All (λ r. r.counts.given ≡ length r.items) replies → StandForAll kind replies all
    → sum_by (λ (a : Answers). length a.order.items) all ≤ sum_by (λ (r : WalkReply). r.counts.given) replies
given_le kind [] [] counted stand = omega arith
given_le kind [] (a ∷ all) counted stand = absurd stand
given_le kind (r ∷ replies) [] counted stand = absurd stand
given_le kind (r ∷ replies) (a ∷ all) counted stand =
    let rest = given_le kind replies all (All-tail (λ (x : WalkReply). x.counts.given ≡ length x.items) r replies counted) stand.1 in
    let here = All-head (λ (x : WalkReply). x.counts.given ≡ length x.items) r replies counted in
    let le = ordered_le kind r a stand.0 in
    let one = sum_by-cons (λ (x : Answers). length x.order.items) a all in
    let other = sum_by-cons (λ (x : WalkReply). x.counts.given) r replies in
    omega (arith, rest, here, le, one, other)

-- all items in order are those of the replies
pub has_kept : (replies : List WalkReply) (all : List Answers) → StandForAll ForEach replies all → (h : Entry → ℕ) → sum_by (λ es. sum_by h es) (kept_in all) ≡ sum_by (λ es. sum_by h es) (items_in replies)
has_kept [] [] stand h = refl
has_kept [] (a ∷ all) stand h = absurd stand
has_kept (r ∷ replies) [] stand h = absurd stand
has_kept (r ∷ replies) (a ∷ all) stand h =
    let rest = has_kept replies all stand.1 h in
    let here = stand.0.keeps.0 h in
    let one = sum_by-cons (λ (es : List Entry). sum_by h es) (kept_of a) (kept_in all) in
    let other = sum_by-cons (λ (es : List Entry). sum_by h es) r.items (items_in replies) in
    omega (arith, rest, here, one, other)

near_of : (es : List Entry) → IsSortedBy comes_before es → (k : ℕ) (d : Entry) → suc k < length es → is_lt (by_bytes (get_or es (suc k) d).0 (get_or es k d).0) ≡ false
near_of es sorted k d low = subst (λ m. comes_before (get_or es m d) (get_or es k d) ≡ false) (add-one k) (sorted k d (omega arith) (omega (arith, low)))

kept_rises : (kind : WalkKind) (r : WalkReply) (a : Answers) → StandsFor kind r a → ((key : List ℕ) → sum_by (at_key key) r.items ≤ 1) → T (is_sorted by_bytes (kept_of a))
kept_rises Search r a stands once = subst (λ (ps : List ℕ). T (is_sorted by_bytes (entries_at a.items ps))) (sym stands.keeps.1) tt
kept_rises ForEach r a stands once = rises (kept_of a) (near_of (kept_of a) stands.keeps.1) (λ key. let w = stands.keeps.0 (at_key key) in let o = once key in omega (arith, w, o))

-- if no key is twice in the replies, the keys of items in order rise
pub kept_sorted : (kind : WalkKind) (replies : List WalkReply) (all : List Answers) → StandForAll kind replies all → ((key : List ℕ) → sum_by (λ es. sum_by (at_key key) es) (items_in replies) ≤ 1)
    → (i : ℕ) (d : Answers) → i < length all → T (is_sorted by_bytes (kept_of (get_or all i d)))
kept_sorted kind [] [] stand once i d low = absurd (omega (arith, low))
kept_sorted kind [] (a ∷ all) stand once i d low = absurd stand
kept_sorted kind (r ∷ replies) [] stand once i d low = absurd stand
kept_sorted kind (r ∷ replies) (a ∷ all) stand once zero d low =
    kept_rises kind r a stand.0 (λ key. let c = sum_by-cons (λ (es : List Entry). sum_by (at_key key) es) r.items (items_in replies) in let o = once key in omega (arith, c, o))
kept_sorted kind (r ∷ replies) (a ∷ all) stand once (suc i) d low =
    kept_sorted kind replies all stand.1 (λ key. let c = sum_by-cons (λ (es : List Entry). sum_by (at_key key) es) r.items (items_in replies) in let o = once key in omega (arith, c, o)) i d (omega (arith, low))

-- the answers of one more worker stand for one more reply
record Parted (kind : WalkKind) (replies : List WalkReply) (before : List Answers) (a : Answers) : Type 0 where
  front : List WalkReply
  last : WalkReply
  is : replies ≡ front ++ last ∷ []
  stand : StandForAll kind front before
  here : StandsFor kind last a

parted : (kind : WalkKind) (replies : List WalkReply) (before : List Answers) (a : Answers) → StandForAll kind replies (before ++ a ∷ []) → Parted kind replies before a
parted kind [] [] a stand = absurd stand
parted kind (r ∷ []) [] a stand = record { front = []; last = r; is = refl; stand = tt; here = stand.0 }
parted kind (r ∷ q ∷ replies) [] a stand = absurd stand.1
parted kind [] (b ∷ before) a stand = absurd stand
parted kind (r ∷ replies) (b ∷ before) a stand =
    let rest = parted kind replies before a stand.1 in
    record { front = r ∷ rest.front; last = rest.last; is = ap (λ (rs : List WalkReply). r ∷ rs) rest.is; stand = (stand.0, rest.stand); here = rest.here }

-- the first of all items
abbrev pub FirstOfAll : List Answers → List Entry → Type 0
FirstOfAll all first = (replies : List WalkReply) → StandForAll Search replies all → IsFirst (λ h. sum_by (λ es. sum_by h es) (items_in replies)) first

pub first_of_none : FirstOfAll [] []
first_of_none [] stand = λ h. refl
first_of_none (r ∷ replies) stand = absurd stand

pub first_of_more : (before : List Answers) (a : Answers) (first : List Entry) → FirstOfAll before first → FirstOfAll (before ++ a ∷ []) (cond (comes_first a.items first) a.items first)
first_of_more before a first had replies stand =
    let p = parted Search replies before a stand in
    first_same (λ h. sum_by (λ es. sum_by h es) (items_in p.front) + sum_by h p.last.items) (λ h. sum_by (λ es. sum_by h es) (items_in replies)) (cond (comes_first a.items first) a.items first)
    (λ h.
    let is = ap (λ (rs : List WalkReply). sum_by (λ (es : List Entry). sum_by h es) (items_in rs)) p.is in
    let pushed = ap (λ (ls : List (List Entry)). sum_by (λ (es : List Entry). sum_by h es) ls) (map_push (λ (r : WalkReply). r.items) p.front p.last) in
    let apart = sum_by-append (λ (es : List Entry). sum_by h es) (items_in p.front) (p.last.items ∷ []) in
    let one = sum_by-cons (λ (es : List Entry). sum_by h es) p.last.items [] in
    omega (arith, is, pushed, apart, one))
    (first_of_both (λ h. sum_by (λ es. sum_by h es) (items_in p.front)) (λ h. sum_by h p.last.items) first a.items (had p.front p.stand) p.here.keeps.0)
