-- Keys that are set one after the other.
use Rattle.std.proofs.Common.{◌≡◌, ℕ, suc, ◌+◌, ◌<◌, ◌≤◌, List, [], ◌∷◌, ◌++◌, length, get_or, drop, refl, sym, ap, subst, ◌∙◌, inl, inr, append_assoc, drop-cons, arith}
use Rattle.std.specs.Borrow.{Bor}
use Rattle.std.proofs.lemmas.List.{get_or-map, length-map, length-drop, append-nil}
use Rattle.atomic_methods.specs.declared.reply.Reply.{Reply}
use Rattle.atomic_methods.specs.Invocations.{on_key, put}
use Rattle.timed_bins.specs.declared.timing.DeadlineChange.TheVariants.{Clear}
use Rattle.bin_stripes.specs.Passes.{PassState}
use Rattle.redis_commands.specs.Commands.{texts}
use Rattle.redis_commands.specs.Limits.{IsKey, IsValue, ArePairs}
use Rattle.redis_service.specs.Lines.{no_memory_line}
use Rattle.redis_service.specs.Texts.{ok_line}
use Rattle.redis_service.specs.Calls.{Refuses, Each}
use Rattle.redis_service.specs.Answers.{Puts, AnswersSetEach, pairs}
use Rattle.redis_service.proofs.EachLemmas.{each_more}

-- the texts from a place on: the word there, and those after it
texts_at : (words : List (Bor (List ℕ))) (at : ℕ) (d : Bor (List ℕ)) → at < length words → drop at (texts words) ≡ (get_or words at d).now ∷ drop (suc at) (texts words)
texts_at words at d lt =
    let long : length (texts words) ≡ length words = length-map words (λ w. w.now) in
    drop-cons (texts words) at d.now (omega (arith, long))
    ∙ ap (λ (w : List ℕ). w ∷ drop (suc at) (texts words)) (get_or-map (λ (w : Bor (List ℕ)). w.now) words at d d.now lt)

-- two words, and those after them
pub pair_at : (words : List (Bor (List ℕ))) (at : ℕ) (d : Bor (List ℕ)) → at + 1 < length words
    → drop at (texts words) ≡ (get_or words at d).now ∷ (get_or words (at + 1) d).now ∷ drop (at + 2) (texts words)
pair_at words at d lt =
    let one : suc at ≡ at + 1 = omega arith in
    let two : suc (at + 1) ≡ at + 2 = omega arith in
    texts_at words at d (omega arith)
    ∙ ap (λ (t : List (List ℕ)). (get_or words at d).now ∷ t)
    (ap (λ (k : ℕ). drop k (texts words)) one ∙ texts_at words (at + 1) d lt
    ∙ ap (λ (k : ℕ). (get_or words (at + 1) d).now ∷ drop k (texts words)) two)

-- what holds of the pairs from a place on
pub pairs_at : (words : List (Bor (List ℕ))) (at : ℕ) (d : Bor (List ℕ)) → at + 1 < length words → ArePairs (drop at (texts words))
    → IsKey (get_or words at d).now × IsValue (get_or words (at + 1) d).now × ArePairs (drop (at + 2) (texts words))
pairs_at words at d lt are = subst ArePairs (pair_at words at d lt) are

no_pair : (ws : List (List ℕ)) → length ws ≤ 1 → pairs ws ≡ []
no_pair [] short = refl
no_pair (w ∷ []) short = refl
no_pair (w ∷ v ∷ ws) short = absurd (omega arith)

-- no pair is left
pub pairs_end : (words : List (Bor (List ℕ))) (at : ℕ) → length words ≤ at + 1 → pairs (drop at (texts words)) ≡ []
pairs_end words at all =
    let long : length (texts words) ≡ length words = length-map words (λ w. w.now) in
    no_pair (drop at (texts words)) (omega (arith, long, length-drop at (texts words)))

-- one more pair was set
pub sets_more : (now : ℕ) (old mid new : PassState) (words : List (Bor (List ℕ))) (at : ℕ) (d : Bor (List ℕ)) → at + 1 < length words
    → (done : List (List ℕ × List ℕ)) × ((replies : List Reply) × Each (Puts now) old done replies mid × (pairs (texts words) ≡ done ++ pairs (drop at (texts words))))
    → (reply : Reply) × Puts now mid ((get_or words at d).now, (get_or words (at + 1) d).now) reply new
    → (done : List (List ℕ × List ℕ)) × ((replies : List Reply) × Each (Puts now) old done replies new × (pairs (texts words) ≡ done ++ pairs (drop (at + 2) (texts words))))
sets_more now old mid new words at d lt (done, (replies, each, is)) (reply, puts) =
    let pair : List ℕ × List ℕ = ((get_or words at d).now, (get_or words (at + 1) d).now) in (
      done ++ pair ∷ [],
      (
        replies ++ reply ∷ [],
        each_more (Puts now) old mid new done replies pair reply each puts,
        is ∙ ap (λ (t : List (List ℕ)). done ++ pairs t) (pair_at words at d lt) ∙ sym (append_assoc done (pair ∷ []) (pairs (drop (at + 2) (texts words)))),
      ),
    )

-- all pairs were set
pub sets_all : (now : ℕ) (old new : PassState) (words : List (Bor (List ℕ))) (at : ℕ) → length words ≤ at + 1
    → (done : List (List ℕ × List ℕ)) × ((replies : List Reply) × Each (Puts now) old done replies new × (pairs (texts words) ≡ done ++ pairs (drop at (texts words))))
    → AnswersSetEach now old (pairs (texts words)) ok_line new
sets_all now old new words at all (done, (replies, each, is)) =
    let same : pairs (texts words) ≡ done = is ∙ ap (λ (t : List (List ℕ × List ℕ)). done ++ t) (pairs_end words at all) ∙ append-nil done in
    inl (replies, subst (λ (t : List (List ℕ × List ℕ)). Each (Puts now) old t replies new) (sym same) each, refl)

-- the next pair is refused memory
pub sets_none : (now : ℕ) (old mid new : PassState) (words : List (Bor (List ℕ))) (at : ℕ) (d : Bor (List ℕ)) → at + 1 < length words
    → (done : List (List ℕ × List ℕ)) × ((replies : List Reply) × Each (Puts now) old done replies mid × (pairs (texts words) ≡ done ++ pairs (drop at (texts words))))
    → Refuses now Clear mid (on_key (get_or words at d).now (put (get_or words (at + 1) d).now)) new → AnswersSetEach now old (pairs (texts words)) no_memory_line new
sets_none now old mid new words at d lt (done, (replies, each, is)) refuses =
    inr (
      record {
        done = done;
        pair = ((get_or words at d).now, (get_or words (at + 1) d).now);
        left = pairs (drop (at + 2) (texts words));
        order = is ∙ ap (λ (t : List (List ℕ)). done ++ pairs t) (pair_at words at d lt);
        replies = replies;
        mid = mid;
        puts = each;
        refuses = refuses;
      },
      refl,
    )
