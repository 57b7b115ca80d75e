-- From the replies to each worker's finds to the reply of the walk.
use Rattle.std.proofs.Common.{◌≡◌, ℕ, zero, suc, ◌^◌, ◌<◌, ◌≤◌, List, [], ◌∷◌, cond, All, get_or, length, sum_by, Option, Result, Ok, Err, IfOk, refl, sym, ap, ◌∙◌, arith, T}
use Rattle.std.specs.FinMap.{is_sorted}
use Rattle.std.proofs.lemmas.List.{length-map}
use Rattle.std.proofs.lemmas.List.Sums.{sum_by-le-sum_by}
use Rattle.bpf_model.specs.declared.memory.NoMemory.{NoMemory}
use Rattle.bpf_model.specs.declared.input.Answer.TheVariants.{Nothing, Bytes}
use Rattle.verifier.specs.Checked.{Checked}
use Rattle.bins.specs.Table.{Entry, by_bytes}
use Rattle.bins.specs.Replacements.{Outcome, is_unfit}
use Rattle.bin_stripes.specs.Passes.{PassState}
use Rattle.atomic_methods.specs.declared.walk_reply.WalkKind.{WalkKind}
use Rattle.atomic_methods.specs.declared.walk_reply.WalkKind.TheVariants.{ForEach}
use Rattle.atomic_methods.specs.declared.walk_reply.WalkReply.{WalkReply}
use Rattle.atomic_methods.specs.Replies.{present, IsReply}
use Rattle.bulk_walks.specs.Walks.{IsWalk, Walks}
use Rattle.bulk_walks.specs.Turns.{FindsAll, AreReplies, items_in}
use Rattle.bulk_walks.specs.declared.answers.Answers.{Answers}
use Rattle.bulk_walks.specs.Kept.{StandForAll}
use Rattle.bulk_walks.specs.Merges.{IsMerge}
use Rattle.bins.proofs.SameEntries.{rises, at_key}
use Rattle.bulk_walks.proofs.Order.{once_in_all}
use Rattle.bulk_walks.proofs.Sums.{sum_by_mapped, sum_of_ones, sum_below-le}
use Rattle.bulk_walks.proofs.RunLemmas.{may_all}
use Rattle.bulk_walks.proofs.PairLemmas.{Pair, entries_in, outcomes_in, in_order, sum_by-in_order, ordered_in_order, near_by, come_in_order, outcomes_of, answer_weight, unfit_weight, sum_by-present, sorted-present, all_pairs}

length-AreReplies : (checked : Checked) (arg : Option (List ℕ)) (lists : List (List Entry)) (replies : List WalkReply) → AreReplies checked arg lists replies → length replies ≡ length lists
length-AreReplies checked arg [] [] are = refl
length-AreReplies checked arg [] (r ∷ replies) are = absurd are
length-AreReplies checked arg (es ∷ lists) [] are = absurd are
length-AreReplies checked arg (es ∷ lists) (r ∷ replies) are = ap suc (length-AreReplies checked arg lists replies are.1)

reply_at : (checked : Checked) (arg : Option (List ℕ)) (lists : List (List Entry)) (replies : List WalkReply) → AreReplies checked arg lists replies → (i : ℕ) (d : List Entry) (e : WalkReply) → i < length replies → IsReply ForEach checked arg (get_or lists i d) (get_or replies i e)
reply_at checked arg [] [] are i d e low = absurd (omega (arith, low))
reply_at checked arg [] (r ∷ replies) are i d e low = absurd are
reply_at checked arg (es ∷ lists) [] are i d e low = absurd are
reply_at checked arg (es ∷ lists) (r ∷ replies) are zero d e low = are.0
reply_at checked arg (es ∷ lists) (r ∷ replies) are (suc i) d e low = reply_at checked arg lists replies are.1 i d e (omega (arith, low))

one_at_most : (o : Pair) → answer_weight (λ _. 1) o ≤ 1
one_at_most (e, Ok (Bytes answer)) = omega arith
one_at_most (e, Ok Nothing) = omega arith
one_at_most (e, Err part) = omega arith

-- an answer has the key of its entry
given_at_most : (key : List ℕ) (o : Pair) → answer_weight (at_key key) o ≤ at_key key o.0
given_at_most key (e, Ok (Bytes answer)) = omega arith
given_at_most key (e, Ok Nothing) = omega arith
given_at_most key (e, Err part) = omega arith

unfit_at_most : (o : Pair) → unfit_weight o ≤ 1
unfit_at_most (e, Ok answer) = omega arith
unfit_at_most (e, Err part) = omega arith

module _ (n : ℕ) (before after : List PassState) (lists : List (List Entry)) (checked : Checked) (arg : Option (List ℕ)) (replies : List WalkReply) (found : FindsAll n before after lists) (are : AreReplies checked arg lists replies) where
  -- a key is at most once in all lists
  once : (key : List ℕ) → sum_by (λ es. sum_by (at_key key) es) lists ≤ 1
  once key = once_in_all n found.scans (λ h. sum_by (λ es. sum_by h es) lists) found.stripes found.sum key

  -- and so at most once in the items of all replies
  pub once_given : (key : List ℕ) → sum_by (λ es. sum_by (at_key key) es) (items_in replies) ≤ 1
  once_given key =
      let all = all_pairs checked arg lists replies are in
      let a = all.answers (at_key key) in
      let b = sum_by-le-sum_by (answer_weight (at_key key)) (λ (p : Pair). at_key key p.0) all.pairs (given_at_most key) in
      let c = all.entries (at_key key) in
      let o = once key in
      omega (arith, a, b, c, o)

  pub all_counted : All (λ reply. reply.counts.given ≡ length reply.items) replies
  all_counted = λ i e low. (reply_at checked arg lists replies are i [] e low).given

  -- the sums fit
  module _ (stripes : n ≤ 64) where
    few : length (all_pairs checked arg lists replies are).pairs < 2 ^ 64
    few =
        let all = all_pairs checked arg lists replies are in
        let a = sum_of_ones all.pairs in
        let b = all.entries (λ _. 1) in
        let c = found.sum (λ _. 1) in
        let d = sum_below-le n (λ k. sum_by (λ _. 1) (found.scans k)) (2 ^ 57) (λ k low. let o = sum_of_ones (found.scans k) in let f = found.bounded k low in omega (arith, o, f)) in
        omega (arith, a, b, c, d, stripes)

    pub scanned_fit : sum_by (λ (r : WalkReply). r.counts.scanned) replies < 2 ^ 64
    scanned_fit = let a = (all_pairs checked arg lists replies are).scanned in let f = few in omega (arith, a, f)

    pub given_fit : sum_by (λ (r : WalkReply). r.counts.given) replies < 2 ^ 64
    given_fit =
        let all = all_pairs checked arg lists replies are in
        let a = all.given in
        let b = sum_by-le-sum_by (answer_weight (λ _. 1)) (λ _. 1) all.pairs one_at_most in
        let c = sum_of_ones all.pairs in
        let f = few in
        omega (arith, a, b, c, f)

    pub unfit_fit : sum_by (λ (r : WalkReply). r.counts.unfit) replies < 2 ^ 64
    unfit_fit =
        let all = all_pairs checked arg lists replies are in
        let a = all.unfit in
        let b = sum_by-le-sum_by unfit_weight (λ _. 1) all.pairs unfit_at_most in
        let c = sum_of_ones all.pairs in
        let f = few in
        omega (arith, a, b, c, f)

  -- the merged reply is the reply to all entries in key order
  pub is_walk : (kind : WalkKind) (reply : WalkReply) → IsMerge kind replies reply → IsWalk kind n checked arg before after reply
  is_walk kind reply merge =
      let all = all_pairs checked arg lists replies are in
      let S = in_order all.pairs in
      let E = entries_in S in
      let O = outcomes_in S in
      let weighs : (h : Entry → ℕ) → sum_by h E ≡ sum_by (λ es. sum_by h es) lists = λ h. sum_by_mapped h (λ (p : Pair). p.0) S ∙ sum_by-in_order (λ (p : Pair). h p.0) all.pairs ∙ all.entries h in
      let sorted : T (is_sorted by_bytes E) = rises E (near_by E (ordered_in_order all.pairs)) (λ key. let w = weighs (at_key key) in let o = once key in omega (arith, w, o)) in
      let many : length all.pairs ≡ length E =
      (let a = sum_of_ones all.pairs in let b = sum_by-in_order (λ (p : Pair). 1) all.pairs in let c = sum_of_ones S in let d = length-map S (λ (p : Pair). p.0) in omega (arith, a, b, c, d)) in
      record {
        scans = found.scans;
        walked = found.walked;
        entries = E;
        in_order = record { order = sorted; all = λ h. weighs h ∙ found.sum h };
        replies = record {
          outcomes = O;
          one_each = length-map S (λ (p : Pair). p.1) ∙ sym (length-map S (λ (p : Pair). p.0));
          are_outcomes = outcomes_of checked arg S (come_in_order checked arg all.pairs all.come);
          items = merge.items (present E O) (sorted-present E O sorted) (λ h. sum_by-present h S ∙ sum_by-in_order (answer_weight h) all.pairs ∙ all.answers h);
          scanned = merge.scanned ∙ all.scanned ∙ many;
          given = merge.given;
          unfit = merge.unfit ∙ all.unfit ∙ sym (sum_by_mapped (λ (x : Outcome). cond (is_unfit x) 1 0) (λ (p : Pair). p.1) S ∙ sum_by-in_order unfit_weight all.pairs);
        };
      }

  -- or memory was refused to the merge
  pub walks_of : (kind : WalkKind) (all : List Answers) → StandForAll kind replies all → (result : Result WalkReply NoMemory) → IfOk result (λ reply. (rs : List WalkReply) → StandForAll kind rs all → IsMerge kind rs reply)
      → Walks kind n checked arg before after result
  walks_of kind all stand (Ok reply) merge = is_walk kind reply (merge replies stand)
  walks_of kind all stand (Err e) merge = may_all n found.scans before after found.walked
