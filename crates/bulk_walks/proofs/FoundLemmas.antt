-- From each worker's finds to the team's.
use Rattle.std.proofs.Common.{◌≡◌, ℕ, zero, suc, ◌^◌, ◌%◌, ◌<◌, List, [], ◌∷◌, ◌++◌, length, map, sum_by, get_or, Result, Ok, IfOk, refl, sym, ap, ◌∙◌, subst, arith, Option}
use Rattle.std.proofs.Math.Nat.{mod-lt}
use Rattle.std.proofs.lemmas.List.{get_or-map, length-map}
use Rattle.stripe_rule.specs.declared.view.View.{View}
use Rattle.verifier.specs.Checked.{Checked}
use Rattle.bins.specs.Table.{Entry}
use Rattle.bin_stripes.specs.declared.ghost_action.GhostAction.{GhostAction}
use Rattle.bin_stripes.specs.Invoked.{AreOf}
use Rattle.bin_stripes.specs.Passes.{PassState}
use Rattle.bpf_model.specs.declared.memory.NoMemory.{NoMemory}
use Rattle.atomic_methods.specs.declared.walk_reply.WalkKind.{WalkKind}
use Rattle.bulk_walks.specs.declared.part.Part.{Part}
use Rattle.bulk_walks.specs.Kept.{IsGathered}
use Rattle.bulk_walks.specs.Walks.{IsTurn, Walked, Each, IsScan}
use Rattle.bulk_walks.specs.Turns.{turn_sum, WorkerFinds, FindsAll}
use Rattle.bulk_walks.specs.Runs.{WorkerRuns, EachRuns, TeamRuns, AreGathered, lists_with}
use Rattle.bulk_walks.proofs.Sums.{turn_sum-same, sums_of_turns}
use Rattle.bulk_walks.proofs.TeamLemmas.{Turn, together, all_walked}

-- facts about one worker that found all of its own
record Own (n workers j : ℕ) (found : List Entry) (scans : ℕ → List Entry) : Type 0 where
  stripes : (k : ℕ) → IsTurn n workers j k → AreOf n k (scans k)
  bounded : (k : ℕ) → IsTurn n workers j k → length (scans k) < 2 ^ 57
  sum : (h : Entry → ℕ) → sum_by h found ≡ turn_sum workers j (λ k. sum_by h (scans k)) n

own_of : (n workers j : ℕ) (v w : View GhostAction) (found : List Entry) → WorkerFinds n n workers j v w found → (scans : ℕ → List Entry) × (Walked n workers j (Each IsScan scans) v w × Own n workers j found scans)
own_of n workers j v w found f = (f.scans, (f.walked, record { stripes = f.stripes; bounded = f.bounded; sum = f.sum }))

-- what each worker found, together
all_of : (n : ℕ) (before after : List PassState) (lists : List (List Entry)) (d : PassState) → 0 < length before → length lists ≡ length before → length after ≡ length before
    → ((j : ℕ) → j < length before → WorkerFinds n n (length before) j (get_or before j d).view (get_or after j d).view (get_or lists j [])) → FindsAll n before after lists
all_of n before after lists d some many left did =
    let W = length before in
    let G : ℕ → (ℕ → List Entry) → Type 0 = λ j scans. Turn IsScan n before after d j scans × Own n W j (get_or lists j []) scans in
    let of : (j : ℕ) → j < W → (scans : ℕ → List Entry) × G j scans = λ j low. own_of n W j _ _ (get_or lists j []) (did j low) in
    let all = together [] W G of in
    let scans = all.0 in
    record {
      scans = scans;
      walked = all_walked IsScan n before after d left scans (λ j low. let had = all.1 j low in (had.0, (had.1.0.0, had.1.1)));
      stripes = λ k low.
          let had = all.1 (k % W) (mod-lt k some) in
          subst (λ (es : List Entry). AreOf n k es) (had.1.1 k refl) (had.1.0.1.stripes k (low, refl));
      bounded = λ k low.
          let had = all.1 (k % W) (mod-lt k some) in
          subst (λ (es : List Entry). length es < 2 ^ 57) (had.1.1 k refl) (had.1.0.1.bounded k (low, refl));
      sum = λ h. sums_of_turns (λ (es : List Entry). sum_by h es) lists (λ k. sum_by h (scans k)) n [] (omega (arith, many, some)) (λ j low.
          let had = all.1 j (omega (arith, many)) in
          let same = turn_sum-same W j (λ k. sum_by h (had.0 k)) (λ k. sum_by h (scans k)) n (λ k t. ap (λ (es : List Entry). sum_by h es) (had.1.1 k t.1)) in
          subst (λ m. sum_by h (get_or lists j []) ≡ turn_sum m j (λ k. sum_by h (scans k)) n) (sym many) (had.1.0.1.sum h ∙ same));
    }

module _ (kind : WalkKind) (checked : Checked) (arg : Option (List ℕ)) where
  -- the early entries of each part; the list of each worker has what the worker found
  record Chosen (Finds : ℕ → List Entry → Type 0) (parts : List Part) : Type 0 where
    earlies : List (List Entry)
    gathered : AreGathered kind checked arg earlies parts
    many : length (lists_with earlies parts) ≡ length parts
    finds : (i : ℕ) → i < length parts → Finds i (get_or (lists_with earlies parts) i [])

  finds_at : (Finds : ℕ → List Entry → Type 0) (part : Part) (parts : List Part) (early : List Entry) (earlies : List (List Entry)) → Finds 0 (early ++ part.waiting)
      → ((i : ℕ) → i < length parts → Finds (suc i) (get_or (lists_with earlies parts) i [])) → (i : ℕ) → i < length (part ∷ parts) → Finds i (get_or (lists_with (early ∷ earlies) (part ∷ parts)) i [])
  finds_at Finds part parts early earlies first rest zero low = first
  finds_at Finds part parts early earlies first rest (suc i) low = rest i (omega (arith, low))

  choose : (Finds : ℕ → List Entry → Type 0) (parts : List Part) → ((i : ℕ) (d : Part) → i < length parts → (early : List Entry) × (Finds i (early ++ (get_or parts i d).waiting) × IsGathered kind checked arg early (get_or parts i d).gathered))
      → Chosen Finds parts
  choose Finds [] of = record { earlies = []; gathered = tt; many = refl; finds = λ i low. absurd (omega (arith, low)) }
  choose Finds (part ∷ parts) of =
      let first = of 0 part (omega arith) in
      let rest = choose (λ i. Finds (suc i)) parts (λ i d low. of (suc i) d (omega (arith, low))) in
      record {
        earlies = first.0 ∷ rest.earlies;
        gathered = (first.1.1, rest.gathered);
        many = ap suc rest.many;
        finds = finds_at Finds part parts first.0 rest.earlies first.1.0 rest.finds;
      }

  pub team_runs : (n : ℕ) (before after : List PassState) (rs : List (Result Part NoMemory)) (parts : List Part) → map Ok parts ≡ rs → (d : PassState) → 0 < length before → EachRuns kind checked arg n before rs after
      → TeamRuns kind checked arg n before after parts
  team_runs n before after rs parts are d some did =
      let W = length before in
      let count : length parts ≡ length before = (let l = ap (λ (xs : List (Result Part NoMemory)). length xs) are in let m = length-map {B = Result Part NoMemory} parts Ok in omega (arith, l, m, did.answers)) in
      let of : (i : ℕ) (e : Part) → i < length parts → WorkerRuns kind checked arg n W i (get_or before i d).view (get_or after i d).view (get_or parts i e) =
      λ i e low.
      let one = did.done i d (Ok e) (omega (arith, low, count)) in
      let is : get_or rs i (Ok e) ≡ Ok (get_or parts i e) = ap (λ (xs : List (Result Part NoMemory)). get_or xs i (Ok e)) (sym are) ∙ get_or-map Ok parts i e (Ok e) low in
      subst (λ (r : Result Part NoMemory). IfOk r (λ part. WorkerRuns kind checked arg n W i (get_or before i d).view (get_or after i d).view part)) is one in
      let all = choose (λ i found. WorkerFinds n n W i (get_or before i d).view (get_or after i d).view found) parts (λ i e low. let r = of i e low in (r.early, (r.finds, r.gathered))) in
      record {
        earlies = all.earlies;
        finds = all_of n before after (lists_with all.earlies parts) d some (omega (arith, all.many, count)) did.left (λ j low. all.finds j (omega (arith, low, count)));
        gathered = all.gathered;
      }
