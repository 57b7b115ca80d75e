-- What a worker has gathered, if the program runs on more entries.
use Rattle.std.proofs.Common.{◌≡◌, ℕ, ◌+◌, List, [], ◌∷◌, ◌++◌, length, length-append, Option, cond, Ok, Err, refl, sym, ap, subst, ◌∙◌, arith, sum_by}
use Rattle.std.proofs.lemmas.List.Sums.{sum_by-append}
use Rattle.bpf_model.specs.declared.input.Answer.TheVariants.{Nothing, Bytes}
use Rattle.verifier.specs.Checked.{Checked}
use Rattle.bins.specs.Replacements.{Outcome, is_unfit}
use Rattle.bins.specs.Passes.{AreOutcomes}
use Rattle.bins.specs.Table.{Entry}
use Rattle.atomic_methods.specs.declared.walk_reply.WalkKind.{WalkKind}
use Rattle.atomic_methods.specs.declared.walk_reply.WalkKind.TheVariants.{Search, ForEach}
use Rattle.atomic_methods.specs.Replies.{present}
use Rattle.bulk_walks.specs.declared.part.Gathered.{Gathered}
use Rattle.bulk_walks.specs.Kept.{IsFirst, RunsOnAll, AddsRuns, FindsFirst, IsGathered}
use Rattle.bulk_walks.specs.Merges.{comes_first}
use Rattle.bulk_walks.proofs.FirstLemmas.{first_same, first_of_both}

module _ (checked : Checked) (arg : Option (List ℕ)) where
  -- the outcomes on two lists
  outcomes_on_both : (es fs : List Entry) (os ps : List Outcome) → length os ≡ length es → AreOutcomes checked arg es os → AreOutcomes checked arg fs ps → AreOutcomes checked arg (es ++ fs) (os ++ ps)
  outcomes_on_both [] fs [] ps len one other = other
  outcomes_on_both [] fs (o ∷ os) ps len one other = absurd (omega (arith, len))
  outcomes_on_both (e ∷ es) fs [] ps len one other = absurd (omega (arith, len))
  outcomes_on_both (e ∷ es) fs (o ∷ os) ps len one other = (one.0, outcomes_on_both es fs os ps (omega (arith, len)) one.1 other)

  present_on_both : (es fs : List Entry) (os ps : List Outcome) → length os ≡ length es → present (es ++ fs) (os ++ ps) ≡ present es os ++ present fs ps
  present_on_both [] fs [] ps len = refl
  present_on_both [] fs (o ∷ os) ps len = absurd (omega (arith, len))
  present_on_both (e ∷ es) fs [] ps len = absurd (omega (arith, len))
  present_on_both (e ∷ es) fs (Ok (Bytes answer) ∷ os) ps len = ap (λ (xs : List Entry). (e.0, answer) ∷ xs) (present_on_both es fs os ps (omega (arith, len)))
  present_on_both (e ∷ es) fs (Ok Nothing ∷ os) ps len = present_on_both es fs os ps (omega (arith, len))
  present_on_both (e ∷ es) fs (Err part ∷ os) ps len = present_on_both es fs os ps (omega (arith, len))

  pub runs_on_both : (es fs xs ys : List Entry) (u v : ℕ) → RunsOnAll checked arg es xs u → RunsOnAll checked arg fs ys v → RunsOnAll checked arg (es ++ fs) (xs ++ ys) (u + v)
  runs_on_both es fs xs ys u v one other = record {
    outcomes = one.outcomes ++ other.outcomes;
    one_each = omega (arith, one.one_each, other.one_each, length-append one.outcomes other.outcomes, length-append es fs);
    are_outcomes = outcomes_on_both es fs one.outcomes other.outcomes one.one_each one.are_outcomes other.are_outcomes;
    answers = ap (λ (zs : List Entry). zs ++ ys) one.answers ∙ ap (λ (zs : List Entry). present es one.outcomes ++ zs) other.answers ∙ sym (present_on_both es fs one.outcomes other.outcomes one.one_each);
    unfit_is = omega (arith, one.unfit_is, other.unfit_is, sum_by-append (λ (o : Outcome). cond (is_unfit o) 1 0) one.outcomes other.outcomes);
  }

  -- forEach keeps all answers
  pub adds_all : (es more old new : List Entry) (u : ℕ) → RunsOnAll checked arg es more u → new ≡ old ++ more → AddsRuns ForEach checked arg es old new u
  adds_all es more old new u runs added = record { more = more; runs = runs; kept = λ all same. added ∙ ap (λ (xs : List Entry). xs ++ more) same }

  -- search keeps the first one
  pub adds_first : (es items old new : List Entry) (u : ℕ) → FindsFirst checked arg es items u → new ≡ cond (comes_first items old) items old → AddsRuns Search checked arg es old new u
  adds_first es items old new u found is = record {
    more = found.all;
    runs = found.runs;
    kept = λ all first. subst (λ (xs : List Entry). IsFirst (λ h. sum_by h (all ++ found.all)) xs) (sym is)
        (first_same (λ h. sum_by h all + sum_by h found.all) (λ h. sum_by h (all ++ found.all)) (cond (comes_first items old) items old) (λ h. sum_by-append h all found.all)
        (first_of_both (λ h. sum_by h all) (λ h. sum_by h found.all) old items first found.first));
  }

  pub gathered_none : (kind : WalkKind) (g : Gathered) → g.items ≡ [] → g.scanned ≡ 0 → g.unfit ≡ 0 → IsGathered kind checked arg [] g
  gathered_none Search g items scanned unfit = record {
    all = [];
    runs = record { outcomes = []; one_each = refl; are_outcomes = tt; answers = refl; unfit_is = unfit };
    scanned = scanned;
    kept = subst (λ (xs : List Entry). IsFirst (λ h. sum_by h []) xs) (sym items) (λ h. refl);
  }
  gathered_none ForEach g items scanned unfit = record {
    all = [];
    runs = record { outcomes = []; one_each = refl; are_outcomes = tt; answers = refl; unfit_is = unfit };
    scanned = scanned;
    kept = items;
  }

  pub gathered_more : (kind : WalkKind) (found entries : List Entry) (g new : Gathered) (u : ℕ) → IsGathered kind checked arg found g → AddsRuns kind checked arg entries g.items new.items u
      → new.scanned ≡ g.scanned + length entries → new.unfit ≡ g.unfit + u → IsGathered kind checked arg (found ++ entries) new
  gathered_more kind found entries g new u had adds scanned unfit = record {
    all = had.all ++ adds.more;
    runs = subst (λ m. RunsOnAll checked arg (found ++ entries) (had.all ++ adds.more) m) (sym unfit) (runs_on_both found entries had.all adds.more g.unfit u had.runs adds.runs);
    scanned = omega (arith, scanned, had.scanned, length-append found entries);
    kept = adds.kept had.all had.kept;
  }
