-- What a query of the batches' table finds.
use Rattle.std.proofs.Common.{◌≡◌, ◌∙◌, ℕ, Bool, true, false, cond, List, [], ◌∷◌, ◌++◌, map, flat_map, refl, sym, ap, subst, inl, inr, IsPermutation}
use Rattle.std.specs.List.{list_all}
use Rattle.std.proofs.lemmas.List.Sorted.{IsPermutation-sym}
use Rattle.sqlite_value.specs.declared.value.Value.TheVariants.{Null}
use Rattle.sqlite_value.specs.Order.{Row}
use Rattle.sqlite_trees.proofs.ListLemmas.{all-permutation}
use Rattle.sqlite_sql.specs.Term.{Term, Env, col, holds, eval_all}
use Rattle.sqlite_sql.specs.Query.{Output, output, matches, inner, end, IsAnswer}
use Rattle.sqlite_sql.specs.Program.{overlay}
use Rattle.sqlite_rules.specs.Lists.{Has}
use Rattle.sqlite_rules.proofs.ListLemmas.{all_has, all_from, has_right}
use Rattle.sqlite_rules.proofs.ProbeLemmas.{has_mapped, mapped_has}
use Rattle.sqlite.specs.Effect.{Database, Answers}
use Rattle.kept_file.proofs.StoredLemmas.{AreOf}
use Rattle.kept_file.proofs.TextLemmas.{query_in, query_of, program_of}

has_matched : {X Y : Type 0} (p : X → Bool) (f : X → Y) (xs : List X) (y : Y) → Has (flat_map (λ x. cond (p x) (f x ∷ []) []) xs) y → (x : X) × Has xs x × (p x ≡ true) × (y ≡ f x)
has_matched p f [] y h = absurd h
has_matched {X} {Y} p f (x ∷ xs) y h = go (p x) refl h (has_matched p f xs y)
  where
    go : (b : Bool) → p x ≡ b → Has (cond b (f x ∷ []) [] ++ flat_map (λ z. cond (p z) (f z ∷ []) []) xs) y
        → (Has (flat_map (λ z. cond (p z) (f z ∷ []) []) xs) y → (z : X) × Has xs z × (p z ≡ true) × (y ≡ f z)) → (z : X) × Has (x ∷ xs) z × (p z ≡ true) × (y ≡ f z)
    go true is (inl same) later = (x, inl refl, is, same)
    go true is (inr there) later = let r = later there in (r.0, inr r.1, r.2, r.3)
    go false is there later = let r = later there in (r.0, inr r.1, r.2, r.3)

matched_has : {X Y : Type 0} (p : X → Bool) (f : X → Y) (xs : List X) (x : X) → Has xs x → p x ≡ true → Has (flat_map (λ z. cond (p z) (f z ∷ []) []) xs) (f x)
matched_has p f [] x h passes = absurd h
matched_has p f (z ∷ xs) x (inl same) passes = rw (← same, passes) (inl refl)
matched_has p f (z ∷ xs) x (inr later) passes = has_right (cond (p z) (f z ∷ []) []) (flat_map (λ w. cond (p w) (f w ∷ []) []) xs) (f x) (matched_has p f xs x later passes)

has_permuted : {X : Type 0} (xs ys : List X) (x : X) → IsPermutation xs ys → Has ys x → Has xs x
has_permuted xs ys x same = all_has (Has xs) ys x (all-permutation (Has xs) xs ys same (all_from (Has xs) xs (λ e h. h)))

-- the answer shows just the rows that pass
pub record ShowsOf (passes : Row → Bool) (show : Row → Row) (rows found : List Row) : Type 0 where
  pub sound : (x : Row) → Has found x → (r : Row) × Has rows r × (passes r ≡ true) × (x ≡ show r)
  pub complete : (r : Row) → Has rows r → passes r ≡ true → Has found (show r)

-- the parameters, and a stored row
abbrev pub beside : Row → Row → Env
beside params row = params ∷ row ∷ []

abbrev pub passing : List Term → Row → Row → Bool
passing filter params row = list_all (holds (beside params row)) filter

module _ (tree : ℕ) (filter project : List Term) (db : Database) (params : Row) (found : List Row) where
  pub shows_in : Answers db (program_of (query_in tree filter project)) params found
      → ShowsOf (passing filter params) (λ row. eval_all project (beside params row)) (overlay db.trees [] tree) found
  shows_in answers =
      let q = query_in tree filter project in
      let test = passing filter params in
      let env = beside params in
      let rows = overlay db.trees [] tree in
      let answer : IsAnswer q (overlay db.trees []) params found = answers.answer Null in
      let all = matches (overlay db.trees []) filter (inner tree end) (params ∷ []) in
      let kept : answer.kept ≡ map (output q) all = answer.distinct ∙ ap (map (output q)) answer.grouped in
      record {
        sound = λ x h.
            let o = has_mapped (λ (k : Output). k.1) answer.ordered x (subst (λ l. Has l x) answer.shown h) in
            let e = has_mapped (output q) all o.0 (subst (λ l. Has l o.0) kept (has_permuted answer.kept answer.ordered o.0 answer.same o.1)) in
            let r = has_matched test env rows e.0 e.1 in
            (r.0, r.1, r.2, o.2 ∙ ap (λ (k : Output). k.1) (e.2 ∙ ap (output q) r.3));
        complete = λ r h passes.
            let o = output q (env r) in
            let there = subst (λ l. Has l o) (sym kept) (mapped_has (output q) all (env r) (matched_has test env rows r h passes)) in
            subst (λ l. Has l (eval_all project (env r))) (sym answer.shown)
            (mapped_has (λ (k : Output). k.1) answer.ordered o (has_permuted answer.ordered answer.kept o (IsPermutation-sym _ _ answer.same) there));
      }

-- .. of the batches
pub shows_of : (filter project : List Term) (db : Database) (params : Row) (found : List Row) → Answers db (program_of (query_of filter project)) params found
    → ShowsOf (passing filter params) (λ row. eval_all project (beside params row)) (db.trees 4) found
shows_of = shows_in 4

-- .. by their rowids
pub rowids_of : (filter : List Term) (db : Database) (params : Row) (found : List Row) → Answers db (program_of (query_of filter (col 1 0 ∷ []))) params found
    → AreOf (passing filter params) (db.trees 4) found
rowids_of filter db params found answers =
    let shows = shows_of filter (col 1 0 ∷ []) db params found answers in
    record { sound = shows.sound; complete = shows.complete }
