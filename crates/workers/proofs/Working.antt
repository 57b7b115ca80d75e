-- From jobs to workers.
use Rattle.std.proofs.Common.{◌≡◌, ℕ, ◌<◌, List, ◌++◌, take, drop, length, map, get_or, Some, None, IsSomeAnd, sym, ap, ◌∙◌, subst, arith, slice_index_or, Option}
use Rattle.std.proofs.lemmas.List.{get_or-map, length-map}
use Rattle.std.proofs.lemmas.Grind.{common_steps}
use denote.Ref.{MutBor}
use denote.Param.Members.{Shared}
use Rattle.workers.specs.Workers.{job_of, Worked, AllWorked}
use Rattle.workers.specs.declared.jobs.Job.{Job}

module _ {F X T : Type 0} (g : Shared F (ℕ × (MutBor X × Unit {0})) (T × (MutBor X × Unit {0}))) (f : F) where
  -- the result of each job
  abbrev pub Done : List (Job X T) → List (Job X T) → Type 0
  Done js ks =
      (length ks ≡ length js) × ((i : ℕ) (d : Job X T) → i < length js → IsSomeAnd (slice_index_or ks i d).answer (λ r. Worked g f i (slice_index_or js i d).own r (slice_index_or ks i d).own))

  pub all_worked : (xs : List X) (js ks : List (Job X T)) (ys : List X) (rs : List T) → js ≡ map job_of xs → Done js ks → ys ≡ map (λ job. job.own) ks → map Some rs ≡ map (λ job. job.answer) ks → AllWorked g f xs rs ys
  all_worked xs js ks ys rs given done own answers =
      let lj : length js ≡ length xs = ap length given ∙ length-map xs job_of in
      let lk : length ks ≡ length xs = done.0 ∙ lj in
      let lr : length rs ≡ length xs = sym (length-map rs Some) ∙ ap length answers ∙ length-map ks (λ job. job.answer) ∙ lk in record {
        answers = lr;
        left = ap length own ∙ length-map ks (λ job. job.own) ∙ lk;
        each = λ i d e low.
            let dj : Job X T = record { own = d; answer = Some e } in
            let one : (get_or js i dj).own ≡ get_or xs i d = ap (λ (all : List (Job X T)). (get_or all i dj).own) given ∙ ap (λ (job : Job X T). job.own) (get_or-map job_of xs i d dj low) in
            let two : (get_or ks i dj).own ≡ get_or ys i d = sym (get_or-map (λ (job : Job X T). job.own) ks i dj d (omega arith)) ∙ ap (λ (all : List X). get_or all i d) (sym own) in
            let three : (get_or ks i dj).answer ≡ Some (get_or rs i e) =
            sym (get_or-map (λ (job : Job X T). job.answer) ks i dj None (omega arith)) ∙ ap (λ (all : List (Option T)). get_or all i None) (sym answers) ∙ get_or-map Some rs i e None (omega arith) in
            let fact : IsSomeAnd (get_or ks i dj).answer (λ r. Worked g f i (get_or js i dj).own r (get_or ks i dj).own) = done.1 i dj (omega arith) in
            subst (λ (y : X). Worked g f i (get_or xs i d) (get_or rs i e) y) two
            (subst (λ (x : X). Worked g f i x (get_or rs i e) (get_or ks i dj).own) one
            (subst (λ (o : Option T). IsSomeAnd o (λ r. Worked g f i (get_or js i dj).own r (get_or ks i dj).own)) three fact));
      }

-- a vector whose slice was written whole
pub kept : {A : Type 0} (n : ℕ) (k old : List A) → n ≡ length k → take n (k ++ drop (length k) old) ≡ k
kept n k old e = grind (arith, common_steps)
