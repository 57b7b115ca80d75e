-- Passes of a team, told and heard one after the other.
use Rattle.std.proofs.Common.{◌≡◌, ℕ, zero, suc, add-one, ◌+◌, ◌<◌, List, [], ◌∷◌, ◌++◌, length, take, drop, set, get_or, refl, sym, ap, subst, arith}
use Rattle.atomic_table.specs.Seated.{TableId}
use Rattle.stripe_rule.specs.Gains.{Hears}
use Rattle.bin_stripes.specs.Passes.{PassState, ServesSameMap, stripes_of}
use Rattle.crews.specs.Steps.{IsToldBy, Pairwise, HearsEach}

-- a pass of this map was told
pub told_by : (id : TableId) (from old new : PassState) → old.map ≡ id → ServesSameMap old new → Hears (stripes_of id) from.view old.view new.view → IsToldBy from old new
told_by id from old new is same hears = record { same = same; hears = subst (λ (m : TableId). Hears (stripes_of m) from.view old.view new.view) (sym is) hears }

pub hears_more : (old next new : PassState) (passes : List PassState) (pass : PassState) → HearsEach old passes next → IsToldBy pass next new → HearsEach old (passes ++ pass ∷ []) new
hears_more old next new [] pass h t = (new, subst (λ (p : PassState). IsToldBy pass p new) h t, refl)
hears_more old next new (p ∷ passes) pass (mid, told, rest) t = (mid, told, hears_more mid next new passes pass rest t)

take_next : {A : Type 0} (xs : List A) (i : ℕ) (x : A) → i < length xs → x ≡ get_or xs i x → take (suc i) xs ≡ take i xs ++ x ∷ []
take_next [] i x lt is = absurd (omega arith)
take_next (y ∷ xs) zero x lt is = ap (λ z. z ∷ []) (sym is)
take_next (y ∷ xs) (suc i) x lt is = ap (λ zs. y ∷ zs) (take_next xs i x (omega arith) is)

-- one more member is heard
pub heard_one_more : (old next new : PassState) (team : List PassState) (i : ℕ) (member : PassState) → i < length team → member ≡ get_or team i member
    → HearsEach old (take i team) next → IsToldBy member next new → HearsEach old (take (i + 1) team) new
heard_one_more old next new team i member lt is hears told =
    rw (add-one, take_next team i member lt is) (hears_more old next new (take i team) member hears told)

step : {A : Type 0} (R : A → A → Type 0) (olds items : List A) (i : ℕ) (member new : A) → i < length items
    → Pairwise R (take i olds) (take i items) → drop i items ≡ drop i olds → R (get_or items i member) new
    → Pairwise R (take (suc i) olds) (take (suc i) (set items i new)) × (drop (suc i) (set items i new) ≡ drop (suc i) olds)
step R olds [] i member new lt done rest r = absurd (omega arith)
step R [] (x ∷ items) zero member new lt done rest r = absurd cc
step R (o ∷ olds) (x ∷ items) zero member new lt done rest r =
    let same : x ≡ o = cc in
    ((subst (λ y. R y new) same r, tt), cc)
step R [] (x ∷ items) (suc i) member new lt done rest r = absurd done
step R (o ∷ olds) (x ∷ items) (suc i) member new lt done rest r =
    let (more, left) = step R olds items i member new (omega arith) done.1 rest r in
    ((done.0, more), left)

-- one more member is told
pub told_one_more : {A : Type 0} (R : A → A → Type 0) (olds items : List A) (i : ℕ) (member new : A) → i < length items
    → Pairwise R (take i olds) (take i items) → drop i items ≡ drop i olds → R (get_or items i member) new
    → Pairwise R (take (i + 1) olds) (take (i + 1) (set items i new)) × (drop (i + 1) (set items i new) ≡ drop (i + 1) olds)
told_one_more R olds items i member new lt done rest r = rw (add-one) (step R olds items i member new lt done rest r)
