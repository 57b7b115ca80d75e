-- Sweeps of all stripes.
use Rattle.std.proofs.Common.{◌≡◌, ℕ, suc, ◌+◌, ◌<◌, ◌⊎◌, ◌↔◌, min, Bool, true, false, ◌||◌, List, [], ◌∷◌, ◌++◌, Option, Some, None, inl, inr, refl, sym, ap, ◌∙◌, subst, arith, replicate, length, length-append, IsTrue}
use Rattle.std.specs.List.{Contains}
use Rattle.std.proofs.lemmas.List.Elements.{Contains-push, Contains-push_cases, Contains-append_left}
use Rattle.bin_stripes.specs.declared.expiry.Expiry.{Expiry}
use Rattle.bin_stripes.specs.declared.expiry.Expiry.TheVariants.{Took}
use Rattle.bin_stripes.specs.Timed.{ExpiresOne}
use Rattle.bin_stripes.specs.Passes.{PassState, ServesSameMap, stripes_of}
use Rattle.key_walks.specs.Turns.{Chain, InTurn}
use Rattle.key_walks.specs.Walks.{each}
use Rattle.key_walks.proofs.ChainLemmas.{chain_more, turn_more}
use Rattle.key_walks.proofs.ExpiryLemmas.{looks_numbers, replicate_more, not_both}
use Rattle.redis_service.specs.Sweeps.{SweepsStripe, SweepsAll, sooner, next_after, next_of}
use Rattle.redis_service.proofs.WalkLemmas.{Keeps, turns_keep}

-- ---- one stripe

-- each of this many looks took an entry away
abbrev pub TookOften : ℕ → PassState → ℕ → ℕ → PassState → Type 0
TookOften now old k often new = Chain (λ p answer q. ExpiresOne p k now answer q) old (replicate often Took) new

pub took_more : (now : ℕ) (p : PassState) (k often : ℕ) (q r : PassState) → TookOften now p k often q → ServesSameMap q r → ExpiresOne q k now Took r
    → TookOften now p k (suc often) r
took_more now p k often q r looks same took =
    subst (λ (xs : List Expiry). Chain (λ p answer q. ExpiresOne p k now answer q) p xs r) (sym (replicate_more often Took))
    (chain_more (λ p answer q. ExpiresOne p k now answer q) p q r (replicate often Took) Took looks same took)

pub stripe_swept : (now : ℕ) (p : PassState) (k often : ℕ) (q r : PassState) (answer : Expiry) → TookOften now p k often q → ServesSameMap q r
    → ExpiresOne q k now answer r → often < 20 → (answer ≡ Took → often ≡ 19) → SweepsStripe now p k answer r
stripe_swept now p k often q r answer looks same looked few last = record {
  often = often;
  looks = chain_more (λ p answer q. ExpiresOne p k now answer q) p q r (replicate often Took) answer looks same looked;
  few = few;
  twentieth = last;
}

stripe_keeps : (now : ℕ) (p : PassState) (k : ℕ) (answer : Expiry) (q : PassState) → SweepsStripe now p k answer q → Keeps p q
stripe_keeps now p k answer q s = looks_numbers now p k (replicate s.often Took ++ answer ∷ []) q s.looks

-- ---- the next time

sooner_none : (x : Option ℕ) → sooner x None ≡ x
sooner_none None = refl
sooner_none (Some at) = refl

min_again : (a b c : ℕ) → min (min a b) c ≡ min a (min b c)
min_again a b c = omega arith

sooner_again : (x y z : Option ℕ) → sooner (sooner x y) z ≡ sooner x (sooner y z)
sooner_again None y z = refl
sooner_again (Some a) None z = refl
sooner_again (Some a) (Some b) None = refl
sooner_again (Some a) (Some b) (Some c) = ap Some (min_again a b c)

next_more : (now : ℕ) (xs : List Expiry) (answer : Expiry) → next_of now (xs ++ answer ∷ []) ≡ sooner (next_of now xs) (next_after now answer)
next_more now [] answer = sooner_none (next_after now answer)
next_more now (x ∷ xs) answer =
    ap (λ (at : Option ℕ). sooner (next_after now x) at) (next_more now xs answer) ∙ sym (sooner_again (next_after now x) (next_of now xs) (next_after now answer))

-- ---- all stripes

-- the first n stripes were swept
pub record Swept (now n : ℕ) (old : PassState) (next : Option ℕ) (is_more : Bool) (new : PassState) : Type 0 where
  pub last : List Expiry
  pub turns : InTurn (SweepsStripe now) each old last new
  pub some : length last ≡ n
  pub next_is : next ≡ next_of now last
  pub more_is : IsTrue is_more ↔ Contains last Took

pub swept_none : (now : ℕ) (p : PassState) → Swept now 0 p None false p
swept_none now p = record {
  last = [];
  turns = refl;
  some = refl;
  next_is = refl;
  more_is = (λ t. absurd (not_both false t refl), λ has. absurd (let low = has.1 in omega (arith, low)));
}

pub swept_more : (now n : ℕ) (p q r : PassState) (next : Option ℕ) (is_more : Bool) (answer : Expiry) (soon : Option ℕ) (more : Bool) → Swept now n p next is_more q → ServesSameMap q r
    → SweepsStripe now q n answer r → soon ≡ sooner next (next_after now answer) → (IsTrue more ↔ (IsTrue is_more ⊎ (answer ≡ Took))) → Swept now (n + 1) p soon more r
swept_more now n p q r next is_more answer soon more f same sweeps soon_is more_is =
    let longer = length-append f.last (answer ∷ []) in
    let some = f.some in
    record {
      last = f.last ++ answer ∷ [];
      turns = turn_more (SweepsStripe now) each p q r f.last answer f.turns same (subst (λ k. SweepsStripe now q k answer r) (sym f.some) sweeps);
      some = omega (arith, longer, some);
      next_is = soon_is ∙ ap (λ (at : Option ℕ). sooner at (next_after now answer)) f.next_is ∙ sym (next_more now f.last answer);
      more_is = (
        λ t. elim (more_is.0 t) [
          | inl before ↦ Contains-append_left f.last (answer ∷ []) Took (f.more_is.0 before)
          | inr took ↦ subst (λ (a : Expiry). Contains (f.last ++ answer ∷ []) a) took (Contains-push f.last answer)
        ],
        λ has. more_is.1 (elim (Contains-push_cases f.last answer Took has) [
          | inl before ↦ inl (f.more_is.1 before)
          | inr took ↦ inr took
        ]),
      );
    }

pub swept_all : (now n : ℕ) (p q : PassState) (next : Option ℕ) (is_more : Bool) → Swept now n p next is_more q → n ≡ stripes_of p.map
    → (last : List Expiry) × (SweepsAll now p last q × ((next ≡ next_of now last) × (IsTrue is_more ↔ Contains last Took)))
swept_all now n p q next is_more f all = (f.last, (record { turns = f.turns; all = f.some ∙ all }, (f.next_is, f.more_is)))

pub swept_keeps : (now n : ℕ) (p q : PassState) (next : Option ℕ) (is_more : Bool) → Swept now n p next is_more q → Keeps p q
swept_keeps now n p q next is_more f = turns_keep (SweepsStripe now) (stripe_keeps now) each p f.last q f.turns

-- one more may be left
pub or_took : (before here : Bool) (answer : Expiry) → (IsTrue here ↔ (answer ≡ Took)) → (IsTrue (before || here) ↔ (IsTrue before ⊎ (answer ≡ Took)))
or_took true here answer is = (λ t. inl refl, λ some. refl)
or_took false here answer is = (λ t. inr (is.0 t), λ some. elim some [ inl t ↦ absurd (not_both false t refl) | inr took ↦ is.1 took ])
