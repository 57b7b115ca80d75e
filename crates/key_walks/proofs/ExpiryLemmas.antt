-- Entries whose time is over are taken away, one after the other.
use Rattle.std.proofs.Common.{Result, Ok, Err, IfOk, OnErr, ◌≡◌, ◌≢◌, ℕ, zero, suc, Bool, true, false, List, [], ◌∷◌, ◌++◌, refl, sym, ap, ◌∙◌, subst, replicate}
use Rattle.bin_stripes.specs.declared.expiry.Expiry.{Expiry}
use Rattle.bin_stripes.specs.declared.expiry.Expiry.TheVariants.{Took}
use Rattle.stripe_rule.specs.declared.view.View.{View}
use Rattle.stripe_rule.specs.Gains.{Keeps}
use Rattle.bin_stripes.specs.declared.ghost_action.GhostAction.{GhostAction}
use Rattle.bin_stripes.specs.Timed.{ExpiresOne}
use Rattle.bin_stripes.specs.Passes.{PassState, ServesSameMap}
use Rattle.key_walks.specs.Turns.{Chain}
use Rattle.key_walks.specs.Expired.{Expires, AfterExpiry}
use Rattle.key_walks.proofs.ChainLemmas.{chain_more}

pub replicate_more : {X : Type 0} (n : ℕ) (x : X) → replicate (suc n) x ≡ replicate n x ++ x ∷ []
replicate_more zero x = refl
replicate_more (suc n) x = ap (λ (xs : List _). x ∷ xs) (replicate_more n x)

-- each look so far took an entry away
pub record TookSoFar (now : ℕ) (old : PassState) (k : ℕ) (new : PassState) : Type 0 where
  pub often : ℕ
  pub looks : Chain (λ p answer q. ExpiresOne p k now answer q) old (replicate often Took) new

pub none_yet : (now : ℕ) (p : PassState) (k : ℕ) → TookSoFar now p k p
none_yet now p k = record { often = 0; looks = refl }

pub one_more : (now : ℕ) (p : PassState) (k : ℕ) (q r : PassState) → TookSoFar now p k q → ServesSameMap q r → ExpiresOne q k now Took r → TookSoFar now p k r
one_more now p k q r t same took = record {
  often = suc t.often;
  looks = subst (λ (xs : List Expiry). Chain (λ p answer q. ExpiresOne p k now answer q) p xs r) (sym (replicate_more t.often Took))
      (chain_more (λ p answer q. ExpiresOne p k now answer q) p q r (replicate t.often Took) Took t.looks same took);
}

pub none_left : (now : ℕ) (p : PassState) (k : ℕ) (q r : PassState) (answer : Expiry) → TookSoFar now p k q → ServesSameMap q r → ExpiresOne q k now answer r
    → answer ≢ Took → Expires now p k r
none_left now p k q r answer t same looks left = record {
  often = t.often;
  last = answer;
  looks = chain_more (λ p answer q. ExpiresOne p k now answer q) p q r (replicate t.often Took) answer t.looks same looks;
  none_left = left;
}

pub not_both : (b : Bool) → b ≡ true → b ≡ false → ⊥
not_both b t f = cc

-- ---- what was known before

pub keeps_on : (v u w : View GhostAction) (k : ℕ) → Keeps v u k → Keeps u w k → Keeps v w k
keeps_on v u w k p q = record { seen = q.seen ∙ p.seen; mine = q.mine ∙ p.mine }

pub looks_numbers : (now : ℕ) (p : PassState) (k : ℕ) (answers : List Expiry) (q : PassState) → Chain (λ p answer q. ExpiresOne p k now answer q) p answers q
    → q.view.numbers ≡ p.view.numbers
looks_numbers now p k [] q looks = ap (λ (s : PassState). s.view.numbers) looks
looks_numbers now p k (answer ∷ more) q looks = looks_numbers now looks.0 k more q looks.1.1.1 ∙ looks.1.1.0.makes.numbers

looks_elsewhere : (now : ℕ) (p : PassState) (k : ℕ) (answers : List Expiry) (q : PassState) (j : ℕ) → j ≢ k
    → Chain (λ p answer q. ExpiresOne p k now answer q) p answers q → Keeps p.view q.view j
looks_elsewhere now p k [] q j apart looks = subst (λ (s : PassState). Keeps p.view s.view j) (sym looks) (record { seen = refl; mine = refl })
looks_elsewhere now p k (answer ∷ more) q j apart looks =
    keeps_on p.view looks.0.view q.view j (looks.1.1.0.makes.elsewhere j apart) (looks_elsewhere now looks.0 k more q j apart looks.1.1.1)

pub expires_numbers : (now : ℕ) (p : PassState) (k : ℕ) (q : PassState) → Expires now p k q → q.view.numbers ≡ p.view.numbers
expires_numbers now p k q e = looks_numbers now p k (replicate e.often Took ++ e.last ∷ []) q e.looks

pub expires_elsewhere : (now : ℕ) (p : PassState) (k : ℕ) (q : PassState) (j : ℕ) → j ≢ k → Expires now p k q → Keeps p.view q.view j
expires_elsewhere now p k q j apart e = looks_elsewhere now p k (replicate e.often Took ++ e.last ∷ []) q j apart e.looks

-- ---- after that

pub and_then : (now : ℕ) (Did : PassState → PassState → Type 0) (p : PassState) (k : ℕ) (q r : PassState) → ServesSameMap p q → Expires now p k q → Did q r
    → AfterExpiry now Did p k r
and_then now Did p k q r same expires did = record { between = q; same = same; expires = expires; did = did }

pub ok_then : {X E : Type 0} (r : Result X E) (P Q : X → Type 0) → ((x : X) → P x → Q x) → IfOk r P → IfOk r Q
ok_then (Ok x) P Q f p = f x p
ok_then (Err e) P Q f p = tt

pub err_then : {X E P Q : Type 0} (r : Result X E) → (P → Q) → OnErr r P → OnErr r Q
err_then (Ok x) f p = tt
err_then (Err e) f p = f p
