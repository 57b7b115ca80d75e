-- A chain whose positions are divided between two bins, from its head on.
use Rattle.std.proofs.Common.{◌≡◌, ◌≢◌, ℕ, ◌+◌, ◌-◌, ◌<◌, ◌≤◌, cond, List, [], ◌∷◌, ◌++◌, length, slice_index, sym, ap, subst, ◌∙◌, arith, inl, inr}
use Rattle.std.specs.Prelude.{nat_lt}
use Rattle.std.proofs.lemmas.Bool.{cases_lt, cases_eq}
use Rattle.std.proofs.lemmas.Bool.Decides.{nat_tests}
use Rattle.std.proofs.lemmas.List.{length_push, get_or_append_left, get_or_push}
use Rattle.bins.specs.Chains.{IsLast, Links, Moved}
use Rattle.bins.proofs.ChainLemmas.{last_at, links_alike}

-- the positions from `at` on have been divided
abbrev pub between : (ℕ → ℕ) → (ℕ → ℕ) → ℕ → ℕ → ℕ
between old new at j = cond (nat_lt j at) (old j) (new j)

module _ (old new : ℕ → ℕ) where
  pub to_come : (at j : ℕ) → j < at → between old new at j ≡ old j
  to_come at j lt = grind (arith, nat_tests)

  pub come : (at j : ℕ) → at ≤ j → between old new at j ≡ new j
  come at j le = grind (arith, nat_tests)

  -- all were
  pub all_parted : (n : ℕ) (heads nexts : List ℕ) → Links (between old new 0) n heads nexts → Links new n heads nexts
  all_parted n heads nexts is = links_alike (between old new 0) new n heads nexts (λ j high. sym (come 0 j (omega arith))) is

  -- only positions of one bin go elsewhere
  module _ (from : ℕ) (same : (j : ℕ) → old j ≢ from → new j ≡ old j) where
    -- none was
    pub none_parted : (n at : ℕ) (heads nexts : List ℕ) → Links old n heads nexts → IsLast old n from at → Links (between old new at) n heads nexts
    none_parted n at heads nexts is last = links_alike old (between old new at) n heads nexts (λ j high. elim (cases_lt j at) [
      | inl lt ↦ to_come at j lt
      | inr ge ↦ come at j ge ∙ same j (last.later j ge high)
    ]) is

    module _ (at next : ℕ) (some : 0 < at) (last : IsLast (between old new at) (at - 1) from next) where
      -- one more position: each other is where it was
      pub others_stay : (j : ℕ) → j ≢ at - 1 → between old new next j ≡ between old new at j
      others_stay j other = elim (cases_lt j next) [
        | inl lt ↦ to_come next j lt ∙ sym (to_come at j (omega (arith, lt, last.range)))
        | inr ge ↦ elim (cases_lt j (at - 1)) [
          | inl below ↦
              let here : between old new at j ≡ old j = to_come at j (omega (arith, below)) in
              come next j ge ∙ same j (λ e. last.later j ge below (here ∙ e)) ∙ sym here
          | inr above ↦ come next j ge ∙ sym (come at j (omega (arith, above, other, some)))
        ]
      ]

      pub one_moved : (into : ℕ) → new (at - 1) ≡ into → Moved (between old new at) (between old new next) (at - 1) into
      one_moved into e = record { here = come next (at - 1) last.range ∙ e; others = others_stay }

      -- if it stays in its bin nothing changes
      pub one_stays : (n : ℕ) (heads nexts : List ℕ) → new (at - 1) ≡ old (at - 1) → Links (between old new at) n heads nexts → Links (between old new next) n heads nexts
      one_stays n heads nexts e is = links_alike (between old new at) (between old new next) n heads nexts (λ j high. elim (cases_eq j (at - 1)) [
        | inl here ↦ subst (λ (k : ℕ). between old new next k ≡ between old new at k) (sym here)
            (come next (at - 1) last.range ∙ e ∙ sym (to_come at (at - 1) (omega (arith, some))))
        | inr other ↦ others_stay j other
      ]) is

      -- the next one is in the bin
      pub next_there : 0 < next → old (next - 1) ≡ from
      next_there more = sym (to_come at (next - 1) (omega (arith, more, last.range, some))) ∙ last.there more

-- one more bin, which has no position yet
pub links_widened : (bin : ℕ → ℕ) (n : ℕ) (heads nexts wider : List ℕ) → Links bin n heads nexts → ((j : ℕ) → bin j < length heads) → wider ≡ heads ++ 0 ∷ [] → Links bin n wider nexts
links_widened bin n heads nexts wider is within e =
    let count : length wider ≡ length heads + 1 = ap length e ∙ length_push heads 0 in
    record {
      long = is.long;
      falls = is.falls;
      at_heads = λ b in_range. elim (cases_lt b (length heads)) [
        | inl lt ↦ last_at bin n b _ _ (sym (ap (λ (xs : List ℕ). slice_index xs b) e ∙ get_or_append_left heads (0 ∷ []) 0 b lt)) (is.at_heads b lt)
        | inr ge ↦
            let here : b ≡ length heads = omega (arith, ge, in_range, count) in
            last_at bin n b 0 _ (sym (ap (λ (xs : List ℕ). slice_index xs b) e ∙ get_or_push heads 0 0 b (sym here))) (record {
              range = omega arith;
              later = λ j low high at. omega (arith, within j, at, here);
              there = λ pos. absurd (omega (arith, pos));
            })
      ];
      at_nexts = λ i high in_range. is.at_nexts i high (within i);
    }
