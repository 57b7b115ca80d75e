-- Chains of positions: one more position, the last one taken out, and a link that is made to lead elsewhere.
use Rattle.std.proofs.Common.{◌≡◌, ◌≢◌, ℕ, ◌+◌, ◌-◌, ◌<◌, ◌≤◌, List, length, set, take, slice_index, sym, ap, subst, ◌∙◌, arith, inl, inr}
use Rattle.std.proofs.lemmas.Bool.{cases_eq, cases_lt}
use Rattle.std.proofs.lemmas.List.{length-set, length-take-le, get_or-take, get_or_past, get_or-set_same, get_or-set_other}
use Rattle.bins.specs.Chains.{IsLast, Links}

-- the same fact for equal numbers
pub last_in : (bin : ℕ → ℕ) (n b c p : ℕ) → b ≡ c → IsLast bin n b p → IsLast bin n c p
last_in bin n b c p e is = subst (λ (x : ℕ). IsLast bin n x p) e is

pub last_at : (bin : ℕ → ℕ) (n b p q : ℕ) → p ≡ q → IsLast bin n b p → IsLast bin n b q
last_at bin n b p q e is = subst (IsLast bin n b) e is

module _ (bin : ℕ → ℕ) where
  -- position n itself is the last
  pub last_here : (n b : ℕ) → bin n ≡ b → IsLast bin (n + 1) b (n + 1)
  last_here n b e = record {
    range = omega arith;
    later = λ j low high. absurd (omega (arith, low, high));
    there = λ _. let same : n ≡ n + 1 - 1 = omega arith in subst (λ (k : ℕ). bin k ≡ b) same e;
  }

  -- positions of other bins change nothing
  pub last_more : (n m b p : ℕ) → n ≤ m → ((j : ℕ) → n ≤ j → j < m → bin j ≢ b) → IsLast bin n b p → IsLast bin m b p
  last_more n m b p le none is = record {
    range = omega (arith, is.range);
    later = λ j low high. elim (cases_lt j n) [ inl lt ↦ is.later j low lt | inr ge ↦ none j ge high ];
    there = is.there;
  }

  pub last_fewer : (n m b p : ℕ) → n ≤ m → ((j : ℕ) → n ≤ j → j < m → bin j ≢ b) → IsLast bin m b p → IsLast bin n b p
  last_fewer n m b p le none is = record {
    range = elim (cases_lt n p) [
      | inl lt ↦ absurd (none (p - 1) (omega (arith, lt)) (omega (arith, lt, is.range)) (is.there (omega (arith, lt))))
      | inr ge ↦ ge
    ];
    later = λ j low high. is.later j low (omega (arith, high));
    there = is.there;
  }

  -- a position in the bin stands before the last one
  pub last_behind : (n b p j : ℕ) → IsLast bin n b p → j < n → bin j ≡ b → j < p
  last_behind n b p j is high e = elim (cases_lt j p) [ inl lt ↦ lt | inr ge ↦ absurd (is.later j ge high e) ]

  -- one more position is chained
  pub links_more : (n b : ℕ) (heads nexts news : List ℕ) → Links bin n heads nexts → b ≡ bin n → b < length heads → n + 1 ≤ length news
      → ((j : ℕ) → j < n → slice_index news j ≡ slice_index nexts j) → slice_index news n ≡ slice_index heads b → Links bin (n + 1) (set heads b (n + 1)) news
  links_more n b heads nexts news is e lt long same here = record {
    long = long;
    falls = λ i high. elim (cases_lt i n) [
      | inl less ↦ omega (arith, same i less, is.falls i less)
      | inr ge ↦ let at : i ≡ n = omega (arith, ge, high) in let bound = (is.at_heads b lt).range in omega (arith, ap (slice_index news) at, here, bound, at)
    ];
    at_heads = λ c in_range. elim (cases_eq c b) [
      | inl eq ↦ last_at bin (n + 1) c (n + 1) _ (sym (get_or-set_same heads b (n + 1) 0 lt) ∙ ap (slice_index (set heads b (n + 1))) (sym eq)) (last_here n c (sym e ∙ sym eq))
      | inr other ↦ last_at bin (n + 1) c _ _ (sym (get_or-set_other heads b c (n + 1) 0 other))
          (last_more n (n + 1) c _ (omega arith) (λ j low high at. let j_is : j ≡ n = omega (arith, low, high) in other (sym at ∙ ap bin j_is ∙ sym e))
          (is.at_heads c (subst (λ (k : ℕ). c < k) (length-set heads b (n + 1)) in_range)))
    ];
    at_nexts = λ i high in_range. elim (cases_lt i n) [
      | inl less ↦ last_at bin i (bin i) _ _ (sym (same i less)) (is.at_nexts i less (subst (λ (k : ℕ). bin i < k) (length-set heads b (n + 1)) in_range))
      | inr ge ↦ let at : n ≡ i = omega (arith, ge, high) in
          subst (λ (k : ℕ). IsLast bin k (bin k) (slice_index news k)) at (last_at bin n (bin n) _ _ (sym here) (last_in bin n b (bin n) _ e (is.at_heads b lt)))
    ];
  }

  -- the last position is taken out
  pub links_fewer : (n b : ℕ) (heads nexts news : List ℕ) → Links bin (n + 1) heads nexts → b ≡ bin n → b < length heads → n ≤ length news
      → ((j : ℕ) → j < n → slice_index news j ≡ slice_index nexts j) → Links bin n (set heads b (slice_index nexts n)) news
  links_fewer n b heads nexts news is e lt long same = record {
    long = long;
    falls = λ i high. omega (arith, same i high, is.falls i (omega (arith, high)));
    at_heads = λ c in_range. elim (cases_eq c b) [
      | inl eq ↦ last_at bin n c _ _ (sym (get_or-set_same heads b (slice_index nexts n) 0 lt) ∙ ap (slice_index (set heads b (slice_index nexts n))) (sym eq))
          (last_in bin n (bin n) c _ (sym e ∙ sym eq) (is.at_nexts n (omega arith) (subst (λ (k : ℕ). k < length heads) e lt)))
      | inr other ↦ last_at bin n c _ _ (sym (get_or-set_other heads b c (slice_index nexts n) 0 other))
          (last_fewer n (n + 1) c _ (omega arith) (λ j low high at. let j_is : j ≡ n = omega (arith, low, high) in other (sym at ∙ ap bin j_is ∙ sym e))
          (is.at_heads c (subst (λ (k : ℕ). c < k) (length-set heads b (slice_index nexts n)) in_range)))
    ];
    at_nexts = λ i high in_range. last_at bin i (bin i) _ _ (sym (same i high))
        (is.at_nexts i (omega (arith, high)) (subst (λ (k : ℕ). bin i < k) (length-set heads b (slice_index nexts n)) in_range));
  }

  -- a position that is in no bin may have any next
  pub links_hidden : (n i v : ℕ) (heads nexts : List ℕ) → Links bin n heads nexts → length heads ≤ bin i → v ≤ i → Links bin n heads (set nexts i v)
  links_hidden n i v heads nexts is hidden le = record {
    long = omega (arith, is.long, length-set nexts i v);
    falls = λ k high. elim (cases_eq k i) [
      | inl eq ↦ elim (cases_lt i (length nexts)) [
        | inl lt ↦ omega (arith, eq, get_or-set_same nexts i v 0 lt, ap (slice_index (set nexts i v)) eq)
        | inr ge ↦ absurd (omega (arith, ge, eq, high, is.long))
      ]
      | inr other ↦ omega (arith, is.falls k high, get_or-set_other nexts i k v 0 other)
    ];
    at_heads = is.at_heads;
    at_nexts = λ k high in_range. last_at bin k (bin k) _ _ (sym (get_or-set_other nexts i k v 0 (λ eq. let same = ap bin eq in absurd (omega (arith, same, hidden, in_range))))) (is.at_nexts k high in_range);
  }

-- two ways to spread positions over bins that agree about a bin
pub last_alike : (bin new : ℕ → ℕ) (n b p : ℕ) → ((j : ℕ) → j < n → bin j ≡ b → new j ≡ b) → ((j : ℕ) → j < n → new j ≡ b → bin j ≡ b) → IsLast bin n b p → IsLast new n b p
last_alike bin new n b p to from is = record {
  range = is.range;
  later = λ j low high e. is.later j low high (from j high e);
  there = λ pos. to (p - 1) (omega (arith, pos, is.range)) (is.there pos);
}

-- and about all
pub links_alike : (bin new : ℕ → ℕ) (n : ℕ) (heads nexts : List ℕ) → ((j : ℕ) → j < n → new j ≡ bin j) → Links bin n heads nexts → Links new n heads nexts
links_alike bin new n heads nexts same is = record {
  long = is.long;
  falls = is.falls;
  at_heads = λ b in_range. last_alike bin new n b _ (λ j high e. same j high ∙ e) (λ j high e. sym (same j high) ∙ e) (is.at_heads b in_range);
  at_nexts = λ i high in_range. last_in new i (bin i) (new i) _ (sym (same i high))
      (last_alike bin new i (bin i) _ (λ j low e. same j (omega (arith, low, high)) ∙ e) (λ j low e. sym (same j (omega (arith, low, high))) ∙ e)
      (is.at_nexts i high (subst (λ (k : ℕ). k < length heads) (same i high) in_range)));
}

-- a search along a chain has passed these: no position from `at` on has the hash, and the one that `at` leads to is in its
-- bin
abbrev pub Passed : (ℕ → ℕ) → List ℕ → ℕ → ℕ → ℕ → ℕ → Type 0
Passed bin hs hash b n at = (at ≤ n) × ((j : ℕ) → at ≤ j → j < n → slice_index hs j ≢ hash) × (0 < at → bin (at - 1) ≡ b)

-- past a position that has another hash
pub passed_on : (bin : ℕ → ℕ) (hs : List ℕ) (hash b n at p : ℕ) → ((j : ℕ) → slice_index hs j ≡ hash → bin j ≡ b) → 0 < at → slice_index hs (at - 1) ≢ hash
    → IsLast bin (at - 1) (bin (at - 1)) p → Passed bin hs hash b n at → Passed bin hs hash b n p
passed_on bin hs hash b n at p binned pos differs last is = (
  omega (arith, last.range, is.0),
  λ j low high e. elim (cases_lt j (at - 1)) [
    | inl lt ↦ last.later j low lt (binned j e ∙ sym (is.2 pos))
    | inr ge ↦ elim (cases_lt j at) [
      | inl less ↦ let here : j ≡ at - 1 = omega (arith, ge, less) in differs (sym (ap (slice_index hs) here) ∙ e)
      | inr beyond ↦ is.1 j beyond high e
    ]
  ],
  λ more. last.there more ∙ is.2 pos,
)

-- if there is no position, no head leads anywhere
pub links_none : (bin : ℕ → ℕ) (n : ℕ) (heads nexts : List ℕ) → n ≡ 0 → ((b : ℕ) → slice_index heads b ≡ 0) → Links bin n heads nexts
links_none bin n heads nexts none zeros = record {
  long = omega (arith, none);
  falls = λ i high. absurd (omega (arith, none, high));
  at_heads = λ b in_range. record {
    range = omega (arith, zeros b);
    later = λ j low high. absurd (omega (arith, none, high));
    there = λ pos. absurd (omega (arith, pos, zeros b));
  };
  at_nexts = λ i high. absurd (omega (arith, none, high));
}

pub none_lead : (bin : ℕ → ℕ) (n k : ℕ) (heads nexts : List ℕ) → Links bin n heads nexts → n ≡ 0 → k ≤ length heads → (b : ℕ) → slice_index (take k heads) b ≡ 0
none_lead bin n k heads nexts is none le b = elim (cases_lt b k) [
  | inl lt ↦
      let range = (is.at_heads b (omega (arith, lt, le))).range in
      let zero_is : slice_index heads b ≡ 0 = omega (arith, range, none) in
      get_or-take k heads b 0 lt ∙ zero_is
  | inr ge ↦ get_or_past (take k heads) b 0 (omega (arith, ge, length-take-le k heads le))
]
