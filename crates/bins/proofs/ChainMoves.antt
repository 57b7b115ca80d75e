-- A position that changes its bin: one link is made to lead elsewhere.
use Rattle.std.proofs.Common.{◌≡◌, ◌≢◌, ℕ, ◌+◌, ◌-◌, ◌<◌, ◌≤◌, List, length, set, slice_index, sym, ap, subst, ◌∙◌, arith, inl, inr}
use Rattle.std.proofs.lemmas.Bool.{cases_eq, cases_lt}
use Rattle.std.proofs.lemmas.List.{length-set, get_or-set_same, get_or-set_other}
use Rattle.bins.specs.declared.index.Link.{Link}
use Rattle.bins.specs.declared.index.Link.TheVariants.{Head, Next}
use Rattle.bins.specs.Chains.{IsLast, Links, IsLinkTo, follow, heads_relinked, nexts_relinked}
use Rattle.bins.proofs.ChainLemmas.{last_in, last_at, last_more, last_fewer, last_behind, last_alike}

-- position i goes from one way to spread positions over bins to another; only bin b matters for this
module _ (bin new : ℕ → ℕ) (heads nexts : List ℕ) (n i b v : ℕ) (is : Links bin n heads nexts) (within : i < n) (in_bins : b < length heads)
    (same : (j : ℕ) → j ≢ i → new j ≡ bin j)
    (others : (c : ℕ) → c < length heads → c ≢ b → (bin i ≢ c) × (new i ≢ c))
    (last : IsLast new (i + 1) b v)
    (here : new i < length heads → IsLast new i (new i) (slice_index nexts i)) where
  -- the last position is after i
  behind : (m p : ℕ) → i + 1 < p → IsLast bin m b p → IsLast new m b p
  behind m p lt was = record {
    range = was.range;
    later = λ j low high e. was.later j low high (sym (same j (λ eq. omega (arith, eq, low, lt))) ∙ e);
    there = λ pos. same (p - 1) (λ eq. omega (arith, eq, lt)) ∙ was.there pos;
  }

  -- no position is between i and m
  upto : (m : ℕ) → i < m → ((j : ℕ) → i < j → j < m → bin j ≢ b) → IsLast new m b v
  upto m lt none = last_more new (i + 1) m b v (omega (arith, lt)) (λ j low high e. none j (omega (arith, low)) high (sym (same j (λ eq. omega (arith, eq, low))) ∙ e)) last

  -- another bin
  elsewhere : (m c p : ℕ) → c < length heads → c ≢ b → IsLast bin m c p → IsLast new m c p
  elsewhere m c p in_range other was = last_alike bin new m c p
      (λ j high e. same j (λ eq. (others c in_range other).0 (sym (ap bin eq) ∙ e)) ∙ e)
      (λ j high e. sym (same j (λ eq. (others c in_range other).1 (sym (ap new eq) ∙ e))) ∙ e) was

  -- positions before i
  earlier : (m c p : ℕ) → m ≤ i → IsLast bin m c p → IsLast new m c p
  earlier m c p le was = last_alike bin new m c p
      (λ j high e. same j (λ eq. omega (arith, eq, high, le)) ∙ e) (λ j high e. sym (same j (λ eq. omega (arith, eq, high, le))) ∙ e) was

  -- the head of the bin leads to i
  module _ (none : (j : ℕ) → i < j → j < n → bin j ≢ b) where
    by_head : Links new n (set heads b v) nexts
    by_head = record {
      long = is.long;
      falls = is.falls;
      at_heads = λ c in_range. elim (cases_eq c b) [
        | inl eq ↦ last_at new n c v _ (sym (get_or-set_same heads b v 0 in_bins) ∙ ap (slice_index (set heads b v)) (sym eq)) (last_in new n b c v (sym eq) (upto n within none))
        | inr other ↦ let bound : c < length heads = subst (λ (k : ℕ). c < k) (length-set heads b v) in_range in
            last_at new n c _ _ (sym (get_or-set_other heads b c v 0 other)) (elsewhere n c _ bound other (is.at_heads c bound))
      ];
      at_nexts = λ k high in_range.
          let bound : new k < length heads = subst (λ (m : ℕ). new k < m) (length-set heads b v) in_range in
          elim (cases_eq k i) [
            | inl eq ↦ subst (λ (m : ℕ). IsLast new m (new m) (slice_index nexts m)) (sym eq) (here (subst (λ (m : ℕ). new m < length heads) eq bound))
            | inr other ↦
                let bound_before : bin k < length heads = subst (λ (m : ℕ). m < length heads) (same k other) bound in
                last_in new k (bin k) (new k) _ (sym (same k other)) (elim (cases_eq (bin k) b) [
                  | inl in_b ↦ elim (cases_lt k i) [
                    | inl lt ↦ earlier k (bin k) _ (omega (arith, lt)) (is.at_nexts k high bound_before)
                    | inr ge ↦ absurd (none k (omega (arith, ge, other)) high in_b)
                  ]
                  | inr not_b ↦ elsewhere k (bin k) _ bound_before not_b (is.at_nexts k high bound_before)
                ])
          ];
    }

  -- the next of position p leads to i
  module _ (p : ℕ) (low : i < p) (high : p < n) (in_b : bin p ≡ b) (none : (j : ℕ) → i < j → j < p → bin j ≢ b) where
    in_nexts : p < length nexts
    in_nexts = omega (arith, high, is.long)

    by_next : Links new n heads (set nexts p v)
    by_next = record {
      long = omega (arith, is.long, length-set nexts p v);
      falls = λ k less. elim (cases_eq k p) [
        | inl eq ↦ omega (arith, eq, low, last.range, get_or-set_same nexts p v 0 in_nexts, ap (slice_index (set nexts p v)) eq)
        | inr other ↦ omega (arith, is.falls k less, get_or-set_other nexts p k v 0 other)
      ];
      at_heads = λ c in_range. elim (cases_eq c b) [
        | inl eq ↦ last_in new n b c _ (sym eq) (behind n _ (let at = last_in bin n c b _ eq (is.at_heads c in_range) in omega (arith, low, last_behind bin n b _ p at high in_b)) (last_in bin n c b _ eq (is.at_heads c in_range)))
        | inr other ↦ elsewhere n c _ in_range other (is.at_heads c in_range)
      ];
      at_nexts = λ k less in_range. elim (cases_eq k i) [
        | inl eq ↦ last_at new k (new k) _ _ (sym (get_or-set_other nexts p k v 0 (λ e. omega (arith, e, eq, low))))
            (subst (λ (m : ℕ). IsLast new m (new m) (slice_index nexts m)) (sym eq) (here (subst (λ (m : ℕ). new m < length heads) eq in_range)))
        | inr other ↦ last_in new k (bin k) (new k) _ (sym (same k other)) (at_other k less other (subst (λ (m : ℕ). m < length heads) (same k other) in_range))
      ];
    }
      where
        at_other : (k : ℕ) → k < n → k ≢ i → bin k < length heads → IsLast new k (bin k) (slice_index (set nexts p v) k)
        at_other k less other bound = elim (cases_eq (bin k) b) [
          | inl k_in_b ↦ elim (cases_lt k i) [
            | inl lt ↦ last_at new k (bin k) _ _ (sym (get_or-set_other nexts p k v 0 (λ e. omega (arith, e, lt, low)))) (earlier k (bin k) _ (omega (arith, lt)) (is.at_nexts k less bound))
            | inr ge ↦ last_in new k b (bin k) _ (sym k_in_b) (elim (cases_eq k p) [
              | inl eq ↦ last_at new k b v _ (sym (get_or-set_same nexts p v 0 in_nexts) ∙ ap (slice_index (set nexts p v)) (sym eq))
                  (subst (λ (m : ℕ). IsLast new m b v) (sym eq) (upto p low none))
              | inr apart ↦ last_at new k b _ _ (sym (get_or-set_other nexts p k v 0 apart))
                  (let later : p < k = elim (cases_lt k p) [ inl lt ↦ absurd (none k (omega (arith, ge, other)) lt k_in_b) | inr le ↦ omega (arith, le, apart) ] in
                  let was = last_in bin k (bin k) b _ k_in_b (is.at_nexts k less bound) in
                  behind k _ (omega (arith, low, last_behind bin k b _ p was later in_b)) was)
            ])
          ]
          | inr not_b ↦ last_at new k (bin k) _ _ (sym (get_or-set_other nexts p k v 0 (λ e. not_b (ap bin e ∙ in_b)))) (elsewhere k (bin k) _ bound not_b (is.at_nexts k less bound))
        ]

  -- by whichever link leads to i
  pub links_relinked : (link : Link) → IsLinkTo bin n b i link → Links new n (heads_relinked link v heads) (nexts_relinked link v nexts)
  links_relinked (Head c) to = subst (λ (k : ℕ). Links new n (set heads k v) nexts) (sym to.0) (by_head to.1)
  links_relinked (Next p) to = by_next p to.0 to.1 to.2 to.3

-- a link of bin b at a position after i, or the bin's head
abbrev pub Reaches : (ℕ → ℕ) → ℕ → ℕ → ℕ → Link → Type 0
Reaches bin n b i (Head c) = c ≡ b
Reaches bin n b i (Next p) = (i < p) × (p < n) × (bin p ≡ b)

module _ (bin : ℕ → ℕ) (heads nexts : List ℕ) (n b i : ℕ) (is : Links bin n heads nexts) (in_bins : b < length heads) where
  -- how high in its chain a link stands
  abbrev above : Link → ℕ
  above (Head c) = n
  above (Next p) = p

  -- a link leads to the last position below it in the bin
  pub last_of_link : (link : Link) → Reaches bin n b i link → IsLast bin (above link) b (follow heads nexts link)
  last_of_link (Head c) e = subst (λ (k : ℕ). IsLast bin n b (slice_index heads k)) (sym e) (is.at_heads b in_bins)
  last_of_link (Next p) to = last_in bin p (bin p) b _ to.2 (is.at_nexts p to.1 (subst (λ (k : ℕ). k < length heads) (sym to.2) in_bins))

  above_within : (link : Link) → Reaches bin n b i link → above link ≤ n
  above_within (Head c) to = omega arith
  above_within (Next p) to = omega (arith, to.1)

  pub last_at_link : (link : Link) (at : ℕ) → at ≡ follow heads nexts link → Reaches bin n b i link → IsLast bin (above link) b at
  last_at_link link at e to = last_at bin (above link) b _ at (sym e) (last_of_link link to)

  -- one link further, if that is still after i
  pub reach_on : (link : Link) (at : ℕ) → at ≡ follow heads nexts link → Reaches bin n b i link → i + 1 < at → Reaches bin n b i (Next (at - 1))
  reach_on link at e to lt =
      let last = last_at_link link at e to in
      let within = above_within link to in
      (omega (arith, lt), omega (arith, lt, last.range, within), last.there (omega (arith, lt)))

  -- if it isn't, no position of the bin is between
  pub reach_end : (link : Link) (at : ℕ) → at ≡ follow heads nexts link → Reaches bin n b i link → at ≤ i + 1 → IsLinkTo bin n b i link
  reach_end (Head c) at e to le = let last = last_at_link (Head c) at e to in (to, λ j low high. last.later j (omega (arith, low, le)) high)
  reach_end (Next p) at e to le = let last = last_at_link (Next p) at e to in (to.0, to.1, to.2, λ j low high. last.later j (omega (arith, low, le)) high)

  -- a link that leads to i gives the last position of the bin up to i
  pub last_upto : (link : Link) → i < n → IsLinkTo bin n b i link → IsLast bin (i + 1) b (follow heads nexts link)
  last_upto (Head c) within to = last_fewer bin (i + 1) n b _ (omega (arith, within)) (λ j low high. to.1 j (omega (arith, low)) high) (last_of_link (Head c) to.0)
  last_upto (Next p) within to = last_fewer bin (i + 1) p b _ (omega (arith, to.0)) (λ j low high. to.3 j (omega (arith, low)) high) (last_of_link (Next p) (to.0, to.1, to.2))
