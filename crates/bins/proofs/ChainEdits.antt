-- Lists of hashes and the links of their positions: a hash is added, the last one is removed, or one is replaced.
use Rattle.std.proofs.Common.{◌≡◌, ◌≢◌, ℕ, ◌+◌, ◌-◌, ◌<◌, ◌≤◌, cond, List, [], ◌∷◌, ◌++◌, length, set, take, slice_index, refl, sym, ap, subst, ◌∙◌, arith}
use Rattle.std.specs.Prelude.{nat_eq}
use Rattle.std.specs.List.{swap_remove}
use Rattle.std.proofs.lemmas.Bool.{eq-eqb, ne_eqb}
use Rattle.std.proofs.lemmas.List.{length-set, length_push, length-take-le, get_or_append_left, get_or_push, get_or-take, get_or-set_same, take_more, take_all, take_at, set_at, set-append_left}
use Rattle.bins.specs.declared.index.Link.{Link}
use Rattle.bins.specs.declared.index.Link.TheVariants.{Head, Next}
use Rattle.bins.specs.Chains.{Links, IsLinkTo, follow, heads_relinked, nexts_relinked, bin_of, bins_of}
use Rattle.bins.proofs.ChainLemmas.{last_at, last_here, last_more, last_fewer, last_alike, links_more, links_fewer, links_hidden, links_alike}
use Rattle.bins.proofs.ChainMoves.{links_relinked, last_upto}

-- the same fact for equal numbers and lists
links_at : (s m n k l : ℕ) (hs heads others nexts : List ℕ) → m ≡ n → k ≡ l → heads ≡ others → Links (bins_of s m hs) k heads nexts → Links (bins_of s n hs) l others nexts
links_at s m n k l hs heads others nexts bins size same is =
    subst (λ (x : ℕ). Links (bins_of s x hs) l others nexts) bins
    (subst (λ (x : ℕ). Links (bins_of s m hs) x others nexts) size
    (subst (λ (xs : List ℕ). Links (bins_of s m hs) k xs nexts) same is))

-- a hash is added after the others, and its position becomes the head of its bin
pub links_added : (s h b : ℕ) (heads hs nexts hashes news others : List ℕ) → Links (bins_of s (length heads) hs) (length hs) heads nexts → length nexts ≡ length hs
    → b ≡ bin_of s (length heads) h → b < length heads → hashes ≡ hs ++ h ∷ [] → news ≡ nexts ++ slice_index heads b ∷ [] → others ≡ set heads b (length news)
    → Links (bins_of s (length others) hashes) (length hashes) others news
links_added s h b heads hs nexts hashes news others is long e lt pushed next_pushed head_set =
    let size : length hs + 1 ≡ length hashes = sym (ap length pushed ∙ length_push hs h) in
    let count : length hs + 1 ≡ length news = sym (ap length next_pushed ∙ length_push nexts (slice_index heads b) ∙ ap (λ (k : ℕ). k + 1) long) in
    let bins : length heads ≡ length others = sym (ap length head_set ∙ length-set heads b (length news)) in
    let here : slice_index hashes (length hs) ≡ h = ap (λ (xs : List ℕ). slice_index xs (length hs)) pushed ∙ get_or_push hs h 0 (length hs) refl in
    links_at s (length heads) (length others) (length hs + 1) (length hashes) hashes (set heads b (length hs + 1)) others news bins size (ap (set heads b) count ∙ sym head_set)
    (links_more (bins_of s (length heads) hashes) (length hs) b heads nexts news
    (links_alike (bins_of s (length heads) hs) (bins_of s (length heads) hashes) (length hs) heads nexts
    (λ j high. ap (bin_of s (length heads)) (ap (λ (xs : List ℕ). slice_index xs j) pushed ∙ get_or_append_left hs (h ∷ []) 0 j high)) is)
    (e ∙ ap (bin_of s (length heads)) (sym here)) lt (omega (arith, count))
    (λ j high. ap (λ (xs : List ℕ). slice_index xs j) next_pushed ∙ get_or_append_left nexts (slice_index heads b ∷ []) 0 j (omega (arith, high, long)))
    (ap (λ (xs : List ℕ). slice_index xs (length hs)) next_pushed ∙ get_or_push nexts (slice_index heads b) 0 (length hs) long))

-- the last hash is removed, and the position before it in its bin becomes the head
pub links_taken : (s b n : ℕ) (heads hs nexts hashes news others : List ℕ) → Links (bins_of s (length heads) hs) (length hs) heads nexts → length nexts ≡ length hs
    → n + 1 ≡ length hs → b ≡ bin_of s (length heads) (slice_index hs n) → b < length heads → hashes ≡ take n hs → news ≡ take n nexts → others ≡ set heads b (slice_index nexts n)
    → Links (bins_of s (length others) hashes) (length hashes) others news
links_taken s b n heads hs nexts hashes news others is long count e lt cut next_cut head_set =
    let size : n ≡ length hashes = sym (ap length cut ∙ length-take-le n hs (omega (arith, count))) in
    let news_size : length news ≡ n = ap length next_cut ∙ length-take-le n nexts (omega (arith, count, long)) in
    let bins : length heads ≡ length others = sym (ap length head_set ∙ length-set heads b (slice_index nexts n)) in
    links_at s (length heads) (length others) n (length hashes) hashes (set heads b (slice_index nexts n)) others news bins size (sym head_set)
    (links_alike (bins_of s (length heads) hs) (bins_of s (length heads) hashes) n (set heads b (slice_index nexts n)) news
    (λ j high. ap (bin_of s (length heads)) (ap (λ (xs : List ℕ). slice_index xs j) cut ∙ get_or-take n hs j 0 high))
    (links_fewer (bins_of s (length heads) hs) n b heads nexts news
    (subst (λ (k : ℕ). Links (bins_of s (length heads) hs) k heads nexts) (sym count) is) e lt (omega (arith, news_size))
    (λ j high. ap (λ (xs : List ℕ). slice_index xs j) next_cut ∙ get_or-take n nexts j 0 high)))

pub split_last : (hs : List ℕ) (n h : ℕ) → n + 1 ≡ length hs → h ≡ slice_index hs n → hs ≡ take n hs ++ h ∷ []
split_last hs n h count e = sym (take_all (n + 1) hs (omega (arith, count))) ∙ take_more hs n 0 (omega (arith, count)) ∙ ap (λ (x : ℕ). take n hs ++ x ∷ []) (sym e)

-- the last hash takes the place of another, or is the removed one
at_end : (rest : List ℕ) (h i : ℕ) → swap_remove (rest ++ h ∷ []) i 0 ≡ take (length rest) (set (rest ++ h ∷ []) i h)
at_end rest h i =
    let count : length (rest ++ h ∷ []) - 1 ≡ length rest = omega (arith, length_push rest h) in
    ap (λ (n : ℕ). take n (set (rest ++ h ∷ []) i (slice_index (rest ++ h ∷ []) n))) count
    ∙ ap (λ (x : ℕ). take (length rest) (set (rest ++ h ∷ []) i x)) (get_or_push rest h 0 (length rest) refl)

pub swapped_earlier : (hs rest : List ℕ) (i h : ℕ) → hs ≡ rest ++ h ∷ [] → i < length rest → set rest i h ≡ swap_remove hs i 0
swapped_earlier hs rest i h split lt =
    sym (ap (λ (xs : List ℕ). swap_remove xs i 0) split ∙ at_end rest h i
    ∙ ap (take (length rest)) (set-append_left rest (h ∷ []) i h lt)
    ∙ take_at (set rest i h) (h ∷ []) (length rest) (length-set rest i h))

pub swapped_last : (hs rest : List ℕ) (i h : ℕ) → hs ≡ rest ++ h ∷ [] → i < length hs → length rest ≤ i → rest ≡ swap_remove hs i 0
swapped_last hs rest i h split lt ge =
    let here : length rest ≡ i = omega (arith, ge, lt, ap length split, length_push rest h) in
    sym (ap (λ (xs : List ℕ). swap_remove xs i 0) split ∙ at_end rest h i
    ∙ ap (take (length rest)) (set_at rest h [] h i here)
    ∙ take_at rest (h ∷ []) (length rest) refl)

-- position i is in no bin, and the others are where they were
module _ (bin : ℕ → ℕ) (i m : ℕ) where
  abbrev pub hidden : ℕ → ℕ
  hidden j = cond (nat_eq j i) m (bin j)

  hidden_here : hidden i ≡ m
  hidden_here = rw (eq-eqb i i refl) refl

  hidden_other : (j : ℕ) → j ≢ i → hidden j ≡ bin j
  hidden_other j other = rw (ne_eqb j i other) refl

pub length-heads_relinked : (link : Link) (at : ℕ) (heads : List ℕ) → length (heads_relinked link at heads) ≡ length heads
length-heads_relinked (Head b) at heads = length-set heads b at
length-heads_relinked (Next p) at heads = refl

pub length-nexts_relinked : (link : Link) (at : ℕ) (nexts : List ℕ) → length (nexts_relinked link at nexts) ≡ length nexts
length-nexts_relinked (Head b) at nexts = refl
length-nexts_relinked (Next p) at nexts = length-set nexts p at

-- a position is taken out of its chain: the link that led to it now leads past it
pub links_unlinked : (bin : ℕ → ℕ) (heads nexts : List ℕ) (n i : ℕ) (link : Link) → Links bin n heads nexts → i < n → bin i < length heads → IsLinkTo bin n (bin i) i link
    → Links (hidden bin i (length heads)) n (heads_relinked link (slice_index nexts i) heads) (nexts_relinked link (slice_index nexts i) nexts)
links_unlinked bin heads nexts n i link is within in_bins to =
    let none = hidden_here bin i (length heads) in
    let same = hidden_other bin i (length heads) in
    links_relinked bin (hidden bin i (length heads)) heads nexts n i (bin i) (slice_index nexts i) is within in_bins same
    (λ c in_range other. (λ e. other (sym e), λ e. omega (arith, e, none, in_range)))
    (last_more (hidden bin i (length heads)) i (i + 1) (bin i) (slice_index nexts i) (omega arith)
    (λ j low high e. let here : j ≡ i = omega (arith, low, high) in omega (arith, sym (ap (hidden bin i (length heads)) here) ∙ e, none, in_bins))
    (last_alike bin (hidden bin i (length heads)) i (bin i) (slice_index nexts i)
    (λ j high e. same j (λ eq. omega (arith, eq, high)) ∙ e) (λ j high e. sym (same j (λ eq. omega (arith, eq, high))) ∙ e) (is.at_nexts i within in_bins)))
    (λ in_range. absurd (omega (arith, none, in_range))) link to

-- a position in no chain is linked in: it leads to where the link led, and the link leads to it
pub links_linked : (bin new : ℕ → ℕ) (heads nexts : List ℕ) (n i : ℕ) (link : Link) → Links bin n heads nexts → i < n → length heads ≤ bin i → new i < length heads
    → ((j : ℕ) → j ≢ i → new j ≡ bin j) → IsLinkTo bin n (new i) i link
    → Links new n (heads_relinked link (i + 1) heads) (nexts_relinked link (i + 1) (set nexts i (follow heads nexts link)))
links_linked bin new heads nexts n i link is within none in_bins same to =
    let upto = last_upto bin heads nexts n (new i) i is in_bins link within to in
    let before = last_fewer bin i (i + 1) (new i) (follow heads nexts link) (omega arith)
    (λ j low high e. let here : j ≡ i = omega (arith, low, high) in omega (arith, sym (ap bin here) ∙ e, none, in_bins)) upto in
    let long : i < length nexts = omega (arith, within, is.long) in
    let set_here : slice_index (set nexts i (follow heads nexts link)) i ≡ follow heads nexts link = get_or-set_same nexts i (follow heads nexts link) 0 long in
    links_relinked bin new heads (set nexts i (follow heads nexts link)) n i (new i) (i + 1)
    (links_hidden bin n i (follow heads nexts link) heads nexts is none before.range) within in_bins same
    (λ c in_range other. (λ e. omega (arith, e, none, in_range), λ e. other (sym e)))
    (last_here new i (new i) refl)
    (λ in_range. last_at new i (new i) _ _ (sym set_here)
    (last_alike bin new i (new i) (follow heads nexts link) (λ j high e. same j (λ eq. omega (arith, eq, high)) ∙ e) (λ j high e. sym (same j (λ eq. omega (arith, eq, high))) ∙ e) before))
    link to

-- a position is taken out of its bin's chain
pub moved_out : (bin : ℕ → ℕ) (heads nexts others news : List ℕ) (i from at : ℕ) (link : Link) → Links bin (length nexts) heads nexts → i < length nexts → bin i ≡ from → from < length heads
    → at ≡ slice_index nexts i → IsLinkTo bin (length nexts) from i link → others ≡ heads_relinked link at heads → news ≡ nexts_relinked link at nexts
    → Links (hidden bin i (length heads)) (length news) others news
moved_out bin heads nexts others news i from at link is within e in_bins read to heads_are nexts_are =
    let to_bin : IsLinkTo bin (length nexts) (bin i) i link = subst (λ (k : ℕ). IsLinkTo bin (length nexts) k i link) (sym e) to in
    let out = links_unlinked bin heads nexts (length nexts) i link is within (subst (λ (k : ℕ). k < length heads) (sym e) in_bins) to_bin in
    let size : length nexts ≡ length news = sym (ap length nexts_are ∙ length-nexts_relinked link at nexts) in
    subst (λ (k : ℕ). Links (hidden bin i (length heads)) k others news) size
    (subst (λ (xs : List ℕ). Links (hidden bin i (length heads)) (length nexts) xs news) (ap (λ (x : ℕ). heads_relinked link x heads) (sym read) ∙ sym heads_are)
    (subst (λ (xs : List ℕ). Links (hidden bin i (length heads)) (length nexts) (heads_relinked link (slice_index nexts i) heads) xs) (ap (λ (x : ℕ). nexts_relinked link x nexts) (sym read) ∙ sym nexts_are) out))

-- and linked into another chain
pub moved_in : (bin new : ℕ → ℕ) (bins : ℕ) (others news heads_after nexts_after : List ℕ) (i into at : ℕ) (link : Link) → Links (hidden bin i bins) (length news) others news → length others ≡ bins → i < length news
    → into < bins → new i ≡ into → ((j : ℕ) → j ≢ i → new j ≡ bin j) → at ≡ follow others news link → IsLinkTo (hidden bin i bins) (length news) into i link
    → heads_after ≡ heads_relinked link (i + 1) others → nexts_after ≡ nexts_relinked link (i + 1) (set news i at) → Links new (length nexts_after) heads_after nexts_after
moved_in bin new bins others news heads_after nexts_after i into at link is size within in_bins here same leads to heads_are nexts_are =
    let none = hidden_here bin i bins in
    let linked = links_linked (hidden bin i bins) new others news (length news) i link is within (omega (arith, none, size)) (omega (arith, here, in_bins, size))
    (λ j other. same j other ∙ sym (hidden_other bin i bins j other)) (subst (λ (k : ℕ). IsLinkTo (hidden bin i bins) (length news) k i link) (sym here) to) in
    let count : length news ≡ length nexts_after = sym (ap length nexts_are ∙ length-nexts_relinked link (i + 1) (set news i at) ∙ length-set news i at) in
    subst (λ (k : ℕ). Links new k heads_after nexts_after) count
    (subst (λ (xs : List ℕ). Links new (length news) xs nexts_after) (sym heads_are)
    (subst (λ (xs : List ℕ). Links new (length news) (heads_relinked link (i + 1) others) xs) (ap (λ (x : ℕ). nexts_relinked link (i + 1) (set news i x)) (sym leads) ∙ sym nexts_are) linked))

-- the same fact for equal numbers and lists
pub links_told : (half half_now bins : ℕ) (hs hashes heads nexts news : List ℕ) → half_now ≡ half → length heads ≡ bins → hashes ≡ hs → news ≡ nexts → length nexts ≡ length hashes
    → Links (bins_of half bins hs) (length nexts) heads nexts → Links (bins_of half_now (length heads) hashes) (length hashes) heads news
links_told half half_now bins hs hashes heads nexts news same count hashes_are nexts_are long is =
    subst (λ (x : ℕ). Links (bins_of x (length heads) hashes) (length hashes) heads news) (sym same)
    (subst (λ (x : ℕ). Links (bins_of half x hashes) (length hashes) heads news) (sym count)
    (subst (λ (xs : List ℕ). Links (bins_of half bins xs) (length hashes) heads news) (sym hashes_are)
    (subst (λ (x : ℕ). Links (bins_of half bins hs) x heads news) long
    (subst (λ (xs : List ℕ). Links (bins_of half bins hs) (length nexts) heads xs) (sym nexts_are) is))))
