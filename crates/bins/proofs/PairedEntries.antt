-- Entries whose keys stand in one list and whose values stand at the same positions of another.
use Rattle.std.proofs.Common.{◌≡◌, ◌≢◌, ℕ, zero, suc, ◌-◌, ◌<◌, List, [], ◌∷◌, ◌++◌, length, get_or, set, take, refl, sym, ap, subst, ◌∙◌, arith, HoldsAt, Some, None}
use Rattle.std.specs.List.{AllWithin, swap_remove}
use Rattle.std.specs.FinMap as map
use Rattle.std.proofs.lemmas.List.{get_or_default, length-set, length_push}
use Rattle.bins.specs.Table.{Entry}
use Rattle.bins.specs.Entries.{Distinct, entries_in}
use Rattle.bins.proofs.GapLemmas.{one_less}
use Rattle.bins.proofs.DistinctEntries.{HasKey, Lacks, table_of, get_here, written_distinct, written_table}

pub paired-length : (ks vs : List (List ℕ)) → length ks ≡ length vs → length (entries_in ks vs) ≡ length ks
paired-length [] vs same = refl
paired-length (k ∷ ks) [] same = absurd (omega (arith, same))
paired-length (k ∷ ks) (v ∷ vs) same = ap suc (paired-length ks vs (omega (arith, same)))

pub paired-at : (ks vs : List (List ℕ)) (i : ℕ) (d : Entry) → length ks ≡ length vs → i < length ks → get_or (entries_in ks vs) i d ≡ (get_or ks i d.0, get_or vs i d.1)
paired-at [] vs i d same lt = absurd (omega (arith, lt))
paired-at (k ∷ ks) [] i d same lt = absurd (omega (arith, same))
paired-at (k ∷ ks) (v ∷ vs) zero d same lt = refl
paired-at (k ∷ ks) (v ∷ vs) (suc i) d same lt = paired-at ks vs i d (omega (arith, same)) (omega (arith, lt))

pub paired-push : (ks vs : List (List ℕ)) (k v : List ℕ) → length ks ≡ length vs → entries_in (ks ++ k ∷ []) (vs ++ v ∷ []) ≡ entries_in ks vs ++ (k, v) ∷ []
paired-push [] [] k v same = refl
paired-push [] (w ∷ vs) k v same = absurd (omega (arith, same))
paired-push (j ∷ ks) [] k v same = absurd (omega (arith, same))
paired-push (j ∷ ks) (w ∷ vs) k v same = ap (λ (es : List Entry). (j, w) ∷ es) (paired-push ks vs k v (omega (arith, same)))

-- a key and a value written at one position
pub paired-set : (ks vs : List (List ℕ)) (i : ℕ) (k v : List ℕ) → entries_in (set ks i k) (set vs i v) ≡ set (entries_in ks vs) i (k, v)
paired-set [] vs i k v = refl
paired-set (j ∷ ks) [] zero k v = refl
paired-set (j ∷ ks) [] (suc i) k v = refl
paired-set (j ∷ ks) (w ∷ vs) zero k v = refl
paired-set (j ∷ ks) (w ∷ vs) (suc i) k v = ap (λ (es : List Entry). (j, w) ∷ es) (paired-set ks vs i k v)

pub paired-take : (n : ℕ) (ks vs : List (List ℕ)) → entries_in (take n ks) (take n vs) ≡ take n (entries_in ks vs)
paired-take zero ks vs = refl
paired-take (suc n) [] vs = refl
paired-take (suc n) (k ∷ ks) [] = refl
paired-take (suc n) (k ∷ ks) (v ∷ vs) = ap (λ (es : List Entry). (k, v) ∷ es) (paired-take n ks vs)

-- a value alone
pub paired-write : (ks vs : List (List ℕ)) (i : ℕ) (v : List ℕ) (d : Entry) → entries_in ks (set vs i v) ≡ set (entries_in ks vs) i ((get_or (entries_in ks vs) i d).0, v)
paired-write [] vs i v d = refl
paired-write (k ∷ ks) [] i v d = refl
paired-write (k ∷ ks) (w ∷ vs) zero v d = refl
paired-write (k ∷ ks) (w ∷ vs) (suc i) v d = ap (λ (es : List Entry). (k, w) ∷ es) (paired-write ks vs i v d)

module _ (ks vs : List (List ℕ)) (same : length ks ≡ length vs) where
  abbrev es : List Entry
  es = entries_in ks vs

  abbrev nobody : Entry
  nobody = ([], [])

  -- both lists lose their element at a position
  pub paired-swap_remove : (i : ℕ) → i < length ks → entries_in (swap_remove ks i []) (swap_remove vs i []) ≡ swap_remove es i nobody
  paired-swap_remove i lt =
      let last : (get_or ks (length ks - 1) [], get_or vs (length ks - 1) []) ≡ get_or es (length ks - 1) nobody = sym (paired-at ks vs (length ks - 1) nobody same (omega (arith, lt))) in
      ap (λ (n : ℕ). entries_in (swap_remove ks i []) (take (n - 1) (set vs i (get_or vs (n - 1) [])))) (sym same)
      ∙ paired-take (length ks - 1) (set ks i (get_or ks (length ks - 1) [])) (set vs i (get_or vs (length ks - 1) []))
      ∙ ap (take (length ks - 1)) (paired-set ks vs i _ _ ∙ ap (set es i) last)
      ∙ ap (λ (n : ℕ). take (n - 1) (set es i (get_or es (n - 1) nobody))) (sym (paired-length ks vs same))

  -- a fact about a key is one about the entry that has it
  pub entry_found : (k : List ℕ) (i : ℕ) → i < length ks → HoldsAt (λ (x : List ℕ). x ≡ k) ks i → HasKey k es i
  entry_found k i lt at d = ap (λ (e : Entry). e.0) (paired-at ks vs i d same lt) ∙ at d.0

  pub entry_lacks : (k : List ℕ) → AllWithin (λ (x : List ℕ). x ≢ k) ks 0 (length ks) → Lacks k es
  entry_lacks k none j d low high is =
      let below : j < length ks = omega (arith, high, paired-length ks vs same) in
      none j d.0 low below (ap (λ (e : Entry). e.0) (sym (paired-at ks vs j d same below)) ∙ is)

  -- the value at a key's position is that of the key
  pub found_here : (k : List ℕ) (i : ℕ) → Distinct es → i < length ks → HoldsAt (λ (x : List ℕ). x ≡ k) ks i → map.get (table_of es) k ≡ Some (get_or vs i [])
  found_here k i distinct lt at =
      get_here es i k nobody distinct (omega (arith, lt, paired-length ks vs same)) (entry_found k i lt at)
      ∙ ap (λ (e : Entry). Some e.1) (paired-at ks vs i nobody same lt)

  -- a key without a value stands nowhere
  pub none_within : (k : List ℕ) → Distinct es → map.get (table_of es) k ≡ None → AllWithin (λ (x : List ℕ). x ≢ k) ks 0 (length ks)
  none_within k distinct none j d low high is =
      let at : HoldsAt (λ (x : List ℕ). x ≡ k) ks j = λ e. get_or_default ks j e d high ∙ is in
      let found = found_here k j distinct high at in
      cc

  -- a value is replaced
  module _ (i : ℕ) (lt : i < length ks) (v : List ℕ) (new : List (List ℕ)) (is : new ≡ set vs i v) where
    inside : i < length es
    inside = omega (arith, lt, paired-length ks vs same)

    read : get_or es i nobody ≡ get_or es i (get_or es i nobody)
    read = get_or_default es i nobody (get_or es i nobody) inside

    after : entries_in ks new ≡ set es i ((get_or es i nobody).0, v)
    after = ap (entries_in ks) is ∙ paired-write ks vs i v nobody

    pub over_distinct : Distinct es → Distinct (entries_in ks new)
    over_distinct distinct = subst Distinct (sym after) (written_distinct es i v (get_or es i nobody) read distinct)

    pub over_table : (k : List ℕ) → Distinct es → HoldsAt (λ (x : List ℕ). x ≡ k) ks i → table_of (entries_in ks new) ≡ map.insert (table_of es) k v
    over_table k distinct at = ap table_of after ∙ written_table es i v (get_or es i nobody) read k distinct inside (entry_found k i lt at)

    pub over_length : length ks ≡ length new
    over_length = omega (arith, same, ap length is, length-set vs i v)

  -- an entry is added at the end
  pub joined : (k v : List ℕ) (keys values : List (List ℕ)) → keys ≡ ks ++ k ∷ [] → values ≡ vs ++ v ∷ [] → entries_in keys values ≡ es ++ (k, v) ∷ []
  joined k v keys values is are = (λ i. entries_in (is i) (are i)) ∙ paired-push ks vs k v same

  pub joined_length : (k v : List ℕ) (keys values : List (List ℕ)) → keys ≡ ks ++ k ∷ [] → values ≡ vs ++ v ∷ [] → length keys ≡ length values
  joined_length k v keys values is are = omega (arith, same, ap length is, ap length are, length_push ks k, length_push vs v)

  -- an entry is removed
  module _ (i : ℕ) (lt : i < length ks) (keys values : List (List ℕ)) (is : keys ≡ swap_remove ks i []) (are : values ≡ swap_remove vs i []) where
    pub parted : entries_in keys values ≡ swap_remove es i nobody
    parted = (λ j. entries_in (is j) (are j)) ∙ paired-swap_remove i lt

    pub parted_length : length keys ≡ length values
    parted_length = omega (arith, same, ap length is, ap length are, one_less ks i [] [] lt, one_less vs i [] [] (omega (arith, lt, same)))
