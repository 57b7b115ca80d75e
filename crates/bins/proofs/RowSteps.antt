-- What is left after a step on rows, proved for all widths at once: rows again, and their keys and values.
use Rattle.std.proofs.Common.{◌≡◌, ◌≢◌, ℕ, ◌-◌, ◌<◌, List, [], ◌∷◌, ◌++◌, length, get_or, set, refl, sym, ap, subst, ◌∙◌, arith, inl, inr}
use Rattle.std.specs.List.{swap_remove}
use Rattle.std.proofs.lemmas.List.{length-map, length-set, length_push, set-get_or}
use Rattle.bins.specs.declared.locations.TheConstants.{MOST_ROWS}
use Rattle.bins.specs.declared.locations.Width.{Width}
use Rattle.bins.specs.declared.locations.Location.{Location}
use Rattle.bins.specs.declared.locations.Location.TheVariants.{Vacant, In}
use Rattle.bins.specs.KeptRows.{KeptRow, Lists, AreMatched, AreRows, kept, location_at, row_at, row_of, rows_of, with_rows, keys_of, values_of}
use Rattle.bins.proofs.GapLemmas.{one_less}
use Rattle.bins.proofs.RowLemmas.{widths, not_vacant, apart, rows_with_same, rows_with_other, reads_with}
use Rattle.bins.proofs.RowWrites.{linked, linked_other, linked_strings, pushed_matched, written, written_strings}
use Rattle.bins.proofs.RowRemovals.{freed_matched, freed_other, freed_strings, freed_length, taken_matched, taken_strings, told_reads, told_owner, told_others}

abbrev key : KeptRow → List ℕ
key r = r.key

abbrev value : KeptRow → List ℕ
value r = r.value

-- rows again, with the same strings except at one position
pub record Changed (ps : List Location) (was : Lists) (p : ℕ) (k v : List ℕ) (qs : List Location) (now : Lists) : Type 0 where
  pub rows : AreRows qs now
  pub keys : keys_of qs now ≡ set (keys_of ps was) p k
  pub values : values_of qs now ≡ set (values_of ps was) p v

pub changed_as : (ps : List Location) (was : Lists) (p : ℕ) (k v : List ℕ) (qs rs : List Location) (now then : Lists)
    → rs ≡ qs → then ≡ now → Changed ps was p k v qs now → Changed ps was p k v rs then
changed_as ps was p k v qs rs now then locations lists changed =
    subst (λ (xs : List Location). Changed ps was p k v xs then) (sym locations) (subst (λ (ls : Lists). Changed ps was p k v qs ls) (sym lists) changed)

-- a vacant position was removed
pub record Taken (ps : List Location) (was : Lists) (p : ℕ) (rest : List Location) (now : Lists) : Type 0 where
  pub rows : AreRows rest now
  pub keys : keys_of rest now ≡ swap_remove (keys_of ps was) p []
  pub values : values_of rest now ≡ swap_remove (values_of ps was) p []

pub taken_as : (ps : List Location) (was : Lists) (p : ℕ) (qs rs : List Location) (now then : Lists) → rs ≡ qs → then ≡ now → Taken ps was p qs now → Taken ps was p rs then
taken_as ps was p qs rs now then locations lists taken =
    subst (λ (xs : List Location). Taken ps was p xs then) (sym locations) (subst (λ (ls : Lists). Taken ps was p qs ls) (sym lists) taken)

module _ (ps : List Location) (lists : Lists) (m : AreRows ps lists) where
  module _ (k : Width) where
    abbrev rows : List KeptRow
    rows = rows_of lists k

    -- the rows of this width are others, and those of the other widths stay
    all_with : (qs : List Location) (ms : List KeptRow) → AreMatched k qs ms → ((j : Width) → j ≢ k → (os : List KeptRow) → AreMatched j ps os → AreMatched j qs os)
        → (j : Width) → AreMatched j qs (rows_of (with_rows lists k ms) j)
    all_with qs ms this others j = elim (widths j k) [
      | inl is ↦ subst (λ (n : Width). AreMatched n qs (rows_of (with_rows lists k ms) n)) (sym is) (subst (AreMatched k qs) (sym (rows_with_same lists k ms)) this)
      | inr other ↦ subst (AreMatched j qs) (sym (rows_with_other lists k j ms other)) (others j other (rows_of lists j) (m.matched j))
    ]

    module _ (p at owner : ℕ) (d : KeptRow) (named : location_at ps p ≡ In k at) where
      pub vacated : owner ≡ (row_at rows (length rows - 1)).owner → Changed ps lists p [] [] (set (set ps owner (In k at)) p Vacant) (with_rows lists k (swap_remove rows at d))
      vacated is = rw is (record {
        rows = record {
          matched = all_with _ (swap_remove rows at d) (freed_matched k ps rows p at (m.matched k) named d) (freed_other k ps rows p at (m.matched k) named d);
          few = omega (arith, m.few, freed_length k ps rows p at (m.matched k) named d);
        };
        keys = freed_strings k ps rows p at (m.matched k) named d lists refl key refl;
        values = freed_strings k ps rows p at (m.matched k) named d lists refl value refl;
      })

    module _ (p : ℕ) (lt : p < length ps) (vacant : location_at ps p ≡ Vacant) (added : KeptRow) (owns : added.owner ≡ p) where
      pub filled : Changed ps lists p added.key added.value (set ps p (In k (length rows))) (with_rows lists k (rows ++ added ∷ []))
      filled = record {
        rows = record {
          matched = all_with _ (rows ++ added ∷ []) (linked k ps rows p (m.matched k) lt vacant added owns) (linked_other k ps rows p (m.matched k) lt vacant added owns);
          few = omega (arith, m.few, length-set ps p (In k (length rows)));
        };
        keys = linked_strings k ps rows p (m.matched k) lt vacant added owns lists refl key;
        values = linked_strings k ps rows p (m.matched k) lt vacant added owns lists refl value;
      }

    module _ (p at : ℕ) (named : location_at ps p ≡ In k at) (new : KeptRow) (owns : new.owner ≡ (row_at rows at).owner) where
      pub overwritten : Changed ps lists p new.key new.value ps (with_rows lists k (set rows at new))
      overwritten = record {
        rows = record { matched = all_with ps (set rows at new) (written k ps rows p at (m.matched k) named new owns) (λ j other os n. n); few = m.few };
        keys = written_strings k ps rows p at (m.matched k) named new owns lists refl key;
        values = written_strings k ps rows p at (m.matched k) named new owns lists refl value;
      }

  module _ (p : ℕ) (vacant : location_at ps p ≡ Vacant) (lt : p < length ps) (d : Location) where
    abbrev end : Location
    end = location_at ps (length ps - 1)

    -- a width whose rows the last location doesn't name
    untold : (k : Width) (ls : List KeptRow) → AreMatched k ps ls → ((i : ℕ) → end ≡ In k i → ⊥) → AreMatched k (swap_remove ps p d) ls
    untold k ls n none = taken_matched k ps ls p n vacant lt d ls refl (λ i e. absurd (none i e)) (λ i other. refl)

    pub taken_vacant : end ≡ Vacant → Taken ps lists p (swap_remove ps p d) lists
    taken_vacant is = record {
      rows = record {
        matched = λ k. untold k (rows_of lists k) (m.matched k) (λ i. not_vacant k end i is);
        few = omega (arith, m.few, one_less ps p d d lt);
      };
      keys = taken_strings (λ (x : Location). (row_of lists x).key) (λ (x : Location). (row_of lists x).key) ps p lt d (λ x. refl);
      values = taken_strings (λ (x : Location). (row_of lists x).value) (λ (x : Location). (row_of lists x).value) ps p lt d (λ x. refl);
    }

    module _ (k : Width) (at : ℕ) (is : end ≡ In k at) where
      abbrev last_rows : List KeptRow
      last_rows = rows_of lists k

      abbrev told : List KeptRow
      told = set last_rows at (kept (row_at last_rows at).key (row_at last_rows at).value p)

      there : at < length last_rows
      there = ((m.matched k).named (length ps - 1) at is).0

      pub taken_in : Taken ps lists p (swap_remove ps p d) (with_rows lists k told)
      taken_in = record {
        rows = record {
          matched = all_with k (swap_remove ps p d) told
              (taken_matched k ps last_rows p (m.matched k) vacant lt d told (length-set last_rows at _) (told_owner k last_rows end at p is there) (told_others k last_rows end at p is there))
              (λ j other os n. untold j os n (λ i. apart j k end at i other is));
          few = omega (arith, m.few, one_less ps p d d lt);
        };
        keys = taken_strings (λ (x : Location). (row_of lists x).key) (λ (x : Location). (row_of (with_rows lists k told) x).key) ps p lt d (λ x.
            reads_with k key lists told x (λ i e. told_reads k last_rows end at p is there key refl i));
        values = taken_strings (λ (x : Location). (row_of lists x).value) (λ (x : Location). (row_of (with_rows lists k told) x).value) ps p lt d (λ x.
            reads_with k value lists told x (λ i e. told_reads k last_rows end at p is there value refl i));
      }

-- there are as many strings as locations
pub keys_length : (ps : List Location) (lists : Lists) → length (keys_of ps lists) ≡ length ps
keys_length ps lists = length-map ps (λ (x : Location). (row_of lists x).key)

pub values_length : (ps : List Location) (lists : Lists) → length (values_of ps lists) ≡ length ps
values_length ps lists = length-map ps (λ (x : Location). (row_of lists x).value)

-- a string is replaced in place
pub written_same : (xs : List (List ℕ)) (p : ℕ) (b : List ℕ) → get_or xs p [] ≡ b → set xs p b ≡ xs
written_same xs p b is = ap (set xs p) (sym is) ∙ set-get_or xs p []

-- a vacant location is added after the others
pub pushed_rows : (ps : List Location) (lists : Lists) → AreRows ps lists → length ps < MOST_ROWS → AreRows (ps ++ Vacant ∷ []) lists
pushed_rows ps lists m few = record {
  matched = λ k. pushed_matched k ps (rows_of lists k) (m.matched k);
  few = omega (arith, few, length_push ps Vacant);
}
