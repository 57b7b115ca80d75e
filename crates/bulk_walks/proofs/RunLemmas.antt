-- A walk that was stopped by a refused request for memory, and runs on one part of a worker's entries after the other.
use Rattle.std.proofs.Common.{◌≡◌, ℕ, ◌+◌, List, [], ◌∷◌, ◌++◌, Option, Result, Ok, Err, OnOk, length, length-append, slice_index_or, refl, sym, ap, ◌∙◌, arith}
use Rattle.std.proofs.lemmas.List.{append-nil}
use Rattle.verifier.specs.Checked.{Checked}
use Rattle.bpf_model.specs.declared.memory.NoMemory.{NoMemory}
use Rattle.atomic_methods.specs.declared.walk_reply.WalkKind.{WalkKind}
use Rattle.bulk_walks.specs.declared.part.Gathered.{Gathered}
use Rattle.bulk_walks.specs.Kept.{IsGathered}
use Rattle.bulk_walks.specs.Runs.{RunsSome}
use Rattle.bins.specs.Table.{Entry}
use Rattle.bin_stripes.specs.Passes.{PassState}
use Rattle.bulk_walks.specs.Walks.{AllWalked, Each, IsScan, MayScan}
use Rattle.bulk_walks.proofs.FindingLemmas.{may_scan}

-- a scan that was made is allowed
pub may_all : (n : ℕ) (scans : ℕ → List Entry) (before after : List PassState) → AllWalked n (Each IsScan scans) before after → AllWalked n MayScan before after
may_all n scans before after w = record {
  order = w.order;
  each = λ j d low. may_scan (length before) j scans (slice_index_or before j d).view n (slice_index_or after j d).view (w.each j d low);
}

-- two facts that hold if a call succeeded
pub on_ok_both : {A B C : Type 0} (told : Result (Unit {0}) NoMemory) → OnOk told A → OnOk told B → (A → B → C) → OnOk told C
on_ok_both (Ok done) one other then = then one other
on_ok_both (Err fault) one other then = tt

-- a fact that holds if a call succeeded, and it did
pub told_ok : {A : Type 0} (told : Result (Unit {0}) NoMemory) (done : Unit {0}) → told ≡ Ok done → OnOk told A → A
told_ok (Ok other) done is holds = holds
told_ok (Err fault) done is holds = absurd cc

-- nothing waits
none_left : (es : List Entry) → length es ≡ 0 → es ≡ []
none_left [] none = refl
none_left (e ∷ es) none = absurd (omega (arith, none))

module _ (kind : WalkKind) (checked : Checked) (arg : Option (List ℕ)) where
  -- the entries of a stripe were copied after those that wait
  pub runs_copied : (gathered : Gathered) (waiting entries after : List Entry) → after ≡ waiting ++ entries → RunsSome kind checked arg gathered (waiting ++ entries) gathered after
  runs_copied gathered waiting entries after added = record {
    runs = λ early had. (early, (had, ap (λ (es : List Entry). early ++ es) (sym added)));
    many = ap (λ (es : List Entry). gathered.scanned + length es) added;
  }

  -- the program ran on them while the stripe was held, and none waited
  pub runs_held : (gathered new : Gathered) (waiting entries : List Entry) → length waiting ≡ 0
      → ((early : List Entry) → IsGathered kind checked arg early gathered → IsGathered kind checked arg (early ++ entries) new)
      → new.scanned ≡ gathered.scanned + length entries → RunsSome kind checked arg gathered (waiting ++ entries) new waiting
  runs_held gathered new waiting entries none adds counted =
      let is = none_left waiting none in
      record {
        runs = λ early had. (early ++ entries, (adds early had, ap (λ (es : List Entry). early ++ (es ++ entries)) is ∙ sym (ap (λ (es : List Entry). (early ++ entries) ++ es) is ∙ append-nil (early ++ entries))));
        many = let both = length-append waiting entries in omega (arith, none, counted, both);
      }

  -- first these ran, and then some of the others
  pub runs_then : (one other last : Gathered) (waiting later left : List Entry) → RunsSome kind checked arg one waiting other later → RunsSome kind checked arg other later last left → RunsSome kind checked arg one waiting last left
  runs_then one other last waiting later left first second = record {
    runs = λ early had.
        let then = first.runs early had in
        let end = second.runs then.0 then.1.0 in
        (end.0, (end.1.0, then.1.1 ∙ end.1.1));
    many = second.many ∙ first.many;
  }
