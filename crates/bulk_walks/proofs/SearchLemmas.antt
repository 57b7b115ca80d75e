-- A search over entries: one more entry.
use Rattle.std.proofs.Common.{◌≡◌, ℕ, ◌+◌, ◌<◌, List, [], ◌∷◌, ◌++◌, length, Option, Some, Bool, true, false, cond, Result, Ok, Err, refl, sym, ap, subst, arith, sum_by}
use Rattle.bpf_model.specs.declared.input.Answer.TheVariants.{Nothing, Bytes}
use Rattle.bpf_model.specs.declared.input.InputPart.{InputPart}
use Rattle.bpf_model.specs.Fits.{input_of}
use Rattle.verifier.specs.Checked.{Checked}
use Rattle.bins.specs.Entries.{entry_of}
use Rattle.bins.specs.Replacements.{Outcome, ComesTo}
use Rattle.bins.specs.Table.{Entry}
use Rattle.atomic_methods.specs.declared.walk_reply.WalkKind.TheVariants.{ForEach}
use Rattle.atomic_methods.proofs.WalkLemmas.{Walked, walked_none, walked_given, walked_none_given}
use Rattle.bulk_walks.specs.Kept.{IsFirst, IsOffered, Tells, RunsOnAll, FindsFirst}
use Rattle.bulk_walks.specs.Merges.{comes_first}
use Rattle.bulk_walks.proofs.FirstLemmas.{first_more}

-- the outcomes at the first entries, and the first item of all answers
pub record Searched (checked : Checked) (arg : Option (List ℕ)) (entries items : List Entry) (position unfit : ℕ) : Type 0 where
  pub all : List Entry
  pub walked : Walked ForEach checked arg entries all position unfit
  pub first : IsFirst (λ h. sum_by h all) items

-- at the end these are the outcomes at all entries
pub runs_on_all : (checked : Checked) (arg : Option (List ℕ)) (entries items : List Entry) (position unfit : ℕ) → Walked ForEach checked arg entries items position unfit → position ≡ length entries → RunsOnAll checked arg entries items unfit
runs_on_all checked arg entries items position unfit walked end = record {
  outcomes = walked.outcomes;
  one_each = omega (arith, walked.one_each, end);
  are_outcomes = walked.are_outcomes;
  answers = walked.answers;
  unfit_is = walked.unfit_is;
}

pub finds_first : (checked : Checked) (arg : Option (List ℕ)) (entries items : List Entry) (position unfit : ℕ) → Searched checked arg entries items position unfit → position ≡ length entries → FindsFirst checked arg entries items unfit
finds_first checked arg entries items position unfit searched end = record {
  all = searched.all;
  runs = runs_on_all checked arg entries searched.all position unfit searched.walked end;
  first = searched.first;
}

pub searched_none : (checked : Checked) (arg : Option (List ℕ)) (entries : List Entry) → Searched checked arg entries [] 0 0
searched_none checked arg entries = record { all = []; walked = walked_none ForEach checked arg entries [] refl; first = λ h. refl }

-- an offer to the same program with the same argument
pub same_offer : (program checked : Checked) (key value : List ℕ) (own_arg arg : Option (List ℕ)) (wanted : Bool) (told : Result Bool InputPart) (bytes : List ℕ) → program ≡ checked → own_arg ≡ arg
    → IsOffered program (input_of key (Some value) own_arg) wanted told bytes → IsOffered checked (input_of key (Some value) arg) wanted told bytes
same_offer program checked key value own_arg arg wanted told bytes program_is arg_is offered =
    subst (λ (p : Checked). IsOffered p (input_of key (Some value) arg) wanted told bytes) program_is
    (subst (λ (a : Option (List ℕ)). IsOffered program (input_of key (Some value) a) wanted told bytes) arg_is offered)

module _ (checked : Checked) (arg : Option (List ℕ)) (entries items : List Entry) (position unfit : ℕ) (before : Searched checked arg entries items position unfit) (low : position < length entries) (entry : Entry) (is : entry ≡ entry_of entries position) (wanted : Bool) (would : (answer : List ℕ) → wanted ≡ comes_first ((entry.0, answer) ∷ []) items) where
  abbrev Comes : Outcome → Type 0
  Comes o = ComesTo checked (input_of entry.0 (Some entry.1) arg) o

  -- bytes are the first answer if they were wanted
  bytes_at : (answer : List ℕ) → Comes (Ok (Bytes answer)) → Searched checked arg entries (cond wanted ((entry.0, answer) ∷ []) items) (position + 1) unfit
  bytes_at answer comes = record {
    all = before.all ++ (entry.0, answer) ∷ [];
    walked = walked_given ForEach checked arg entries before.all position unfit before.walked low entry is answer (before.all ++ (entry.0, answer) ∷ []) comes (λ found same. ap (λ (xs : List Entry). xs ++ (entry.0, answer) ∷ []) same);
    first = subst (λ (b : Bool). IsFirst (λ h. sum_by h (before.all ++ (entry.0, answer) ∷ [])) (cond b ((entry.0, answer) ∷ []) items)) (sym (would answer)) (first_more before.all items (entry.0, answer) before.first);
  }

  nothing_at : Comes (Ok Nothing) → Searched checked arg entries items (position + 1) unfit
  nothing_at comes = record {
    all = before.all;
    walked = walked_none_given ForEach checked arg entries before.all position unfit before.walked low entry is (Ok Nothing) false unfit comes (λ key. refl) refl (omega arith);
    first = before.first;
  }

  unfit_at : (part : InputPart) → Comes (Err part) → Searched checked arg entries items (position + 1) (unfit + 1)
  unfit_at part comes = record {
    all = before.all;
    walked = walked_none_given ForEach checked arg entries before.all position unfit before.walked low entry is (Err part) true (unfit + 1) comes (λ key. refl) refl (omega arith);
    first = before.first;
  }

  given_by : (bytes : List ℕ) (b : Bool) → wanted ≡ b → (o : Outcome) → Comes o → Tells b o (Ok true) bytes → Searched checked arg entries ((entry.0, bytes) ∷ []) (position + 1) unfit
  given_by bytes true w o comes tells = subst (λ (b : Bool). Searched checked arg entries (cond b ((entry.0, bytes) ∷ []) items) (position + 1) unfit) w (bytes_at bytes (subst Comes tells comes))
  given_by bytes false w (Ok answer) comes tells = absurd cc
  given_by bytes false w (Err part) comes tells = absurd cc

  -- the program answered these bytes
  pub searched_given : (bytes : List ℕ) → IsOffered checked (input_of entry.0 (Some entry.1) arg) wanted (Ok true) bytes → Searched checked arg entries ((entry.0, bytes) ∷ []) (position + 1) unfit
  searched_given bytes offered = given_by bytes wanted refl offered.outcome offered.comes_to offered.tells

  none_by : (bytes : List ℕ) (b : Bool) → wanted ≡ b → (o : Outcome) → Comes o → Tells b o (Ok false) bytes → Searched checked arg entries items (position + 1) unfit
  none_by bytes true w o comes tells = nothing_at (subst Comes tells comes)
  none_by bytes false w (Ok (Bytes answer)) comes tells = subst (λ (b : Bool). Searched checked arg entries (cond b ((entry.0, answer) ∷ []) items) (position + 1) unfit) w (bytes_at answer comes)
  none_by bytes false w (Ok Nothing) comes tells = nothing_at comes
  none_by bytes false w (Err part) comes tells = absurd cc

  -- it answered nothing, or its answer was not wanted
  pub searched_past : (bytes : List ℕ) → IsOffered checked (input_of entry.0 (Some entry.1) arg) wanted (Ok false) bytes → Searched checked arg entries items (position + 1) unfit
  searched_past bytes offered = none_by bytes wanted refl offered.outcome offered.comes_to offered.tells

  unfit_by : (bytes : List ℕ) (part : InputPart) (b : Bool) → wanted ≡ b → (o : Outcome) → Comes o → Tells b o (Err part) bytes → Searched checked arg entries items (position + 1) (unfit + 1)
  unfit_by bytes part true w o comes tells = unfit_at part (subst Comes tells comes)
  unfit_by bytes part false w (Ok answer) comes tells = absurd cc
  unfit_by bytes part false w (Err other) comes tells = unfit_at other comes

  -- the entry doesn't fit
  pub searched_unfit : (bytes : List ℕ) (part : InputPart) → IsOffered checked (input_of entry.0 (Some entry.1) arg) wanted (Err part) bytes → Searched checked arg entries items (position + 1) (unfit + 1)
  searched_unfit bytes part offered = unfit_by bytes part wanted refl offered.outcome offered.comes_to offered.tells
