-- A walk over entries: one more entry.
use Rattle.std.proofs.Common.{◌≡◌, ℕ, ◌+◌, ◌<◌, List, [], ◌∷◌, ◌++◌, length, length-append, get_or, Option, Some, Bool, false, cond, Ok, Err, refl, sym, ap, subst, ◌∙◌, arith}
use Rattle.std.specs.List.{count_by}
use Rattle.std.proofs.lemmas.List.{append-nil}
use Rattle.bpf_model.specs.declared.input.Answer.TheVariants.{Nothing, Bytes}
use Rattle.bpf_model.specs.Fits.{input_of}
use Rattle.verifier.specs.Checked.{Checked}
use Rattle.bins.specs.Entries.{entry_of}
use Rattle.bins.specs.Table.{Entry}
use Rattle.bins.specs.Replacements.{Outcome, ComesTo, is_unfit}
use Rattle.bins.specs.Passes.{AreOutcomes}
use Rattle.bins.proofs.ReplacementLemmas.{AreOutcomes-push, count_one_more}
use Rattle.atomic_methods.specs.declared.walk_reply.WalkKind.{WalkKind}
use Rattle.atomic_methods.specs.declared.walk_reply.WalkKind.TheVariants.{Search, ForEach}
use Rattle.atomic_methods.specs.Replies.{present, chosen}

-- the answer at a key, if it is present, with the key
abbrev pub given_at : List ℕ → Outcome → List Entry
given_at key (Ok (Bytes answer)) = (key, answer) ∷ []
given_at key (Ok Nothing) = []
given_at key (Err part) = []

present-nil : (es : List Entry) → present es [] ≡ []
present-nil [] = refl
present-nil (e ∷ es) = refl

-- one more outcome, at the entry whose turn it is
present-push : (es : List Entry) (os : List Outcome) (o : Outcome) (d : Entry) → length os < length es → present es (os ++ o ∷ []) ≡ present es os ++ given_at (get_or es (length os) d).0 o
present-push [] os o d lt = absurd (omega (arith, lt))
present-push (e ∷ es) [] (Ok (Bytes answer)) d lt = ap (λ (xs : List Entry). (e.0, answer) ∷ xs) (present-nil es)
present-push (e ∷ es) [] (Ok Nothing) d lt = present-nil es
present-push (e ∷ es) [] (Err part) d lt = present-nil es
present-push (e ∷ es) (Ok (Bytes answer) ∷ os) o d lt = ap (λ (xs : List Entry). (e.0, answer) ∷ xs) (present-push es os o d (omega (arith, lt)))
present-push (e ∷ es) (Ok Nothing ∷ os) o d lt = present-push es os o d (omega (arith, lt))
present-push (e ∷ es) (Err part ∷ os) o d lt = present-push es os o d (omega (arith, lt))

-- none is chosen from no answers
chosen-nil : (kind : WalkKind) → chosen kind [] ≡ []
chosen-nil Search = refl
chosen-nil ForEach = refl

-- the state of a walk of this kind after the program's runs on the first entries
pub record Walked (kind : WalkKind) (checked : Checked) (arg : Option (List ℕ)) (entries items : List Entry) (position unfit : ℕ) : Type 0 where
  pub outcomes : List Outcome
  pub one_each : length outcomes ≡ position
  pub are_outcomes : AreOutcomes checked arg entries outcomes
  pub answers : items ≡ chosen kind (present entries outcomes)
  pub unfit_is : unfit ≡ count_by is_unfit outcomes

module _ (kind : WalkKind) (checked : Checked) (arg : Option (List ℕ)) (entries : List Entry) where
  pub walked_none : (items : List Entry) → items ≡ [] → Walked kind checked arg entries items 0 0
  walked_none items is = record {
    outcomes = [];
    one_each = refl;
    are_outcomes = tt;
    answers = is ∙ sym (ap (λ (xs : List Entry). chosen kind xs) (present-nil entries) ∙ chosen-nil kind);
    unfit_is = refl;
  }

  -- the program's run on the next entry
  module _ (items : List Entry) (position unfit : ℕ) (before : Walked kind checked arg entries items position unfit) (lt : position < length entries) (entry : Entry) (is : entry ≡ entry_of entries position) where
    abbrev here : Entry
    here = get_or entries (length before.outcomes) ([], [])

    low : length before.outcomes < length entries
    low = omega (arith, before.one_each, lt)

    at : entry ≡ here
    at = is ∙ ap (λ (n : ℕ). entry_of entries n) (sym before.one_each)

    each : (o : Outcome) → length (before.outcomes ++ o ∷ []) ≡ position + 1
    each o = omega (arith, ap (λ (n : ℕ). n + 1) before.one_each, length-append before.outcomes (o ∷ []))

    come : (o : Outcome) → ComesTo checked (input_of entry.0 (Some entry.1) arg) o → AreOutcomes checked arg entries (before.outcomes ++ o ∷ [])
    come o comes = AreOutcomes-push checked arg entries before.outcomes o ([], []) low before.are_outcomes (subst (λ (e : Entry). ComesTo checked (input_of e.0 (Some e.1) arg) o) at comes)

    -- it answered bytes, and the walk was offered them
    pub walked_given : (answer : List ℕ) (after : List Entry) → ComesTo checked (input_of entry.0 (Some entry.1) arg) (Ok (Bytes answer))
        → ((found : List Entry) → items ≡ chosen kind found → after ≡ chosen kind (found ++ (entry.0, answer) ∷ [])) → Walked kind checked arg entries after (position + 1) unfit
    walked_given answer after comes kept = record {
      outcomes = before.outcomes ++ Ok (Bytes answer) ∷ [];
      one_each = each (Ok (Bytes answer));
      are_outcomes = come (Ok (Bytes answer)) comes;
      answers = kept (present entries before.outcomes) before.answers
          ∙ ap (λ (e : Entry). chosen kind (present entries before.outcomes ++ (e.0, answer) ∷ [])) at
          ∙ ap (λ (xs : List Entry). chosen kind xs) (sym (present-push entries before.outcomes (Ok (Bytes answer)) ([], []) low));
      unfit_is = omega (arith, before.unfit_is, count_one_more is_unfit before.outcomes (Ok (Bytes answer)) false refl);
    }

    -- it answered none
    pub walked_none_given : (o : Outcome) (b : Bool) (after : ℕ) → ComesTo checked (input_of entry.0 (Some entry.1) arg) o → ((key : List ℕ) → given_at key o ≡ []) → is_unfit o ≡ b
        → after ≡ unfit + cond b 1 0 → Walked kind checked arg entries items (position + 1) after
    walked_none_given o b after comes none is_b counted = record {
      outcomes = before.outcomes ++ o ∷ [];
      one_each = each o;
      are_outcomes = come o comes;
      answers = before.answers
          ∙ ap (λ (xs : List Entry). chosen kind xs) (sym (present-push entries before.outcomes o ([], []) low ∙ ap (λ (xs : List Entry). present entries before.outcomes ++ xs) (none here.0) ∙ append-nil (present entries before.outcomes)));
      unfit_is = omega (arith, counted, before.unfit_is, count_one_more is_unfit before.outcomes o b is_b);
    }
