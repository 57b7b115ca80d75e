use Rattle.std.proofs.Common.{◌≡◌, ℕ, List, Option, Some, Bool, true, false, Ok, Err, refl, sym, subst, option_copied}
use Rattle.bpf_model.specs.declared.input.InputPart.{InputPart}
use Rattle.bpf_model.specs.Fits.{Fits, HasInputBytes, first_unfit, input_of}
use Rattle.bpf_model.specs.Meaning.{IsSafe, Means}
use Rattle.bpf_machine.specs.Answers.{answer_left}
use Rattle.verifier.specs.Checked.{Checked}
use Rattle.bulk_walks.specs.Kept.{IsOffered, Tells}
use Rattle.bulk_walks.proofs.MeaningLemmas.{has_answer}
use Rattle.bulk_walks.proofs.running.Runner.answer.Goals as goal

tells_ran : (wanted : Bool) (told : Bool) (bytes : List ℕ) → wanted ≡ true → Tells wanted (Ok (answer_left told bytes)) (Ok told) bytes
tells_ran true true bytes is = refl
tells_ran true false bytes is = refl
tells_ran false told bytes is = absurd cc

tells_past : (wanted : Bool) (answer : _) (bytes : List ℕ) → wanted ≡ false → Tells wanted (Ok answer) (Ok false) bytes
tells_past true answer bytes is = absurd cc
tells_past false answer bytes is = refl

tells_unfit : (wanted : Bool) (part : InputPart) (bytes : List ℕ) → Tells wanted (Err part) (Err part) bytes
tells_unfit true part bytes = refl
tells_unfit false part bytes = refl

module _ (checked : Checked) (key value : List ℕ) (arg : Option (List ℕ)) (wanted : Bool) (bytes : List ℕ) where
  unfit_offered : (part : InputPart) → Err part ≡ first_unfit (input_of key (Some value) arg) checked.sizes → IsOffered checked (input_of key (Some value) arg) wanted (Err part) bytes
  unfit_offered part unfit = record { outcome = Err part; comes_to = sym unfit; tells = tells_unfit wanted part bytes }

  -- it has an answer that wasn't wanted
  past_offered : IsSafe checked.program checked.sizes → HasInputBytes (input_of key (Some value) arg) → Ok tt ≡ first_unfit (input_of key (Some value) arg) checked.sizes → Fits (input_of key (Some value) arg) checked.sizes
      → wanted ≡ false → IsOffered checked (input_of key (Some value) arg) wanted (Ok false) bytes
  past_offered safe are fit fits is =
      let has = has_answer checked.program checked.sizes (input_of key (Some value) arg) safe are fits in
      record { outcome = Ok has.0; comes_to = (sym fit, has.1); tells = tells_past wanted has.0 bytes is }

  -- it ran on the key as it was put on the bench
  ran_offered : (told : Bool) (own : List ℕ) → own ≡ key → Ok tt ≡ first_unfit (input_of key (Some value) arg) checked.sizes → Means checked.program checked.sizes (input_of own (Some value) arg) (answer_left told bytes)
      → wanted ≡ true → IsOffered checked (input_of key (Some value) arg) wanted (Ok told) bytes
  ran_offered told own own_is fit means is = record {
    outcome = Ok (answer_left told bytes);
    comes_to = (sym fit, subst (λ (k : List ℕ). Means checked.program checked.sizes (input_of k (Some value) arg) (answer_left told bytes)) own_is means);
    tells = tells_ran wanted told bytes is;
  }

pub returns-in-Err : goal.returns-in-Err
returns-in-Err c = record {
  offered = unfit_offered c.args.self.now.program.now c.args.key.now c.args.value.now (option_copied c.args.self.now.arg) c.args.wanted c.args.bench.now.answer c.in-Err.part c.in-Err.ensures.first;
}

pub returns-then-not-wanted : goal.returns-then-not-wanted
returns-then-not-wanted c = record {
  offered = past_offered c.args.self.now.program.now c.args.key.now c.args.value.now (option_copied c.args.self.now.arg) c.args.wanted c.args.bench.now.answer
      c.program-program.ensures.safe c.has_bytes.ensures c.in_default.ensures.first (c.in_default.ensures.ok.0 refl) c.if-not-wanted.true;
}

pub returns : goal.returns
returns c = record {
  offered = ran_offered c.args.self.now.program.now c.args.key.now c.args.value.now (option_copied c.args.self.now.arg) c.args.wanted c.run_into.new.answer
      c.run_into.result _ c.set_from.ensures c.in_default.ensures.first c.run_into.ensures.value c.if-not-wanted.false;
}
