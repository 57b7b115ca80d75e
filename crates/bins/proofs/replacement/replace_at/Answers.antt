use Rattle.std.proofs.Common.{◌≡◌, ℕ, List, [], rules, refl, ap, ◌∙◌, Ok, Err, get_or-set_same}
use Rattle.std.specs.Option.{option_copied}
use Rattle.bpf_model.specs.declared.input.Answer.TheVariants.{Nothing, Bytes}
use Rattle.bins.specs.KeptRows.{string_at}
use Rattle.bins.proofs.replacement.replace_at.Goals as goal

-- a window is too small: the value stays
pub returns-in_err-fits_parts-clause-by_outcome : goal.returns-in_err-fits_parts-clause-by_outcome
returns-in_err-fits_parts-clause-by_outcome c =
    let made = rw c.unwrap-key.ensures at c.from_slice-key.ensures.value in
    let key : c.unwrap-key.result ≡ string_at c.args.rows.now.keys c.args.position = made ∙ c.key.ensures.value in
    let old : c.value.result.now ≡ string_at c.args.rows.now.values c.args.position = c.value.ensures.value in
    record { outcome = Err c.in_err-fits_parts.field-0.0; comes_to = rw (← key, ← old) (search rules); entered = refl; is_told = search rules }

-- the answer is bytes: they are entered
pub returns-then-given-clause-by_outcome : goal.returns-then-given-clause-by_outcome
returns-then-given-clause-by_outcome c =
    let made = rw c.unwrap-key.ensures at c.from_slice-key.ensures.value in
    let key : c.unwrap-key.result ≡ string_at c.args.rows.now.keys c.args.position = made ∙ c.key.ensures.value in
    let old : c.value.result.now ≡ string_at c.args.rows.now.values c.args.position = c.value.ensures.value in
    let arg : option_copied c.value_bytes-arg.result ≡ c.args.arg.now = c.value_bytes-arg.ensures.value ∙ c.as_ref.ensures.value in
    let means = rw (c.if-given.true, arg) at c.run_into-given.ensures.value in
    record {
      outcome = Ok (Bytes c.run_into-given.new.answer);
      comes_to = rw (← key, ← old) (search rules, search rules);
      entered = ap (λ (xs : List (List ℕ)). string_at xs c.args.position) c.set_value.ensures.values ∙ get_or-set_same c.args.rows.now.values c.args.position _ [] c.requires.value ∙ c.as_slice.ensures.value;
      is_told = search rules;
    }

-- the answer is nothing: the value stays
pub returns-else-given-clause-by_outcome : goal.returns-else-given-clause-by_outcome
returns-else-given-clause-by_outcome c =
    let made = rw c.unwrap-key.ensures at c.from_slice-key.ensures.value in
    let key : c.unwrap-key.result ≡ string_at c.args.rows.now.keys c.args.position = made ∙ c.key.ensures.value in
    let old : c.value.result.now ≡ string_at c.args.rows.now.values c.args.position = c.value.ensures.value in
    let arg : option_copied c.value_bytes-arg.result ≡ c.args.arg.now = c.value_bytes-arg.ensures.value ∙ c.as_ref.ensures.value in
    let means = rw (c.if-given.false, arg) at c.run_into-given.ensures.value in
    record { outcome = Ok Nothing; comes_to = rw (← key, ← old) (search rules, search rules); entered = refl; is_told = search rules }
