use Rattle.std.proofs.Common.{◌≡◌, ◌⊎◌, inl, inr, true, ap, sym, ◌∙◌}
use Rattle.std.specs.Prelude.{not}
use Rattle.bpf_model.specs.declared.window.Window.{Window}
use Rattle.bpf_model.specs.declared.window.Window.TheVariants.{Key, Old, Arg}
use Rattle.bpf_model.proofs.StepLaws.{is_read_only, writable, unwritable_kept}
use Rattle.bpf_model.proofs.window.Window.is_read_only.Goals as goal

read_only : (window : Window) → (window ≡ Key) ⊎ ((window ≡ Old) ⊎ (window ≡ Arg)) → is_read_only window ≡ true
read_only window (inl e) = ap is_read_only e
read_only window (inr (inl e)) = ap is_read_only e
read_only window (inr (inr e)) = ap is_read_only e

pub returns-in-Key : goal.returns-in-Key
returns-in-Key c =
    let window = c.args.self in
    let only = ap not (read_only window c.in-Key.is) in
    record {
      exact = λ sizes a n limits lies. sym (ap not (writable sizes limits window a n lies ∙ only));
      kept = λ sizes a limits yes lies i s t acts. unwritable_kept sizes i s t a acts (writable sizes limits window a 1 lies ∙ only);
      outside = λ sizes a out i s t acts. unwritable_kept sizes i s t a acts out;
    }

pub returns-in_default-clause-outside : goal.returns-in_default-clause-outside
returns-in_default-clause-outside c = λ sizes a out i s t acts. unwritable_kept sizes i s t a acts out
