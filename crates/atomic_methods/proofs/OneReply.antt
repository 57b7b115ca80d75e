-- The entries of a walk fix its reply: a program has one outcome on one input.
use Rattle.std.proofs.Common.{◌≡◌, ℕ, List, [], ◌∷◌, length, Option, Some, Result, Ok, Err, IsOk, refl, sym, ap, subst, ◌∙◌, arith}
use Rattle.std.specs.List.{count_by}
use Rattle.std.proofs.lemmas.Bool.{false≢true}
use Rattle.bpf_model.specs.declared.input.Input.{Input}
use Rattle.bpf_model.specs.declared.input.InputPart.{InputPart}
use Rattle.bpf_model.specs.Fits.{input_of}
use Rattle.bpf_model.proofs.RunLaws.{one_answer}
use Rattle.verifier.specs.Checked.{Checked}
use Rattle.bins.specs.Table.{Entry}
use Rattle.bins.specs.Replacements.{Outcome, ComesTo, is_unfit}
use Rattle.bins.specs.Passes.{AreOutcomes}
use Rattle.atomic_methods.specs.declared.walk_reply.WalkKind.{WalkKind}
use Rattle.atomic_methods.specs.declared.walk_reply.WalkReply.{WalkReply}
use Rattle.atomic_methods.specs.Replies.{present, chosen, IsReply}

-- the window of a refusal, or another
abbrev part_or : InputPart → Result (Unit {0}) InputPart → InputPart
part_or other (Ok x) = other
part_or other (Err part) = part

one_outcome : (checked : Checked) (input : Input) (a b : Outcome) → ComesTo checked input a → ComesTo checked input b → a ≡ b
one_outcome checked input (Ok a) (Ok b) first second = ap (λ x. Ok x) (one_answer checked.program checked.sizes input a b first.1 second.1)
one_outcome checked input (Ok a) (Err w) first second = absurd (false≢true (subst (λ r. IsOk r) (sym first.0 ∙ second) refl))
one_outcome checked input (Err w) (Ok b) first second = absurd (false≢true (subst (λ r. IsOk r) (sym second.0 ∙ first) refl))
one_outcome checked input (Err v) (Err w) first second = ap (λ r. Err (part_or v r)) (sym first ∙ second)

one_list : (checked : Checked) (arg : Option (List ℕ)) (es : List Entry) (xs ys : List Outcome) → length xs ≡ length ys → AreOutcomes checked arg es xs → AreOutcomes checked arg es ys → xs ≡ ys
one_list checked arg es [] [] same first second = refl
one_list checked arg es [] (y ∷ ys) same first second = absurd (omega (arith, same))
one_list checked arg es (x ∷ xs) [] same first second = absurd (omega (arith, same))
one_list checked arg [] (x ∷ xs) (y ∷ ys) same first second = absurd first
one_list checked arg (e ∷ es) (x ∷ xs) (y ∷ ys) same first second =
    let head = one_outcome checked (input_of e.0 (Some e.1) arg) x y first.0 second.0 in
    let tail = one_list checked arg es xs ys (omega (arith, same)) first.1 second.1 in
    λ i. head i ∷ tail i

-- two replies to one walk over the same entries have the same items and counts
pub one_reply : (kind : WalkKind) (checked : Checked) (arg : Option (List ℕ)) (es : List Entry) (r s : WalkReply) → IsReply kind checked arg es r → IsReply kind checked arg es s
    → (r.items ≡ s.items) × (r.counts ≡ s.counts)
one_reply kind checked arg es r s first second =
    let same = one_list checked arg es first.outcomes second.outcomes (first.one_each ∙ sym second.one_each) first.are_outcomes second.are_outcomes in
    let items : r.items ≡ s.items = first.items ∙ ap (λ (xs : List Outcome). chosen kind (present es xs)) same ∙ sym second.items in
    let scanned : r.counts.scanned ≡ s.counts.scanned = first.scanned ∙ sym second.scanned in
    let given : r.counts.given ≡ s.counts.given = first.given ∙ ap length items ∙ sym second.given in
    let unfit : r.counts.unfit ≡ s.counts.unfit = first.unfit ∙ ap (λ (xs : List Outcome). count_by is_unfit xs) same ∙ sym second.unfit in
    (items, λ i. record { scanned = scanned i; given = given i; unfit = unfit i })
