use Rattle.std.proofs.Common.{rules, ◌≡◌, ◌+◌, [], ◌∷◌, Some, length, length-append, refl, sym, ap, ◌∙◌, subst, All}
use Rattle.std.proofs.lemmas.List.Elements.{All-nil, All-cons, All-append}
use Rattle.bin_stripes.specs.Holding.{IsEmptyBins}
use Rattle.bin_stripes.proofs.open.free_stripes.Goals as goal

pub loop-init : goal.loop-init
loop-init g c = let none : c.new-slots.result.items ≡ [] = search rules in
    (search rules, search rules, subst (λ xs. All (IsEmptyBins g.B.Bins.table) xs) (sym none) (All-nil (IsEmptyBins g.B.Bins.table)))

pub loop-preserved : goal.loop-preserved
loop-preserved g c = let inv = c.loop.invariant in let P = IsEmptyBins g.B.Bins.table in (
  inv.0,
  ap length c.in_ok-push.ensures.items ∙ (length-append c.loop.slots.items (_ ∷ []) ∙ ap (λ n. n + 1) inv.1),
  subst (λ xs. All P xs) (sym c.in_ok-push.ensures.items)
      (All-append P c.loop.slots.items (Some c.in_ok-open_with.field-0 ∷ []) inv.2 (All-cons P (Some c.in_ok-open_with.field-0) [] (c.in_ok-open_with.field-0, (refl, c.in_ok-open_with.ensures.ok)) (All-nil P))),
)
