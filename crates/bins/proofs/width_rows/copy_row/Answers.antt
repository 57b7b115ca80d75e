use Rattle.std.proofs.Common.{◌≡◌, ◌<◌, ◌^◌, ◌/◌, ◌++◌, ◌∷◌, [], List, ℕ, length, get_or, set, sym, ap, subst, ◌∙◌, arith}
use Rattle.std.proofs.lemmas.List.{get_or_read}
use Rattle.std.proofs.Math.Nat.{pow-le-pow_right}
use Rattle.bins.specs.Segments.{KeepsOthers, part}
use Rattle.bins.proofs.SlotLemmas.{place}
use Rattle.bins.proofs.WidthLemmas.{Copied, copied_else, copied_same, front_inside}
use Rattle.bins.proofs.width_rows.copy_row.Goals as goal
use Rattle.bins.proofs.width_rows.copy_row.Goals.{then-index-len, else-index-len}

positive : (shift : ℕ) → 0 < 2 ^ shift
positive shift = let more = pow-le-pow_right {n = 2} (omega arith) {i = 0} {j = shift} (omega arith) in omega (arith, more)

copied : (c : goal.After-push_reserved) → Copied c.args.segments.now.items c.push_reserved.new.self.items (2 ^ c.args.shape.0) c.args.shape.1 c.args.last c.args.at
copied c =
    let segments = c.args.segments.now.items in
    let front = c.pop.new.self.items in
    let end = c.in-Some.end in
    let w = c.args.shape.1 in
    let at = c.args.at in
    let last = c.args.last in
    let index = c.place_of-index.result.0 in
    let start = c.place_of-index.result.1 in
    let from = c.place_of-from.result.1 in
    let holds = c.requires.holds in
    let some : 0 < 2 ^ c.args.shape.0 = positive c.args.shape.0 in
    let is : segments ≡ front ++ end ∷ [] = c.in-Some.ensures.items in
    let starts : start ≡ place (2 ^ c.args.shape.0) w at = c.place_of-index.ensures.start in
    let froms : from ≡ place (2 ^ c.args.shape.0) w last = c.place_of-from.ensures.start in
    let idx : index ≡ at / 2 ^ c.args.shape.0 = c.place_of-index.ensures.index in
    elim c.if-index-len.branch [
      | then-index-len b ↦
          let new = b.copy_within.new.self in
          let same : at / 2 ^ c.args.shape.0 ≡ length front = sym idx ∙ b.if-index-len.true ∙ c.len.ensures ∙ c.pop.new.self.ok.0 in
          let here : part new (place (2 ^ c.args.shape.0) w at) w ≡ part end (place (2 ^ c.args.shape.0) w last) w =
          ap (λ (n : ℕ). part new n w) (sym starts) ∙ b.copy_within.ensures.row ∙ ap (λ (n : ℕ). part end n w) froms in
          let others : KeepsOthers (place (2 ^ c.args.shape.0) w at) w end new = subst (λ (n : ℕ). KeepsOthers n w end new) starts b.copy_within.ensures.others in
          let now : c.push_reserved.new.self.items ≡ front ++ new ∷ [] = c.push_reserved.ensures.items ∙ (λ i. (b.segments-is i).items ++ b.end-is i ∷ []) in
          copied_same segments front end (2 ^ c.args.shape.0) w last at some is c.requires.end c.requires.before holds new _ same here others now
      | else-index-len b ↦
          let new = b.copy_from.new.self in
          let other : at / 2 ^ c.args.shape.0 ≡ length front → ⊥ = λ same. b.if-index-len.false (idx ∙ same ∙ sym (c.len.ensures ∙ c.pop.new.self.ok.0)) in
          let inside : index < length front = subst (λ (n : ℕ). n < length front) (sym idx) (front_inside segments front end (2 ^ c.args.shape.0) w last at some is c.requires.end c.requires.before holds other) in
          let here : part new (place (2 ^ c.args.shape.0) w at) w ≡ part end (place (2 ^ c.args.shape.0) w last) w =
          (λ i. part new (sym starts i) (sym b.row.ensures.wide i)) ∙ b.copy_from.ensures.row ∙ b.row.ensures.value ∙ ap (λ (n : ℕ). part end n w) froms in
          let read : b.index_mut-segment.result.now ≡ get_or front (at / 2 ^ c.args.shape.0) [] =
          get_or_read front index b.index_mut-segment.result.now inside b.index_mut-segment.ensures.value [] ∙ ap (λ (n : ℕ). get_or front n []) idx in
          let others : KeepsOthers (place (2 ^ c.args.shape.0) w at) w (get_or front (at / 2 ^ c.args.shape.0) []) new =
          subst (λ (xs : List ℕ). KeepsOthers (place (2 ^ c.args.shape.0) w at) w xs new) read
          (subst (λ (n : ℕ). KeepsOthers n w b.index_mut-segment.result.now new) starts (subst (λ (n : ℕ). KeepsOthers start n b.index_mut-segment.result.now new) b.row.ensures.wide b.copy_from.ensures.others)) in
          let now : c.push_reserved.new.self.items ≡ set front (at / 2 ^ c.args.shape.0) new ++ end ∷ [] =
          c.push_reserved.ensures.items ∙ (λ i. (b.segments-is i).items ++ b.end-is i ∷ []) ∙ ap (λ (n : ℕ). set front n new ++ end ∷ []) idx in
          copied_else segments front end (2 ^ c.args.shape.0) w last at some is c.requires.end c.requires.before holds new _ other here others now
    ]

pub returns-after-index-len-clause-row : goal.returns-after-index-len-clause-row
returns-after-index-len-clause-row c = (copied c).row

pub returns-after-index-len-clause-others : goal.returns-after-index-len-clause-others
returns-after-index-len-clause-others c = (copied c).others
