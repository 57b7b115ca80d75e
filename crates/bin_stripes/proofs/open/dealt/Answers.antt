use Rattle.std.proofs.Common.{rules, ◌≡◌, ℕ, suc, ◌+◌, ◌-◌, ◌<◌, [], ◌∷◌, sym, ap, ◌∙◌, subst, arith, map}
use Rattle.atomic_table.specs.Table.{Splits}
use Rattle.stripe_rule.specs.Rule.{Kept, newcomer, from_on}
use Rattle.stripe_rule.specs.Steps.{with_numbers, head_of, tail_of}
use Rattle.stripe_rule.proofs.OpenLemmas.{deals_as}
use Rattle.bin_stripes.specs.Histories.{empty, does}
use Rattle.bin_stripes.specs.Saves.{keeps}
use Rattle.bin_stripes.specs.Opened.{pass_of}
use Rattle.bin_stripes.proofs.OpenedLemmas.{dealt_more, pass_is}
use Rattle.bin_stripes.proofs.open.dealt.Goals as goal

pub loop-number-init : goal.loop-number-init
loop-number-init g c = let p = c.args.passes in let all : p ≡ p - 0 = omega arith in
    (c.requires.table.1, c.requires.first ∙ ap (λ k. (newcomer c.args.table.now.table_id.slots p (from_on 0 k), [])) all, search rules)

pub split_seat-next-requires : goal.split_seat-next-requires
split_seat-next-requires g c = let table = c.args.table.now in let i = c.loop-number.number in let p = c.args.passes in let inv = c.loop-number.invariant in let v = c.loop-number.rest.me.0 in
    let n : p - i ≡ suc (p - i - 1) = (let t = c.loop-number-test.true in omega arith) in
    let is : v ≡ newcomer table.table_id.slots p (from_on i (suc (p - i - 1))) = ap (λ m. m.0) inv.1 ∙ ap (λ k. newcomer table.table_id.slots p (from_on i k)) n in (
      inv.0,
      subst (λ n. 0 < n) (sym c.requires.table.0.words) (let some = c.requires.some in omega arith),
      subst (λ (q : ℕ × ℕ). Splits (Kept (does q.0) empty g.B.Bins.table (keeps g.B.Bins.table g.B.NotedBins.noted) q.0 q.1) c.loop-number.rest.id v (with_numbers v (head_of v.numbers)) (with_numbers v (tail_of v.numbers)))
          (λ j. (sym c.requires.table.0.stripes j, sym c.requires.passes.0 j))
          (deals_as (does table.table_id.slots) empty g.B.Bins.table (keeps g.B.Bins.table g.B.NotedBins.noted) table.table_id.slots p c.loop-number.rest.id i (p - i - 1) v is),
    )

pub dealt_pass-requires : goal.dealt_pass-requires
dealt_pass-requires g c = let table = c.args.table.now in let i = c.loop-number.number in let p = c.args.passes in let inv = c.loop-number.invariant in let s = c.split_seat-next.ensures in
    let n : p - i ≡ suc (p - i - 1) = (let t = c.loop-number-test.true in omega arith) in
    record { new = (p, (i, s.2 ∙ (ap (λ m. (with_numbers m.0 (head_of m.0.numbers), m.1)) inv.1 ∙ (ap (λ k. (newcomer table.table_id.slots p (head_of (from_on i k)), [])) n ∙ ap (λ z. (newcomer z.slots p (i ∷ []), [])) (sym (s.0 ∙ inv.0)))))) }

pub loop-number-preserved : goal.loop-number-preserved
loop-number-preserved g c = let table = c.args.table.now in let i = c.loop-number.number in let p = c.args.passes in let inv = c.loop-number.invariant in let s = c.split_seat-next.ensures in
    let n : p - i ≡ suc (p - (i + 1)) = (let t = c.loop-number-test.true in omega arith) in
    let id = s.0 ∙ inv.0 in
    let me = s.2 ∙ (ap (λ m. (with_numbers m.0 (head_of m.0.numbers), m.1)) inv.1 ∙ ap (λ k. (newcomer table.table_id.slots p (head_of (from_on i k)), [])) n) in (
      s.3 ∙ inv.0,
      s.4 ∙ (ap (λ m. (with_numbers m.0 (tail_of m.0.numbers), [])) inv.1 ∙ ap (λ k. (newcomer table.table_id.slots p (tail_of (from_on i k)), [])) n),
      c.in_ok-push.ensures.items ∙ dealt_more table.table_id p i c.loop-number.all.items c.dealt_pass.result inv.2
          (c.dealt_pass.ensures.pass ∙ pass_is table.table_id p i _ _ id (ap (λ m. m.0) me)),
    )

pub returns : goal.returns
returns g c = let table = c.args.table.now in let i = c.loop-number.number in let p = c.args.passes in let inv = c.loop-number.invariant in
    let one : p - i ≡ suc 0 = (let t = c.loop-number-test.false in let q = c.requires.passes.1.0 in let e = c.loop-number.auto.number-end in omega arith) in
    let last : i + 1 ≡ p = (let t = c.loop-number-test.false in let q = c.requires.passes.1.0 in let e = c.loop-number.auto.number-end in omega arith) in
    record {
      dealt = c.in_ok-push-2.ensures.items ∙ (dealt_more table.table_id p i c.loop-number.all.items c.dealt_pass-2.result inv.2
          (c.dealt_pass-2.ensures.pass ∙ pass_is table.table_id p i _ _ inv.0 (ap (λ m. m.0) (inv.1 ∙ ap (λ k. (newcomer table.table_id.slots p (from_on i k), [])) one)))
          ∙ ap (λ n. map (pass_of table.table_id p) (from_on 0 n)) last);
    }
