use Rattle.std.proofs.Common.{◌<◌, length, List, ℕ, inl, inr, refl, sym, ap, subst, max, ◌∙◌, arith}
use Rattle.atomic_table.specs.Seated.{TableId}
use Rattle.bin_stripes.specs.Passes.{stripes_of}
use Rattle.key_walks.specs.Expired.{StopsLive}
use Rattle.key_walks.specs.Pages.{TakesLive, stripes_from}
use Rattle.key_walks.proofs.ChainLemmas.{same_map, same_on, on_err}
use Rattle.key_walks.proofs.PageLemmas.{Came, came_none, came_more, came_stops, came_all}
use Rattle.key_walks.specs.Places.{cursor_of}
use Rattle.key_walks.proofs.pages.scan_some.Goals as goal
use Rattle.key_walks.proofs.pages.scan_some.Goals.{then-loop-alloc-test+else-page-stripes, else-loop-alloc-test}

pub loop-alloc-init : goal.loop-alloc-init
loop-alloc-init g c = record {
  map = refl;
  same = same_map c.args.pass.now;
  done = subst (λ (ks : List (List ℕ)). Came c.args.asked.time c.max.result c.args.asked.cursor c.args.pass.now ks c.args.asked.cursor c.args.pass.now) (sym c.new.ensures.items)
      (came_none c.args.asked.time c.max.result c.args.asked.cursor c.args.pass.now);
}

pub loop-alloc-preserved : goal.loop-alloc-preserved
loop-alloc-preserved g c =
    let p = c.args.pass.now in
    let q = c.loop-alloc.pass in
    let r = c.take_part.new.pass in
    let e = c.in_ok-take_part.ensures in
    let inv = c.loop-alloc.invariant in
    let keys = c.loop-alloc.page.keys.items in
    let some : length keys < c.max.result = omega (arith, c.loop-alloc-test.true, c.len.ensures) in
    record {
      map = e.same.map ∙ inv.map;
      same = same_on p q r inv.same e.same;
      done = came_more c.args.asked.time c.max.result c.args.asked.cursor p q r keys c.take_part.new.page.keys.items c.loop-alloc.page.next c.take_part.new.page.next inv.done e.same some e.ok;
    }

pub returns-in_err-take_part-clause-err : goal.returns-in_err-take_part-clause-err
returns-in_err-take_part-clause-err g c =
    let p = c.args.pass.now in
    let keys = c.loop-alloc.page.keys.items in
    let some : length keys < c.max.result = omega (arith, c.loop-alloc-test.true, c.len.ensures) in
    on_err _ (subst (λ m. StopsLive c.args.asked.time (TakesLive c.args.asked.time m) (stripes_from c.args.asked.cursor) p c.take_part.new.pass) {y = max c.args.asked.most 1} c.max.ensures
    (came_stops c.args.asked.time c.max.result c.args.asked.cursor p c.loop-alloc.pass c.take_part.new.pass keys c.loop-alloc.page.next c.loop-alloc.invariant.done some c.in_err-take_part.ensures.err))

-- there are enough keys, or no stripe is left
pub returns-clause-ok : goal.returns-clause-ok
returns-clause-ok g c =
    let p = c.args.pass.now in
    let q = c.loop-alloc.pass in
    let keys = c.loop-alloc.page.keys.items in
    let place = c.loop-alloc.page.next in
    let wanted = c.max.ensures in
    let had = c.len.ensures in
    let table = ap (λ (m : TableId). stripes_of m) c.requires.map in
    let whole = c.stripes-stripes.ensures.value ∙ sym table in
    came_all c.args.asked.time c.args.asked.most c.args.asked.cursor p q keys place c.cursor_of.result
    (subst (λ m. Came c.args.asked.time m c.args.asked.cursor p keys place q) wanted c.loop-alloc.invariant.done)
    (elim c.loop-alloc-test.branch [
      | then-loop-alloc-test+else-page-stripes w ↦ inr (omega (arith, w.if-page-stripes.false, whole))
      | else-loop-alloc-test w ↦ inl (omega (arith, w.loop-alloc-test.false, had, wanted))
    ])
    (c.cursor_of.ensures ∙ ap (λ s. cursor_of s place) whole)
