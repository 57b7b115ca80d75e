use Rattle.std.proofs.Common.{◌≡◌, ◌-◌, ◌*◌, ◌^◌}
use Rattle.bin_stripes.specs.Passes.{ServesSameMap}
use Rattle.key_walks.proofs.PageLemmas.{Came}
use Rattle.key_walks.proofs.pages.scan_some.Given as goal

-- the parts so far were taken
abbrev pub invariant-loop-alloc : goal.invariant-loop-alloc
invariant-loop-alloc g l = record {
  map : l.pass.map ≡ l.fn.pass.map;
  same : ServesSameMap l.fn.pass l.pass;
  done : Came l.fn.asked.time l.wanted.most l.fn.asked.cursor l.fn.pass l.page.keys.items l.page.next l.pass;
}

abbrev pub decreases-loop-alloc : goal.decreases-loop-alloc
decreases-loop-alloc g l = l.stripes * 2 ^ 32 - l.page.next
