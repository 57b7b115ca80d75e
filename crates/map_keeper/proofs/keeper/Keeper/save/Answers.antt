use Rattle.std.proofs.Common.{◌∙◌, subst}
use Rattle.atomic_table.specs.Seated.{TableId}
use Rattle.bin_stripes.specs.Passes.{stripes_of}
use Rattle.sqlite.specs.Held.{Held, state}
use Rattle.map_keeper.specs.Kept.{IsSavedPartly, with_trees}
use Rattle.map_keeper.specs.Written.{SavesMap}
use Rattle.map_keeper.proofs.KeptLemmas.{in_step, would_leave_stripes}
use Rattle.map_keeper.proofs.HistoryLemmas.{content_of}
use Rattle.map_keeper.proofs.keeper.Keeper.save.Goals as goal

-- the file's connection had what the file had
pub returns-clause-wrote : goal.returns-clause-wrote
returns-clause-wrote g c clean =
    let v = c.args.self.now.taker.pass.view in
    let w = c.save_all-saved.new.self.pass.view in
    let stripes = stripes_of c.args.shared.now.map.now in
    subst (λ (h : Held g.row.S.Denot). SavesMap (state g.S.Store) c.args.self.now.takes_anew v w stripes h c.save_all-saved.new.conn)
    c.connection-conn.ensures.value (c.in_ok-in_file.ensures.wrote clean)

-- its entries are those that were handed out
pub returns-clause-file : goal.returns-clause-file
returns-clause-file g c clean high step =
    let v = c.args.self.now.taker.pass.view in
    let w = c.save_all-saved.new.self.pass.view in
    let stripes = stripes_of c.args.shared.now.map.now in
    in_step g.S.Store c.args.self.now.takes_anew v w stripes c.args.self.now.file.conn c.save_all-saved.new.conn high (returns-clause-wrote g c clean) step

-- .. the content of each stripe, if no other saves
pub returns-clause-content : goal.returns-clause-content
returns-clause-content g c clean high step k q low one only =
    content_of c.save_all-saved.new.self.pass (state g.S.Store c.save_all-saved.new.conn) (stripes_of c.args.shared.now.map.now) q k c.vouch.ensures.sound one only
    (c.in_ok-in_file.ensures.whole k low) low (returns-clause-file g c clean high step)

-- what a save would leave that is cut off
pub returns-clause-found : goal.returns-clause-found
returns-clause-found g c high step trees would =
    let pass = c.save_all-saved.new.self.pass in
    let map = c.save_all-saved.ensures.same.map ∙ c.requires.map in
    subst (λ (id : TableId). IsSavedPartly pass (stripes_of id) (state g.S.Store c.args.self.now.file.conn) (with_trees (state g.S.Store c.args.self.now.file.conn) trees)) map
    (would_leave_stripes g.S.Store c.args.self.now.takes_anew c.args.self.now.taker.pass.view pass c.args.self.now.file.conn trees (rw map high) c.vouch.ensures.sound (rw map step) (rw map would))

pub returns-in_err-in_file-clause-found : goal.returns-in_err-in_file-clause-found
returns-in_err-in_file-clause-found g c high step trees would =
    let pass = c.save_all-saved.new.self.pass in
    let map = c.save_all-saved.ensures.same.map ∙ c.requires.map in
    subst (λ (id : TableId). IsSavedPartly pass (stripes_of id) (state g.S.Store c.args.self.now.file.conn) (with_trees (state g.S.Store c.args.self.now.file.conn) trees)) map
    (would_leave_stripes g.S.Store c.args.self.now.takes_anew c.args.self.now.taker.pass.view pass c.args.self.now.file.conn trees (rw map high) c.vouch.ensures.sound (rw map step) (rw map would))
