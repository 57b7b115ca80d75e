-- `trade` swaps what the two own.
use Rattle.atomic_table.proofs.Names.{◌≡◌, ℕ, List, [], ◌∷◌, refl, a_type, named, Val, vunit, vptr, inst_fn, SProp, emp, Fml, ftrue, fsep, flft, ‵, raw, ◌⊛◌, ◌$◌, ◌∵◌, !, qed, by, move, keep, split, split3, join, fsplit, fsplit3, fjoin, fjoin3, use0, feq_i, unit_lit, of_opd, returns, enter, alloc_all, pass_all, free_all, look_at, sets, tables, RattleType, owns, types_at, plain, nothing, param, layouts, Stays, walk_of, fact, fact_i, Coded, mut_vals, mut_Tells, opens, closes, stay_ref, Goes-ref}
use Rattle.atomic_table.proofs.Walks.{proved, leaves}
use Rattle.known_seat.specs.contracts.Known as known
use Rattle.atomic_table.specs.contracts.badge.Badge as badge
use Rattle.known_seat.specs.contracts.Known.trade.{ended, clauses}
use Rattle.known_seat.specs.contracts.Known.trade.Key.{name as #self}
use Rattle.known_seat.proofs.Known.trade.Statement.{statement}
use Rattle.known_seat.proofs.Known.trade.Code as code

pub trade_spec : {M : Type 1} → statement M
trade_spec 𝓤 𝓛 𝓜 𝓡 wired U _ =
    let H = 𝓛.H in let 𝓣 = tables 𝓤 H 𝓜 𝓡 𝓡.env in let W : RattleType = param 0 U in let En = ended U in let cv : Coded U.Denot = W.coded in
    let inst = layouts (a_type ∷ []) (U, tt) in let fn = inst_fn inst code.function in let Kr : RattleType = known.the_row W in let Br : RattleType = badge.the_row W in
    let mine = plain (λ _. Kr) in let theirs = plain (λ _. Br) in
    let hs : Stays En.signature.params En.kept = (stay_ref (0 ∷ []) tt mine, (stay_ref (1 ∷ []) tt theirs, tt)) in let c = clauses U 𝓛 𝓜.mem 𝓡.returns in
    proved 𝓛 En hs c 𝓜 𝓡 (Goes-ref 𝓛 3 0 tt mine, (Goes-ref 𝓛 3 1 tt theirs, tt)) (#self inst) fn (code.unfolded 𝓤 H 𝓜 𝓡 wired (U, tt))
    (λ κs. (mut_vals, (mut_vals, tt))) (λ κs. (mut_Tells (named 0) κs.0 Kr, (mut_Tells (named 1) κs.1.0 Br, tt))) (λ κs qs bounds a gh are.
    let b : ℕ = a.0.ref_ptr.0 in let o : ℕ = a.0.ref_ptr.1 in let h : Kr.Denot = a.0.now in let b' : ℕ = a.1.0.ref_ptr.0 in let o' : ℕ = a.1.0.ref_ptr.1 in let k : Br.Denot = a.1.0.now in
    let h' : Kr.Denot = record { marker = h.marker; table_id = k.table_id; id = k.id; views = k.views } in let k' : Br.Denot = record { marker = k.marker; table_id = h.table_id; id = h.id; views = h.views } in
    let y : (walk_of 𝓛 En hs c).Ghost = ((κs, qs, bounds, a, (vptr b o ∷ [], (vptr b' o' ∷ [], tt))), gh) in let Post : Val → SProp 𝓤 = (walk_of 𝓛 En hs c).post y in
    let Told : Type 0 = (h'.table_id ≡ k.table_id) × (h'.id ≡ k.id) × (h'.views ≡ k.views) × (k'.table_id ≡ h.table_id) × (k'.id ≡ h.id) × (k'.views ≡ h.views) in
    let others : Fml = fsep (flft κs.1.1.0 qs.1.1.0) ftrue in
    qed 𝓛 (((‵ (flft κs.0 qs.0) ⊛ ‵ (flft κs.1.0 qs.1.0) ⊛ ‵ others) ⊛ ‵ (owns (types_at En.signature.params κs) a y.0.4)) ∷ raw ((c κs a).requires gh) ∷ []) ∵
    split ! $ split3 ! $ move ! (3 ∷ []) $ fsplit3 ! $ fsplit3 ! $ move ! (3 ∷ []) $ fsplit3 ! $ keep ! (4 ∷ 5 ∷ 7 ∷ 1 ∷ 2 ∷ 8 ∷ 9 ∷ []) $
    enter ! 𝓣.C 𝓣.Λ fn (vptr b o ∷ vptr b' o' ∷ []) Post $ alloc_all ! (λ l. pass_all ! refl ((tt, tt), ((tt, tt), tt)) $
    opens ! tt Kr b o (λ ts. move ! (1 ∷ []) $ fsplit ! $ move ! (6 ∷ 7 ∷ 8 ∷ []) $ opens ! tt Br b' o' (λ us. move ! (1 ∷ []) $ fsplit ! $
    -- [the badge's fields; what it owns; its cell; its open borrow, in three entries; the same of the other]
    move ! (6 ∷ 1 ∷ []) $ fjoin ! $ move ! (7 ∷ 0 ∷ 8 ∷ 9 ∷ 10 ∷ []) $ closes ! tt Kr h' ts b o $ feq_i ! (List Val) (vptr b o ∷ []) (vptr b o ∷ []) refl $ fjoin3 ! $
    move ! (2 ∷ 7 ∷ []) $ fjoin ! $ move ! (3 ∷ 0 ∷ 4 ∷ 5 ∷ 6 ∷ []) $ closes ! tt Br k' us b' o' $ feq_i ! (List Val) (vptr b' o' ∷ []) (vptr b' o' ∷ []) refl $ fjoin3 ! $
    nothing ! $ move ! (1 ∷ 0 ∷ []) $ fjoin ! $ move ! (2 ∷ 0 ∷ []) $ fjoin ! $ move ! (1 ∷ 3 ∷ []) $ join ! $ move ! (2 ∷ 0 ∷ []) $ join ! $
    sets ! (of_opd ! (unit_lit !)) refl (tt, tt) $ use0 𝓛 (raw (fact 𝓤 Told)) (fact_i 𝓤 Told (emp 𝓤) (refl, refl, refl, refl, refl, refl)) $ feq_i ! (List Val) (vunit ∷ []) (vunit ∷ []) refl $
    returns ! (look_at ! 0 refl) $ free_all ! refl $ keep ! (2 ∷ 3 ∷ 0 ∷ 1 ∷ []) $ by ! (leaves 𝓛 En hs c y vunit tt (h', (k', tt)) (tt, (tt, tt)))))))
