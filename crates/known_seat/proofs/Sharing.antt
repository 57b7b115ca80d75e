-- The shares of a view: cut, joined, lent, and compared with the roster's. Assumes `Logic`.
use Rattle.std.proofs.Common.{◌≡◌, ℕ, zero, suc, ◌+◌, List, [], ◌∷◌, sym, refl, ap, subst, arith}
use mathlib.Core.Option.{some}
use lib.ListN.{get_elem?}
use mathlib.Mathlib.Data.Part.{◌∈◌, mem_unique}
use seplogic.Ra.Pcs.{OpDef, OpDef-comm}
use seplogic.Ra.Ura.{Ura}
use seplogic.Ra.Constructions.Prod
use seplogic.Ra.Instances.Ag
use base.Fraction.{full_share}
use base.Share.{quarter, three_quarters}
use base.FractionLaws.{not-OpDef-full_share}
use base.Share
use base.Stored.{Gv, Coded}
use base.SetCodes.{coded, SetCoded-set}
use base.Algebras.{pcs, shares}
use base.Shift.{Keyless}
use base.Logic.{SProp, ent, sep, ex, guard, via, id⊢, ex_e, guard_e, guard_i}
use base.Fml.{Lft, Share, Fml, ftrue, fbor, fshr_bor}
use ghost.Rules.{Halves}
use types.Logic.{Logic, sem, lfts}
use types.Keyed.{entry, entries_beside, entry_cut, entry_glue, entry_keyless}
use types.Kit.{‵, raw, ◌⊛◌, given, ◌$◌, ◌∵◌, !, qed, move, drop, split, fpick, fpack, learn, check, done, use2, updating, now}
use types.Kit as Kit
use types.Tokens.{bor_fracture}
use denote.Sharing.{ShrLaws, one}
use denote.SharingLaws.{one_shr_laws, nothing_shr_laws}
use denote.Struct.Lending.{Lends, Lends-nothing}
use Rattle.atomic_table.specs.Seated.{TableId, itself, halved, seen, unused, roster, badge_owns}
use Rattle.known_seat.specs.Knowing.{part, known_shares}

pub shares_keyless : {V : Type 0} (c : V → Gv) (z : TableId) (id : ℕ) (vs : List V) (ν : Lft) → Keyless (known_shares c z id vs ν)
shares_keyless c z id [] ν = tt
shares_keyless c z id (v ∷ vs) ν = λ q. entry_keyless halved z.views_name id _

module _ {V : Type 0} (cv : Coded V) where
  pub known_laws : (z : TableId) (id : ℕ) (vs : List V) → ShrLaws (known_shares cv.code z id vs)
  known_laws z id [] = nothing_shr_laws
  known_laws z id (v ∷ vs) = one_shr_laws (part cv.code z id v)

  module _ (z : TableId) (id : ℕ) {M : Type 1} {𝓤 : Ura M} (𝓛 : Logic 𝓤) (l : Lft) where
    open 𝓛 use {H, A}

    of_view : (v : V) → Lends 𝓛 (part cv.code z id v three_quarters) (one (part cv.code z id v)) l
    of_view v ν ts inc sp = let Φ = part cv.code z id v in
        qed 𝓛 (‵ (fbor ν (Φ three_quarters)) ∷ raw (lfts 𝓛 ts) ∷ []) {P = H.⇛ (sep 𝓤 (sem 𝓛 (fshr_bor ν Φ)) (lfts 𝓛 ts))} (updating ! $ bor_fracture ! tt Φ three_quarters $ now ! $ done !)

  pub lends_known : (z : TableId) (id : ℕ) (vs : List V) {M : Type 1} {𝓤 : Ura M} (𝓛 : Logic 𝓤) (l : Lft) → Lends 𝓛 (badge_owns cv.code z id vs) (known_shares cv.code z id vs) l
  lends_known z id [] 𝓛 l = Lends-nothing 𝓛 ftrue l
  lends_known z id (v ∷ vs) 𝓛 l = of_view z id 𝓛 l v

  module _ {M : Type 1} {𝓤 : Ura M} (𝓛 : Logic 𝓤) (γ : ℕ) where
    abbrev Pr : Type 2
    Pr = SProp 𝓤

    abbrev ◌⊢◌ : Pr → Pr → Type 1
    P ⊢ Q = ent 𝓤 P Q

    abbrev ◌∗◌ : Pr → Pr → Pr
    P ∗ Q = sep 𝓤 P Q

    infix 26 ◌⊢◌
    infixr 35 ◌∗◌
    abbrev ⟦◌⟧ : Fml → Pr
    ⟦ P ⟧ = sem 𝓛 P

    abbrev S : ℕ → V → Share → Fml
    S k v q = seen cv.code γ k q v

    two : (q : Share) (v : Gv) → ◌∈◌ {α = Share × Gv} (q, v) (halved.op (Share.left q, v) (Share.right q, v))
    two q v = Prod.mk-mem-op Share.op (Ag.op (SetCoded-set (coded itself))) {a = Share.left q} {a' = Share.right q} {x = q} {b = v} {b' = v} {y = v} (Share.halves q) (Ag.idem (SetCoded-set (coded itself)) v)

    pub halves : (k : ℕ) (v : V) → Halves 𝓤 𝓛.H 𝓛.A (λ q. seen cv.code γ k q v)
    halves k v = record {
      cut = λ q. entry_cut halved 𝓛 γ k (Share.left q, cv.code v) (Share.right q, cv.code v) (q, cv.code v) (two q (cv.code v));
      join = λ q. let F : Share × Gv → Pr = λ x. guard 𝓤 (x ∈ halved.op (Share.left q, cv.code v) (Share.right q, cv.code v)) ⟦ entry halved γ k x ⟧ in
          via 𝓤 (ex 𝓤 F) (entry_glue halved 𝓛 γ k (Share.left q, cv.code v) (Share.right q, cv.code v)) (ex_e 𝓤 F (λ x. guard_e 𝓤 (x ∈ halved.op (Share.left q, cv.code v) (Share.right q, cv.code v)) ⟦ entry halved γ k x ⟧ (λ m.
          subst (λ (y : Share × Gv). ⟦ entry halved γ k x ⟧ ⊢ ⟦ entry halved γ k y ⟧) (mem_unique (halved.op (Share.left q, cv.code v) (Share.right q, cv.code v)) m (two q (cv.code v))) (id⊢ 𝓤 ⟦ entry halved γ k x ⟧))));
    }

    -- two shares of one view show the same
    same : (k : ℕ) (w v : V) (q r : Share) → ⟦ S k w q ⟧ ∗ ⟦ S k v r ⟧ ⊢ guard 𝓤 (w ≡ v) (⟦ S k w q ⟧ ∗ ⟦ S k v r ⟧)
    same k w v q r = let Both : Share × Gv → Type 0 = λ x. x ∈ halved.op (q, cv.code w) (r, cv.code v) in let F : Share × Gv → Pr = λ x. guard 𝓤 (Both x) ⟦ entry halved γ k x ⟧ in let Z : Pr = ⟦ S k w q ⟧ ∗ ⟦ S k v r ⟧ in
        via 𝓤 (ex 𝓤 F) (entry_glue halved 𝓛 γ k (q, cv.code w) (r, cv.code v)) (ex_e 𝓤 F (λ x. guard_e 𝓤 (Both x) ⟦ entry halved γ k x ⟧ (λ m.
        via 𝓤 Z (entry_cut halved 𝓛 γ k (q, cv.code w) (r, cv.code v) x m) (guard_i 𝓤 (w ≡ v) Z (cv.inj w v m.0.1)))))

    -- a share of a seat's view shows what the roster has for it
    pub stands : (vs : List V) (k i j : ℕ) (v : V) (q : Share) → j ≡ k + i → ⟦ roster cv.code γ k vs ⟧ ∗ ⟦ S j v q ⟧ ⊢ guard 𝓤 (get_elem? vs i ≡ some v) (⟦ roster cv.code γ k vs ⟧ ∗ ⟦ S j v q ⟧)
    stands [] k i j v q e = qed 𝓛 (‵ (roster cv.code γ k []) ∷ ‵ (S j v q) ∷ []) ∵ fpick ! (λ d. move ! (1 ∷ 0 ∷ []) $
        use2 𝓛 (given (OpDef halved.op (q, cv.code v) (full_share, cv.code d)) (‵ (S j v q) ⊛ ‵ (unused cv.code γ k d))) (entries_beside halved 𝓛 γ k j (λ _. (full_share, cv.code d)) (q, cv.code v) (omega arith)) $
        learn ! (λ x. absurd (not-OpDef-full_share q ((OpDef-comm (pcs shares) {a = q} {b = full_share}).0 x.0))))
    stands (w ∷ ws) k zero j v q e = let is : j ≡ k = omega arith in qed 𝓛 ((‵ (S k w quarter) ⊛ ‵ (roster cv.code γ (suc k) ws)) ∷ ‵ (S j v q) ∷ []) ∵ split ! $ Kit.rewrite ! 2 (λ (m : ℕ). ‵ (S m v q)) is refl $ move ! (0 ∷ 2 ∷ []) $
        use2 𝓛 (given (w ≡ v) (‵ (S k w quarter) ⊛ ‵ (S k v q))) (same k w v quarter q) $ learn ! (λ alike. check ! (ap some alike) $ split ! $
        Kit.rewrite ! 1 (λ (m : ℕ). ‵ (S m v q)) (sym is) refl $ move ! (0 ∷ 2 ∷ []) $ Kit.join ! $ done !)
    stands (w ∷ ws) k (suc i) j v q e = qed 𝓛 ((‵ (S k w quarter) ⊛ ‵ (roster cv.code γ (suc k) ws)) ∷ ‵ (S j v q) ∷ []) ∵ split ! $ move ! (1 ∷ 2 ∷ []) $
        use2 𝓛 (given (get_elem? ws i ≡ some v) (‵ (roster cv.code γ (suc k) ws) ⊛ ‵ (S j v q))) (stands ws (suc k) i j v q (omega arith)) $ learn ! (λ at. check ! at $ split ! $ move ! (2 ∷ 0 ∷ []) $ Kit.join ! $ done !)
