-- One seat learns what another at rest knows: the table's invariant is opened without a step. Assumes `Logic`.
use Rattle.std.proofs.Common.{◌≡◌, ℕ, [], ◌∷◌, length, set, arith}
use mathlib.Core.List.{not-mem-nil}
use mathlib.Core.Option as maybe
use lib.ListN.{get_elem?}
use seplogic.Ra.Ura.{Ura}
use base.Share.{three_quarters}
use base.Stored.{Coded}
use base.Logic.{SProp, ent, sep, ex, all, guard, upd, all_e, upd_i, wand_i, id⊢}
use base.Fml.{Lft, Share, Fml, ftrue, fsep, fbor, fnamed, flft}
use types.Logic.{Logic, sem}
use types.Kit.{‵, raw, ◌⊛◌, some, given, ◌$◌, ◌∵◌, !, qed, by, move, drop, split, fsplit, fsplit3, fjoin, fjoin3, fpick, fpack, pick, learn, show, check, frame, suffices, settle, done, use0, use1, use2}
use denote.RattleType.{RattleType}
use denote.RawPtr.{Ptr}
use denote.Steps.{nothing}
use Rattle.atomic_table.specs.Table.{State, Me}
use Rattle.atomic_table.specs.Seated.{seen, roster, TableId, age, standing, inner, common, mine}
use Rattle.atomic_table.proofs.Roster.{Moved, moves}
use Rattle.known_seat.specs.Knowing.{part, Learns}
use Rattle.known_seat.proofs.Sharing.{stands}

module _ {M : Type 1} {𝓤 : Ura M} (𝓛 : Logic 𝓤) (R : RattleType) {V : Type 0} (cv : Coded V) (holds : State R.Denot V → Type 0) (w p : Ptr) (z : TableId) where
  open 𝓛 use {H, A}

  abbrev Pr : Type 2
  Pr = SProp 𝓤

  abbrev ◌⊢◌ : Pr → Pr → Type 1
  P ⊢ Q = ent 𝓤 P Q

  abbrev ◌∗◌ : Pr → Pr → Pr
  P ∗ Q = sep 𝓤 P Q

  infix 26 ◌⊢◌
  infixr 35 ◌∗◌
  abbrev ⟦◌⟧ : Fml → Pr
  ⟦ P ⟧ = sem 𝓛 P

  abbrev κ : Lft
  κ = age z

  abbrev S : Type 0
  S = R.Denot

  abbrev C : Fml
  C = common R cv.code holds w p z

  abbrev sat : ℕ → Me S V → Fml
  sat = mine R cv.code z

  abbrev half : ℕ → V → Fml
  half id v = seen cv.code z.views_name id three_quarters v

  module _ (s : Share) (id : ℕ) (me : Me S V) (other : ℕ) (q : Share) (v : V) (then : V → Type 0) where
    abbrev I : Fml
    I = inner R cv.code holds w p z

    abbrev Fits : State S V → Type 0
    Fits t = holds t × (length t.words ≡ z.words) × (length t.homes ≡ z.slots)

    abbrev hint : Fml
    hint = part cv.code z other v q

    abbrev K : Fml
    K = fsep (sat id me) hint

    abbrev pub Next : V → Pr
    Next u = guard 𝓤 (then u) (⟦ sat id (u, me.1) ⟧ ∗ ⟦ hint ⟧)

    abbrev Q : Pr
    Q = ex 𝓤 Next

    inside : Learns holds id me.0 other v then → ⟦ I ⟧ ∗ ⟦ K ⟧ ⊢ upd 𝓤 (⟦ I ⟧ ∗ ⟦ ftrue ⟧ ∗ Q)
    inside law = let G : Pr = ⟦ I ⟧ ∗ ⟦ ftrue ⟧ ∗ Q in let γ : ℕ = z.views_name in qed 𝓛 (‵ I ∷ ‵ K ∷ []) ∵ fpick ! (λ t. fsplit3 ! $ move ! (2 ∷ []) $ fpick ! (λ so. drop ! $
        -- [the words; the slots and the views; the seat and the hint]
        move ! (1 ∷ []) $ fsplit ! $ move ! (3 ∷ []) $ fsplit ! $ fsplit ! $
        -- [half; carried; hint; slots; views; words]
        move ! (4 ∷ 2 ∷ []) $ use2 𝓛 (given (get_elem? t.views other ≡ maybe.some v) (‵ (roster cv.code γ 0 t.views) ⊛ ‵ hint)) (stands cv 𝓛 γ t.views 0 other other v q (omega arith)) $ learn ! (λ there. split ! $
        -- [views; hint; half; carried; slots; words]
        move ! (0 ∷ 2 ∷ []) $ use2 𝓛 (given (get_elem? t.views id ≡ maybe.some me.0) (raw (all 𝓤 (Moved 𝓛 cv γ 0 t.views id id)))) (moves 𝓛 cv γ t.views 0 id id me.0 (omega arith)) $ learn ! (λ at.
        let r = law t so.0 at there in let u : V = r.0 in let t' : State S V = record { words = t.words; homes = t.homes; views = set t.views id u } in
        use1 𝓛 (raw (Moved 𝓛 cv γ 0 t.views id id u)) (all_e 𝓤 (Moved 𝓛 cv γ 0 t.views id id) u) $ settle 𝓛 G (‵ (roster cv.code γ 0 t'.views) ⊛ ‵ (half id u)) $ split ! $ suffices ! _ (upd_i 𝓤 G) $
        -- [views; half; hint; carried; slots; words]
        nothing ! $ fpack ! (Fits t') (λ _. ftrue) (r.1, so.1, so.2) $
        -- [the fact; views; half; hint; carried; slots; words]
        move ! (5 ∷ 1 ∷ []) $ fjoin ! $ move ! (5 ∷ 0 ∷ 1 ∷ []) $ fjoin3 ! $ fpack ! (State S V) (standing R cv.code holds w p z) t' $ frame ! $
        nothing ! $ frame ! $ show ! Next u $ check ! r.2 $ move ! (0 ∷ 2 ∷ 1 ∷ []) $ fjoin ! $ done !))))

    pub learns : Learns holds id me.0 other v then → ⟦ C ⟧ ∗ A.lft κ s ∗ ⟦ K ⟧ ⊢ H.⇛ (Q ∗ A.lft κ s)
    learns law = let P : Fml = fbor κ I in let G : Pr = ⟦ I ⟧ ∗ ⟦ ftrue ⟧ ∗ Q in qed 𝓛 (‵ C ∷ ‵ (flft κ s) ∷ ‵ K ∷ []) ∵ fsplit ! $ drop ! $
        use1 𝓛 (some (λ (j : ℕ). ‵ (fnamed j P))) (𝓛.invs.inv_named P) $ pick ! (λ n.
        suffices ! _ (𝓛.invs.invs_bor_acc n κ s I [] Q ((λ m. not-mem-nil m), tt)) $
        use0 𝓛 (‵ ftrue) (id⊢ 𝓤 _) $ move ! (1 ∷ 0 ∷ []) $ fjoin ! $ frame ! $ frame ! $ by ! (wand_i 𝓤 ⟦ K ⟧ (⟦ I ⟧ ∗ ⟦ ftrue ⟧) (upd 𝓤 G) (qed 𝓛 (‵ K ∷ (‵ I ⊛ ‵ ftrue) ∷ []) ∵ move ! (1 ∷ []) $ split ! $ move ! (1 ∷ []) $ drop ! $ by ! (inside law))))
