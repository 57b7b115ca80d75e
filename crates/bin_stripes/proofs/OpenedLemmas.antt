-- New passes: what each has, and how they are dealt.
use Rattle.std.proofs.Common.{◌≡◌, ℕ, zero, suc, ◌+◌, false, ◌||◌, All, List, [], ◌∷◌, ◌++◌, map, replicate, refl, sym, ap, ◌∙◌, subst, arith, eq-eqb}
use Rattle.std.proofs.lemmas.List.{length-replicate, get_or-map, length-map}
use Rattle.std.proofs.lemmas.List.Elements.{All-nil}
use Rattle.atomic_table.specs.Seated.{TableId}
use Rattle.stripe_rule.specs.declared.view.Part.{Part}
use Rattle.stripe_rule.specs.declared.view.View.{View}
use Rattle.stripe_rule.specs.History.{made_by, AreUnder, AreBelow, IsLegal}
use Rattle.stripe_rule.specs.Gains.{blank, part_of}
use Rattle.stripe_rule.specs.Rule.{from_on, newcomer}
use Rattle.stripe_rule.proofs.HistoryLemmas.{IsUnder, IsBelow}
use Rattle.stripe_rule.proofs.OpenLemmas.{part_new}
use Rattle.bin_stripes.specs.declared.ghost_action.GhostAction.{GhostAction}
use Rattle.bin_stripes.specs.Histories.{empty, does, Sound}
use Rattle.bin_stripes.specs.Passes.{IsPass, stripes_of, PassState}
use Rattle.bin_stripes.specs.Opened.{IsOpened, pass_of}

-- this many numbers from n on, and one more
pub from_on-more : (n count : ℕ) → from_on n (suc count) ≡ from_on n count ++ (n + count) ∷ []
from_on-more n zero = ap (λ m. m ∷ []) (omega arith)
from_on-more n (suc count) = ap (λ ns. n ∷ ns) (from_on-more (n + 1) count ∙ ap (λ m. from_on (n + 1) count ++ m ∷ []) (omega arith))

pub map-more : (f : ℕ → PassState) (ns : List ℕ) (n : ℕ) → map f (ns ++ n ∷ []) ≡ map f ns ++ f n ∷ []
map-more f [] n = refl
map-more f (m ∷ ns) n = ap (λ xs. f m ∷ xs) (map-more f ns n)

-- one more pass is dealt
pub dealt_more : (id : TableId) (passes number : ℕ) (all : List PassState) (p : PassState) → all ≡ map (pass_of id passes) (from_on 0 number) → p ≡ pass_of id passes number
    → all ++ p ∷ [] ≡ map (pass_of id passes) (from_on 0 (number + 1))
dealt_more id passes number all p is new = let same : number ≡ 0 + number = omega arith in let next : suc number ≡ number + 1 = omega arith in
    (λ i. is i ++ new i ∷ [])
    ∙ (sym (map-more (pass_of id passes) (from_on 0 number) number)
    ∙ ap (map (pass_of id passes)) (ap (λ (m : ℕ). from_on 0 number ++ m ∷ []) same ∙ (sym (from_on-more 0 number) ∙ ap (from_on 0) next)))

-- a pass, by its map and its knowledge
abbrev pub passing : TableId → View GhostAction → PassState
passing z v = record { map = z; view = v }

pub pass_is : (id : TableId) (passes number : ℕ) (z : TableId) (v : View GhostAction) → z ≡ id → v ≡ newcomer (stripes_of id) passes (number ∷ []) → passing z v ≡ pass_of id passes number
pass_is id passes number z v same is = λ i. passing (same i) (is i)

module _ (stripes passes number : ℕ) where
  abbrev Newcomer : View GhostAction
  Newcomer = newcomer stripes passes (number ∷ [])

  abbrev new_part : (k : ℕ) → part_of Newcomer k ≡ blank
  new_part k = part_new GhostAction stripes passes (number ∷ []) k

  pub newcomer_sound : (n : ℕ) → Sound n Newcomer
  newcomer_sound n = record {
    legal = λ k. subst (λ (p : Part GhostAction). IsLegal (does n k) empty p.seen) (sym (new_part k)) (empty, refl);
    below = λ k. subst (λ (p : Part GhostAction). AreBelow passes p.seen) (sym (new_part k)) (All-nil (IsBelow passes));
    under = λ k. subst (λ (p : Part GhostAction). AreUnder (number ∷ []) p.mine) (sym (new_part k)) (All-nil (IsUnder (number ∷ [])));
    own = λ k q c. ap (λ (p : Part GhostAction). made_by q p.seen) (new_part k) ∙ sym (ap (λ (p : Part GhostAction). made_by q p.mine) (new_part k));
  }

  -- the state of a new pass
  pub new_pass : (id : TableId) → stripes_of id ≡ stripes → IsPass id (Newcomer ∷ [])
  new_pass id is = record {
    one = refl;
    idle = λ k. ap (λ (p : Part GhostAction). p.held) (new_part k);
    some = ap (λ b. b || false) (eq-eqb number number refl);
    sound = newcomer_sound (stripes_of id);
    wide = (let none : Part GhostAction = blank in length-replicate stripes none) ∙ sym is;
  }

abbrev pub zeros : ℕ → List ℕ
zeros n = replicate n 0

-- one more zero
pub zeros_more : (n : ℕ) → zeros n ++ 0 ∷ [] ≡ zeros (n + 1)
zeros_more n = let next : suc n ≡ n + 1 = omega arith in more n ∙ ap zeros next
  where
    more : (n : ℕ) → zeros n ++ 0 ∷ [] ≡ zeros (suc n)
    more zero = refl
    more (suc n) = ap (λ (xs : List ℕ). 0 ∷ xs) (more n)

-- each pass of a new map serves it
pub serve_all : (stripes passes : ℕ) (id : TableId) (all : List PassState) → IsOpened stripes passes id all → All (λ pass. pass.map ≡ id) all
serve_all stripes passes id all opened =
    subst (λ (ps : List PassState). All (λ pass. pass.map ≡ id) ps) (sym opened.passes_are) (λ i d low.
    ap (λ (p : PassState). p.map) (get_or-map (pass_of id passes) (from_on 0 passes) i 0 d (omega (arith, low, length-map (from_on 0 passes) (pass_of id passes)))))
