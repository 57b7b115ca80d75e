-- Stripes that were found empty.
use Rattle.std.proofs.Common.{◌≡◌, ℕ, ◌+◌, ◌<◌, List, [], ◌∷◌, ◌++◌, Some, None, All, refl, sym, ap, ◌∙◌, subst, arith, length, length-append}
use Rattle.std.specs.List.{Contains}
use Rattle.std.proofs.lemmas.List.Elements.{All-nil, All-push}
use Rattle.bin_stripes.specs.Passes.{PassState, ServesSameMap, stripes_of}
use Rattle.key_walks.specs.Turns.{InTurn}
use Rattle.key_walks.specs.Expired.{FindsLive, MayScanLive, StopsLive}
use Rattle.key_walks.specs.Walks.{Chooses, each_from}
use Rattle.key_walks.proofs.ChainLemmas.{turn_more}

-- the first n of the stripes in turn have no key
pub record Empty (now stripes number n : ℕ) (old new : PassState) : Type 0 where
  pub lists : List (List (List ℕ))
  pub empty : All (λ (keys : List (List ℕ)). keys ≡ []) lists
  pub turns : InTurn (FindsLive now) (each_from stripes number) old lists new
  pub some : length lists ≡ n

pub empty_none : (now stripes number : ℕ) (p : PassState) → Empty now stripes number 0 p p
empty_none now stripes number p = record { lists = []; empty = All-nil (λ (keys : List (List ℕ)). keys ≡ []); turns = refl; some = refl }

pub empty_more : (now stripes number n k : ℕ) (p q r : PassState) (keys : List (List ℕ)) → Empty now stripes number n p q → ServesSameMap q r → k ≡ each_from stripes number n → FindsLive now q k keys r
    → keys ≡ [] → Empty now stripes number (n + 1) p r
empty_more now stripes number n k p q r keys f same at finds none =
    let longer = length-append f.lists (keys ∷ []) in
    let some = f.some in
    record {
      lists = f.lists ++ keys ∷ [];
      empty = All-push (λ (keys : List (List ℕ)). keys ≡ []) f.lists keys f.empty none;
      turns = turn_more (FindsLive now) (each_from stripes number) p q r f.lists keys f.turns same
          (subst (λ m. FindsLive now q m keys r) (at ∙ ap (λ i. each_from stripes number i) (sym f.some)) finds);
      some = omega (arith, longer, some);
    }

-- all of them
pub empty_all : (now number n : ℕ) (p q : PassState) → Empty now (stripes_of p.map) number n p q → n ≡ stripes_of p.map → Chooses now number p None q
empty_all now number n p q f all =
    record { lists = f.lists; empty = f.empty; between = q; turns = f.turns; choice_is = (f.some ∙ all, refl) }

-- the next one has a key
pub chosen : (now number n k : ℕ) (p q r : PassState) (keys : List (List ℕ)) (key : List ℕ) → Empty now (stripes_of p.map) number n p q → n < stripes_of p.map
    → k ≡ each_from (stripes_of p.map) number n → FindsLive now q k keys r → Contains keys key → Chooses now number p (Some key) r
chosen now number n k p q r keys key f low at finds has =
    let some = f.some in
    record {
      lists = f.lists;
      empty = f.empty;
      between = q;
      turns = f.turns;
      choice_is = (
        omega (arith, some, low),
        (keys, (subst (λ m. FindsLive now q m keys r) (at ∙ ap (λ i. each_from (stripes_of p.map) number i) (sym f.some)) finds, has)),
      );
    }

pub empty_stops : (now stripes number n k : ℕ) (p q r : PassState) → Empty now stripes number n p q → k ≡ each_from stripes number n → MayScanLive now q k r
    → StopsLive now (FindsLive now) (each_from stripes number) p r
empty_stops now stripes number n k p q r f at may = record {
  items = f.lists;
  between = q;
  turns = f.turns;
  last = subst (λ m. MayScanLive now q m r) (at ∙ ap (λ i. each_from stripes number i) (sym f.some)) may;
}
