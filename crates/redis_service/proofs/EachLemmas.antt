-- What is done with each of several keys, one after the other.
use Rattle.std.proofs.Common.{◌≡◌, ℕ, ◌+◌, ◌<◌, ◌≤◌, List, [], ◌∷◌, ◌++◌, length, get_or, take, All, Bool, Option, is_some, count_by, flat_map, refl, sym, ap, subst, ◌∙◌, append_assoc, arith}
use Rattle.std.specs.Borrow.{Bor}
use Rattle.std.proofs.lemmas.List.{take_more, map-append, length-map, get_or-map, append-nil}
use Rattle.std.proofs.lemmas.List.Concat.{flat_map-append}
use Rattle.std.proofs.lemmas.List.Sums.{sum_by-append, count_by-le-length}
use Rattle.bin_stripes.specs.Passes.{PassState}
use Rattle.redis_commands.specs.Commands.{texts}
use Rattle.redis_commands.specs.Limits.{IsKey}
use Rattle.redis_service.specs.Calls.{Each, bulk}

-- a word of several that are keys is one
pub key_at : (words : List (Bor (List ℕ))) (i : ℕ) (d : Bor (List ℕ)) → i < length words → All IsKey (texts words) → IsKey (get_or words i d).now
key_at words i d lt all =
    let long : length (texts words) ≡ length words = length-map words (λ w. w.now) in
    subst IsKey (get_or-map (λ (w : Bor (List ℕ)). w.now) words i d d.now lt) (all i d.now (omega (arith, long)))

-- the texts of the words up to one, and of it
pub texts_more : (words : List (Bor (List ℕ))) (i : ℕ) (d : Bor (List ℕ)) → i < length words → texts (take (i + 1) words) ≡ texts (take i words) ++ (get_or words i d).now ∷ []
texts_more words i d lt = ap texts (take_more words i d lt) ∙ map-append (λ (w : Bor (List ℕ)). w.now) (take i words) (get_or words i d ∷ [])

module _ {X Y : Type 0} (Does : PassState → X → Y → PassState → Type 0) where
  -- one more item
  pub each_more : (old mid new : PassState) (xs : List X) (ys : List Y) (x : X) (y : Y) → Each Does old xs ys mid → Does mid x y new
      → Each Does old (xs ++ x ∷ []) (ys ++ y ∷ []) new
  each_more old mid new [] [] x y same does = (new, subst (λ (p : PassState). Does p x y new) same does, refl)
  each_more old mid new [] (z ∷ ys) x y none does = absurd none
  each_more old mid new (w ∷ xs) [] x y none does = absurd none
  each_more old mid new (w ∷ xs) (z ∷ ys) x y (next, first, later) does = (next, first, each_more next mid new xs ys x y later does)

module _ {Y : Type 0} (Does : PassState → List ℕ → Y → PassState → Type 0) where
  -- one more of the words
  pub each_at : (old mid new : PassState) (words : List (Bor (List ℕ))) (i : ℕ) (d : Bor (List ℕ)) (ys : List Y) (y : Y) → i < length words
      → Each Does old (texts (take i words)) ys mid → Does mid (get_or words i d).now y new → Each Does old (texts (take (i + 1) words)) (ys ++ y ∷ []) new
  each_at old mid new words i d ys y lt each does =
      subst (λ (t : List (List ℕ)). Each Does old t (ys ++ y ∷ []) new) (sym (texts_more words i d lt))
      (each_more Does old mid new (texts (take i words)) ys (get_or words i d).now y each does)

-- one more that may be there
pub counted_more : (count more : ℕ) (founds : List (Option (List ℕ))) (found : Option (List ℕ)) → count ≡ count_by is_some founds → more ≡ count + count_by is_some (found ∷ [])
    → more ≡ count_by is_some (founds ++ found ∷ [])
counted_more count more founds found count-is more-is =
    more-is ∙ ap (λ (n : ℕ). n + count_by is_some (found ∷ [])) count-is ∙ sym (sum_by-append _ founds (found ∷ []))

pub counted_most : (count more place : ℕ) (found : Option (List ℕ)) → count ≤ place → more ≡ count + count_by is_some (found ∷ []) → more ≤ place + 1
counted_most count more place found most more-is = omega (arith, count_by-le-length is_some (found ∷ []))

-- one more value is told
pub told_more : (head : List ℕ) (founds : List (Option (List ℕ))) (found : Option (List ℕ))
    → (head ++ flat_map bulk founds) ++ bulk found ≡ head ++ flat_map bulk (founds ++ found ∷ [])
told_more head founds found =
    append_assoc head (flat_map bulk founds) (bulk found)
    ∙ ap (λ (t : List ℕ). head ++ t) (ap (λ (t : List ℕ). flat_map bulk founds ++ t) (sym (append-nil (bulk found))) ∙ sym (flat_map-append bulk founds (found ∷ [])))

-- what is made of each word, with one more
pub mapped_more : (f : List ℕ → List ℕ) (words : List (Bor (List ℕ))) (i : ℕ) (d : Bor (List ℕ)) → i < length words
    → flat_map f (texts (take i words)) ++ f (get_or words i d).now ≡ flat_map f (texts (take (i + 1) words))
mapped_more f words i d lt =
    ap (λ (t : List ℕ). flat_map f (texts (take i words)) ++ t) (sym (append-nil (f (get_or words i d).now)))
    ∙ sym (flat_map-append f (texts (take i words)) ((get_or words i d).now ∷ []))
    ∙ ap (λ (t : List (List ℕ)). flat_map f t) (sym (texts_more words i d lt))

-- the words that pass, with one more
pub count_words_more : (p : List ℕ → Bool) (words : List (Bor (List ℕ))) (i : ℕ) (d : Bor (List ℕ)) → i < length words
    → count_by p (texts (take (i + 1) words)) ≡ count_by p (texts (take i words)) + count_by p ((get_or words i d).now ∷ [])
count_words_more p words i d lt =
    ap (λ (t : List (List ℕ)). count_by p t) (texts_more words i d lt) ∙ sum_by-append _ (texts (take i words)) ((get_or words i d).now ∷ [])

pub count_one : (p : List ℕ → Bool) (word : List ℕ) → count_by p (word ∷ []) ≤ 1
count_one p word = count_by-le-length p (word ∷ [])
