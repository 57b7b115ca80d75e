-- Options: one step of their readers.
use Rattle.std.proofs.Common.{arith, ◌≡◌, ℕ, ◌-◌, ◌<◌, ◌≤◌, Bool, true, false, ◌&&◌, List, [], ◌∷◌, length, take, drop, get_or, fold, Option, Some, None, ok_or, Result, Ok, Err, IsErrAnd, refl, sym, ap, ◌∙◌, Bor, if◌then◌else◌}
use Rattle.std.specs.List.{list_all}
use Rattle.std.proofs.lemmas.List.{drop-map, length-drop}
use Rattle.std.proofs.Math.Seq.{take-length}
use Rattle.redis_commands.specs.declared.fault.CommandFault.{CommandFault}
use Rattle.redis_commands.specs.declared.name.KeyName.{KeyName}
use Rattle.redis_commands.specs.declared.command.TimeUnit.{TimeUnit}
use Rattle.redis_commands.specs.declared.command.TimeUnit.TheVariants.{Seconds, Millis}
use Rattle.redis_commands.specs.declared.command.TimeForm.{TimeForm}
use Rattle.redis_commands.specs.declared.command.TimeForm.TheVariants.{Left, Until}
use Rattle.redis_commands.specs.Commands.{Condition, Fault, texts, fault_by}
use Rattle.redis_commands.specs.Commands.Condition.{Always, IfAbsent, IfPresent, IfEqual}
use Rattle.redis_commands.specs.Commands.Fault.{Syntax}
use Rattle.redis_commands.specs.Words.{given}
use Rattle.redis_commands.specs.Options.{Term, SetOption, SetOptions, ScanOption, ScanOptions, HelloOption, HelloOptions, flag, valued, before, spelled, is_of, same_condition, same_unit, same_form, same_term, agree, all_agree, with_option, no_options, set_options, scan_option, each_scan_option, with_scan_option, each_hello_option, with_hello_option, hello_before}
use Rattle.redis_commands.specs.Options.Term.{Same, Endless, Ends}
use Rattle.redis_commands.specs.Options.SetOption.{Only, OldValue, Stays}
use Rattle.redis_commands.specs.Reading.{read_by, follows_term, may_follow, added, scan_with}
use Rattle.redis_commands.specs.Table.{long_word}

-- stands for an element that there is not
abbrev pub nothing : Bor (List ℕ)
nothing = record { ref_ptr = (0, 0); now = [] }

pub long_word_short : (words : List (Bor (List ℕ))) → length words < 2 → long_word (texts words) ≡ None
long_word_short [] h = refl
long_word_short (w ∷ []) h = refl
long_word_short (w ∷ v ∷ more) h = absurd (omega (arith, h))

-- the whole rest of a list
pub rest_whole : {A : Type 0} (k : ℕ) (xs : List A) → take (length xs - k) (drop k xs) ≡ drop k xs
rest_whole k xs = ap (λ n. take n (drop k xs)) (sym (length-drop k xs)) ∙ take-length (drop k xs)

-- the words after the first k ones
pub texts_after : (k : ℕ) (words left : List (Bor (List ℕ))) → left ≡ take (length words - k) (drop k words)
    → texts left ≡ drop k (texts words)
texts_after k words left is =
    ap texts (is ∙ rest_whole k words) ∙ sym (drop-map (λ (b : Bor (List ℕ)). b.now) k words)

-- a fault that is passed on
pub read_passed : {A B : Type 0} (view : A → B) (r : Result A CommandFault) (f : CommandFault) (want : Result B Fault)
    → IsErrAnd r (λ x. x ≡ f) → Err (fault_by f) ≡ want → read_by view r ≡ want
read_passed view (Ok n) f want h e = absurd h
read_passed view (Err x) f want h e = ap (λ y. Err (fault_by y)) h ∙ e

-- ---- SCAN

-- what the words that are left come to, after those before them came to this
abbrev pub scan_left : ScanOptions → List (List ℕ) → Result ScanOptions Fault
scan_left o words = given (each_scan_option words) (λ options. Ok (fold with_scan_option o options))

scan_step : (o : ScanOptions) (r : Result ScanOption Fault) (rest : Result (List ScanOption) Fault)
    → given (given r (λ option. given rest (λ options. Ok (option ∷ options)))) (λ options. Ok (fold with_scan_option o options))
    ≡ given (scan_with o r) (λ n. given rest (λ options. Ok (fold with_scan_option n options)))
scan_step o (Ok option) (Ok options) = refl
scan_step o (Ok option) (Err f) = refl
scan_step o (Err f) rest = refl

pub scan_next : (o n : ScanOptions) (words : List (Bor (List ℕ))) → 2 ≤ length words
    → scan_with o (scan_option (get_or words 0 nothing).now (get_or words 1 nothing).now) ≡ Ok n
    → scan_left n (texts (drop 2 words)) ≡ scan_left o (texts words)
scan_next o n [] h e = absurd (omega (arith, h))
scan_next o n (w ∷ []) h e = absurd (omega (arith, h))
scan_next o n (w ∷ v ∷ more) h e =
    sym (scan_step o (scan_option w.now v.now) (each_scan_option (texts more)) ∙ ap (λ r. given r (λ n. scan_left n (texts more))) e)

pub scan_fault : (o : ScanOptions) (f : Fault) (words : List (Bor (List ℕ))) → 2 ≤ length words
    → scan_with o (scan_option (get_or words 0 nothing).now (get_or words 1 nothing).now) ≡ Err f
    → scan_left o (texts words) ≡ Err f
scan_fault o f [] h e = absurd (omega (arith, h))
scan_fault o f (w ∷ []) h e = absurd (omega (arith, h))
scan_fault o f (w ∷ v ∷ more) h e =
    scan_step o (scan_option w.now v.now) (each_scan_option (texts more)) ∙ ap (λ r. given r (λ n. scan_left n (texts more))) e

pub scan_end : (o : ScanOptions) (words : List (Bor (List ℕ))) → length words < 2 → 0 < length words
    → scan_left o (texts words) ≡ Err Syntax
scan_end o [] h some = absurd (omega (arith, some))
scan_end o (w ∷ []) h some = refl
scan_end o (w ∷ v ∷ more) h some = absurd (omega (arith, h))

-- ---- HELLO

abbrev pub hello_left : HelloOptions → List (List ℕ) → Result HelloOptions Fault
hello_left o words = given (each_hello_option words) (λ options. Ok (fold with_hello_option o options))

hello_step : (o : HelloOptions) (option : HelloOption) (rest : Result (List HelloOption) Fault)
    → given (hello_before (Ok option) rest) (λ options. Ok (fold with_hello_option o options))
    ≡ given rest (λ options. Ok (fold with_hello_option (with_hello_option o option) options))
hello_step o option (Ok options) = refl
hello_step o option (Err f) = refl

pub hello_next : (o n : HelloOptions) (option : HelloOption) (words left : List (List ℕ))
    → hello_before (Ok option) (each_hello_option left) ≡ each_hello_option words
    → n ≡ with_hello_option o option → hello_left n left ≡ hello_left o words
hello_next o n option words left e is =
    ap (λ m. hello_left m left) is ∙ sym (hello_step o option (each_hello_option left))
    ∙ ap (λ r. given r (λ options. Ok (fold with_hello_option o options))) e

pub hello_fault : (o : HelloOptions) (f : Fault) (words : List (List ℕ)) → Err f ≡ each_hello_option words → hello_left o words ≡ Err f
hello_fault o f words e = ap (λ r. given r (λ options. Ok (fold with_hello_option o options))) (sym e)

-- ---- SET and GETEX: the first option

pub first_valued : (words : List (Bor (List ℕ))) (o : SetOption) → 2 ≤ length words
    → Some o ≡ valued (get_or words 0 nothing).now (get_or words 1 nothing).now
    → before (Some o) (spelled (drop 2 (texts words))) ≡ spelled (texts words)
first_valued [] o h e = absurd (omega (arith, h))
first_valued (w ∷ []) o h e = absurd (omega (arith, h))
first_valued (w ∷ v ∷ more) o h e = rw (sym e, spelled) refl

pub first_flag : (words : List (Bor (List ℕ))) (o : SetOption) → 2 ≤ length words
    → None ≡ valued (get_or words 0 nothing).now (get_or words 1 nothing).now → Some o ≡ flag (get_or words 0 nothing).now
    → before (Some o) (spelled (drop 1 (texts words))) ≡ spelled (texts words)
first_flag [] o h alone e = absurd (omega (arith, h))
first_flag (w ∷ []) o h alone e = absurd (omega (arith, h))
first_flag (w ∷ v ∷ more) o h alone e = rw (sym alone, sym e, spelled) refl

pub first_none : (words : List (Bor (List ℕ))) → 2 ≤ length words
    → None ≡ valued (get_or words 0 nothing).now (get_or words 1 nothing).now → None ≡ flag (get_or words 0 nothing).now
    → None ≡ spelled (texts words)
first_none [] h alone e = absurd (omega (arith, h))
first_none (w ∷ []) h alone e = absurd (omega (arith, h))
first_none (w ∷ v ∷ more) h alone e = rw (sym alone, sym e, spelled) refl

pub last_flag : (words : List (Bor (List ℕ))) (o : SetOption) → length words ≡ 1 → Some o ≡ flag (get_or words 0 nothing).now
    → before (Some o) (spelled (drop 1 (texts words))) ≡ spelled (texts words)
last_flag [] o h e = absurd (omega (arith, h))
last_flag (w ∷ []) o h e = rw (sym e) refl
last_flag (w ∷ v ∷ more) o h e = absurd (omega (arith, h))

pub last_none : (words : List (Bor (List ℕ))) → length words ≡ 1 → None ≡ flag (get_or words 0 nothing).now
    → None ≡ spelled (texts words)
last_none [] h e = absurd (omega (arith, h))
last_none (w ∷ []) h e = rw (sym e) refl
last_none (w ∷ v ∷ more) h e = absurd (omega (arith, h))

-- ---- SET and GETEX: which options go together

same_units : (a b x : TimeUnit) → same_unit a b ≡ true → same_unit b x ≡ same_unit a x
same_units Seconds Seconds x e = refl
same_units Millis Millis x e = refl
same_units Seconds Millis x e = absurd cc
same_units Millis Seconds x e = absurd cc

same_forms : (a b x : TimeForm) → same_form a b ≡ true → same_form b x ≡ same_form a x
same_forms Left Left x e = refl
same_forms Until Until x e = refl
same_forms Left Until x e = absurd cc
same_forms Until Left x e = absurd cc

both : (a b : Bool) → (a && b) ≡ true → (a ≡ true) × (b ≡ true)
both true true e = (refl, refl)
both true false e = absurd cc
both false b e = absurd cc

same_terms : (a b x : Term) → same_term a b ≡ true → same_term b x ≡ same_term a x
same_terms Same Same x e = refl
same_terms Same Endless x e = absurd cc
same_terms Same (Ends u f n) x e = absurd cc
same_terms Endless Same x e = absurd cc
same_terms Endless Endless x e = refl
same_terms Endless (Ends u f n) x e = absurd cc
same_terms (Ends u f n) Same x e = absurd cc
same_terms (Ends u f n) Endless x e = absurd cc
same_terms (Ends u f n) (Ends u' f' n') Same e = refl
same_terms (Ends u f n) (Ends u' f' n') Endless e = refl
same_terms (Ends u f n) (Ends u' f' n') (Ends u'' f'' n'') e =
    let parts = both (same_unit u u') (same_form f f') e in
    rw (same_units u u' u'' parts.0, same_forms f f' f'' parts.1) refl

and_true : (b : Bool) → (b && true) ≡ b
and_true true = refl
and_true false = refl

twice : (b : Bool) → (b && b) ≡ b
twice true = refl
twice false = refl

conditions : (a b x : Condition) → same_condition a b ≡ true → same_condition b x ≡ (same_condition a x && same_condition b x)
conditions Always b x e = refl
conditions IfAbsent IfAbsent x e = sym (twice (same_condition IfAbsent x))
conditions IfPresent IfPresent x e = sym (twice (same_condition IfPresent x))
conditions IfAbsent Always x e = absurd cc
conditions IfAbsent IfPresent x e = absurd cc
conditions IfAbsent (IfEqual v) x e = absurd cc
conditions IfPresent Always x e = absurd cc
conditions IfPresent IfAbsent x e = absurd cc
conditions IfPresent (IfEqual v) x e = absurd cc
conditions (IfEqual v) b x e = absurd cc

terms : (a : Option Term) (b x : Term) → follows_term a b ≡ true → same_term b x ≡ (follows_term a x && same_term b x)
terms None b x e = refl
terms (Some a) b x e = let same = same_terms a b x e in rw (sym same) (sym (twice (same_term b x)))

-- an option goes together with one more if it goes together with both
follow_both : (s : SetOptions) (o x : SetOption) → may_follow s o ≡ true
    → may_follow (with_option s o) x ≡ (may_follow s x && agree o x)
follow_both s (Only c) (Only d) e = conditions s.condition c d e
follow_both s (Only c) OldValue e = refl
follow_both s (Only c) (Stays t) e = sym (and_true (may_follow s (Stays t)))
follow_both s OldValue x e = sym (and_true (may_follow s x))
follow_both s (Stays t) (Only d) e = sym (and_true (may_follow s (Only d)))
follow_both s (Stays t) OldValue e = refl
follow_both s (Stays t) (Stays u) e = terms s.term t u e

all_both : (s : SetOptions) (o : SetOption) (os : List SetOption) → may_follow s o ≡ true
    → list_all (may_follow (with_option s o)) os ≡ (list_all (may_follow s) os && list_all (agree o) os)
all_both s o [] e = refl
all_both s o (x ∷ os) e =
    rw (follow_both s o x e, all_both s o os e) (four (may_follow s x) (agree o x) (list_all (may_follow s) os) (list_all (agree o) os)) where
      four : (a b c d : Bool) → ((a && b) && (c && d)) ≡ ((a && c) && (b && d))
      four true true c d = refl
      four true false true d = refl
      four true false false d = refl
      four false b c d = refl

follow_none : (os : List SetOption) → list_all (may_follow no_options) os ≡ true
follow_none [] = refl
follow_none (Only c ∷ os) = follow_none os
follow_none (OldValue ∷ os) = follow_none os
follow_none (Stays t ∷ os) = follow_none os

-- ---- SET and GETEX: all options

-- what more options come to, after those before them came to this
abbrev pub set_checked : KeyName → SetOptions → List SetOption → Result SetOptions Fault
set_checked name s os =
    if list_all (is_of name) os && (list_all (may_follow s) os && all_agree os) then Ok (fold with_option s os) else Err Syntax

abbrev pub left_by : KeyName → SetOptions → Option (List SetOption) → Result SetOptions Fault
left_by name s os = given (ok_or os Syntax) (λ os. set_checked name s os)

abbrev pub set_left : KeyName → SetOptions → List (List ℕ) → Result SetOptions Fault
set_left name s words = left_by name s (spelled words)

begun : (name : KeyName) (os : Option (List SetOption)) → left_by name no_options os
    ≡ given (ok_or os Syntax) (λ os. if list_all (is_of name) os && all_agree os then Ok (fold with_option no_options os) else Err Syntax)
begun name None = refl
begun name (Some os) = rw (follow_none os) refl

pub set_begins : (name : KeyName) (words : List (List ℕ)) → set_left name no_options words ≡ set_options name words
set_begins name words = begun name (spelled words)

checked_foreign : (name : KeyName) (s : SetOptions) (o : SetOption) (os : List SetOption) → is_of name o ≡ false
    → set_checked name s (o ∷ os) ≡ Err Syntax
checked_foreign name s o os e = rw e refl

left_out : (b : Bool) (r : Result SetOptions Fault) → (if b && false then r else Err Syntax) ≡ Err Syntax
left_out true r = refl
left_out false r = refl

checked_against : (name : KeyName) (s : SetOptions) (o : SetOption) (os : List SetOption) → may_follow s o ≡ false
    → set_checked name s (o ∷ os) ≡ Err Syntax
checked_against name s o os e = rw e (left_out (list_all (is_of name) (o ∷ os)) (Ok (fold with_option s (o ∷ os))))

regroup : (a f g h : Bool) (r : Result SetOptions Fault)
    → (if a && (f && (g && h)) then r else Err Syntax) ≡ (if a && ((f && g) && h) then r else Err Syntax)
regroup a true g h r = refl
regroup a false g h r = refl

checked_next : (name : KeyName) (s : SetOptions) (o : SetOption) (os : List SetOption) → is_of name o ≡ true → may_follow s o ≡ true
    → set_checked name (with_option s o) os ≡ set_checked name s (o ∷ os)
checked_next name s o os own e =
    rw (all_both s o os e, own, e)
    (sym (regroup (list_all (is_of name) os) (list_all (may_follow s) os) (list_all (agree o) os) (all_agree os) (Ok (fold with_option (with_option s o) os))))

before_foreign : (name : KeyName) (s : SetOptions) (o : SetOption) (rest : Option (List SetOption)) → is_of name o ≡ false
    → left_by name s (before (Some o) rest) ≡ Err Syntax
before_foreign name s o None e = refl
before_foreign name s o (Some os) e = checked_foreign name s o os e

before_against : (name : KeyName) (s : SetOptions) (o : SetOption) (rest : Option (List SetOption)) → may_follow s o ≡ false
    → left_by name s (before (Some o) rest) ≡ Err Syntax
before_against name s o None e = refl
before_against name s o (Some os) e = checked_against name s o os e

before_next : (name : KeyName) (s : SetOptions) (o : SetOption) (rest : Option (List SetOption)) → is_of name o ≡ true → may_follow s o ≡ true
    → left_by name (with_option s o) rest ≡ left_by name s (before (Some o) rest)
before_next name s o None own e = refl
before_next name s o (Some os) own e = checked_next name s o os own e

pub set_unspelled : (name : KeyName) (s : SetOptions) (words : List (List ℕ)) → None ≡ spelled words → set_left name s words ≡ Err Syntax
set_unspelled name s words e = ap (left_by name s) (sym e)

pub set_foreign : (name : KeyName) (s : SetOptions) (o : SetOption) (words left : List (List ℕ))
    → before (Some o) (spelled left) ≡ spelled words → is_of name o ≡ false → set_left name s words ≡ Err Syntax
set_foreign name s o words left e other = ap (left_by name s) (sym e) ∙ before_foreign name s o (spelled left) other

may : (s : SetOptions) (o : SetOption) (b : Bool) (r : Result SetOptions Fault) → may_follow s o ≡ b → r ≡ added s o
    → r ≡ (if b then Ok (with_option s o) else Err Syntax)
may s o b r is e = e ∙ ap (λ c. if c then Ok (with_option s o) else Err Syntax) is

pub set_against : (name : KeyName) (s : SetOptions) (o : SetOption) (f : Fault) (words left : List (List ℕ))
    → before (Some o) (spelled left) ≡ spelled words → Err f ≡ added s o → set_left name s words ≡ Err f
set_against name s o f words left e bad = against (may_follow s o) refl where
  against : (b : Bool) → may_follow s o ≡ b → set_left name s words ≡ Err f
  against true is = absurd (let found = may s o true (Err f) is bad in cc)
  against false is = ap (left_by name s) (sym e) ∙ before_against name s o (spelled left) is ∙ sym (may s o false (Err f) is bad)

pub set_next : (name : KeyName) (s n : SetOptions) (o : SetOption) (words left : List (List ℕ))
    → before (Some o) (spelled left) ≡ spelled words → is_of name o ≡ true → Ok n ≡ added s o
    → set_left name n left ≡ set_left name s words
set_next name s n o words left e own good = next (may_follow s o) refl where
  next : (b : Bool) → may_follow s o ≡ b → set_left name n left ≡ set_left name s words
  next true is =
      let same : n ≡ with_option s o = let found = may s o true (Ok n) is good in cc in
      ap (λ m. left_by name m (spelled left)) same ∙ before_next name s o (spelled left) own is ∙ ap (left_by name s) e
  next false is = absurd (let found = may s o false (Ok n) is good in cc)
