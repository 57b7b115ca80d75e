-- What the options of `mapd` are read as, if clap finds no fault.
use Rattle.std.proofs.Common.{◌≡◌, ◌∙◌, ◌<◌, ◌≤◌, ◌⊎◌, subst, String, string_bytes, ℕ, zero, suc, List, [], ◌∷◌, Bool, true, false, Option, Some, None, refl, sym, ap, not, length, is_some, inl, inr, arith, true≢false}
use Rattle.std.specs.Prelude.{◌^◌, ◌&&◌, ℤ, pos, codes, map, unwrap_or, option_map, option_and_then, slice_get, nat_lt}
use Rattle.std.specs.Borrow.{Bor}
use Rattle.std.specs.List.{All, slice_index_or}
use Rattle.std.specs.Str.{bytes_eq}
use Rattle.std.specs.Str.Parse.{IsNumeral, ParsesUnsigned, digits_value, without_leading_plus}
use Rattle.std.proofs.lemmas.Bool.{ltb-true, ne_eqb}
use Rattle.std.proofs.lemmas.List.Elements.{All-head}
use Rattle.std.proofs.lemmas.Slice.Eq.{bytes_eq-Decides}
use Rattle.clap.specs.Built.{IsAuto, IsParsedFrom, IsPlain, IsPlainArg}
use Rattle.clap.specs.Facts.{Entry, EntryPasses, HasReading, PassesArg, args_of, groups_of, least_values, parser_of_value, unwrap_or_range}
use Rattle.clap.specs.Lexer.{without_minus}
use Rattle.clap.specs.Matches.{ReadsOne, found_of, first_value, matched_of, one_text}
use Rattle.clap.specs.Simple.{App, HasMatchesOf, app_of, is_simple, matches_of}
use Rattle.clap.specs.ValueTests.{is_numeral}
use Rattle.clap.specs.Values.{Accepts, IsSignedIn, NarrowsTo, read_as, reading_of, signed_between}
use Rattle.std.specs.Int.{int_max, int_min}
use Rattle.clap.specs.Walk.{Rule, is_empty, is_free_arg, is_simple_arg, rows_of, rule_of}
use Rattle.clap.specs.Words.{HasKind, IsAmong, Kinds, Row, fault_of, first_of, kind_of, is_simple_and_free}
use Rattle.clap.specs.declared.error.ErrorKind.{ErrorKind}
use Rattle.clap.specs.declared.error.ErrorKind.TheVariants.{OutOfMemory}
use Rattle.clap.specs.declared.ArgMatches.{ArgMatches}
use Rattle.clap.specs.declared.Error.{Error}
use Rattle.clap.specs.declared.builder.Arg.{Arg}
use Rattle.clap.specs.declared.builder.Command.{Command}
use Rattle.clap.specs.declared.builder.Command.TheViews.{out-Command}
use Rattle.clap.specs.declared.builder.value_parser.Reading.{Reading}
use Rattle.clap.specs.declared.builder.value_parser.Reading.TheVariants.{WithoutMinus}
use Rattle.clap.specs.declared.builder.ValueParser.{ValueParser}
use Rattle.clap.specs.declared.builder.ValueParser.TheVariants.{Signed}
use Rattle.clap.specs.declared.parser.matches.MatchedArg.{MatchedArg}
use Rattle.clap.proofs.CallerLemmas.{entry_by_id, required_has_value, same_rules_by_id}
use Rattle.clap.proofs.CallerReads.{signed_reads}
use Rattle.clap.proofs.OnLiterals.{clap_on_literals}
use Rattle.clap.proofs.WalkLemmas.{one_text-rows}
use Rattle.map_commands.specs.CommandLine.{given_size, spelled_size}
use Rattle.map_server.specs.ServerWords.{mapd, mapd_options, gives_redis, reader_of, AsksFor, AsksServer, IsInRange}
use Rattle.map_server.specs.declared.words.MapdWords.{MapdWords}
use Rattle.map_commands.proofs.WordLemmas.{both, cases_is, digits_are, size_in-parsed}

-- ---- a parse of `mapd`

is_free : (wanted : Bool) → is_simple_and_free (mapd wanted) ≡ true
unfolding clap_on_literals
is_free true = refl
is_free false = refl

is_plain : (wanted : Bool) → is_simple (mapd wanted) ≡ true
unfolding clap_on_literals
is_plain true = refl
is_plain false = refl

module _ (wanted : Bool) (app : App) (is : app ≡ mapd wanted) (words : List (List ℕ)) where
  -- the kinds of its error
  pub server_parse_fails : (e : Error) → (is_simple_and_free app ≡ true → HasKind (fault_of app words) e) → HasKind (fault_of (mapd wanted) words) e
  server_parse_fails e kinds = subst (λ (a : App). HasKind (fault_of a words) e) is (kinds (ap is_simple_and_free is ∙ is_free wanted))

  -- if it succeeds there is no fault
  pub server_parse_succeeds : (is_simple_and_free app ≡ true → fault_of app words ≡ []) → fault_of (mapd wanted) words ≡ []
  server_parse_succeeds kinds = ap (λ (a : App). fault_of a words) (sym is) ∙ kinds (ap is_simple_and_free is ∙ is_free wanted)

  -- and the rows are those of the words
  pub server_rows : (m : ArgMatches) → HasMatchesOf app words m → rows_of (found_of m) ≡ matches_of (mapd wanted) words
  server_rows m matches = (matches (ap is_simple is ∙ is_plain wanted)).0 ∙ ap (λ (a : App). matches_of a words) is

-- ---- the command line that reads the words

module _ (wanted : Bool) (words : List (List ℕ)) where
  pub fails_by : (e : Error) → not (gives_redis words) ≡ wanted → HasKind (fault_of (mapd wanted) words) e → HasKind (fault_of (reader_of words) words) e
  fails_by e is fails = subst (λ (b : Bool). HasKind (fault_of (mapd b) words) e) (sym is) fails

  pub asks_by : (rows : List Row) (asked : MapdWords) → not (gives_redis words) ≡ wanted → fault_of (mapd wanted) words ≡ [] → rows ≡ matches_of (mapd wanted) words
      → AsksFor rows asked → AsksServer words asked
  asks_by rows asked is none rows_are asks =
      subst (λ (b : Bool). (fault_of (mapd b) words ≡ []) × AsksFor (matches_of (mapd b) words) asked) (sym is) (none, subst (λ (rows : List Row). AsksFor rows asked) rows_are asks)

pub mapped : {T U : Type 0} (f : T → U) (o : Option T) → is_some (option_map f o) ≡ is_some o
mapped f None = refl
mapped f (Some x) = refl

-- a text that is given is there
pub address_given : {A : Type 0} (given : Option (String A)) {text : Option (List ℕ)} → option_map string_bytes given ≡ text → is_some text ≡ true → is_some given ≡ true
address_given None e some = ap is_some e ∙ some
address_given (Some s) e some = refl

-- without a fault, words that the command line reads give --redis exactly if it finds its text
pub redis_given : (words : List (List ℕ)) (rows : List Row) (text : Option (List ℕ)) → fault_of (mapd false) words ≡ [] → rows ≡ matches_of (mapd false) words
    → text ≡ first_of (codes "redis") rows → gives_redis words ≡ is_some text
redis_given words rows text none rows_are is =
    ap (λ (kinds : Kinds). is_empty kinds && is_some (first_of (codes "redis") (matches_of (mapd false) words))) none
    ∙ ap (λ (rows : List Row). is_some (first_of (codes "redis") rows)) (sym rows_are)
    ∙ ap is_some (sym is)

some_kind : (kinds : Kinds) (kind : ErrorKind) → IsAmong kind kinds → is_empty kinds ≡ false
some_kind [] kind among = absurd among
some_kind (k ∷ ks) kind among = ne_eqb (length (k ∷ ks)) 0 (λ z. omega (arith, z))

-- and words with a fault don't, if it is no want of memory
pub redis_not_given : (words : List (List ℕ)) (e : Error) → HasKind (fault_of (mapd false) words) e → (kind_of e ≡ OutOfMemory → ⊥) → gives_redis words ≡ false
redis_not_given words e fails other = elim fails [
  | inl memory ↦ absurd (other memory)
  | inr among ↦ ap (λ (b : Bool). b && is_some (first_of (codes "redis") (matches_of (mapd false) words))) (some_kind _ _ among)
]

-- ---- the options

not_so : (b : Bool) → not b ≡ true → b ≡ false
not_so true e = sym e
not_so false e = refl

is_none : {X : Type 0} (o : Option X) → not (is_some o) ≡ true → o ≡ None
is_none None e = refl
is_none (Some x) e = absurd (true≢false (sym e))

is_nil : {X : Type 0} (xs : List X) → is_empty xs ≡ true → xs ≡ []
is_nil [] e = refl
is_nil (x ∷ xs) e = absurd (true≢false (sym e ∙ ne_eqb (length (x ∷ xs)) 0 (λ z. omega (arith, z))))

rule_at : (xs : List Arg) (k : ℕ) (d : Arg) → rule_of (slice_index_or xs k d) ≡ slice_index_or (map rule_of xs) k (rule_of d)
rule_at [] k d = refl
rule_at (x ∷ xs) zero d = refl
rule_at (x ∷ xs) (suc k) d = rule_at xs k d

map_length : (xs : List Arg) → length (map rule_of xs) ≡ length xs
map_length [] = refl
map_length (x ∷ xs) = ap suc (map_length xs)

module _ (wanted : Bool) where
  abbrev option_at : ℕ → Rule → Rule
  option_at k other = slice_index_or (mapd_options wanted) k other

  plain_rule : (k : ℕ) (r : Rule) → k < 16 → ((option_at k r).is_simple ≡ true) × ((option_at k r).is_free ≡ true)
  plain_rule zero r lt = (refl, refl)
  plain_rule (suc zero) r lt = (refl, refl)
  plain_rule (suc (suc zero)) r lt = (refl, refl)
  plain_rule (suc (suc (suc zero))) r lt = (refl, refl)
  plain_rule (suc (suc (suc (suc zero)))) r lt = (refl, refl)
  plain_rule (suc (suc (suc (suc (suc zero))))) r lt = (refl, refl)
  plain_rule (suc (suc (suc (suc (suc (suc zero)))))) r lt = (refl, refl)
  plain_rule (suc (suc (suc (suc (suc (suc (suc zero))))))) r lt = (refl, refl)
  plain_rule (suc (suc (suc (suc (suc (suc (suc (suc zero)))))))) r lt = (refl, refl)
  plain_rule (suc (suc (suc (suc (suc (suc (suc (suc (suc zero))))))))) r lt = (refl, refl)
  plain_rule (suc (suc (suc (suc (suc (suc (suc (suc (suc (suc zero)))))))))) r lt = (refl, refl)
  plain_rule (suc (suc (suc (suc (suc (suc (suc (suc (suc (suc (suc zero))))))))))) r lt = (refl, refl)
  plain_rule (suc (suc (suc (suc (suc (suc (suc (suc (suc (suc (suc (suc zero)))))))))))) r lt = (refl, refl)
  plain_rule (suc (suc (suc (suc (suc (suc (suc (suc (suc (suc (suc (suc (suc zero))))))))))))) r lt = (refl, refl)
  plain_rule (suc (suc (suc (suc (suc (suc (suc (suc (suc (suc (suc (suc (suc (suc zero)))))))))))))) r lt = (refl, refl)
  plain_rule (suc (suc (suc (suc (suc (suc (suc (suc (suc (suc (suc (suc (suc (suc (suc zero))))))))))))))) r lt = (refl, refl)
  plain_rule (suc (suc (suc (suc (suc (suc (suc (suc (suc (suc (suc (suc (suc (suc (suc (suc k)))))))))))))))) r lt = absurd (omega arith)

  abbrev IsOnly : ℕ → Type 0
  IsOnly k = (j : ℕ) (r s : Rule) → j < 16 → bytes_eq (option_at j r).id (option_at k s).id ≡ true → j ≡ k

  only_listen : IsOnly 0
  only_listen zero r s lt same = refl
  only_listen (suc zero) r s lt same = absurd (true≢false (sym same))
  only_listen (suc (suc zero)) r s lt same = absurd (true≢false (sym same))
  only_listen (suc (suc (suc zero))) r s lt same = absurd (true≢false (sym same))
  only_listen (suc (suc (suc (suc zero)))) r s lt same = absurd (true≢false (sym same))
  only_listen (suc (suc (suc (suc (suc zero))))) r s lt same = absurd (true≢false (sym same))
  only_listen (suc (suc (suc (suc (suc (suc zero)))))) r s lt same = absurd (true≢false (sym same))
  only_listen (suc (suc (suc (suc (suc (suc (suc zero))))))) r s lt same = absurd (true≢false (sym same))
  only_listen (suc (suc (suc (suc (suc (suc (suc (suc zero)))))))) r s lt same = absurd (true≢false (sym same))
  only_listen (suc (suc (suc (suc (suc (suc (suc (suc (suc zero))))))))) r s lt same = absurd (true≢false (sym same))
  only_listen (suc (suc (suc (suc (suc (suc (suc (suc (suc (suc zero)))))))))) r s lt same = absurd (true≢false (sym same))
  only_listen (suc (suc (suc (suc (suc (suc (suc (suc (suc (suc (suc zero))))))))))) r s lt same = absurd (true≢false (sym same))
  only_listen (suc (suc (suc (suc (suc (suc (suc (suc (suc (suc (suc (suc zero)))))))))))) r s lt same = absurd (true≢false (sym same))
  only_listen (suc (suc (suc (suc (suc (suc (suc (suc (suc (suc (suc (suc (suc zero))))))))))))) r s lt same = absurd (true≢false (sym same))
  only_listen (suc (suc (suc (suc (suc (suc (suc (suc (suc (suc (suc (suc (suc (suc zero)))))))))))))) r s lt same = absurd (true≢false (sym same))
  only_listen (suc (suc (suc (suc (suc (suc (suc (suc (suc (suc (suc (suc (suc (suc (suc zero))))))))))))))) r s lt same = absurd (true≢false (sym same))
  only_listen (suc (suc (suc (suc (suc (suc (suc (suc (suc (suc (suc (suc (suc (suc (suc (suc j)))))))))))))))) r s lt same = absurd (omega arith)

  only_workers : IsOnly 3
  only_workers zero r s lt same = absurd (true≢false (sym same))
  only_workers (suc zero) r s lt same = absurd (true≢false (sym same))
  only_workers (suc (suc zero)) r s lt same = absurd (true≢false (sym same))
  only_workers (suc (suc (suc zero))) r s lt same = refl
  only_workers (suc (suc (suc (suc zero)))) r s lt same = absurd (true≢false (sym same))
  only_workers (suc (suc (suc (suc (suc zero))))) r s lt same = absurd (true≢false (sym same))
  only_workers (suc (suc (suc (suc (suc (suc zero)))))) r s lt same = absurd (true≢false (sym same))
  only_workers (suc (suc (suc (suc (suc (suc (suc zero))))))) r s lt same = absurd (true≢false (sym same))
  only_workers (suc (suc (suc (suc (suc (suc (suc (suc zero)))))))) r s lt same = absurd (true≢false (sym same))
  only_workers (suc (suc (suc (suc (suc (suc (suc (suc (suc zero))))))))) r s lt same = absurd (true≢false (sym same))
  only_workers (suc (suc (suc (suc (suc (suc (suc (suc (suc (suc zero)))))))))) r s lt same = absurd (true≢false (sym same))
  only_workers (suc (suc (suc (suc (suc (suc (suc (suc (suc (suc (suc zero))))))))))) r s lt same = absurd (true≢false (sym same))
  only_workers (suc (suc (suc (suc (suc (suc (suc (suc (suc (suc (suc (suc zero)))))))))))) r s lt same = absurd (true≢false (sym same))
  only_workers (suc (suc (suc (suc (suc (suc (suc (suc (suc (suc (suc (suc (suc zero))))))))))))) r s lt same = absurd (true≢false (sym same))
  only_workers (suc (suc (suc (suc (suc (suc (suc (suc (suc (suc (suc (suc (suc (suc zero)))))))))))))) r s lt same = absurd (true≢false (sym same))
  only_workers (suc (suc (suc (suc (suc (suc (suc (suc (suc (suc (suc (suc (suc (suc (suc zero))))))))))))))) r s lt same = absurd (true≢false (sym same))
  only_workers (suc (suc (suc (suc (suc (suc (suc (suc (suc (suc (suc (suc (suc (suc (suc (suc j)))))))))))))))) r s lt same = absurd (omega arith)

  only_team : IsOnly 4
  only_team zero r s lt same = absurd (true≢false (sym same))
  only_team (suc zero) r s lt same = absurd (true≢false (sym same))
  only_team (suc (suc zero)) r s lt same = absurd (true≢false (sym same))
  only_team (suc (suc (suc zero))) r s lt same = absurd (true≢false (sym same))
  only_team (suc (suc (suc (suc zero)))) r s lt same = refl
  only_team (suc (suc (suc (suc (suc zero))))) r s lt same = absurd (true≢false (sym same))
  only_team (suc (suc (suc (suc (suc (suc zero)))))) r s lt same = absurd (true≢false (sym same))
  only_team (suc (suc (suc (suc (suc (suc (suc zero))))))) r s lt same = absurd (true≢false (sym same))
  only_team (suc (suc (suc (suc (suc (suc (suc (suc zero)))))))) r s lt same = absurd (true≢false (sym same))
  only_team (suc (suc (suc (suc (suc (suc (suc (suc (suc zero))))))))) r s lt same = absurd (true≢false (sym same))
  only_team (suc (suc (suc (suc (suc (suc (suc (suc (suc (suc zero)))))))))) r s lt same = absurd (true≢false (sym same))
  only_team (suc (suc (suc (suc (suc (suc (suc (suc (suc (suc (suc zero))))))))))) r s lt same = absurd (true≢false (sym same))
  only_team (suc (suc (suc (suc (suc (suc (suc (suc (suc (suc (suc (suc zero)))))))))))) r s lt same = absurd (true≢false (sym same))
  only_team (suc (suc (suc (suc (suc (suc (suc (suc (suc (suc (suc (suc (suc zero))))))))))))) r s lt same = absurd (true≢false (sym same))
  only_team (suc (suc (suc (suc (suc (suc (suc (suc (suc (suc (suc (suc (suc (suc zero)))))))))))))) r s lt same = absurd (true≢false (sym same))
  only_team (suc (suc (suc (suc (suc (suc (suc (suc (suc (suc (suc (suc (suc (suc (suc zero))))))))))))))) r s lt same = absurd (true≢false (sym same))
  only_team (suc (suc (suc (suc (suc (suc (suc (suc (suc (suc (suc (suc (suc (suc (suc (suc j)))))))))))))))) r s lt same = absurd (omega arith)

  only_clients : IsOnly 6
  only_clients zero r s lt same = absurd (true≢false (sym same))
  only_clients (suc zero) r s lt same = absurd (true≢false (sym same))
  only_clients (suc (suc zero)) r s lt same = absurd (true≢false (sym same))
  only_clients (suc (suc (suc zero))) r s lt same = absurd (true≢false (sym same))
  only_clients (suc (suc (suc (suc zero)))) r s lt same = absurd (true≢false (sym same))
  only_clients (suc (suc (suc (suc (suc zero))))) r s lt same = absurd (true≢false (sym same))
  only_clients (suc (suc (suc (suc (suc (suc zero)))))) r s lt same = refl
  only_clients (suc (suc (suc (suc (suc (suc (suc zero))))))) r s lt same = absurd (true≢false (sym same))
  only_clients (suc (suc (suc (suc (suc (suc (suc (suc zero)))))))) r s lt same = absurd (true≢false (sym same))
  only_clients (suc (suc (suc (suc (suc (suc (suc (suc (suc zero))))))))) r s lt same = absurd (true≢false (sym same))
  only_clients (suc (suc (suc (suc (suc (suc (suc (suc (suc (suc zero)))))))))) r s lt same = absurd (true≢false (sym same))
  only_clients (suc (suc (suc (suc (suc (suc (suc (suc (suc (suc (suc zero))))))))))) r s lt same = absurd (true≢false (sym same))
  only_clients (suc (suc (suc (suc (suc (suc (suc (suc (suc (suc (suc (suc zero)))))))))))) r s lt same = absurd (true≢false (sym same))
  only_clients (suc (suc (suc (suc (suc (suc (suc (suc (suc (suc (suc (suc (suc zero))))))))))))) r s lt same = absurd (true≢false (sym same))
  only_clients (suc (suc (suc (suc (suc (suc (suc (suc (suc (suc (suc (suc (suc (suc zero)))))))))))))) r s lt same = absurd (true≢false (sym same))
  only_clients (suc (suc (suc (suc (suc (suc (suc (suc (suc (suc (suc (suc (suc (suc (suc zero))))))))))))))) r s lt same = absurd (true≢false (sym same))
  only_clients (suc (suc (suc (suc (suc (suc (suc (suc (suc (suc (suc (suc (suc (suc (suc (suc j)))))))))))))))) r s lt same = absurd (omega arith)

  only_keep_seconds : IsOnly 10
  only_keep_seconds zero r s lt same = absurd (true≢false (sym same))
  only_keep_seconds (suc zero) r s lt same = absurd (true≢false (sym same))
  only_keep_seconds (suc (suc zero)) r s lt same = absurd (true≢false (sym same))
  only_keep_seconds (suc (suc (suc zero))) r s lt same = absurd (true≢false (sym same))
  only_keep_seconds (suc (suc (suc (suc zero)))) r s lt same = absurd (true≢false (sym same))
  only_keep_seconds (suc (suc (suc (suc (suc zero))))) r s lt same = absurd (true≢false (sym same))
  only_keep_seconds (suc (suc (suc (suc (suc (suc zero)))))) r s lt same = absurd (true≢false (sym same))
  only_keep_seconds (suc (suc (suc (suc (suc (suc (suc zero))))))) r s lt same = absurd (true≢false (sym same))
  only_keep_seconds (suc (suc (suc (suc (suc (suc (suc (suc zero)))))))) r s lt same = absurd (true≢false (sym same))
  only_keep_seconds (suc (suc (suc (suc (suc (suc (suc (suc (suc zero))))))))) r s lt same = absurd (true≢false (sym same))
  only_keep_seconds (suc (suc (suc (suc (suc (suc (suc (suc (suc (suc zero)))))))))) r s lt same = refl
  only_keep_seconds (suc (suc (suc (suc (suc (suc (suc (suc (suc (suc (suc zero))))))))))) r s lt same = absurd (true≢false (sym same))
  only_keep_seconds (suc (suc (suc (suc (suc (suc (suc (suc (suc (suc (suc (suc zero)))))))))))) r s lt same = absurd (true≢false (sym same))
  only_keep_seconds (suc (suc (suc (suc (suc (suc (suc (suc (suc (suc (suc (suc (suc zero))))))))))))) r s lt same = absurd (true≢false (sym same))
  only_keep_seconds (suc (suc (suc (suc (suc (suc (suc (suc (suc (suc (suc (suc (suc (suc zero)))))))))))))) r s lt same = absurd (true≢false (sym same))
  only_keep_seconds (suc (suc (suc (suc (suc (suc (suc (suc (suc (suc (suc (suc (suc (suc (suc zero))))))))))))))) r s lt same = absurd (true≢false (sym same))
  only_keep_seconds (suc (suc (suc (suc (suc (suc (suc (suc (suc (suc (suc (suc (suc (suc (suc (suc j)))))))))))))))) r s lt same = absurd (omega arith)

plain_arg : (a : Arg) → is_simple_arg a ≡ true → is_free_arg a ≡ true → IsPlainArg a
plain_arg a simple free =
    let (overrides, simple-1) = both _ _ simple in
    let (ifs, simple-2) = both _ _ simple-1 in
    let (groups, simple-3) = both _ _ simple-2 in
    let (exclusive, free-1) = both _ _ free in
    let (conflicts, free-2) = both _ _ free-1 in
    (not_so _ exclusive, is_nil _ conflicts, is_nil _ overrides, is_nil _ groups)

no_delimiter : (a : Arg) → is_simple_arg a ≡ true → a.val_delim ≡ None
no_delimiter a simple =
    let simple-1 = (both (is_empty a.overrides.items) _ simple).1 in
    let simple-2 = (both (is_empty a.default_vals_ifs.items) _ simple-1).1 in
    let simple-3 = (both (is_empty a.groups.items) _ simple-2).1 in
    is_none a.val_delim (both (not (is_some a.val_delim)) _ simple-3).0

differ : (a b : List ℕ) → bytes_eq a b ≡ false → a ≡ b → ⊥
differ a b other e = true≢false (sym ((bytes_eq-Decides a b).1 e) ∙ other)

some_arg : (xs : List Arg) → 0 < length xs → Arg
some_arg [] lt = absurd (omega arith)
some_arg (x ∷ xs) lt = x

-- ---- numbers in a range

-- the range of an option's parser
pub narrowed : (parser result : ValueParser) (start end : ℤ) (most : ℕ) → parser ≡ Signed (pos 0) (pos 65535) → start ≡ pos 1 → end ≡ pos most
    → signed_between (int_max (pos 0) (pos 1)) (int_min (pos 65535) (pos most)) ≡ Signed (pos 1) (pos most)
    → NarrowsTo parser (Some start) (Some end) result → result ≡ Signed (pos 1) (pos most)
narrowed parser result start end most p s e computed narrows = (rw (p, s, e) at narrows) ∙ computed

-- a number that `clap` takes for a range is spelled as one of it, without the hyphen that it allows before a zero
spelled_cases : (text : List ℕ) → ReadsOne (λ t r. ParsesUnsigned {E = Unit {0}} 16 10 t r) text (spelled_size text)
spelled_cases text =
    let digits = without_leading_plus text in
    elim (cases_is (is_numeral digits && nat_lt (digits_value 10 digits) (2 ^ 16))) [
      | inl e ↦
          let parts = both _ _ e in
          let some = both _ _ parts.0 in
          rw e (((ltb-true _ _ some.0, digits_are _ some.1), ltb-true _ _ parts.1), refl)
      | inr e ↦ rw e (tt, λ h. true≢false (sym (size_some text h) ∙ ap is_some (unspelled text e)))
    ]
  where
    unspelled : (text : List ℕ) → (is_numeral (without_leading_plus text) && nat_lt (digits_value 10 (without_leading_plus text)) (2 ^ 16)) ≡ false → spelled_size text ≡ None
    unspelled text e = rw e refl

    size_some : (text : List ℕ) → IsNumeral 10 (without_leading_plus text) × (digits_value 10 (without_leading_plus text) < 2 ^ 16) → is_some (spelled_size text) ≡ true
    size_some text h = ap is_some (size_in-parsed text h.0 h.1)

spelled_in : (most : ℕ) (text : List ℕ) → most < 2 ^ 16 → IsSignedIn (pos 1) (pos most) text
    → (n : ℕ) × (spelled_size (without_minus text) ≡ Some n) × (1 ≤ n) × (n ≤ most)
spelled_in most text fits passed = signed_reads (Unit {0}) (λ t r. ParsesUnsigned 16 10 t r) 16 1 most text _ (spelled_cases (without_minus text)) (λ u x g. g) fits passed

-- ---- the entry of an option

module _ (b : Command) (id : List ℕ) (e : Entry) (no_groups : groups_of b ≡ []) (some : id ≡ [] → ⊥) (named : e.0.now ≡ id) where
  -- it is no group's
  no_group : EntryPasses b e → e.1.is_group ≡ true → ⊥
  no_group pass g = elim (pass.3 g) [
    | inl empty ↦ some (sym named ∙ empty)
    | inr lots ↦
        let bad : 0 < 0 = rw no_groups at lots in
        absurd (omega arith)
  ]

  entry_values : EntryPasses b e → All (λ v. PassesArg b id v.now) e.1.vals.items
  entry_values pass = elim pass.0 [
    | inl g ↦ absurd (no_group pass g)
    | inr vals ↦ subst (λ (t : List ℕ). All (λ v. PassesArg b t v.now) e.1.vals.items) named vals
  ]

  entry_reading : EntryPasses b e → ((r : Reading) → HasReading b id r → r ≡ WithoutMinus) → e.1.reading ≡ WithoutMinus
  entry_reading pass reads = elim pass.4 [
    | inl g ↦ absurd (no_group pass g)
    | inr h ↦ reads e.1.reading (subst (λ (t : List ℕ). HasReading b t e.1.reading) named h)
  ]

abbrev HasSize : ℕ → ℕ → Option (List ℕ) → Type 0
HasSize most default text = (1 ≤ unwrap_or (option_and_then spelled_size text) default) × (unwrap_or (option_and_then spelled_size text) default ≤ most)

size_of_text : (most default : ℕ) (text : List ℕ) → most < 2 ^ 16 → IsSignedIn (pos 1) (pos most) text → HasSize most default (Some (without_minus text))
size_of_text most default text fits passed =
    let (n, is, low, high) = spelled_in most text fits passed in
    (rw is low, rw is high)

module _ (wanted : Bool) (c : Command) (is : app_of c ≡ mapd wanted) where
  rules_are : map rule_of (args_of c) ≡ mapd_options wanted
  rules_are = ap (λ (a : App). a.top.rules) is

  sixteen : length (args_of c) ≡ 16
  sixteen = sym (map_length (args_of c)) ∙ ap length rules_are

  rule_is : (k : ℕ) (d : Arg) → rule_of (slice_index_or (args_of c) k d) ≡ option_at wanted k (rule_of d)
  rule_is k d = rule_at (args_of c) k d ∙ ap (λ (rs : List Rule). slice_index_or rs k (rule_of d)) rules_are

  simple_is : (k : ℕ) (d : Arg) → k < length (args_of c) → is_simple_arg (slice_index_or (args_of c) k d) ≡ true
  simple_is k d lt = ap (λ (r : Rule). r.is_simple) (rule_is k d) ∙ (plain_rule wanted k (rule_of d) (subst (λ (n : ℕ). k < n) sixteen lt)).0

  args_plain : All IsPlainArg (args_of c)
  args_plain = λ k d lt. plain_arg (slice_index_or (args_of c) k d) (simple_is k d lt) (ap (λ (r : Rule). r.is_free) (rule_is k d) ∙ (plain_rule wanted k (rule_of d) (subst (λ (n : ℕ). k < n) sixteen lt)).1)

  command_plain : IsPlain c
  command_plain = (args_plain, is_nil _ (both _ _ (ap (λ (a : App). a.top.is_plain) is)).0)

  no_globals : (out-Command c).has_globals ≡ false
  no_globals =
      let (groups, rest) = both _ _ (ap (λ (a : App). a.top.is_plain) is) in
      let (external, rest-1) = both _ _ rest in
      not_so _ (both _ _ rest-1).0

  unique : (k : ℕ) (d : Arg) → IsOnly wanted k → (j : ℕ) (e : Arg) → j < length (args_of c)
      → bytes_eq (slice_index_or (args_of c) j e).id.now (slice_index_or (args_of c) k d).id.now ≡ true → j ≡ k
  unique k d only j e lt same =
      let first = ap (λ (r : Rule). r.id) (rule_is j e) in
      let second = ap (λ (r : Rule). r.id) (rule_is k d) in
      only j (rule_of e) (rule_of d) (subst (λ (n : ℕ). j < n) sixteen lt) (subst (λ (t : List ℕ). bytes_eq (option_at wanted j (rule_of e)).id t ≡ true) second (subst (λ (t : List ℕ). bytes_eq t (slice_index_or (args_of c) k d).id.now ≡ true) first same))

  -- the address is there, if it is wanted
  pub listen_given : wanted ≡ true → (m : ArgMatches) → IsParsedFrom c m → is_some (first_value (found_of m) (codes "listen")) ≡ true
  listen_given so m p =
      let lt : 0 < length (args_of c) = rw sixteen (omega arith) in
      let d = some_arg (args_of c) lt in
      let a = slice_index_or (args_of c) 0 d in
      let r = rule_is 0 d in
      let id : a.id.now ≡ codes "listen" = ap (λ (r : Rule). r.id) r in
      let least : 1 ≤ least_values a = subst (λ v. 1 ≤ (unwrap_or_range v).start_inclusive) (sym (ap (λ (r : Rule). r.range) r)) (omega arith) in
      let head : (t : List ℕ) → a.id.now ≡ t → slice_index_or t 0 0 ≡ 108 = λ t e. ap (λ (u : List ℕ). slice_index_or u 0 0) (sym e ∙ id) in
      let has = required_has_value c m p command_plain no_globals (ap (λ (a : App). a.top.subcommand_negates_reqs) is) 0 d lt
      (ap (λ (r : Rule). r.required) r ∙ so) (ap (λ (r : Rule). r.action) r) (no_delimiter a (simple_is 0 d lt)) least (unique 0 d (only_listen wanted))
      (λ e. let bad : 0 ≡ 108 = head [] e in absurd (omega arith))
      (λ auto. elim auto [
        | inl h ↦ let bad : 104 ≡ 108 = head _ h in absurd (omega arith)
        | inr h ↦ let bad : 118 ≡ 108 = head _ h in absurd (omega arith)
      ]) in
      subst (λ (t : List ℕ). is_some (first_value (found_of m) t) ≡ true) id has

  module _ (m : ArgMatches) (p : IsParsedFrom c m) (k : ℕ) (only : IsOnly wanted k) (most : ℕ) (id : List ℕ) where
    abbrev arg : Arg → Arg
    arg d = slice_index_or (args_of c) k d

    -- a value of the option lies in the range
    value_in : (d : Arg) → k < length (args_of c) → (arg d).value_parser ≡ Some (Signed (pos 1) (pos most)) → (IsAuto (arg d) → ⊥) → (arg d).id.now ≡ id
        → (v : List ℕ) → PassesArg p.built id v → IsSignedIn (pos 1) (pos most) v
    value_in d lt parser own named v pass =
        let s = same_rules_by_id c m p k d lt (unique k d only) own pass.0 pass.1 pass.2 pass.3 (subst (λ (t : List ℕ). bytes_eq pass.1.id.now t ≡ true) (sym named) pass.4.0) in
        subst (λ (q : ValueParser). Accepts pass.1.ignore_case q v) (ap parser_of_value (s.parser _ parser)) pass.4.1

    -- and is read without a first hyphen
    reading_is : (d : Arg) → k < length (args_of c) → (arg d).value_parser ≡ Some (Signed (pos 1) (pos most)) → (IsAuto (arg d) → ⊥) → (arg d).id.now ≡ id
        → (r : Reading) → HasReading p.built id r → r ≡ WithoutMinus
    reading_is d lt parser own named r any =
        let s = same_rules_by_id c m p k d lt (unique k d only) own any.0 any.1 any.2 any.3 (subst (λ (t : List ℕ). bytes_eq any.1.id.now t ≡ true) (sym named) any.4.0) in
        sym any.4.1 ∙ ap (λ (o : Option ValueParser). reading_of (parser_of_value o)) (s.parser _ parser)

    abbrev HasSizeIn : ℕ → Option MatchedArg → Type 0
    HasSizeIn default found = HasSize most default (option_and_then (λ a. option_map (λ s. read_as a.reading s.now) (slice_get a.vals.items 0)) found)

    first_in : (default : ℕ) → 1 ≤ default → default ≤ most → most < 2 ^ 16 → (how : Reading) → how ≡ WithoutMinus → (vs : List (Bor (List ℕ)))
        → All (λ v. IsSignedIn (pos 1) (pos most) v.now) vs → HasSize most default (option_map (λ s. read_as how s.now) (slice_get vs 0))
    first_in default low high fits how is [] all = (low, high)
    first_in default low high fits how is (v ∷ vs) all = rw is (size_of_text most default v.now fits (All-head (λ v. IsSignedIn (pos 1) (pos most) v.now) v vs all))

    entry_in : (default : ℕ) → 1 ≤ default → default ≤ most → most < 2 ^ 16 → (id ≡ [] → ⊥)
        → ((v : List ℕ) → PassesArg p.built id v → IsSignedIn (pos 1) (pos most) v) → ((r : Reading) → HasReading p.built id r → r ≡ WithoutMinus)
        → (found : Option MatchedArg) → matched_of (found_of m) id ≡ found → HasSizeIn default found
    entry_in default low high fits some values reads None at = (low, high)
    entry_in default low high fits some values reads (Some x) at =
        let parsed = p.parsed (p.from.globals ∙ no_globals) in
        step (entry_by_id (EntryPasses p.built) (found_of m).entries.items id x parsed.values at)
      where
        step : ((e : Entry) × (e.1 ≡ x) × (bytes_eq e.0.now id ≡ true) × EntryPasses p.built e) → HasSizeIn default (Some x)
        step got =
            let no_groups = (p.from.plain command_plain).1 in
            let named = (bytes_eq-Decides got.0.0.now id).0 got.2 in
            let all = entry_values p.built id got.0 no_groups some named got.3 in
            let how = entry_reading p.built id got.0 no_groups some named got.3 reads in
            first_in default low high fits x.reading (ap (λ (a : MatchedArg). a.reading) (sym got.1) ∙ how) x.vals.items
            (subst (λ (a : MatchedArg). All (λ v. IsSignedIn (pos 1) (pos most) v.now) a.vals.items) got.1 (λ i d lt. values _ (all i d lt)))

    -- what the option is read as, or its default, lies in the range
    range_given : (default : ℕ) → 1 ≤ default → default ≤ most → most < 2 ^ 16 → k < 16 → ((r : Rule) → (option_at wanted k r).parser ≡ Some (Signed (pos 1) (pos most)))
        → ((r : Rule) → (option_at wanted k r).id ≡ id) → (id ≡ [] → ⊥) → (id ≡ codes "help" → ⊥) → (id ≡ codes "version" → ⊥)
        → (1 ≤ given_size (rows_of (found_of m)) id default) × (given_size (rows_of (found_of m)) id default ≤ most)
    range_given default low high fits inside parser named some help version =
        let lt : k < length (args_of c) = rw sixteen inside in
        let d = some_arg (args_of c) (omega arith) in
        let is_named : (arg d).id.now ≡ id = ap (λ (r : Rule). r.id) (rule_is k d) ∙ named (rule_of d) in
        let is_parsed : (arg d).value_parser ≡ Some (Signed (pos 1) (pos most)) = ap (λ (r : Rule). r.parser) (rule_is k d) ∙ parser (rule_of d) in
        let own : IsAuto (arg d) → ⊥ = λ auto. elim auto [ inl h ↦ help (sym is_named ∙ h) | inr h ↦ version (sym is_named ∙ h) ] in
        let text : HasSize most default (one_text (found_of m) id) = entry_in default low high fits some (value_in d lt is_parsed own is_named) (reading_is d lt is_parsed own is_named) _ refl in
        subst (HasSize most default) (one_text-rows (found_of m) id) text

  module _ (m : ArgMatches) (p : IsParsedFrom c m) where
    workers_given : (1 ≤ given_size (rows_of (found_of m)) (codes "workers") 4) × (given_size (rows_of (found_of m)) (codes "workers") 4 ≤ 32)
    workers_given = range_given m p 3 (only_workers wanted) 32 (codes "workers") 4 (omega arith) (omega arith) (omega arith) (omega arith) (λ r. refl) (λ r. refl) (differ _ _ refl) (differ _ _ refl) (differ _ _ refl)

    team_given : (1 ≤ given_size (rows_of (found_of m)) (codes "team") 1) × (given_size (rows_of (found_of m)) (codes "team") 1 ≤ 8)
    team_given = range_given m p 4 (only_team wanted) 8 (codes "team") 1 (omega arith) (omega arith) (omega arith) (omega arith) (λ r. refl) (λ r. refl) (differ _ _ refl) (differ _ _ refl) (differ _ _ refl)

    clients_given : (1 ≤ given_size (rows_of (found_of m)) (codes "clients") 1000) × (given_size (rows_of (found_of m)) (codes "clients") 1000 ≤ 65535)
    clients_given = range_given m p 6 (only_clients wanted) 65535 (codes "clients") 1000 (omega arith) (omega arith) (omega arith) (omega arith) (λ r. refl) (λ r. refl) (differ _ _ refl) (differ _ _ refl) (differ _ _ refl)

    seconds_given : (1 ≤ given_size (rows_of (found_of m)) (codes "keep-seconds") 1) × (given_size (rows_of (found_of m)) (codes "keep-seconds") 1 ≤ 3600)
    seconds_given = range_given m p 10 (only_keep_seconds wanted) 3600 (codes "keep-seconds") 1 (omega arith) (omega arith) (omega arith) (omega arith) (λ r. refl) (λ r. refl) (differ _ _ refl) (differ _ _ refl) (differ _ _ refl)

    -- what the options ask for lies in its ranges
    pub in_range : (asked : MapdWords) → AsksFor (rows_of (found_of m)) asked → (is_some asked.listen ≡ true) ⊎ (is_some asked.redis ≡ true) → IsInRange asked
    in_range asked asks some = record {
      some_address = some;
      some_worker = rw asks.workers workers_given.0;
      workers = rw asks.workers workers_given.1;
      some_member = rw asks.team team_given.0;
      team = rw asks.team team_given.1;
      some_client = rw asks.clients clients_given.0;
      clients = rw asks.clients clients_given.1;
      some_second = rw asks.keep_seconds seconds_given.0;
      seconds = rw asks.keep_seconds seconds_given.1;
    }
