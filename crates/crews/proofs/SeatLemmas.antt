-- Clients that leave their seats, have turns, and take seats.
use Rattle.std.proofs.Common.{◌≡◌, ℕ, ◌+◌, ◌<◌, List, [], ◌∷◌, ◌++◌, false, take, drop, Option, Some, None, refl, sym, ap, subst, ◌∙◌, append-nil, append_assoc, take-append-drop, slice_index_or, slice_set, IsSome, inl, inr, arith}
use Rattle.std.proofs.lemmas.Bool.{cases_eq}
use Rattle.std.proofs.KnownBytes.{Appends-nil, Appends-kept, Appends-trans, Consumes-nil, Consumes-kept}
use Rattle.std.specs.Io.KnownBytes.{Appends, Consumes, Keeps}
use Rattle.bin_stripes.specs.Passes.{PassState, ServesSameMap}
use Rattle.slab.specs.Slab.{Slab, get, ContainsKey, Updates, with_value}
use Rattle.slab.proofs.SlabLemmas.{ContainsKey-within, Updates-set, Updates-with_value}
use Rattle.devices.specs.Channels.{ChannelState, Sends}
use Rattle.sessions.specs.OwedAnswers.{OwedState}
use Rattle.devices.specs.declared.channel.Sent.{Sent}
use Rattle.devices.specs.declared.channel.Sent.TheVariants.{Took, NotNow, Failed}
use Rattle.sessions.specs.Conversations.{Exchange}
use Rattle.crews.specs.declared.clients.Parting.{Parting}
use Rattle.crews.specs.declared.clients.Parting.TheVariants.{NotKept}
use Rattle.crews.specs.declared.clients.Protocol.{Protocol}
use Rattle.crews.specs.declared.clients.Protocol.TheVariants as protocols
use Rattle.crews.specs.declared.talk.Talk.{Talk}
use Rattle.crews.specs.declared.turn.Client.{Client}
use Rattle.crews.specs.Crews.{team_numbers}
use Rattle.program_registry.specs.declared.registry.Registry.{Registry}
use Rattle.crews.specs.Stations.{KeptTokens, no_tokens, Station}
use Rattle.crews.specs.Talks.{protocol_of, begins_so, IsOpen}
use Rattle.crews.specs.Partings.{SaysSo, not_kept_told}
use Rattle.redis_service.specs.Sweeps.{Sweeps}
use Rattle.crews.specs.Lives.{Arrival, Known, Moves, Turn, exchanges_of, Stands, HasCome, HasParted, IsOfClient, KeepsNumbers, Life}
use Rattle.crews.specs.Lives.Turn.{sweeps}
use Rattle.crews.specs.Turns.{TurnsTo}
use Rattle.crews.specs.Seats.{IsClient, Seated, HasNone, IsAttended}
use Rattle.crews.proofs.LifeLemmas.{known_same, moves_on, turns_lead, numbers_stay, numbers_go_on, turns_of, exchanges_grow, exchanges_stay, exchanges_swept}

some_is : {A : Type 0} (x y : A) → Some x ≡ Some y → x ≡ y
some_is x y is = cc

none_some : {A : Type 0} (slot : Option A) (x : A) → slot ≡ None → slot ≡ Some x → ⊥
none_some slot x none some = absurd cc

-- it came with this connection, to the port of this protocol
abbrev pub arrived : {C : Type 0} → C → Protocol → Arrival C
arrived channel protocol = record { channel = channel; protocol = protocol }

-- a talk that begins is in its protocol, and nothing was said in it
begins_in : (number : ℕ) (password : Option (List ℕ)) (protocol : Protocol) → protocol_of (begins_so number password protocol) ≡ protocol
begins_in number password protocols.Frames = refl
begins_in number password protocols.Commands = refl

begins_saying : (number : ℕ) (password : Option (List ℕ)) (protocol : Protocol) → SaysSo password None (begins_so number password protocol) [] [] []
begins_saying number password protocols.Frames = ((None, [], refl), record { talked = refl; read_is = refl; said_is = refl })
begins_saying number password protocols.Commands = (refl, record { talked = (number, refl); read_is = refl; said_is = refl })

module _ {C : Type 0} (state : C → ChannelState) (gave : PassState → C → Protocol → Type 0) (registry : Registry) (password : Option (List ℕ)) where
  -- the client leaves its seat
  pub stays_out : (old : Known) (turns : List Turn) (new : Known) (n : ℕ) (seats after : Slab (Client C)) (seat : ℕ) → Seated state gave registry password old turns new n seats → Updates seats after seat None → Seated state gave registry password old turns new n after
  stays_out old turns new n seats after seat seated updates = record {
    stands = λ i client is. seated.stands i client (before i client is);
    apart = λ i j client more is also same. seated.apart i j client more (before i client is) (before j more also) same;
  } where
    before : (i : ℕ) (client : Client C) → get after i ≡ Some client → get seats i ≡ Some client
    before i client is = elim (cases_eq i seat) [
      | inl here ↦ absurd (none_some (get after i) client (subst (λ (k : ℕ). get after k ≡ None) (sym here) updates.changed) is)
      | inr other ↦ sym (updates.others i other) ∙ is
    ]

  pub none_left : (old : Known) (turns : List Turn) (new : Known) (n : ℕ) (seats after : Slab (Client C)) (seat : ℕ) (client : Client C) → Seated state gave registry password old turns new n seats → get seats seat ≡ Some client → Updates seats after seat None
      → HasNone state gave registry password after client.number
  none_left old turns new n seats after seat client seated was updates i more is same = elim (cases_eq i seat) [
    | inl here ↦ none_some (get after i) more (subst (λ (k : ℕ). get after k ≡ None) (sym here) updates.changed) is
    | inr other ↦ other (seated.apart i seat more client (sym (updates.others i other) ∙ is) was same)
  ]

  -- the client takes a seat
  pub takes_seat : (old : Known) (turns : List Turn) (new : Known) (n : ℕ) (seats after : Slab (Client C)) (seat : ℕ) (client : Client C) → Seated state gave registry password old turns new n seats → HasNone state gave registry password seats client.number
      → IsClient state gave registry password old turns new n client → Updates seats after seat (Some client) → Seated state gave registry password old turns new n after
  takes_seat old turns new n seats after seat client seated none stands updates = record {
    stands = λ i one is. elim (cases_eq i seat) [
      | inl here ↦ subst (λ (k : Client C). IsClient state gave registry password old turns new n k) (at i one here is) stands
      | inr other ↦ seated.stands i one (sym (updates.others i other) ∙ is)
    ];
    apart = λ i j one more is also same. elim (cases_eq i seat) [
      | inl here ↦ elim (cases_eq j seat) [
        | inl there ↦ here ∙ sym there
        | inr other ↦ absurd (none j more (sym (updates.others j other) ∙ also) (sym same ∙ ap (λ (k : Client C). k.number) (sym (at i one here is))))
      ]
      | inr other ↦ elim (cases_eq j seat) [
        | inl there ↦ absurd (none i one (sym (updates.others i other) ∙ is) (same ∙ ap (λ (k : Client C). k.number) (sym (at j more there also))))
        | inr another ↦ seated.apart i j one more (sym (updates.others i other) ∙ is) (sym (updates.others j another) ∙ also) same
      ]
    ];
  } where
    at : (i : ℕ) (one : Client C) → i ≡ seat → get after i ≡ Some one → client ≡ one
    at i one here is = some_is client one (sym (subst (λ (k : ℕ). get after k ≡ Some client) (sym here) updates.changed) ∙ is)

  -- ---- turns go on

  -- the client came among more turns
  pub come_on : (old : Known) (turns more : List Turn) (mid new : Known) (client : ℕ) (came : Arrival C) → HasCome gave old turns mid client came → Moves mid more new
      → HasCome gave old (turns ++ more) new client came
  come_on old turns more mid new client came come moves = record {
    earlier = come.earlier;
    later = come.later ++ more;
    order = ap (λ (ts : List Turn). ts ++ more) come.order ∙ append_assoc come.earlier come.later more;
    mid = come.mid;
    before = come.before;
    since = moves_on come.mid mid new come.later more come.since moves;
    given = come.given;
    none = come.none;
  }

  -- more turns, of which none is of a client in a seat
  pub seated_on : (old : Known) (turns more : List Turn) (mid new : Known) (n : ℕ) (seats : Slab (Client C)) → Moves mid more new
      → ((seat : ℕ) (client : Client C) → get seats seat ≡ Some client → exchanges_of client.number (turns ++ more) ≡ exchanges_of client.number turns)
      → Seated state gave registry password old turns mid n seats → Seated state gave registry password old (turns ++ more) new n seats
  seated_on old turns more mid new n seats moves others seated = record {
    stands = λ i client is.
        let (low, (came, come, stands)) = seated.stands i client is in (
          low,
          (
            came,
            come_on old turns more mid new client.number came come moves,
            subst (λ (es : List (Exchange Station)). Stands state registry password came client.channel es client.tokens client.talk client.owed client.leaving) (sym (others i client is)) stands,
          ),
        );
    apart = seated.apart;
  }

  -- none of them is of this client
  others_on : (old : Known) (turns more : List Turn) (mid new : Known) (i : ℕ) → Moves mid more new → exchanges_of i (turns ++ more) ≡ exchanges_of i turns
      → IsOfClient state gave registry password old turns mid i → IsOfClient state gave registry password old (turns ++ more) new i
  others_on old turns more mid new i moves other (came, now, tokens, talk, owed, leaving, come, stands) = (
    came,
    now,
    tokens,
    talk,
    owed,
    leaving,
    come_on old turns more mid new i came come moves,
    subst (λ (es : List (Exchange Station)). Stands state registry password came now es tokens talk owed leaving) (sym other) stands,
  )

  -- a client has a turn
  pub lives_on : (old : Known) (turns : List Turn) (mid new : Known) (n k : ℕ) (came : Arrival C) (now : C) (tokens : KeptTokens) (talk : Talk) (owed : OwedState) (leaving : Option Parting)
      → Life state gave registry password old turns mid n → k < n → HasCome gave old turns mid k came → (t : TurnsTo state registry password mid new came now (exchanges_of k turns) tokens talk owed leaving)
      → Life state gave registry password old (turns ++ turns_of k t.more) new n
  lives_on old turns mid new n k came now tokens talk owed leaving life low come t = record {
    moves = moves_on old mid new turns (turns_of k t.more) life.moves moves;
    each = λ i below. elim (cases_eq k i) [
      | inl here ↦ subst (λ (j : ℕ). IsOfClient state gave registry password old (turns ++ turns_of k t.more) new j) here own
      | inr other ↦ others_on old turns (turns_of k t.more) mid new i moves (exchanges_stay k i turns t.more other) (life.each i below)
    ];
    no_other = λ i above. exchanges_stay k i turns t.more (λ same. absurd (omega (arith, same, low, above))) ∙ life.no_other i above;
    numbers = numbers_go_on old mid new life.numbers t.numbers;
  } where
    moves : Moves mid (turns_of k t.more) new
    moves = turns_lead mid new k t.more t.moves

    own : IsOfClient state gave registry password old (turns ++ turns_of k t.more) new k
    own = (
      came,
      now,
      tokens,
      talk,
      owed,
      leaving,
      come_on old turns (turns_of k t.more) mid new k came come moves,
      subst (λ (es : List (Exchange Station)). Stands state registry password came now es tokens talk owed leaving) (sym (exchanges_grow k turns t.more)) t.stands,
    )

  -- the worker sweeps
  lives_swept : (old : Known) (turns : List Turn) (mid new : Known) (n time : ℕ) → Moves mid (sweeps time new.pass ∷ []) new → KeepsNumbers mid new → Life state gave registry password old turns mid n
      → Life state gave registry password old (turns ++ sweeps time new.pass ∷ []) new n
  lives_swept old turns mid new n time moves numbers life = record {
    moves = moves_on old mid new turns (sweeps time new.pass ∷ []) life.moves moves;
    each = λ i below. others_on old turns (sweeps time new.pass ∷ []) mid new i moves (exchanges_swept i turns time new.pass) (life.each i below);
    no_other = λ i above. exchanges_swept i turns time new.pass ∙ life.no_other i above;
    numbers = numbers_go_on old mid new life.numbers numbers;
  }

  -- ---- a client more came, and has had no turn

  nothing_read : (came : Arrival C) (now : C) → state now ≡ state came.channel → Consumes (state came.channel).left (state now).left []
  nothing_read came now same = subst (λ (s : ChannelState). Consumes (state came.channel).left s.left []) (sym same) (Consumes-nil (state came.channel).left)

  nothing_written : (came : Arrival C) (now : C) → state now ≡ state came.channel → Appends (state came.channel).held (state now).held []
  nothing_written came now same = subst (λ (s : ChannelState). Appends (state came.channel).held s.held []) (sym same) (Appends-nil (state came.channel).held)

  pub new_stands : (number : ℕ) (came : Arrival C) (now : C) → state now ≡ state came.channel
      → Stands state registry password came now [] (no_tokens registry) (begins_so number password came.protocol) (record { rest = []; failures = 0 }) None
  new_stands number came now same = record {
    speaks = begins_in number password came.protocol;
    read = [];
    written = [];
    consumed = nothing_read came now same;
    appended = nothing_written came now same;
    of = refl;
    keeps = refl;
    says = begins_saying number password came.protocol;
    unfailed = λ is. refl;
  }

  -- it came after all turns so far
  pub comes_now : (old : Known) (turns : List Turn) (new : Known) (n : ℕ) (came : Arrival C) → Moves old turns new → gave new.pass came.channel came.protocol → exchanges_of n turns ≡ []
      → HasCome gave old turns new n came
  comes_now old turns new n came moves given none = record {
    earlier = turns;
    later = [];
    order = sym (append-nil turns);
    mid = new;
    before = moves;
    since = refl;
    given = given;
    none = none;
  }

  -- so it stands among the turns so far, of which none is its own
  first_stands : (turns : List Turn) (n number : ℕ) (came : Arrival C) (now : C) → exchanges_of n turns ≡ [] → state now ≡ state came.channel
      → Stands state registry password came now (exchanges_of n turns) (no_tokens registry) (begins_so number password came.protocol) (record { rest = []; failures = 0 }) None
  first_stands turns n number came now none same =
      subst (λ (es : List (Exchange Station)). Stands state registry password came now es (no_tokens registry) (begins_so number password came.protocol) (record { rest = []; failures = 0 }) None) (sym none) (new_stands number came now same)

  pub one_more_lives : (old : Known) (turns : List Turn) (new : Known) (n number : ℕ) (came : Arrival C) (now : C) → Life state gave registry password old turns new n → gave new.pass came.channel came.protocol → state now ≡ state came.channel
      → Life state gave registry password old turns new (n + 1)
  one_more_lives old turns new n number came now life given same = record {
    moves = life.moves;
    each = λ i below. elim (cases_eq n i) [
      | inl here ↦ subst (λ (j : ℕ). IsOfClient state gave registry password old turns new j) here own
      | inr other ↦ life.each i (omega (arith, other, below))
    ];
    no_other = λ i above. life.no_other i (omega (arith, above));
    numbers = life.numbers;
  } where
    own : IsOfClient state gave registry password old turns new n
    own = (
      came,
      now,
      no_tokens registry,
      begins_so number password came.protocol,
      record { rest = []; failures = 0 },
      None,
      comes_now old turns new n came life.moves given (life.no_other n (omega arith)),
      first_stands turns n number came now (life.no_other n (omega arith)) same,
    )

  pub more_seated : (old : Known) (turns : List Turn) (new : Known) (n : ℕ) (seats : Slab (Client C)) → Seated state gave registry password old turns new n seats → Seated state gave registry password old turns new (n + 1) seats
  more_seated old turns new n seats seated = record {
    stands = λ i client is. let (low, stands) = seated.stands i client is in (omega (arith, low), stands);
    apart = seated.apart;
  }

  pub none_yet : (old : Known) (turns : List Turn) (new : Known) (n : ℕ) (seats : Slab (Client C)) → Seated state gave registry password old turns new n seats → HasNone state gave registry password seats n
  none_yet old turns new n seats seated i client is same = let (low, stands) = seated.stands i client is in absurd (omega (arith, low, same))

  -- ---- the life, and its clients in their seats

  pub client_in : (old : Known) (turns : List Turn) (new : Known) (n : ℕ) (seats : Slab (Client C)) (seat : ℕ) (client : Client C) → IsAttended state gave registry password old turns new n seats → Some client ≡ get seats seat
      → IsClient state gave registry password old turns new n client
  client_in old turns new n seats seat client (life, seated) is = seated.stands seat client (sym is)

  pub client_of : (old : Known) (turns : List Turn) (new : Known) (n : ℕ) (client : Client C) → IsClient state gave registry password old turns new n client → client.tokens.registry ≡ registry
  client_of old turns new n client (low, (came, come, stands)) = stands.of

  pub client_unfailed : (old : Known) (turns : List Turn) (new : Known) (n : ℕ) (client : Client C) → IsClient state gave registry password old turns new n client → client.leaving ≡ None → client.owed.failures ≡ 0
  client_unfailed old turns new n client (low, (came, come, stands)) = stands.unfailed

  pub client_open : (old : Known) (turns : List Turn) (new : Known) (n : ℕ) (client : Client C) → IsClient state gave registry password old turns new n client → client.leaving ≡ None → IsOpen client.talk
  client_open old turns new n client (low, (came, come, stands)) none =
      let (opened, all) = subst (λ (leaving : Option Parting). SaysSo password leaving client.talk (exchanges_of client.number turns) stands.read (stands.written ++ client.owed.rest)) none stands.says in
      opened

  -- it stands otherwise, with no exchange
  pub client_still : (old : Known) (turns : List Turn) (new : Known) (n : ℕ) (was is : Client C) → is.number ≡ was.number
      → ((came : Arrival C) (exchanges : List (Exchange Station)) → Stands state registry password came was.channel exchanges was.tokens was.talk was.owed was.leaving → Stands state registry password came is.channel exchanges is.tokens is.talk is.owed is.leaving)
      → IsClient state gave registry password old turns new n was → IsClient state gave registry password old turns new n is
  client_still old turns new n was is same goes (low, (came, come, stands)) =
      (subst (λ (k : ℕ). k < n) (sym same) low, (came, subst (λ (k : ℕ). HasCome gave old turns new k came) (sym same) come, subst (λ (k : ℕ). Stands state registry password came is.channel (exchanges_of k turns) is.tokens is.talk is.owed is.leaving) (sym same) (goes came (exchanges_of was.number turns) stands)))

  pub seat_left : (old : Known) (turns : List Turn) (new : Known) (n : ℕ) (seats after : Slab (Client C)) (seat : ℕ) → Updates seats after seat None → IsAttended state gave registry password old turns new n seats → IsAttended state gave registry password old turns new n after
  seat_left old turns new n seats after seat updates (life, seated) = (life, stays_out old turns new n seats after seat seated updates)

  pub seat_none : (old : Known) (turns : List Turn) (new : Known) (n : ℕ) (seats after : Slab (Client C)) (seat : ℕ) (was is : Client C) → Some was ≡ get seats seat → Updates seats after seat None → is.number ≡ was.number
      → IsAttended state gave registry password old turns new n seats → HasNone state gave registry password after is.number
  seat_none old turns new n seats after seat was is here updates same (life, seated) =
      subst (λ (k : ℕ). HasNone state gave registry password after k) (sym same) (none_left old turns new n seats after seat was seated (sym here) updates)

  pub seat_taken : (old : Known) (turns : List Turn) (new : Known) (n : ℕ) (seats after : Slab (Client C)) (seat : ℕ) (client : Client C) → Updates seats after seat (Some client)
      → IsAttended state gave registry password old turns new n seats → HasNone state gave registry password seats client.number → IsClient state gave registry password old turns new n client → IsAttended state gave registry password old turns new n after
  seat_taken old turns new n seats after seat client updates (life, seated) none stands = (life, takes_seat old turns new n seats after seat client seated none stands updates)

  -- the client, which is out of its seat, has had a turn
  pub has_turn : (old : Known) (turns : List Turn) (mid new : Known) (n : ℕ) (seats out : Slab (Client C)) (seat : ℕ) (was is : Client C)
      → Some was ≡ get seats seat → Updates seats out seat None → is.number ≡ was.number
      → ((came : Arrival C) (exchanges : List (Exchange Station)) → Stands state registry password came was.channel exchanges was.tokens was.talk was.owed was.leaving → TurnsTo state registry password mid new came is.channel exchanges is.tokens is.talk is.owed is.leaving)
      → IsAttended state gave registry password old turns mid n seats
      → (more : List Turn) × IsAttended state gave registry password old (turns ++ more) new n out × HasNone state gave registry password out is.number × IsClient state gave registry password old (turns ++ more) new n is
  has_turn old turns mid new n seats out seat was is here updates same goes (life, seated) =
      let k = was.number in
      let (low, (came, come, stands)) = seated.stands seat was (sym here) in
      let t = goes came (exchanges_of k turns) stands in
      let none : HasNone state gave registry password out k = none_left old turns mid n seats out seat was seated (sym here) updates in
      let more = turns_of k t.more in
      let moves : Moves mid more new = turns_lead mid new k t.more t.moves in
      let grown = subst (λ (es : List (Exchange Station)). Stands state registry password came is.channel es is.tokens is.talk is.owed is.leaving) (sym (exchanges_grow k turns t.more)) t.stands in (
        more,
        (
          lives_on old turns mid new n k came is.channel is.tokens is.talk is.owed is.leaving life low come t,
          seated_on old turns more mid new n out moves (λ i client is. exchanges_stay k client.number turns t.more (λ same. none i client is (sym same))) (stays_out old turns mid n seats out seat seated updates),
        ),
        subst (λ (j : ℕ). HasNone state gave registry password out j) (sym same) none,
        (
          subst (λ (j : ℕ). j < n) (sym same) low,
          (came, subst (λ (j : ℕ). HasCome gave old (turns ++ more) new j came) (sym same) (come_on old turns more mid new k came come moves), subst (λ (j : ℕ). Stands state registry password came is.channel (exchanges_of j (turns ++ more)) is.tokens is.talk is.owed is.leaving) (sym same) grown),
        ),
      )

  -- the client has had a turn in its seat
  pub sat_turn : (old : Known) (turns : List Turn) (mid new : Known) (n : ℕ) (seats : Slab (Client C)) (seat : ℕ) (was is : Client C)
      → Some was ≡ get seats seat → is.number ≡ was.number
      → ((came : Arrival C) (exchanges : List (Exchange Station)) → Stands state registry password came was.channel exchanges was.tokens was.talk was.owed was.leaving → TurnsTo state registry password mid new came is.channel exchanges is.tokens is.talk is.owed is.leaving)
      → IsAttended state gave registry password old turns mid n seats
      → (more : List Turn) × IsAttended state gave registry password old (turns ++ more) new n (with_value seats seat is) × IsClient state gave registry password old (turns ++ more) new n is
  sat_turn old turns mid new n seats seat was is here same goes attended =
      let (more, left, none, stands) = has_turn old turns mid new n seats out seat was is here leaves same goes attended in
      (more, seat_taken old (turns ++ more) new n out (with_value seats seat is) seat is sits left none stands, stands) where
        out : Slab (Client C)
        out = record seats { slots = slice_set seats.slots seat None }

        there : ContainsKey seats seat
        there = subst (λ (slot : Option (Client C)). IsSome slot) here refl

        leaves : Updates seats out seat None
        leaves = Updates-set seats out seat None (ContainsKey-within seats seat there) refl

        sits : Updates out (with_value seats seat is) seat (Some is)
        sits = record {
          changed = (Updates-with_value seats seat is there).changed;
          others = λ other differs. (Updates-with_value seats seat is there).others other differs ∙ sym (leaves.others other differs);
        }

  -- the worker sweeps: the pass knows more, and nothing else changes
  pub has_swept : (old : Known) (turns : List Turn) (mid new : Known) (n time : ℕ) (seats : Slab (Client C)) → Sweeps time mid.pass new.pass → ServesSameMap mid.pass new.pass
      → new.pass.view.numbers ≡ mid.pass.view.numbers → new.team ≡ mid.team → new.is_strict ≡ mid.is_strict → IsAttended state gave registry password old turns mid n seats → (more : List Turn) × IsAttended state gave registry password old (turns ++ more) new n seats
  has_swept old turns mid new n time seats swept same numbers team strict (life, seated) = (
    more,
    (
      lives_swept old turns mid new n time moves (record { map_is = same.map; pass = numbers; team = ap team_numbers team; strict = strict }) life,
      seated_on old turns more mid new n seats moves (λ i client is. exchanges_swept client.number turns time new.pass) seated,
    ),
  ) where
    more : List Turn
    more = sweeps time new.pass ∷ []

    moves : Moves mid more new
    moves = (swept, known_same new (record mid { pass = new.pass }) refl team strict)

  -- a client comes, and takes a seat
  pub one_comes : (old : Known) (turns : List Turn) (new : Known) (n number : ℕ) (seats room after : Slab (Client C)) (seat : ℕ) (came : Arrival C) (now : C) (talk : Talk) (client : Client C) → gave new.pass came.channel came.protocol
      → state now ≡ state came.channel → talk ≡ begins_so number password came.protocol
      → client ≡ record { number = n; channel = now; talk = talk; tokens = no_tokens registry; owed = record { rest = []; failures = 0 }; leaving = None }
      → room ≡ record seats { capacity = room.capacity } → Updates room after seat (Some client)
      → IsAttended state gave registry password old turns new n seats → IsAttended state gave registry password old turns new (n + 1) after
  one_comes old turns new n number seats room after seat came now talk client given same begins is grown updates (life, seated) = (
    one_more_lives old turns new n number came now life given same,
    takes_seat old turns new (n + 1) seats after seat client (more_seated old turns new n seats seated) none stands (record {
      changed = updates.changed;
      others = λ other differ. updates.others other differ ∙ ap (λ (s : Slab (Client C)). get s other) grown;
    }),
  ) where
    none : HasNone state gave registry password seats client.number
    none = subst (λ (c : Client C). HasNone state gave registry password seats c.number) (sym is) (none_yet old turns new n seats seated)

    stands : IsClient state gave registry password old turns new (n + 1) client
    stands = subst (λ (c : Client C). IsClient state gave registry password old turns new (n + 1) c) (sym is)
        (omega arith, (came, comes_now old turns new n came life.moves given (life.no_other n (omega arith)), subst (λ (t : Talk). Stands state registry password came now (exchanges_of n turns) (no_tokens registry) t (record { rest = []; failures = 0 }) None) (sym begins) (first_stands turns n number came now (life.no_other n (omega arith)) same)))

  -- nothing was told to it
  told_none : (pass : PassState) (came : Arrival C) (now next : C) → gave pass came.channel came.protocol → state now ≡ state came.channel → Keeps (state now).left (state next).left → Keeps (state now).held (state next).held
      → HasParted state gave pass next (no_tokens registry) NotKept
  told_none pass came now next given same unread untold =
      let here : Known = record { pass = pass; team = []; is_strict = false } in
      record {
        old = here;
        turns = [];
        new = here;
        knows = refl;
        client = 0;
        came = came;
        come = comes_now here [] here 0 came refl given refl;
        read = [];
        written = [];
        consumed = Consumes-kept (state came.channel).left (state now).left (state next).left [] (nothing_read came now same) unread;
        appended = Appends-kept (state came.channel).held (state now).held (state next).held [] (nothing_written came now same) untold;
        keeps = refl;
        password = password;
        parts = (refl, refl, (not_kept_told came.protocol, refl));
      }

  -- a client that came can't be kept
  pub turned_away : (pass : PassState) (came : Arrival C) (now next : C) (sent : Sent) (bytes : List ℕ) → gave pass came.channel came.protocol → state now ≡ state came.channel → bytes ≡ not_kept_told came.protocol
      → Sends (state now) (state next) sent bytes → HasParted state gave pass next (no_tokens registry) NotKept
  turned_away pass came now next (Took n) bytes given same line (some, within, kept, taken) =
      let here : Known = record { pass = pass; team = []; is_strict = false } in
      record {
        old = here;
        turns = [];
        new = here;
        knows = refl;
        client = 0;
        came = came;
        come = comes_now here [] here 0 came refl given refl;
        read = [];
        written = take n bytes;
        consumed = Consumes-kept (state came.channel).left (state now).left (state next).left [] (nothing_read came now same) kept;
        appended = Appends-trans (state came.channel).held (state now).held (state next).held [] (take n bytes) (nothing_written came now same) taken;
        keeps = refl;
        password = password;
        parts = (refl, refl, (drop n bytes, sym line ∙ sym (take-append-drop n bytes)));
      }
  turned_away pass came now next NotNow bytes given same line kept = told_none pass came now next given same kept.0 kept.1
  turned_away pass came now next Failed bytes given same line kept = told_none pass came now next given same kept.0 kept.1

  -- there is more room
  pub room_made : (old : Known) (turns : List Turn) (new : Known) (n : ℕ) (seats room : Slab (Client C)) → room ≡ record seats { capacity = room.capacity }
      → IsAttended state gave registry password old turns new n seats → IsAttended state gave registry password old turns new n room
  room_made old turns new n seats room grown (life, seated) = (
    life,
    record {
      stands = λ i client is. seated.stands i client (before i ∙ is);
      apart = λ i j client more is also same. seated.apart i j client more (before i ∙ is) (before j ∙ also) same;
    },
  ) where
    before : (i : ℕ) → get seats i ≡ get room i
    before i = sym (ap (λ (s : Slab (Client C)). get s i) grown)

  -- nobody came yet
  pub none_came : (start : Known) (seats : Slab (Client C)) → seats.slots ≡ [] → IsAttended state gave registry password start [] start 0 seats
  none_came start seats empty = (
    record { moves = refl; each = λ i below. absurd (omega (arith, below)); no_other = λ i above. refl; numbers = numbers_stay start },
    record {
      stands = λ i client is. absurd (none_some (get seats i) client (nothing i) is);
      apart = λ i j client more is also same. absurd (none_some (get seats i) client (nothing i) is);
    },
  ) where
    nothing : (i : ℕ) → get seats i ≡ None
    nothing i = ap (λ (slots : List (Option (Client C))). slice_index_or slots i None) empty

  pub begins : (start first : Known) (n : ℕ) → first ≡ start → n ≡ 0 → (seats : Slab (Client C)) → seats.slots ≡ [] → IsAttended state gave registry password start [] first n seats
  begins start first n same none seats empty =
      subst (λ (k : Known). IsAttended state gave registry password start [] k n seats) (sym same) (subst (λ (m : ℕ). IsAttended state gave registry password start [] start m seats) (sym none) (none_came start seats empty))

  -- no turn, and turns after turns
  pub no_more : (old : Known) (turns : List Turn) (new : Known) (n : ℕ) (seats : Slab (Client C)) → IsAttended state gave registry password old turns new n seats
      → (more : List Turn) × IsAttended state gave registry password old (turns ++ more) new n seats
  no_more old turns new n seats attended = ([], subst (λ (ts : List Turn). IsAttended state gave registry password old ts new n seats) (sym (append-nil turns)) attended)

  pub and_more : (old : Known) (turns more last : List Turn) (new : Known) (n : ℕ) (seats : Slab (Client C)) → IsAttended state gave registry password old ((turns ++ more) ++ last) new n seats
      → (all : List Turn) × IsAttended state gave registry password old (turns ++ all) new n seats
  and_more old turns more last new n seats attended = (more ++ last, subst (λ (ts : List Turn). IsAttended state gave registry password old ts new n seats) (append_assoc turns more last) attended)
