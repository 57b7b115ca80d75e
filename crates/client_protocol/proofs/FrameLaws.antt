-- Reading goes on at the place where it stopped.
use Rattle.std.proofs.Common.{◌≡◌, ℕ, ◌+◌, ◌-◌, ◌<◌, arith, List, [], ◌∷◌, ◌++◌, length, drop, Option, Some, None, refl, sym, ap, subst, ◌∙◌, inl, inr, append_assoc, append-nil}
use Rattle.std.proofs.lemmas.List.{length-append, drop_at}
use Rattle.std.proofs.lemmas.List.Concat.{flat_map-append}
use Rattle.client_protocol.specs.declared.limits.Version.{Version}
use Rattle.client_protocol.specs.Requests.{Request}
use Rattle.client_protocol.specs.declared.fault.ProtocolFault.{ProtocolFault}
use Rattle.client_protocol.specs.Bodies.{hello_after}
use Rattle.client_protocol.specs.Frames.{frame_of, frames_of, length_bytes, framed, IsRequest, Follow, IsFaulty, Held, Frames, Feeds, held_of}
use Rattle.client_protocol.specs.Frames.Held.{open_at, failed}

pub follow_then : (hello mid after : Option Version) (rs ss : List Request) → Follow hello rs mid → Follow mid ss after → Follow hello (rs ++ ss) after
follow_then hello mid after [] ss first later = subst (λ (h : Option Version). Follow h ss after) first later
follow_then hello mid after (r ∷ rs) ss first later = (first.0, follow_then (hello_after hello r) mid after rs ss first.1 later)

pub follow_more : (hello mid : Option Version) (rs : List Request) (r : Request) → Follow hello rs mid → IsRequest mid r → Follow hello (rs ++ r ∷ []) (hello_after mid r)
follow_more hello mid rs r first is = follow_then hello mid (hello_after mid r) rs (r ∷ []) first (is, refl)

pub frames_then : (rs ss : List Request) → frames_of (rs ++ ss) ≡ frames_of rs ++ frames_of ss
frames_then rs ss = flat_map-append frame_of rs ss

-- frames, and then more of them
pub spelled_then : (rs ss : List Request) (bytes mid rest : List ℕ) → bytes ≡ frames_of rs ++ mid → mid ≡ frames_of ss ++ rest → bytes ≡ frames_of (rs ++ ss) ++ rest
spelled_then rs ss bytes mid rest first later =
    first ∙ ap (λ (t : List ℕ). frames_of rs ++ t) later ∙ sym (append_assoc (frames_of rs) (frames_of ss) rest) ∙ ap (λ (t : List ℕ). t ++ rest) (sym (frames_then rs ss))

pub spelled_more : (rs : List Request) (r : Request) (bytes mid rest : List ℕ) → bytes ≡ frames_of rs ++ mid → mid ≡ frame_of r ++ rest → bytes ≡ frames_of (rs ++ r ∷ []) ++ rest
spelled_more rs r bytes mid rest first later = spelled_then rs (r ∷ []) bytes mid rest first (later ∙ ap (λ (t : List ℕ). t ++ rest) (sym (append-nil (frame_of r))))

pub shorter : (r : Request) (bytes rest : List ℕ) → bytes ≡ frame_of r ++ rest → length rest < length bytes
shorter r bytes rest e = let len : length bytes ≡ length (frame_of r) + length rest = ap length e ∙ length-append (frame_of r) rest in omega (arith, len)

-- a fault stays, whatever follows
pub faulty_more : (hello : Option Version) (rest more : List ℕ) (fault : ProtocolFault) → IsFaulty hello rest fault → IsFaulty hello (rest ++ more) fault
faulty_more hello rest more fault (inl (is, bad)) =
    inl (is, record { n = bad.n; more = bad.more ++ more; number = bad.number; bad = bad.bad; spelled = ap (λ (t : List ℕ). t ++ more) bad.spelled ∙ append_assoc (length_bytes bad.n) bad.more more })
faulty_more hello rest more fault (inr bad) =
    inr (record { body = bad.body; more = bad.more ++ more; allowed = bad.allowed; spelled = ap (λ (t : List ℕ). t ++ more) bad.spelled ∙ append_assoc (framed bad.body) bad.more more; has = bad.has })

-- feeding a piece in two parts is feeding it whole
pub frames_go_on : (hello : Option Version) (bytes more : List ℕ) (rs ss : List Request) (mid new : Held) → Frames hello bytes rs mid → Feeds mid more ss new → Frames hello (bytes ++ more) (rs ++ ss) new
frames_go_on hello bytes more rs ss (open_at h held) new first later =
    let (h-is, held-is, begun) = first.ends in
    record {
      after = later.after;
      rest = later.rest;
      follow = follow_then hello h later.after rs ss (subst (λ (a : Option Version). Follow hello rs a) (sym h-is) first.follow) later.follow;
      spelled = spelled_then rs ss (bytes ++ more) (held ++ more) later.rest (ap (λ (t : List ℕ). t ++ more) (first.spelled ∙ ap (λ (t : List ℕ). frames_of rs ++ t) (sym held-is)) ∙ append_assoc (frames_of rs) held more) later.spelled;
      ends = later.ends;
    }
frames_go_on hello bytes more rs ss (failed fault) new first (empty, same) =
    let ended : Frames hello (bytes ++ more) rs (failed fault) = record {
      after = first.after;
      rest = first.rest ++ more;
      follow = first.follow;
      spelled = ap (λ (t : List ℕ). t ++ more) first.spelled ∙ append_assoc (frames_of rs) first.rest more;
      ends = faulty_more first.after first.rest more fault first.ends;
    } in
    subst (λ (h : Held). Frames hello (bytes ++ more) (rs ++ ss) h) (sym same) (subst (λ (t : List Request). Frames hello (bytes ++ more) t (failed fault)) (sym (append-nil rs) ∙ ap (λ (t : List Request). rs ++ t) (sym empty)) ended)

pub feeds_then : (old mid new : Held) (p q : List ℕ) (rs ss : List Request) → Feeds old p rs mid → Feeds mid q ss new → Feeds old (p ++ q) (rs ++ ss) new
feeds_then (open_at hello rest) mid new p q rs ss first later =
    subst (λ (t : List ℕ). Frames hello t (rs ++ ss) new) (append_assoc rest p q) (frames_go_on hello (rest ++ p) q rs ss mid new first later)
feeds_then (failed fault) mid new p q rs ss (empty, same) later =
    let (nothing, is) = subst (λ (h : Held). Feeds h q ss new) same later in
    (ap (λ (t : List Request). t ++ ss) empty ∙ nothing, is)

-- the rest if there is no fault
pub held_rest : (hello after : Option Version) (bytes rest : List ℕ) (rs : List Request) → Frames hello bytes rs (open_at after rest) → (bytes ≡ frames_of rs ++ rest)
held_rest hello after bytes rest rs f = f.spelled ∙ ap (λ (t : List ℕ). frames_of rs ++ t) (sym f.ends.1)

pub rest_is : (front bytes rest : List ℕ) (n : ℕ) → bytes ≡ front ++ rest → n ≡ length bytes - length rest → drop n bytes ≡ rest
rest_is front bytes rest n e is =
    let len : length bytes ≡ length front + length rest = ap length e ∙ length-append front rest in
    let same : length front ≡ n = omega (arith, len, is) in
    ap (drop n) e ∙ drop_at front rest n same

-- the same, read at another place of the rest
pub held_again : (hello : Option Version) (bytes : List ℕ) (rs : List Request) (after : Option Version) (rest again : List ℕ) (fault : Option ProtocolFault) → Frames hello bytes rs (held_of after rest fault) → (bytes ≡ frames_of rs ++ rest → again ≡ rest) → Frames hello bytes rs (held_of after again fault)
held_again hello bytes rs after rest again None f same = subst (λ (t : List ℕ). Frames hello bytes rs (open_at after t)) (sym (same (held_rest hello after bytes rest rs f))) f
held_again hello bytes rs after rest again (Some fault) f same = f
