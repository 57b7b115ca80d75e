-- A frame that is completed from the next piece.
use Rattle.std.proofs.Common.{◌≡◌, ℕ, ◌+◌, ◌-◌, ◌^◌, ◌<◌, ◌≤◌, arith, List, [], ◌∷◌, ◌++◌, length, take, drop, Option, refl, sym, ap, subst, ◌∙◌, inl, inr, append_assoc, append-nil}
use Rattle.std.proofs.lemmas.List.{length-append, length-take, take_all, take-append-le, take-append-drop}
use Rattle.client_protocol.specs.declared.limits.Version.{Version}
use Rattle.client_protocol.specs.Requests.{Request}
use Rattle.client_protocol.specs.declared.fault.ProtocolFault.{ProtocolFault}
use Rattle.client_protocol.specs.Bodies.{body_of, body_bytes, hello_after}
use Rattle.client_protocol.specs.Frames.{length_bytes, frame_of, frames_of, IsLength, IsRequest, IsBeginning, IsFaulty, Held, Frames, IsSoundHeld}
use Rattle.client_protocol.specs.Frames.Held.{open_at, failed}
use Rattle.client_protocol.specs.declared.reading.BodyFault.{BodyFault}
use Rattle.client_protocol.specs.declared.reading.BodyFault.TheVariants.{NoMemory, Fault}
use Rattle.client_protocol.specs.Reading.{Lacks, IfFault, Adds}
use Rattle.client_protocol.proofs.FrameLaws.{faulty_more}
use Rattle.client_protocol.proofs.Unique.{same_length, allowed_small}

nil_of : (xs : List ℕ) → length xs < 1 → xs ≡ []
nil_of [] h = refl
nil_of (x ∷ xs) h = absurd (omega arith)

-- the bytes that are missing from a length
pub lacks_length : (hello : Option Version) (bytes : List ℕ) → length bytes < 4 → Lacks hello bytes (4 - length bytes)
lacks_length hello bytes less =
    record {
      some = omega (arith, less);
      fewer = λ more bounded. inl (omega (arith, less, bounded, length-append bytes more));
      no_more = λ more r behind bounded is e.
          let len : length (bytes ++ more) ≡ length (frame_of r ++ behind) = ap length e in
          absurd (omega (arith, less, bounded, len, length-append bytes more, length-append (frame_of r) behind));
    }

-- the bytes that are missing from a body
pub lacks_body : (hello : Option Version) (bytes : List ℕ) (n : ℕ) (part : List ℕ) → IsLength hello n → bytes ≡ length_bytes n ++ part → length part < n → Lacks hello bytes (n - length part)
lacks_body hello bytes n part allowed spelled short =
    record {
      some = omega (arith, short);
      fewer = λ more bounded. inr (record {
        n = n;
        part = part ++ more;
        allowed = allowed;
        spelled = ap (λ (t : List ℕ). t ++ more) spelled ∙ append_assoc (length_bytes n) part more;
        short = omega (arith, short, bounded, length-append part more);
      });
      no_more = λ more r behind bounded is e.
          let whole = sym (append_assoc (length_bytes n) part more) ∙ ap (λ (t : List ℕ). t ++ more) (sym spelled) ∙ e ∙ append_assoc (length_bytes (length (body_bytes (body_of r)))) (body_bytes (body_of r)) behind in
          let (len, bytes-is) = same_length n (length (body_bytes (body_of r))) (part ++ more) ((body_bytes (body_of r)) ++ behind) (allowed_small hello n allowed) (allowed_small hello (length (body_bytes (body_of r))) is.allowed) whole in
          let lengths : length (part ++ more) ≡ length ((body_bytes (body_of r)) ++ behind) = ap length bytes-is in
          nil_of behind (omega (arith, short, bounded, len, lengths, length-append part more, length-append (body_bytes (body_of r)) behind));
    }

-- the bytes missing from a frame that has begun with this length
pub begun_body : (hello : Option Version) (bytes : List ℕ) (n : ℕ) (part : List ℕ) → IsBeginning hello bytes → n < 2 ^ 32 → bytes ≡ length_bytes n ++ part → (IsLength hello n) × (length part < n)
begun_body hello bytes n part (inl less) small e = let len : length bytes ≡ 4 + length part = ap length e ∙ omega arith in absurd (omega (arith, less, len))
begun_body hello bytes n part (inr b) small e =
    let (len, rest) = same_length b.n n b.part part (allowed_small hello b.n b.allowed) small (sym b.spelled ∙ e) in
    (subst (λ (m : ℕ). IsLength hello m) len b.allowed, omega (arith, len, ap length rest, b.short))

pub begun_short : (hello : Option Version) (bytes : List ℕ) (n : ℕ) (part : List ℕ) → IsBeginning hello bytes → n < 2 ^ 32 → bytes ≡ length_bytes n ++ part → length part ≤ n
begun_short hello bytes n part begun small e = let (allowed, short) = begun_body hello bytes n part begun small e in omega (arith, short)

pub lacks_rest : (hello : Option Version) (bytes : List ℕ) (n : ℕ) (part : List ℕ) → IsBeginning hello bytes → n < 2 ^ 32 → bytes ≡ length_bytes n ++ part → Lacks hello bytes (n - length part)
lacks_rest hello bytes n part begun small e = let (allowed, short) = begun_body hello bytes n part begun small e in lacks_body hello bytes n part allowed e short

-- ---- moving the piece's front to the end of the held bytes

pub all_front : (xs : List ℕ) → take (length xs) xs ≡ xs
all_front xs = take_all (length xs) xs (omega arith)

pub still_front : (xs ys more : List ℕ) → take (length xs) ys ≡ xs → take (length xs) (ys ++ more) ≡ xs
still_front xs ys more e =
    let len : length (take (length xs) ys) ≡ length xs = ap length e in
    take-append-le (length xs) ys more (omega (arith, len, length-take (length xs) ys)) ∙ e

-- the held and coming bytes together stay the same
pub moved : (all rest piece : List ℕ) (n : ℕ) → all ≡ rest ++ piece → all ≡ (rest ++ take n piece) ++ drop n piece
moved all rest piece n e = e ∙ ap (λ (t : List ℕ). rest ++ t) (sym (take-append-drop n piece)) ∙ sym (append_assoc rest (take n piece) (drop n piece))

-- with the missing bytes the first frame is whole
pub completed : (hello : Option Version) (all rest piece : List ℕ) (n : ℕ) (r : Request) (behind : List ℕ) → Lacks hello rest n → all ≡ rest ++ piece → IsRequest hello r → rest ++ take n piece ≡ frame_of r ++ behind → all ≡ frame_of r ++ drop n piece
completed hello all rest piece n r behind lacks e is spelled =
    let fits : length (take n piece) ≤ n = omega (arith, length-take n piece) in
    let none = lacks.no_more (take n piece) r behind fits is spelled in
    moved all rest piece n e ∙ ap (λ (t : List ℕ). t ++ drop n piece) (spelled ∙ ap (λ (t : List ℕ). frame_of r ++ t) none ∙ append-nil (frame_of r))

-- with the missing bytes it is refused
refused : (hello : Option Version) (all rest piece : List ℕ) (n : ℕ) (fault : ProtocolFault) → all ≡ rest ++ piece → IsFaulty hello (rest ++ take n piece) fault → IsFaulty hello all fault
refused hello all rest piece n fault e bad =
    subst (λ (t : List ℕ). IsFaulty hello t fault) (sym (moved all rest piece n e)) (faulty_more hello (rest ++ take n piece) (drop n piece) fault bad)

pub refused_if : (hello : Option Version) (all rest piece : List ℕ) (n : ℕ) (fault : BodyFault) (old mid new : List Request) → mid ≡ old → all ≡ rest ++ piece → IfFault fault (λ f. (new ≡ mid) × IsFaulty hello (rest ++ take n piece) f) → IfFault fault (λ f. (new ≡ old) × IsFaulty hello all f)
refused_if hello all rest piece n NoMemory old mid new same e bad = tt
refused_if hello all rest piece n (Fault fault) old mid new same e bad = (bad.0 ∙ same, refused hello all rest piece n fault e bad.1)

-- one request, and then the others
pub frames_first : (hello : Option Version) (bytes behind : List ℕ) (r : Request) (rs : List Request) (held : Held) → IsRequest hello r → bytes ≡ frame_of r ++ behind → Frames (hello_after hello r) behind rs held → Frames hello bytes (r ∷ rs) held
frames_first hello bytes behind r rs held is e later =
    record {
      after = later.after;
      rest = later.rest;
      follow = (is, later.follow);
      spelled = e ∙ ap (λ (t : List ℕ). frame_of r ++ t) later.spelled ∙ sym (append_assoc (frame_of r) (frames_of rs) later.rest);
      ends = later.ends;
    }

-- the request that was added to no other, and then those after it
pub frames_added : (hello after : Option Version) (bytes behind : List ℕ) (old mid later : List Request) (held : Held) → Adds hello bytes old mid after behind → old ≡ [] → Frames after behind later held → Frames hello bytes (mid ++ later) held
frames_added hello after bytes behind old mid later held adds none frames =
    let first = frames_first hello bytes behind adds.request later held adds.comes adds.spelled (subst (λ (h : Option Version). Frames h behind later held) adds.taken frames) in
    let list : adds.request ∷ later ≡ mid ++ later = ap (λ (t : List Request). t ++ later) (sym (adds.added ∙ ap (λ (t : List Request). t ++ adds.request ∷ []) none)) in
    subst (λ (t : List Request). Frames hello bytes t held) list first

-- no request: a beginning, or a fault
pub frames_begun : (hello : Option Version) (bytes rest : List ℕ) → rest ≡ bytes → IsBeginning hello rest → Frames hello bytes [] (open_at hello rest)
frames_begun hello bytes rest is begun =
    record { after = hello; rest = bytes; follow = refl; spelled = refl; ends = (refl, is, subst (λ (t : List ℕ). IsBeginning hello t) is begun) }

pub frames_failed : (hello : Option Version) (bytes : List ℕ) (fault : ProtocolFault) → IsFaulty hello bytes fault → Frames hello bytes [] (failed fault)
frames_failed hello bytes fault bad = record { after = hello; rest = bytes; follow = refl; spelled = refl; ends = bad }

-- the state after reading is sound
pub sound_after : (hello : Option Version) (bytes : List ℕ) (rs : List Request) (held : Held) → Frames hello bytes rs held → IsSoundHeld held
sound_after hello bytes rs (open_at h rest) f =
    let (hello-is, rest-is, begun) = f.ends in
    subst (λ (v : Option Version). IsBeginning v rest) (sym hello-is) (subst (λ (t : List ℕ). IsBeginning f.after t) (sym rest-is) begun)
sound_after hello bytes rs (failed fault) f = tt
