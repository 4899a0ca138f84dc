-- What a step leaves of a stream that it isn't about.
use Rattle.plain_laws.proofs.Extending.{under_test}
use Rattle.plain_laws.proofs.Flags.{send_same}
use Rattle.plain_laws.proofs.Greatest.{peak_kept}
use Rattle.plain_laws.proofs.Streams.{same_number}
use Rattle.plain_laws.specs.Owing.{Owing, only}
use Rattle.plain_laws.specs.Regular.{FlowBooks, IsUnborn, IsLiveFlow, IsRising}
use Rattle.std.proofs.Common.{inl, inr, refl, subst, sym, ◌∙◌, map}
use Rattle.std.specs.Bool.{OnTrue}
use Rattle.std.specs.Prelude.{Bool, List, [], false, length, nat_lt, ℕ, ◌++◌, ◌+◌, ◌==◌, ◌∷◌, ◌≡◌, ◌≤◌, ◌⊎◌, max}
use Rattle.plain_laws.specs.Words.{Past, end_out, lows_of, recv_at, send_at, send_high}
use Rattle.tape_laws.specs.Dispatches.{before_dispatch}
use Rattle.tape_laws.specs.Flows.{request}
use Rattle.tape_laws.specs.History.{NoMark, Step}
use Rattle.tape_laws.specs.Pauses.{pauses, resumes}
use Rattle.tape_laws.specs.Plain.{paired_with, plain_body, plain_ended}
use Rattle.tape_laws.specs.PlainSession.{plain_must_end}
use Rattle.tape_laws.specs.World.{received}
use Rattle.tape_laws.specs.declared.PlainLimits.{PlainLimits}
use Rattle.flow_rules.specs.declared.ids.BufferId.TheVariants as buffer
use Rattle.std.specs.List.{AllByRecursion}
use Rattle.flow_rules.specs.declared.ids.FlowId.{FlowId}

pub record Leaves (limits : PlainLimits) (x : ℕ) (step : Step NoMark) (h : Past) : Type 0 where
  pub recv : recv_at limits x (step ∷ h) ≡ recv_at limits x h
  pub send : send_at limits x (step ∷ h) ≡ send_at limits x h
  pub send_lows : lows_of limits x (step ∷ h) ≡ lows_of limits x h
  pub paused : pauses (request x) (step ∷ h) ≡ pauses (request x) h
  pub resumed : resumes (request x) (step ∷ h) ≡ resumes (request x) h
  pub body : plain_body x (step ∷ h) ≡ plain_body x h
  pub received : received (request x) (step ∷ h) ≡ received (request x) h
  pub framed : end_out limits x (step ∷ h) ≡ end_out limits x h

-- and of what the events said of it
pub record LeavesWords (x : ℕ) (step : Step NoMark) (h : Past) : Type 0 where
  pub ended : plain_ended x (step ∷ h) ≡ plain_ended x h
  pub pairs : paired_with x (step ∷ h) ≡ paired_with x h
  pub must : plain_must_end x (step ∷ h) ≡ plain_must_end x h

pub unborn_kept : (limits : PlainLimits) (x : ℕ) (step : Step NoMark) (h : Past) → Leaves limits x step h → LeavesWords x step h → IsUnborn limits x h → IsUnborn limits x (step ∷ h)
unborn_kept limits x step h l w u = record {
  recv = l.recv ∙ u.recv;
  send = l.send ∙ u.send;
  low = send_same limits (request x) step h l.send ∙ u.low;
  paused = l.paused ∙ u.paused;
  resumed = l.resumed ∙ u.resumed;
  body = l.body ∙ u.body;
  received = l.received ∙ u.received;
  goes_on = w.ended ∙ u.goes_on;
  alone = w.pairs ∙ u.alone;
  unframed = l.framed ∙ u.unframed;
  may_live = w.must ∙ u.may_live;
  recv_peak = peak_kept limits (buffer.Recv (request x)) step h (cc) refl ∙ u.recv_peak;
  send_peak = peak_kept limits (buffer.Send (request x)) step h (cc) refl ∙ u.send_peak;
}

pub same_len : (xs ys : List ℕ) (n : ℕ) → xs ≡ ys → length ys ≤ n → length xs ≤ n
same_len xs ys n e h = rw e h

pub same_len_if : (b : Bool) (xs ys : List ℕ) (n : ℕ) → xs ≡ ys → OnTrue b (length ys ≤ n) → OnTrue b (length xs ≤ n)
same_len_if b xs ys n e t = under_test b (length ys ≤ n) (length xs ≤ n) (same_len xs ys n e) t

-- a write buffer that stays as it was is within its bound, and is to be told to the same flows, each once
pub room_kept : (limits : PlainLimits) {xs ys : List ℕ} → xs ≡ ys → OnTrue (nat_lt 0 limits.write) (length ys ≤ limits.write + max 65536 (limits.quantum + 9)) → OnTrue (nat_lt 0 limits.write) (length xs ≤ limits.write + max 65536 (limits.quantum + 9))
room_kept limits e t = same_len_if (nat_lt 0 limits.write) _ _ (limits.write + max 65536 (limits.quantum + 9)) e t

pub lows_kept : (streams : List ℕ) {xs ys : List FlowId} → xs ≡ ys → AllByRecursion (IsLiveFlow streams) ys → AllByRecursion (IsLiveFlow streams) xs
lows_kept streams e all = subst (AllByRecursion (IsLiveFlow streams)) (sym e) all

pub once_kept : {xs ys : List FlowId} → xs ≡ ys → IsRising (map (λ f. f.exchange) ys) → IsRising (map (λ f. f.exchange) xs)
once_kept e r = rw e r

-- a send buffer that stays as it was is still to be told at most once
pub send_low_kept : (limits : PlainLimits) (x : ℕ) (step : Step NoMark) (h : Past)
    → send_at limits x (step ∷ h) ≡ send_at limits x h
    → lows_of limits x (step ∷ h) ≡ lows_of limits x h
    → (lows_of limits x h ≡ [])
    ⊎ ((lows_of limits x h ≡ request x ∷ []) × (send_high limits x h ≡ false))
    → (lows_of limits x (step ∷ h) ≡ [])
    ⊎ ((lows_of limits x (step ∷ h) ≡ request x ∷ []) × (send_high limits x (step ∷ h) ≡ false))
send_low_kept limits x step h es el (inl e) = inl (el ∙ e)
send_low_kept limits x step h es el (inr e) = inr (el ∙ e.0, send_same limits (request x) step h es ∙ e.1)

-- the books of a stream that the step isn't about
pub flow_kept : (limits : PlainLimits) (o o' : Owing) (x : ℕ) (step : Step NoMark) (h : Past) → Leaves limits x step h → FlowBooks limits o x h
    → o'.extra x ≡ o.extra x → end_out limits x (before_dispatch (step ∷ h)) ≡ false → FlowBooks limits o' x (step ∷ h)
flow_kept limits o o' x step h l f extra before = record {
  send_low = send_low_kept limits x step h l.send l.send_lows f.send_low;
  recv_room = same_len _ _ limits.recv l.recv f.recv_room;
  send_room = same_len_if (nat_lt 0 limits.send) _ _ (limits.send + limits.quantum) l.send f.send_room;
  read = l.body ∙ f.read ∙ rests (received (request x) h) _ _ _ l.received extra;
  over = λ t. let k = f.over (sym l.framed ∙ t) in (l.recv ∙ k.0, l.send ∙ k.1, extra ∙ k.2);
  unframed = before;
}
  where
    rests : (r e r' e' : List ℕ) → r' ≡ r → e' ≡ e → r ++ e ≡ r' ++ e'
    rests r e r' e' er ee = rw (er, ee) refl

-- ---- what came of a stream's body

pub only_own : (s : ℕ) (octets : List ℕ) → only s octets s ≡ octets
only_own s octets = cc (same_number s)

pub only_other : (s x : ℕ) (octets : List ℕ) → (s == x) ≡ false → only s octets x ≡ []
only_other s x octets e = cc
