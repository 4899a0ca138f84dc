-- One more note: what it needs of each law, and that the history with it is regular.
use Rattle.plain_laws.proofs.Balances.{counted_at_step}
use Rattle.flow_rules.specs.declared.ids.FlowId.{FlowId}
use Rattle.flow_notes.specs.declared.notes.Note.{Note}
use Rattle.plain_laws.proofs.Streams.{each_live}
use Rattle.plain_laws.specs.Owing.{Owing}
use Rattle.plain_laws.specs.Regular.{Books, Regular}
use Rattle.std.proofs.Common.{ap, subst, sym}
use Rattle.std.proofs.Math.Seq.{take-append_seam}
use Rattle.std.specs.Bool.{OnTrue}
use Rattle.std.specs.List.{AllByRecursion}
use Rattle.std.specs.Prelude.{Bool, List, [], drop, false, length, max, nat_lt, true, ℕ, ◌++◌, ◌+◌, ◌∷◌, ◌≡◌, ◌≤◌}
use Rattle.plain_laws.specs.Words.{Past, Alive}
use Rattle.tape_laws.specs.Bounds.{IsBounded, StagesBounded}
use Rattle.tape_laws.specs.Causes.{HasCause}
use Rattle.tape_laws.specs.Demands.{Answers, MeetsFirst, OnlyAsked}
use Rattle.tape_laws.specs.Doomed.{LeavesDoomed, SweepsLast}
use Rattle.tape_laws.specs.Framing.{KeepsEnds}
use Rattle.tape_laws.specs.Flows.{request}
use Rattle.tape_laws.specs.History.{BeforeTurn, NoMark, Noted}
use Rattle.tape_laws.specs.Order.{InTurn}
use Rattle.tape_laws.specs.Pauses.{PausesInOrder}
use Rattle.tape_laws.specs.Plain.{plain_body, plain_setup}
use Rattle.tape_laws.specs.PlainSession.{plain_session}
use Rattle.tape_laws.specs.PlainTape.{IsPlainLawful}
use Rattle.tape_laws.specs.Quiet.{IsQuiet}
use Rattle.tape_laws.specs.Release.{MayStand}
use Rattle.tape_laws.specs.Sources.{EachLive}
use Rattle.tape_laws.specs.Tied.{IsFront, IsTied}
use Rattle.tape_laws.specs.Units.{Demand}
use Rattle.tape_laws.specs.World.{out, received, recv, send}
use Rattle.tape_laws.specs.declared.PlainLimits.{PlainLimits}

-- the note may stand here, by each law that looks at what stood before it
pub record MayAdd (limits : PlainLimits) (n : Note) (h : Past) : Type 0 where
  pub allowed : MayStand (plain_setup limits) (Noted n) h
  pub paused : PausesInOrder (plain_setup limits) (Noted n) h
  pub ends : KeepsEnds (plain_setup limits) (Noted n) h
  pub in_turn : InTurn (plain_setup limits) (Noted n) h
  pub doomed : LeavesDoomed (Noted n) h
  pub swept : SweepsLast (Noted n) h
  pub answered : Answers (plain_session limits) (Noted n) h
  pub only : OnlyAsked (plain_session limits) (Noted n) h
  pub quiet : BeforeTurn (IsQuiet (plain_session limits)) (Noted n) h
  pub licensed : HasCause (plain_setup limits) (Noted n) h

lawful_more : (limits : PlainLimits) (n : Note) (h : Past) → IsPlainLawful limits h → MayAdd limits n h
    → IsBounded (plain_setup limits) (Noted n ∷ h) → IsTied (plain_setup limits) (Noted n ∷ h) → IsPlainLawful limits (Noted n ∷ h)
lawful_more limits n h l m bounded tied = record {
  allowed = (m.allowed, l.allowed);
  paused = (m.paused, l.paused);
  counted = (counted_at_step limits n h l m.paused, l.counted);
  bounded = (bounded, l.bounded);
  tied = (tied, l.tied);
  ends = (m.ends, l.ends);
  in_turn = (m.in_turn, l.in_turn);
  doomed = (m.doomed, l.doomed);
  swept = (m.swept, l.swept);
  answered = (m.answered, l.answered);
  only = (m.only, l.only);
  licensed = (m.licensed, l.licensed);
  may = (tt, l.may);
  quiet = (m.quiet, l.quiet);
}

-- a fact under a test follows from another
pub under_test : (b : Bool) (A B : Type 0) → (A → B) → OnTrue b A → OnTrue b B
under_test true A B f a = f a
under_test false A B f a = tt

-- a fact under a test may be asked of each
each_under : (limits : PlainLimits) (b : Bool) (P : FlowId → Type 0) (h : Past) → ((x : ℕ) → Alive h x → OnTrue b (P (request x)))
    → OnTrue b (EachLive (plain_setup limits) P h)
each_under limits true P h f = each_live limits P h f
each_under limits false P h f = tt

pub bounded_of : (limits : PlainLimits) (o : Owing) (h : Past) → Books limits o h → IsBounded (plain_setup limits) h
bounded_of limits o h s = record {
  recv = each_live limits (λ g. length (recv (plain_setup limits) g h) ≤ limits.recv) h (λ x e. (s.each x e).recv_room);
  stages = each_live limits (λ g. StagesBounded (plain_setup limits) g 1 [] h) h (λ x e. tt);
  send = each_under limits (nat_lt 0 limits.send) (λ g. length (send (plain_setup limits) g h) ≤ limits.send + limits.quantum) h (λ x e. (s.each x e).send_room);
  write = under_test (nat_lt 0 limits.write) _ _ (λ le. subst (AllByRecursion (λ c. length (out (plain_setup limits) c h) ≤ limits.write + max 65536 (limits.quantum + 9))) (sym s.known) (le, tt)) s.write_room;
  together = tt;
}

front_of : (xs ys zs : List ℕ) → ys ≡ xs ++ zs → IsFront xs ys
front_of xs ys zs e = rw e (take-append_seam xs zs)

pub tied_of : (limits : PlainLimits) (o : Owing) (h : Past) → Books limits o h → IsTied (plain_setup limits) h
tied_of limits o h s =
    each_live limits (λ g. IsFront (received g h) (plain_body g.exchange h)) h (λ x e. front_of _ _ (o.extra x) (s.each x e).read)

module _ (limits : PlainLimits) (o : Owing) where
  pub regular_more : (o' : Owing) (n : Note) (h : Past) → Regular limits o h → MayAdd limits n h → Books limits o' (Noted n ∷ h)
      → Regular limits o' (Noted n ∷ h)
  regular_more o' n h r m s = record {
    lawful = lawful_more limits n h r.lawful m (bounded_of limits o' (Noted n ∷ h) s) (tied_of limits o' (Noted n ∷ h) s);
    books = s;
  }

-- where nothing is owed any note may stand
pub free_meets : (limits : PlainLimits) (ds : List Demand) (n : Note) → ds ≡ [] → MeetsFirst {Mark = NoMark} (plain_setup limits) [] (Noted n)
    → MeetsFirst {Mark = NoMark} (plain_setup limits) ds (Noted n)
free_meets limits ds n e m = subst (λ (v : List Demand). MeetsFirst {Mark = NoMark} (plain_setup limits) v (Noted n)) (sym e) m

-- what met the first that was owed leaves the rest, and asks for nothing
pub nothing_owed : (ds : List Demand) → ds ≡ [] → drop 1 ds ≡ []
nothing_owed ds e = ap (drop 1) e

pub one_owed : (d : Demand) (ds : List Demand) → ds ≡ d ∷ [] → drop 1 ds ≡ []
one_owed d ds e = ap (drop 1) e
