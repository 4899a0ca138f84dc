-- Each note of a session's tape stands where its dispatch's event gives it, and nowhere else.
use Rattle.flow_rules.specs.declared.ids.FlowId.{FlowId}
use Rattle.flow_notes.specs.declared.events.Event.{Event}
use Rattle.flow_notes.specs.declared.notes.Note.{Note}
use Rattle.relay_laws.specs.Dispatch.{behind, dispatch_notes, paused_by, resumed_by, spread}
use Rattle.relay_laws.specs.Given.{carried, drained, ended, given, met, owed}
use Rattle.relay_laws.specs.Lawful.{StandsWhereGiven, TakesWhatIsThere}
use Rattle.relay_laws.specs.Pairs.{Tape, feed, free, goes_to, is_open, opposite}
use Rattle.relay_laws.specs.Session.{IsTape, MayRelayAll, relay_tape}
use Rattle.relay_laws.specs.Sound.{IsPaired, IsSound}
use Rattle.relay_laws.specs.Watermark.{drains_at, rises_at}
use Rattle.relay_laws.specs.World.{out}
use Rattle.relay_laws.specs.declared.Feed.{Feed}
use Rattle.std.proofs.Common.{ap, arith, refl, subst, sym}
use Rattle.std.specs.Prelude.{Bool, List, None, Option, Some, [], drop, false, if◌then◌else◌, is_none, length, min, nat_lt, true, ℕ, ◌&&◌, ◌+◌, ◌++◌, ◌<◌, ◌==◌, ◌∷◌, ◌≡◌, ◌≤◌}
use Rattle.tape_laws.specs.Dispatches.{events_back, turns}
use Rattle.tape_laws.specs.History.{EachFollows, Noted, onto}
use Rattle.tape_laws.specs.Pauses.{Heads}
use Rattle.tcp_relay.specs.AsGiven.{IsAsGiven}
use Rattle.tcp_relay.proofs.Boards.{onto_append}
use Rattle.tcp_relay.proofs.Dooms.{leaves_doomed}
use Rattle.tcp_relay.proofs.Sessions.{known}
use Rattle.tcp_relay.proofs.Tests.{if_some, is_below}
use Rattle.flow_rules.specs.declared.ids.BufferId.TheVariants as buffer
use Rattle.flow_notes.specs.declared.events.Event.TheVariants as event
use Rattle.flow_notes.specs.declared.notes.CloseCause.TheVariants as closed
use Rattle.flow_notes.specs.declared.notes.Note.TheVariants as note

-- octets that leave are there, and the opposite of what the connection feeds goes to it
record IsLeaving (past : Tape) (c n : ℕ) : Type 0 where
  to : (f : Feed) → feed c past ≡ Some f → goes_to (opposite f.flow) past ≡ Some c
  there : (0 < n) × (n ≤ length (out c past))

-- the note is one that events give
abbrev IsGiven : Tape → Note → Type 0
IsGiven past (note.Start x c s d) = Unit {0}
IsGiven past (note.Arrive f octets) = Unit {0}
IsGiven past (note.Out c n) = IsLeaving past c n
IsGiven past (note.Doom x why) = Unit {0}
IsGiven past (note.Gone x) = Unit {0}
IsGiven past (note.Close c code why) = Unit {0}
IsGiven past n = ⊥

abbrev next : ℕ → Note → Tape → Tape
next limit n past = onto (behind limit n past) (Noted n ∷ past)

abbrev AreGiven : ℕ → List Note → Tape → Type 0
AreGiven limit [] past = Unit {0}
AreGiven limit (n ∷ ns) past = IsGiven past n × AreGiven limit ns (next limit n past)

-- what stood is as it has to be, and this is what is still to stand
record Stood (ns : List Note) (past : Tape) : Type 0 where
  follows : EachFollows StandsWhereGiven past
  taken : EachFollows TakesWhatIsThere past
  left : owed past ≡ ns

module _ (limit : ℕ) (ns : List Note) (past : Tape) where
  heads : (n : Note) → owed past ≡ n ∷ ns → Heads n (owed past)
  heads n o = subst (λ l. Heads n l) (sym o) refl

  rest : (n : Note) → owed past ≡ n ∷ ns → drop 1 (owed past) ≡ ns
  rest n o = ap (λ l. drop 1 l) o

  arrives_if : (f : FlowId) (octets : List ℕ) (d : ℕ) → goes_to f past ≡ Some d → (b : Bool) → owed past ≡ note.Arrive f octets ∷ ns → EachFollows StandsWhereGiven past → EachFollows TakesWhatIsThere past
      → Stood ns (onto (if b then note.Pause f (buffer.Write d) ∷ [] else []) (Noted (note.Arrive f octets) ∷ past))
  arrives_if f octets d to true o k w = record { follows = (to, (heads (note.Arrive f octets) o, k)); taken = (tt, (tt, w)); left = rest (note.Arrive f octets) o }
  arrives_if f octets d to false o k w = record { follows = (heads (note.Arrive f octets) o, k); taken = (tt, w); left = rest (note.Arrive f octets) o }

  arrives : (f : FlowId) (octets : List ℕ) (t : Option ℕ) → goes_to f past ≡ t → owed past ≡ note.Arrive f octets ∷ ns → EachFollows StandsWhereGiven past → EachFollows TakesWhatIsThere past
      → Stood ns (onto (paused_by limit (note.Arrive f octets) past t) (Noted (note.Arrive f octets) ∷ past))
  arrives f octets None to o k w = record { follows = (heads (note.Arrive f octets) o, k); taken = (tt, w); left = rest (note.Arrive f octets) o }
  arrives f octets (Some d) to o k w = arrives_if f octets d to (rises_at limit d (Noted (note.Arrive f octets)) past) o k w

  leaves_if : (c n : ℕ) (f : Feed) → (0 < n) × (n ≤ length (out c past)) → goes_to (opposite f.flow) past ≡ Some c → (b : Bool) → owed past ≡ note.Out c n ∷ ns → EachFollows StandsWhereGiven past → EachFollows TakesWhatIsThere past
      → Stood ns (onto (if b then note.Resume (opposite f.flow) (buffer.Write c) ∷ [] else []) (Noted (note.Out c n) ∷ past))
  leaves_if c n f there to true o k w = record { follows = (to, (heads (note.Out c n) o, k)); taken = (tt, (there, w)); left = rest (note.Out c n) o }
  leaves_if c n f there to false o k w = record { follows = (heads (note.Out c n) o, k); taken = (there, w); left = rest (note.Out c n) o }

  leaves : (c n : ℕ) (t : Option Feed) → (0 < n) × (n ≤ length (out c past)) → ((f : Feed) → t ≡ Some f → goes_to (opposite f.flow) past ≡ Some c) → owed past ≡ note.Out c n ∷ ns → EachFollows StandsWhereGiven past → EachFollows TakesWhatIsThere past
      → Stood ns (onto (resumed_by limit c n past t) (Noted (note.Out c n) ∷ past))
  leaves c n None there to o k w = record { follows = (heads (note.Out c n) o, k); taken = (there, w); left = rest (note.Out c n) o }
  leaves c n (Some f) there to o k w = leaves_if c n f there (to f refl) (drains_at limit c (Noted (note.Out c n)) past) o k w

  one : (n : Note) → IsGiven past n → owed past ≡ n ∷ ns → EachFollows StandsWhereGiven past → EachFollows TakesWhatIsThere past → Stood ns (next limit n past)
  one (note.Start x c s d) g o k w = record { follows = (heads (note.Start x c s d) o, k); taken = (tt, w); left = rest (note.Start x c s d) o }
  one (note.Arrive f octets) g o k w = arrives f octets (goes_to f past) refl o k w
  one (note.Out c n) g o k w = leaves c n (feed c past) g.there g.to o k w
  one (note.Doom x why) g o k w = record { follows = (heads (note.Doom x why) o, k); taken = (tt, w); left = rest (note.Doom x why) o }
  one (note.Gone x) g o k w = record { follows = (heads (note.Gone x) o, k); taken = (tt, w); left = rest (note.Gone x) o }
  one (note.Close c code why) g o k w = record { follows = (heads (note.Close c code why) o, k); taken = (tt, w); left = rest (note.Close c code why) o }
  one (note.Turn n e) g o k w = absurd g
  one (note.Move f p n) g o k w = absurd g
  one (note.Frame c f n last) g o k w = absurd g
  one (note.Pause f b) g o k w = absurd g
  one (note.Resume f b) g o k w = absurd g
  one (note.Credit c s n) g o k w = absurd g
  one (note.Head c s octets) g o k w = absurd g
  one (note.Answer c octets) g o k w = absurd g
  one (note.Waste c s n) g o k w = absurd g
  one (note.Fire kind id) g o k w = absurd g

stood_all : (limit : ℕ) (ns : List Note) (past : Tape) → owed past ≡ ns → EachFollows StandsWhereGiven past → EachFollows TakesWhatIsThere past → AreGiven limit ns past → Stood [] (onto (spread limit ns past) past)
stood_all limit [] past o k w g = record { follows = k; taken = w; left = o }
stood_all limit (n ∷ ns) past o k w g =
    let here : Stood ns (next limit n past) = one limit ns past n g.0 o k w in
    subst (λ v. Stood [] v) (sym (onto_append (behind limit n past) (spread limit ns (next limit n past)) (Noted n ∷ past)))
    (stood_all limit ns (next limit n past) here.left here.follows here.taken g.1)

-- ---- what the events give
module _ (limit : ℕ) (h : Tape) (s : IsSound h) where
  given_met : (c : ℕ) (fs : List ℕ) (past : Tape) → AreGiven limit (met c fs h) past
  given_met c [] past = (tt, tt)
  given_met c (d ∷ ds) past = (tt, tt)

  given_carried : (octets : List ℕ) (o : Option Feed) (past : Tape) → AreGiven limit (carried octets o) past
  given_carried octets None past = tt
  given_carried octets (Some f) past = (tt, tt)

  given_close : (b : Bool) (c : ℕ) (past : Tape) → AreGiven limit (if b then note.Close c 0 closed.Drained ∷ [] else []) past
  given_close true c past = (tt, tt)
  given_close false c past = tt

  given_left : (c n : ℕ) (k : ℕ) (e : Event) (b : Bool) → (b ≡ true → IsLeaving (Noted (note.Turn k e) ∷ h) c n)
      → AreGiven limit (if b then note.Out c n ∷ drained c (length (drop n (out c h))) (feed c h) else []) (Noted (note.Turn k e) ∷ h)
  given_left c n k e true to = (to refl, given_close (length (drop n (out c h)) == 0 && is_none (feed c h)) c (next limit (note.Out c n) (Noted (note.Turn k e) ∷ h)))
  given_left c n k e false to = tt

  given_ended : (c : ℕ) (o : Option Feed) (past : Tape) → AreGiven limit (ended c o h) past
  given_ended c None past = tt
  given_ended c (Some f) past = (tt, (tt, given_close (length (out f.to h) == 0 && true) f.to _))

  given_lost : (b : Bool) (c : ℕ) (o : Option Feed) (past : Tape) → AreGiven limit ((if b then note.Close c 0 closed.Lost ∷ [] else []) ++ ended c o h) past
  given_lost true c o past = (tt, given_ended c o _)
  given_lost false c o past = given_ended c o past

  comes : (c : ℕ) (f : Feed) → feed c h ≡ Some f → goes_to (opposite f.flow) h ≡ Some c
  comes c f e = (if_some (feed c h) (IsPaired h c) f e (s.paired c)).comes

  fewer : (n l : ℕ) → min n l ≤ l
  fewer n l = omega arith

  given_room : (k c n : ℕ) → nat_lt 0 (min n (length (out c h))) ≡ true → IsLeaving (Noted (note.Turn k (event.Room c n)) ∷ h) c (min n (length (out c h)))
  given_room k c n e = record { to = comes c; there = (is_below 0 (min n (length (out c h))) e, fewer n (length (out c h))) }

  all_given : (k : ℕ) (e : Event) → AreGiven limit (given e h) (Noted (note.Turn k e) ∷ h)
  all_given k (event.Accept c) = given_met c (free h) (Noted (note.Turn k (event.Accept c)) ∷ h)
  all_given k (event.Read c octets) = given_carried octets (feed c h) (Noted (note.Turn k (event.Read c octets)) ∷ h)
  all_given k (event.Room c n) = given_left c (min n (length (out c h))) k (event.Room c n) (nat_lt 0 (min n (length (out c h)))) (given_room k c n)
  all_given k (event.Gone c) = given_lost (is_open c h) c (feed c h) (Noted (note.Turn k (event.Gone c)) ∷ h)
  all_given k (event.Join c j) = tt
  all_given k (event.Tick now) = tt
  all_given k (event.Post p n job) = tt
  all_given k (event.Obey v ps) = tt
  all_given k (event.Plain e) = tt

  stood_after : (e : Event) → Stood [] h → Stood [] (onto (dispatch_notes limit e h) h)
  stood_after e t = stood_all limit (given e h) (Noted (note.Turn (turns h + 1) e) ∷ h) refl ((refl, t.left), t.follows) (tt, t.taken) (all_given (turns h + 1) e)

-- ---- the tape of a session
module _ (limit : ℕ) (names : List (List ℕ)) where
  stood : (es : List Event) → MayRelayAll limit names es → Stood [] (relay_tape limit es)
  stood [] m = record { follows = tt; taken = tt; left = refl }
  stood (e ∷ es) m = stood_after limit (relay_tape limit es) (known limit names es m.1).sound e (stood es m.1)

  pub as_given : (h : Tape) → IsTape limit names h → IsAsGiven h
  as_given h t =
      let k : Stood [] (relay_tape limit (events_back h)) = stood (events_back h) t.follows in
      record {
        given = subst (λ v. EachFollows StandsWhereGiven v) (sym t.is) k.follows;
        taken = subst (λ v. EachFollows TakesWhatIsThere v) (sym t.is) k.taken;
        doomed = leaves_doomed limit names h t;
        done = subst (λ v. owed v ≡ []) (sym t.is) k.left;
      }
