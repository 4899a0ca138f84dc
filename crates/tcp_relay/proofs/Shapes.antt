-- The notes of a dispatch, by what its event meets.
use Rattle.flow_notes.specs.declared.events.Event.{Event}
use Rattle.flow_notes.specs.declared.notes.Note.{Note}
use Rattle.relay_laws.specs.Dispatch.{dispatch_notes, paused_by, resumed_by, spread}
use Rattle.relay_laws.specs.Given.{carried, drained, ended, left_by, met}
use Rattle.relay_laws.specs.Pairs.{Tape, feed, free, goes_to, is_open, opposite, pairs}
use Rattle.relay_laws.specs.Watermark.{drains_at, rises_at}
use Rattle.relay_laws.specs.World.{out}
use Rattle.relay_laws.specs.declared.Feed.{Feed}
use Rattle.std.proofs.Common.{ap, refl, sym, ◌∙◌}
use Rattle.std.specs.Prelude.{Bool, List, None, Option, Some, [], drop, false, if◌then◌else◌, is_none, length, min, nat_lt, true, ℕ, ◌&&◌, ◌+◌, ◌++◌, ◌==◌, ◌∷◌, ◌≡◌}
use Rattle.tape_laws.specs.Dispatches.{turns}
use Rattle.tape_laws.specs.History.{Noted, onto}
use Rattle.flow_rules.specs.declared.ids.BufferId.TheVariants as buffer
use Rattle.flow_rules.specs.declared.causes.Cause.TheVariants as cause
use Rattle.flow_notes.specs.declared.notes.CloseCause.TheVariants as closed
use Rattle.flow_notes.specs.declared.events.Event.TheVariants as event
use Rattle.flow_notes.specs.declared.notes.Note.TheVariants as note

-- the pause of a flow whose write buffer rose
abbrev pub pause_if : Bool → Feed → List Note
pause_if b f = if b then note.Pause f.flow (buffer.Write f.to) ∷ [] else []

-- the resume of the flow to a connection, where its write buffer drained and the pair is live
abbrev pub resume_if : Bool → Option Feed → ℕ → List Note
resume_if b None c = []
resume_if b (Some f) c = if b then note.Resume (opposite f.flow) (buffer.Write c) ∷ [] else []

-- the close of a connection whose pair is doomed, where nothing waits for it
abbrev pub close_if : Bool → ℕ → List Note
close_if b c = if b then note.Close c 0 closed.Drained ∷ [] else []

none_behind : (ns : List Note) → ns ++ [] ≡ ns
none_behind [] = refl
none_behind (n ∷ ns) = ap (λ ms. n ∷ ms) (none_behind ns)

spread_close : (limit : ℕ) (b : Bool) (c : ℕ) (past : Tape) → spread limit (close_if b c) past ≡ close_if b c
spread_close limit true c past = refl
spread_close limit false c past = refl

spread_if : (limit : ℕ) (b : Bool) (d : ℕ) (past : Tape) → spread limit (if b && true then note.Close d 0 closed.Drained ∷ [] else []) past ≡ close_if b d
spread_if limit true d past = refl
spread_if limit false d past = refl

module _ (limit : ℕ) (h : Tape) where
  abbrev pub turn_of : Event → Note
  turn_of e = note.Turn (turns h + 1) e

  -- ---- a connection comes
  pub refuses : (c : ℕ) → free h ≡ [] → dispatch_notes limit (event.Accept c) h ≡ turn_of (event.Accept c) ∷ note.Close c 0 closed.Overload ∷ []
  refuses c e = ap (λ (fs : List ℕ). spread limit (turn_of (event.Accept c) ∷ met c fs h) h) e

  pub pairs_two : (c d : ℕ) (ds : List ℕ) → free h ≡ d ∷ ds
      → dispatch_notes limit (event.Accept c) h ≡ turn_of (event.Accept c) ∷ note.Start (pairs h + 1) c 0 d ∷ []
  pairs_two c d ds e = ap (λ (fs : List ℕ). spread limit (turn_of (event.Accept c) ∷ met c fs h) h) e

  -- ---- octets come
  pub reads_nothing : (c : ℕ) (octets : List ℕ) → feed c h ≡ None → dispatch_notes limit (event.Read c octets) h ≡ turn_of (event.Read c octets) ∷ []
  reads_nothing c octets e = ap (λ (o : Option Feed). spread limit (turn_of (event.Read c octets) ∷ carried octets o) h) e

  abbrev pub rose : ℕ → List ℕ → Feed → Bool
  rose c octets f = rises_at limit f.to (Noted (note.Arrive f.flow octets)) (Noted (turn_of (event.Read c octets)) ∷ h)

  pub reads_some : (c : ℕ) (octets : List ℕ) (f : Feed) → feed c h ≡ Some f → goes_to f.flow h ≡ Some f.to
      → dispatch_notes limit (event.Read c octets) h ≡ turn_of (event.Read c octets) ∷ note.Arrive f.flow octets ∷ pause_if (rose c octets f) f
  reads_some c octets f e g =
      ap (λ (o : Option Feed). spread limit (turn_of (event.Read c octets) ∷ carried octets o) h) e
      ∙ ap (λ (o : Option ℕ). turn_of (event.Read c octets) ∷ note.Arrive f.flow octets
      ∷ paused_by limit (note.Arrive f.flow octets) (Noted (turn_of (event.Read c octets)) ∷ h) o ++ []) g
      ∙ ap (λ ns. turn_of (event.Read c octets) ∷ note.Arrive f.flow octets ∷ ns) (none_behind (pause_if (rose c octets f) f))

  -- ---- octets leave
  abbrev pub low : ℕ → ℕ → ℕ → Bool
  low c n m = drains_at limit c (Noted (note.Out c m)) (Noted (turn_of (event.Room c n)) ∷ h)

  pub leaves_none : (c n : ℕ) → nat_lt 0 (min n (length (out c h))) ≡ false → dispatch_notes limit (event.Room c n) h ≡ turn_of (event.Room c n) ∷ []
  leaves_none c n e = ap (λ (b : Bool). spread limit (turn_of (event.Room c n) ∷ (if b then note.Out c (min n (length (out c h))) ∷ drained c (length (drop (min n (length (out c h))) (out c h))) (feed c h) else [])) h) e

  resumed_is : (c n m : ℕ) (o : Option Feed) → resumed_by limit c m (Noted (turn_of (event.Room c n)) ∷ h) o ≡ resume_if (low c n m) o c
  resumed_is c n m None = refl
  resumed_is c n m (Some f) = refl

  pub leaves_some : (c n m : ℕ) → m ≡ min n (length (out c h)) → nat_lt 0 m ≡ true
      → dispatch_notes limit (event.Room c n) h
      ≡ turn_of (event.Room c n) ∷ note.Out c m ∷ resume_if (low c n m) (feed c h) c ++ close_if (length (drop m (out c h)) == 0 && is_none (feed c h)) c
  leaves_some c n m is e =
      ap (λ (k : ℕ). spread limit (turn_of (event.Room c n) ∷ left_by c k h) h) (sym is)
      ∙ ap (λ (b : Bool). spread limit (turn_of (event.Room c n) ∷ (if b then note.Out c m ∷ drained c (length (drop m (out c h))) (feed c h) else [])) h) e
      ∙ (λ i. turn_of (event.Room c n) ∷ note.Out c m ∷ resumed_is c n m (feed c h) i
      ++ spread_close limit (length (drop m (out c h)) == 0 && is_none (feed c h)) c (onto (note.Out c m ∷ resumed_by limit c m (Noted (turn_of (event.Room c n)) ∷ h) (feed c h)) (Noted (turn_of (event.Room c n)) ∷ h)) i)

  -- ---- a connection is lost
  pub loses_nothing : (c : ℕ) → is_open c h ≡ false → feed c h ≡ None → dispatch_notes limit (event.Gone c) h ≡ turn_of (event.Gone c) ∷ []
  loses_nothing c o e = λ i. spread limit (turn_of (event.Gone c) ∷ (if o i then note.Close c 0 closed.Lost ∷ [] else []) ++ ended c (e i) h) h

  pub loses_alone : (c : ℕ) → is_open c h ≡ true → feed c h ≡ None
      → dispatch_notes limit (event.Gone c) h ≡ turn_of (event.Gone c) ∷ note.Close c 0 closed.Lost ∷ []
  loses_alone c o e = λ i. spread limit (turn_of (event.Gone c) ∷ (if o i then note.Close c 0 closed.Lost ∷ [] else []) ++ ended c (e i) h) h

  pub loses_pair : (c : ℕ) (f : Feed) → is_open c h ≡ true → feed c h ≡ Some f
      → dispatch_notes limit (event.Gone c) h
      ≡ turn_of (event.Gone c) ∷ note.Close c 0 closed.Lost ∷ note.Doom f.flow.exchange (cause.ConnLost c) ∷ note.Gone f.flow.exchange
      ∷ close_if (length (out f.to h) == 0) f.to
  loses_pair c f o e =
      (λ i. spread limit (turn_of (event.Gone c) ∷ (if o i then note.Close c 0 closed.Lost ∷ [] else []) ++ ended c (e i) h) h)
      ∙ (λ i. turn_of (event.Gone c) ∷ note.Close c 0 closed.Lost ∷ note.Doom f.flow.exchange (cause.ConnLost c) ∷ note.Gone f.flow.exchange
      ∷ spread_if limit (length (out f.to h) == 0) f.to (Noted (note.Gone f.flow.exchange) ∷ Noted (note.Doom f.flow.exchange (cause.ConnLost c)) ∷ Noted (note.Close c 0 closed.Lost) ∷ Noted (turn_of (event.Gone c)) ∷ h) i)
