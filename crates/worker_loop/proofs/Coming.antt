-- The connections that came, by the steps of a history.
use Rattle.flow_notes.specs.declared.events.Event.TheVariants as event
use Rattle.flow_notes.specs.declared.events.Event.{Event}
use Rattle.flow_notes.specs.declared.notes.Note.TheVariants as note
use Rattle.flow_notes.specs.declared.notes.Note.{Note}
use Rattle.std.proofs.Common.{ap, append_assoc, arith, inl, inr, refl, sym, ◌∙◌, ◌⊎◌}
use Rattle.std.proofs.lemmas.Bool.Decides.{nat_tests}
use Rattle.std.proofs.lemmas.List.Folds.{list_any-append}
use Rattle.std.proofs.lemmas.List.{append-nil}
use Rattle.std.specs.Prelude.{Bool, List, [], false, true, ℕ, ◌++◌, ◌<◌, ◌==◌, ◌||◌, ◌∷◌, ◌≡◌, ◌≤◌}
use Rattle.tape_laws.specs.Connections.{connections}
use Rattle.tape_laws.specs.Dispatches.{has}
use Rattle.tape_laws.specs.History.{Marked, Noted}
use Rattle.wire_state.specs.Ways.{WayHistory, WayStep, after, shown, world_setup}
use Rattle.wire_state.specs.Worlds.{IsFresh}
use Rattle.worker_loop.specs.Parts.{CameUpTo, turn_events}
use Rattle.worker_loop.specs.Works.{is_inner}

-- ---- steps, in two parts
pub after_append : (a b : List WayStep) (h : WayHistory) → after (a ++ b) h ≡ after b (after a h)
after_append [] b h = refl
after_append (s ∷ a) b h = after_append a b (s ∷ h)

pub shown_append : (a b : List WayStep) → shown (a ++ b) ≡ shown a ++ shown b
shown_append [] b = refl
shown_append (Noted n ∷ a) b = ap (λ (ns : List Note). n ∷ ns) (shown_append a b)
shown_append (Marked m ∷ a) b = shown_append a b

-- ---- the connections that came
-- those of these events
abbrev pub came_in : List Event → List ℕ
came_in [] = []
came_in (event.Accept c ∷ es) = c ∷ came_in es
came_in (event.Join c cluster ∷ es) = c ∷ came_in es
came_in (e ∷ es) = came_in es

came_more : (xs ys : List ℕ) (c : ℕ) (zs : List ℕ) → zs ≡ (xs ++ c ∷ []) ++ ys → zs ≡ xs ++ c ∷ ys
came_more xs ys c zs e = e ∙ append_assoc xs (c ∷ []) ys

conns_after : (steps : List WayStep) (h : WayHistory) → connections world_setup (after steps h) ≡ connections world_setup h ++ came_in (turn_events (shown steps))
conns_after [] h = sym (append-nil (connections world_setup h))
conns_after (Marked m ∷ ss) h = conns_after ss (Marked m ∷ h)
conns_after (Noted (note.Turn k (event.Accept c)) ∷ ss) h =
    came_more (connections world_setup h) (came_in (turn_events (shown ss))) c (connections world_setup (after ss (Noted (note.Turn k (event.Accept c)) ∷ h))) (conns_after ss (Noted (note.Turn k (event.Accept c)) ∷ h))
conns_after (Noted (note.Turn k (event.Join c cluster)) ∷ ss) h =
    came_more (connections world_setup h) (came_in (turn_events (shown ss))) c (connections world_setup (after ss (Noted (note.Turn k (event.Join c cluster)) ∷ h))) (conns_after ss (Noted (note.Turn k (event.Join c cluster)) ∷ h))
conns_after (Noted (note.Turn k (event.Read c octets)) ∷ ss) h = conns_after ss (Noted (note.Turn k (event.Read c octets)) ∷ h)
conns_after (Noted (note.Turn k (event.Gone c)) ∷ ss) h = conns_after ss (Noted (note.Turn k (event.Gone c)) ∷ h)
conns_after (Noted (note.Turn k (event.Room c n)) ∷ ss) h = conns_after ss (Noted (note.Turn k (event.Room c n)) ∷ h)
conns_after (Noted (note.Turn k (event.Tick now)) ∷ ss) h = conns_after ss (Noted (note.Turn k (event.Tick now)) ∷ h)
conns_after (Noted (note.Turn k (event.Post poster number job)) ∷ ss) h = conns_after ss (Noted (note.Turn k (event.Post poster number job)) ∷ h)
conns_after (Noted (note.Turn k (event.Obey version pressures)) ∷ ss) h = conns_after ss (Noted (note.Turn k (event.Obey version pressures)) ∷ h)
conns_after (Noted (note.Turn k (event.Plain e)) ∷ ss) h = conns_after ss (Noted (note.Turn k (event.Plain e)) ∷ h)
conns_after (Noted (note.Arrive f octets) ∷ ss) h = conns_after ss (Noted (note.Arrive f octets) ∷ h)
conns_after (Noted (note.Move f p n) ∷ ss) h = conns_after ss (Noted (note.Move f p n) ∷ h)
conns_after (Noted (note.Frame c f n last) ∷ ss) h = conns_after ss (Noted (note.Frame c f n last) ∷ h)
conns_after (Noted (note.Out c n) ∷ ss) h = conns_after ss (Noted (note.Out c n) ∷ h)
conns_after (Noted (note.Pause f b) ∷ ss) h = conns_after ss (Noted (note.Pause f b) ∷ h)
conns_after (Noted (note.Resume f b) ∷ ss) h = conns_after ss (Noted (note.Resume f b) ∷ h)
conns_after (Noted (note.Credit c s n) ∷ ss) h = conns_after ss (Noted (note.Credit c s n) ∷ h)
conns_after (Noted (note.Head c s octets) ∷ ss) h = conns_after ss (Noted (note.Head c s octets) ∷ h)
conns_after (Noted (note.Answer c octets) ∷ ss) h = conns_after ss (Noted (note.Answer c octets) ∷ h)
conns_after (Noted (note.Waste c s n) ∷ ss) h = conns_after ss (Noted (note.Waste c s n) ∷ h)
conns_after (Noted (note.Start x c s d) ∷ ss) h = conns_after ss (Noted (note.Start x c s d) ∷ h)
conns_after (Noted (note.Doom x why) ∷ ss) h = conns_after ss (Noted (note.Doom x why) ∷ h)
conns_after (Noted (note.Gone x) ∷ ss) h = conns_after ss (Noted (note.Gone x) ∷ h)
conns_after (Noted (note.Close c code why) ∷ ss) h = conns_after ss (Noted (note.Close c code why) ∷ h)
conns_after (Noted (note.Fire k id) ∷ ss) h = conns_after ss (Noted (note.Fire k id) ∷ h)

or_either : (a b : Bool) → (a || b) ≡ true → (a ≡ true) ⊎ (b ≡ true)
or_either true b e = inl refl
or_either false b e = inr e

pub up_more : (n m : ℕ) (h : WayHistory) → n ≤ m → CameUpTo n h → CameUpTo m h
up_more n m h less up = λ c there. let most = up c there in omega (arith, most, less)

pub up_after : (n : ℕ) (steps : List WayStep) (h : WayHistory) → CameUpTo n h → ((c : ℕ) → has (came_in (turn_events (shown steps))) c ≡ true → c ≤ n) → CameUpTo n (after steps h)
up_after n steps h old new = λ c there. by c (or_either (has (connections world_setup h) c) (has (came_in (turn_events (shown steps))) c) (sym (both c) ∙ there))
  where
    both : (c : ℕ) → has (connections world_setup (after steps h)) c ≡ (has (connections world_setup h) c || has (came_in (turn_events (shown steps))) c)
    both c = ap (λ (xs : List ℕ). has xs c) (conns_after steps h) ∙ list_any-append (λ y. y == c) (connections world_setup h) (came_in (turn_events (shown steps)))

    by : (c : ℕ) → (has (connections world_setup h) c ≡ true) ⊎ (has (came_in (turn_events (shown steps))) c ≡ true) → c ≤ n
    by c (inl e) = old c e
    by c (inr e) = new c e

-- ---- an event that may be dispatched
-- a connection that comes is new, and its number isn't above n
pub record MayBe (e : Event) (n : ℕ) (h : WayHistory) : Type 0 where
  pub fresh : IsFresh e h
  pub up : (c : ℕ) → has (came_in (e ∷ [])) c ≡ true → c ≤ n

pub inner_may : (e : Event) (n : ℕ) (h : WayHistory) → is_inner e ≡ true → MayBe e n h
inner_may (event.Tick now) n h i = record { fresh = tt; up = λ c there. cc }
inner_may (event.Post poster number job) n h i = record { fresh = tt; up = λ c there. cc }
inner_may (event.Obey version pressures) n h i = record { fresh = tt; up = λ c there. cc }
inner_may (event.Accept c) n h i = cc
inner_may (event.Join c cluster) n h i = cc
inner_may (event.Read c octets) n h i = cc
inner_may (event.Gone c) n h i = cc
inner_may (event.Room c m) n h i = cc
inner_may (event.Plain e) n h i = cc

pub not_yet : (n c : ℕ) (h : WayHistory) → CameUpTo n h → n < c → has (connections world_setup h) c ≡ false
not_yet n c h up less = by (has (connections world_setup h) c) refl
  where
    by : (b : Bool) → has (connections world_setup h) c ≡ b → b ≡ false
    by true e = let most = up c e in absurd (omega (arith, most, less))
    by false e = refl

pub is_same : (c d : ℕ) → (c == d) ≡ true → c ≡ d
is_same c d e = grind (arith, nat_tests)

pub one_came : (c d n : ℕ) → n ≡ c → has (c ∷ []) d ≡ true → d ≤ n
one_came c d n is there = by (or_either (c == d) false there)
  where
    by : ((c == d) ≡ true) ⊎ (false ≡ true) → d ≤ n
    by (inl e) = let same = is_same c d e in omega (arith, same, is)
    by (inr e) = cc
