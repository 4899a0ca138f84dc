-- The words of the clauses on the functions of the loop. Each says of a result what the call that gave it did.
use Rattle.flow_notes.specs.declared.events.Event.{Event}
use Rattle.flow_notes.specs.declared.notes.Note.{Note}
use Rattle.number_set.specs.NumberSet.{has}
use Rattle.post_queue.specs.declared.posts.Post.{Post}
use Rattle.session_run.specs.Ends.{AppendsFront}
use Rattle.shared_state.specs.declared.permit_rule.PermitView.{PermitView}
use Rattle.shared_state.specs.declared.permits.Permits.{Permits}
use Rattle.std.specs.Io.KnownBytes.{Appends}
use Rattle.std.specs.Prelude.{Bool, Err, List, None, Ok, Option, Result, Some, [], false, filter, if◌then◌else◌, length, map, true, ℕ, ◌++◌, ◌<◌, ◌∷◌, ◌≡◌, ◌≤◌, ◌⊎◌}
use Rattle.worker_core.specs.Sessions.{CarriesOut, IsNextOut, RestsWire, takes_clients}
use Rattle.worker_core.specs.declared.worker.Kind.{Kind}
use Rattle.worker_loop.specs.Carrying.{CarriedAll, is_done, named_in, post_event, room_event, waiting_at, events_in}
use Rattle.worker_loop.specs.Cutting.{Begun, Cuts, CutsOne}
use Rattle.worker_loop.specs.Did.{Did, Ended, Gave, Offered}
use Rattle.worker_loop.specs.Places.{Becomes, Place, closed_at, event_line, place_of, without_permit}
use Rattle.worker_loop.specs.Turns.{IsPiece, IsTurn, Offers, Sides, TakesUp, is_stop}
use Rattle.worker_loop.specs.Works.{BreaksTurn}
use Rattle.worker_loop.specs.declared.turns.Ended.{Ended as End}
use Rattle.worker_loop.specs.declared.turns.Ended.TheVariants as ended
use Rattle.worker_parts.specs.Held.{Asked}
use Rattle.worker_ports.specs.Wires.{Seen}
use Rattle.worker_ports.specs.declared.wires.Wired.{Wired}
use Rattle.worker_ports.specs.declared.wires.Wired.TheVariants as wired

-- ---- one event
-- a line was written, or a front of it, or nothing
abbrev pub KeepsText : List ℕ → Option (List ℕ) → Result (Unit {0}) End → Option (List ℕ) → Type 0
KeepsText line old (Ok u) new = Appends old new line
KeepsText line old (Err ended.JournalFault) new = AppendsFront old new line
KeepsText line old (Err ended.Memory) new = new ≡ old
KeepsText line old (Err end) new = ⊥

-- that of the event
abbrev pub KeepsLine : List (List ℕ) → Event → Option (List ℕ) → Result (Unit {0}) End → Option (List ℕ) → Type 0
KeepsLine names e = KeepsText (event_line names e)

-- its line was written and it was dispatched
abbrev pub DispatchesAs : List (List ℕ) → Event → Kind → Option (List ℕ) → Result (Unit {0}) End → Kind → List Note → Option (List ℕ) → Type 0
DispatchesAs names e k old (Ok u) k' notes new = CarriesOut k [] e k' notes × Appends old new (event_line names e)
DispatchesAs names e k old (Err ended.JournalFault) k' notes new = (k' ≡ k) × AppendsFront old new (event_line names e)
DispatchesAs names e k old (Err ended.Memory) k' notes new = (new ≡ old) ⊎ Appends old new (event_line names e)
DispatchesAs names e k old (Err end) k' notes new = ⊥

-- these events were carried out
pub record Carries (names : List (List ℕ)) (es : List Event) (k : Kind) (v : Place) (k' : Kind) (w : Place) : Type 0 where
  pub did : List Did
  pub all : CarriedAll es k did k'
  pub becomes : Becomes names v did w
  pub rests : RestsWire k'

-- the event was, if there is one
abbrev pub CarriesAs : List (List ℕ) → List Event → Kind → Place → Result (Unit {0}) End → Kind → Place → Type 0
CarriesAs names es k v (Ok u) k' w = Carries names es k v k' w
CarriesAs names es k v (Err end) k' w = CutsOne names end k v k' w

-- ---- the connections that are done with
-- where the connection is, it was ended, and else nothing was done
pub record EndsOne (k : Kind) (c : ℕ) (seen : Seen) (held : List ℕ) (seat : PermitView) (seen' : Seen) (held' : List ℕ) (seat' : PermitView) : Type 0 where
  pub goes : (text : Option (List ℕ)) (told : Option (List Note))
      → place_of text told seen' held' seat' ≡ (if is_done k c then without_permit c (closed_at c (place_of text told seen held seat)) else place_of text told seen held seat)

-- the number, if there is one
abbrev pub numbers_in : Option ℕ → List ℕ
numbers_in None = []
numbers_in (Some n) = n ∷ []

-- those that these notes name and that are done with
abbrev pub ends_in : Kind → List Note → List Did
ends_in k notes = map Ended (filter (is_done k) (named_in notes))

-- they were ended
pub record EndsAll (k : Kind) (notes : List Note) (seen : Seen) (held : List ℕ) (seat : PermitView) (seen' : Seen) (held' : List ℕ) (seat' : PermitView) : Type 0 where
  pub goes : (names : List (List ℕ)) (text : Option (List ℕ)) (told : Option (List Note)) → Becomes names (place_of text told seen held seat) (ends_in k notes) (place_of text told seen' held' seat')

-- ---- posts
-- so many of them were carried out, and the next one broke off
pub record RunsCut (names : List (List ℕ)) (posts : List Post) (end : End) (k : Kind) (v : Place) (k' : Kind) (w : Place) : Type 0 where
  pub done : List Post
  pub rest : List Post
  pub is : posts ≡ done ++ rest
  pub did : List Did
  pub kind : Kind
  pub mid : Place
  pub all : CarriedAll (map post_event done) k did kind
  pub becomes : Becomes names v did mid
  pub cut : CutsOne names end kind mid k' w

abbrev pub RunsAs : List (List ℕ) → List Post → Kind → Place → Result (Unit {0}) End → Kind → Place → Type 0
RunsAs names posts k v (Ok u) k' w = Carries names (map post_event posts) k v k' w
RunsAs names posts k v (Err end) k' w = RunsCut names posts end k v k' w

-- ---- what came
-- whether a client's connection is taken: one is, where the core takes some and a permit was given, which is kept
abbrev pub Admits : Kind → Permits → ℕ → PermitView → List ℕ → Bool → PermitView → List ℕ → Type 0
Admits k permits c seat held taken seat' held' =
    (takes_clients k ≡ false × ((taken ≡ false) × (seat' ≡ seat) × (held' ≡ held)))
    ⊎ (takes_clients k ≡ true × Asked c permits seat held taken seat' held')

-- what was given has an event in its ranges, and a client's connection that came has no permit
abbrev pub MayTakeUp : List (List ℕ) → Seen → List ℕ → Wired → Type 0
MayTakeUp names seen held (wired.Accept c) = (has held c ≡ false) × (c ≤ seen.greatest)
MayTakeUp names seen held (wired.Join c cluster) = cluster < length names
MayTakeUp names seen held (wired.Read c octets) = (0 < length octets) × (length octets ≤ 16384)
MayTakeUp names seen held given = Unit

-- it was taken up
pub record TakenUp (names : List (List ℕ)) (given : Wired) (k : Kind) (v : Place) (k' : Kind) (w : Place) : Type 0 where
  pub did : List Did
  pub takes : TakesUp k given did k'
  pub becomes : Becomes names v did w
  pub rests : RestsWire k'

-- its event broke off
pub record CutsUp (names : List (List ℕ)) (given : Wired) (end : End) (k : Kind) (v : Place) (k' : Kind) (w : Place) : Type 0 where
  pub head : List Did
  pub mid : Place
  pub begun : Begun (Gave given ∷ head)
  pub becomes : Becomes names v head mid
  pub cut : CutsOne names end k mid k' w

abbrev pub TakesUpAs : List (List ℕ) → Wired → Kind → Place → Result (Unit {0}) End → Kind → Place → Type 0
TakesUpAs names given k v (Ok u) k' w = TakenUp names given k v k' w
TakesUpAs names given k v (Err end) k' w = CutsUp names given end k v k' w

-- something was given and taken up
pub record Takes (names : List (List ℕ)) (k : Kind) (v : Place) (k' : Kind) (w : Place) (stops : Bool) : Type 0 where
  pub given : Wired
  pub did : List Did
  pub takes : TakesUp k given did k'
  pub becomes : Becomes names v (Gave given ∷ did) w
  pub stop : stops ≡ is_stop given
  pub rests : RestsWire k'

abbrev pub TakesAs : List (List ℕ) → Kind → Place → Result Bool End → Kind → Place → Type 0
TakesAs names k v (Ok stops) k' w = Takes names k v k' w stops
TakesAs names k v (Err end) k' w = Cuts names k v end k' w

-- ---- what waits
-- nothing waits for the connection, or a front of it was offered, and what it took is an event
pub data OffersOne (names : List (List ℕ)) (c : ℕ) (k : Kind) (v : Place) : Kind → Place → Type 0 where
  NothingWaits : waiting_at c k ≡ [] → OffersOne names c k v k v
  SomeWaits : (n : ℕ) (piece : List ℕ) (did : List Did) (k' : Kind) (w : Place) → IsPiece k c piece → n ≤ length piece → CarriedAll (events_in (room_event c n)) k did k'
      → Becomes names v (Offered c piece n ∷ did) w → OffersOne names c k v k' w

abbrev pub OffersAs : List (List ℕ) → ℕ → Kind → Place → Result (Unit {0}) End → Kind → Place → Type 0
OffersAs names c k v (Ok u) k' w = OffersOne names c k v k' w × RestsWire k'
OffersAs names c k v (Err end) k' w = Cuts names k v end k' w

-- offers were made, the last to this connection
pub record OffersSome (names : List (List ℕ)) (last : ℕ) (k : Kind) (v : Place) (k' : Kind) (w : Place) : Type 0 where
  pub did : List Did
  pub offers : Offers k did last k'
  pub becomes : Becomes names v did w

-- what waits was offered
pub record OffersAll (names : List (List ℕ)) (k : Kind) (v : Place) (k' : Kind) (w : Place) : Type 0 where
  pub last : ℕ
  pub some : OffersSome names last k v k' w
  pub none : IsNextOut k' last None
  pub rests : RestsWire k'

-- after some offers the next one broke off
pub record OffersCut (names : List (List ℕ)) (end : End) (k : Kind) (v : Place) (k' : Kind) (w : Place) : Type 0 where
  pub last : ℕ
  pub kind : Kind
  pub mid : Place
  pub some : OffersSome names last k v kind mid
  pub cuts : Cuts names kind mid end k' w

abbrev pub OffersAllAs : List (List ℕ) → Kind → Place → Result (Unit {0}) End → Kind → Place → Type 0
OffersAllAs names k v (Ok u) k' w = OffersAll names k v k' w
OffersAllAs names k v (Err end) k' w = OffersCut names end k v k' w

-- ---- a turn
abbrev pub TurnsAs : List (List ℕ) → Sides → Kind → Place → Result Bool End → Sides → Kind → Place → Type 0
TurnsAs names old k v (Ok stops) new k' w = IsTurn names old k v new k' w stops × RestsWire k'
TurnsAs names old k v (Err end) new k' w = BreaksTurn names end old k v new k' w
