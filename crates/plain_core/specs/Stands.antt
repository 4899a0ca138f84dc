-- What a core stands for: a history whose octets, counts and pairs it keeps, and what of it is under way.
use Rattle.std.specs.BTreeMap.{get}
use Rattle.std.specs.Ordering.{nat_cmp}
use Rattle.std.specs.Prelude.{All, Bool, List, [], false, length, take, ℕ, ◌<◌, ◌∷◌, ◌≡◌}
use Rattle.flow_notes.specs.declared.events.Event.{Event}
use Rattle.flow_notes.specs.declared.notes.Note.{Note}
use Rattle.proxy_config.specs.Ranges.{IsRoute}
use Rattle.tape_laws.specs.Dispatches.{events_back, has, is_some_of, turns}
use Rattle.tape_laws.specs.Following.{MayFollowAll}
use Rattle.tape_laws.specs.History.{History, NoMark, onto}
use Rattle.tape_laws.specs.Plain.{paired_with, plain_setup}
use Rattle.tape_laws.specs.PlainTape.{IsPlainWhole}
use Rattle.tape_laws.specs.World.{out}
use Rattle.tape_laws.specs.declared.PlainLimits.{PlainLimits}
use Rattle.plain_core.specs.Flows.{Settled}
use Rattle.plain_core.specs.Progress.{Underway}
use Rattle.plain_core.specs.declared.plain.PlainCore.{PlainCore}

-- the pairs and the dispatches
pub record BooksAre (core : PlainCore) (h : History NoMark) : Type 0 where
  pub turn : core.turn ≡ turns h
  pub pairs : (s x : ℕ) → has (paired_with x h) s ≡ is_some_of (get nat_cmp core.pairs s) x
  pub routes : All IsRoute core.config.routes

-- between two small steps
pub record Good (limits : PlainLimits) (core : PlainCore) (h : History NoMark) : Type 0 where
  pub flows : Settled limits core.flows h
  pub books : BooksAre core h
  pub underway : Underway limits core.pairs core.agenda h

-- between dispatches: nothing is under way, and nothing is left to do
pub record Rests (limits : PlainLimits) (core : PlainCore) (h : History NoMark) : Type 0 where
  pub good : Good limits core h
  pub whole : IsPlainWhole limits h
  pub idle : core.agenda ≡ []
  pub well : core.failed ≡ false

-- there is a history at which the core rests, and after which the event may follow
pub record CanTake (core : PlainCore) (e : Event) (notes : List Note) : Type 0 where
  pub limits : PlainLimits
  pub history : History NoMark
  pub rests : Rests limits core (onto notes history)
  pub follows : MayFollowAll (e ∷ events_back (onto notes history))

-- the core ran out of memory, or not
abbrev pub HasFailed : PlainCore → Bool → Type 0
HasFailed core failed = core.failed ≡ failed

-- these octets are a front of those that wait for the connection's socket, and there are some where any wait
pub record WaitsInFront (core : PlainCore) (octets : List ℕ) : Type 0 where
  pub front : (limits : PlainLimits) (h : History NoMark) → Rests limits core h → octets ≡ take (length octets) (out (plain_setup limits) 0 h)
  pub some : (limits : PlainLimits) (h : History NoMark) → Rests limits core h → 0 < length (out (plain_setup limits) 0 h) → 0 < length octets
