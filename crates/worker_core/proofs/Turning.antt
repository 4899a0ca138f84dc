-- The notes of a dispatch, behind its turn note.
use Rattle.flow_notes.specs.declared.events.Event.{Event}
use Rattle.flow_notes.specs.declared.notes.Note.{Note}
use Rattle.flow_notes.specs.declared.notes.Note.TheVariants as note
use Rattle.proxy_config.specs.declared.config.Config.{Config}
use Rattle.std.proofs.Common.{ap, append-nil, append_assoc, refl, subst, sym, ◌∙◌}
use Rattle.std.specs.Prelude.{List, [], ℕ, ◌++◌, ◌∷◌, ◌≡◌}
use Rattle.tape_laws.specs.Headline.{Headline}
use Rattle.tape_laws.specs.World.{gone}
use Rattle.wire_state.proofs.Counted.{rests_headline}
use Rattle.wire_state.specs.Counts.{EachHeeds}
use Rattle.wire_state.specs.Marks.{AreWays}
use Rattle.wire_state.specs.Noting.{Appends}
use Rattle.wire_state.specs.Tapes.{tape_setup}
use Rattle.wire_state.specs.Ways.{WayHistory, after, world_setup}
use Rattle.wire_state.specs.Worlds.{IsFresh}
use Rattle.worker_core.specs.Dispatching.{Tells}
use Rattle.worker_core.specs.Sessions.{CarriesOut, GoesOn, KeepsTo, PromisesAt, SameConfig, StandsAt, WaysAt, left_at}
use Rattle.worker_core.specs.declared.worker.Kind.{Kind}
use Rattle.worker_core.specs.declared.worker.Kind.TheVariants as kind

pub told : (number : ℕ) (e : Event) (before turned after : List Note) → turned ≡ before ++ note.Turn number e ∷ [] → Appends turned after → Tells number e before after
told number e before turned after is a =
    let x = a.goes turned (record { added = []; is = sym (append-nil turned); steps = tt }) in
    record { added = x.added; is = x.is ∙ (ap (λ (t : List Note). t ++ x.added) is ∙ append_assoc before (note.Turn number e ∷ []) x.added); steps = x.steps }

-- a core that stood for a history stands for it with the notes of an event that was carried out
pub goes_on : (k : Kind) (e : Event) (new : Kind) (notes : List Note) → CarriesOut k [] e new notes → (h : WayHistory) → StandsAt k h → IsFresh e h → GoesOn k h (left_at e k (λ c. gone world_setup c h)) new notes
goes_on (kind.Wire old) e (kind.Wire new) notes carries h stands fresh =
    let told = carries.octets.goes h (λ c. gone world_setup c h) stands (λ c. refl) fresh in
    record {
      steps = told.steps;
      is = told.is;
      stands = record { stands = told.stands; counts = told.counts };
      left = told.left;
      under = told.under;
      ways = subst (λ (v : Config). AreWays v h → AreWays v (after told.steps h)) told.under told.ways;
    }
goes_on (kind.Wire old) e (kind.Plain new) notes carries h stands fresh = absurd carries
goes_on (kind.Plain old) e new notes carries h stands fresh = absurd stands

-- ---- the configuration stays
pub same_under : (k : Kind) (h : WayHistory) → StandsAt k h → SameConfig k k
same_under (kind.Wire session) h stands = refl
same_under (kind.Plain core) h stands = absurd stands

pub under_more : (a b c : Kind) → SameConfig a b → SameConfig b c → SameConfig a c
under_more (kind.Wire a) (kind.Wire b) (kind.Wire c) one two = two ∙ one
under_more (kind.Wire a) (kind.Wire b) (kind.Plain c) one two = absurd two
under_more (kind.Wire a) (kind.Plain b) c one two = absurd one
under_more (kind.Plain a) b c one two = absurd one

pub ways_under : (a b : Kind) (h : WayHistory) → SameConfig a b → WaysAt a h → WaysAt b h
ways_under (kind.Wire a) (kind.Wire b) h same ways = subst (λ (v : Config). AreWays v h) (sym same) ways
ways_under (kind.Wire a) (kind.Plain b) h same ways = absurd same
ways_under (kind.Plain a) b h same ways = absurd same

pub ways_back : (a b : Kind) (h : WayHistory) → SameConfig a b → WaysAt b h → WaysAt a h
ways_back (kind.Wire a) (kind.Wire b) h same ways = subst (λ (v : Config). AreWays v h) same ways
ways_back (kind.Wire a) (kind.Plain b) h same ways = absurd same
ways_back (kind.Plain a) b h same ways = absurd same

-- ---- the promise
pub stands_promise : (old new : Kind) (h : WayHistory) → SameConfig old new → StandsAt new h → PromisesAt old h
stands_promise (kind.Wire old) (kind.Wire new) h same stands = subst (λ (v : Config). Headline (tape_setup v.limits) h) same (rests_headline new.core.conns new.core.flows new.core.links h stands)
stands_promise (kind.Wire old) (kind.Plain new) h same stands = absurd same
stands_promise (kind.Plain old) new h same stands = absurd same

pub stands_keep : (old new : Kind) (h : WayHistory) → SameConfig old new → StandsAt new h → KeepsTo old h
stands_keep (kind.Wire old) (kind.Wire new) h same stands = (stands.stands.taking, subst (λ (v : Config). EachHeeds v.limits h) same stands.counts.turns)
stands_keep (kind.Wire old) (kind.Plain new) h same stands = absurd same
stands_keep (kind.Plain old) new h same stands = absurd same
