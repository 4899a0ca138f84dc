-- Small steps of a core: what is kept where flows and agenda alone change.
use Rattle.flow_rules.specs.declared.ids.BufferId.{BufferId}
use Rattle.flow_rules.specs.declared.ids.FlowId.{FlowId}
use Rattle.flow_rules.specs.Pausing.{CanPause}
use Rattle.flow_notes.specs.declared.notes.Note.{Note}
use Rattle.plain_laws.specs.Settled.{Settled as IsSettledHistory}
use Rattle.std.proofs.Common.{refl, sym, ◌∙◌}
use Rattle.std.specs.List.{AllByRecursion}
use Rattle.std.specs.Prelude.{Bool, Err, List, Ok, OnOk, [], false, true, ℕ, ◌∷◌, ◌≡◌}
use Rattle.plain_laws.specs.Words.{Past}
use Rattle.tape_laws.specs.Dispatches.{turns}
use Rattle.tape_laws.specs.Plain.{paired_with}
use Rattle.tape_laws.specs.declared.PlainLimits.{PlainLimits}
use Rattle.plain_core.proofs.Fronts.{NoTurn, appends_more}
use Rattle.plain_core.specs.Flows.{FlowsStand}
use Rattle.plain_core.specs.Noting.{pauses_of, rise_of}
use Rattle.plain_core.specs.Progress.{Underway}
use Rattle.plain_core.specs.Runs.{AreSpelled, Cuts, Keeps}
use Rattle.plain_core.specs.Stands.{BooksAre, Good}
use Rattle.plain_core.specs.declared.flows.Flows.{Flows}
use Rattle.plain_core.specs.declared.plain.PlainCore.{PlainCore}
use Rattle.plain_core.specs.Words.{HasFlows, Written}

-- flows and agenda alone differ
pub record OnlyMoves (old new : PlainCore) : Type 0 where
  pub config : new.config ≡ old.config
  pub turn : new.turn ≡ old.turn
  pub pairs : new.pairs ≡ old.pairs
  pub well : new.failed ≡ old.failed

pub books_kept : (old new : PlainCore) (h k : Past) → OnlyMoves old new → turns k ≡ turns h → ((x : ℕ) → paired_with x k ≡ paired_with x h) → BooksAre old h → BooksAre new k
books_kept old new h k o t p b = record {
  turn = o.turn ∙ b.turn ∙ sym t;
  pairs = λ s x. cc (p x, b.pairs s x);
  routes = rw o.config b.routes;
}

-- a core with other flows and another agenda
module _ (old new : PlainCore) (flows : Flows) where
  pub only_moves : HasFlows flows old new → OnlyMoves old new
  only_moves e = record {
    config = cc;
    turn = cc;
    pairs = cc;
    well = cc;
  }

  pub flows_are : HasFlows flows old new → new.flows ≡ flows
  flows_are e = cc

-- the core with other flows
abbrev pub with_flows : PlainCore → Flows → PlainCore
with_flows core flows = record core { flows = flows }

pub on_ok : {A : Type 0} (r : Written) → A → OnOk r A
on_ok (Ok u) a = a
on_ok (Err e) a = tt

-- a core stands after a step that is no turn
pub good_of : (limits : PlainLimits) (old new : PlainCore) (h k : Past) → OnlyMoves old new → turns k ≡ turns h → ((x : ℕ) → paired_with x k ≡ paired_with x h)
    → FlowsStand limits new.flows k → IsSettledHistory limits k → Underway limits old.pairs new.agenda k → Good limits old h → Good limits new k
good_of limits old new h k o t p f s u g = record {
  flows = record { stands = f; lawful = s };
  books = books_kept old new h k o t p g.books;
  underway = rw o.pairs u;
}

-- ---- one step after the other
module _ (a b c : PlainCore) (k l m : List Note) where
  pub keeps_more : Keeps a k b l → Keeps b l c m → Keeps a k c m
  keeps_more p q = record {
    appends = appends_more k l m p.appends q.appends;
    spelled = λ s. q.spelled (p.spelled s);
    events = λ h. q.events h ∙ p.events h;
    goes = λ limits h g. q.goes limits h (p.goes limits h g);
    well = q.well ∙ p.well;
  }

  pub keeps_then : (r : Written) → Keeps a k b l → OnOk r (Keeps b l c m) → OnOk r (Keeps a k c m)
  keeps_then (Ok u) p q = keeps_more p q
  keeps_then (Err e) p q = tt

pub cuts_more : (a b : PlainCore) (k l m : List Note) → Keeps a k b l → Cuts b l m → Cuts a k m
cuts_more a b k l m p q = record {
  appends = appends_more k l m p.appends q.appends;
  spelled = λ s. q.spelled (p.spelled s);
  events = λ h. q.events h ∙ p.events h;
  lawful = λ limits h g. q.lawful limits h (p.goes limits h g);
}

-- ---- the pauses of a rise
pub silent_rise : (rose : Bool) (b : BufferId) (fs : List FlowId) → AllByRecursion NoTurn (rise_of rose b fs)
silent_rise true b fs = each fs
  where
    each : (gs : List FlowId) → AllByRecursion NoTurn (pauses_of b gs)
    each [] = tt
    each (g ∷ gs) = (record { events = λ h. refl }, each gs)
silent_rise false b fs = tt

pub spelled_rise : (rose : Bool) (b : BufferId) (fs : List FlowId) → AllByRecursion (λ f. CanPause f b) fs → AreSpelled (rise_of rose b fs)
spelled_rise true b fs a = each fs a
  where
    each : (gs : List FlowId) → AllByRecursion (λ f. CanPause f b) gs → AreSpelled (pauses_of b gs)
    each [] r = tt
    each (g ∷ gs) r = (r.0, each gs r.1)
spelled_rise false b fs a = tt
