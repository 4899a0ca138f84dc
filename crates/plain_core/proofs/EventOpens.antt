-- What an event does to a core beside its notes, and that the core is good then.
use Rattle.plain_laws.specs.Words.{Past, Alive, conn_lows}
use Rattle.tape_laws.specs.Doomed.{is_swept}
use Rattle.flow_rules.specs.declared.ids.FlowId.{FlowId}
use Rattle.plain_laws.proofs.Streams.{not_both}
use Rattle.plain_laws.specs.Settled.{Settled as IsSettledHistory}
use Rattle.std.proofs.Common.{inl, inr, refl, subst, sym, ◌∙◌}
use Rattle.std.specs.BTreeMap.{get}
use Rattle.std.specs.List.{AllByRecursion, list_any}
use Rattle.std.specs.Ordering.{nat_cmp}
use Rattle.std.specs.Prelude.{Bool, [], false, true, ℕ, ◌+◌, ◌∷◌, ◌≡◌, ◌⊎◌}
use Rattle.tape_laws.specs.Dispatches.{has, is_some_of, turns}
use Rattle.tape_laws.specs.Flows.{request}
use Rattle.tape_laws.specs.Plain.{paired_with}
use Rattle.tape_laws.specs.PlainSession.{plain_must_end}
use Rattle.tape_laws.specs.declared.PlainLimits.{PlainLimits}
use Rattle.plain_core.specs.Agenda.{Agenda, is_rounded, is_run_of, is_telling, with_run}
use Rattle.plain_core.specs.Carries.{Lives, may_move}
use Rattle.plain_core.specs.Flows.{FlowsStand}
use Rattle.plain_core.specs.Progress.{HasReason, Pairs, Underway}
use Rattle.plain_core.specs.Stands.{Good, Rests}
use Rattle.plain_core.specs.declared.flows.Flows.{Flows}
use Rattle.plain_core.specs.declared.plain.PlainCore.{PlainCore}
use Rattle.plain_core.specs.declared.agenda.Task.TheVariants as task

-- the flows, pairs and agenda are these, and one more dispatch began
pub record IsOpened (old : PlainCore) (f : Flows) (p : Pairs) (a : Agenda) (new : PlainCore) : Type 0 where
  pub turn : new.turn ≡ old.turn + 1
  pub flows : new.flows ≡ f
  pub pairs : new.pairs ≡ p
  pub agenda : new.agenda ≡ a
  pub routes : new.config.routes ≡ old.config.routes
  pub failed : new.failed ≡ old.failed

pub opened_turn : (old mid new : PlainCore) → mid.turn ≡ old.turn → mid.agenda ≡ old.agenda → mid.config.routes ≡ old.config.routes → mid.failed ≡ old.failed → new.turn ≡ mid.turn + 1
    → new.agenda ≡ task.Round ∷ mid.agenda → new ≡ record mid { turn = new.turn; agenda = new.agenda } → IsOpened old mid.flows mid.pairs (task.Round ∷ old.agenda) new
opened_turn old mid new et ea ec ef nt na rest = record {
  turn = cc;
  flows = cc;
  pairs = cc;
  agenda = cc;
  routes = cc;
  failed = cc;
}

-- and more was begun
module _ (old mid new : PlainCore) (f : Flows) (p : Pairs) (a : Agenda) where
  pub opened_more : (b : Agenda) → IsOpened old f p a mid → (mid.agenda ≡ a → new.agenda ≡ b) → new ≡ record mid { agenda = new.agenda } → IsOpened old f p b new
  opened_more b o na rest = record {
    turn = cc;
    flows = cc;
    pairs = cc;
    agenda = na o.agenda;
    routes = cc;
    failed = cc;
  }

  pub opened_run : (g : FlowId) → IsOpened old f p a mid → new.agenda ≡ with_run g mid.agenda → new ≡ record mid { agenda = new.agenda }
      → IsOpened old f p (with_run g a) new
  opened_run g o na rest = opened_more (with_run g a) o (λ e. cc) rest

-- the number of the turn note
module _ (limits : PlainLimits) where
  pub turn_number : (core : PlainCore) (k : ℕ) (h : Past) → Rests limits core h → k ≡ core.turn + 1 → k ≡ turns h + 1
  turn_number core k h r ek = cc

  pub good_of : (old new : PlainCore) (f : Flows) (p : Pairs) (a b : Agenda) (h new_h : Past) → IsOpened old f p a new → Rests limits old h → (old.agenda ≡ [] → a ≡ b)
      → FlowsStand limits f new_h → IsSettledHistory limits new_h → turns new_h ≡ turns h + 1 → ((s x : ℕ) → has (paired_with x new_h) s ≡ is_some_of (get nat_cmp p s) x)
      → Underway limits p b new_h → Good limits new new_h
  good_of old new f p a b h new_h o r ea st law et ep u =
      record {
        flows = record { stands = rw o.flows st; lawful = law };
        books = record {
          turn = cc;
          pairs = λ s x. cc (ep s x);
          routes = rw o.routes r.good.books.routes;
        };
        underway = rw o.pairs (subst (λ (v : Agenda). Underway limits p v new_h) (sym (o.agenda ∙ ea r.idle)) u);
      }

  -- where the pairs stay as they were
  pub pairs_kept : (core : PlainCore) (h new_h : Past) → Rests limits core h → ((x : ℕ) → paired_with x new_h ≡ paired_with x h)
      → (s x : ℕ) → has (paired_with x new_h) s ≡ is_some_of (get nat_cmp core.pairs s) x
  pairs_kept core h new_h r e s x = cc (e x, r.good.books.pairs s x)

  pub underway_of : (p : Pairs) (a : Agenda) (h : Past) → ((x : ℕ) → Alive h x → may_move limits x h ≡ true → list_any (is_run_of (request x)) a ≡ true)
      → ((conn_lows limits h ≡ []) ⊎ (list_any (is_telling 0) a ≡ true))
      → ((x : ℕ) → Alive h x → plain_must_end x h ≡ false) → AllByRecursion (HasReason limits h) a → is_rounded a ≡ true → is_swept h ≡ false → Underway limits p a h
  underway_of p a h runs tells ends reasons rounded fresh = record {
    runs = runs;
    tells = tells;
    ends = λ x is t. not_both _ t (ends x is);
    reasons = reasons;
    unswept = inr fresh;
    rested = inl rounded;
  }

  -- only the round is begun, and nothing may move
  pub underway_round : (p : Pairs) (h : Past) → ((x : ℕ) → Alive h x → may_move limits x h ≡ false)
      → conn_lows limits h ≡ [] → ((x : ℕ) → Alive h x → plain_must_end x h ≡ false) → is_swept h ≡ false
      → Underway limits p (task.Round ∷ []) h
  underway_round p h still told unended fresh = underway_of p (task.Round ∷ []) h (λ x is t. not_both _ t (still x is)) (inl told) unended (tt, tt) refl fresh

-- over a core whose flows alone changed
pub opened_given : (old mid new : PlainCore) → mid ≡ record old { flows = mid.flows } → new.turn ≡ mid.turn + 1 → new.agenda ≡ task.Round ∷ mid.agenda
    → new ≡ record mid { turn = new.turn; agenda = new.agenda } → IsOpened old mid.flows old.pairs (task.Round ∷ old.agenda) new
opened_given old mid new e nt na rest = record {
  turn = cc;
  flows = cc;
  pairs = cc;
  agenda = cc;
  routes = cc;
  failed = cc;
}

pub lives_is : (flows : Flows) (x : ℕ) (b v : Bool) → b ≡ v → Lives flows x b → Lives flows x v
lives_is flows x b v e l = rw (← e) l

pub number_given : (old mid : PlainCore) (k : ℕ) → mid ≡ record old { flows = mid.flows } → k ≡ mid.turn + 1 → k ≡ old.turn + 1
number_given old mid k e ek = cc
