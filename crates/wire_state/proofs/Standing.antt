-- A core goes on to stand for its tape, with each kind of step.
use Rattle.exchange_core.proofs.Maps.{eq_by_number}
use Rattle.exchange_core.specs.Flow.{Flow}
use Rattle.flow_rules.specs.declared.ids.BufferId.{BufferId}
use Rattle.flow_rules.specs.declared.ids.FlowId.{FlowId}
use Rattle.flow_notes.specs.declared.notes.CloseCause.{CloseCause}
use Rattle.proxy_config.specs.declared.config.LimitKeys.{LimitKeys}
use Rattle.std.proofs.Common.{ap, arith, refl, subst, sym, ◌∙◌}
use Rattle.std.proofs.lemmas.List.{append-nil}
use Rattle.paged_map.specs.PagedMap.{PagedMap, WritesThrough, value_at}
use Rattle.std.specs.Option.{option_map_or}
use Rattle.std.specs.Prelude.{Bool, IfSome, IsSome, List, None, Option, Some, [], cond, drop, false, if◌then◌else◌, is_some, length, not, true, ℕ, ◌++◌, ◌+◌, ◌==◌, ◌||◌, ◌∷◌, ◌≡◌, ◌≤◌}
use Rattle.tape_laws.specs.Connections.{connections, was_closed}
use Rattle.tape_laws.specs.Dispatches.{has, started}
use Rattle.tape_laws.specs.Flows.{request, response}
use Rattle.tape_laws.specs.History.{Noted}
use Rattle.tape_laws.specs.Units.{StageKind}
use Rattle.tape_laws.specs.World.{out, place, received, sent, window_update}
use Rattle.wire_flows.proofs.Cases.{by_case}
use Rattle.wire_flows.specs.Flows.{Flows, flow_in}
use Rattle.wire_links.specs.Links.{Links, ends_of, is_known}
use Rattle.wire_links.specs.declared.links.exchanges.Ends.{Ends}
use Rattle.wire_state.proofs.Fitting.{fits_now, less_out, outs_fit, still_fits}
use Rattle.wire_state.proofs.Held.{by_test, is_number}
use Rattle.wire_state.proofs.Marked.{marks_go}
use Rattle.wire_state.proofs.Sending.{IsStill, fronts_still, still_loses, unborn_still}
use Rattle.wire_state.specs.Limits.{HasShape, OutFits}
use Rattle.wire_state.specs.Marks.{is_opened}
use Rattle.wire_state.specs.Taking.{TakesWhatLies}
use Rattle.wire_state.specs.Ways.{WayHistory, WayStep, stages_passed, stream_to, world_setup}
use Rattle.wire_state.specs.Worlds.{EndsAre, FlowIs, Stands, has_conn, is_shut, left_by, octets_of}
use Rattle.wire_state.specs.declared.conn.Conn.{Conn}
use Rattle.flow_notes.specs.declared.notes.CloseCause.TheVariants as cause
use Rattle.flow_notes.specs.declared.notes.Note.TheVariants as note

pub if_some : {A : Type 0} {P Q : A → Type 0} (o : Option A) → ((a : A) → P a → Q a) → IfSome o P → IfSome o Q
if_some None f p = tt
if_some (Some a) f p = f a p

-- ---- connections
-- each connection's octets are these now; the same are there, and the same are open
pub record ConnsAre (change : ℕ → List ℕ → List ℕ) (old new : PagedMap Conn) : Type 0 where
  pub octets : (c : ℕ) → octets_of c new ≡ change c (octets_of c old)
  pub shut : (c : ℕ) → is_shut c new ≡ is_shut c old
  pub there : (c : ℕ) → has_conn c new ≡ has_conn c old

abbrev pub same_octets : ℕ → List ℕ → List ℕ
same_octets c octets = octets

pub conns_same : (conns : PagedMap Conn) → ConnsAre same_octets conns conns
conns_same conns = record { octets = λ c. refl; shut = λ c. refl; there = λ c. refl }

abbrev pub at_one : ℕ → (List ℕ → List ℕ) → ℕ → List ℕ → List ℕ
at_one n g c octets = if n == c then g octets else octets

pub as_if : {X : Type 0} (b : Bool) (x y : X) → cond b x y ≡ (if b then x else y)
as_if true x y = refl
as_if false x y = refl

-- one connection was written through
module _ (n : ℕ) (old new : PagedMap Conn) (v w : Conn) (found : value_at n old ≡ Some v) (written : WritesThrough n old w new) where
  pub now_at : (q : ℕ) → value_at q new ≡ (if n == q then Some w else value_at q old)
  now_at q =
      (written.3 (subst (λ (o : Option Conn). IsSome o) (sym found) refl)).0 q
      ∙ (ap (λ b. cond b (Some w) (value_at q old)) (eq_by_number n q) ∙ as_if (n == q) (Some w) (value_at q old))

  here : (c : ℕ) → (n == c) ≡ true → value_at c old ≡ Some v
  here c e = ap (λ q. value_at q old) (sym (is_number n c e)) ∙ found

  pub there_now : (c : ℕ) → (n == c) ≡ true → value_at c new ≡ Some w
  there_now c e = now_at c ∙ ap (λ b. if b then Some w else value_at c old) e

  pub other_now : (c : ℕ) → (n == c) ≡ false → value_at c new ≡ value_at c old
  other_now c e = now_at c ∙ ap (λ b. if b then Some w else value_at c old) e

  abbrev octets_in_it : Option Conn → List ℕ
  octets_in_it o = option_map_or (λ conn. conn.outlet.write.octets) o []

  abbrev shut_it : Option Conn → Bool
  shut_it o = option_map_or (λ conn. not conn.open) o false

  pub octets_written : (g : List ℕ → List ℕ) → w.outlet.write.octets ≡ g v.outlet.write.octets → (c : ℕ) → octets_of c new ≡ at_one n g c (octets_of c old)
  octets_written g octets c = by_test (n == c)
      (λ e. ap octets_in_it (there_now c e) ∙ (octets ∙ sym (ap (λ o. g (octets_in_it o)) (here c e))))
      (λ e. ap octets_in_it (other_now c e))

  pub there_written : (c : ℕ) → has_conn c new ≡ has_conn c old
  there_written c = by_case (n == c) (λ e. ap is_some (there_now c e) ∙ sym (ap is_some (here c e))) (λ e. ap is_some (other_now c e))

  pub conns_written : (g : List ℕ → List ℕ) → w.outlet.write.octets ≡ g v.outlet.write.octets → w.open ≡ v.open → ConnsAre (at_one n g) old new
  conns_written g octets opened = record {
    octets = octets_written g octets;
    shut = λ c. by_case (n == c)
        (λ e. ap shut_it (there_now c e) ∙ (ap not opened ∙ sym (ap shut_it (here c e))))
        (λ e. ap shut_it (other_now c e));
    there = there_written;
  }

-- where its octets fit, those of each do
pub one_room : (l : LimitKeys) (n : ℕ) (old new : PagedMap Conn) (v w : Conn) (found : value_at n old ≡ Some v) (written : WritesThrough n old w new) → (OutFits l v.outlet.write.octets → OutFits l w.outlet.write.octets)
    → (c : ℕ) → OutFits l (octets_of c old) → OutFits l (octets_of c new)
one_room l n old new v w found written room c fit = by_case (n == c)
    (λ e. subst (λ (o : Option Conn). OutFits l (option_map_or (λ conn. conn.outlet.write.octets) o [])) (sym (there_now n old new v w found written c e))
    (room (subst (λ (o : Option Conn). OutFits l (option_map_or (λ conn. conn.outlet.write.octets) o [])) (here n old new v w found written c e) fit)))
    (λ e. subst (λ (o : Option Conn). OutFits l (option_map_or (λ conn. conn.outlet.write.octets) o [])) (sym (other_now n old new v w found written c e)) fit)

-- ---- steps that move no octets
-- what a step leaves of all but the write buffers
pub record KeepsFlows (step : WayStep) (h : WayHistory) : Type 0 where
  pub places : (f : FlowId) (p : ℕ) → place world_setup f p (step ∷ h) ≡ place world_setup f p h
  pub stages : (f : FlowId) → stages_passed f (step ∷ h) ≡ stages_passed f h
  pub stream : (f : FlowId) → stream_to f (step ∷ h) ≡ stream_to f h
  pub came : (f : FlowId) → received f (step ∷ h) ≡ received f h
  pub went : (f : FlowId) → sent world_setup f (step ∷ h) ≡ sent world_setup f h
  pub began : started (step ∷ h) ≡ started h
  pub opened : (x : ℕ) → is_opened x (step ∷ h) ≡ is_opened x h

pub record KeepsShut (step : WayStep) (h : WayHistory) : Type 0 where
  pub closed : (c : ℕ) → was_closed c (step ∷ h) ≡ was_closed c h
  pub come : (c : ℕ) → has (connections world_setup (step ∷ h)) c ≡ false → has (connections world_setup h) c ≡ false

-- what it makes of the write buffers, and that it takes no octets that aren't there
pub record Writes (change : ℕ → List ℕ → List ℕ) (step : WayStep) (h : WayHistory) : Type 0 where
  pub outs : (c : ℕ) → out world_setup c (step ∷ h) ≡ change c (out world_setup c h)
  pub taken : TakesWhatLies step h

-- a flow of which nothing moves
pub flow_still : {l : LimitKeys} → (f : FlowId) (h k : WayHistory) → IsStill f h k → (flow : Flow) → FlowIs l f h flow → FlowIs l f k flow
flow_still {l} f h k s flow is = record {
  last = is.last ∙ sym (ap (λ (ss : List StageKind). length ss + 1) s.stages);
  holds = λ p. is.holds p ∙ sym (s.places p);
  loses = still_loses f h k s is.loses;
  shape = subst (λ (ss : List StageKind). HasShape l ss flow) (sym s.stages) is.shape;
}

-- of each flow
step_still : (step : WayStep) (h : WayHistory) → KeepsFlows step h → (f : FlowId) → IsStill f h (step ∷ h)
step_still step h k f = record { places = k.places f; stages = k.stages f; came = k.came f; went = k.went f }

flow_is_still : {l : LimitKeys} → (step : WayStep) (h : WayHistory) → KeepsFlows step h → (f : FlowId) (flow : Flow) → FlowIs l f h flow → FlowIs l f (step ∷ h) flow
flow_is_still step h k f flow is = flow_still f h (step ∷ h) (step_still step h k f) flow is

pub ends_are_still : (step : WayStep) (h : WayHistory) → ((f : FlowId) → stream_to f (step ∷ h) ≡ stream_to f h) → (x : ℕ) (e : Ends) → EndsAre x h e → EndsAre x (step ∷ h) e
ends_are_still step h s x e is = record { client = is.client ∙ sym (s (response x)); cluster = if_some e.cluster_stream (λ k at. at ∙ sym (s (request x))) is.cluster }

-- a step of the connections
pub wrote : {l : LimitKeys} → (change : ℕ → List ℕ → List ℕ) (step : WayStep) (h : WayHistory) (old new : PagedMap Conn) (flows : Flows) (links : Links)
    → Writes change step h → KeepsFlows step h → KeepsShut step h → ConnsAre change old new → ((c : ℕ) → OutFits l (octets_of c old) → OutFits l (octets_of c new)) → Stands l old flows links h → Stands l new flows links (step ∷ h)
wrote {l} change step h old new flows links w k m c room s = record {
  writes = now;
  flows_are = λ f. if_some (flow_in flows f) (flow_is_still step h k f) (s.flows_are f);
  empty = λ f p none. k.places f p ∙ s.empty f p none;
  ends = λ x. if_some (ends_of x links) (ends_are_still step h k.stream x) (s.ends x);
  known = λ d e. c.there d ∙ s.known d e;
  closed = λ d e. m.closed d ∙ (s.closed d (sym (c.there d) ∙ e) ∙ sym (c.shut d));
  come = λ d e. let never = s.come d (m.come d e) in (c.there d ∙ never.0, m.closed d ∙ never.1);
  unborn = unborn_still flows flows h (step ∷ h) refl (λ f none. none) (λ f none. (k.came f, k.went f)) s.unborn;
  fronts = fronts_still step h k.came k.went s.fronts;
  taking = (w.taken, s.taking);
  fits = let fit = fits_now h s.fits in
      (record { flows = λ f. still_fits f h (step ∷ h) (step_still step h k f) (fit.flows f); outs = outs_fit l old new h (step ∷ h) s.writes now room fit.outs }, s.fits);
  marks = marks_go flows flows links links h (step ∷ h) refl (λ x. refl) k.began k.opened s.marks;
}
  where
    now : (d : ℕ) → octets_of d new ≡ out world_setup d (step ∷ h)
    now d = c.octets d ∙ (ap (change d) (s.writes d) ∙ sym (w.outs d))

-- no step
pub conns_go : {l : LimitKeys} → (old new : PagedMap Conn) (flows : Flows) (links : Links) (h : WayHistory) → ConnsAre same_octets old new → Stands l old flows links h → Stands l new flows links h
conns_go old new flows links h c s = record {
  writes = λ d. c.octets d ∙ s.writes d;
  flows_are = s.flows_are;
  empty = s.empty;
  ends = s.ends;
  known = λ d e. c.there d ∙ s.known d e;
  closed = λ d e. s.closed d (sym (c.there d) ∙ e) ∙ sym (c.shut d);
  come = λ d e. let never = s.come d e in (c.there d ∙ never.0, never.1);
  unborn = s.unborn;
  fronts = s.fronts;
  taking = s.taking;
  fits = s.fits;
  marks = s.marks;
}

-- ---- the kinds of steps
pub more_is : (b : Bool) (xs octets : List ℕ) → xs ++ (if b then octets else []) ≡ (if b then xs ++ octets else xs)
more_is true xs octets = refl
more_is false xs octets = append-nil xs

less_is : (b : Bool) (n : ℕ) (xs : List ℕ) → drop (if b then n else 0) xs ≡ (if b then drop n xs else xs)
less_is true n xs = refl
less_is false n xs = refl

module _ (h : WayHistory) where
  -- octets go into a write buffer
  module _ (c : ℕ) (octets : List ℕ) where
    pub head_writes : (s : ℕ) → Writes (at_one c (λ xs. xs ++ octets)) (Noted (note.Head c s octets)) h
    head_writes s = record { outs = λ d. more_is (c == d) (out world_setup d h) octets; taken = tt }

    pub head_flows : (s : ℕ) → KeepsFlows (Noted (note.Head c s octets)) h
    head_flows s = record { places = λ f p. refl; stages = λ f. refl; stream = λ f. refl; came = λ f. refl; went = λ f. refl; began = refl; opened = λ x. refl }

    pub head_shut : (s : ℕ) → KeepsShut (Noted (note.Head c s octets)) h
    head_shut s = record { closed = λ d. refl; come = λ d e. e }

    pub answer_writes : Writes (at_one c (λ xs. xs ++ octets)) (Noted (note.Answer c octets)) h
    answer_writes = record { outs = λ d. more_is (c == d) (out world_setup d h) octets; taken = tt }

    pub answer_flows : KeepsFlows (Noted (note.Answer c octets)) h
    answer_flows = record { places = λ f p. refl; stages = λ f. refl; stream = λ f. refl; came = λ f. refl; went = λ f. refl; began = refl; opened = λ x. refl }

    pub answer_shut : KeepsShut (Noted (note.Answer c octets)) h
    answer_shut = record { closed = λ d. refl; come = λ d e. e }

  module _ (c s n : ℕ) where
    pub credit_writes : Writes (at_one c (λ xs. xs ++ window_update s n)) (Noted (note.Credit c s n)) h
    credit_writes = record { outs = λ d. more_is (c == d) (out world_setup d h) (window_update s n); taken = tt }

    pub credit_flows : KeepsFlows (Noted (note.Credit c s n)) h
    credit_flows = record { places = λ f p. refl; stages = λ f. refl; stream = λ f. refl; came = λ f. refl; went = λ f. refl; began = refl; opened = λ x. refl }

    pub credit_shut : KeepsShut (Noted (note.Credit c s n)) h
    credit_shut = record { closed = λ d. refl; come = λ d e. e }

  -- octets leave one
  module _ (c n : ℕ) where
    pub out_writes : n ≤ length (out world_setup c h) → Writes (at_one c (drop n)) (Noted (note.Out c n)) h
    out_writes few = record { outs = λ d. less_is (c == d) n (out world_setup d h); taken = few }

    pub out_flows : KeepsFlows (Noted (note.Out c n)) h
    out_flows = record { places = λ f p. refl; stages = λ f. refl; stream = λ f. refl; came = λ f. refl; went = λ f. refl; began = refl; opened = λ x. refl }

    pub out_shut : KeepsShut (Noted (note.Out c n)) h
    out_shut = record { closed = λ d. refl; come = λ d e. e }

  -- nothing moves
  module _ (f : FlowId) (b : BufferId) where
    pub pause_writes : Writes same_octets (Noted (note.Pause f b)) h
    pause_writes = record { outs = λ d. refl; taken = tt }

    pub pause_flows : KeepsFlows (Noted (note.Pause f b)) h
    pause_flows = record { places = λ f p. refl; stages = λ f. refl; stream = λ f. refl; came = λ f. refl; went = λ f. refl; began = refl; opened = λ x. refl }

    pub pause_shut : KeepsShut (Noted (note.Pause f b)) h
    pause_shut = record { closed = λ d. refl; come = λ d e. e }

    pub resume_writes : Writes same_octets (Noted (note.Resume f b)) h
    resume_writes = record { outs = λ d. refl; taken = tt }

    pub resume_flows : KeepsFlows (Noted (note.Resume f b)) h
    resume_flows = record { places = λ f p. refl; stages = λ f. refl; stream = λ f. refl; came = λ f. refl; went = λ f. refl; began = refl; opened = λ x. refl }

    pub resume_shut : KeepsShut (Noted (note.Resume f b)) h
    resume_shut = record { closed = λ d. refl; come = λ d e. e }

-- ---- a connection is closed
-- one connection that is there isn't open any more, with these octets
pub record Shuts (n : ℕ) (g : List ℕ → List ℕ) (old new : PagedMap Conn) : Type 0 where
  pub was : has_conn n old ≡ true
  pub octets : (c : ℕ) → octets_of c new ≡ at_one n g c (octets_of c old)
  pub shut : (c : ℕ) → has_conn c new ≡ true → is_shut c new ≡ ((n == c) || is_shut c old)
  pub there : (c : ℕ) → has_conn c new ≡ has_conn c old

same_one : (b : Bool) (xs : List ℕ) → xs ≡ (if b then xs else xs)
same_one true xs = refl
same_one false xs = refl

close_outs : (c code : ℕ) (why : CloseCause) (h : WayHistory) (d : ℕ) → out world_setup d (Noted (note.Close c code why) ∷ h) ≡ at_one c (left_by why) d (out world_setup d h)
close_outs c code cause.Lost h d = refl
close_outs c code cause.Protocol h d = same_one (c == d) (out world_setup d h)
close_outs c code cause.Idle h d = same_one (c == d) (out world_setup d h)
close_outs c code cause.Drained h d = same_one (c == d) (out world_setup d h)
close_outs c code cause.Overload h d = same_one (c == d) (out world_setup d h)
close_outs c code cause.Flood h d = same_one (c == d) (out world_setup d h)

pub closes : {l : LimitKeys} → (c code : ℕ) (why : CloseCause) (h : WayHistory) (old new : PagedMap Conn) (flows : Flows) (links links' : Links)
    → Shuts c (left_by why) old new → ((x : ℕ) → ends_of x links' ≡ ends_of x links) → ((d : ℕ) → is_known d links' ≡ is_known d links)
    → Stands l old flows links h → Stands l new flows links' (Noted (note.Close c code why) ∷ h)
closes {l} c code why h old new flows links links' w same known s = record {
  writes = now;
  flows_are = λ f. if_some (flow_in flows f) (flow_still f h (Noted (note.Close c code why) ∷ h) (record { places = λ p. refl; stages = refl; came = refl; went = refl })) (s.flows_are f);
  empty = s.empty;
  ends = λ x. subst (λ (o : Option Ends). IfSome o (EndsAre x (Noted (note.Close c code why) ∷ h))) (sym (same x))
      (if_some (ends_of x links) (λ e is. record { client = is.client; cluster = is.cluster }) (s.ends x));
  known = λ d e. w.there d ∙ s.known d (sym (known d) ∙ e);
  closed = λ d e. ap (λ b. (c == d) || b) (s.closed d (sym (w.there d) ∙ e)) ∙ sym (w.shut d e);
  come = λ d e. let never = s.come d e in (
    w.there d ∙ never.0,
    by_case (c == d)
        (λ same. absurd (cc (ap (λ v. has_conn v old) (is_number c d same), w.was, never.0)))
        (λ other. ap (λ b. b || was_closed d h) other ∙ never.1),
  );
  unborn = unborn_still flows flows h (Noted (note.Close c code why) ∷ h) refl (λ f none. none) (λ f none. (refl, refl)) s.unborn;
  fronts = fronts_still (Noted (note.Close c code why)) h (λ f. refl) (λ f. refl) s.fronts;
  taking = (tt, s.taking);
  fits = let fit = fits_now h s.fits in (
    record {
      flows = λ f. still_fits f h (Noted (note.Close c code why) ∷ h) (record { places = λ p. refl; stages = refl; came = refl; went = refl }) (fit.flows f);
      outs = outs_fit l old new h (Noted (note.Close c code why) ∷ h) s.writes now (λ d fits. less_out l (octets_of d old) (octets_of d new) (shorter d) fits) fit.outs;
    },
    s.fits,
  );
  marks = marks_go flows flows links links' h (Noted (note.Close c code why) ∷ h) refl same refl (λ x. refl) s.marks;
}
  where
    now : (d : ℕ) → octets_of d new ≡ out world_setup d (Noted (note.Close c code why) ∷ h)
    now d = w.octets d ∙ (ap (at_one c (left_by why) d) (s.writes d) ∙ sym (close_outs c code why h d))

    left : (why : CloseCause) (b : Bool) (xs : List ℕ) → length (if b then left_by why xs else xs) ≤ length xs
    left cause.Lost true xs = omega arith
    left why true xs = omega arith
    left why false xs = omega arith

    shorter : (d : ℕ) → length (octets_of d new) ≤ length (octets_of d old)
    shorter d = subst (λ (xs : List ℕ). length xs ≤ length (octets_of d old)) (sym (w.octets d)) (left why (c == d) (octets_of d old))

-- one connection was written through, and isn't open any more
pub conn_shut : (n : ℕ) (old new : PagedMap Conn) (v w : Conn) → value_at n old ≡ Some v → WritesThrough n old w new
    → (g : List ℕ → List ℕ) → w.outlet.write.octets ≡ g v.outlet.write.octets → w.open ≡ false → Shuts n g old new
conn_shut n old new v w found written g octets shut = record {
  was = ap is_some found;
  octets = octets_written n old new v w found written g octets;
  shut = λ c there. by_case (n == c)
      (λ e. ap (λ (o : Option Conn). option_map_or (λ conn. not conn.open) o false) (there_now n old new v w found written c e) ∙ (ap not shut ∙ sym (ap (λ b. b || is_shut c old) e)))
      (λ e. ap (λ (o : Option Conn). option_map_or (λ conn. not conn.open) o false) (other_now n old new v w found written c e) ∙ sym (ap (λ b. b || is_shut c old) e));
  there = there_written n old new v w found written;
}
