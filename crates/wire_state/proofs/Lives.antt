-- A core goes on to stand for its tape where an exchange starts, gets its stream at the cluster, or is doomed.
use Rattle.exchange_core.proofs.Untouched.{flow_seen}
use Rattle.exchange_core.specs.Changes.{Dooms, Starts, Sweeps, Ticks}
use Rattle.exchange_core.specs.Exchange.{at_moment, begun, begun_flow, filters_of, flow_id, flow_in as side_of, multiple_of, seen_at, side_filters}
use Rattle.exchange_core.specs.Exchanges.{exchange_at}
use Rattle.exchange_core.specs.Flow.{Flow}
use Rattle.exchange_core.specs.declared.exchange.Exchange.{Exchange}
use Rattle.exchange_core.specs.declared.start.StartSpec.{StartSpec}
use Rattle.filter_chain.specs.Chain.{stages}
use Rattle.filter_chain.specs.Place.{Place, empty_place}
use Rattle.filter_chain.specs.declared.stage.StageKind.TheVariants.{Send}
use Rattle.flow_rules.specs.declared.ids.FlowId.{FlowId}
use Rattle.flow_rules.specs.declared.causes.Cause.{Cause}
use Rattle.flow_notes.specs.declared.notes.Note.{Note}
use Rattle.proxy_config.specs.declared.config.Config.{Config}
use Rattle.proxy_config.specs.declared.config.LimitKeys.{LimitKeys}
use Rattle.proxy_config.specs.declared.routes.Filter.{Filter}
use Rattle.proxy_config.specs.declared.routes.Filter.TheVariants as filter
use Rattle.std.proofs.Common.{ap, arith, refl, subst, sym, ◌∙◌}
use Rattle.std.proofs.lemmas.Bool.Decides.{nat_tests}
use Rattle.paged_map.specs.PagedMap.{PagedMap}
use Rattle.std.specs.Option.{option_and_then, option_map}
use Rattle.std.specs.Prelude.{Bool, IfSome, List, None, Option, Some, [], false, if◌then◌else◌, is_some, length, suc, true, ℕ, ◌&&◌, ◌++◌, ◌+◌, ◌<◌, ◌==◌, ◌∷◌, ◌≡◌}
use Rattle.tape_laws.specs.Flows.{request, response}
use Rattle.tape_laws.specs.History.{Marked, Noted}
use Rattle.tape_laws.specs.Units.{StageKind}
use Rattle.tape_laws.specs.World.{last_place, place, received, sent}
use Rattle.wire_flows.proofs.Cases.{by_case}
use Rattle.wire_flows.proofs.Starts.{response_new}
use Rattle.wire_flows.specs.Flows.{Flows, KeepsLive, flow_in, is_there}
use Rattle.wire_flows.specs.Sound.{IsSound}
use Rattle.wire_links.specs.Links.{Links, ends_of, is_known, with_stream}
use Rattle.wire_links.specs.declared.links.exchanges.Ends.{Ends}
use Rattle.wire_state.proofs.CountsKept.{counts_flows, found_keep, mapped_keep, seen_places}
use Rattle.wire_state.proofs.Fitting.{doomed_fits, empty_fits, fits_now, still_fits}
use Rattle.wire_state.proofs.Held.{begun_held, is_number, seen_keeps, turned}
use Rattle.wire_state.proofs.Marked.{marks_begun, marks_doomed, marks_opened}
use Rattle.wire_state.proofs.Sending.{begun_loses, fronts_still, unborn_still}
use Rattle.wire_state.proofs.Shapes.{begun_shape}
use Rattle.wire_state.proofs.Standing.{ends_are_still, flow_still, if_some}
use Rattle.wire_state.proofs.Bodies.{flows_go, flows_mapped}
use Rattle.wire_state.specs.Counts.{Counts}
use Rattle.wire_state.specs.Limits.{FlowFits, HasShape}
use Rattle.wire_state.specs.Ways.{Opens, Passes, WayHistory, WayStep, after, stages_of, stages_passed, stream_to, world_setup}
use Rattle.wire_state.specs.Worlds.{EndsAre, FlowIs, IsUnborn, Stands, ToldBy}
use Rattle.wire_state.specs.Marks.{Footing, MayOpen}
use Rattle.wire_state.specs.declared.conn.Conn.{Conn}
use Rattle.flow_notes.specs.declared.notes.Note.TheVariants as note

-- ---- doom
-- the exchange has no ends any more, and the others those that they had
pub record UnlinksOne (x : ℕ) (old new : Links) : Type 0 where
  pub ends : (y : ℕ) → ends_of y new ≡ (if x == y then None else ends_of y old)
  pub known : (c : ℕ) → is_known c new ≡ is_known c old

module _ (x : ℕ) (why : Cause) (h : WayHistory) (old new : Flows) (d : Dooms x old.exchanges new.exchanges) where
  abbrev ending : WayStep
  ending = Noted (note.Doom x why)

  gone : (f : FlowId) → (x == f.exchange) ≡ true → flow_in new f ≡ None
  gone f e = ap (option_and_then (side_of f.back)) (d.gone.live f.exchange ∙ ap (λ b. if b then None else exchange_at old.exchanges f.exchange) e)

  stays : (f : FlowId) → (x == f.exchange) ≡ false → flow_in new f ≡ flow_in old f
  stays f e = ap (option_and_then (side_of f.back)) (d.gone.live f.exchange ∙ ap (λ b. if b then None else exchange_at old.exchanges f.exchange) e)

  place_stays : (f : FlowId) → (x == f.exchange) ≡ false → (p : ℕ) → place world_setup f p (ending ∷ h) ≡ place world_setup f p h
  place_stays f e p = ap (λ b. if b then [] else place world_setup f p h) (turned x f.exchange false e)

  none_after : (f : FlowId) → is_there old f ≡ false → is_there new f ≡ false
  none_after f none = by_case (x == f.exchange) (λ e. ap is_some (gone f e)) (λ e. ap is_some (stays f e) ∙ none)

  pub dooms : {l : LimitKeys} → (conns : PagedMap Conn) (links links' : Links) → UnlinksOne x links links' → Stands l conns old links h → Stands l conns new links' (ending ∷ h)
  dooms {l} conns links links' u s = record {
    writes = s.writes;
    flows_are = λ f. by_case (x == f.exchange)
        (λ e. subst (λ (o : Option Flow). IfSome o (FlowIs l f (ending ∷ h))) (sym (gone f e)) tt)
        (λ e. subst (λ (o : Option Flow). IfSome o (FlowIs l f (ending ∷ h))) (sym (stays f e))
        (if_some (flow_in old f) (flow_still f h (ending ∷ h) (record { places = place_stays f e; stages = refl; came = refl; went = refl })) (s.flows_are f)));
    empty = λ f p none. by_case (x == f.exchange)
        (λ e. ap (λ b. if b then [] else place world_setup f p h) (turned x f.exchange true e))
        (λ e. place_stays f e p ∙ s.empty f p (sym (ap is_some (stays f e)) ∙ none));
    ends = λ y. by_case (x == y)
        (λ e. subst (λ (o : Option Ends). IfSome o (EndsAre y (ending ∷ h))) (sym (u.ends y ∙ ap (λ b. if b then None else ends_of y links) e)) tt)
        (λ e. subst (λ (o : Option Ends). IfSome o (EndsAre y (ending ∷ h))) (sym (u.ends y ∙ ap (λ b. if b then None else ends_of y links) e))
        (if_some (ends_of y links) (ends_are_still ending h (λ g. refl) y) (s.ends y)));
    known = λ c e. s.known c (sym (u.known c) ∙ e);
    closed = s.closed;
    come = s.come;
    unborn = unborn_still old new h (ending ∷ h) d.gone.last none_after (λ f none. (refl, refl)) s.unborn;
    fronts = fronts_still ending h (λ f. refl) (λ f. refl) s.fronts;
    taking = (tt, s.taking);
    fits = let fit = fits_now h s.fits in (record { flows = λ f. doomed_fits x why h f (fit.flows f); outs = fit.outs }, s.fits);
    marks = marks_doomed x why old new links links' h d.gone.last u.ends s.marks;
  }

-- ---- start
one_more : (a b : ℕ) → a ≡ b + 1 → suc a ≡ suc b + 1
one_more a b e = omega (arith, e)

stages_long : (fs : List Filter) (last : Place) → length (stages fs ++ last ∷ []) ≡ length (stages_of fs) + 1
stages_long [] last = refl
stages_long (filter.Pass ∷ fs) last = stages_long fs last
stages_long (filter.Hold limit ∷ fs) last = one_more _ _ (stages_long fs last)
stages_long (filter.Meter limit rate ∷ fs) last = one_more _ _ (stages_long fs last)

-- a linked exchange more
pub record LinksOne (x c s : ℕ) (to : Option ℕ) (old new : Links) : Type 0 where
  pub ends : (y : ℕ) → ends_of y new ≡ (if x == y then Some (record { client = c; stream = s; cluster = to; cluster_stream = None }) else ends_of y old)
  pub known : (c : ℕ) → is_known c new ≡ is_known c old

module _ (x c s d : ℕ) (to : Option ℕ) (spec : StartSpec) (config : Config) (h : WayHistory) where
  abbrev there : List Filter
  there = filters_of (side_filters false) spec.row config

  abbrev back : List Filter
  back = filters_of (side_filters true) spec.row config

  abbrev passing : WayStep
  passing = Marked (Passes x spec.row to (stages_of there) (stages_of back))

  abbrev start : WayStep
  start = Noted (note.Start x c s d)

  abbrev then_ : WayHistory
  then_ = start ∷ passing ∷ h

  module _ (old new : Flows) (b : Starts x spec config old.exchanges new.exchanges) (wire : spec.plain ≡ false) (number : x ≡ old.exchanges.last + 1) where
    abbrev Under : LimitKeys → Type 0
    Under l = (spec.recv ≡ l.stream_window) × (spec.send ≡ l.send_buffer) × (spec.quantum ≡ l.quantum)

    mine : (f : FlowId) → (x == f.exchange) ≡ true → flow_in new f ≡ side_of f.back (begun x spec config)
    mine f e = ap (option_and_then (side_of f.back)) (b.live f.exchange ∙ ap (λ v. if v then Some (begun x spec config) else exchange_at old.exchanges f.exchange) e)

    other : (f : FlowId) → (x == f.exchange) ≡ false → flow_in new f ≡ flow_in old f
    other f e = ap (option_and_then (side_of f.back)) (b.live f.exchange ∙ ap (λ v. if v then Some (begun x spec config) else exchange_at old.exchanges f.exchange) e)

    -- its number is above the last
    above_last : (f : FlowId) → (x == f.exchange) ≡ true → old.exchanges.last < f.exchange
    above_last f e = further x f.exchange old.exchanges.last (is_number x f.exchange e) number
      where
        further : (a b l : ℕ) → a ≡ b → a ≡ l + 1 → l < b
        further a b l e i = omega (arith, e, i)

    later_last : (f : FlowId) → new.exchanges.last < f.exchange → (old.exchanges.last < f.exchange) × ((x == f.exchange) ≡ false)
    later_last f lt = (further x f.exchange old.exchanges.last new.exchanges.last b.last number lt, apart x f.exchange new.exchanges.last b.last lt)
      where
        further : (a b l n : ℕ) → n ≡ a → a ≡ l + 1 → n < b → l < b
        further a b l n e i lt = omega (arith, e, i, lt)

        apart : (a b n : ℕ) → n ≡ a → n < b → (a == b) ≡ false
        apart a b n e lt = grind (arith, nat_tests)

    abbrev multiple : Bool → ℕ
    multiple side = if side then config.limits.overflow_multiple else multiple_of spec config

    abbrev filters : Bool → List Filter
    filters side = if side then back else there

    -- both begin
    new_flow : (side : Bool) → side_of side (begun x spec config) ≡ Some (begun_flow (flow_id x side) (filters side) spec (multiple side))
    new_flow false = refl
    new_flow true = response_new x spec config wire

    new_last : (side : Bool) → length (stages (filters side) ++ empty_place Send spec.send ∷ []) ≡ length (if side then stages_of back else stages_of there) + 1
    new_last false = stages_long there (empty_place Send spec.send)
    new_last true = stages_long back (empty_place Send spec.send)

    passed_stages : (f : FlowId) (b : Bool) → (x == f.exchange) ≡ b → stages_passed f then_ ≡ (if b then (if f.back then stages_of back else stages_of there) else stages_passed f h)
    passed_stages f true e = ap (λ b. if b then (if f.back then stages_of back else stages_of there) else stages_passed f h) e
    passed_stages f false e = ap (λ b. if b then (if f.back then stages_of back else stages_of there) else stages_passed f h) e

    passed : (f : FlowId) (b : Bool) → (x == f.exchange) ≡ b → last_place world_setup f then_ ≡ (if b then length (if f.back then stages_of back else stages_of there) + 1 else last_place world_setup f h)
    passed f true e = ap (λ b. length (if b then (if f.back then stages_of back else stages_of there) else stages_passed f h) + 1) e
    passed f false e = ap (λ b. length (if b then (if f.back then stages_of back else stages_of there) else stages_passed f h) + 1) e

    side_shape : {l : LimitKeys} → Under l → (side : Bool) → HasShape l (if side then stages_of back else stages_of there) (begun_flow (flow_id x side) (filters side) spec (multiple side))
    side_shape under false = begun_shape (flow_id x false) there spec (multiple false) under
    side_shape under true = begun_shape (flow_id x true) back spec (multiple true) under

    mine_is : {l : LimitKeys} → Under l → ((f : FlowId) (p : ℕ) → is_there old f ≡ false → place world_setup f p h ≡ []) → (f : FlowId) → (x == f.exchange) ≡ true → IsUnborn f old h
        → FlowIs l f then_ (begun_flow (flow_id x f.back) (filters f.back) spec (multiple f.back))
    mine_is {l} under empty f e u = record {
      last = new_last f.back ∙ sym (passed f true e);
      holds = λ p. begun_held (flow_id x f.back) (filters f.back) spec (multiple f.back) p ∙ sym (empty f p u.there);
      loses = begun_loses f then_ u.unread u.unsent (λ p. empty f p u.there);
      shape = subst (λ (ss : List StageKind). HasShape l ss (begun_flow (flow_id x f.back) (filters f.back) spec (multiple f.back))) (sym (passed_stages f true e)) (side_shape {l = l} under f.back);
    }

    -- the flows of later numbers
    still_unborn : ((f : FlowId) → old.exchanges.last < f.exchange → IsUnborn f old h) → (f : FlowId) → new.exchanges.last < f.exchange → IsUnborn f new then_
    still_unborn unborn f lt =
        let later = later_last f lt in
        let u = unborn f later.0 in
        record { there = ap is_some (other f later.1) ∙ u.there; unread = u.unread; unsent = u.unsent }

    -- those that begin hold nothing
    begun_fits : {l : LimitKeys} → (k : WayHistory) → ((f : FlowId) → (x == f.exchange) ≡ false → stages_passed f k ≡ stages_passed f h) → ((f : FlowId) (p : ℕ) → place world_setup f p k ≡ place world_setup f p h)
        → ((f : FlowId) → received f k ≡ received f h) → ((f : FlowId) → sent world_setup f k ≡ sent world_setup f h)
        → ((f : FlowId) (p : ℕ) → is_there old f ≡ false → place world_setup f p h ≡ []) → ((f : FlowId) → old.exchanges.last < f.exchange → IsUnborn f old h) → ((f : FlowId) → FlowFits l f h) → (f : FlowId) → FlowFits l f k
    begun_fits k stages places came went empty unborn fit f = by_case (x == f.exchange)
        (λ e. empty_fits f k (λ p. places f p ∙ empty f p (unborn f (above_last f e)).there))
        (λ e. still_fits f h k (record { places = places f; stages = stages f e; came = came f; went = went f }) (fit f))

    abbrev linked : Ends
    linked = record { client = c; stream = s; cluster = to; cluster_stream = None }

    pub starts : {l : LimitKeys} → Under l → (conns : PagedMap Conn) (links links' : Links) → LinksOne x c s to links links' → Stands l conns old links h → Stands l conns new links' then_
    starts {l} under conns links links' linked_so stands = record {
      writes = stands.writes;
      flows_are = λ f. by_case (x == f.exchange)
          (λ e. subst (λ (o : Option Flow). IfSome o (FlowIs l f then_)) (sym (mine f e ∙ new_flow f.back)) (mine_is under stands.empty f e (stands.unborn f (above_last f e))))
          (λ e. subst (λ (o : Option Flow). IfSome o (FlowIs l f then_)) (sym (other f e))
          (if_some (flow_in old f) (flow_still f h then_ (record { places = λ p. refl; stages = passed_stages f false e; came = refl; went = refl })) (stands.flows_are f)));
      empty = λ f p none. by_case (x == f.exchange)
          (λ e. absurd (cc (ap is_some (mine f e ∙ new_flow f.back), none)))
          (λ e. stands.empty f p (sym (ap is_some (other f e)) ∙ none));
      ends = λ y. by_case (x == y)
          (λ e. subst (λ (o : Option Ends). IfSome o (EndsAre y then_)) (sym (linked_so.ends y ∙ ap (λ b. if b then Some (linked) else ends_of y links) e))
          (record { client = sym (ap (λ b. if true && b then s else stream_to (response y) h) e); cluster = tt }))
          (λ e. subst (λ (o : Option Ends). IfSome o (EndsAre y then_)) (sym (linked_so.ends y ∙ ap (λ b. if b then Some (linked) else ends_of y links) e))
          (if_some (ends_of y links) (λ v was. record { client = was.client ∙ sym (ap (λ b. if true && b then s else stream_to (response y) h) e); cluster = was.cluster }) (stands.ends y)));
      known = λ n e. stands.known n (sym (linked_so.known n) ∙ e);
      closed = stands.closed;
      come = stands.come;
      unborn = still_unborn stands.unborn;
      fits = let fit = fits_now h stands.fits in (
        record { flows = begun_fits then_ (λ f e. passed_stages f false e) (λ f p. refl) (λ f. refl) (λ f. refl) stands.empty stands.unborn fit.flows; outs = fit.outs },
        (record { flows = begun_fits (passing ∷ h) (λ f e. passed_stages f false e) (λ f p. refl) (λ f. refl) (λ f. refl) stands.empty stands.unborn fit.flows; outs = fit.outs }, stands.fits),
      );
      fronts = fronts_still start (passing ∷ h) (λ f. refl) (λ f. refl) (fronts_still passing h (λ f. refl) (λ f. refl) stands.fronts);
      taking = (tt, (tt, stands.taking));
      marks = marks_begun config x c s d spec.row to h old new links links' linked refl number b.last linked_so.ends stands.marks;
    }

-- ---- the stream of a request at its cluster
pub record OpensStream (x s : ℕ) (old new : Links) : Type 0 where
  pub ends : (y : ℕ) → ends_of y new ≡ (if x == y then option_map (with_stream s) (ends_of x old) else ends_of y old)
  pub known : (c : ℕ) → is_known c new ≡ is_known c old

module _ (x s : ℕ) (h : WayHistory) where
  abbrev opening : WayStep
  opening = Marked (Opens x s)

  placed_ends : (y : ℕ) → (x == y) ≡ true → (o : Option Ends) → IfSome o (EndsAre y h) → IfSome (option_map (with_stream s) o) (EndsAre y (opening ∷ h))
  placed_ends y e None is = tt
  placed_ends y e (Some v) is = record { client = is.client; cluster = sym (ap (λ b. if true && b then s else stream_to (request y) h) e) }

  other_ends : (y : ℕ) → (x == y) ≡ false → (v : Ends) → EndsAre y h v → EndsAre y (opening ∷ h) v
  other_ends y e v is = record { client = is.client; cluster = if_some v.cluster_stream (λ k at. at ∙ sym (ap (λ b. if true && b then s else stream_to (request y) h) e)) is.cluster }

  pub places : {l : LimitKeys} → (conns : PagedMap Conn) (flows : Flows) (links links' : Links) → MayOpen x h → OpensStream x s links links' → Stands l conns flows links h → Stands l conns flows links' (opening ∷ h)
  places conns flows links links' may opened stands = record {
    writes = stands.writes;
    flows_are = λ f. if_some (flow_in flows f) (flow_still f h (opening ∷ h) (record { places = λ p. refl; stages = refl; came = refl; went = refl })) (stands.flows_are f);
    empty = stands.empty;
    ends = λ y. by_case (x == y)
        (λ e. subst (λ (o : Option Ends). IfSome o (EndsAre y (opening ∷ h))) (sym (opened.ends y ∙ (ap (λ b. if b then option_map (with_stream s) (ends_of x links) else ends_of y links) e ∙ ap (λ v. option_map (with_stream s) (ends_of v links)) (is_number x y e)))) (placed_ends y e (ends_of y links) (stands.ends y)))
        (λ e. subst (λ (o : Option Ends). IfSome o (EndsAre y (opening ∷ h))) (sym (opened.ends y ∙ ap (λ b. if b then option_map (with_stream s) (ends_of x links) else ends_of y links) e)) (if_some (ends_of y links) (other_ends y e) (stands.ends y)));
    known = λ c e. stands.known c (sym (opened.known c) ∙ e);
    closed = stands.closed;
    come = stands.come;
    unborn = unborn_still flows flows h (opening ∷ h) refl (λ f none. none) (λ f none. (refl, refl)) stands.unborn;
    fronts = fronts_still opening h (λ f. refl) (λ f. refl) stands.fronts;
    taking = (tt, stands.taking);
    fits = let fit = fits_now h stands.fits in
        (record { flows = λ f. still_fits f h (opening ∷ h) (record { places = λ p. refl; stages = refl; came = refl; went = refl }) (fit.flows f); outs = fit.outs }, stands.fits);
    marks = marks_opened x s h flows links links' may opened.ends stands.marks;
  }

-- ---- the clock
seen_found : (now : ℕ) (side : Bool) (o : Option Exchange) → option_and_then (side_of side) (option_map (seen_at now) o) ≡ option_map (at_moment now) (option_and_then (side_of side) o)
seen_found now side None = refl
seen_found now side (Some v) = flow_seen now side v

pub ticks : {l : LimitKeys} → (now : ℕ) (old new : Flows) → Ticks now old.exchanges new.exchanges → (conns : PagedMap Conn) (links : Links) (h : WayHistory) → Stands l conns old links h → Stands l conns new links h
ticks now old new t conns links h s = flows_mapped (at_moment now) (seen_keeps now) old new t.last
    (λ f. ap (option_and_then (side_of f.back)) (t.live f.exchange) ∙ seen_found now f.back (exchange_at old.exchanges f.exchange)) conns links h s

pub ticks_counts : {l : LimitKeys} {t u : Option ℕ} → (now : ℕ) (old new : Flows) → Ticks now old.exchanges new.exchanges → KeepsLive old new → new.gates ≡ old.gates → IsSound new → (conns : PagedMap Conn) (h : WayHistory) → Counts l t u conns old h → Counts l t u conns new h
ticks_counts now old new t live gates sound conns h c = counts_flows conns old new h (mapped_keep (at_moment now) (seen_places now) old new t.last
    (λ f. ap (option_and_then (side_of f.back)) (t.live f.exchange) ∙ seen_found now f.back (exchange_at old.exchanges f.exchange)) live.goes live.live) gates sound c

-- ---- the deferred list
pub sweeps : {l : LimitKeys} → (swept : Option ℕ) (old new : Flows) → Sweeps swept old.exchanges new.exchanges → (conns : PagedMap Conn) (links : Links) (h : WayHistory) → Stands l conns old links h → Stands l conns new links h
sweeps swept old new w conns links h s = flows_go old new w.last (λ f. ap (option_and_then (side_of f.back)) (w.live f.exchange)) conns links h s

pub sweeps_counts : {l : LimitKeys} {t u : Option ℕ} → (swept : Option ℕ) (old new : Flows) → Sweeps swept old.exchanges new.exchanges → KeepsLive old new → new.gates ≡ old.gates → IsSound new → (conns : PagedMap Conn) (h : WayHistory) → Counts l t u conns old h → Counts l t u conns new h
sweeps_counts swept old new w live gates sound conns h c = counts_flows conns old new h (found_keep old new w.last (λ f. ap (option_and_then (side_of f.back)) (w.live f.exchange)) live.goes live.live) gates sound c

pub swept_told : {k : Config} {l : Footing} {t u : Option ℕ} → (swept : Option ℕ) (old new : Flows) → Sweeps swept old.exchanges new.exchanges → KeepsLive old new → new.gates ≡ old.gates → IsSound new → (conns : PagedMap Conn) (links : Links)
    → (h : WayHistory) (g : ℕ → List ℕ) (start notes : List Note) → ToldBy k l t u h g start conns old links notes → ToldBy k l t u h g start conns new links notes
swept_told swept old new w live gates sound conns links h g begun_at notes t = record {
  steps = t.steps;
  is = t.is;
  stands = sweeps swept old new w conns links (after t.steps h) t.stands;
  counts = sweeps_counts swept old new w live gates sound conns (after t.steps h) t.counts;
  left = t.left;
  under = t.under;
  ways = t.ways;
  rows = t.rows;
  since = t.since;
}
