-- A core goes on to stand for its tape where octets of a flow come, go on, are framed or dropped.
use Rattle.exchange_core.specs.Changes.{ChangesFlow}
use Rattle.exchange_core.specs.Effects.{arrived, body_framed, moved}
use Rattle.exchange_core.specs.Flow.{Flow, last_place as send_place, octets_in, send}
use Rattle.filter_chain.specs.Place.{Place}
use Rattle.flow_gate.proofs.SameIds.{same_flow_exact}
use Rattle.flow_rules.specs.declared.ids.FlowId.{FlowId}
use Rattle.h2_frames.specs.Head.{data_head}
use Rattle.proxy_config.specs.declared.config.LimitKeys.{LimitKeys}
use Rattle.std.proofs.Common.{ap, arith, refl, subst, sym, ◌∙◌}
use Rattle.std.proofs.lemmas.List.{append-nil}
use Rattle.std.proofs.lemmas.Option.{slice_get_within}
use Rattle.paged_map.specs.PagedMap.{PagedMap}
use Rattle.std.specs.Option.{option_map}
use Rattle.std.specs.Prelude.{Bool, IfSome, IsSome, List, None, Option, Some, [], drop, false, if◌then◌else◌, is_some, length, slice_get, take, true, ℕ, ◌&&◌, ◌++◌, ◌+◌, ◌<◌, ◌==◌, ◌∷◌, ◌≡◌, ◌≤◌}
use Rattle.tape_laws.specs.Flows.{same_flow}
use Rattle.tape_laws.specs.History.{Noted}
use Rattle.tape_laws.specs.World.{last_place, out, place, received, send as sends}
use Rattle.wire_flows.proofs.Cases.{by_case, if_mapped, some_mapped}
use Rattle.wire_flows.proofs.Found.{flow_after, there_after}
use Rattle.wire_flows.specs.Flows.{Flows, IsThere, flow_in, is_there}
use Rattle.wire_flows.specs.Sound.{IsSound}
use Rattle.wire_links.specs.Links.{Links, ends_of}
use Rattle.wire_state.proofs.Fitting.{fits_now, flows_fit, framed_fits, outs_fit}
use Rattle.wire_state.proofs.Held.{KeepsOctets, arrived_held, framed_held, framed_last, moved_held, moved_last}
use Rattle.wire_state.proofs.Marked.{marks_go}
use Rattle.wire_state.proofs.Sending.{arrived_fronts, arrived_loses, framed_fronts, framed_loses, framed_sent, fronts_still, moved_loses, same_flow_refl, unborn_still}
use Rattle.wire_state.proofs.Shapes.{arrived_shape, framed_shape, moved_shape, shape_kept}
use Rattle.wire_state.proofs.Standing.{ConnsAre, at_one, ends_are_still, flow_still, if_some, more_is}
use Rattle.wire_state.specs.Limits.{OutFits}
use Rattle.wire_state.specs.Ways.{WayHistory, WayStep, stages_passed, stream_to, world_setup}
use Rattle.wire_state.specs.Worlds.{FlowIs, Stands, octets_of}
use Rattle.wire_state.specs.declared.conn.Conn.{Conn}
use Rattle.flow_notes.specs.declared.notes.Note.TheVariants as note

-- one flow is what the change makes of it, and the others are as they were
module _ {l : LimitKeys} (f : FlowId) (change : Flow → Flow) (old new : Flows) (c : ChangesFlow f change old.exchanges new.exchanges) (h k : WayHistory)
    (own : (flow : Flow) → flow_in old f ≡ Some flow → FlowIs l f h flow → FlowIs l f k (change flow))
    (others : (g : FlowId) → same_flow f g ≡ false → (flow : Flow) → FlowIs l g h flow → FlowIs l g k flow) where
  found_now : (g : FlowId) → flow_in new g ≡ (if same_flow f g then option_map change (flow_in old g) else flow_in old g)
  found_now g = flow_after f change old.exchanges new.exchanges c g

  mine : (g : FlowId) → f ≡ g → IfSome (flow_in old g) (FlowIs l g h) → IfSome (option_map change (flow_in old g)) (FlowIs l g k)
  mine g e is = subst (λ (v : FlowId). IfSome (flow_in old v) (FlowIs l v h) → IfSome (option_map change (flow_in old v)) (FlowIs l v k)) e
      (λ here. if_mapped (FlowIs l f h) (FlowIs l f k) change (flow_in old f) own here) is

  pub flows_changed : ((g : FlowId) → IfSome (flow_in old g) (FlowIs l g h)) → (g : FlowId) → IfSome (flow_in new g) (FlowIs l g k)
  flows_changed are g = by_case (same_flow f g)
      (λ same. subst (λ (o : Option Flow). IfSome o (FlowIs l g k)) (sym (found_now g ∙ ap (λ b. if b then option_map change (flow_in old g) else flow_in old g) same)) (mine g (same_flow_exact f g same) (are g)))
      (λ other. subst (λ (o : Option Flow). IfSome o (FlowIs l g k)) (sym (found_now g ∙ ap (λ b. if b then option_map change (flow_in old g) else flow_in old g) other)) (if_some (flow_in old g) (others g other) (are g)))

-- a flow that is there isn't one that isn't
apart_of : (f : FlowId) (flows : Flows) (g : FlowId) → IsThere flows f → is_there flows g ≡ false → same_flow f g ≡ false
apart_of f flows g there none = at (same_flow f g) refl
  where
    at : (b : Bool) → same_flow f g ≡ b → b ≡ false
    at true e = let same = same_flow_exact f g e in absurd (cc (ap (is_there flows) same, there, none))
    at false e = refl

-- none comes by the change of one
none_after : (f : FlowId) (change : Flow → Flow) (old new : Flows) → ChangesFlow f change old.exchanges new.exchanges → (g : FlowId) → is_there old g ≡ false → is_there new g ≡ false
none_after f change old new c g none = there_after f change old.exchanges new.exchanges c g ∙ none

-- ---- octets arrive
module _ (f : FlowId) (octets : List ℕ) (h : WayHistory) where
  abbrev arrival : WayStep
  arrival = Noted (note.Arrive f octets)

  arrived_place : (g : FlowId) → same_flow f g ≡ false → (p : ℕ) → place world_setup g p (arrival ∷ h) ≡ place world_setup g p h
  arrived_place g other p = ap (λ b. place world_setup g p h ++ (if b && (p == 0) then octets else [])) other ∙ append-nil (place world_setup g p h)

  arrived_own : {l : LimitKeys} → (flow : Flow) → FlowIs l f h flow → FlowIs l f (arrival ∷ h) (arrived octets flow)
  arrived_own flow is = record {
    last = is.last;
    holds = λ p. arrived_held octets flow p ∙ (ap (λ xs. xs ++ (if p == 0 then octets else [])) (is.holds p)
        ∙ sym (ap (λ b. place world_setup f p h ++ (if b && (p == 0) then octets else [])) (same_flow_refl f)));
    loses = arrived_loses f h is.loses octets;
    shape = shape_kept (stages_passed f h) flow (arrived octets flow) (arrived_shape octets flow) is.shape;
  }

  arrived_came : (g : FlowId) → same_flow f g ≡ false → received g (arrival ∷ h) ≡ received g h
  arrived_came g other = ap (λ b. received g h ++ (if b then octets else [])) other ∙ append-nil (received g h)

  pub arrives : {l : LimitKeys} → (old new : Flows) (conns : PagedMap Conn) (links : Links) (change : Flow → Flow) → ChangesFlow f change old.exchanges new.exchanges → IsThere old f
      → ((flow : Flow) → flow_in old f ≡ Some flow → change flow ≡ arrived octets flow) → IsSound new → Stands l conns old links h → Stands l conns new links (arrival ∷ h)
  arrives {l} old new conns links change c there is sound s = record {
    writes = s.writes;
    flows_are = now;
    empty = none_now;
    ends = λ x. if_some (ends_of x links) (ends_are_still arrival h (λ g. refl) x) (s.ends x);
    known = s.known;
    closed = s.closed;
    come = s.come;
    unborn = unborn_still old new h (arrival ∷ h) c.flow.last (none_after f change old new c) (λ g none. (arrived_came g (apart_of f old g there none), refl)) s.unborn;
    fronts = arrived_fronts f octets h s.fronts;
    taking = (tt, s.taking);
    fits = (record { flows = flows_fit new sound (arrival ∷ h) now none_now; outs = (fits_now h s.fits).outs }, s.fits);
    marks = marks_go old new links links h (arrival ∷ h) c.flow.last (λ x. refl) refl (λ x. refl) s.marks;
  }
    where
      now : (g : FlowId) → IfSome (flow_in new g) (FlowIs l g (arrival ∷ h))
      now = flows_changed f change old new c h (arrival ∷ h)
          (λ flow e was. subst (FlowIs l f (arrival ∷ h)) (sym (is flow e)) (arrived_own flow was))
          (λ g other. flow_still g h (arrival ∷ h) (record { places = arrived_place g other; stages = refl; came = arrived_came g other; went = refl }))
          s.flows_are

      none_now : (g : FlowId) (p : ℕ) → is_there new g ≡ false → place world_setup g p (arrival ∷ h) ≡ []
      none_now g p none = let gone = sym (there_after f change old.exchanges new.exchanges c g) ∙ none in arrived_place g (apart_of f old g there gone) p ∙ s.empty g p gone

-- ---- octets go on to the next place
module _ (f : FlowId) (q n : ℕ) (h : WayHistory) where
  abbrev move : WayStep
  move = Noted (note.Move f q n)

  gone_on : FlowId → ℕ → List ℕ
  gone_on g p = if p == q then drop n (place world_setup g p h) else (if p == q + 1 then place world_setup g p h ++ take n (place world_setup g q h) else place world_setup g p h)

  moved_place : (g : FlowId) → same_flow f g ≡ false → (p : ℕ) → place world_setup g p (move ∷ h) ≡ place world_setup g p h
  moved_place g other p =
      ap (λ b. if b then (if p == q then drop n (place world_setup g p h) else (if p == q + 1 then place world_setup g p h ++ take n (place world_setup g q h) else place world_setup g p h)) else place world_setup g p h) other

  moved_own : {l : LimitKeys} → (flow : Flow) (y : Place) → slice_get flow.chain.places q ≡ Some y → FlowIs l f h flow → FlowIs l f (move ∷ h) (moved q n flow)
  moved_own flow y next is = record {
    last = moved_last q n flow ∙ is.last;
    holds = λ p. moved_held flow q n y next p
        ∙ ((λ i. if p == q then drop n (is.holds p i) else (if p == q + 1 then is.holds p i ++ take n (is.holds q i) else is.holds p i))
        ∙ sym (ap (λ b. if b then (if p == q then drop n (place world_setup f p h) else (if p == q + 1 then place world_setup f p h ++ take n (place world_setup f q h) else place world_setup f p h)) else place world_setup f p h) (same_flow_refl f)));
    loses = moved_loses f h is.loses q n (subst (λ l. q < l) is.last (slice_get_within flow.chain.places q y next));
    shape = shape_kept (stages_passed f h) flow (moved q n flow) (moved_shape q n flow) is.shape;
  }

  -- the place that they left, and the next, are there, and so many lay in it
  pub record IsMoved (change : Flow → Flow) (flow : Flow) : Type 0 where
    pub next : Place
    pub there : slice_get flow.chain.places q ≡ Some next
    pub moves_so : change flow ≡ moved q n flow
    pub few : n ≤ length (octets_in flow q)

  pub moves : {l : LimitKeys} → (old new : Flows) (conns : PagedMap Conn) (links : Links) (change : Flow → Flow) → ChangesFlow f change old.exchanges new.exchanges → IsThere old f
      → ((flow : Flow) → flow_in old f ≡ Some flow → FlowIs l f h flow → IsMoved change flow) → IsSound new → Stands l conns old links h → Stands l conns new links (move ∷ h)
  moves {l} old new conns links change c there is sound s = record {
    writes = s.writes;
    flows_are = now;
    empty = none_now;
    ends = λ x. if_some (ends_of x links) (ends_are_still move h (λ g. refl) x) (s.ends x);
    known = s.known;
    closed = s.closed;
    come = s.come;
    unborn = unborn_still old new h (move ∷ h) c.flow.last (none_after f change old new c) (λ g none. (refl, refl)) s.unborn;
    fronts = fronts_still move h (λ g. refl) (λ g. refl) s.fronts;
    taking = (few (flow_in old f) refl there, s.taking);
    fits = (record { flows = flows_fit new sound (move ∷ h) now none_now; outs = (fits_now h s.fits).outs }, s.fits);
    marks = marks_go old new links links h (move ∷ h) c.flow.last (λ x. refl) refl (λ x. refl) s.marks;
  }
    where
      now : (g : FlowId) → IfSome (flow_in new g) (FlowIs l g (move ∷ h))
      now = flows_changed f change old new c h (move ∷ h)
          (λ flow e was. let m = is flow e was in subst (FlowIs l f (move ∷ h)) (sym m.moves_so) (moved_own flow m.next m.there was))
          (λ g other. flow_still g h (move ∷ h) (record { places = moved_place g other; stages = refl; came = refl; went = refl }))
          s.flows_are

      few : (o : Option Flow) → flow_in old f ≡ o → IsSome o → n ≤ length (place world_setup f q h)
      few None found some = absurd (cc some)
      few (Some flow) found some =
          let was : FlowIs l f h flow = subst (λ (o : Option Flow). IfSome o (FlowIs l f h)) found (s.flows_are f) in
          subst (λ (xs : List ℕ). n ≤ length xs) (was.holds q) (is flow found was).few

      none_now : (g : FlowId) (p : ℕ) → is_there new g ≡ false → place world_setup g p (move ∷ h) ≡ []
      none_now g p none = let gone = sym (there_after f change old.exchanges new.exchanges c g) ∙ none in moved_place g (apart_of f old g there gone) p ∙ s.empty g p gone

-- ---- octets are framed
module _ (c : ℕ) (f : FlowId) (n : ℕ) (last : Bool) (h : WayHistory) where
  abbrev frame : WayStep
  frame = Noted (note.Frame c f n last)

  framed_place : (g : FlowId) → same_flow f g ≡ false → (p : ℕ) → place world_setup g p (frame ∷ h) ≡ place world_setup g p h
  framed_place g other p = ap (λ b. drop (if b && (p == last_place world_setup g h) then n else 0) (place world_setup g p h)) other

  some_place : (a b : ℕ) → a ≡ b + 1 → 0 < a
  some_place a b e = omega (arith, e)

  framed_own : {l : LimitKeys} → (flow : Flow) → FlowIs l f h flow → FlowIs l f (frame ∷ h) (body_framed n last flow)
  framed_own flow is = record {
    last = framed_last n last flow ∙ is.last;
    holds = λ p. framed_held n last flow (some_place _ _ is.last) p
        ∙ ((λ i. drop (if p == is.last i then n else 0) (is.holds p i))
        ∙ sym (ap (λ b. drop (if b && (p == last_place world_setup f h) then n else 0) (place world_setup f p h)) (same_flow_refl f)));
    loses = framed_loses f h is.loses c n last;
    shape = shape_kept (stages_passed f h) flow (body_framed n last flow) (framed_shape n last flow) is.shape;
  }

  -- what is carried is the front of the send buffer
  carried : {l : LimitKeys} → (flow : Flow) → FlowIs l f h flow → send flow ≡ sends world_setup f h
  carried flow is = is.holds (send_place flow) ∙ ap (λ (p : ℕ). place world_setup f p h) is.last

  pub frames : {l : LimitKeys} → (old new : PagedMap Conn) (before after : Flows) (links : Links) (s : ℕ) (flow : Flow) → s ≡ stream_to f h → flow_in before f ≡ Some flow → n ≤ length (send flow)
      → ChangesFlow f (body_framed n last) before.exchanges after.exchanges
      → ConnsAre (at_one c (λ xs. xs ++ (data_head s n last ++ take n (send flow)))) old new → ((d : ℕ) → OutFits l (octets_of d old) → OutFits l (octets_of d new)) → Stands l old before links h → Stands l new after links (frame ∷ h)
  frames {l} old new before after links s flow on found few change wrote_so room stands = record {
    writes = now;
    flows_are = flows_changed f (body_framed n last) before after change h (frame ∷ h)
        (λ g e was. framed_own g was)
        (λ g other. flow_still g h (frame ∷ h) (record { places = framed_place g other; stages = refl; came = refl; went = framed_sent c f n last h g other }))
        stands.flows_are;
    empty = λ g p none. let gone = sym (there_after f (body_framed n last) before.exchanges after.exchanges change g) ∙ none in
        framed_place g (apart_of f before g (ap is_some found) gone) p ∙ stands.empty g p gone;
    ends = λ x. if_some (ends_of x links) (ends_are_still frame h (λ g. refl) x) (stands.ends x);
    known = λ d e. wrote_so.there d ∙ stands.known d e;
    closed = λ d e. stands.closed d (sym (wrote_so.there d) ∙ e) ∙ sym (wrote_so.shut d);
    come = λ d e. let never = stands.come d e in (wrote_so.there d ∙ never.0, never.1);
    unborn = unborn_still before after h (frame ∷ h) change.flow.last (none_after f (body_framed n last) before after change) (λ g none. (refl, framed_sent c f n last h g (apart_of f before g (ap is_some found) none))) stands.unborn;
    fronts = framed_fronts c f n last h (framed_own flow here).loses stands.fronts;
    taking = (subst (λ (xs : List ℕ). n ≤ length xs) (carried flow here) few, stands.taking);
    fits = let fit = fits_now h stands.fits in (record { flows = λ g. framed_fits c f n last h g (fit.flows g); outs = outs_fit l old new h (frame ∷ h) stands.writes now room fit.outs }, stands.fits);
    marks = marks_go before after links links h (frame ∷ h) change.flow.last (λ x. refl) refl (λ x. refl) stands.marks;
  }
    where
      here : FlowIs l f h flow
      here = subst (λ (o : Option Flow). IfSome o (FlowIs l f h)) found (stands.flows_are f)

      now : (d : ℕ) → octets_of d new ≡ out world_setup d (frame ∷ h)
      now d = wrote_so.octets d ∙ (ap (λ xs. at_one c (λ ys. ys ++ (data_head s n last ++ take n (send flow))) d xs) (stands.writes d)
          ∙ (sym (more_is (c == d) (out world_setup d h) (data_head s n last ++ take n (send flow)))
          ∙ (λ i. out world_setup d h ++ (if c == d then data_head (on i) n last ++ take n (carried flow here i) else []))))

-- ---- flows whose octets stay
pub keeps_flow : {l : LimitKeys} → (f : FlowId) (h : WayHistory) (old new : Flow) → KeepsOctets old new → FlowIs l f h old → FlowIs l f h new
keeps_flow f h old new k is = record { last = k.last ∙ is.last; holds = λ p. k.holds p ∙ is.holds p; loses = is.loses; shape = shape_kept (stages_passed f h) old new k.shape is.shape }

pub flow_goes : {l : LimitKeys} → (f : FlowId) (change : Flow → Flow) (old new : Flows) → ((flow : Flow) → flow_in old f ≡ Some flow → KeepsOctets flow (change flow)) → ChangesFlow f change old.exchanges new.exchanges
    → (conns : PagedMap Conn) (links : Links) (h : WayHistory) → Stands l conns old links h → Stands l conns new links h
flow_goes f change old new keeps c conns links h s = record {
  writes = s.writes;
  flows_are = flows_changed f change old new c h h (λ flow e was. keeps_flow f h flow (change flow) (keeps flow e) was) (λ g other flow was. was) s.flows_are;
  empty = λ g p none. s.empty g p (sym (there_after f change old.exchanges new.exchanges c g) ∙ none);
  ends = s.ends;
  known = s.known;
  closed = s.closed;
  come = s.come;
  unborn = unborn_still old new h h c.flow.last (none_after f change old new c) (λ g none. (refl, refl)) s.unborn;
  fronts = s.fronts;
  taking = s.taking;
  fits = s.fits;
  marks = marks_go old new links links h h c.flow.last (λ x. refl) refl (λ x. refl) s.marks;
}

-- other flows, of which each is found as before
pub flows_go : {l : LimitKeys} → (old new : Flows) → new.exchanges.last ≡ old.exchanges.last → ((f : FlowId) → flow_in new f ≡ flow_in old f) → (conns : PagedMap Conn) (links : Links) (h : WayHistory) → Stands l conns old links h → Stands l conns new links h
flows_go {l} old new last same conns links h s = record {
  writes = s.writes;
  flows_are = λ f. subst (λ (o : Option Flow). IfSome o (FlowIs l f h)) (sym (same f)) (s.flows_are f);
  empty = λ f p none. s.empty f p (sym (ap is_some (same f)) ∙ none);
  ends = s.ends;
  known = s.known;
  closed = s.closed;
  come = s.come;
  unborn = unborn_still old new h h last (λ f none. ap is_some (same f) ∙ none) (λ f none. (refl, refl)) s.unborn;
  fronts = s.fronts;
  taking = s.taking;
  fits = s.fits;
  marks = marks_go old new links links h h last (λ x. refl) refl (λ x. refl) s.marks;
}

-- each flow is found as a change makes it that keeps its octets
pub flows_mapped : {l : LimitKeys} → (change : Flow → Flow) → ((flow : Flow) → KeepsOctets flow (change flow)) → (old new : Flows) → new.exchanges.last ≡ old.exchanges.last → ((f : FlowId) → flow_in new f ≡ option_map change (flow_in old f))
    → (conns : PagedMap Conn) (links : Links) (h : WayHistory) → Stands l conns old links h → Stands l conns new links h
flows_mapped {l} change keeps old new last same conns links h s = record {
  writes = s.writes;
  flows_are = λ f. subst (λ (o : Option Flow). IfSome o (FlowIs l f h)) (sym (same f)) (if_mapped (FlowIs l f h) (FlowIs l f h) change (flow_in old f) (λ flow e was. keeps_flow f h flow (change flow) (keeps flow) was) (s.flows_are f));
  empty = λ f p none. s.empty f p (sym (ap is_some (same f) ∙ some_mapped change (flow_in old f)) ∙ none);
  ends = s.ends;
  known = s.known;
  closed = s.closed;
  come = s.come;
  unborn = unborn_still old new h h last (λ f none. ap is_some (same f) ∙ (some_mapped change (flow_in old f) ∙ none)) (λ f none. (refl, refl)) s.unborn;
  fronts = s.fronts;
  taking = s.taking;
  fits = s.fits;
  marks = marks_go old new links links h h last (λ x. refl) refl (λ x. refl) s.marks;
}
