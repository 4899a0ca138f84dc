-- Octets that arrived fitted into the receive buffer of a flow that is there.
use Rattle.exchange_core.specs.Effects.{arrived, received, received_by}
use Rattle.exchange_core.specs.Flow.{Flow}
use Rattle.exchange_core.specs.declared.step.Received.{Received}
use Rattle.exchange_core.specs.declared.step.Received.TheVariants.{Arrived, TooMany}
use Rattle.exchange_core.specs.Changes.{ChangesFlow}
use Rattle.flow_rules.specs.declared.ids.FlowId.{FlowId}
use Rattle.flow_notes.specs.declared.notes.Note.{Note}
use Rattle.flow_notes.specs.declared.notes.Note.TheVariants as note
use Rattle.proxy_config.specs.declared.config.Config.{Config}
use Rattle.proxy_config.specs.declared.config.LimitKeys.{LimitKeys}
use Rattle.std.proofs.Common.{ap, refl, sym, ◌∙◌}
use Rattle.paged_map.specs.PagedMap.{PagedMap}
use Rattle.std.specs.Prelude.{Bool, IsSome, List, None, Option, Some, [], false, if◌then◌else◌, is_some, length, nat_le, true, ℕ, ◌++◌, ◌+◌, ◌∷◌, ◌≡◌}
use Rattle.tape_laws.specs.History.{Noted}
use Rattle.wire_flows.specs.Flows.{Flows, IsThere, flow_in, is_live_in}
use Rattle.wire_flows.specs.Sound.{IsSound}
use Rattle.wire_links.specs.Links.{Links, ends_of}
use Rattle.wire_state.proofs.Bodies.{arrives}
use Rattle.wire_flows.proofs.Found.{live_after}
use Rattle.wire_state.proofs.Counting.{changed_go, counts_go}
use Rattle.wire_state.proofs.Givens.{there_given}
use Rattle.wire_state.proofs.Goings.{told_by}
use Rattle.wire_state.proofs.Overs.{still_goes}
use Rattle.wire_state.proofs.Quiets.{gates_go}
use Rattle.wire_state.specs.Counts.{Counts}
use Rattle.wire_state.specs.Marks.{Footing}
use Rattle.wire_state.specs.Ways.{WayHistory}
use Rattle.wire_state.specs.Worlds.{Stands, ToldBy}
use Rattle.wire_state.specs.declared.conn.Conn.{Conn}

pub arrived_there : (n : ℕ) (o : Option Flow) → received_by n o ≡ Arrived → IsSome o
arrived_there n None e = cc
arrived_there n (Some flow) e = refl

by_fit : (b : Bool) (octets : List ℕ) (flow : Flow) → (if b then Arrived else TooMany) ≡ Arrived → (if b then arrived octets flow else flow) ≡ arrived octets flow
by_fit true octets flow e = refl
by_fit false octets flow e = cc

pub arrived_is : (octets : List ℕ) (flow : Flow) → received_by (length octets) (Some flow) ≡ Arrived → received octets flow ≡ arrived octets flow
arrived_is octets flow e = by_fit (nat_le (length flow.recv + length octets) flow.window) octets flow e

module _ (l : LimitKeys) (f : FlowId) (octets : List ℕ) (old new : Flows) (here : received_by (length octets) (flow_in old f) ≡ Arrived) (c : ChangesFlow f (received octets) old.exchanges new.exchanges) (sound : IsSound new) (gates : new.gates ≡ old.gates)
    (conns : PagedMap Conn) (links : Links) where
  is_arrived : (flow : Flow) → flow_in old f ≡ Some flow → received octets flow ≡ arrived octets flow
  is_arrived flow found = arrived_is octets flow (ap (received_by (length octets)) (sym found) ∙ here)

  pub arrival_stands : (h : WayHistory) → Stands l conns old links h → Stands l conns new links (Noted (note.Arrive f octets) ∷ h)
  arrival_stands h s = arrives f octets h old new conns links (received octets) c (arrived_there (length octets) (flow_in old f) here) is_arrived sound s

  pub arrival_counts : (t u : Option ℕ) (h : WayHistory) → Stands l conns old links h → Counts l t u conns old h → Counts l t u conns new (Noted (note.Arrive f octets) ∷ h)
  arrival_counts t u h s counts = counts_go l t u t u conns conns old new (Noted (note.Arrive f octets)) [] h links links
      (gates_go {l = l} {t = t} {u = u} conns old new (Noted (note.Arrive f octets)) h counts
      (changed_go f (received octets) old new (λ flow found. still_goes flow (received octets flow) (ap (λ (v : Flow). v.chain.places) (is_arrived flow found))) c)
      (λ x. live_after f (received octets) old.exchanges new.exchanges c x) gates sound (λ g at. record { stages = refl; conn = refl; spared = refl }) refl tt (λ g. (refl, refl)) (λ g. refl) (λ g. refl))
      s (arrival_stands h s) counts

pub arrival_told : {k : Config} {l : Footing} {t u : Option ℕ} → (f : FlowId) (octets : List ℕ) (old new : Flows) (r : Received) → r ≡ received_by (length octets) (flow_in old f) → r ≡ Arrived → (IsThere old f → ChangesFlow f (received octets) old.exchanges new.exchanges) → IsSound new → new.gates ≡ old.gates
    → (conns : PagedMap Conn) (links : Links) → is_some (ends_of f.exchange links) ≡ is_live_in old f.exchange → (h : WayHistory) (g : ℕ → List ℕ) (start notes : List Note) → ToldBy k l t u h g start conns old links notes → ToldBy k l t u h g start conns new links (notes ++ note.Arrive f octets ∷ [])
arrival_told {l = l} {t = t} {u = u} f octets old new r is arrives_so changes sound gates conns links live =
    let here : received_by (length octets) (flow_in old f) ≡ Arrived = sym is ∙ arrives_so in
    let there = arrived_there (length octets) (flow_in old f) here in
    let c = changes there in
    told_by {l = l} (Noted (note.Arrive f octets) ∷ []) (λ h c. refl) conns conns old new links links (record { ways = λ h s w. (there_given conns old links h f live there s, w); rows = refl })
    (arrival_stands l.config.limits f octets old new here c sound gates conns links) (arrival_counts l.config.limits f octets old new here c sound gates conns links t u)
