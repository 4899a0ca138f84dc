-- What a core has of an exchange it has behind its start.
use Rattle.exchange_core.specs.Exchange.{flow_in as side_of}
use Rattle.exchange_core.specs.Exchanges.{exchange_at}
use Rattle.exchange_core.specs.declared.exchange.Exchange.{Exchange}
use Rattle.flow_rules.specs.declared.ids.FlowId.{FlowId}
use Rattle.paged_map.specs.PagedMap.{PagedMap}
use Rattle.proxy_config.specs.declared.config.LimitKeys.{LimitKeys}
use Rattle.std.proofs.Common.{refl, subst, ◌∙◌}
use Rattle.std.specs.Option.{option_and_then}
use Rattle.std.specs.Prelude.{IfSome, None, Option, Some, if◌then◌else◌, is_some, true, ℕ, ◌≡◌}
use Rattle.wire_flows.specs.Flows.{Flows, is_live_in, is_there}
use Rattle.wire_links.specs.Links.{Links, ends_of}
use Rattle.wire_links.specs.declared.links.exchanges.Ends.{Ends}
use Rattle.wire_state.specs.Marks.{HasMarks, IsGiven}
use Rattle.wire_state.specs.Ways.{WayHistory}
use Rattle.wire_state.specs.Worlds.{Stands, stream_in}
use Rattle.wire_state.specs.declared.conn.Conn.{Conn}

-- an exchange that is linked
pub linked_given : {l : LimitKeys} → (conns : PagedMap Conn) (flows : Flows) (links : Links) (h : WayHistory) (x : ℕ) (e : Ends) → ends_of x links ≡ Some e → Stands l conns flows links h → IsGiven x h
linked_given conns flows links h x e found s =
    let m = subst (λ (o : Option Ends). IfSome o (HasMarks x h)) found (s.marks.ends x) in
    (m.some, m.given)

-- a flow that is there, where the exchanges that are live are linked
pub there_given : {l : LimitKeys} → (conns : PagedMap Conn) (flows : Flows) (links : Links) (h : WayHistory) (f : FlowId) → is_some (ends_of f.exchange links) ≡ is_live_in flows f.exchange → is_there flows f ≡ true → Stands l conns flows links h → IsGiven f.exchange h
there_given conns flows links h f live there s = at (ends_of f.exchange links) refl (live ∙ alive (exchange_at flows.exchanges f.exchange) there)
  where
    alive : (o : Option Exchange) → is_some (option_and_then (side_of f.back) o) ≡ true → is_some o ≡ true
    alive None e = e
    alive (Some v) e = refl

    at : (o : Option Ends) → ends_of f.exchange links ≡ o → is_some o ≡ true → IsGiven f.exchange h
    at None is e = cc
    at (Some v) is e = linked_given conns flows links h f.exchange v is s

-- a flow that has a stream where it goes
pub stream_given : {l : LimitKeys} → (conns : PagedMap Conn) (flows : Flows) (links : Links) (h : WayHistory) (f : FlowId) (k : ℕ) → stream_in links f ≡ Some k → Stands l conns flows links h → IsGiven f.exchange h
stream_given conns flows links h f k on s = at (ends_of f.exchange links) refl on
  where
    at : (o : Option Ends) → ends_of f.exchange links ≡ o → option_and_then (λ e. if f.back then Some e.stream else e.cluster_stream) o ≡ Some k → IsGiven f.exchange h
    at None is e = cc
    at (Some v) is e = linked_given conns flows links h f.exchange v is s
