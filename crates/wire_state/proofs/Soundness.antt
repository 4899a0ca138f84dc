-- What holds of a core goes on to hold where one of its parts changed.
use Rattle.exchange_core.specs.Exchanges.{Exchanges, exchange_at, is_live}
use Rattle.exchange_core.specs.declared.exchange.Exchange.{Exchange}
use Rattle.paged_map.specs.PagedMap.{PagedMap}
use Rattle.proxy_config.specs.declared.config.Config.{Config}
use Rattle.proxy_config.specs.declared.config.LimitKeys.{LimitKeys}
use Rattle.std.proofs.Common.{ap, subst, sym, ◌∙◌}
use Rattle.std.specs.BTreeMap.{is_at}
use Rattle.std.specs.Map.{lookup}
use Rattle.std.specs.Ordering.{nat_cmp}
use Rattle.std.specs.Prelude.{IfSome, List, [], is_some, nat_eq, ℕ, ◌≡◌, ◌≤◌}
use Rattle.wire_flows.specs.Flows.{Flows, KeepsLive, is_live_in, time_of}
use Rattle.wire_links.specs.Links.{Links, ends_of, no_links}
use Rattle.wire_state.specs.Sound.{AreKept, AreSound, IsKept}
use Rattle.wire_state.specs.declared.conn.Conn.{Conn}
use Rattle.wire_timers.specs.Armed.{Timeouts}

module _ (config : Config) (now : ℕ) (links : Links) (conns : PagedMap Conn) (flows : Flows) (timers : Timeouts) (s : AreSound config now links conns flows timers) where
  -- other timers
  pub timers_sound : (new : Timeouts) → new.latest ≤ now → AreSound config now links conns flows new
  timers_sound new l = record { range = s.range; moment = s.moment; armed = l; metered = s.metered; live = s.live; kept = s.kept }

  -- other connections
  pub conns_sound : (new : PagedMap Conn) → AreKept config.limits new → AreSound config now links new flows timers
  conns_sound new k = record { range = s.range; moment = s.moment; armed = s.armed; metered = s.metered; live = s.live; kept = k }

  -- other links, of the same exchanges
  pub links_sound : (new : Links) → ((x : ℕ) → is_some (ends_of x new) ≡ is_some (ends_of x links)) → AreSound config now new conns flows timers
  links_sound new e = record { range = s.range; moment = s.moment; armed = s.armed; metered = s.metered; live = λ x. e x ∙ s.live x; kept = s.kept }

  -- other flows, of which the same are live
  pub flows_sound : (new : Flows) → KeepsLive flows new → time_of new ≡ time_of flows → AreSound config now links conns new timers
  flows_sound new k t = record { range = s.range; moment = s.moment; armed = s.armed; metered = subst (λ (m : ℕ). m ≤ now) (sym t) s.metered; live = λ x. s.live x ∙ sym (k.live x); kept = s.kept }

  pub gates_sound : (new : Flows) → new.exchanges ≡ flows.exchanges → AreSound config now links conns new timers
  gates_sound new e = record {
    range = s.range;
    moment = s.moment;
    armed = s.armed;
    metered = subst (λ (v : Exchanges). v.time ≤ now) (sym e) s.metered;
    live = λ x. s.live x ∙ sym (ap (λ (v : Exchanges). is_live v x) e);
    kept = s.kept;
  }

-- ---- at first
pub empty_live : (links : Links) (flows : Flows) → links ≡ no_links → flows.exchanges.live ≡ [] → (x : ℕ) → is_some (ends_of x links) ≡ is_live_in flows x
unfolding exchange_at
empty_live links flows l f x =
    ap (λ (k : Links). is_some (ends_of x k)) l ∙ sym (ap (λ (es : List (ℕ × Exchange)). is_some (lookup (nat_eq x) es)) f)

pub empty_kept : (limits : LimitKeys) (conns : PagedMap Conn) → conns.entries ≡ [] → AreKept limits conns
empty_kept limits conns e q = subst (λ (es : List (ℕ × Conn)). IfSome (lookup (is_at (nat_cmp q)) es) (λ c. IsKept limits c.outlet)) (sym e) tt
