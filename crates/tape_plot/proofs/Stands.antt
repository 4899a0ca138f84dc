-- Each lane that is kept stands for its buffer.
use Rattle.flow_rules.specs.declared.ids.FlowId.{FlowId}
use Rattle.std.proofs.Common.{ap, arith, subst}
use Rattle.std.proofs.Math.ListN.{get_or-eq_default}
use Rattle.std.specs.BTreeMap.{get}
use Rattle.std.specs.Ordering.{nat_cmp}
use Rattle.std.specs.Prelude.{Bool, None, Option, Some, [], false, length, true, ℕ, ◌≡◌}
use Rattle.tape_laws.specs.History.{History, NoMark}
use Rattle.tape_plot.specs.Flows.{FlowIs, lane_at}
use Rattle.tape_plot.specs.Kept.{ConnectionAt, ExchangeAt, ExchangeIs, LevelsAre}
use Rattle.tape_plot.specs.Lanes.{Drawn, LaneIs, fresh}
use Rattle.tape_plot.specs.Levels.{at, places, shown_count, written}
use Rattle.tape_plot.specs.Standing.{LanesStand, count_lane, flow_of, place_lane, places_in, write_lane}
use Rattle.tape_plot.specs.Subjects.{flow_id}
use Rattle.tape_plot.specs.declared.connection.Connection.{Connection}
use Rattle.tape_plot.specs.declared.exchange.Exchange.{Exchange}
use Rattle.tape_plot.specs.declared.levels.Levels.{Levels}

flow_is : (e : Exchange) (x first : ℕ) (h : History NoMark) (back : Bool) → ExchangeIs e x first h → FlowIs (flow_of e back) (flow_id x back) first h
flow_is e x first h true is = is.response
flow_is e x first h false is = is.request

none_at : (p : ℕ) → lane_at [] p ≡ fresh
none_at p = get_or-eq_default [] fresh {n = p} (omega arith)

placed_at : (o : Option Exchange) (f : FlowId) (p first : ℕ) (h : History NoMark) → ExchangeAt o f.exchange first h → LaneIs (place_lane o f.back p) (λ v. at (places f v) p) first h
placed_at None f p first h u = subst (λ (d : Drawn). LaneIs d (λ v. at (places f v) p) first h) (none_at p) ((u f.back).lanes.lanes p)
placed_at (Some e) f p first h is = (flow_is e f.exchange first h f.back is).lanes.lanes p

many_at : (o : Option Exchange) (f : FlowId) (first : ℕ) (h : History NoMark) → ExchangeAt o f.exchange first h → places_in o f.back ≡ length (places f h)
many_at None f first h u = ap length (u f.back).held
many_at (Some e) f first h is = (flow_is e f.exchange first h f.back is).many

counted_at : (o : Option Exchange) (f : FlowId) (first : ℕ) (h : History NoMark) → ExchangeAt o f.exchange first h → LaneIs (count_lane o f.back) (shown_count f) first h
counted_at None f first h u = (u f.back).count
counted_at (Some e) f first h is = (flow_is e f.exchange first h f.back is).count

wrote_at : (o : Option Connection) (c first : ℕ) (h : History NoMark) → ConnectionAt o c first h → LaneIs (write_lane o) (written c) first h
wrote_at None c first h q = q.write
wrote_at (Some k) c first h is = is.write

pub stands : (levels : Levels) (first : ℕ) (h : History NoMark) → LevelsAre levels first h → LanesStand levels first h
stands levels first h are = record {
  placed = λ f p. placed_at (get nat_cmp levels.exchanges.items f.exchange) f p first h (are.exchanges.each f.exchange);
  many = λ f. many_at (get nat_cmp levels.exchanges.items f.exchange) f first h (are.exchanges.each f.exchange);
  counted = λ f. counted_at (get nat_cmp levels.exchanges.items f.exchange) f first h (are.exchanges.each f.exchange);
  wrote = λ c. wrote_at (get nat_cmp levels.connections.items c) c first h (are.connections.each c);
}
