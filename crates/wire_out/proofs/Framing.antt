-- What holds of a unit that was framed, or of none, and of the task that goes on next.
use Rattle.exchange_core.specs.Exchange.{flow_in as side_of}
use Rattle.exchange_core.specs.Exchanges.{exchange_at}
use Rattle.exchange_core.specs.Flow.{Flow}
use Rattle.exchange_core.specs.Units.{IsFrameable}
use Rattle.exchange_core.specs.declared.exchange.Exchange.{Exchange}
use Rattle.flow_rules.specs.declared.ids.FlowId.{FlowId}
use Rattle.flow_rules.specs.declared.unit.Unit.TheVariants.{Head, Trailers}
use Rattle.std.proofs.Common.{refl}
use Rattle.std.specs.Option.{option_and_then}
use Rattle.std.specs.Prelude.{Bool, Err, IfOk, IfSome, List, MatchOption, None, Ok, Option, Result, Some, [], false, is_some, slice_get, true, ◌∷◌, ◌≡◌}
use Rattle.wire_flows.specs.Flows.{Flows, IsThere, is_live_in}
use Rattle.wire_flows.specs.Sound.{IsSound as AreSoundFlows, IsWhole}
use Rattle.wire_state.specs.Agenda.{top_go}
use Rattle.wire_state.specs.Progress.{task_go}
use Rattle.wire_state.specs.declared.agenda.Task.{Task}

pub match_ok : {U E A B C D : Type 0} (r : Result (Option U) E) → (A → C) → (B → D) → IfOk r (λ o. MatchOption o A (λ u. B)) → IfOk r (λ o. MatchOption o C (λ u. D))
match_ok (Ok None) f g p = f p
match_ok (Ok (Some u)) f g p = g p
match_ok (Err e) f g p = tt

-- trailers are framed as a list with the end
pub as_list : (f : Option Flow) → IfSome f (IsFrameable Trailers) → IfSome f (IsFrameable (Head true))
as_list None p = tt
as_list (Some f) p = (p.0, λ e. p.1)

-- a flow of an exchange that is live is there
whole_there : (back : Bool) (x : Option Exchange) → IfSome x IsWhole → is_some x ≡ true → is_some (option_and_then (side_of back) x) ≡ true
whole_there back None w live = live
whole_there false (Some x) w live = refl
whole_there true (Some x) w live = w.both

pub live_there : (flows : Flows) (f : FlowId) → AreSoundFlows flows → is_live_in flows f.exchange ≡ true → IsThere flows f
live_there flows f s live = whole_there f.back (exchange_at flows.exchanges f.exchange) (s.each f.exchange) live

-- what the task on top weighs
pub top_weight : (tasks : List Task) (t : Task) → slice_get tasks 0 ≡ Some t → top_go tasks ≡ task_go t
top_weight [] t e = absurd (cc e)
top_weight (x ∷ xs) t e = cc e
