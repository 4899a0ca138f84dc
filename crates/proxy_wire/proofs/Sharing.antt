-- Connections and seats that nobody has used.
use Rattle.metered_wires.specs.Rising.{IsRising}
use Rattle.config_tables.specs.Reading.{config_of}
use Rattle.proxy_config.specs.declared.config.Config.{Config}
use Rattle.config_tables.specs.declared.fault.ConfigFault.{ConfigFault}
use Rattle.proxy_site.specs.Sites.{IsUnused}
use Rattle.proxy_wire.specs.Pools.{IsStaff, SharesOf}
use Rattle.proxy_wire.specs.Leading.{Leads}
use Rattle.proxy_wire.specs.Tasks.{IsTask}
use Rattle.proxy_wire.specs.declared.pool.Staff.{Staff}
use Rattle.proxy_wire.specs.declared.pool.Task.{Task}
use Rattle.proxy_wire.specs.declared.leading.Leader.{Leader}
use Rattle.shared_state.specs.PermitSeats as permit
use Rattle.shared_state.specs.declared.permit_rule.PermitView.{PermitView}
use Rattle.shared_state.specs.declared.permits.PermitSeat.{PermitSeat}
use Rattle.shared_state.specs.declared.permits.Permits.{Permits}
use Rattle.shared_tokens.specs.Seats as token
use Rattle.shared_tokens.specs.declared.seats.Bucket.{Bucket}
use Rattle.shared_tokens.specs.declared.seats.TokenSeat.{TokenSeat}
use Rattle.std.proofs.Common.{All, ap, subst, sym, ◌∙◌}
use Rattle.std.proofs.lemmas.Bool.{false≢true}
use Rattle.std.proofs.lemmas.List.Elements.{All-pop}
use Rattle.std.specs.List.{list_any}
use Rattle.std.specs.Prelude.{IfOk, List, Ok, Result, Some, [], nat_eq, true, vec_len, ℕ, ◌++◌, ◌∷◌, ◌≡◌, ◌≤◌}
use Rattle.worker_core.specs.Sessions.{IsNew}
use Rattle.worker_core.specs.declared.worker.Core.{Core}
use Rattle.worker_ports.specs.Wires.{Seen}
use Rattle.worker_threads.specs.declared.worker.Shared.{Shared}

none_any : (c m : ℕ) (live : List ℕ) → live ≡ [] → list_any (nat_eq c) live ≡ true → c ≤ m
none_any c m live e t = let P : List ℕ → Type 0 = λ l. list_any (nat_eq c) l ≡ true in absurd (false≢true (subst P e t))

pub unused_rises : (seen : Seen) (n : ℕ) → IsUnused n seen → IsRising seen
unused_rises seen n unused = record {
  live = λ c t. none_any c seen.greatest seen.live unused.live t;
  held = λ c t. none_any c seen.greatest seen.held unused.held t;
}

-- ---- seats that nobody has used are seats
pub new_seats : (permits : Permits) (seats : List PermitSeat) → All (permit.IsNewSeat permits) seats → All (permit.IsSeatOf permits) seats
new_seats permits seats new k d less =
    let p = new k d less in (p.0, ap (λ (v : PermitView). v.max) p.1, ap (λ (v : PermitView). v.owing) p.1)

pub new_takers : (bucket : Bucket) (seats : List TokenSeat) → All (token.IsNewSeat bucket) seats → All (token.IsSeatOf bucket) seats
new_takers bucket seats new k d less = (new k d less).0

-- ---- a seat that is taken out
pub seats_left : (permits : Permits) (xs ys : List PermitSeat) (s : PermitSeat) → xs ≡ ys ++ s ∷ [] → All (permit.IsSeatOf permits) xs → All (permit.IsSeatOf permits) ys
seats_left permits xs ys s e all = (All-pop (permit.IsSeatOf permits) xs ys (Some s) e all).0

pub seat_taken : (permits : Permits) (xs ys : List PermitSeat) (s : PermitSeat) → xs ≡ ys ++ s ∷ [] → All (permit.IsSeatOf permits) xs → permit.IsSeatOf permits s
seat_taken permits xs ys s e all = (All-pop (permit.IsSeatOf permits) xs ys (Some s) e all).1

pub takers_left : (bucket : Bucket) (xs ys : List TokenSeat) (s : TokenSeat) → xs ≡ ys ++ s ∷ [] → All (token.IsSeatOf bucket) xs → All (token.IsSeatOf bucket) ys
takers_left bucket xs ys s e all = (All-pop (token.IsSeatOf bucket) xs ys (Some s) e all).0

pub taker_taken : (bucket : Bucket) (xs ys : List TokenSeat) (s : TokenSeat) → xs ≡ ys ++ s ∷ [] → All (token.IsSeatOf bucket) xs → token.IsSeatOf bucket s
taker_taken bucket xs ys s e all = (All-pop (token.IsSeatOf bucket) xs ys (Some s) e all).1

-- ---- the same staff, with another meter
pub staff_kept : {M N : Type 0} (config : Config) (a : Staff M) (b : Staff N) → b.shared ≡ a.shared → b.supply.seats ≡ a.supply.seats → IsStaff config a → IsStaff config b
staff_kept config a b shared seats is = record {
  shares = subst (λ (s : Shared). SharesOf config s) (sym shared) is.shares;
  none = ap (λ (s : Shared). vec_len s.posts) shared ∙ is.none;
  seats =
      let kept : All (permit.IsSeatOf a.shared.permits) (permit.seats_in b.supply.seats) = subst (λ (l : List PermitSeat). All (permit.IsSeatOf a.shared.permits) l) (sym (ap permit.seats_in seats)) is.seats in
      subst (λ (s : Shared). All (permit.IsSeatOf s.permits) (permit.seats_in b.supply.seats)) (sym shared) kept;
}

pub leads_kept : {M N : Type 0} (a : Staff M) (b : Staff N) (leader : Leader) → b.shared ≡ a.shared → Leads a.shared.posts.items leader → Leads b.shared.posts.items leader
leads_kept a b leader shared leads = subst (λ (s : Shared). Leads s.posts.items leader) (sym shared) leads

-- ---- a core that is made of the text
same_config : (a b : Config) → ◌≡◌ {A = Result Config ConfigFault} (Ok a) (Ok b) → a ≡ b
same_config a b e = cc

new_in : {E : Type 0} (config : Config) (r : Result Core E) (read : Config) → read ≡ config → IfOk r (λ core. IsNew read core.kind) → IfOk r (λ core. IsNew config core.kind)
new_in config r read e new = subst (λ (v : Config). IfOk r (λ core. IsNew v core.kind)) e new

pub new_core : {E : Type 0} (task : Task) (r : Result Core E) (read : Config) → IsTask task → config_of task.text.now ≡ Ok read → IfOk r (λ core. IsNew read core.kind) → IfOk r (λ core. IsNew task.config.now core.kind)
new_core task r read is spelled new = new_in task.config.now r read (same_config read task.config.now (sym spelled ∙ is.is)) new
