use Rattle.std.proofs.Common.{ap, ⊎_elim, inl, inr}
use Rattle.shared_state.proofs.follower.Follower.current.Goals as goal

pub returns-clause-published : goal.returns-clause-published
returns-clause-published g c = ⊎_elim (λ l. inl l) (λ r. inr (ap (λ e. e.version) r, ap (λ e. e.pressures) r)) c.renew.ensures.published
