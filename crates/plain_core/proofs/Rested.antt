-- What a core at rest stands for.
use Rattle.plain_laws.proofs.Streams.{by_case, not_both}
use Rattle.plain_laws.specs.Regular.{Rests as IsAtRest}
use Rattle.std.proofs.Math.Bool.{and-false}
use Rattle.std.specs.List.{list_any}
use Rattle.std.specs.Prelude.{Bool, [], false, ℕ, ◌==◌, ◌≡◌}
use Rattle.plain_laws.specs.Words.{Past, Alive, recv_at}
use Rattle.tape_laws.specs.Flows.{request}
use Rattle.tape_laws.specs.Pauses.{count}
use Rattle.tape_laws.specs.PlainSession.{plain_must_end}
use Rattle.tape_laws.specs.declared.PlainLimits.{PlainLimits}
use Rattle.plain_core.specs.Agenda.{Agenda}
use Rattle.plain_core.specs.Carries.{may_move}
use Rattle.plain_core.specs.Stands.{Rests}
use Rattle.plain_core.specs.declared.agenda.Task.{Task}
use Rattle.plain_core.specs.declared.plain.PlainCore.{PlainCore}

pub at_rest : (limits : PlainLimits) (core : PlainCore) (h : Past) → Rests limits core h → IsAtRest limits h
at_rest limits core h r = record { regular = r.good.flows.lawful.regular; quiet = r.whole.quiet }

-- of an agenda that is empty
pub no_task : (p : Task → Bool) (agenda : Agenda) → agenda ≡ [] → list_any p agenda ≡ false
no_task p agenda e = cc

-- no octets may move
module _ (limits : PlainLimits) (core : PlainCore) (x : ℕ) (h : Past) where
  pub rest_still : Rests limits core h → Alive h x → may_move limits x h ≡ false
  rest_still r is = by_case (may_move limits x h) (λ t. not_both _ (r.good.underway.runs x is t) (no_task _ core.agenda r.idle)) (λ f. f)

  -- no stream has to end
  pub rest_unended : Rests limits core h → Alive h x → plain_must_end x h ≡ false
  rest_unended r is = by_case (plain_must_end x h) (λ t. not_both _ (r.good.underway.ends x is t) (no_task _ core.agenda r.idle)) (λ f. f)

-- what keeps a stream's count and its receive buffer
pub may_same : (limits : PlainLimits) (x : ℕ) (old new : Past) → count (request x) new ≡ count (request x) old
    → recv_at limits x new ≡ recv_at limits x old → may_move limits x new ≡ may_move limits x old
may_same limits x old new ec ep =
    cc

-- an empty receive buffer
pub may_not : (limits : PlainLimits) (x : ℕ) (h : Past) → recv_at limits x h ≡ [] → may_move limits x h ≡ false
may_not limits x h e = cc (and-false (count (request x) h == 0))
