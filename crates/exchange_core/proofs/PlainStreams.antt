-- A stream of a plain session as a flow of one place.
use Rattle.std.proofs.Common.{◌≡◌, ◌∙◌, ◌&&◌, ◌<◌, ℕ, Bool, true, false, refl, ap, arith, length, min, nat_lt}
use Rattle.std.proofs.lemmas.Bool.Decides.{nat_tests}
use Rattle.exchange_core.specs.Exchange.{flow_id}
use Rattle.exchange_core.specs.Moves.{is_free, left_from, may_release, next_step, step_from, stepped}
use Rattle.exchange_core.specs.Plain.{Plain, plain_crossed, plain_flow, plain_moved}
use Rattle.exchange_core.specs.declared.step.Step.TheVariants.{Moved, Still}
use Rattle.flow_gate.specs.Board.{Board, count, is_marked}
use Rattle.flow_rules.specs.declared.ids.BufferId.TheVariants as buffer
use Rattle.std.specs.Option.{option_map_or}
use Rattle.std.specs.Prelude.{None, Some, if◌then◌else◌, not, ◌==◌, ◌||◌}

-- its octets may move
abbrev pub plain_free : Board → ℕ → Plain → Bool
plain_free board x p = is_free board (Some 0) (plain_flow x p) 0

-- then it is read, something lies in its receive buffer, and neither the send buffer nor the write buffer is above
pub record IsFree (board : Board) (x : ℕ) (p : Plain) : Type 0 where
  pub read : count board (flow_id x false) ≡ 0
  pub some : 0 < min p.quantum (length p.recv)
  pub send_low : is_marked board (buffer.Send (flow_id x false)) ≡ false
  pub write_low : is_marked board (buffer.Write 0) ≡ false

pub free_is : (board : Board) (x : ℕ) (p : Plain) → plain_free board x p ≡ true → IsFree board x p
free_is board x p =
    by (count board (flow_id x false) == 0) refl (is_marked board (buffer.Send (flow_id x false))) refl (is_marked board (buffer.Write 0)) refl
  where
    none : (b : Bool) → (b && false) ≡ true → ⊥
    none true e = cc
    none false e = cc

    by : (c : Bool) → (count board (flow_id x false) == 0) ≡ c → (s : Bool) → is_marked board (buffer.Send (flow_id x false)) ≡ s → (w : Bool) → is_marked board (buffer.Write 0) ≡ w
        → (nat_lt 0 (if c then min p.quantum (length p.recv) else 0) && not (s || (w || false))) ≡ true → IsFree board x p
    by true c false s false w e = record { read = grind (arith, nat_tests); some = grind (arith, nat_tests); send_low = s; write_low = w }
    by true c false s true w e = absurd (none (nat_lt 0 (min p.quantum (length p.recv))) e)
    by true c true s w f e = absurd (none (nat_lt 0 (min p.quantum (length p.recv))) e)
    by false c s f w g e = absurd (cc)

pub stays : (board : Board) (x : ℕ) (p : Plain) → plain_free board x p ≡ false
    → (next_step board (Some 0) (plain_flow x p) ≡ Still) × (stepped board (Some 0) (plain_flow x p) ≡ plain_flow x p)
stays board x p e = (
  ap (λ b. option_map_or (λ q. step_from (plain_flow x p) q (may_release board (plain_flow x p) q)) (if b then Some 0 else None) Still) e,
  ap (λ b. option_map_or (λ q. left_from (plain_flow x p) q (may_release board (plain_flow x p) q)) (if b then Some 0 else None) (plain_flow x p)) e,
)

-- all of its receive buffer that one move carries goes on
pub goes : (board : Board) (x : ℕ) (p : Plain) → plain_free board x p ≡ true
    → (next_step board (Some 0) (plain_flow x p) ≡ Moved 0 (min p.quantum (length p.recv)) (plain_crossed (min p.quantum (length p.recv)) p) false)
    × (stepped board (Some 0) (plain_flow x p) ≡ plain_flow x (plain_moved (min p.quantum (length p.recv)) p))
goes board x p e =
    let n = min p.quantum (length p.recv) in
    let all : may_release board (plain_flow x p) 0 ≡ n = cc ((free_is board x p e).read) in (
      ap (λ b. option_map_or (λ q. step_from (plain_flow x p) q (may_release board (plain_flow x p) q)) (if b then Some 0 else None) Still) e ∙ ap (step_from (plain_flow x p) 0) all,
      ap (λ b. option_map_or (λ q. left_from (plain_flow x p) q (may_release board (plain_flow x p) q)) (if b then Some 0 else None) (plain_flow x p)) e ∙ ap (left_from (plain_flow x p) 0) all,
    )
