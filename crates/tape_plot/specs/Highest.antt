-- The buffers that a picture shows where none are named: the 40 that were highest against their limits.
use Rattle.flow_gate.specs.Ids.{same_buffer}
use Rattle.flow_rules.specs.declared.ids.BufferId.{BufferId}
use Rattle.flow_rules.specs.declared.ids.FlowId.{FlowId}
use Rattle.std.specs.List.{Contains}
use Rattle.std.specs.Option.{option_map_or, option_or}
use Rattle.std.specs.Prelude.{All, Bool, List, None, Option, Some, [], false, if◌then◌else◌, length, max, min, nat_lt, not, true, ℕ, ◌&&◌, ◌*◌, ◌+◌, ◌-◌, ◌/◌, ◌==◌, ◌^◌, ◌||◌, ◌∷◌, ◌≡◌, ◌≤◌, ◌⊎◌}
use Rattle.tape_laws.specs.Dispatches.{turns}
use Rattle.tape_laws.specs.History.{History, NoMark}
use Rattle.tape_plot.specs.Levels.{at, places, written}
use Rattle.tape_plot.specs.Said.{Said, Sums}
use Rattle.tape_plot.specs.declared.highest.Buffer.{Buffer}
use Rattle.tape_plot.specs.declared.height.Height.{Height}
use Rattle.flow_rules.specs.declared.ids.BufferId.TheVariants as id
use Rattle.tape_plot.specs.declared.highest.Buffer.TheVariants as buffer
use Rattle.tape_plot.specs.declared.report.Line.TheVariants as line

-- ---- the limit of a buffer

-- the limit that the summary tells of a buffer by this name, the last where it tells more
abbrev pub limit_named : BufferId → List Said → Option ℕ
limit_named b [] = None
limit_named b (Sums (line.Peak d limit most) ∷ past) = if same_buffer b d then Some limit else limit_named b past
limit_named b (says ∷ past) = limit_named b past

-- The first of so many places of a flow is its receive buffer, and each other one a stage; the last is its send buffer where the summary
-- tells of no such stage.
abbrev pub place_limit : FlowId → ℕ → ℕ → List Said → Option ℕ
place_limit f count p said =
    if p == 0 then limit_named (id.Recv f) said
    else option_or (limit_named (id.Stage f p) said) (if p + 1 == count then limit_named (id.Send f) said else None)

abbrev pub limit_told : Buffer → History NoMark → List Said → Option ℕ
limit_told (buffer.Place f p) h said = place_limit f (length (places f h)) p said
limit_told (buffer.Write c) h said = limit_named (id.Write c) said

-- 0 where the summary tells none
abbrev pub limit_of : Buffer → History NoMark → List Said → ℕ
limit_of b h said = option_map_or (λ n. n) (limit_told b h said) 0

-- ---- how high a buffer was

-- how many octets it holds
abbrev pub held_in : Buffer → History NoMark → ℕ
held_in (buffer.Place f p) h = at (places f h) p
held_in (buffer.Write c) h = written c h

-- the most that a number was from the first dispatch that is drawn on, or just before it
abbrev pub most_from : (History NoMark → ℕ) → ℕ → History NoMark → ℕ
most_from number first [] = number []
most_from number first (step ∷ past) = if nat_lt (turns (step ∷ past)) first then number (step ∷ past) else max (most_from number first past) (number (step ∷ past))

-- in thousandths of the limit, where that is known and isn't 0, and else in octets
abbrev pub against : ℕ → ℕ → Height
against limit most =
    if limit == 0 then record { is_limited = false; height = most }
    else record { is_limited = true; height = min (most * 1000) (2 ^ 64 - 1) / limit }

-- a buffer with a limit is higher than one without
abbrev pub is_higher : Height → Height → Bool
is_higher a b = if a.is_limited then not b.is_limited || nat_lt b.height a.height else not b.is_limited && nat_lt b.height a.height

abbrev pub height_in : Buffer → ℕ → History NoMark → List Said → Height
height_in b first h said = against (limit_of b h said) (most_from (held_in b) first h)

-- ---- which come first

-- by exchanges, a request before its response, place by place, and then by connections
abbrev pub is_before : Buffer → Buffer → Bool
is_before (buffer.Place f p) (buffer.Place g q) =
    nat_lt f.exchange g.exchange
    || ((f.exchange == g.exchange) && ((not f.back && g.back) || ((if f.back then g.back else not g.back) && nat_lt p q)))
is_before (buffer.Place f p) (buffer.Write c) = true
is_before (buffer.Write c) (buffer.Place f p) = false
is_before (buffer.Write c) (buffer.Write d) = nat_lt c d

-- the higher of two is drawn before the other, and of two that are equally high the one that comes first
abbrev pub goes_before : (Buffer → Height) → Buffer → Buffer → Bool
goes_before height a b = is_higher (height a) (height b) || (not (is_higher (height b) (height a)) && is_before a b)

-- each comes before all behind it
abbrev pub AreInOrder : {A : Type 0} → (A → A → Bool) → List A → Type 0
AreInOrder comes [] = Unit {0}
AreInOrder comes (a ∷ rest) = All (λ b. comes a b ≡ true) rest × AreInOrder comes rest

-- 40 of the buffers that were filled are picked, or all of them where there aren't more, the highest first; and each other one comes
-- behind all of these.
pub record ArePicked (height : Buffer → Height) (WasFilled : Buffer → Type 0) (picked : List Buffer) : Type 0 where
  pub few : length picked ≤ 40
  pub enough : (length picked ≡ 40) ⊎ ((b : Buffer) → WasFilled b → Contains picked b)
  pub filled : All WasFilled picked
  pub order : AreInOrder (goes_before height) picked
  pub others : (b : Buffer) → WasFilled b → Contains picked b ⊎ All (λ a. goes_before height a b ≡ true) picked
