-- Buffers that nobody watches are closed, one after another.
use Rattle.flow_gate.proofs.ByBuffer.{part_at, read}
use Rattle.flow_gate.specs.Ids.{same_buffer, same_flow}
use Rattle.flow_gate.specs.Line.{Line, Places}
use Rattle.flow_gate.specs.Named.{ByFlow, Updates, all_of}
use Rattle.flow_gate.specs.Parts.{buffer_at, flow_at, is_after, kept}
use Rattle.flow_gate.specs.declared.buffers.StageId.{StageId}
use Rattle.flow_rules.specs.declared.ids.BufferId.{BufferId}
use Rattle.flow_rules.specs.declared.ids.BufferId.TheVariants as buffer
use Rattle.flow_rules.specs.declared.ids.FlowId.{FlowId}
use Rattle.std.proofs.Common.{ap, arith, inl, inr, refl, sym, ◌∙◌}
use Rattle.std.proofs.lemmas.Bool.{cases_Bool, eqb-true}
use Rattle.std.specs.Map.{lookup}
use Rattle.std.specs.Prelude.{Bool, List, None, Option, Some, [], cond, false, if◌then◌else◌, length, not, true, ℕ, ◌&&◌, ◌==◌, ◌∷◌, ◌≡◌}

kept-unwatched : (line : Line) → line.watchers ≡ [] → kept (Some line) ≡ None
kept-unwatched line none = ap (λ xs. if length xs == 0 then None else Some line) none

some_length : (xs : Places) → (xs ≡ [] → ⊥) → (length xs == 0) ≡ false
some_length [] some = absurd (some refl)
some_length (x ∷ xs) some = elim (cases_Bool (length (x ∷ xs) == 0)) [
  | inl h ↦ absurd (let none = eqb-true (length (x ∷ xs)) 0 h in omega (arith, none))
  | inr h ↦ h
]

kept-watched : (line : Line) → (line.watchers ≡ [] → ⊥) → kept (Some line) ≡ Some line
kept-watched line some = ap (λ t. if t then None else Some line) (some_length line.watchers some)

-- ---- a name's line goes, where nobody stands in it
module _ {K : Type 0} (same : K → K → Bool) (exact : (k c : K) → same k c ≡ true → k ≡ c) (k : K) where
  -- each name has what it had, but for one, which has this
  abbrev pub Closed : List (K × Line) → List (K × Line) → Type 0
  Closed old new = (c : K) → lookup (same c) new ≡ (if same k c then kept (lookup (same c) old) else lookup (same c) old)

  -- what is at the name, and what is elsewhere
  at_key : (o : Option Line) (old : List (K × Line)) → lookup (same k) old ≡ o → (w : Option Line) → w ≡ kept o → (c : K) →
      cond (same k c) w (lookup (same c) old) ≡ (if same k c then kept (lookup (same c) old) else lookup (same c) old)
  at_key o old is w same_kept c = elim (cases_Bool (same k c)) [
    | inl here ↦
        let found : lookup (same c) old ≡ o = ap (λ d. lookup (same d) old) (sym (exact k c here)) ∙ is in
        ap (λ t. cond t w (lookup (same c) old)) here ∙ same_kept ∙ ap kept (sym found) ∙ ap (λ t. if t then kept (lookup (same c) old) else lookup (same c) old) (sym here)
    | inr other ↦ ap (λ t. cond t w (lookup (same c) old)) other ∙ ap (λ t. if t then kept (lookup (same c) old) else lookup (same c) old) (sym other)
  ]

  -- its line, which may be written before, goes
  pub unwatched_closed : (line line' : Line) (old mid new : List (K × Line)) → Some line ≡ lookup (same k) old → line.watchers ≡ [] →
      Updates same k (Some line') old mid → Updates same k None mid new → Closed old new
  unwatched_closed line line' old mid new found none written gone c =
      gone c ∙ ap (λ o. cond (same k c) None o) (written c) ∙ either (same k c) (lookup (same c) old) ∙ at_key (Some line) old (sym found) None (sym (kept-unwatched line none)) c
    where
      either : (t : Bool) (o : Option Line) → cond t None (cond t (Some line') o) ≡ cond t None o
      either true o = refl
      either false o = refl

  -- its line stays as it is
  pub watched_stays : (line : Line) (old new : List (K × Line)) → Some line ≡ lookup (same k) old → (line.watchers ≡ [] → ⊥) → Updates same k (Some line) old new → Closed old new
  watched_stays line old new found some written c = written c ∙ at_key (Some line) old (sym found) (Some line) (sym (kept-watched line some)) c

  -- it has none
  pub absent_stays : (old new : List (K × Line)) → None ≡ lookup (same k) old → new ≡ old → Closed old new
  absent_stays old new found is c = ap (lookup (same c)) is ∙ elim (cases_Bool (same k c)) [
    | inl here ↦
        let none : lookup (same c) old ≡ None = ap (λ d. lookup (same d) old) (sym (exact k c here)) ∙ sym found in
        none ∙ ap kept (sym none) ∙ ap (λ t. if t then kept (lookup (same c) old) else lookup (same c) old) (sym here)
    | inr other ↦ ap (λ t. if t then kept (lookup (same c) old) else lookup (same c) old) (sym other)
  ]

-- no flow has a line
pub none_stays : (f : FlowId) (es : ByFlow Line) → (length es == 0) ≡ true → (g : FlowId) → flow_at es g ≡ (if same_flow f g then kept (flow_at es g) else flow_at es g)
none_stays f [] none g = either (same_flow f g)
  where
    either : (t : Bool) → ◌≡◌ {A = Option Line} None (if t then None else None)
    either true = refl
    either false = refl
none_stays f (e ∷ es) none g = absurd (let zero = eqb-true (length (e ∷ es)) 0 none in omega (arith, zero))

-- what goes of the receive buffers or of the send buffers goes of all
module _ (ws : List (ℕ × Line)) (rs : ByFlow Line) (ss : List (StageId × Line)) (es : ByFlow Line) (f : FlowId) where
  pub recv_closed : (rs' : ByFlow Line) → ((g : FlowId) → flow_at rs' g ≡ (if same_flow f g then kept (flow_at rs g) else flow_at rs g)) → (b : BufferId) →
      buffer_at (all_of ws rs' ss es) b ≡ (if same_buffer (buffer.Recv f) b then kept (buffer_at (all_of ws rs ss es) b) else buffer_at (all_of ws rs ss es) b)
  recv_closed rs' change b = read b ws rs' ss es ∙ each b ∙ ap (λ o. if same_buffer (buffer.Recv f) b then kept o else o) (sym (read b ws rs ss es))
    where
      each : (b : BufferId) → part_at b ws rs' ss es ≡ (if same_buffer (buffer.Recv f) b then kept (part_at b ws rs ss es) else part_at b ws rs ss es)
      each (buffer.Write d) = refl
      each (buffer.Recv g) = change g
      each (buffer.Stage g i) = refl
      each (buffer.Send g) = refl

  pub send_closed : (es' : ByFlow Line) → ((g : FlowId) → flow_at es' g ≡ (if same_flow f g then kept (flow_at es g) else flow_at es g)) → (b : BufferId) →
      buffer_at (all_of ws rs ss es') b ≡ (if same_buffer (buffer.Send f) b then kept (buffer_at (all_of ws rs ss es) b) else buffer_at (all_of ws rs ss es) b)
  send_closed es' change b = read b ws rs ss es' ∙ each b ∙ ap (λ o. if same_buffer (buffer.Send f) b then kept o else o) (sym (read b ws rs ss es))
    where
      each : (b : BufferId) → part_at b ws rs ss es' ≡ (if same_buffer (buffer.Send f) b then kept (part_at b ws rs ss es) else part_at b ws rs ss es)
      each (buffer.Write d) = refl
      each (buffer.Recv g) = refl
      each (buffer.Stage g i) = refl
      each (buffer.Send g) = change g

-- ---- the stages of a flow, one after another
-- a stage of the flow up to the last one
abbrev pub is_done : FlowId → Option ℕ → BufferId → Bool
is_done f after (buffer.Stage g i) = same_flow f g && not (is_after after i)
is_done f after other = false
