-- Flows that a step neither starts nor dooms.
use Rattle.flow_rules.specs.declared.ids.FlowId.{FlowId}
use Rattle.flow_laws.proofs.Lists.{both, by_case, flow_is, not_both, or_none}
use Rattle.flow_laws.proofs.Lives.{Lives, has_more, has_without, lives}
use Rattle.flow_laws.specs.Ways.{starts}
use Rattle.std.proofs.Common.{ap, arith, refl, sym, ◌∙◌}
use Rattle.std.proofs.lemmas.List.{append-nil}
use Rattle.std.specs.Prelude.{Bool, List, [], false, filter, if◌then◌else◌, not, true, ℕ, ◌&&◌, ◌++◌, ◌+◌, ◌==◌, ◌||◌, ◌∷◌, ◌≡◌}
use Rattle.tape_laws.specs.Dispatches.{has, live, started}
use Rattle.tape_laws.specs.Doomed.{LeavesDoomed}
use Rattle.tape_laws.specs.Flows.{same_flow}
use Rattle.tape_laws.specs.History.{EachFollows, History, Noted, Step}
use Rattle.tape_laws.specs.Pauses.{pauses, resumes}
use Rattle.tape_laws.specs.Setup.{Setup}
use Rattle.tape_laws.specs.World.{place, received, sent}
use Rattle.flow_notes.specs.declared.notes.Note.TheVariants as note

-- the step doesn't doom the flow's exchange
abbrev pub spares : {Mark : Type 0} → FlowId → Step Mark → Bool
spares f (Noted (note.Doom x why)) = not (f.exchange == x)
spares f step = true

-- its exchange stays live or not
started_other : (xs : List ℕ) (x y : ℕ) → (x == y) ≡ false → has (xs ++ x ∷ []) y ≡ has xs y
started_other xs x y d = has_more xs x y ∙ none (has xs y) (x == y) d
  where
    none : (a b : Bool) → b ≡ false → (a || b) ≡ a
    none true b e = refl
    none false b e = e

doomed_other : (xs : List ℕ) (x y : ℕ) → not (y == x) ≡ true → has (filter (λ z. not (z == x)) xs) y ≡ has xs y
doomed_other xs x y s = has_without xs x y ∙ ap (λ b. b && has xs y) s

pub life_stays : {Mark : Type 0} (f : FlowId) (step : Step Mark) (h : History Mark) → starts f step ≡ false → spares f step ≡ true
    → has (live (step ∷ h)) f.exchange ≡ has (live h) f.exchange
life_stays f (Noted (note.Start x c s d)) h b e = started_other (live h) x f.exchange b
life_stays f (Noted (note.Doom x why)) h b e = doomed_other (live h) x f.exchange e
life_stays f step h b e = refl

-- a flow that is live then was spared
pub lives_spared : {Mark : Type 0} (f : FlowId) (step : Step Mark) (h : History Mark) → has (live (step ∷ h)) f.exchange ≡ true → spares f step ≡ true
lives_spared f (Noted (note.Doom x why)) h l = (both (not (f.exchange == x)) (has (live h) f.exchange) (sym (has_without (live h) x f.exchange) ∙ l)).0
lives_spared f step h l = refl

-- the flow of an exchange that never started isn't named
pub record IsUnborn {Mark : Type 0} (setup : Setup Mark) (f : FlowId) (h : History Mark) : Type 0 where
  pub empty : (p : ℕ) → place setup f p h ≡ []
  pub unpaused : pauses f h ≡ 0
  pub unresumed : resumes f h ≡ 0
  pub unread : received f h ≡ []
  pub unsent : sent setup f h ≡ []

module _ {Mark : Type 0} (setup : Setup Mark) (f : FlowId) where
  -- a flow that is named is another one
  stranger : (g : FlowId) (h : History Mark) → Lives h → has (started h) f.exchange ≡ false → has (live h) g.exchange ≡ true → same_flow g f ≡ false
  stranger g h r new l = by_case (same_flow g f)
      (λ t. not_both (has (live h) g.exchange) l (ap (λ (v : FlowId). has (live h) v.exchange) (flow_is g f t) ∙ r.born f.exchange new)) (λ d. d)

  abbrev New : Step Mark → History Mark → Type 0
  New step h = LeavesDoomed step h → Lives h → has (started (step ∷ h)) f.exchange ≡ false → (has (started h) f.exchange ≡ false → IsUnborn setup f h) → IsUnborn setup f (step ∷ h)

  -- a step that leaves its octets and counts alone
  unborn_more : (step : Step Mark) (h : History Mark) → ((p : ℕ) → place setup f p (step ∷ h) ≡ place setup f p h) → pauses f (step ∷ h) ≡ pauses f h
      → resumes f (step ∷ h) ≡ resumes f h → received f (step ∷ h) ≡ received f h → sent setup f (step ∷ h) ≡ sent setup f h → IsUnborn setup f h → IsUnborn setup f (step ∷ h)
  unborn_more step h e1 e2 e3 e4 e5 u = record {
    empty = λ p. e1 p ∙ u.empty p;
    unpaused = e2 ∙ u.unpaused;
    unresumed = e3 ∙ u.unresumed;
    unread = e4 ∙ u.unread;
    unsent = e5 ∙ u.unsent;
  }

  unborn_step : (step : Step Mark) (h : History Mark) → New step h
  unborn_step (Noted (note.Arrive g octets)) h l r new u =
      let d = stranger g h r new l in
      unborn_more (Noted (note.Arrive g octets)) h (λ p. rw d (append-nil (place setup f p h))) refl refl (rw d (append-nil (received f h))) refl (u new)
  unborn_step (Noted (note.Move g q n)) h l r new u =
      let d = stranger g h r new l in unborn_more (Noted (note.Move g q n)) h (λ p. rw d refl) refl refl refl refl (u new)
  unborn_step (Noted (note.Frame c g n last)) h l r new u =
      let d = stranger g h r new l in
      unborn_more (Noted (note.Frame c g n last)) h (λ p. rw d refl) refl refl refl (rw d (append-nil (sent setup f h))) (u new)
  unborn_step (Noted (note.Pause g b)) h l r new u =
      let d = stranger g h r new l in unborn_more (Noted (note.Pause g b)) h (λ p. refl) (rw d (nothing (pauses f h))) refl refl refl (u new)
    where
      nothing : (k : ℕ) → 0 + k ≡ k
      nothing k = omega arith
  unborn_step (Noted (note.Resume g b)) h l r new u =
      let d = stranger g h r new l in unborn_more (Noted (note.Resume g b)) h (λ p. refl) refl (rw d (nothing (resumes f h))) refl refl (u new)
    where
      nothing : (k : ℕ) → 0 + k ≡ k
      nothing k = omega arith
  unborn_step (Noted (note.Start x c s d)) h l r new u =
      unborn_more (Noted (note.Start x c s d)) h (λ p. refl) refl refl refl refl (u (or_none (has (started h) f.exchange) (x == f.exchange) (sym (has_more (started h) x f.exchange) ∙ new)).0)
  unborn_step (Noted (note.Doom x why)) h l r new u =
      let k = u new in
      record { empty = λ p. at (f.exchange == x) _ (k.empty p); unpaused = k.unpaused; unresumed = k.unresumed; unread = k.unread; unsent = k.unsent }
    where
      at : (b : Bool) (xs : List ℕ) → xs ≡ [] → (if b then [] else xs) ≡ []
      at true xs e = refl
      at false xs e = e
  unborn_step step h l r new u = unborn_more step h (λ p. refl) refl refl refl refl (u new)

  pub unborn : (h : History Mark) → EachFollows LeavesDoomed h → has (started h) f.exchange ≡ false → IsUnborn setup f h
  unborn [] l new = record { empty = λ p. refl; unpaused = refl; unresumed = refl; unread = refl; unsent = refl }
  unborn (step ∷ h) l new = unborn_step step h l.0 (lives h l.1) new (λ e. unborn h l.1 e)
