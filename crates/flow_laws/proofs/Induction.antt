-- What holds of a flow when it starts, and is kept by each step that neither starts nor dooms it, holds while it lives.
use Rattle.flow_rules.specs.declared.ids.FlowId.{FlowId}
use Rattle.flow_laws.proofs.Lists.{both, by_case, number_is}
use Rattle.flow_laws.proofs.Lives.{is_live_is, is_of, lives}
use Rattle.flow_laws.proofs.Spared.{IsUnborn, life_stays, lives_spared, spares, unborn}
use Rattle.flow_laws.specs.Ways.{HasWays, starts}
use Rattle.std.proofs.Common.{subst, sym, ◌∙◌}
use Rattle.std.specs.Prelude.{Bool, [], false, true, ◌&&◌, ◌∷◌, ◌≡◌}
use Rattle.tape_laws.specs.Dispatches.{has, live, started}
use Rattle.tape_laws.specs.Doomed.{LeavesDoomed}
use Rattle.tape_laws.specs.History.{EachFollows, History, Noted, Step}
use Rattle.tape_laws.specs.Setup.{Setup}
use Rattle.tape_laws.specs.Sources.{is_live}
use Rattle.flow_notes.specs.declared.notes.Note.TheVariants as note

module _ {Mark : Type 0} (setup : Setup Mark) (ways : HasWays setup) (f : FlowId) where
  pub new_then : (step : Step Mark) (h : History Mark) → LeavesDoomed step h → starts f step ≡ true → has (started h) f.exchange ≡ false
  new_then (Noted (note.Start x c s d)) h l t = subst (λ v. has (started h) v ≡ false) (number_is x f.exchange t) l
  new_then step h l t = cc

  two : (a b : Bool) → a ≡ true → b ≡ true → (a && b) ≡ true
  two true b e i = i
  two false b e i = cc

  pub by_life : (P : History Mark → Type 0) (May : Step Mark → History Mark → Type 0)
      → ((step : Step Mark) (h : History Mark) → starts f step ≡ true → IsUnborn setup f h → P (step ∷ h))
      → ((step : Step Mark) (h : History Mark) → starts f step ≡ false → spares f step ≡ true → is_live setup f h ≡ true → May step h → P h → P (step ∷ h))
      → (h : History Mark) → EachFollows LeavesDoomed h → EachFollows May h → is_live setup f h ≡ true → P h
  by_life P May own on [] l m a = cc
  by_life P May own on (step ∷ h) l m a =
      let r = lives h l.1 in
      let now = both (has (live (step ∷ h)) f.exchange) (is_of setup ways f) (sym (is_live_is setup ways f (step ∷ h) (lives (step ∷ h) l)) ∙ a) in
      by_case (starts f step)
      (λ t. own step h t (unborn setup f h l.1 (new_then step h l.0 t)))
      (λ o.
      let s = lives_spared f step h now.0 in
      let alive : is_live setup f h ≡ true = is_live_is setup ways f h r ∙ two _ _ (sym (life_stays f step h o s) ∙ now.0) now.1 in
      on step h o s alive m.0 (by_life P May own on h l.1 m.1 alive))

-- two laws that look back are one
pub both_follow : {Mark : Type 0} (A B : Step Mark → History Mark → Type 0) (h : History Mark) → EachFollows A h → EachFollows B h → EachFollows (λ s k. A s k × B s k) h
both_follow A B [] a b = tt
both_follow A B (step ∷ h) a b = ((a.0, b.0), both_follow A B h a.1 b.1)
