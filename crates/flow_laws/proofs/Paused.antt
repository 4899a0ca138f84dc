-- The pauses that are due and the lows that are pending are of live flows.
use Rattle.flow_rules.specs.declared.ids.BufferId.{BufferId}
use Rattle.flow_rules.specs.declared.ids.FlowId.{FlowId}
use Rattle.flow_laws.proofs.Lists.{both, by_case, count_cons, flow_same, one_if, or_left, or_right, same_number}
use Rattle.flow_laws.proofs.Lives.{has_more, is_of}
use Rattle.flow_laws.proofs.Lows.{heads_is, untold, watches}
use Rattle.flow_laws.specs.Ways.{HasWays}
use Rattle.std.proofs.Common.{ap, arith, refl, ◌∙◌}
use Rattle.std.specs.List.{AllByRecursion, list_any}
use Rattle.std.specs.Prelude.{Bool, List, [], count_by, drop, false, filter, flat_map, if◌then◌else◌, map, true, ℕ, ◌&&◌, ◌++◌, ◌+◌, ◌==◌, ◌∷◌, ◌≡◌}
use Rattle.tape_laws.specs.Dispatches.{has, live}
use Rattle.tape_laws.specs.Doomed.{LeavesDoomed, is_swept}
use Rattle.tape_laws.specs.Flows.{same_buffer, same_flow}
use Rattle.tape_laws.specs.History.{EachFollows, History, Noted, Step}
use Rattle.tape_laws.specs.Pauses.{Heads, Owed, due_pauses, pending_lows, place_buffer}
use Rattle.tape_laws.specs.Setup.{Setup}
use Rattle.tape_laws.specs.Sources.{live_flows, source_buffers, watchers}
use Rattle.tape_laws.specs.Watermark.{above, rises_at}
use Rattle.flow_rules.specs.declared.ids.BufferId.TheVariants as buffer
use Rattle.flow_notes.specs.declared.notes.Note.TheVariants as note

module _ {Mark : Type 0} (setup : Setup Mark) (ways : HasWays setup) where
  abbrev pub DueLive : List ℕ → List Owed → Type 0
  DueLive xs due = AllByRecursion (λ o. has xs o.flow.exchange ≡ true) due

  abbrev Lively : List ℕ → List FlowId → Type 0
  Lively xs fs = AllByRecursion (λ f. has xs f.exchange ≡ true) fs

  all_append : {A : Type 0} (P : A → Type 0) (xs ys : List A) → AllByRecursion P xs → AllByRecursion P ys → AllByRecursion P (xs ++ ys)
  all_append P [] ys a b = b
  all_append P (x ∷ xs) ys a b = (a.0, all_append P xs ys a.1 b)

  -- the flows of an exchange that is there
  own_lively : (xs : List ℕ) (x : ℕ) (fs : List FlowId) → has xs x ≡ true → AllByRecursion (λ f. f.exchange ≡ x) fs → Lively xs fs
  own_lively xs x [] e a = tt
  own_lively xs x (f ∷ fs) e a = (ap (has xs) a.0 ∙ e, own_lively xs x fs e a.1)

  flows_lively : (all xs : List ℕ) → ((x : ℕ) → has xs x ≡ true → has all x ≡ true) → Lively all (flat_map setup.flows xs)
  flows_lively all [] i = tt
  flows_lively all (x ∷ xs) i =
      all_append (λ f. has all f.exchange ≡ true) (setup.flows x) (flat_map setup.flows xs)
      (own_lively all x (setup.flows x) (i x (or_left (x == x) (has xs x) (same_number x))) (ways.own x)) (flows_lively all xs (λ y e. i y (or_right (x == y) (has xs y) e)))

  filter_lively : (xs : List ℕ) (p : FlowId → Bool) (fs : List FlowId) → Lively xs fs → Lively xs (filter p fs)
  filter_lively xs p [] a = tt
  filter_lively xs p (f ∷ fs) a = at (p f) (filter_lively xs p fs a.1)
    where
      at : (b : Bool) → Lively xs (filter p fs) → Lively xs (if b then f ∷ filter p fs else filter p fs)
      at true r = (a.0, r)
      at false r = r

  paused_lively : (xs : List ℕ) (b : BufferId) (fs : List FlowId) → Lively xs fs → DueLive xs (map (λ f. record { flow = f; buffer = b }) fs)
  paused_lively xs b [] a = tt
  paused_lively xs b (f ∷ fs) a = (a.0, paused_lively xs b fs a.1)

  rise_lively : (h : History Mark) (bs : List BufferId) → DueLive (live h) (flat_map (λ b. map (λ f. record { flow = f; buffer = b }) (watchers setup b h)) bs)
  rise_lively h [] = tt
  rise_lively h (b ∷ bs) =
      all_append (λ o. has (live h) o.flow.exchange ≡ true) (map (λ f. record { flow = f; buffer = b }) (watchers setup b h)) _
      (paused_lively (live h) b (watchers setup b h) (filter_lively (live h) (λ f. list_any (same_buffer b) (source_buffers setup f h)) (live_flows setup h) (flows_lively (live h) (live h) (λ x e. e))))
      (rise_lively h bs)

  one_lively : (xs : List ℕ) (f : FlowId) (bs : List BufferId) → has xs f.exchange ≡ true → DueLive xs (map (λ b. record { flow = f; buffer = b }) bs)
  one_lively xs f [] e = tt
  one_lively xs f (b ∷ bs) e = (e, one_lively xs f bs e)

  start_lively : (xs : List ℕ) (bs : FlowId → List BufferId) (fs : List FlowId) → Lively xs fs → DueLive xs (flat_map (λ f. map (λ b. record { flow = f; buffer = b }) (bs f)) fs)
  start_lively xs bs [] a = tt
  start_lively xs bs (f ∷ fs) a = all_append (λ o. has xs o.flow.exchange ≡ true) (map (λ b. record { flow = f; buffer = b }) (bs f)) _ (one_lively xs f (bs f) a.0) (start_lively xs bs fs a.1)

  drop_lively : (xs : List ℕ) (due : List Owed) → DueLive xs due → DueLive xs (drop 1 due)
  drop_lively xs [] a = tt
  drop_lively xs (o ∷ os) a = a.1

  due_step : (step : Step Mark) (h : History Mark) → DueLive (live h) (due_pauses setup h) → DueLive (live (step ∷ h)) (due_pauses setup (step ∷ h))
  due_step (Noted (note.Pause f b)) h a = drop_lively (live h) (due_pauses setup h) a
  due_step (Noted (note.Start x c s d)) h a =
      start_lively (live h ++ x ∷ []) (λ f. filter (λ b. above setup b (Noted (note.Start x c s d) ∷ h)) (source_buffers setup f (Noted (note.Start x c s d) ∷ h))) (setup.flows x)
      (own_lively (live h ++ x ∷ []) x (setup.flows x) (has_more (live h) x x ∙ or_right (has (live h) x) (x == x) (same_number x)) (ways.own x))
  due_step (Noted (note.Move f p n)) h a = rise_lively h (filter (λ b. rises_at setup b (Noted (note.Move f p n)) h) (place_buffer setup f (p + 1) h ∷ []))
  due_step (Noted (note.Frame c f n last)) h a = rise_lively h (filter (λ b. rises_at setup b (Noted (note.Frame c f n last)) h) (buffer.Write c ∷ []))
  due_step (Noted (note.Head c s octets)) h a = rise_lively h (filter (λ b. rises_at setup b (Noted (note.Head c s octets)) h) (buffer.Write c ∷ []))
  due_step (Noted (note.Answer c octets)) h a = rise_lively h (filter (λ b. rises_at setup b (Noted (note.Answer c octets)) h) (buffer.Write c ∷ []))
  due_step (Noted (note.Credit c s n)) h a = rise_lively h (filter (λ b. rises_at setup b (Noted (note.Credit c s n)) h) (buffer.Write c ∷ []))
  due_step step h a = tt

  pub due_live : (h : History Mark) → DueLive (live h) (due_pauses setup h)
  due_live [] = tt
  due_live (step ∷ h) = due_step step h (due_live h)

  -- the flow that is next to be paused is live
  pub next_lives : (f : FlowId) (b : BufferId) (xs : List ℕ) (due : List Owed) → DueLive xs due → Heads (record { flow = f; buffer = b }) due → has xs f.exchange ≡ true
  next_lives f b xs [] a e = absurd e
  next_lives f b xs (o ∷ os) a e = ap (λ (v : Owed). has xs v.flow.exchange) e ∙ a.0

  -- and the flow that is next to be told
  pub told_lives : (f : FlowId) (b : BufferId) (h : History Mark) → EachFollows LeavesDoomed h → Heads f (pending_lows setup b h) → has (live h) f.exchange ≡ true
  told_lives f b h l e = by_case (watches setup ways f b h) (λ w. (both (has (live h) f.exchange) (is_of setup ways f) (both (has (live h) f.exchange && is_of setup ways f) _ w).0).0)
      (λ w. absurd (heads_is f (pending_lows setup b h) e (λ gs. count_by (same_flow f) gs ≡ 0 → ⊥)
      (λ gs z. one _ _ (count_cons (same_flow f) f gs ∙ ap (λ x. one_if x + count_by (same_flow f) gs) (flow_same f)) z) (untold setup ways f b h l w)))
    where
      one : (k n : ℕ) → n ≡ 1 + k → n ≡ 0 → ⊥
      one k n e z = omega (arith, e, z)

-- where a pause is due, no exchange was just gone
module _ {Mark : Type 0} (setup : Setup Mark) (o : Owed) where
  fresh_step : (step : Step Mark) (h : History Mark) → Heads o (due_pauses setup (step ∷ h)) → is_swept (step ∷ h) ≡ false
  fresh_step (Noted (note.Gone x)) h e = absurd e
  fresh_step step h e1 = refl

  pub fresh_due : (h : History Mark) → Heads o (due_pauses setup h) → is_swept h ≡ false
  fresh_due [] e = refl
  fresh_due (step ∷ h) e = fresh_step step h e
