-- Who is still to be told of a drain, step by step.
use Rattle.flow_rules.specs.declared.ids.BufferId.{BufferId}
use Rattle.flow_rules.specs.declared.ids.FlowId.{FlowId}
use Rattle.flow_laws.proofs.Lists.{buffer_is, buffer_same, by_case, count_append, count_cons, count_filter, number_is, one_if}
use Rattle.flow_laws.proofs.Lives.{Lives, is_of, live_once, lives}
use Rattle.flow_laws.proofs.Sources.{sources_stay}
use Rattle.flow_laws.proofs.Spared.{life_stays, spares}
use Rattle.flow_laws.specs.Steps.{eased_by}
use Rattle.flow_laws.specs.Ways.{HasWays, starts}
use Rattle.flow_notes.specs.declared.notes.CloseCause.{CloseCause}
use Rattle.std.proofs.Common.{ap, arith, refl, subst, sym, ◌∙◌}
use Rattle.std.proofs.lemmas.List.{append-nil, take-append-drop}
use Rattle.std.specs.List.{list_any}
use Rattle.std.specs.Prelude.{Bool, List, None, Some, [], count_by, drop, false, if◌then◌else◌, not, take, true, ℕ, ◌&&◌, ◌++◌, ◌+◌, ◌==◌, ◌∷◌, ◌≡◌}
use Rattle.tape_laws.specs.Dispatches.{has, live}
use Rattle.tape_laws.specs.Doomed.{LeavesDoomed}
use Rattle.tape_laws.specs.Flows.{same_buffer, same_flow}
use Rattle.tape_laws.specs.History.{EachFollows, History, Noted, Step}
use Rattle.tape_laws.specs.Pauses.{Heads, PausesInOrder, pending_lows, place_buffer}
use Rattle.tape_laws.specs.Setup.{Setup}
use Rattle.tape_laws.specs.Sources.{live_flows, source_buffers, watchers}
use Rattle.tape_laws.specs.Watermark.{drains_at}
use Rattle.flow_rules.specs.declared.ids.BufferId.TheVariants as buffer
use Rattle.flow_notes.specs.declared.notes.CloseCause.TheVariants as closed
use Rattle.flow_notes.specs.declared.notes.Note.TheVariants as note

-- how often the step tells the flow of the buffer's drain
abbrev pub tells : {Mark : Type 0} → FlowId → BufferId → Step Mark → ℕ
tells f b (Noted (note.Resume g a)) = one_if (same_flow f g && same_buffer a b)
tells f b step = 0

name_is : (a b : BufferId) → Some a ≡ Some b → a ≡ b
name_is a b e = cc

pub heads_is : {A : Type 0} (x : A) (xs : List A) → Heads x xs → (P : List A → Type 0) → ((ys : List A) → P (x ∷ ys)) → P xs
heads_is x [] e P f = absurd e
heads_is x (y ∷ ys) e P f = subst (λ v. P (v ∷ ys)) e (f ys)

module _ {Mark : Type 0} (setup : Setup Mark) (f : FlowId) (b : BufferId) where
  abbrev left : History Mark → ℕ
  left h = count_by (same_flow f) (pending_lows setup b h)

  -- those who watch it are to be told where it drains, by the step that eases it
  drained : (a : BufferId) (d : Bool) (gs ws : List FlowId) → (d ≡ true → Some a ≡ Some b) → count_by (same_flow f) ws ≡ 1
      → count_by (same_flow f) (gs ++ (if same_buffer b a && d then ws else [])) + 0 ≡ count_by (same_flow f) gs + one_if d
  drained a true gs ws e w =
      let same : same_buffer b a ≡ true = ap (λ v. same_buffer b v) (name_is a b (e refl)) ∙ buffer_same b in
      rw same (sums _ _ _ (count_append (same_flow f) gs ws) w)
    where
      sums : (t g k : ℕ) → t ≡ g + k → k ≡ 1 → t + 0 ≡ g + 1
      sums t g k e w = omega arith
  drained a false gs ws e w = none (same_buffer b a)
    where
      same : (xs : List FlowId) → count_by (same_flow f) (xs ++ []) + 0 ≡ count_by (same_flow f) xs + 0
      same xs = ap (λ v. count_by (same_flow f) v + 0) (append-nil xs)

      none : (c : Bool) → count_by (same_flow f) (gs ++ (if c && false then ws else [])) + 0 ≡ count_by (same_flow f) gs + 0
      none true = same gs
      none false = same gs

  abbrev Step_ : Step Mark → History Mark → Type 0
  Step_ step h = PausesInOrder setup step h → spares f step ≡ true → count_by (same_flow f) (watchers setup b h) ≡ 1
      → (drains_at setup b step h ≡ true → eased_by setup step h ≡ Some b)
      → left (step ∷ h) + tells f b step ≡ left h + one_if (drains_at setup b step h)

  -- nothing drains by other steps
  undrained : (d : Bool) (k : ℕ) → (d ≡ true → None ≡ Some b) → k + 0 ≡ k + one_if d
  undrained true k e = let n = e refl in cc
  undrained false k e = refl

  close_step : (c code : ℕ) (why : CloseCause) (h : History Mark) → Step_ (Noted (note.Close c code why)) h
  close_step c code closed.Lost h p s w e = drained (buffer.Write c) (drains_at setup b (Noted (note.Close c code closed.Lost)) h) (pending_lows setup b h) (watchers setup b h) e w
  close_step c code ev h p s w e = undrained _ (left h) e

  pub lows_step : (step : Step Mark) (h : History Mark) → Step_ step h
  lows_step (Noted (note.Move g q n)) h p s w e =
      drained (place_buffer setup g q h) (drains_at setup b (Noted (note.Move g q n)) h) (pending_lows setup b h) (watchers setup b h) e w
  lows_step (Noted (note.Frame c g n last)) h p s w e =
      drained (buffer.Send g) (drains_at setup b (Noted (note.Frame c g n last)) h) (pending_lows setup b h) (watchers setup b h) e w
  lows_step (Noted (note.Out c n)) h p s w e = drained (buffer.Write c) (drains_at setup b (Noted (note.Out c n)) h) (pending_lows setup b h) (watchers setup b h) e w
  lows_step (Noted (note.Close c code why)) h p s w e = close_step c code why h p s w e
  lows_step (Noted (note.Resume g a)) h p s w e = at (same_buffer a b) (same_flow f g) refl refl (drains_at setup b (Noted (note.Resume g a)) h) e
    where
      one : (k t : ℕ) (gs : List FlowId) → count_by (same_flow f) (g ∷ gs) ≡ t + count_by (same_flow f) gs → count_by (same_flow f) gs + t ≡ count_by (same_flow f) (g ∷ gs) + 0
      one k t gs c = omega (arith, c)

      at : (x y : Bool) → same_buffer a b ≡ x → same_flow f g ≡ y → (d : Bool) → (d ≡ true → None ≡ Some b)
          → count_by (same_flow f) (drop (if x then 1 else 0) (pending_lows setup b h)) + one_if (y && x) ≡ left h + one_if d
      at true y ea eg true n = let k = n refl in cc
      at true y ea eg false n =
          heads_is g (pending_lows setup b h) (subst (λ v. Heads g (pending_lows setup v h)) (buffer_is a b ea) p.1)
          (λ gs. count_by (same_flow f) (drop 1 gs) + one_if (y && true) ≡ count_by (same_flow f) gs + 0)
          (λ gs. one 0 (one_if (y && true)) gs (count_cons (same_flow f) g gs ∙ ap (λ t. one_if t + count_by (same_flow f) gs) (eg ∙ right y)))
        where
          right : (t : Bool) → t ≡ (t && true)
          right true = refl
          right false = refl
      at false y ea eg true n = let k = n refl in cc
      at false y ea eg false n = none y
        where
          none : (t : Bool) → left h + one_if (t && false) ≡ left h + 0
          none true = refl
          none false = refl
  lows_step (Noted (note.Doom x why)) h p s w e =
      ap (λ k. k + 0) (count_filter f (λ g. not (g.exchange == x)) (pending_lows setup b h) ∙ ap (λ t. if t then left h else 0) s)
      ∙ undrained (drains_at setup b (Noted (note.Doom x why)) h) (left h) e
  lows_step step h p s w e = undrained _ (left h) e

-- ---- only live flows that watch a buffer are to be told of it
module _ {Mark : Type 0} (setup : Setup Mark) (ways : HasWays setup) (f : FlowId) (b : BufferId) where
  abbrev pub watches : History Mark → Bool
  watches h = (has (live h) f.exchange && is_of setup ways f) && list_any (same_buffer b) (source_buffers setup f h)

  abbrev kept : History Mark → ℕ
  kept h = count_by (same_flow f) (pending_lows setup b h)

  pub watching : (h : History Mark) → Lives h → count_by (same_flow f) (watchers setup b h) ≡ one_if (watches h)
  watching h r =
      count_filter f (λ g. list_any (same_buffer b) (source_buffers setup g h)) (live_flows setup h)
      ∙ (ap (λ k. if list_any (same_buffer b) (source_buffers setup f h) then k else 0) (live_once setup ways f h r)
      ∙ both_if (list_any (same_buffer b) (source_buffers setup f h)) (has (live h) f.exchange && is_of setup ways f))
    where
      both_if : (x y : Bool) → (if x then one_if y else 0) ≡ one_if (y && x)
      both_if true true = refl
      both_if true false = refl
      both_if false true = refl
      both_if false false = refl

  watch_stays : (step : Step Mark) (h : History Mark) → starts f step ≡ false → spares f step ≡ true → watches (step ∷ h) ≡ watches h
  watch_stays step h st sp =
      ap (λ l. (l && is_of setup ways f) && list_any (same_buffer b) (source_buffers setup f (step ∷ h))) (life_stays f step h st sp)
      ∙ ap (λ (bs : List BufferId). (has (live h) f.exchange && is_of setup ways f) && list_any (same_buffer b) bs)
      (sources_stay setup f h step (ways.stages f step h st) (ways.goes f step h st))

  -- nobody watched it, so nobody is told of it
  untold_drain : (a : BufferId) (d : Bool) (gs ws : List FlowId) → count_by (same_flow f) gs ≡ 0 → count_by (same_flow f) ws ≡ 0
      → count_by (same_flow f) (gs ++ (if same_buffer b a && d then ws else [])) ≡ 0
  untold_drain a d gs ws e w = at (same_buffer b a && d)
    where
      at : (c : Bool) → count_by (same_flow f) (gs ++ (if c then ws else [])) ≡ 0
      at true = sums _ _ _ (count_append (same_flow f) gs ws) e w
        where
          sums : (t g k : ℕ) → t ≡ g + k → g ≡ 0 → k ≡ 0 → t ≡ 0
          sums t g k c e w = omega arith
      at false = ap (count_by (same_flow f)) (append-nil gs) ∙ e

  fewer : (n : ℕ) (gs : List FlowId) → count_by (same_flow f) gs ≡ 0 → count_by (same_flow f) (drop n gs) ≡ 0
  fewer n gs e = parts _ _ _ (sym (ap (count_by (same_flow f)) (take-append-drop n gs)) ∙ count_append (same_flow f) (take n gs) (drop n gs)) e
    where
      parts : (t a d : ℕ) → t ≡ a + d → t ≡ 0 → d ≡ 0
      parts t a d c e = omega arith

  abbrev Untold : Step Mark → History Mark → Type 0
  Untold step h = Lives h → (starts f step ≡ true → has (live h) f.exchange ≡ false) → watches (step ∷ h) ≡ false → (watches h ≡ false → kept h ≡ 0) → kept (step ∷ h) ≡ 0

  pub gone_of : (h : History Mark) → has (live h) f.exchange ≡ false → watches h ≡ false
  gone_of h e = ap (λ l. (l && is_of setup ways f) && list_any (same_buffer b) (source_buffers setup f h)) e

  -- by a step that eases
  untold_eased : (step : Step Mark) (a : BufferId) (h : History Mark) → Lives h → watches h ≡ false → kept h ≡ 0
      → count_by (same_flow f) (pending_lows setup b h ++ (if same_buffer b a && drains_at setup b step h then watchers setup b h else [])) ≡ 0
  untold_eased step a h r n k = untold_drain a (drains_at setup b step h) (pending_lows setup b h) (watchers setup b h) k (watching h r ∙ ap one_if n)

  close_untold : (c code : ℕ) (why : CloseCause) (h : History Mark) → Lives h → watches h ≡ false → kept h ≡ 0 → kept (Noted (note.Close c code why) ∷ h) ≡ 0
  close_untold c code closed.Lost h r n k = untold_eased (Noted (note.Close c code closed.Lost)) (buffer.Write c) h r n k
  close_untold c code e h r n k = k

  untold_step : (step : Step Mark) (h : History Mark) → Untold step h
  untold_step (Noted (note.Move g q n)) h r st w u =
      let k = sym (watch_stays (Noted (note.Move g q n)) h refl refl) ∙ w in untold_eased (Noted (note.Move g q n)) (place_buffer setup g q h) h r k (u k)
  untold_step (Noted (note.Frame c g n last)) h r st w u =
      let k = sym (watch_stays (Noted (note.Frame c g n last)) h refl refl) ∙ w in untold_eased (Noted (note.Frame c g n last)) (buffer.Send g) h r k (u k)
  untold_step (Noted (note.Out c n)) h r st w u =
      let k = sym (watch_stays (Noted (note.Out c n)) h refl refl) ∙ w in untold_eased (Noted (note.Out c n)) (buffer.Write c) h r k (u k)
  untold_step (Noted (note.Close c code why)) h r st w u =
      let k = sym (watch_stays (Noted (note.Close c code why)) h refl refl) ∙ w in close_untold c code why h r k (u k)
  untold_step (Noted (note.Resume g a)) h r st w u =
      fewer (if same_buffer a b then 1 else 0) (pending_lows setup b h) (u (sym (watch_stays (Noted (note.Resume g a)) h refl refl) ∙ w))
  untold_step (Noted (note.Start x c s d)) h r st w u =
      by_case (x == f.exchange) (λ t. u (gone_of h (st t))) (λ n. u (sym (watch_stays (Noted (note.Start x c s d)) h n refl) ∙ w))
  untold_step (Noted (note.Doom x why)) h r st w u =
      count_filter f (λ g. not (g.exchange == x)) (pending_lows setup b h)
      ∙ at (not (f.exchange == x)) refl
    where
      at : (t : Bool) → not (f.exchange == x) ≡ t → (if t then kept h else 0) ≡ 0
      at true e = u (sym (watch_stays (Noted (note.Doom x why)) h refl e) ∙ w)
      at false e = refl
  untold_step step h r st w u = u (sym (watch_stays step h refl refl) ∙ w)

  new_then : (step : Step Mark) (h : History Mark) → LeavesDoomed step h → Lives h → starts f step ≡ true → has (live h) f.exchange ≡ false
  new_then (Noted (note.Start x c s d)) h l r t = subst (λ v. has (live h) v ≡ false) (number_is x f.exchange t) (r.born x l)
  new_then step h l r t = cc

  pub untold : (h : History Mark) → EachFollows LeavesDoomed h → watches h ≡ false → kept h ≡ 0
  untold [] l w = refl
  untold (step ∷ h) l w = untold_step step h (lives h l.1) (new_then step h l.0 (lives h l.1)) w (untold h l.1)
