-- Pauses after a rise, and tellings after a drain, stand in their order.
use Rattle.flow_rules.specs.declared.ids.BufferId.{BufferId}
use Rattle.flow_rules.specs.declared.ids.FlowId.{FlowId}
use Rattle.flow_laws.proofs.Lists.{buffer_is, not_both, or_left, or_right}
use Rattle.flow_laws.proofs.Lows.{heads_is}
use Rattle.flow_laws.specs.Steps.{after}
use Rattle.flow_laws.specs.Tellings.{GoAlike, KeepsOrder, LeavesOut, NeverDrains, dooms, pause_steps, told_of}
use Rattle.flow_notes.specs.declared.notes.CloseCause.{CloseCause}
use Rattle.std.proofs.Common.{ap, inl, inr, refl, subst, sym, ◌∙◌}
use Rattle.std.proofs.lemmas.List.{append-nil}
use Rattle.std.specs.Prelude.{Bool, List, [], drop, false, filter, if◌then◌else◌, not, true, ℕ, ◌&&◌, ◌++◌, ◌==◌, ◌∷◌, ◌≡◌}
use Rattle.tape_laws.specs.Connections.{was_closed}
use Rattle.tape_laws.specs.Flows.{same_buffer}
use Rattle.tape_laws.specs.History.{EachFollows, History, Noted, Step}
use Rattle.tape_laws.specs.Pauses.{Heads, Owed, PausesInOrder, due_pauses, is_silent, pending_lows, place_buffer}
use Rattle.tape_laws.specs.Setup.{Setup}
use Rattle.tape_laws.specs.Sources.{watchers}
use Rattle.tape_laws.specs.Watermark.{drains_at}
use Rattle.flow_rules.specs.declared.ids.BufferId.TheVariants as buffer
use Rattle.flow_notes.specs.declared.notes.CloseCause.TheVariants as closed
use Rattle.flow_notes.specs.declared.notes.Note.TheVariants as note

module _ {Mark : Type 0} (setup : Setup Mark) where
  -- what may follow a longer history may follow its front
  front_follows : (May : Step Mark → History Mark → Type 0) (ss : List (Step Mark)) (h : History Mark) → EachFollows May (after ss h) → EachFollows May h
  front_follows May [] h e = e
  front_follows May (s ∷ ss) h e = (front_follows May ss (s ∷ h) e).1

  first_follows : (May : Step Mark → History Mark → Type 0) (s : Step Mark) (ss : List (Step Mark)) (h : History Mark) → EachFollows May (after ss (s ∷ h)) → May s h
  first_follows May s ss h e = (front_follows May ss (s ∷ h) e).0

  some : (v : Owed) (vs : List Owed) → v ∷ vs ≡ [] → ⊥
  some v vs e = cc

  -- a step where a pause is due is that pause
  next_pause : (s : Step Mark) (h : History Mark) (o : Owed) (os : List Owed) → due_pauses setup h ≡ o ∷ os → PausesInOrder setup s h
      → (s ≡ Noted (note.Pause o.flow o.buffer)) × (due_pauses setup (s ∷ h) ≡ os)
  next_pause (Noted (note.Pause f b)) h o os e p =
      let is : record { flow = f; buffer = b } ≡ o = subst (λ due. Heads (record { flow = f; buffer = b }) due) e p in
      (ap (λ (v : Owed). Noted (note.Pause v.flow v.buffer)) is, ap (drop 1) e)
  next_pause (Noted (note.Resume f b)) h o os e p = absurd (some o os (sym e ∙ p.0))
  next_pause step h' o' os' e' p = absurd (some o' os' (sym e' ∙ p))

  paused_first : (ss : List (Step Mark)) (h : History Mark) (due : List Owed) → due_pauses setup h ≡ due → EachFollows (PausesInOrder setup) (after ss h) → GoAlike ss (pause_steps due)
  paused_first [] h [] e p = tt
  paused_first [] h (o ∷ os) e p = tt
  paused_first (s ∷ ss) h [] e p = tt
  paused_first (s ∷ ss) h (o ∷ os) e p =
      let k = next_pause s h o os e (first_follows (PausesInOrder setup) s ss h p) in (k.0, paused_first ss (s ∷ h) os k.1 p)

  -- ---- lists of which some are left out
  leaves_all : (may : FlowId → Bool) (xs : List FlowId) → LeavesOut may xs xs
  leaves_all may [] = refl
  leaves_all may (x ∷ xs) = inl (refl, leaves_all may xs)

  -- more may go
  leaves_more : (may may' : FlowId → Bool) (xs ys : List FlowId) → ((f : FlowId) → may f ≡ true → may' f ≡ true) → LeavesOut may xs ys → LeavesOut may' xs ys
  leaves_more may may' [] [] i l = l
  leaves_more may may' (x ∷ xs) [] i l = l
  leaves_more may may' [] (y ∷ ys) i l = (i y l.0, leaves_more may may' [] ys i l.1)
  leaves_more may may' (x ∷ xs) (y ∷ ys) i (inl l) = inl (l.0, leaves_more may may' xs ys i l.1)
  leaves_more may may' (x ∷ xs) (y ∷ ys) i (inr l) = inr (i y l.0, leaves_more may may' (x ∷ xs) ys i l.1)

  -- of those that pass a test, the others may go
  leaves_filter : (may t : FlowId → Bool) (xs ys : List FlowId) → ((f : FlowId) → t f ≡ true → may f ≡ true) → LeavesOut may xs (filter (λ f. not (t f)) ys) → LeavesOut may xs ys
  leaves_filter may t xs [] i l = l
  leaves_filter may t xs (y ∷ ys) i l = at (λ zs k. leaves_filter may t zs ys i k) (t y) refl xs l
    where
      at : ((zs : List FlowId) → LeavesOut may zs (filter (λ f. not (t f)) ys) → LeavesOut may zs ys) → (b : Bool) → t y ≡ b → (xs : List FlowId) → LeavesOut may xs (if not b then y ∷ filter (λ f. not (t f)) ys else filter (λ f. not (t f)) ys) → LeavesOut may xs (y ∷ ys)
      at r true e [] l = (i y e, r [] l)
      at r true e (x ∷ xs) l = inr (i y e, r (x ∷ xs) l)
      at r false e [] l = (l.0, r [] l.1)
      at r false e (x ∷ xs) (inl l) = inl (l.0, r xs l.1)
      at r false e (x ∷ xs) (inr l) = inr (l.0, r (x ∷ xs) l.1)

  -- ---- tellings
  module _ (b : BufferId) where
    abbrev Told : List (Step Mark) → History Mark → Type 0
    Told ss h = LeavesOut (dooms ss) (told_of b ss ++ pending_lows setup b (after ss h)) (pending_lows setup b h)

    undrained : (gs ws : List FlowId) (x d : Bool) → d ≡ false → gs ≡ gs ++ (if x && d then ws else [])
    undrained gs ws x true e = cc
    undrained gs ws true false e = sym (append-nil gs)
    undrained gs ws false false e = sym (append-nil gs)

    close_lows : (c code : ℕ) (why : CloseCause) (h : History Mark) → drains_at setup b (Noted (note.Close c code why)) h ≡ false
        → pending_lows setup b h ≡ pending_lows setup b (Noted (note.Close c code why) ∷ h)
    close_lows c code closed.Lost h d = undrained (pending_lows setup b h) (watchers setup b h) (same_buffer b (buffer.Write c)) _ d
    close_lows c code e h d = refl

    told_step : (s : Step Mark) (ss : List (Step Mark)) (h : History Mark) → PausesInOrder setup s h → drains_at setup b s h ≡ false → Told ss (s ∷ h) → Told (s ∷ ss) h
    told_step (Noted (note.Resume f a)) ss h p d l = at (same_buffer a b) refl l
      where
        at : (x : Bool) → same_buffer a b ≡ x → LeavesOut (dooms ss) (told_of b ss ++ pending_lows setup b (after ss (Noted (note.Resume f a) ∷ h))) (drop (if x then 1 else 0) (pending_lows setup b h))
            → LeavesOut (dooms ss) ((if x then f ∷ told_of b ss else told_of b ss) ++ pending_lows setup b (after ss (Noted (note.Resume f a) ∷ h))) (pending_lows setup b h)
        at true e l =
            heads_is f (pending_lows setup b h) (subst (λ v. Heads f (pending_lows setup v h)) (buffer_is a b e) p.1)
            (λ gs. LeavesOut (dooms ss) (told_of b ss ++ pending_lows setup b (after ss (Noted (note.Resume f a) ∷ h))) (drop 1 gs)
            → LeavesOut (dooms ss) (f ∷ (told_of b ss ++ pending_lows setup b (after ss (Noted (note.Resume f a) ∷ h)))) gs)
            (λ gs k. inl (refl, k)) l
        at false e l = l
    told_step (Noted (note.Doom x why)) ss h p d l =
        let s : Step Mark = Noted (note.Doom x why) in
        let xs = told_of b ss ++ pending_lows setup b (after ss (s ∷ h)) in
        leaves_filter (dooms (s ∷ ss)) (λ f. f.exchange == x) xs (pending_lows setup b h) (λ f t. or_left (f.exchange == x) (dooms ss f) t)
        (leaves_more (dooms ss) (dooms (s ∷ ss)) xs (filter (λ f. not (f.exchange == x)) (pending_lows setup b h)) (λ f t. or_right (f.exchange == x) (dooms ss f) t) l)
    told_step (Noted (note.Move g q n)) ss h p d l =
        subst (λ gs. LeavesOut (dooms ss) (told_of b ss ++ pending_lows setup b (after ss (Noted (note.Move g q n) ∷ h))) gs)
        (sym (undrained (pending_lows setup b h) (watchers setup b h) (same_buffer b (place_buffer setup g q h)) _ d)) l
    told_step (Noted (note.Frame c g n last)) ss h p d l =
        subst (λ gs. LeavesOut (dooms ss) (told_of b ss ++ pending_lows setup b (after ss (Noted (note.Frame c g n last) ∷ h))) gs)
        (sym (undrained (pending_lows setup b h) (watchers setup b h) (same_buffer b (buffer.Send g)) _ d)) l
    told_step (Noted (note.Out c n)) ss h p d l =
        subst (λ gs. LeavesOut (dooms ss) (told_of b ss ++ pending_lows setup b (after ss (Noted (note.Out c n) ∷ h))) gs)
        (sym (undrained (pending_lows setup b h) (watchers setup b h) (same_buffer b (buffer.Write c)) _ d)) l
    told_step (Noted (note.Close c code why)) ss h p d l =
        subst (λ gs. LeavesOut (dooms ss) (told_of b ss ++ pending_lows setup b (after ss (Noted (note.Close c code why) ∷ h))) gs) (sym (close_lows c code why h d)) l
    told_step step ss h p d l = l

    told : (ss : List (Step Mark)) (h : History Mark) → EachFollows (PausesInOrder setup) (after ss h) → NeverDrains setup b ss h → Told ss h
    told [] h p d = leaves_all (dooms {Mark = Mark} []) (pending_lows setup b h)
    told (s ∷ ss) h p d = told_step s ss h (first_follows (PausesInOrder setup) s ss h p) d.0 (told ss (s ∷ h) p d.1)

  -- ---- of a closed connection nobody is told
  module _ (c : ℕ) where
    closed_on : (s : Step Mark) (h : History Mark) → was_closed c h ≡ true → was_closed c (s ∷ h) ≡ true
    closed_on (Noted (note.Close d code why)) h o = or_right (d == c) (was_closed c h) o
    closed_on step h o = o

    hushed : (s : Step Mark) (ss : List (Step Mark)) (h : History Mark) → was_closed c h ≡ true → PausesInOrder setup s h → told_of (buffer.Write c) ss ≡ []
        → told_of (buffer.Write c) (s ∷ ss) ≡ []
    hushed (Noted (note.Resume f a)) ss h o p l = at (same_buffer a (buffer.Write c)) refl
      where
        at : (x : Bool) → same_buffer a (buffer.Write c) ≡ x → (if x then f ∷ told_of (buffer.Write c) ss else told_of (buffer.Write c) ss) ≡ []
        at true e = not_both (was_closed c h) o (subst (λ v. is_silent v h ≡ false) (buffer_is a (buffer.Write c) e) p.2)
        at false e = l
    hushed step ss h o p l = l

    silent : (ss : List (Step Mark)) (h : History Mark) → EachFollows (PausesInOrder setup) (after ss h) → was_closed c h ≡ true → told_of (buffer.Write c) ss ≡ []
    silent [] h p o = refl
    silent (s ∷ ss) h p o = hushed s ss h o (first_follows (PausesInOrder setup) s ss h p) (silent ss (s ∷ h) p (closed_on s h o))

pub order_is_kept : {Mark : Type 0} (setup : Setup Mark) (ss : List (Step Mark)) (h : History Mark) → EachFollows (PausesInOrder setup) (after ss h) → KeepsOrder setup ss h
order_is_kept setup ss h p = record {
  paused = paused_first setup ss h (due_pauses setup h) refl p;
  told = λ b d. told setup b ss h p d;
  silent = λ c o. silent setup c ss h p o;
}
