-- Each flow stands in the lines of the buffers that it watches, at the places that its watches say.
use Rattle.flow_gate.proofs.Places.{weaken}
use Rattle.flow_gate.proofs.Steps.{BufferWrites, FlowWrites}
use Rattle.flow_gate.proofs.StepsEnds.{ForgetWrites, forgotten}
use Rattle.flow_gate.proofs.SameIds.{same_buffer-refl, same_buffer_exact, same_flow_exact}
use Rattle.flow_gate.specs.Board.{IsSound}
use Rattle.flow_gate.specs.Books.{Books}
use Rattle.flow_gate.specs.Ids.{is_own, same_buffer, same_flow}
use Rattle.flow_gate.specs.Line.{Line, Places, at_place, left}
use Rattle.flow_gate.specs.Parts.{AreGates, Buffers, Flows, Stands, board_of, buffer_at, flow_at, kept, line_at, watches_at}
use Rattle.flow_rules.specs.declared.ids.BufferId.{BufferId}
use Rattle.flow_rules.specs.declared.ids.FlowId.{FlowId}
use Rattle.flow_gate.specs.declared.watcher.Watch.{Watch}
use Rattle.std.proofs.Common.{ap, arith, inl, inr, refl, sym, ◌∙◌}
use Rattle.std.proofs.lemmas.Bool.{cases_Bool, eq-eqb, eqb-true}
use Rattle.std.proofs.lemmas.List.{length-append}
use Rattle.std.proofs.lemmas.Option.{none-some, same_Some}
use Rattle.std.specs.List.{AllByRecursion}
use Rattle.std.specs.Option.{option_map_or}
use Rattle.std.specs.Prelude.{Bool, List, None, Option, Some, [], cond, false, filter, if◌then◌else◌, length, nat_eq, not, true, ℕ, ◌++◌, ◌+◌, ◌<◌, ◌==◌, ◌∷◌, ◌≡◌, ◌≤◌, ◌^◌, ◌⊎◌}

-- the watches in a flow's books, and the line of a buffer
abbrev pub watches_in : Option Books → List Watch
watches_in books = option_map_or (λ s. s.watches) books []

abbrev pub line_in : Option Line → Places
line_in line = option_map_or (λ l. l.watchers) line []

-- the same lines, and the same watches
pub gates_same : (flows flows' : Flows) (buffers buffers' : Buffers) → IsSound (board_of flows' buffers') →
    ((f : FlowId) → watches_in (flow_at flows' f) ≡ watches_in (flow_at flows f)) → ((b : BufferId) → line_in (buffer_at buffers' b) ≡ line_in (buffer_at buffers b)) →
    AreGates flows buffers → AreGates flows' buffers'
gates_same flows flows' buffers buffers' sound watches lines gates = record {
  sound = sound;
  placed = λ f. rw (watches f) (weaken (watches_at flows f) (λ w at. ap (at_place w.place) (lines w.buffer) ∙ at) (gates.placed f));
  few = λ f. rw (watches f) (gates.few f);
}

at_place-append : (q : ℕ) (xs ys : Places) (f : FlowId) → at_place q xs ≡ Some f → at_place q (xs ++ ys) ≡ Some f
at_place-append q [] ys f at = absurd (none-some f at)
at_place-append q (e ∷ xs) ys f at = elim (cases_Bool (nat_eq q e.0)) [
  | inl here ↦ ap (λ t. cond t (Some e.1) (at_place q (xs ++ ys))) here ∙ ap (λ t. cond t (Some e.1) (at_place q xs)) (sym here) ∙ at
  | inr other ↦ ap (λ t. cond t (Some e.1) (at_place q (xs ++ ys))) other ∙ at_place-append q xs ys f (ap (λ t. cond t (Some e.1) (at_place q xs)) (sym other) ∙ at)
]

pub at_place-last : (p : ℕ) (xs : Places) (f : FlowId) → at_place p xs ≡ None → at_place p (xs ++ (p, f) ∷ []) ≡ Some f
at_place-last p [] f none = ap (λ t. cond t (Some f) None) (eq-eqb p p refl)
at_place-last p (e ∷ xs) f none = elim (cases_Bool (nat_eq p e.0)) [
  | inl here ↦ absurd (none-some e.1 (sym none ∙ ap (λ t. cond t (Some e.1) (at_place p xs)) here))
  | inr other ↦ ap (λ t. cond t (Some e.1) (at_place p (xs ++ (p, f) ∷ []))) other ∙ at_place-last p xs f (ap (λ t. cond t (Some e.1) (at_place p xs)) (sym other) ∙ none)
]

each_push : {X : Type 0} (P : X → Type 0) (xs : List X) (x : X) → AllByRecursion P xs → P x → AllByRecursion P (xs ++ x ∷ [])
each_push P [] x all last = (last, tt)
each_push P (y ∷ xs) x all last = (all.0, each_push P xs x all.1 last)

-- ---- a flow begins to watch
pub gates_watch : (f : FlowId) (b : BufferId) (place : ℕ) (books books' : Books) (line : Line) (flows flows' : Flows) (buffers buffers' : Buffers) →
    flow_at flows f ≡ Some books → buffer_at buffers b ≡ Some line → at_place place line.watchers ≡ None → length books.watches < 2 ^ 62 →
    books'.watches ≡ books.watches ++ (record { buffer = b; place = place }) ∷ [] →
    FlowWrites f (Some books') flows flows' → BufferWrites b (Some (record line { watchers = line.watchers ++ (place, f) ∷ [] })) buffers buffers' →
    IsSound (board_of flows' buffers') → AreGates flows buffers → AreGates flows' buffers'
gates_watch f b place books books' line flows flows' buffers buffers' there is fresh few lists writes joins sound gates = record {
  sound = sound;
  placed = λ g. placed g (cases_Bool (same_flow f g));
  few = λ g. small g (cases_Bool (same_flow f g));
}
  where
    longer : Line
    longer = record line { watchers = line.watchers ++ (place, f) ∷ [] }

    -- who stands at a place stays there
    stays : (q : ℕ) (c : BufferId) (g : FlowId) → (same_buffer b c ≡ true) ⊎ (same_buffer b c ≡ false) →
        at_place q (line_at buffers c) ≡ Some g → at_place q (line_in (cond (same_buffer b c) (Some longer) (buffer_at buffers c))) ≡ Some g
    stays q c g (inl here) at =
        ap (λ t. at_place q (line_in (cond t (Some longer) (buffer_at buffers c)))) here
        ∙ at_place-append q line.watchers ((place, f) ∷ []) g (ap (λ o. at_place q (line_in o)) (sym is) ∙ ap (λ d. at_place q (line_at buffers d)) (same_buffer_exact b c here) ∙ at)
    stays q c g (inr other) at = ap (λ t. at_place q (line_in (cond t (Some longer) (buffer_at buffers c)))) other ∙ at

    all_stay : (g : FlowId) → Stands buffers' g (watches_at flows g)
    all_stay g = weaken (watches_at flows g)
        (λ w at. ap (λ o. at_place w.place (line_in o)) (joins w.buffer) ∙ stays w.place w.buffer g (cases_Bool (same_buffer b w.buffer)) at) (gates.placed g)

    last : at_place place (line_at buffers' b) ≡ Some f
    last = ap (λ o. at_place place (line_in o)) (joins b ∙ ap (λ t. cond t (Some longer) (buffer_at buffers b)) (same_buffer-refl b))
        ∙ at_place-last place line.watchers f fresh

    watches_more : (g : FlowId) → same_flow f g ≡ true → watches_at flows' g ≡ watches_at flows g ++ (record { buffer = b; place = place }) ∷ []
    watches_more g here = ap watches_in (writes g) ∙ ap (λ t. watches_in (cond t (Some books') (flow_at flows g))) here ∙ lists
        ∙ ap (λ ws. ws ++ (record { buffer = b; place = place }) ∷ []) (sym (ap watches_in there) ∙ ap (λ h. watches_at flows h) (same_flow_exact f g here))

    watches_same : (g : FlowId) → same_flow f g ≡ false → watches_at flows' g ≡ watches_at flows g
    watches_same g other = ap watches_in (writes g) ∙ ap (λ t. watches_in (cond t (Some books') (flow_at flows g))) other

    placed : (g : FlowId) → (same_flow f g ≡ true) ⊎ (same_flow f g ≡ false) → Stands buffers' g (watches_at flows' g)
    placed g (inl here) = rw (watches_more g here)
        (each_push (λ w. at_place w.place (line_at buffers' w.buffer) ≡ Some g) (watches_at flows g) (record { buffer = b; place = place }) (all_stay g) (last ∙ ap Some (same_flow_exact f g here)))
    placed g (inr other) = rw (watches_same g other) (all_stay g)

    small : (g : FlowId) → (same_flow f g ≡ true) ⊎ (same_flow f g ≡ false) → length (watches_at flows' g) ≤ 2 ^ 62
    small g (inl here) =
        let same : watches_at flows g ≡ books.watches = ap (λ h. watches_at flows h) (sym (same_flow_exact f g here)) ∙ ap watches_in there in
        let more : length (watches_at flows' g) ≡ length (watches_at flows g) + 1 = ap length (watches_more g here) ∙ length-append (watches_at flows g) ((record { buffer = b; place = place }) ∷ []) in
        let long : length (watches_at flows g) ≡ length books.watches = ap length same in
        omega (arith, more, long, few)
    small g (inr other) = rw (watches_same g other) (gates.few g)

-- ---- a flow is forgotten
at_place-left : (f : FlowId) (q : ℕ) (xs : Places) (g : FlowId) → same_flow f g ≡ false → at_place q xs ≡ Some g →
    at_place q (filter (λ e. not (same_flow f e.1)) xs) ≡ Some g
at_place-left f q [] g apart at = absurd (none-some g at)
at_place-left f q (e ∷ xs) g apart at = elim (cases_Bool (nat_eq q e.0)) [
  | inl here ↦
      let same : e.1 ≡ g = same_Some e.1 g (ap (λ t. cond t (Some e.1) (at_place q xs)) (sym here) ∙ at) in
      let stays : same_flow f e.1 ≡ false = ap (same_flow f) same ∙ apart in
      ap (λ t. at_place q (cond (not t) (e ∷ filter (λ d. not (same_flow f d.1)) xs) (filter (λ d. not (same_flow f d.1)) xs))) stays
      ∙ ap (λ t. cond t (Some e.1) (at_place q (filter (λ d. not (same_flow f d.1)) xs))) here ∙ ap Some same
  | inr other ↦
      let rest = at_place-left f q xs g apart (ap (λ t. cond t (Some e.1) (at_place q xs)) (sym other) ∙ at) in
      elim (same_flow f e.1) as (λ t. at_place q (cond (not t) (e ∷ filter (λ d. not (same_flow f d.1)) xs) (filter (λ d. not (same_flow f d.1)) xs)) ≡ Some g) [
        | true ↦ rest
        | false ↦ ap (λ t. cond t (Some e.1) (at_place q (filter (λ d. not (same_flow f d.1)) xs))) other ∙ rest
      ]
]

-- a line with somebody at a place is kept
kept_with : (q : ℕ) (g : FlowId) (line : Line) → at_place q line.watchers ≡ Some g → at_place q (line_in (kept (Some line))) ≡ Some g
kept_with q g line at = elim (cases_Bool (length line.watchers == 0)) [
  | inl empty ↦ absurd (none-some g (ap (at_place q) (nothing line.watchers empty) ∙ at))
  | inr some ↦ ap (λ t. at_place q (line_in (if t then None else Some line))) some ∙ at
]
  where
    nothing : (xs : Places) → (length xs == 0) ≡ true → [] ≡ xs
    nothing [] e = refl
    nothing (x ∷ xs) e = absurd (let none : length (x ∷ xs) ≡ 0 = eqb-true (length (x ∷ xs)) 0 e in omega (arith, none))

stands_forgotten : (f : FlowId) (own : Bool) (o : Option Line) (q : ℕ) (g : FlowId) → same_flow f g ≡ false → at_place q (line_in o) ≡ Some g →
    at_place q (line_in (forgotten f own o)) ≡ Some g
stands_forgotten f own None q g apart at = absurd (none-some g at)
stands_forgotten f true (Some line) q g apart at = kept_with q g (left f line) (at_place-left f q line.watchers g apart at)
stands_forgotten f false (Some line) q g apart at = at_place-left f q line.watchers g apart at

pub gates_forget : (f : FlowId) (flows flows' : Flows) (buffers buffers' : Buffers) → FlowWrites f None flows flows' → ForgetWrites f buffers buffers' →
    IsSound (board_of flows' buffers') → AreGates flows buffers → AreGates flows' buffers'
gates_forget f flows flows' buffers buffers' writes leaves sound gates = record {
  sound = sound;
  placed = λ g. placed g (cases_Bool (same_flow f g));
  few = λ g. small g (cases_Bool (same_flow f g));
}
  where
    none_left : (g : FlowId) → same_flow f g ≡ true → watches_at flows' g ≡ []
    none_left g here = ap watches_in (writes g) ∙ ap (λ t. watches_in (cond t None (flow_at flows g))) here

    others : (g : FlowId) → same_flow f g ≡ false → watches_at flows' g ≡ watches_at flows g
    others g other = ap watches_in (writes g) ∙ ap (λ t. watches_in (cond t None (flow_at flows g))) other

    placed : (g : FlowId) → (same_flow f g ≡ true) ⊎ (same_flow f g ≡ false) → Stands buffers' g (watches_at flows' g)
    placed g (inl here) = rw (none_left g here) tt
    placed g (inr other) = rw (others g other) (weaken (watches_at flows g)
        (λ w at. ap (λ o. at_place w.place (line_in o)) (leaves w.buffer) ∙ stands_forgotten f (is_own f w.buffer) (buffer_at buffers w.buffer) w.place g other at) (gates.placed g))

    small : (g : FlowId) → (same_flow f g ≡ true) ⊎ (same_flow f g ≡ false) → length (watches_at flows' g) ≤ 2 ^ 62
    small g (inl here) = rw (none_left g here) (omega arith)
    small g (inr other) = rw (others g other) (gates.few g)
