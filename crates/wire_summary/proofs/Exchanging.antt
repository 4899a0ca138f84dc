-- What is kept of the exchanges, step by step.
use Rattle.flow_rules.specs.declared.ids.FlowId.{FlowId}
use Rattle.flow_rules.specs.declared.causes.Cause.{Cause}
use Rattle.flow_notes.specs.declared.notes.Note.{Note}
use Rattle.std.proofs.Common.{ap, arith, inl, inr, refl, subst, sym, ◌∙◌}
use Rattle.std.proofs.lemmas.Bool.Decides.{nat_tests}
use Rattle.std.specs.BTreeMap.{get}
use Rattle.std.specs.Option.{option_map}
use Rattle.std.specs.Ordering.{is_eq, nat_cmp}
use Rattle.std.specs.Prelude.{Bool, IfSome, List, None, Option, Some, [], false, if◌then◌else◌, length, map, not, true, ℕ, ◌&&◌, ◌+◌, ◌==◌, ◌∷◌, ◌≡◌, ◌⊎◌}
use Rattle.tape_laws.specs.Flows.{request, response, same_flow}
use Rattle.tape_laws.specs.History.{History, NoMark, Noted, Step}
use Rattle.tape_laws.specs.Units.{StageKind}
use Rattle.tape_laws.specs.Watermark.{kind_limit}
use Rattle.tape_laws.specs.World.{place}
use Rattle.tape_summary.proofs.Spots.{equal_is, number_is, numbers_equal}
use Rattle.tape_summary.specs.Levels.{emptied, no_level}
use Rattle.tape_summary.specs.declared.level.Level.{Level}
use Rattle.wire_summary.proofs.Moving.{arrive_here, arrive_other, doom_here, doom_other, frame_here, frame_other, level_same, move_here, move_other}
use Rattle.wire_summary.proofs.Siding.{same_from}
use Rattle.wire_summary.specs.Levels.{Agrees, ExchangeIs, IsUnnoted, LevelsFrom, LimitsGrow, SetsSides, SideIs, SidesAre, StageLimits, kept_sides, known_limits, no_limits, place_level, shaped, sides_in}
use Rattle.wire_summary.specs.Places.{Side, Sides, bare, bare_side, changed_at, changed_side, emptied_side, emptied_sides, side_of, sides_of}
use Rattle.wire_summary.specs.declared.levels.BufferLimits.{BufferLimits}
use Rattle.wire_summary.specs.declared.levels.ExchangePlaces.{ExchangePlaces}
use Rattle.wire_summary.specs.declared.levels.Levels.{Levels}
use Rattle.wire_summary.specs.declared.places.Change.{Change}
use Rattle.flow_notes.specs.declared.notes.Note.TheVariants as note
use Rattle.wire_summary.specs.declared.places.Change.TheVariants as change

-- ---- what a change leaves of the limits

pub record KeepsLimits (F : Sides → Sides) : Type 0 where
  pub request : (s : Sides) → (F s).request.limits ≡ s.request.limits
  pub response : (s : Sides) → (F s).response.limits ≡ s.response.limits

pub changed_keeps : (back : Bool) (c : Change) → KeepsLimits (changed_at back c)
changed_keeps true c = record { request = λ s. refl; response = λ s. refl }
changed_keeps false c = record { request = λ s. refl; response = λ s. refl }

pub emptied_keeps : KeepsLimits emptied_sides
emptied_keeps = record { request = λ s. refl; response = λ s. refl }

-- what was said of an exchange, by its sides
abbrev limits_in : Option Sides → Option StageLimits
limits_in o = option_map (λ s. record { request = s.request.limits; response = s.response.limits }) o

known_by_sides : (o : Option ExchangePlaces) → option_map (λ e. record { request = e.request.limits.items; response = e.response.limits.items }) o ≡ limits_in (option_map sides_of o)
known_by_sides None = refl
known_by_sides (Some e) = refl

-- what was said of one exchange, after its sides are these
known_here : (old : Levels) (x : ℕ) (F : Sides → Sides) (new : Levels) → KeepsLimits F → SetsSides old x (F (sides_in old x)) new
    → known_limits new x ≡ Some (record { request = (sides_in old x).request.limits; response = (sides_in old x).response.limits })
known_here old x F new k s =
    known_by_sides (get nat_cmp new.exchanges x) ∙ ap limits_in s.here
    ∙ ap (λ (v : List ℕ). let l : StageLimits = record { request = v; response = (F (sides_in old x)).response.limits } in Some l) (k.request (sides_in old x))
    ∙ ap (λ (v : List ℕ). let l : StageLimits = record { request = (sides_in old x).request.limits; response = v } in Some l) (k.response (sides_in old x))

pub known_there : (old : Levels) (x : ℕ) (sides : Sides) (new : Levels) (y : ℕ) → SetsSides old x sides new → (x == y) ≡ false → known_limits new y ≡ known_limits old y
known_there old x sides new y s e =
    ap (λ (o : Option ExchangePlaces). option_map (λ p. let l : StageLimits = record { request = p.request.limits.items; response = p.response.limits.items } in l) o) (s.others y (numbers_equal x y ∙ e))

pub sides_grow : (old : Levels) (x : ℕ) (F : Sides → Sides) (new : Levels) → KeepsLimits F → SetsSides old x (F (sides_in old x)) new → LimitsGrow old new no_limits
sides_grow old x F new k s = record { stay = λ y l e. stay y l e (x == y) refl; come = λ y e. come y e (x == y) refl }
  where
    was : (o : Option ExchangePlaces) (l : StageLimits) → option_map (λ e. let l : StageLimits = record { request = e.request.limits.items; response = e.response.limits.items } in l) o ≡ Some l
        → (let m : StageLimits = record { request = (kept_sides o).request.limits; response = (kept_sides o).response.limits } in m) ≡ l
    was None l e = cc
    was (Some p) l e = cc

    none : (o : Option ExchangePlaces) → option_map (λ e. let l : StageLimits = record { request = e.request.limits.items; response = e.response.limits.items } in l) o ≡ None
        → (let m : StageLimits = record { request = (kept_sides o).request.limits; response = (kept_sides o).response.limits } in m) ≡ no_limits
    none None e = refl
    none (Some p) e = cc

    here : (y : ℕ) → x ≡ y → known_limits new y ≡ Some (record { request = (sides_in old y).request.limits; response = (sides_in old y).response.limits })
    here y e = let P : ℕ → Type 0 = λ v. known_limits new v ≡ Some (record { request = (sides_in old v).request.limits; response = (sides_in old v).response.limits }) in subst P e (known_here old x F new k s)

    stay : (y : ℕ) (l : StageLimits) → known_limits old y ≡ Some l → (b : Bool) → (x == y) ≡ b → known_limits new y ≡ Some l
    stay y l e true t = here y (number_is x y t) ∙ ap Some (was (get nat_cmp old.exchanges y) l e)
    stay y l e false t = known_there old x (F (sides_in old x)) new y s t ∙ e

    come : (y : ℕ) → known_limits old y ≡ None → (b : Bool) → (x == y) ≡ b → (known_limits new y ≡ None) ⊎ (known_limits new y ≡ Some no_limits)
    come y e true t = inr (here y (number_is x y t) ∙ ap Some (none (get nat_cmp old.exchanges y) e))
    come y e false t = inl (known_there old x (F (sides_in old x)) new y s t ∙ e)

pub known_same : (old new : Levels) → new.exchanges ≡ old.exchanges → (x : ℕ) → known_limits new x ≡ known_limits old x
known_same old new e x = ap (λ m. option_map (λ (p : ExchangePlaces). let l : StageLimits = record { request = p.request.limits.items; response = p.response.limits.items } in l) (get nat_cmp m x)) e

pub grow_none : (old new : Levels) → new.exchanges ≡ old.exchanges → LimitsGrow old new no_limits
grow_none old new e = record { stay = λ x l k. same x ∙ k; come = λ x k. inl (same x ∙ k) }
  where
    same : (x : ℕ) → known_limits new x ≡ known_limits old x
    same x = ap (λ m. option_map (λ (p : ExchangePlaces). let l : StageLimits = record { request = p.request.limits.items; response = p.response.limits.items } in l) (get nat_cmp m x)) e

pub grow_more : (a b c : Levels) → LimitsGrow a b no_limits → LimitsGrow b c no_limits → LimitsGrow a c no_limits
grow_more a b c p q = record { stay = λ x l k. q.stay x l (p.stay x l k); come = λ x k. by x (p.come x k) }
  where
    by : (x : ℕ) → (known_limits b x ≡ None) ⊎ (known_limits b x ≡ Some no_limits) → (known_limits c x ≡ None) ⊎ (known_limits c x ≡ Some no_limits)
    by x (inl e) = q.come x e
    by x (inr e) = inr (q.stay x no_limits e)

-- stages that agree with what was said later agree with what was said before
pub agree_before : (stages : FlowId → List StageKind) (old new : Levels) (said : StageLimits) → LimitsGrow old new said → Agrees stages new → Agrees stages old
agree_before stages old new said g a = λ x. by x (known_limits old x) refl
  where
    by : (x : ℕ) (o : Option StageLimits) → known_limits old x ≡ o → IfSome o (λ l. (l.request ≡ map kind_limit (stages (request x))) × (l.response ≡ map kind_limit (stages (response x))))
    by x None e = tt
    by x (Some l) e =
        let P : Option StageLimits → Type 0 = λ v. IfSome v (λ l. (l.request ≡ map kind_limit (stages (request x))) × (l.response ≡ map kind_limit (stages (response x)))) in
        subst P (g.stay x l e) (a x)

-- ---- what a step does to the places of one exchange

module _ (limits : BufferLimits) (stages : FlowId → List StageKind) where
  pub record StepsSides (step : Step NoMark) (h : History NoMark) (x : ℕ) (F : Sides → Sides) : Type 0 where
    pub same : (y p : ℕ) → (x == y) ≡ false → (place_level (shaped limits stages) (request y) h p ≡ place_level (shaped limits stages) (request y) (step ∷ h) p)
        × (place_level (shaped limits stages) (response y) h p ≡ place_level (shaped limits stages) (response y) (step ∷ h) p)
    pub here : (s : Sides) → SidesAre limits stages x h s → SidesAre limits stages x (step ∷ h) (F s)

  same_side : (f : FlowId) (step : Step NoMark) (h : History NoMark) (s : Side) → ((p : ℕ) → place_level (shaped limits stages) f h p ≡ place_level (shaped limits stages) f (step ∷ h) p) → SideIs limits stages f h s → SideIs limits stages f (step ∷ h) s
  same_side f step h s e k = record {
    limits_are = k.limits_are;
    long = k.long;
    levels_are = same_from (place_level (shaped limits stages) f h) (place_level (shaped limits stages) f (step ∷ h)) 0 s.levels (λ q le lt. e q) k.levels_are;
  }

  -- a step that leaves the places of an exchange as they were
  pub same_exchange : (step : Step NoMark) (h : History NoMark) (x : ℕ) (o : Option ExchangePlaces)
      → ((p : ℕ) → (place_level (shaped limits stages) (request x) h p ≡ place_level (shaped limits stages) (request x) (step ∷ h) p) × (place_level (shaped limits stages) (response x) h p ≡ place_level (shaped limits stages) (response x) (step ∷ h) p))
      → ExchangeIs limits stages x h o → ExchangeIs limits stages x (step ∷ h) o
  same_exchange step h x None e k = record { request_none = λ p. sym (e p).0 ∙ k.request_none p; response_none = λ p. sym (e p).1 ∙ k.response_none p }
  same_exchange step h x (Some places) e k = record {
    request_is = same_side (request x) step h (side_of places.request) (λ p. (e p).0) k.request_is;
    response_is = same_side (response x) step h (side_of places.response) (λ p. (e p).1) k.response_is;
  }

  no_stages : (ss : List StageKind) → [] ≡ map kind_limit ss → length ss ≡ 0
  no_stages [] e = refl
  no_stages (s ∷ ss) e = cc

  bare_is : (f : FlowId) (h : History NoMark) → ((p : ℕ) → place_level (shaped limits stages) f h p ≡ no_level) → [] ≡ map kind_limit (stages f) → SideIs limits stages f h bare_side
  bare_is f h none e = record { limits_are = e; long = ap (λ n. n + 2) (sym (no_stages (stages f) e)); levels_are = (sym (none 0), (sym (none 1), tt)) }

  -- what is kept of an exchange whose limits are those that were said
  kept_are : (x : ℕ) (h : History NoMark) (o : Option ExchangePlaces) → (kept_sides o).request.limits ≡ map kind_limit (stages (request x)) → (kept_sides o).response.limits ≡ map kind_limit (stages (response x))
      → ExchangeIs limits stages x h o → SidesAre limits stages x h (kept_sides o)
  kept_are x h None p q k = record { request_is = bare_is (request x) h k.request_none p; response_is = bare_is (response x) h k.response_none q }
  kept_are x h (Some e) p q k = k

  sides_are : (x : ℕ) (h : History NoMark) (o : Option ExchangePlaces) (s : Sides) → option_map sides_of o ≡ Some s → SidesAre limits stages x h s → ExchangeIs limits stages x h o
  sides_are x h None s e k = cc
  sides_are x h (Some p) s e k = let same : sides_of p ≡ s = cc in let P : Sides → Type 0 = λ v. SidesAre limits stages x h v in subst P (sym same) k

  pub step_exchange : (step : Step NoMark) (h : History NoMark) (old new : Levels) (x : ℕ) (F : Sides → Sides) → KeepsLimits F → StepsSides step h x F → SetsSides old x (F (sides_in old x)) new → Agrees stages new
      → ((y : ℕ) → ExchangeIs limits stages y h (get nat_cmp old.exchanges y)) → (y : ℕ) → ExchangeIs limits stages y (step ∷ h) (get nat_cmp new.exchanges y)
  step_exchange step h old new x F keeps t s a was y = by (x == y) refl
    where
      agreed : IfSome (Some (let l : StageLimits = record { request = (sides_in old x).request.limits; response = (sides_in old x).response.limits } in l)) (λ l. (l.request ≡ map kind_limit (stages (request x))) × (l.response ≡ map kind_limit (stages (response x))))
      agreed =
          let P : Option StageLimits → Type 0 = λ v. IfSome v (λ l. (l.request ≡ map kind_limit (stages (request x))) × (l.response ≡ map kind_limit (stages (response x)))) in
          subst P (known_here old x F new keeps s) (a x)

      here : ExchangeIs limits stages x (step ∷ h) (get nat_cmp new.exchanges x)
      here = sides_are x (step ∷ h) (get nat_cmp new.exchanges x) (F (sides_in old x)) s.here (t.here (sides_in old x) (kept_are x h (get nat_cmp old.exchanges x) agreed.0 agreed.1 (was x)))

      by : (b : Bool) → (x == y) ≡ b → ExchangeIs limits stages y (step ∷ h) (get nat_cmp new.exchanges y)
      by true e = let P : ℕ → Type 0 = λ v. ExchangeIs limits stages v (step ∷ h) (get nat_cmp new.exchanges v) in subst P (number_is x y e) here
      by false e =
          let P : Option ExchangePlaces → Type 0 = λ v. ExchangeIs limits stages y (step ∷ h) v in
          subst P (sym (s.others y (numbers_equal x y ∙ e))) (same_exchange step h y (get nat_cmp old.exchanges y) (λ p. t.same y p e) (was y))

  -- ---- the notes of one flow

  -- for a change of one flow's places
  pub record StepsFlow (step : Step NoMark) (h : History NoMark) (g : FlowId) (c : Change) : Type 0 where
    pub other : (f : FlowId) (p : ℕ) → same_flow g f ≡ false → place_level (shaped limits stages) f h p ≡ place_level (shaped limits stages) f (step ∷ h) p
    pub here : (f : FlowId) (s : Side) → same_flow g f ≡ true → SideIs limits stages f h s → SideIs limits stages f (step ∷ h) (changed_side c s)

  flow_apart : (g : FlowId) (y : ℕ) (back : Bool) → (g.exchange == y) ≡ false → same_flow g (record { exchange = y; back = back }) ≡ false
  flow_apart g y back e = ap (λ (b : Bool). b && (if g.back then back else not back)) e

  is_request : (g : FlowId) (b : Bool) → g.back ≡ b → same_flow g (request g.exchange) ≡ not b
  is_request g b e = ap (λ v. v && (if g.back then false else true)) (equal_is g.exchange g.exchange refl) ∙ by b e
    where
      by : (b : Bool) → g.back ≡ b → (true && (if g.back then false else true)) ≡ not b
      by true e = ap (λ (v : Bool). true && (if v then false else true)) e
      by false e = ap (λ (v : Bool). true && (if v then false else true)) e

  is_response : (g : FlowId) (b : Bool) → g.back ≡ b → same_flow g (response g.exchange) ≡ b
  is_response g b e = ap (λ v. v && (if g.back then true else false)) (equal_is g.exchange g.exchange refl) ∙ by b e
    where
      by : (b : Bool) → g.back ≡ b → (true && (if g.back then true else false)) ≡ b
      by true e = ap (λ (v : Bool). true && (if v then true else false)) e
      by false e = ap (λ (v : Bool). true && (if v then true else false)) e

  pub flow_steps : (step : Step NoMark) (h : History NoMark) (g : FlowId) (c : Change) → StepsFlow step h g c → StepsSides step h g.exchange (changed_at g.back c)
  flow_steps step h g c t = record {
    same = λ y p e. (t.other (request y) p (flow_apart g y false e), t.other (response y) p (flow_apart g y true e));
    here = λ s k. by g.back refl s k;
  }
    where
      by : (b : Bool) → g.back ≡ b → (s : Sides) → SidesAre limits stages g.exchange h s → SidesAre limits stages g.exchange (step ∷ h) (changed_at b c s)
      by true e s k = record {
        request_is = same_side (request g.exchange) step h s.request (λ p. t.other (request g.exchange) p (is_request g true e)) k.request_is;
        response_is = t.here (response g.exchange) s.response (is_response g true e) k.response_is;
      }
      by false e s k = record {
        request_is = t.here (request g.exchange) s.request (is_request g false e) k.request_is;
        response_is = same_side (response g.exchange) step h s.response (λ p. t.other (response g.exchange) p (is_response g false e)) k.response_is;
      }

  pub arrive_steps : (g : FlowId) (o : List ℕ) (h : History NoMark) → StepsSides (Noted (note.Arrive g o)) h g.exchange (changed_at g.back (change.Arrive (length o)))
  arrive_steps g o h = flow_steps (Noted (note.Arrive g o)) h g (change.Arrive (length o))
      (record { other = λ f p e. arrive_other limits stages g o f p h e; here = λ f s e k. arrive_here limits stages g o f h s e k })

  pub move_steps : (g : FlowId) (r n : ℕ) (h : History NoMark) → StepsSides (Noted (note.Move g r n)) h g.exchange (changed_at g.back (change.Shift r n))
  move_steps g r n h = flow_steps (Noted (note.Move g r n)) h g (change.Shift r n)
      (record { other = λ f p e. move_other limits stages g r n f p h e; here = λ f s e k. move_here limits stages g r n f h s e k })

  pub frame_steps : (c : ℕ) (g : FlowId) (n : ℕ) (last : Bool) (h : History NoMark) → StepsSides (Noted (note.Frame c g n last)) h g.exchange (changed_at g.back (change.Frame n))
  frame_steps c g n last h = flow_steps (Noted (note.Frame c g n last)) h g (change.Frame n)
      (record { other = λ f p e. frame_other limits stages c g n last f p h e; here = λ f s e k. frame_here limits stages c g n last f h s e k })

  turned : (x y : ℕ) → (x == y) ≡ false → (y == x) ≡ false
  turned x y e = grind (arith, nat_tests)

  pub doom_steps : (x : ℕ) (why : Cause) (h : History NoMark) → StepsSides (Noted (note.Doom x why)) h x emptied_sides
  doom_steps x why h = record {
    same = λ y p e. (doom_other limits stages x (note.Doom x why) (request y) p h refl (turned x y e), doom_other limits stages x (note.Doom x why) (response y) p h refl (turned x y e));
    here = λ s k. record {
      request_is = doom_here limits stages x (note.Doom x why) (request x) h s.request (λ p. refl) (equal_is x x refl) k.request_is;
      response_is = doom_here limits stages x (note.Doom x why) (response x) h s.response (λ p. refl) (equal_is x x refl) k.response_is;
    };
  }

  -- the places that are kept of an exchange stand for those before the step
  pub kept_before : (h : History NoMark) (old new : Levels) (x : ℕ) (F : Sides → Sides) → KeepsLimits F → SetsSides old x (F (sides_in old x)) new → Agrees stages new
      → ((y : ℕ) → ExchangeIs limits stages y h (get nat_cmp old.exchanges y)) → SidesAre limits stages x h (sides_in old x)
  kept_before h old new x F keeps s a was =
      let P : Option StageLimits → Type 0 = λ v. IfSome v (λ l. (l.request ≡ map kind_limit (stages (request x))) × (l.response ≡ map kind_limit (stages (response x)))) in
      let agreed = subst P (known_here old x F new keeps s) (a x) in
      kept_are x h (get nat_cmp old.exchanges x) agreed.0 agreed.1 (was x)
