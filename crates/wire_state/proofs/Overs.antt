-- A Meter and the send buffer of a flow are above where those of the tape are, and go on to be.
use Rattle.exchange_core.specs.Effects.{body_framed, moved}
use Rattle.exchange_core.specs.Flow.{Flow, last_place, octets_in}
use Rattle.filter_chain.proofs.Changes.{place_at-changed_other, place_at-changed_same}
use Rattle.filter_chain.specs.Chain.{above_in, place_at}
use Rattle.filter_chain.specs.Effects.{changed_at}
use Rattle.filter_chain.specs.Place.{Place, gaining, is_source, kind_of, letting_go, losing}
use Rattle.filter_chain.specs.declared.stage.StageKind.{StageKind as PlaceKind}
use Rattle.filter_chain.specs.declared.stage.StageKind.TheVariants as kind
use Rattle.flow_rules.specs.declared.ids.BufferId.{BufferId}
use Rattle.flow_rules.specs.declared.ids.BufferId.TheVariants as buffer
use Rattle.flow_rules.specs.declared.ids.FlowId.{FlowId}
use Rattle.flow_laws.proofs.Flags.{flag_now}
use Rattle.proxy_config.specs.declared.config.LimitKeys.{LimitKeys}
use Rattle.std.proofs.Common.{ap, arith, inl, inr, refl, subst, sym, ◌∙◌}
use Rattle.std.proofs.lemmas.Bool.Decides.{nat_tests}
use Rattle.std.proofs.lemmas.Option.{none-some, same_Some}
use Rattle.std.specs.Option.{option_map, option_map_or}
use Rattle.std.specs.Prelude.{Bool, List, None, Option, Some, [], drop, false, if◌then◌else◌, length, map, slice_get, suc, take, true, zero, ℕ, ◌++◌, ◌+◌, ◌-◌, ◌==◌, ◌∷◌, ◌≡◌, ◌⊎◌}
use Rattle.tape_laws.specs.Units.{Hold, Meter, StageKind}
use Rattle.tape_laws.specs.Watermark.{above, kind_limit, limit, stage_limit}
use Rattle.tape_laws.specs.World.{len, place}
use Rattle.wire_flows.proofs.Cases.{by_case, number_is}
use Rattle.wire_flows.specs.Sound.{buffer_of}
use Rattle.wire_state.proofs.Held.{apart}
use Rattle.wire_state.proofs.Promised.{same_place}
use Rattle.wire_state.specs.Counts.{AreOver}
use Rattle.wire_state.specs.Limits.{shape_of, stage_shape}
use Rattle.wire_state.specs.Tapes.{tape_setup}
use Rattle.wire_state.specs.Ways.{WayHistory, WayStep, stages_passed}
use Rattle.wire_state.specs.Worlds.{FlowIs}
use Rattle.wm_buffer.specs.Watermark.{above_after}

-- ---- where the sources stand
abbrev Shape : Type 0
Shape = PlaceKind × ℕ

abbrev first_kind : List Shape → PlaceKind
first_kind [] = kind.Hold
first_kind (x ∷ xs) = x.0

abbrev first_limit : List Shape → ℕ
first_limit [] = 0
first_limit (x ∷ xs) = x.1

abbrev rest : List Shape → List Shape
rest ks = drop 1 ks

stage_limit_is : (s : StageKind) → kind_limit s ≡ (stage_shape s).1
stage_limit_is (Hold n) = refl
stage_limit_is (Meter n rate) = refl

-- a stage isn't a send buffer
no_send : (s : StageKind) → (stage_shape s).0 ≡ kind.Send → ⊥
no_send (Hold n) e = cc
no_send (Meter n rate) e = cc

module _ (most : ℕ) where
  abbrev AreShaped : List StageKind → List Place → Type 0
  AreShaped ss xs = map shape_of xs ≡ map stage_shape ss ++ (kind.Send, most) ∷ []

  none_behind : (x : Place) (xs : List Place) (i : ℕ) (y : Place) → AreShaped [] (x ∷ xs) → slice_get xs i ≡ Some y → ⊥
  none_behind x [] i y e found = cc
  none_behind x (z ∷ zs) i y e found = cc

  -- the send buffer is the last place, with its limit
  send_at : (ss : List StageKind) (xs : List Place) (i : ℕ) (x : Place) → AreShaped ss xs → slice_get xs i ≡ Some x → x.kind ≡ kind.Send → (suc i ≡ length ss + 1) × (x.limit ≡ most)
  send_at [] [] i x e found send = cc
  send_at [] (z ∷ zs) zero x e found send = (refl, ap (λ (y : Place). y.limit) (sym (same_Some z x found)) ∙ ap first_limit e)
  send_at [] (z ∷ zs) (suc i) x e found send = absurd (none_behind z zs i x e found)
  send_at (s ∷ ss) [] i x e found send = cc
  send_at (s ∷ ss) (z ∷ zs) zero x e found send = absurd (no_send s (sym (ap first_kind e) ∙ (ap (λ (y : Place). y.kind) (same_Some z x found) ∙ send)))
  send_at (s ∷ ss) (z ∷ zs) (suc i) x e found send = let r = send_at ss zs i x (ap rest e) found send in (more i (length ss) r.0, r.1)
    where
      more : (i n : ℕ) → suc i ≡ n + 1 → suc (suc i) ≡ suc n + 1
      more i n e = omega (arith, e)

  -- a stage has the limit of its stage
  stage_at : (ss : List StageKind) (xs : List Place) (i : ℕ) (x : Place) → AreShaped ss xs → slice_get xs i ≡ Some x → (x.kind ≡ kind.Send → ⊥) → stage_limit ss (suc i) ≡ x.limit
  stage_at [] [] i x e found stage = cc
  stage_at [] (z ∷ zs) zero x e found stage = absurd (stage (ap (λ (y : Place). y.kind) (sym (same_Some z x found)) ∙ ap first_kind e))
  stage_at [] (z ∷ zs) (suc i) x e found stage = absurd (none_behind z zs i x e found)
  stage_at (s ∷ ss) [] i x e found stage = cc
  stage_at (s ∷ ss) (z ∷ zs) zero x e found stage = stage_limit_is s ∙ (sym (ap first_limit e) ∙ ap (λ (y : Place). y.limit) (same_Some z x found))
  stage_at (s ∷ ss) (z ∷ zs) (suc i) x e found stage =
      ap (λ b. if b then kind_limit s else stage_limit ss (suc (suc i) - 1)) (later i) ∙ (ap (stage_limit ss) (less i) ∙ stage_at ss zs i x (ap rest e) found stage)
    where
      later : (i : ℕ) → (suc (suc i) == 1) ≡ false
      later i = grind (arith, nat_tests)

      less : (i : ℕ) → suc (suc i) - 1 ≡ suc i
      less i = omega arith

module _ (l : LimitKeys) (f : FlowId) (h : WayHistory) (flow : Flow) (is : FlowIs l f h flow) (i : ℕ) (x : Place) (found : slice_get flow.chain.places i ≡ Some x) where
  abbrev named : PlaceKind → BufferId
  named k = buffer_of f (suc i) (kind_of k)

  lies : place (tape_setup l) f (suc i) h ≡ x.octets
  lies = same_place l f (suc i) h ∙ (sym (is.holds (suc i)) ∙ ap (λ (o : Option Place). option_map_or (λ y. y.octets) o []) found)

  -- its limit and its length are those of its buffer
  limit_at : (k : PlaceKind) → x.kind ≡ k → is_source k ≡ true → limit (tape_setup l) (named k) h ≡ x.limit
  limit_at kind.Hold e source = cc
  limit_at (kind.Meter rate) e source = stage_at l.send_buffer (stages_passed f h) flow.chain.places i x is.shape.places found (λ send. cc (send, e))
  limit_at kind.Send e source = sym (send_at l.send_buffer (stages_passed f h) flow.chain.places i x is.shape.places found e).1

  len_at : (k : PlaceKind) → x.kind ≡ k → is_source k ≡ true → len (tape_setup l) (named k) h ≡ length x.octets
  len_at kind.Hold e source = cc
  len_at (kind.Meter rate) e source = ap (λ (xs : List ℕ). length xs) lies
  len_at kind.Send e source =
      ap (λ (p : ℕ). length (place (tape_setup l) f p h)) (sym (send_at l.send_buffer (stages_passed f h) flow.chain.places i x is.shape.places found e).0) ∙ ap (λ (xs : List ℕ). length xs) lies

-- ---- places that were changed
-- it is what it was, or holds other octets
pub record PlaceGoes (old new : Place) : Type 0 where
  pub kind : new.kind ≡ old.kind
  pub limit : new.limit ≡ old.limit
  pub goes : (new ≡ old) ⊎ (new.above ≡ above_after old.limit old.above (length new.octets))

pub record FlowGoes (old new : Flow) : Type 0 where
  pub each : (p : ℕ) (y : Place) → place_at new.chain.places p ≡ Some y → (x : Place) × (place_at old.chain.places p ≡ Some x) × PlaceGoes x y

module _ (l : LimitKeys) (f : FlowId) (step : WayStep) (h : WayHistory) (old new : Flow) (was : FlowIs l f h old) (is : FlowIs l f (step ∷ h) new)
    (i : ℕ) (y : Place) (found : slice_get new.chain.places i ≡ Some y) (source : is_source y.kind ≡ true)
    (x : Place) (found_old : slice_get old.chain.places i ≡ Some x) (g : PlaceGoes x y) (over : is_source x.kind ≡ true → x.above ≡ above (tape_setup l) (buffer_of f (suc i) (kind_of x.kind)) h) where
  abbrev b : BufferId
  b = buffer_of f (suc i) (kind_of y.kind)

  same_buffer : buffer_of f (suc i) (kind_of x.kind) ≡ b
  same_buffer = ap (λ (k : PlaceKind). buffer_of f (suc i) (kind_of k)) (sym g.kind)

  source_then : is_source x.kind ≡ true
  source_then = ap is_source (sym g.kind) ∙ source

  over_was : x.above ≡ above (tape_setup l) b h
  over_was = over source_then ∙ ap (λ (v : BufferId). above (tape_setup l) v h) same_buffer

  limit_was : limit (tape_setup l) b h ≡ x.limit
  limit_was = ap (λ (v : BufferId). limit (tape_setup l) v h) (sym same_buffer) ∙ limit_at l f h old was i x found_old x.kind refl source_then

  len_was : len (tape_setup l) b h ≡ length x.octets
  len_was = ap (λ (v : BufferId). len (tape_setup l) v h) (sym same_buffer) ∙ len_at l f h old was i x found_old x.kind refl source_then

  limit_is : limit (tape_setup l) b (step ∷ h) ≡ y.limit
  limit_is = limit_at l f (step ∷ h) new is i y found y.kind refl source

  len_is : len (tape_setup l) b (step ∷ h) ≡ length y.octets
  len_is = len_at l f (step ∷ h) new is i y found y.kind refl source

  by_goes : (y ≡ x) ⊎ (y.above ≡ above_after x.limit x.above (length y.octets)) → y.above ≡ above (tape_setup l) b (step ∷ h)
  by_goes (inl same) =
      ap (λ (v : Place). v.above) same ∙ (over_was ∙ (sym (flag_now (tape_setup l) b h)
      ∙ (λ i. above_after ((limit_was ∙ (sym g.limit ∙ sym limit_is)) i) (above (tape_setup l) b h) ((len_was ∙ (ap (λ (v : Place). length v.octets) (sym same) ∙ sym len_is)) i))))
  by_goes (inr goes) = goes ∙ (λ i. above_after ((sym g.limit ∙ sym limit_is) i) (over_was i) (sym len_is i))

pub over_then : (l : LimitKeys) (f : FlowId) (step : WayStep) (h : WayHistory) (old new : Flow) → FlowIs l f h old → FlowIs l f (step ∷ h) new → FlowGoes old new → AreOver l f h old → AreOver l f (step ∷ h) new
over_then l f step h old new was is goes over zero y found source = absurd (none-some y found)
over_then l f step h old new was is goes over (suc i) y found source =
    let g = goes.each (suc i) y found in by_goes l f step h old new was is i y found source g.0 g.1 g.2 (over (suc i) g.0 g.1) g.2.goes

-- ---- the calls
same_place_goes : (x : Place) → PlaceGoes x x
same_place_goes x = record { kind = refl; limit = refl; goes = inl refl }

pub still_goes : (old new : Flow) → new.chain.places ≡ old.chain.places → FlowGoes old new
still_goes old new e = record { each = λ p y found. (y, ap (λ (ps : List Place). place_at ps p) (sym e) ∙ found, same_place_goes y) }

-- what a change makes of a place is that place with other octets
abbrev IsHolding : (Place → Place) → Type 0
IsHolding g = (x : Place) → PlaceGoes x (g x)

abbrev Comes : List Place → ℕ → Place → Type 0
Comes xs p y = (x : Place) × (place_at xs p ≡ Some x) × PlaceGoes x y

mapped_comes : (g : Place → Place) → IsHolding g → (o : Option Place) (y : Place) → option_map g o ≡ Some y → (x : Place) × (o ≡ Some x) × PlaceGoes x y
mapped_comes g holding None y e = cc
mapped_comes g holding (Some x) y e = (x, refl, subst (PlaceGoes x) (same_Some (g x) y e) (holding x))

changed_comes : (g : Place → Place) → IsHolding g → (q : ℕ) (xs : List Place) (p : ℕ) (y : Place) → place_at (changed_at g q xs) p ≡ Some y → Comes xs p y
changed_comes g holding q xs p y found = by_case (q == p)
    (λ same. let is = number_is q p same in
    subst (λ (r : ℕ). Comes xs r y) is (mapped_comes g holding (place_at xs q) y (sym (place_at-changed_same g xs q) ∙ (ap (place_at (changed_at g q xs)) is ∙ found))))
    (λ other. (y, sym (place_at-changed_other g xs q p (apart q p other)) ∙ found, same_place_goes y))

pub framed_goes : (n : ℕ) (last : Bool) (flow : Flow) → FlowGoes flow (body_framed n last flow)
framed_goes n last flow = record { each = changed_comes (losing n) (λ x. record { kind = refl; limit = refl; goes = inr refl }) (length flow.chain.places) flow.chain.places }

module _ (q n : ℕ) (flow : Flow) where
  abbrev mid : List Place
  mid = changed_at (letting_go n) (suc q) flow.chain.places

  abbrev gains : Place → Place
  gains = gaining (take n (octets_in flow (suc q)))

  gains_hold : IsHolding gains
  gains_hold x = record { kind = refl; limit = refl; goes = inr refl }

  behind : (suc q == suc q + 1) ≡ false
  behind = grind (arith, nat_tests)

  later_comes : (p : ℕ) (y : Place) → place_at (changed_at gains (suc q + 1) mid) p ≡ Some y → Comes flow.chain.places p y
  later_comes p y found = by_case (suc q + 1 == p)
      (λ same. let is = number_is (suc q + 1) p same in
      let x = mapped_comes gains gains_hold (place_at mid (suc q + 1)) y (sym (place_at-changed_same gains mid (suc q + 1)) ∙ (ap (place_at (changed_at gains (suc q + 1) mid)) is ∙ found)) in
      subst (λ (r : ℕ). Comes flow.chain.places r y) is (x.0, sym (place_at-changed_other (letting_go n) flow.chain.places (suc q) (suc q + 1) (apart (suc q) (suc q + 1) behind)) ∙ x.1, x.2))
      (λ other. changed_comes (letting_go n) (λ x. record { kind = refl; limit = refl; goes = inr refl }) (suc q) flow.chain.places p y
      (sym (place_at-changed_other gains mid (suc q + 1) p (apart (suc q + 1) p other)) ∙ found))

pub moved_goes : (q n : ℕ) (flow : Flow) → FlowGoes flow (moved q n flow)
moved_goes zero n flow = record { each = changed_comes (gaining (take n flow.recv)) (λ x. record { kind = refl; limit = refl; goes = inr refl }) 1 flow.chain.places }
moved_goes (suc q) n flow = record { each = later_comes q n flow }

-- ---- the send buffer
abbrev Found_last : ℕ → List StageKind → List Place → Type 0
Found_last most ss xs = (x : Place) × (slice_get xs (length ss) ≡ Some x) × (x.kind ≡ kind.Send)

last_found : (most : ℕ) (ss : List StageKind) (xs : List Place) → map shape_of xs ≡ map stage_shape ss ++ (kind.Send, most) ∷ [] → Found_last most ss xs
last_found most [] [] e = cc
last_found most [] (x ∷ xs) e = (x, refl, ap first_kind e)
last_found most (s ∷ ss) [] e = cc
last_found most (s ∷ ss) (x ∷ xs) e = last_found most ss xs (ap rest e)

-- it is above where that of the tape is
pub send_over : (l : LimitKeys) (f : FlowId) (h : WayHistory) (flow : Flow) → FlowIs l f h flow → AreOver l f h flow → above_in flow.chain.places (last_place flow) ≡ above (tape_setup l) (buffer.Send f) h
send_over l f h flow is over =
    let found = last_found l.send_buffer (stages_passed f h) flow.chain.places is.shape.places in
    let one : length (stages_passed f h) + 1 ≡ suc (length (stages_passed f h)) = more (length (stages_passed f h)) in
    ap (above_in flow.chain.places) (is.last ∙ one)
    ∙ (ap (λ (o : Option Place). option_map_or (λ x. x.above) o false) found.1
    ∙ (over (suc (length (stages_passed f h))) found.0 found.1 (ap is_source found.2)
    ∙ ap (λ (k : PlaceKind). above (tape_setup l) (buffer_of f (suc (length (stages_passed f h))) (kind_of k)) h) found.2))
  where
    more : (n : ℕ) → n + 1 ≡ suc n
    more n = omega arith
