-- No buffer holds more than its bound, at each moment.
use Rattle.exchange_core.specs.Flow.{Flow}
use Rattle.filter_chain.specs.Place.{IsPlace, IsWithinKind, Place, beyond}
use Rattle.filter_chain.specs.declared.stage.StageKind.{StageKind as PlaceKind}
use Rattle.filter_chain.specs.declared.stage.StageKind.TheVariants as kind
use Rattle.flow_rules.specs.declared.ids.FlowId.{FlowId}
use Rattle.flow_rules.specs.declared.causes.Cause.{Cause}
use Rattle.flow_notes.specs.declared.notes.Note.TheVariants as note
use Rattle.paged_map.specs.PagedMap.{PagedMap}
use Rattle.proxy_config.specs.declared.config.LimitKeys.{LimitKeys}
use Rattle.std.proofs.Common.{ap, arith, refl, subst, sym, ◌∙◌}
use Rattle.std.proofs.lemmas.List.{length-drop}
use Rattle.std.specs.Prelude.{Bool, IfSome, List, None, Option, Some, [], drop, false, if◌then◌else◌, is_some, length, map, slice_get, suc, true, ℕ, ◌&&◌, ◌++◌, ◌+◌, ◌<◌, ◌==◌, ◌∷◌, ◌≡◌, ◌≤◌}
use Rattle.tape_laws.specs.Bounds.{stage_bound}
use Rattle.tape_laws.specs.Flows.{same_flow}
use Rattle.tape_laws.specs.History.{AtEachMoment, Noted}
use Rattle.tape_laws.specs.Units.{Hold, Meter, StageKind}
use Rattle.tape_laws.specs.World.{last_place, out, place}
use Rattle.wire_flows.proofs.Answering.{all_bounded}
use Rattle.wire_flows.proofs.Found.{flow_is}
use Rattle.wire_flows.proofs.Freed.{place_sound}
use Rattle.wire_flows.proofs.Places.{all_get}
use Rattle.wire_flows.specs.Flows.{Flows, flow_in, is_there}
use Rattle.wire_flows.specs.Sound.{IsBounded, IsSound, IsWithin}
use Rattle.wire_state.proofs.Held.{held}
use Rattle.wire_state.proofs.Sending.{IsStill}
use Rattle.wire_state.specs.Limits.{Fits, FlowFits, OutFits, StagesFit, shape_of, stage_shape}
use Rattle.wire_state.specs.Ways.{WayHistory, stages_passed, world_setup}
use Rattle.wire_state.specs.Worlds.{FlowIs, octets_of}
use Rattle.wire_state.specs.declared.conn.Conn.{Conn}

within : (a b c : ℕ) → a ≤ b → b ≤ c → a ≤ c
within a b c i j = omega arith

no_longer : (xs ys : List ℕ) → xs ≡ ys → length xs ≤ length ys
no_longer xs ys e = let n = ap (λ (zs : List ℕ). length zs) e in omega (arith, n)

none_longer : (xs : List ℕ) (n : ℕ) → xs ≡ [] → length xs ≤ n
none_longer xs n e = let k = ap (λ (zs : List ℕ). length zs) e in omega (arith, k)

-- ---- a flow that holds no more than it did
stages_less : (l : LimitKeys) (f : FlowId) (h k : WayHistory) → ((p : ℕ) → length (place world_setup f p k) ≤ length (place world_setup f p h)) → (p : ℕ) (ss : List StageKind) → StagesFit l f p ss h → StagesFit l f p ss k
stages_less l f h k less p [] fit = tt
stages_less l f h k less p (s ∷ ss) fit = (within _ _ _ (less p) fit.0, stages_less l f h k less (p + 1) ss fit.1)

pub less_fits : {l : LimitKeys} → (f : FlowId) (h k : WayHistory) → ((p : ℕ) → length (place world_setup f p k) ≤ length (place world_setup f p h)) → stages_passed f k ≡ stages_passed f h → FlowFits l f h → FlowFits l f k
less_fits {l} f h k less same fit = record {
  window = within _ _ _ (less 0) fit.window;
  stages = subst (λ (ss : List StageKind). StagesFit l f 1 ss k) (sym same) (stages_less l f h k less 1 (stages_passed f h) fit.stages);
  send = λ some. subst (λ (ss : List StageKind). length (place world_setup f (length ss + 1) k) ≤ l.send_buffer + l.quantum) (sym same) (within _ _ _ (less (last_place world_setup f h)) (fit.send some));
}

pub still_fits : {l : LimitKeys} → (f : FlowId) (h k : WayHistory) → IsStill f h k → FlowFits l f h → FlowFits l f k
still_fits f h k s fit = less_fits f h k (λ p. no_longer _ _ (s.places p)) s.stages fit

-- one that holds nothing
stages_empty : (l : LimitKeys) (f : FlowId) (k : WayHistory) → ((p : ℕ) → place world_setup f p k ≡ []) → (p : ℕ) (ss : List StageKind) → StagesFit l f p ss k
stages_empty l f k e p [] = tt
stages_empty l f k e p (s ∷ ss) = (none_longer _ _ (e p), stages_empty l f k e (p + 1) ss)

pub empty_fits : {l : LimitKeys} → (f : FlowId) (k : WayHistory) → ((p : ℕ) → place world_setup f p k ≡ []) → FlowFits l f k
empty_fits {l} f k e = record {
  window = none_longer _ _ (e 0);
  stages = stages_empty l f k e 1 (stages_passed f k);
  send = λ some. none_longer _ _ (e (last_place world_setup f k));
}

-- ---- a flow that is there
abbrev Shape : Type 0
Shape = PlaceKind × ℕ

abbrev first_kind : List Shape → PlaceKind
first_kind [] = kind.Send
first_kind (x ∷ xs) = x.0

abbrev first_limit : List Shape → ℕ
first_limit [] = 0
first_limit (x ∷ xs) = x.1

-- what is known of a place
record IsSure (q : ℕ) (x : Place) : Type 0 where
  bounded : IsWithin q x
  sound : IsPlace x

module _ (l : LimitKeys) (f : FlowId) (h : WayHistory) where
  abbrev AreShaped : List StageKind → List Place → Type 0
  AreShaped ss xs = map shape_of xs ≡ map stage_shape ss ++ (kind.Send, l.send_buffer) ∷ []

  abbrev AreSure : List Place → Type 0
  AreSure xs = (i : ℕ) (x : Place) → slice_get xs i ≡ Some x → IsSure l.quantum x

  abbrev Hold_at : ℕ → List Place → Type 0
  Hold_at p xs = (i : ℕ) → held (slice_get xs i) ≡ place world_setup f (p + i) h

  abbrev SendFits : ℕ → Type 0
  SendFits p = 0 < l.send_buffer → length (place world_setup f p h) ≤ l.send_buffer + l.quantum

  -- a Meter and the send buffer hold a quantum more than their limit
  spread : (x : Place) (k : PlaceKind) (limit : ℕ) → x.kind ≡ k → x.limit ≡ limit → 0 < limit → beyond k l.quantum ≡ l.quantum → IsSure l.quantum x → length x.octets ≤ limit + l.quantum
  spread x k limit is lim some more sure =
      subst (λ (v : ℕ). length x.octets ≤ v + l.quantum) lim
      (subst (λ (q : ℕ). length x.octets ≤ x.limit + q) (ap (λ (kd : PlaceKind). beyond kd l.quantum) is ∙ more) (sure.bounded (subst (λ (v : ℕ). 0 < v) (sym lim) some)))

  stage_fits : (s : StageKind) (x : Place) → x.kind ≡ (stage_shape s).0 → x.limit ≡ (stage_shape s).1 → IsSure l.quantum x → length x.octets ≤ stage_bound l.quantum s
  stage_fits (Hold limit) x is lim sure =
      let kept = subst (λ (kd : PlaceKind). IsWithinKind kd x) is sure.sound.kind in subst (λ (v : ℕ). length x.octets ≤ v) lim kept.1
  stage_fits (Meter limit rate) x is lim sure =
      let some = subst (λ (kd : PlaceKind). IsWithinKind kd x) is sure.sound.kind in spread x (kind.Meter rate) limit is lim (subst (λ (v : ℕ). 0 < v) lim some) refl sure

  here : (p : ℕ) (x : Place) (n : ℕ) → x.octets ≡ place world_setup f (p + 0) h → length x.octets ≤ n → length (place world_setup f p h) ≤ n
  here p x n is fits = subst (λ (q : ℕ). length (place world_setup f q h) ≤ n) (nothing p) (subst (λ (xs : List ℕ). length xs ≤ n) is fits)
    where
      nothing : (p : ℕ) → p + 0 ≡ p
      nothing p = omega arith

  places_fit : (p : ℕ) (ss : List StageKind) (xs : List Place) → AreShaped ss xs → AreSure xs → Hold_at p xs → StagesFit l f p ss h × SendFits (p + length ss)
  places_fit p [] [] shaped sure holds = cc
  places_fit p [] (x ∷ xs) shaped sure holds = (
    tt,
    λ some.
        subst (λ (ys : List ℕ). length ys ≤ l.send_buffer + l.quantum) (holds 0) (spread x kind.Send l.send_buffer (ap first_kind shaped) (ap first_limit shaped) some refl (sure 0 x refl)),
  )
  places_fit p (s ∷ ss) [] shaped sure holds = cc
  places_fit p (s ∷ ss) (x ∷ xs) shaped sure holds =
      let rest = places_fit (p + 1) ss xs (ap (λ (ks : List Shape). drop 1 ks) shaped) (λ i y at. sure (suc i) y at) (λ i. holds (suc i) ∙ ap (λ (q : ℕ). place world_setup f q h) (later p i)) in (
        (here p x (stage_bound l.quantum s) (holds 0) (stage_fits s x (ap first_kind shaped) (ap first_limit shaped) (sure 0 x refl)), rest.0),
        subst SendFits (sym (later p (length ss))) rest.1,
      )
    where
      later : (p i : ℕ) → p + suc i ≡ (p + 1) + i
      later p i = omega arith

  pub flow_fits : (flow : Flow) → FlowIs l f h flow → IsBounded flow → ((i : ℕ) (x : Place) → slice_get flow.chain.places i ≡ Some x → IsPlace x) → FlowFits l f h
  flow_fits flow is bounded sound =
      let fit = places_fit 1 (stages_passed f h) flow.chain.places is.shape.places sure (λ i. is.holds (suc i) ∙ ap (λ (q : ℕ). place world_setup f q h) (next i)) in
      record {
        window = subst (λ (n : ℕ). length (place world_setup f 0 h) ≤ n) is.shape.window (subst (λ (xs : List ℕ). length xs ≤ flow.window) (is.holds 0) bounded.recv);
        stages = fit.0;
        send = subst SendFits (last (length (stages_passed f h))) fit.1;
      }
    where
      next : (i : ℕ) → suc i ≡ 1 + i
      next i = omega arith

      last : (n : ℕ) → 1 + n ≡ n + 1
      last n = omega arith

      sure : AreSure flow.chain.places
      sure i x at = record { bounded = subst (λ (q : ℕ). IsWithin q x) is.shape.quantum (all_get (IsWithin flow.chain.quantum) flow.chain.places i x bounded.places at); sound = sound i x at }

-- each flow of sound ones fits, and those that aren't there hold nothing
pub flows_fit : {l : LimitKeys} → (flows : Flows) → IsSound flows → (h : WayHistory) → ((f : FlowId) → IfSome (flow_in flows f) (FlowIs l f h)) → ((f : FlowId) (p : ℕ) → is_there flows f ≡ false → place world_setup f p h ≡ []) → (f : FlowId) → FlowFits l f h
flows_fit {l} flows sound h are empty f = by_found (flow_in flows f) refl (are f)
  where
    by_found : (o : Option Flow) → flow_in flows f ≡ o → IfSome o (FlowIs l f h) → FlowFits l f h
    by_found None e is = empty_fits f h (λ p. empty f p (ap is_some e))
    by_found (Some flow) e is =
        flow_fits l f h flow is (subst (λ (o : Option Flow). IfSome o IsBounded) e ((all_bounded flows sound).each f)) (λ i x at. place_sound flow.chain.places i x (flow_is flows.exchanges f flow sound.exchanges e).sound.chain.each at)

-- ---- steps that bring a flow nothing
pub framed_fits : {l : LimitKeys} → (c : ℕ) (f : FlowId) (n : ℕ) (last : Bool) (h : WayHistory) (g : FlowId) → FlowFits l g h → FlowFits l g (Noted (note.Frame c f n last) ∷ h)
framed_fits c f n last h g fit = less_fits g h (Noted (note.Frame c f n last) ∷ h) (λ p. dropped (if same_flow f g && (p == last_place world_setup g h) then n else 0) (place world_setup g p h)) refl fit
  where
    dropped : (k : ℕ) (xs : List ℕ) → length (drop k xs) ≤ length xs
    dropped k xs = omega (arith, length-drop k xs)

pub doomed_fits : {l : LimitKeys} → (x : ℕ) (why : Cause) (h : WayHistory) (g : FlowId) → FlowFits l g h → FlowFits l g (Noted (note.Doom x why) ∷ h)
doomed_fits x why h g fit = less_fits g h (Noted (note.Doom x why) ∷ h) (λ p. emptied (g.exchange == x) (place world_setup g p h)) refl fit
  where
    emptied : (b : Bool) (xs : List ℕ) → length (if b then [] else xs) ≤ length xs
    emptied true xs = omega arith
    emptied false xs = omega arith

-- ---- write buffers
pub outs_fit : (l : LimitKeys) (old new : PagedMap Conn) (h k : WayHistory) → ((c : ℕ) → octets_of c old ≡ out world_setup c h) → ((c : ℕ) → octets_of c new ≡ out world_setup c k)
    → ((c : ℕ) → OutFits l (octets_of c old) → OutFits l (octets_of c new)) → ((c : ℕ) → OutFits l (out world_setup c h)) → (c : ℕ) → OutFits l (out world_setup c k)
outs_fit l old new h k was now room fit c = subst (OutFits l) (now c) (room c (subst (OutFits l) (sym (was c)) (fit c)))

pub less_out : (l : LimitKeys) (xs ys : List ℕ) → length ys ≤ length xs → OutFits l xs → OutFits l ys
less_out l xs ys less fit = λ some. within _ _ _ less (fit some)

-- ---- at each moment
pub fits_now : {l : LimitKeys} → (h : WayHistory) → AtEachMoment (Fits l) h → Fits l h
fits_now [] a = a
fits_now (step ∷ h) a = a.0
