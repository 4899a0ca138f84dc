-- What a flow received is what it sent on, then what lies in its places, and so what it sent on is a front of it.
use Rattle.flow_gate.proofs.SameIds.{same_flow_exact}
use Rattle.flow_rules.specs.declared.ids.FlowId.{FlowId}
use Rattle.flow_laws.proofs.Losing.{front_more, front_on}
use Rattle.flow_laws.proofs.Octets.{arrived_lying, framed_lying, moved_lying, none_lying}
use Rattle.flow_laws.specs.Octets.{LosesNothing, lying}
use Rattle.flow_notes.specs.declared.notes.Note.TheVariants as note
use Rattle.std.proofs.Common.{ap, append_assoc, arith, refl, subst, sym, ◌∙◌}
use Rattle.std.proofs.lemmas.List.{append-nil}
use Rattle.std.specs.Prelude.{Bool, List, [], false, if◌then◌else◌, length, not, suc, take, true, zero, ℕ, ◌&&◌, ◌++◌, ◌+◌, ◌<◌, ◌==◌, ◌∷◌, ◌≡◌}
use Rattle.tape_laws.specs.Flows.{same_flow}
use Rattle.tape_laws.specs.Headline.{SendsItsBody}
use Rattle.tape_laws.specs.History.{Noted}
use Rattle.tape_laws.specs.Tied.{IsFront}
use Rattle.tape_laws.specs.Units.{StageKind}
use Rattle.tape_laws.specs.World.{last_place, place, received, send, sent}
use Rattle.wire_flows.proofs.Cases.{by_case}
use Rattle.wire_flows.specs.Flows.{Flows, is_there}
use Rattle.wire_state.proofs.Held.{number_same}
use Rattle.wire_state.specs.Ways.{WayHistory, WayStep, stages_passed, world_setup}
use Rattle.wire_state.specs.Worlds.{IsUnborn, SendsOn}

pub same_flow_refl : (f : FlowId) → same_flow f f ≡ true
same_flow_refl f = at (f.exchange == f.exchange) f.back (number_same f.exchange)
  where
    at : (b back : Bool) → b ≡ true → (b && (if back then back else not back)) ≡ true
    at true true e = refl
    at true false e = refl
    at false back e = cc

-- ---- nothing of a flow moves
lying_still : (f : FlowId) (h k : WayHistory) → ((p : ℕ) → place world_setup f p k ≡ place world_setup f p h) → (p : ℕ) → lying world_setup f p k ≡ lying world_setup f p h
lying_still f h k e zero = e 0
lying_still f h k e (suc p) = ap (λ xs. xs ++ lying world_setup f p k) (e (suc p)) ∙ ap (λ xs. place world_setup f (suc p) h ++ xs) (lying_still f h k e p)

-- from one history to the other it received and sent nothing, and its places are as they were
pub record IsStill (f : FlowId) (h k : WayHistory) : Type 0 where
  pub places : (p : ℕ) → place world_setup f p k ≡ place world_setup f p h
  pub stages : stages_passed f k ≡ stages_passed f h
  pub came : received f k ≡ received f h
  pub went : sent world_setup f k ≡ sent world_setup f h

pub still_loses : (f : FlowId) (h k : WayHistory) → IsStill f h k → LosesNothing world_setup f h → LosesNothing world_setup f k
still_loses f h k s l =
    let lies = ap (λ (ss : List StageKind). lying world_setup f (length ss + 1) k) s.stages ∙ lying_still f h k s.places (last_place world_setup f h) in
    s.came ∙ (l ∙ (ap (λ xs. xs ++ lying world_setup f (last_place world_setup f h) h) (sym s.went) ∙ ap (λ xs. sent world_setup f k ++ xs) (sym lies)))

-- ---- a flow that begins
pub begun_loses : (f : FlowId) (k : WayHistory) → received f k ≡ [] → sent world_setup f k ≡ [] → ((p : ℕ) → place world_setup f p k ≡ []) → LosesNothing world_setup f k
begun_loses f k came went empty =
    came ∙ (sym (none_lying world_setup f k empty (last_place world_setup f k)) ∙ ap (λ xs. xs ++ lying world_setup f (last_place world_setup f k) k) (sym went))

module _ (f : FlowId) (h : WayHistory) (l : LosesNothing world_setup f h) where
  abbrev lies : List ℕ
  lies = lying world_setup f (last_place world_setup f h) h

  -- ---- octets arrive
  pub arrived_loses : (octets : List ℕ) → LosesNothing world_setup f (Noted (note.Arrive f octets) ∷ h)
  arrived_loses octets =
      ap (λ b. received f h ++ (if b then octets else [])) (same_flow_refl f)
      ∙ (ap (λ xs. xs ++ octets) l
      ∙ (append_assoc (sent world_setup f h) lies octets
      ∙ ap (λ xs. sent world_setup f h ++ xs) (sym (arrived_lying world_setup f octets h (last_place world_setup f h)))))

  -- ---- octets go on to the next place
  pub moved_loses : (q n : ℕ) → q < last_place world_setup f h → LosesNothing world_setup f (Noted (note.Move f q n) ∷ h)
  moved_loses q n before = l ∙ ap (λ xs. sent world_setup f h ++ xs) (sym (moved_lying world_setup f q n h (last_place world_setup f h) before))

  -- ---- octets are framed
  module _ (c n : ℕ) (last : Bool) where
    abbrev frame : WayStep
    frame = Noted (note.Frame c f n last)

    abbrev lie_then : List ℕ
    lie_then = lying world_setup f (last_place world_setup f h) (frame ∷ h)

    taken : take n (send world_setup f h) ++ lie_then ≡ lies
    taken = subst (λ v. take n (send world_setup f h) ++ lying world_setup f v (frame ∷ h) ≡ lying world_setup f v h) (one_more (length (stages_passed f h)))
        (framed_lying world_setup f c n last h (length (stages_passed f h)) (one_more (length (stages_passed f h))))
      where
        one_more : (k : ℕ) → suc k ≡ k + 1
        one_more k = omega arith

    pub framed_loses : LosesNothing world_setup f (frame ∷ h)
    framed_loses =
        l ∙ (ap (λ xs. sent world_setup f h ++ xs) (sym taken)
        ∙ (sym (append_assoc (sent world_setup f h) (take n (send world_setup f h)) lie_then)
        ∙ ap (λ b. (sent world_setup f h ++ (if b then take n (send world_setup f h) else [])) ++ lie_then) (sym (same_flow_refl f))))

-- ---- at each moment
fronts_now : (h : WayHistory) → SendsOn h → SendsItsBody world_setup h
fronts_now [] a = a
fronts_now (step ∷ h) a = a.0

front_still : (f : FlowId) (h k : WayHistory) → received f k ≡ received f h → sent world_setup f k ≡ sent world_setup f h → IsFront (sent world_setup f h) (received f h) → IsFront (sent world_setup f k) (received f k)
front_still f h k came went r = subst (λ (xs : List ℕ). IsFront xs (received f k)) (sym went) (subst (λ (xs : List ℕ). IsFront (sent world_setup f h) xs) (sym came) r)

-- a step by which none receives or sends
pub fronts_still : (step : WayStep) (h : WayHistory) → ((f : FlowId) → received f (step ∷ h) ≡ received f h) → ((f : FlowId) → sent world_setup f (step ∷ h) ≡ sent world_setup f h) → SendsOn h → SendsOn (step ∷ h)
fronts_still step h came went a = ((λ f. front_still f h (step ∷ h) (came f) (went f) (fronts_now h a f)), a)

pub arrived_fronts : (f : FlowId) (octets : List ℕ) (h : WayHistory) → SendsOn h → SendsOn (Noted (note.Arrive f octets) ∷ h)
arrived_fronts f octets h a = ((λ g. front_on (sent world_setup g h) (received g h) (received g h ++ (if same_flow f g then octets else [])) (fronts_now h a g) (front_more (received g h) (if same_flow f g then octets else []))), a)

module _ (c : ℕ) (f : FlowId) (n : ℕ) (last : Bool) (h : WayHistory) where
  abbrev then_ : WayHistory
  then_ = Noted (note.Frame c f n last) ∷ h

  own_front : LosesNothing world_setup f then_ → IsFront (sent world_setup f then_) (received f then_)
  own_front l = subst (λ (xs : List ℕ). IsFront (sent world_setup f then_) xs) (sym l) (front_more (sent world_setup f then_) (lying world_setup f (last_place world_setup f then_) then_))

  pub framed_sent : (g : FlowId) → same_flow f g ≡ false → sent world_setup g then_ ≡ sent world_setup g h
  framed_sent g other = ap (λ b. sent world_setup g h ++ (if b then take n (send world_setup g h) else [])) other ∙ append-nil (sent world_setup g h)

  pub framed_fronts : LosesNothing world_setup f then_ → SendsOn h → SendsOn then_
  framed_fronts l a = (
    (λ g. by_case (same_flow f g)
        (λ same. subst (λ (v : FlowId). IsFront (sent world_setup v then_) (received v then_)) (same_flow_exact f g same) (own_front l))
        (λ other. front_still g h then_ refl (framed_sent g other) (fronts_now h a g))),
    a,
  )

-- ---- exchanges whose numbers weren't given
-- no number is given, none of their flows comes, and none of them received or sent anything
pub unborn_still : (old new : Flows) (h k : WayHistory) → new.exchanges.last ≡ old.exchanges.last → ((f : FlowId) → is_there old f ≡ false → is_there new f ≡ false)
    → ((f : FlowId) → is_there old f ≡ false → (received f k ≡ received f h) × (sent world_setup f k ≡ sent world_setup f h))
    → ((f : FlowId) → old.exchanges.last < f.exchange → IsUnborn f old h) → (f : FlowId) → new.exchanges.last < f.exchange → IsUnborn f new k
unborn_still old new h k last there still unborn f above =
    let u = unborn f (subst (λ (v : ℕ). v < f.exchange) last above) in
    let same = still f u.there in
    record { there = there f u.there; unread = same.0 ∙ u.unread; unsent = same.1 ∙ u.unsent }
