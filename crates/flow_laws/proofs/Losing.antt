-- Nothing is lost while a flow lives, and what it sent is a front of what it received ever after.
use Rattle.flow_rules.specs.declared.ids.FlowId.{FlowId}
use Rattle.flow_laws.proofs.Induction.{by_life}
use Rattle.flow_laws.proofs.Lists.{by_case, flow_is, flow_same, not_both}
use Rattle.flow_laws.proofs.Lives.{each_of}
use Rattle.flow_laws.proofs.Moves.{move_is}
use Rattle.flow_laws.proofs.Octets.{arrived_lying, framed_lying, moved_lying, none_lying, same_lying}
use Rattle.flow_laws.proofs.Spared.{IsUnborn, spares, unborn}
use Rattle.flow_laws.specs.Octets.{GoesOn, LosesNothing, ReadsBody, lying}
use Rattle.flow_laws.specs.Ways.{HasWays, starts}
use Rattle.std.proofs.Common.{ap, append_assoc, arith, refl, subst, sym, ◌∙◌}
use Rattle.std.proofs.Math.Seq.{take-append_seam}
use Rattle.std.proofs.lemmas.List.{append-nil, take-append-drop}
use Rattle.std.specs.Prelude.{Bool, List, [], drop, false, if◌then◌else◌, length, not, suc, take, true, ℕ, ◌++◌, ◌+◌, ◌<◌, ◌==◌, ◌∷◌, ◌≡◌}
use Rattle.tape_laws.specs.Dispatches.{has, started}
use Rattle.tape_laws.specs.Doomed.{LeavesDoomed}
use Rattle.tape_laws.specs.Flows.{same_flow}
use Rattle.tape_laws.specs.Headline.{SendsItsBody}
use Rattle.tape_laws.specs.History.{AtEachMoment, EachFollows, History, Noted, Step}
use Rattle.tape_laws.specs.Release.{MayStand}
use Rattle.tape_laws.specs.Setup.{Setup}
use Rattle.tape_laws.specs.Sources.{EachLive, is_live, live_flows}
use Rattle.tape_laws.specs.Tied.{IsFront, IsTied}
use Rattle.tape_laws.specs.Units.{StageKind}
use Rattle.tape_laws.specs.World.{last_place, place, received, sent}
use Rattle.flow_notes.specs.declared.notes.Note.TheVariants as note

module _ {Mark : Type 0} (setup : Setup Mark) (f : FlowId) where
  -- the same with the last place given
  abbrev LosesTo : ℕ → History Mark → Type 0
  LosesTo k h = received f h ≡ sent setup f h ++ lying setup f k h

  abbrev May : Step Mark → History Mark → Type 0
  May step h = MayStand setup step h

  loses_same : (k : ℕ) (step : Step Mark) (h : History Mark) → received f (step ∷ h) ≡ received f h → sent setup f (step ∷ h) ≡ sent setup f h
      → lying setup f k (step ∷ h) ≡ lying setup f k h → LosesTo k h → LosesTo k (step ∷ h)
  loses_same k step h er es el l = er ∙ (l ∙ (ap (λ xs. xs ++ lying setup f k h) (sym es) ∙ ap (λ xs. sent setup f (step ∷ h) ++ xs) (sym el)))

  loses_arrive : (g : FlowId) (octets : List ℕ) (k : ℕ) (h : History Mark) → LosesTo k h → LosesTo k (Noted (note.Arrive g octets) ∷ h)
  loses_arrive g octets k h l = by_case (same_flow g f) (λ t. subst (λ v. LosesTo k (Noted (note.Arrive v octets) ∷ h)) (sym (flow_is g f t)) own)
      (λ d. loses_same k (Noted (note.Arrive g octets)) h (rw d (append-nil (received f h))) refl (same_lying setup f (Noted (note.Arrive g octets)) h (λ p. rw d (append-nil (place setup f p h))) k) l)
    where
      own : LosesTo k (Noted (note.Arrive f octets) ∷ h)
      own =
          ap (λ b. received f h ++ (if b then octets else [])) (flow_same f)
          ∙ (ap (λ xs. xs ++ octets) l ∙ (append_assoc (sent setup f h) (lying setup f k h) octets ∙ ap (λ xs. sent setup f h ++ xs) (sym (arrived_lying setup f octets h k))))

  loses_move : (g : FlowId) (q n k : ℕ) (h : History Mark) → (same_flow g f ≡ true → q < k) → LosesTo k h → LosesTo k (Noted (note.Move g q n) ∷ h)
  loses_move g q n k h lt l = by_case (same_flow g f) (λ t. subst (λ v. LosesTo k (Noted (note.Move v q n) ∷ h)) (sym (flow_is g f t)) (own (lt t)))
      (λ d. loses_same k (Noted (note.Move g q n)) h refl refl (same_lying setup f (Noted (note.Move g q n)) h (λ p. rw d refl) k) l)
    where
      own : q < k → LosesTo k (Noted (note.Move f q n) ∷ h)
      own lt = loses_same k (Noted (note.Move f q n)) h refl refl (moved_lying setup f q n h k lt) l

  loses_frame : (c : ℕ) (g : FlowId) (n : ℕ) (last : Bool) (k : ℕ) (h : History Mark) → suc k ≡ last_place setup f h → LosesTo (suc k) h → LosesTo (suc k) (Noted (note.Frame c g n last) ∷ h)
  loses_frame c g n last k h e l = by_case (same_flow g f) (λ t. subst (λ v. LosesTo (suc k) (Noted (note.Frame c v n last) ∷ h)) (sym (flow_is g f t)) own)
      (λ d. loses_same (suc k) (Noted (note.Frame c g n last)) h refl (rw d (append-nil (sent setup f h))) (same_lying setup f (Noted (note.Frame c g n last)) h (λ p. rw d refl) (suc k)) l)
    where
      own : LosesTo (suc k) (Noted (note.Frame c f n last) ∷ h)
      own =
          l ∙ (ap (λ xs. sent setup f h ++ xs) (sym (framed_lying setup f c n last h k e))
          ∙ (sym (append_assoc (sent setup f h) (take n (place setup f (last_place setup f h) h)) (lying setup f (suc k) (Noted (note.Frame c f n last) ∷ h)))
          ∙ ap (λ b. (sent setup f h ++ (if b then take n (place setup f (last_place setup f h) h) else [])) ++ lying setup f (suc k) (Noted (note.Frame c f n last) ∷ h)) (sym (flow_same f))))

  loses_step : (step : Step Mark) (k : ℕ) (h : History Mark) → suc k ≡ last_place setup f h → spares f step ≡ true → May step h → LosesTo (suc k) h → LosesTo (suc k) (step ∷ h)
  loses_step (Noted (note.Arrive g octets)) k h e s m l = loses_arrive g octets (suc k) h l
  loses_step (Noted (note.Move g q n)) k h e s m l =
      loses_move g q n (suc k) h (λ t. subst (λ v. q < v) (sym e) (subst (λ v. q < last_place setup v h) (flow_is g f t) (move_is setup g q n h m).before)) l
  loses_step (Noted (note.Frame c g n last)) k h e s m l = loses_frame c g n last k h e l
  loses_step (Noted (note.Doom x why)) k h e s m l =
      loses_same (suc k) (Noted (note.Doom x why)) h refl refl (same_lying setup f (Noted (note.Doom x why)) h (λ p. kept (f.exchange == x) (place setup f p h) s) (suc k)) l
    where
      kept : (b : Bool) (xs : List ℕ) → not b ≡ true → (if b then [] else xs) ≡ xs
      kept true xs i = cc
      kept false xs i = refl
  loses_step step k1 h e1 s1 m1 l = loses_same (suc k1) step h refl refl (same_lying setup f step h (λ p. refl) (suc k1)) l

  next_is : (k : ℕ) → suc k ≡ k + 1
  next_is k = omega arith

  -- the last place is the one behind the stages
  last_is : (h : History Mark) → suc (length (setup.stages f h)) ≡ last_place setup f h
  last_is h = next_is (length (setup.stages f h))

module _ {Mark : Type 0} (setup : Setup Mark) (ways : HasWays setup) (f : FlowId) where
  own_empty : (step : Step Mark) (k : History Mark) → starts f step ≡ true → IsUnborn setup f k
      → (received f (step ∷ k) ≡ []) × (sent setup f (step ∷ k) ≡ []) × ((p : ℕ) → place setup f p (step ∷ k) ≡ [])
  own_empty (Noted (note.Start x c s d)) k t u = (u.unread, u.unsent, u.empty)
  own_empty step k' t u = cc

  pub loses_own : (step : Step Mark) (k : History Mark) → starts f step ≡ true → IsUnborn setup f k → LosesNothing setup f (step ∷ k)
  loses_own step k t u =
      let e = own_empty step k t u in
      e.0 ∙ (sym (none_lying setup f (step ∷ k) e.2 (last_place setup f (step ∷ k))) ∙ ap (λ xs. xs ++ lying setup f (last_place setup f (step ∷ k)) (step ∷ k)) (sym e.1))

  pub loses_kept : (step : Step Mark) (k : History Mark) → starts f step ≡ false → spares f step ≡ true → is_live setup f k ≡ true → MayStand setup step k → LosesNothing setup f k → LosesNothing setup f (step ∷ k)
  loses_kept step k o s alive may r =
      subst (λ (ss : List StageKind). LosesTo setup f (length ss + 1) (step ∷ k)) (sym (ways.stages f step k o))
      (subst (λ v. LosesTo setup f v (step ∷ k)) (last_is setup f k)
      (loses_step setup f step (length (setup.stages f k)) k (last_is setup f k) s may (subst (λ v. LosesTo setup f v k) (sym (last_is setup f k)) r)))

  pub loses_nothing : (h : History Mark) → EachFollows (MayStand setup) h → EachFollows LeavesDoomed h → is_live setup f h ≡ true → LosesNothing setup f h
  loses_nothing h m l a = by_life setup ways f (LosesNothing setup f) (MayStand setup) loses_own loses_kept h l m a

-- ---- fronts
pub front_more : (xs ys : List ℕ) → IsFront xs (xs ++ ys)
front_more xs ys = take-append_seam xs ys

pub front_rest : (xs ys : List ℕ) → IsFront xs ys → ys ≡ xs ++ drop (length xs) ys
front_rest xs ys e = sym (take-append-drop (length xs) ys) ∙ ap (λ v. v ++ drop (length xs) ys) e

pub front_on : (xs ys zs : List ℕ) → IsFront xs ys → IsFront ys zs → IsFront xs zs
front_on xs ys zs e i =
    subst (λ v. IsFront xs v) (sym (front_rest ys zs i ∙ (ap (λ v. v ++ drop (length ys) zs) (front_rest xs ys e) ∙ append_assoc xs (drop (length xs) ys) (drop (length ys) zs))))
    (front_more xs (drop (length xs) ys ++ drop (length ys) zs))

pub front_same : (xs : List ℕ) → IsFront xs xs
front_same xs = subst (λ v. IsFront xs v) (append-nil xs) (front_more xs [])

-- ---- also of flows that are doomed
module _ {Mark : Type 0} (setup : Setup Mark) (ways : HasWays setup) (f : FlowId) where
  abbrev IsSentFront : History Mark → Type 0
  IsSentFront h = IsFront (sent setup f h) (received f h)

  front_step : (step : Step Mark) (h : History Mark) → EachFollows (MayStand setup) (step ∷ h) → EachFollows LeavesDoomed (step ∷ h) → IsSentFront h → IsSentFront (step ∷ h)
  front_step (Noted (note.Arrive g octets)) h m l r = front_on (sent setup f h) (received f h) (received f h ++ (if same_flow g f then octets else [])) r (front_more (received f h) (if same_flow g f then octets else []))
  front_step (Noted (note.Frame c g n last)) h m l r =
      by_case (same_flow g f)
      (λ t. subst (λ v. IsFront (sent setup f (Noted (note.Frame c g n last) ∷ h)) v)
      (sym (loses_nothing setup ways f (Noted (note.Frame c g n last) ∷ h) m l (ap (λ v. is_live setup v h) (sym (flow_is g f t)) ∙ m.0.live)))
      (front_more (sent setup f (Noted (note.Frame c g n last) ∷ h)) (lying setup f (last_place setup f (Noted (note.Frame c g n last) ∷ h)) (Noted (note.Frame c g n last) ∷ h))))
      (λ d. subst (λ v. IsFront v (received f h)) (sym (rw d (append-nil (sent setup f h)))) r)
  front_step step h m1 l r = r

  pub sent_front : (h : History Mark) → EachFollows (MayStand setup) h → EachFollows LeavesDoomed h → IsSentFront h
  sent_front [] m l = refl
  sent_front (step ∷ h) m l = front_step step h m l (sent_front h m.1 l.1)

  -- ---- what was received is a front of the body
  abbrev IsRead : History Mark → Type 0
  IsRead h = IsFront (received f h) (setup.body f h)

  -- a flow that begins has received nothing
  begun_now : (step : Step Mark) (h : History Mark) → has (started h) f.exchange ≡ false → has (started (step ∷ h)) f.exchange ≡ true → received f h ≡ [] → received f (step ∷ h) ≡ []
  begun_now (Noted (note.Start x c s d)) h new now e = e
  begun_now step h new now e = not_both (has (started h) f.exchange) now new

  read_new : (step : Step Mark) (h : History Mark) → EachFollows LeavesDoomed (step ∷ h) → has (started h) f.exchange ≡ false → received f (step ∷ h) ≡ []
  read_new step h l new =
      by_case (has (started (step ∷ h)) f.exchange) (λ t. begun_now step h new t (unborn setup f h l.1 new).unread) (λ d. (unborn setup f (step ∷ h) l d).unread)

  read_step : (step : Step Mark) (h : History Mark) → ReadsBody setup step h → IsFront (setup.body f h) (setup.body f (step ∷ h)) → IsRead h → IsRead (step ∷ h)
  read_step (Noted (note.Arrive g octets)) h b g' r =
      by_case (same_flow g f)
      (λ t. front_on (received f (Noted (note.Arrive g octets) ∷ h)) (setup.body f h) (setup.body f (Noted (note.Arrive g octets) ∷ h))
      (subst (λ v. IsFront v (setup.body f h)) (sym (ap (λ b. received f h ++ (if b then octets else [])) t)) (subst (λ v. IsFront (received v h ++ octets) (setup.body v h)) (flow_is g f t) b)) g')
      (λ d. subst (λ v. IsFront v (setup.body f (Noted (note.Arrive g octets) ∷ h))) (sym (rw d (append-nil (received f h))))
      (front_on (received f h) (setup.body f h) (setup.body f (Noted (note.Arrive g octets) ∷ h)) r g'))
  read_step step h b1 g1 r = front_on (received f h) (setup.body f h) (setup.body f (step ∷ h)) r g1

  pub body_read : (h : History Mark) → EachFollows LeavesDoomed h → EachFollows (ReadsBody setup) h → EachFollows (GoesOn setup) h → IsRead h
  body_read [] l b g = refl
  body_read (step ∷ h) l b g =
      by_case (has (started h) f.exchange)
      (λ t. read_step step h b.0 (g.0 f t) (body_read h l.1 b.1 g.1))
      (λ d. subst (λ v. IsFront v (setup.body f (step ∷ h))) (sym (read_new step h l d)) refl)

module _ {Mark : Type 0} (setup : Setup Mark) (ways : HasWays setup) where
  pub tied : (h : History Mark) → EachFollows LeavesDoomed h → EachFollows (ReadsBody setup) h → EachFollows (GoesOn setup) h → IsTied setup h
  tied h l b g = each_of (λ f. IsFront (received f h) (setup.body f h)) (live_flows setup h) (λ f a. body_read setup ways f h l b g)

  sends : (h : History Mark) → EachFollows (MayStand setup) h → EachFollows LeavesDoomed h → EachFollows (ReadsBody setup) h → EachFollows (GoesOn setup) h → SendsItsBody setup h
  sends h m l b g f = front_on (sent setup f h) (received f h) (setup.body f h) (sent_front setup ways f h m l) (body_read setup ways f h l b g)

  pub bodies_are_sent : (h : History Mark) → EachFollows (MayStand setup) h → EachFollows LeavesDoomed h → EachFollows (ReadsBody setup) h → EachFollows (GoesOn setup) h
      → AtEachMoment (IsTied setup) h × AtEachMoment (SendsItsBody setup) h
  bodies_are_sent [] m l b g = (tied [] l b g, sends [] m l b g)
  bodies_are_sent (step ∷ h) m l b g =
      let r = bodies_are_sent h m.1 l.1 b.1 g.1 in ((tied (step ∷ h) l b g, r.0), (sends (step ∷ h) m l b g, r.1))

pub each_loses_nothing : {Mark : Type 0} (setup : Setup Mark) → HasWays setup → (h : History Mark) → EachFollows (MayStand setup) h → EachFollows LeavesDoomed h → EachLive setup (λ f. LosesNothing setup f h) h
each_loses_nothing setup ways h m l = each_of (λ f. LosesNothing setup f h) (live_flows setup h) (λ f a. loses_nothing setup ways f h m l a)
