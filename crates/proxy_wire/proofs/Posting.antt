-- Who posts to which box.
use Rattle.io_ports.specs.declared.ports.Failed.{Failed}
use Rattle.overload_core.specs.ActionStates.{actions_at, is_saturated}
use Rattle.overload_core.specs.declared.actions.Actions.{Actions}
use Rattle.post_queue.specs.Clauses.{IsPosterOf}
use Rattle.post_queue.specs.declared.passes.PosterPass.{PosterPass}
use Rattle.post_queue.specs.declared.post_box.PostBox.{PostBox}
use Rattle.proxy_config.specs.declared.config.Config.{Config}
use Rattle.proxy_wire.proofs.Pooling.{each_more}
use Rattle.proxy_wire.specs.Pools.{EachTwo}
use Rattle.proxy_wire.specs.Leading.{Accepts, ArePosters, Leads, Looks}
use Rattle.proxy_wire.specs.declared.leading.Leader.{Leader}
use Rattle.shared_state.specs.Entries.{padded}
use Rattle.shared_state.specs.States.{IsSame, published, resources_of}
use Rattle.shared_state.specs.declared.publisher.Publisher.{Publisher}
use Rattle.std.proofs.Common.{ap, arith, inl, inr, refl, set, subst, sym, ◌∙◌}
use Rattle.std.proofs.lemmas.Bool.{cases_order}
use Rattle.std.proofs.lemmas.Grind.{get_or-set_at}
use Rattle.std.proofs.lemmas.List.{get_or_default, get_or-set_other, length-replicate, length-set}
use Rattle.worker_parts.specs.Samples.{AreSampled, replaced}
use Rattle.worker_ports.specs.declared.ports.Reading.{Reading}
use Rattle.std.specs.Prelude.{Bool, Err, List, Ok, Option, Result, [], length, not, replicate, slice_index_or, suc, ℕ, ◌++◌, ◌<◌, ◌∷◌, ◌≡◌, ◌≢◌, ◌≤◌, ◌⊎◌}

-- nobody posts yet
pub leads_none : (boxes : List PostBox) (leader : Leader) (publisher : Publisher) (pressures : List ℕ) (n : ℕ) → boxes ≡ [] → leader.posters.items ≡ [] → leader.publisher ≡ publisher → leader.pressures ≡ pressures → pressures ≡ replicate n 0 → resources_of publisher ≡ n → n ≤ 16 → Leads boxes leader
leads_none boxes leader publisher pressures n eb ep el epr er res few =
    let l : length leader.pressures ≡ n = ap (λ (v : List ℕ). length v) (epr ∙ er) ∙ length-replicate n 0 in
    record {
      publishes = record { pressures = l ∙ sym (ap resources_of el ∙ res); few = omega (arith, l, few) };
      posters = record {
        same = ap (λ (v : List PosterPass). length v) ep ∙ sym (ap (λ (v : List PostBox). length v) eb);
        each = λ i b p less. absurd (let z = ap (λ (v : List PostBox). length v) eb in omega (arith, less, z));
      };
    }

-- one has posted
pub posters_set : (boxes : List PostBox) (posters : List PosterPass) (i : ℕ) (box : PostBox) (p : PosterPass) → i < length boxes → box ≡ slice_index_or boxes i box → IsPosterOf box p → ArePosters boxes posters → ArePosters boxes (set posters i p)
posters_set boxes posters i box p there at is a = record { same = length-set posters i p ∙ a.same; each = λ j b q less. by j b q less (cases_order j i) }
  where
    at_it : (j : ℕ) (b : PostBox) (q : PosterPass) → j < length boxes → j ≡ i → IsPosterOf (slice_index_or boxes j b) (slice_index_or (set posters i p) j q)
    at_it j b q less e =
        let s = a.same in
        let put : slice_index_or (set posters i p) j q ≡ p = get_or-set_at posters i j p q e (omega (arith, there, s)) in
        let same : box ≡ slice_index_or boxes j b = at ∙ get_or_default boxes i box b there ∙ ap (λ (k : ℕ). slice_index_or boxes k b) (sym e) in
        subst (λ (v : PosterPass). IsPosterOf (slice_index_or boxes j b) v) (sym put) (subst (λ (v : PostBox). IsPosterOf v p) same is)

    elsewhere : (j : ℕ) (b : PostBox) (q : PosterPass) → j < length boxes → j ≢ i → IsPosterOf (slice_index_or boxes j b) (slice_index_or (set posters i p) j q)
    elsewhere j b q less other = subst (λ (v : PosterPass). IsPosterOf (slice_index_or boxes j b) v) (sym (get_or-set_other posters i j p q other)) (a.each j b q less)

    by : (j : ℕ) (b : PostBox) (q : PosterPass) → j < length boxes → (j ≡ i) ⊎ ((j < i) ⊎ (i < j)) → IsPosterOf (slice_index_or boxes j b) (slice_index_or (set posters i p) j q)
    by j b q less (inl e) = at_it j b q less e
    by j b q less (inr (inl below)) = elsewhere j b q less (λ e. omega (arith, below, e))
    by j b q less (inr (inr above)) = elsewhere j b q less (λ e. omega (arith, above, e))

-- ---- the gauges were read, and a version was published
sampled_length : (answers : List (Result ℕ Failed)) (old : List ℕ) → length answers ≡ length old → length (replaced answers old) ≡ length old
sampled_length [] old e = refl
sampled_length (r ∷ rs) [] e = absurd (omega (arith, e))
sampled_length (Err f ∷ rs) (p ∷ ps) e = ap (λ (n : ℕ). suc n) (sampled_length rs ps (omega (arith, e)))
sampled_length (Ok r ∷ rs) (p ∷ ps) e = ap (λ (n : ℕ). suc n) (sampled_length rs ps (omega (arith, e)))

pub sampled_same : {told told' : Option (List Reading)} (old new : List ℕ) (failed : ℕ) → AreSampled told told' old new failed → length new ≡ length old
sampled_same old new failed s = ap (λ (v : List ℕ). length v) s.replaces ∙ sampled_length s.answers old s.each

same_resources : (p q : Publisher) → IsSame p q → resources_of q ≡ resources_of p
same_resources p q same = let e = same.0 in cc

pub looked : {told told' : Option (List Reading)} (boxes : List PostBox) (old new : Leader) (failed : ℕ) → Leads boxes old → AreSampled told told' old.pressures new.pressures failed → IsSame old.publisher new.publisher → ArePosters boxes new.posters.items → Leads boxes new
looked boxes old new failed leads sampled same posters =
    let l : length new.pressures ≡ length old.pressures = sampled_same old.pressures new.pressures failed sampled in
    let few = leads.publishes.few in
    record {
      publishes = record { pressures = l ∙ leads.publishes.pressures ∙ sym (same_resources old.publisher new.publisher same); few = omega (arith, l, few) };
      posters = posters;
    }

pub looked_on : {told told' : Option (List Reading)} (boxes : List PostBox) (old new : Leader) (publisher : Publisher) (pressures : List ℕ) (failed : ℕ) → Leads boxes old → AreSampled told told' old.pressures pressures failed → IsSame old.publisher publisher → new.publisher ≡ publisher → new.pressures ≡ pressures → ArePosters boxes new.posters.items → Leads boxes new
looked_on {told} {told'} boxes old new publisher pressures failed leads sampled same is pressed posters =
    looked boxes old new failed leads (subst (λ (v : List ℕ). AreSampled told told' old.pressures v failed) (sym pressed) sampled) (subst (λ (v : Publisher). IsSame old.publisher v) (sym is) same) posters

-- ---- by the states that follow from what is published
pub accepts_so : (config : Config) (pressures pressures' : List ℕ) (states : Actions) (full : Bool) → full ≡ is_saturated states.stop_accepting → states ≡ actions_at config.overload.triggers pressures → pressures ≡ pressures' → not full ≡ not (is_saturated (actions_at config.overload.triggers pressures').stop_accepting)
accepts_so config pressures pressures' states full saturated made same =
    let whole : states ≡ actions_at config.overload.triggers pressures' = made ∙ ap (λ (v : List ℕ). actions_at config.overload.triggers v) same in
    ap not (saturated ∙ ap (λ (s : Actions). is_saturated s.stop_accepting) whole)

pub looks_on : (config : Config) (old new : Leader) (publisher : Publisher) (pressures : List ℕ) → published publisher ≡ published old.publisher ++ padded pressures ∷ [] → new.publisher ≡ publisher → new.pressures ≡ pressures → Accepts config new → Looks config old new
looks_on config old new publisher pressures list is pressed accepts = inr (ap published is ∙ list ∙ ap (λ (v : List ℕ). published old.publisher ++ padded v ∷ []) (sym pressed), accepts)

pub looks_kept : (config : Config) (old new : Leader) → published new.publisher ≡ published old.publisher → new.accepts ≡ old.accepts → Looks config old new
looks_kept config old new list accepts = inl (list, accepts)
