-- What a move makes of a flow.
use Rattle.exchange_core.proofs.FlowSound.{held_at}
use Rattle.exchange_core.specs.Effects.{moved}
use Rattle.exchange_core.specs.Flow.{Flow, held_by, last_place, octets_in}
use Rattle.exchange_core.specs.Message.{head_came}
use Rattle.filter_chain.proofs.Changes.{changed_is, get-set_other}
use Rattle.filter_chain.specs.Chain.{EndsInSend, above_at, kinds, octets_in as octets_of, place_at}
use Rattle.filter_chain.specs.Effects.{changed_at, passed}
use Rattle.filter_chain.specs.Place.{IsPlace, Place, beyond, gaining, is_hold, is_source, kind_of, letting_go}
use Rattle.filter_chain.specs.Release.{is_overfilled_by, overfills}
use Rattle.filter_chain.specs.declared.stage.StageKind.{StageKind}
use Rattle.filter_chain.specs.declared.stage.StageKind.TheVariants as stage
use Rattle.flow_gate.proofs.SameIds.{same_buffer_exact}
use Rattle.flow_gate.specs.Board.{Board, is_marked}
use Rattle.flow_gate.specs.Ids.{same_buffer}
use Rattle.flow_rules.specs.declared.ids.BufferId.{BufferId}
use Rattle.flow_rules.specs.declared.ids.FlowId.{FlowId}
use Rattle.flow_rules.specs.Kinds.{Kind}
use Rattle.std.proofs.Common.{ap, arith, refl, subst, sym, ◌∙◌}
use Rattle.std.proofs.lemmas.Bool.Decides.{nat_tests}
use Rattle.std.proofs.lemmas.List.{length-append, length-drop, length-take}
use Rattle.std.proofs.lemmas.Option.{none-some, same_Some}
use Rattle.std.specs.List.{AllByRecursion}
use Rattle.std.specs.Option.{option_map_or}
use Rattle.std.specs.Prelude.{Bool, List, None, Option, Some, [], drop, false, if◌then◌else◌, length, map, min, nat_lt, set, slice_get, suc, take, true, zero, ℕ, ◌&&◌, ◌*◌, ◌+◌, ◌-◌, ◌<◌, ◌++◌, ◌∷◌, ◌≡◌, ◌≤◌}
use Rattle.wire_flows.proofs.Kept.{KeepsFlow, KeepsWay}
use Rattle.wire_flows.proofs.Marks.{Marked, kinds_same, marked_by, marking, set_marked}
use Rattle.wire_flows.proofs.Places.{all_get, all_set, gained_way, kinds_set, passed_is, passed_way}
use Rattle.wire_flows.specs.Measure.{flow_way, message_way, places_way}
use Rattle.wire_flows.specs.Sound.{IsBounded, IsWireFlow, IsWithin, MarksAre, buffer_of}

-- what is known of a move of n octets: they are there, at most a quantum, and the place behind them isn't above or is a Hold that takes them
pub record IsMoving (flow : Flow) (p n : ℕ) (next : Place) : Type 0 where
  pub some : 0 < n
  pub few : n ≤ length (octets_in flow p)
  pub most : n ≤ flow.chain.quantum
  pub at : slice_get flow.chain.places p ≡ Some next
  pub low : is_source next.kind ≡ true → next.above ≡ false
  pub fits : is_overfilled_by n next ≡ false
  pub sound : IsPlace next
  pub ends : EndsInSend (kinds flow.chain.places)

taken : (n : ℕ) (xs : List ℕ) → n ≤ length xs → length (take n xs) ≡ n
taken n xs few = omega (arith, length-take n xs, few)

-- ---- bounds
gained_within : (q n : ℕ) (octets : List ℕ) (place : Place) → length octets ≡ n → n ≤ q → (is_source place.kind ≡ true → place.above ≡ false) → is_overfilled_by n place ≡ false → IsPlace place → IsWithin q (gaining octets place)
gained_within q n octets place long most low fits sound some = by_kind place.kind refl
  where
    sum : length (place.octets ++ octets) ≡ length place.octets + n
    sum = length-append place.octets octets ∙ ap (λ k. length place.octets + k) long

    spread : is_source place.kind ≡ true → length (place.octets ++ octets) ≤ place.limit + q
    spread source = let within = sound.low (low source) some in omega (arith, sum, within, most)

    by_kind : (kind : StageKind) → place.kind ≡ kind → length (place.octets ++ octets) ≤ place.limit + beyond place.kind q
    by_kind stage.Hold e = subst (λ k. length (place.octets ++ octets) ≤ place.limit + beyond k q) (sym e) (kept (ap (λ k. is_hold k && nat_lt place.limit (length place.octets + n)) (sym e) ∙ fits))
      where
        kept : nat_lt place.limit (length place.octets + n) ≡ false → length (place.octets ++ octets) ≤ place.limit + 0
        kept t = let l : length place.octets + n ≤ place.limit = grind (arith, nat_tests) in omega (arith, sum, l)
    by_kind (stage.Meter rate) e = subst (λ k. length (place.octets ++ octets) ≤ place.limit + beyond k q) (sym e) (spread (ap is_source e))
    by_kind stage.Send e = subst (λ k. length (place.octets ++ octets) ≤ place.limit + beyond k q) (sym e) (spread (ap is_source e))

let_go_within : (q n : ℕ) (place : Place) → IsWithin q place → IsWithin q (letting_go n place)
let_go_within q n place is some = less (length place.octets) (length (drop n place.octets)) (place.limit + beyond place.kind q) (length-drop n place.octets) (is some)
  where
    less : (a b c : ℕ) → b ≡ a - n → a ≤ c → b ≤ c
    less a b c e h = omega (arith, e, h)

same_length : (xs : List Place) (i : ℕ) (y : Place) → length (set xs i y) ≡ length xs
same_length [] i y = refl
same_length (x ∷ xs) zero y = refl
same_length (x ∷ xs) (suc i) y = let rest = same_length xs i y in omega (arith, rest)

-- ---- out of the receive buffer
module _ (flow : Flow) (n : ℕ) (y : Place) (k : IsMoving flow zero n y) where
  abbrev pub gained : Place
  gained = gaining (take n flow.recv) y

  pub first_places : (moved zero n flow).chain.places ≡ set flow.chain.places zero gained
  first_places = changed_is (gaining (take n flow.recv)) flow.chain.places zero y k.at

  pub first_kept : (board board' : Board) → head_came flow.message ≡ true
      → ((j : ℕ) (place : Place) → slice_get (set flow.chain.places zero gained) j ≡ Some place → is_source place.kind ≡ true → is_marked board' (buffer_of flow.chain.flow (suc j) (kind_of place.kind)) ≡ marking (buffer_of flow.chain.flow 1 (kind_of y.kind)) gained.above (is_marked board) (buffer_of flow.chain.flow (suc j) (kind_of place.kind)))
      → KeepsFlow board board' flow (moved zero n flow)
  first_kept board board' came marks = record {
    way = record {
      own = refl;
      kinds = ap (λ ps. map {B = Kind} (λ place. kind_of place.kind) ps) first_places ∙ kinds_set flow.chain.places zero y gained k.at refl;
      last = ap length first_places ∙ same_length flow.chain.places zero gained;
    };
    wire = λ w. record {
      bounded = record {
        recv = less (length flow.recv) (length (drop n flow.recv)) flow.window (length-drop n flow.recv) w.bounded.recv;
        places = subst (AllByRecursion (IsWithin flow.chain.quantum)) (sym first_places) (all_set (IsWithin flow.chain.quantum) flow.chain.places zero gained w.bounded.places
            (gained_within flow.chain.quantum n (take n flow.recv) y (taken n flow.recv k.few) k.most k.low k.fits k.sound));
      };
      headed = λ some. came;
    };
    marks = λ m. record { each = each m };
  }
    where
      less : (a b c : ℕ) → b ≡ a - n → a ≤ c → b ≤ c
      less a b c e h = omega (arith, e, h)

      marked : MarksAre board flow → Marked (is_marked board') flow.chain.flow (set flow.chain.places zero gained)
      marked m = marked_by (marking (buffer_of flow.chain.flow 1 (kind_of y.kind)) gained.above (is_marked board)) (is_marked board') flow.chain.flow (set flow.chain.places zero gained)
          marks
          (set_marked (is_marked board) flow.chain.flow flow.chain.places zero y gained k.ends k.at refl (λ i place at source. m.each (suc i) place at source))

      each : MarksAre board flow → (p : ℕ) (place : Place) → place_at (moved zero n flow).chain.places p ≡ Some place → is_source place.kind ≡ true
          → is_marked board' (buffer_of flow.chain.flow p (kind_of place.kind)) ≡ place.above
      each m zero place at source = absurd (none-some place at)
      each m (suc i) place at source = marked m i place (ap (λ ps. slice_get ps i) (sym first_places) ∙ at) source

  pub first_way : flow_way (moved zero n flow) + 20 * n ≡ flow_way flow
  first_way = sums (length flow.chain.places) (length (moved zero n flow).chain.places) (length flow.recv) (length (drop n flow.recv)) (length (take n flow.recv)) (places_way flow.chain.places) (places_way (moved zero n flow).chain.places) (message_way flow.message)
      (ap length first_places ∙ same_length flow.chain.places zero gained) (length-drop n flow.recv) (taken n flow.recv k.few) k.few (gained_way flow.chain.places y (take n flow.recv) k.at)
    where
      sums : (l l' r d t p p' m : ℕ) → l' ≡ l → d ≡ r - n → t ≡ n → n ≤ r → p' + 20 * t ≡ p + (40 + 20 * l) * t → (((40 + 20 * l') * d + p') + m) + 20 * n ≡ ((40 + 20 * l) * r + p) + m
      sums l l' r d t p p' m el ed et few e =
          let whole : r ≡ d + n = omega (arith, ed, few) in
          let e' : p' + 20 * n ≡ p + (40 + 20 * l) * n = (λ i. p' + 20 * (sym et i)) ∙ (e ∙ (λ i. p + (40 + 20 * l) * (et i))) in
          (λ i. (((40 + 20 * (el i)) * d + p') + m) + 20 * n) ∙ (last l d p p' m e' ∙ (λ i. ((40 + 20 * l) * (sym whole i) + p) + m))
        where
          last : (l d p p' m : ℕ) → p' + 20 * n ≡ p + (40 + 20 * l) * n → (((40 + 20 * l) * d + p') + m) + 20 * n ≡ ((40 + 20 * l) * (d + n) + p) + m
          last l d p p' m e = omega (arith, e)

-- ---- out of a stage
module _ (flow : Flow) (i n : ℕ) (x y : Place) (at : slice_get flow.chain.places i ≡ Some x) (k : IsMoving flow (suc i) n y) where
  abbrev pub gone : Place
  gone = letting_go n x

  abbrev pub come : Place
  come = gaining (take n x.octets) y

  few_there : n ≤ length x.octets
  few_there = subst (λ (xs : List ℕ). n ≤ length xs) (ap (λ (o : Option Place). option_map_or (λ place. place.octets) o []) at) k.few

  abbrev mid : List Place
  mid = set flow.chain.places i gone

  next_there : slice_get mid (suc i) ≡ Some y
  next_there = get-set_other flow.chain.places i (suc i) gone (λ e. absurd (apart i e)) ∙ k.at
    where
      apart : (i : ℕ) → suc i ≡ i → ⊥
      apart i e = absurd (omega (arith, e))

  pub later_places : (moved (suc i) n flow).chain.places ≡ set mid (suc i) come
  later_places = passed_is flow.chain.places i n x y at k.at

  abbrev pub marks_then : Board → BufferId → Bool
  marks_then board = marking (buffer_of flow.chain.flow (suc (suc i)) (kind_of y.kind)) come.above (marking (buffer_of flow.chain.flow (suc i) (kind_of x.kind)) gone.above (is_marked board))

  pub later_kept : (board board' : Board) → head_came flow.message ≡ true
      → ((j : ℕ) (place : Place) → slice_get (set mid (suc i) come) j ≡ Some place → is_source place.kind ≡ true → is_marked board' (buffer_of flow.chain.flow (suc j) (kind_of place.kind)) ≡ marks_then board (buffer_of flow.chain.flow (suc j) (kind_of place.kind)))
      → KeepsFlow board board' flow (moved (suc i) n flow)
  later_kept board board' came marks = record {
    way = record {
      own = refl;
      kinds = ap (λ ps. map {B = Kind} (λ place. kind_of place.kind) ps) later_places ∙ (kinds_set mid (suc i) y come next_there refl ∙ kinds_set flow.chain.places i x gone at refl);
      last = ap length later_places ∙ (same_length mid (suc i) come ∙ same_length flow.chain.places i gone);
    };
    wire = λ w. record {
      bounded = record {
        recv = w.bounded.recv;
        places = subst (AllByRecursion (IsWithin flow.chain.quantum)) (sym later_places)
            (all_set (IsWithin flow.chain.quantum) mid (suc i) come
            (all_set (IsWithin flow.chain.quantum) flow.chain.places i gone w.bounded.places (let_go_within flow.chain.quantum n x (all_get (IsWithin flow.chain.quantum) flow.chain.places i x w.bounded.places at)))
            (gained_within flow.chain.quantum n (take n x.octets) y (taken n x.octets few_there) k.most k.low k.fits k.sound));
      };
      headed = λ some. came;
    };
    marks = λ m. record { each = each m };
  }
    where
      marked : MarksAre board flow → Marked (is_marked board') flow.chain.flow (set mid (suc i) come)
      marked m = marked_by (marks_then board) (is_marked board') flow.chain.flow (set mid (suc i) come) marks
          (set_marked (marking (buffer_of flow.chain.flow (suc i) (kind_of x.kind)) gone.above (is_marked board)) flow.chain.flow mid (suc i) y come (subst EndsInSend (sym (kinds_same flow.chain.places i x gone at refl)) k.ends) next_there refl
          (set_marked (is_marked board) flow.chain.flow flow.chain.places i x gone k.ends at refl (λ j place at source. m.each (suc j) place at source)))

      each : MarksAre board flow → (p : ℕ) (place : Place) → place_at (moved (suc i) n flow).chain.places p ≡ Some place → is_source place.kind ≡ true
          → is_marked board' (buffer_of flow.chain.flow p (kind_of place.kind)) ≡ place.above
      each m zero place at source = absurd (none-some place at)
      each m (suc j) place at source = marked m j place (ap (λ ps. slice_get ps j) (sym later_places) ∙ at) source

  pub later_way : flow_way (moved (suc i) n flow) + 20 * n ≡ flow_way flow
  later_way = sums (length flow.chain.places) (length (moved (suc i) n flow).chain.places) (length flow.recv) (places_way flow.chain.places) (places_way (moved (suc i) n flow).chain.places) (message_way flow.message)
      (ap length later_places ∙ (same_length mid (suc i) come ∙ same_length flow.chain.places i gone)) (passed_way flow.chain.places i n x y at k.at few_there)
    where
      sums : (l l' r p p' m : ℕ) → l' ≡ l → p' + 20 * n ≡ p → (((40 + 20 * l') * r + p') + m) + 20 * n ≡ ((40 + 20 * l) * r + p) + m
      sums l l' r p p' m el e = (λ i. (((40 + 20 * (el i)) * r + p') + m) + 20 * n) ∙ omega (arith, e)
