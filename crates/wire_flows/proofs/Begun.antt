-- How a flow begins to watch its buffers, step by step.
use Rattle.flow_gate.proofs.SameIds.{same_buffer-comm, same_buffer_exact, same_flow-refl, same_flow_exact}
use Rattle.flow_gate.specs.Board.{Board, IsSound as AreSoundGates, is_known, is_marked, is_open, pending_on, watched_by, watchers_of}
use Rattle.flow_gate.specs.Changes.{Begins, Knows, Same, Watches, without}
use Rattle.flow_gate.specs.Ids.{is_own, same_buffer, same_flow}
use Rattle.flow_rules.specs.declared.ids.BufferId.{BufferId}
use Rattle.flow_rules.specs.declared.ids.FlowId.{FlowId}
use Rattle.proxy_config.specs.declared.routes.Filter.{Filter}
use Rattle.proxy_config.specs.declared.routes.Filter.TheVariants.{Hold, Meter, Pass}
use Rattle.std.proofs.Common.{ap, arith, refl, subst, sym, ◌∙◌}
use Rattle.std.proofs.lemmas.Bool.Decides.{nat_tests}
use Rattle.std.proofs.lemmas.List.{append-nil}
use Rattle.std.proofs.lemmas.List.Folds.{list_any-append}
use Rattle.std.proofs.Math.Numerals.{add-one}
use Rattle.std.proofs.Math.Seq.{take-suc}
use Rattle.std.proofs.lemmas.Option.{get_or_from_slice_get}
use Rattle.std.specs.List.{list_any}
use Rattle.std.specs.Prelude.{Bool, List, None, Option, Some, [], false, filter, if◌then◌else◌, length, not, slice_get, take, true, ℕ, ◌&&◌, ◌+◌, ◌++◌, ◌<◌, ◌==◌, ◌||◌, ◌∷◌, ◌≡◌, ◌≤◌}
use Rattle.wire_flows.proofs.Cases.{by_case, not_both, number_is}
use Rattle.wire_flows.proofs.Others.{own_apart}
use Rattle.wire_flows.specs.Begins.{BeginsFlow, Grows, IsFresh, WatchesAll, WatchesOwn, is_in, is_target, meters, watches_from, write_of}
use Rattle.flow_rules.specs.declared.ids.BufferId.TheVariants as buffer

append_assoc : {X : Type 0} (xs ys zs : List X) → (xs ++ ys) ++ zs ≡ xs ++ (ys ++ zs)
append_assoc [] ys zs = refl
append_assoc (x ∷ xs) ys zs = ap (λ ws. x ∷ ws) (append_assoc xs ys zs)

or_false : (b : Bool) → (b || false) ≡ b
or_false true = refl
or_false false = refl

or_assoc : (a b c : Bool) → ((a || b) || c) ≡ (a || (b || c))
or_assoc true b c = refl
or_assoc false b c = refl

or_turned : (a b : Bool) → (a || b) ≡ (b || a)
or_turned true true = refl
or_turned true false = refl
or_turned false true = refl
or_turned false false = refl

-- a buffer that isn't the flow's own is another than one that is
own_not : (f : FlowId) (b c : BufferId) → is_own f b ≡ true → is_own f c ≡ false → same_buffer b c ≡ false
own_not f b c own other = by_case (same_buffer b c)
    (λ same. not_both (is_own f c) (subst (λ d. is_own f d ≡ true) (same_buffer_exact b c same) own) other)
    (λ apart. apart)

-- ---- the flow left out
without_append : (f : FlowId) (xs ys : List FlowId) → without f (xs ++ ys) ≡ without f xs ++ without f ys
without_append f [] ys = refl
without_append f (x ∷ xs) ys = by_case (same_flow f x)
    (λ same. ap (λ b. if not b then x ∷ without f (xs ++ ys) else without f (xs ++ ys)) same ∙ (without_append f xs ys ∙ sym (ap (λ b. (if not b then x ∷ without f xs else without f xs) ++ without f ys) same)))
    (λ apart. ap (λ b. if not b then x ∷ without f (xs ++ ys) else without f (xs ++ ys)) apart ∙ (ap (λ zs. x ∷ zs) (without_append f xs ys) ∙ sym (ap (λ b. (if not b then x ∷ without f xs else without f xs) ++ without f ys) apart)))

without_self : (f : FlowId) (b : Bool) → without f (if b then f ∷ [] else []) ≡ []
without_self f true = ap (λ t. if not t then f ∷ [] else []) (same_flow-refl f)
without_self f false = refl

pub without_more : (f : FlowId) (xs : List FlowId) (b : Bool) → without f (xs ++ (if b then f ∷ [] else [])) ≡ without f xs
without_more f xs b = without_append f xs (if b then f ∷ [] else []) ∙ (ap (λ ys. without f xs ++ ys) (without_self f b) ∙ append-nil (without f xs))

-- ---- together
pub grows_more : (f : FlowId) (old mid new : Board) → Grows f old mid → Grows f mid new → Grows f old new
grows_more f old mid new a b = record {
  flows = λ g. b.flows g ∙ a.flows g;
  watched = λ g apart. b.watched g apart ∙ a.watched g apart;
  buffers = λ c other. b.buffers c other ∙ a.buffers c other;
  marks = λ c. b.marks c ∙ a.marks c;
  watchers = λ c. b.watchers c ∙ a.watchers c;
  pending = λ c. b.pending c ∙ a.pending c;
}

pub grows_none : (f : FlowId) (board : Board) → Grows f board board
grows_none f board = record { flows = λ g. refl; watched = λ g apart. refl; buffers = λ c other. refl; marks = λ c. refl; watchers = λ c. refl; pending = λ c. refl }

pub watches_none : (f : FlowId) (board : Board) → WatchesOwn f [] board board
watches_none f board = record { watched = sym (append-nil (watched_by board f)); known = λ b own. sym (or_false (is_known board b)); writes = λ c. refl }

pub watches_more : (f : FlowId) (bs cs : List BufferId) (old mid new : Board) → WatchesOwn f bs old mid → WatchesOwn f cs mid new → WatchesOwn f (bs ++ cs) old new
watches_more f bs cs old mid new a b = record {
  watched = b.watched ∙ (ap (λ xs. xs ++ cs) a.watched ∙ append_assoc (watched_by old f) bs cs);
  known = λ d own. b.known d own ∙ (ap (λ t. t || is_in d cs) (a.known d own) ∙ (or_assoc (is_known old d) (is_in d bs) (is_in d cs) ∙ ap (λ t. is_known old d || t) (sym (list_any-append (same_buffer d) bs cs))));
  writes = λ c. b.writes c ∙ a.writes c;
}

-- ---- one buffer of its own
module _ (f : FlowId) (b : BufferId) (old mid : Board) (own : is_own f b ≡ true) (k : Knows b old mid) where
  pub knows_grows : Grows f old mid
  knows_grows = record {
    flows = k.flows;
    watched = λ g apart. k.watched g;
    buffers = λ c other. k.buffers c ∙ ap (λ t. t || is_known old c) (own_not f b c own other);
    marks = k.marks;
    watchers = λ c. ap (without f) (k.watchers c);
    pending = k.pending;
  }

  module _ (new : Board) (w : Watches f b mid new) where
    pub watch_grows : Grows f old new
    watch_grows = grows_more f old mid new knows_grows (record {
      flows = w.flows;
      watched = λ g apart. w.watched g ∙ (ap (λ t. watched_by mid g ++ (if t then b ∷ [] else [])) apart ∙ append-nil (watched_by mid g));
      buffers = λ c other. w.buffers c;
      marks = w.marks;
      watchers = λ c. ap (without f) (w.watchers c) ∙ without_more f (watchers_of mid c) (same_buffer b c);
      pending = w.pending;
    })

    pub watch_own : WatchesOwn f (b ∷ []) old new
    watch_own = record {
      watched = w.watched f ∙ (ap (λ t. watched_by mid f ++ (if t then b ∷ [] else [])) (same_flow-refl f) ∙ ap (λ xs. xs ++ b ∷ []) (k.watched f));
      known = λ c is. w.buffers c ∙ (k.buffers c ∙ (or_turned (same_buffer b c) (is_known old c) ∙ ap (λ t. is_known old c || t) (same_buffer-comm b c ∙ sym (or_false (same_buffer c b)))));
      writes = λ c. w.watchers (buffer.Write c) ∙ (ap (λ t. watchers_of mid (buffer.Write c) ++ (if t then f ∷ [] else [])) (own_not f b (buffer.Write c) own refl)
          ∙ (append-nil (watchers_of mid (buffer.Write c)) ∙ k.watchers (buffer.Write c)));
    }

-- ---- the Meters
abbrev pub place_after : ℕ → List Filter → ℕ
place_after p [] = p
place_after p (Pass ∷ filters) = place_after p filters
place_after p (Hold limit ∷ filters) = place_after (p + 1) filters
place_after p (Meter limit rate ∷ filters) = place_after (p + 1) filters

pub meters_more : (f : FlowId) (p : ℕ) (xs ys : List Filter) → meters f p (xs ++ ys) ≡ meters f p xs ++ meters f (place_after p xs) ys
meters_more f p [] ys = refl
meters_more f p (Pass ∷ xs) ys = meters_more f p xs ys
meters_more f p (Hold limit ∷ xs) ys = meters_more f (p + 1) xs ys
meters_more f p (Meter limit rate ∷ xs) ys = ap (λ bs. buffer.Stage f p ∷ bs) (meters_more f (p + 1) xs ys)

pub place_more : (p : ℕ) (xs ys : List Filter) → place_after p (xs ++ ys) ≡ place_after (place_after p xs) ys
place_more p [] ys = refl
place_more p (Pass ∷ xs) ys = place_more p xs ys
place_more p (Hold limit ∷ xs) ys = place_more (p + 1) xs ys
place_more p (Meter limit rate ∷ xs) ys = place_more (p + 1) xs ys

place_rises : (p : ℕ) (xs : List Filter) → p ≤ place_after p xs
place_rises p [] = omega arith
place_rises p (Pass ∷ xs) = place_rises p xs
place_rises p (Hold limit ∷ xs) = let rest = place_rises (p + 1) xs in omega (arith, rest)
place_rises p (Meter limit rate ∷ xs) = let rest = place_rises (p + 1) xs in omega (arith, rest)

take_next : (xs : List Filter) (i : ℕ) (x : Filter) → i < length xs → slice_get xs i ≡ Some x → take (i + 1) xs ≡ take i xs ++ x ∷ []
take_next xs i x within at = ap (λ k. take k xs) (add-one i) ∙ (take-suc xs i x within ∙ ap (λ y. take i xs ++ y ∷ []) (get_or_from_slice_get xs i x x at))

pub place_next : (xs : List Filter) (i place : ℕ) (x : Filter) → i < length xs → slice_get xs i ≡ Some x → place ≡ place_after 1 (take i xs) → place_after place (x ∷ []) ≡ place_after 1 (take (i + 1) xs)
place_next xs i place x within at is = ap (λ p. place_after p (x ∷ [])) is ∙ (sym (place_more 1 (take i xs) (x ∷ [])) ∙ sym (ap (place_after 1) (take_next xs i x within at)))

pub met_next : (f : FlowId) (xs : List Filter) (i place : ℕ) (x : Filter) (old mid new : Board) → i < length xs → slice_get xs i ≡ Some x → place ≡ place_after 1 (take i xs)
    → WatchesOwn f (meters f 1 (take i xs)) old mid → WatchesOwn f (meters f place (x ∷ [])) mid new → WatchesOwn f (meters f 1 (take (i + 1) xs)) old new
met_next f xs i place x old mid new within at is w v =
    subst (λ bs. WatchesOwn f bs old new) (sym (ap (meters f 1) (take_next xs i x within at) ∙ meters_more f 1 (take i xs) (x ∷ [])))
    (watches_more f (meters f 1 (take i xs)) (meters f (place_after 1 (take i xs)) (x ∷ [])) old mid new w (subst (λ p. WatchesOwn f (meters f p (x ∷ [])) mid new) is v))

-- what holds after each filter
pub record Met (f : FlowId) (xs : List Filter) (i place : ℕ) (old new : Board) : Type 0 where
  pub grows : Grows f old new
  pub watches : WatchesOwn f (meters f 1 (take i xs)) old new
  pub place_is : place ≡ place_after 1 (take i xs)
  pub first : 1 ≤ place
  pub low : place ≤ i + 1
  pub sound : AreSoundGates new

module _ (f : FlowId) (xs : List Filter) (i place : ℕ) (old mid : Board) (m : Met f xs i place old mid) (x : Filter) (within : i < length xs) (at : slice_get xs i ≡ Some x) (place' : ℕ) (new : Board) where
  pub met_pass : x ≡ Pass → place' ≡ place → new ≡ mid → Met f xs (i + 1) place' old new
  met_pass is same stays = subst (λ b. Met f xs (i + 1) place' old b) (sym stays) (record {
    grows = m.grows;
    watches = met_next f xs i place Pass old mid mid within (at ∙ ap (λ y. Some y) is) m.place_is m.watches (watches_none f mid);
    place_is = same ∙ place_next xs i place Pass within (at ∙ ap (λ y. Some y) is) m.place_is;
    first = let a = m.first in omega (arith, same, a);
    low = let a = m.low in omega (arith, same, a);
    sound = m.sound;
  })

  pub met_hold : (limit : ℕ) → x ≡ Hold limit → place' ≡ place + 1 → new ≡ mid → Met f xs (i + 1) place' old new
  met_hold limit is same stays = subst (λ b. Met f xs (i + 1) place' old b) (sym stays) (record {
    grows = m.grows;
    watches = met_next f xs i place (Hold limit) old mid mid within (at ∙ ap (λ y. Some y) is) m.place_is m.watches (watches_none f mid);
    place_is = same ∙ place_next xs i place (Hold limit) within (at ∙ ap (λ y. Some y) is) m.place_is;
    first = let a = m.first in omega (arith, same, a);
    low = let a = m.low in omega (arith, same, a);
    sound = m.sound;
  })

  pub met_meter : (limit rate : ℕ) (late : Board) → x ≡ Meter limit rate → place' ≡ place + 1 → new ≡ late → Grows f mid late → WatchesOwn f (buffer.Stage f place ∷ []) mid late → AreSoundGates late → Met f xs (i + 1) place' old new
  met_meter limit rate late is same stays g w s = subst (λ b. Met f xs (i + 1) place' old b) (sym stays) (record {
    grows = grows_more f old mid late m.grows g;
    watches = met_next f xs i place (Meter limit rate) old mid late within (at ∙ ap (λ y. Some y) is) m.place_is m.watches w;
    place_is = same ∙ place_next xs i place (Meter limit rate) within (at ∙ ap (λ y. Some y) is) m.place_is;
    first = let a = m.first in omega (arith, same, a);
    low = let a = m.low in omega (arith, same, a);
    sound = s;
  })

-- none of them is at a place behind
pub meters_before : (f : FlowId) (p q : ℕ) (xs : List Filter) → place_after p xs ≤ q → is_in (buffer.Stage f q) (meters f p xs) ≡ false
meters_before f p q [] l = refl
meters_before f p q (Pass ∷ xs) l = meters_before f p q xs l
meters_before f p q (Hold limit ∷ xs) l = meters_before f (p + 1) q xs l
meters_before f p q (Meter limit rate ∷ xs) l =
    ap (λ b. (same_flow f f && b) || is_in (buffer.Stage f q) (meters f (p + 1) xs)) (apart (place_after (p + 1) xs) (place_rises (p + 1) xs) l)
    ∙ (ap (λ b. b || is_in (buffer.Stage f q) (meters f (p + 1) xs)) (and_false (same_flow f f)) ∙ meters_before f (p + 1) q xs l)
  where
    and_false : (b : Bool) → (b && false) ≡ false
    and_false true = refl
    and_false false = refl

    apart : (r : ℕ) → p + 1 ≤ r → r ≤ q → (q == p) ≡ false
    apart r a b = grind (arith, nat_tests)

send_apart : (f : FlowId) (p : ℕ) (xs : List Filter) → is_in (buffer.Send f) (meters f p xs) ≡ false
send_apart f p [] = refl
send_apart f p (Pass ∷ xs) = send_apart f p xs
send_apart f p (Hold limit ∷ xs) = send_apart f (p + 1) xs
send_apart f p (Meter limit rate ∷ xs) = send_apart f (p + 1) xs

-- so the next buffer isn't known
pub next_unknown : (f : FlowId) (b : BufferId) (bs : List BufferId) (old mid : Board) → IsFresh f old → is_own f b ≡ true → WatchesOwn f bs old mid → is_in b bs ≡ false → is_known mid b ≡ false
next_unknown f b bs old mid fresh own w none = w.known b own ∙ (λ i. fresh.unknown b own i || none i)

pub send_unknown : (f : FlowId) (filters : List Filter) (old mid : Board) → IsFresh f old → WatchesOwn f (meters f 1 filters) old mid → is_known mid (buffer.Send f) ≡ false
send_unknown f filters old mid fresh w = next_unknown f (buffer.Send f) (meters f 1 filters) old mid fresh (same_flow-refl f) w (send_apart f 1 filters)

pub meter_unknown : (f : FlowId) (q : ℕ) (filters : List Filter) (old mid : Board) → IsFresh f old → WatchesOwn f (meters f 1 filters) old mid → place_after 1 filters ≡ q → is_known mid (buffer.Stage f q) ≡ false
meter_unknown f q filters old mid fresh w e = next_unknown f (buffer.Stage f q) (meters f 1 filters) old mid fresh (same_flow-refl f) w (meters_before f 1 q filters (same (place_after 1 filters) q e))
  where
    same : (a b : ℕ) → a ≡ b → a ≤ b
    same a b e = omega (arith, e)

-- ---- all of its buffers
module _ (f : FlowId) (filters : List Filter) (old mid sent : Board) (w : WatchesOwn f (meters f 1 filters) old mid) (s : WatchesOwn f (buffer.Send f ∷ []) mid sent) where
  own_all : WatchesOwn f (meters f 1 filters ++ buffer.Send f ∷ []) old sent
  own_all = watches_more f (meters f 1 filters) (buffer.Send f ∷ []) old mid sent w s

  pub all_watched : (to : Option ℕ) (new : Board) → WatchesAll f (write_of to) to sent new → WatchesAll f (watches_from f filters to) to old new
  all_watched to new t = record {
    watched = t.watched ∙ (ap (λ xs. xs ++ write_of to) own_all.watched
        ∙ (append_assoc (watched_by old f) (meters f 1 filters ++ buffer.Send f ∷ []) (write_of to) ∙ ap (λ xs. watched_by old f ++ xs) (append_assoc (meters f 1 filters) (buffer.Send f ∷ []) (write_of to))));
    writes = λ d. t.writes d ∙ ap (λ xs. xs ++ (if is_target d to then f ∷ [] else [])) (own_all.writes d);
  }

pub write_watched : (f : FlowId) (c : ℕ) (mid new : Board) → Watches f (buffer.Write c) mid new → WatchesAll f (write_of (Some c)) (Some c) mid new
write_watched f c mid new w = record {
  watched = w.watched f ∙ ap (λ b. watched_by mid f ++ (if b then buffer.Write c ∷ [] else [])) (same_flow-refl f);
  writes = λ d. w.watchers (buffer.Write d);
}

pub no_write_watched : (f : FlowId) (board : Board) → WatchesAll f (write_of None) None board board
no_write_watched f board = record { watched = sym (append-nil (watched_by board f)); writes = λ c. sym (append-nil (watchers_of board (buffer.Write c))) }

pub watch_write_grows : (f : FlowId) (c : ℕ) (mid new : Board) → Watches f (buffer.Write c) mid new → Grows f mid new
watch_write_grows f c mid new w = record {
  flows = w.flows;
  watched = λ g apart. w.watched g ∙ (ap (λ t. watched_by mid g ++ (if t then buffer.Write c ∷ [] else [])) apart ∙ append-nil (watched_by mid g));
  buffers = λ b other. w.buffers b;
  marks = w.marks;
  watchers = λ b. ap (without f) (w.watchers b) ∙ without_more f (watchers_of mid b) (same_buffer (buffer.Write c) b);
  pending = w.pending;
}

-- ---- a flow begins
pub begins_flow : (f : FlowId) (bs : List BufferId) (to : Option ℕ) (old mid new : Board) → watched_by old f ≡ [] → Begins f old mid → Grows f mid new → WatchesAll f bs to mid new → BeginsFlow f bs to old new
begins_flow f bs to old mid new none b g w = record {
  flows = λ h. g.flows h ∙ b.flows h;
  watched = λ h. by_case (same_flow f h)
      (λ same. ap (watched_by new) (sym (same_flow_exact f h same)) ∙ (w.watched ∙ (ap (λ xs. xs ++ bs) (b.watched f ∙ none) ∙ sym (ap (λ t. if t then bs else watched_by old h) same))))
      (λ apart. g.watched h apart ∙ (b.watched h ∙ sym (ap (λ t. if t then bs else watched_by old h) apart)));
  buffers = λ c other. g.buffers c other ∙ b.buffers c;
  marks = λ c. g.marks c ∙ b.marks c;
  writes = λ c. w.writes c ∙ ap (λ xs. xs ++ (if is_target c to then f ∷ [] else [])) (b.watchers (buffer.Write c));
  watchers = λ c. g.watchers c ∙ ap (without f) (b.watchers c);
  pending = λ c. g.pending c ∙ b.pending c;
}
