-- What is known before a note.
use Rattle.flow_rules.specs.declared.ids.FlowId.{FlowId}
use Rattle.std.proofs.Common.{ap, arith, inl, inr, refl, subst, sym, ◌∙◌}
use Rattle.std.proofs.lemmas.Bool.Decides.{nat_tests}
use Rattle.std.proofs.lemmas.List.{length-map}
use Rattle.std.specs.BTreeMap.{Updates, get}
use Rattle.std.specs.Option.{option_map}
use Rattle.std.specs.Ordering.{is_eq, nat_cmp}
use Rattle.std.specs.Prelude.{Bool, IfSome, List, None, Option, Some, [], false, if◌then◌else◌, length, map, replicate, suc, true, zero, ℕ, ◌+◌, ◌==◌, ◌∷◌, ◌≡◌, ◌⊎◌}
use Rattle.tape_laws.specs.Flows.{request, response}
use Rattle.tape_laws.specs.History.{History, NoMark}
use Rattle.tape_laws.specs.Units.{StageKind}
use Rattle.tape_laws.specs.Watermark.{kind_limit}
use Rattle.tape_summary.proofs.Spots.{number_is, numbers_equal}
use Rattle.tape_summary.specs.Levels.{no_level}
use Rattle.tape_summary.specs.declared.level.Level.{Level}
use Rattle.wire_summary.proofs.Exchanging.{agree_before}
use Rattle.wire_summary.specs.Levels.{Agrees, ExchangeIs, IsUnnoted, LevelsAre, LevelsFrom, LevelsPass, LevelsUnder, LimitsGrow, SideIs, StageLimits, kept_write, known_limits, place_level, shaped}
use Rattle.wire_summary.specs.Places.{Side, side_of}
use Rattle.wire_summary.specs.declared.levels.BufferLimits.{BufferLimits}
use Rattle.wire_summary.specs.declared.levels.ExchangePlaces.{ExchangePlaces}
use Rattle.wire_summary.specs.declared.levels.Levels.{Levels}
use Rattle.wire_summary.specs.declared.places.FlowPlaces.{FlowPlaces}

-- the log of an empty tape
pub begun : (limits : BufferLimits) (levels : Levels) → levels.limits ≡ limits → levels.started.items ≡ [] → levels.conns.items ≡ []
    → ((x : ℕ) → get nat_cmp levels.exchanges x ≡ None) → ((c : ℕ) → get nat_cmp levels.writes c ≡ None) → LevelsAre limits levels []
begun limits levels el es ec ex ew = record {
  limits_are = el;
  goes = λ stages a. record {
    started_are = es;
    conns_are = ec;
    exchanges_are = λ x. (let P : Option ExchangePlaces → Type 0 = λ v. ExchangeIs limits stages x [] v in subst P (sym (ex x)) (record { request_none = λ p. refl; response_none = λ p. refl }));
    writes_are = λ c. ap kept_write (ew c);
  };
}

-- stages that were said of an exchange before
pub passed_known : (x : ℕ) (old : Levels) (said : StageLimits) (v : ExchangePlaces) → get nat_cmp old.exchanges x ≡ Some v → LevelsPass x old said old
passed_known x old said v found = record {
  goes = λ limits h k. k;
  grow = record { stay = λ y l e. e; come = λ y e. inl e };
  says = record {
    here = λ none. absurd (cc (none, ap (λ (o : Option ExchangePlaces). option_map (λ p. let l : StageLimits = record { request = p.request.limits.items; response = p.response.limits.items } in l) o) found));
    others = λ y e. refl;
  };
}

-- places in which there never was an octet
empty_from : (level : ℕ → Level) (p n : ℕ) → ((q : ℕ) → level q ≡ no_level) → LevelsFrom level p (replicate n no_level)
empty_from level p zero e = tt
empty_from level p (suc n) e = (sym (e p), empty_from level (suc p) n e)

empty_long : (n : ℕ) → length (replicate n no_level) ≡ n
empty_long zero = refl
empty_long (suc n) = ap suc (empty_long n)

empty_side : (limits : BufferLimits) (stages : FlowId → List StageKind) (f : FlowId) (h : History NoMark) (places : FlowPlaces) (said : List ℕ) → places.limits.items ≡ said → places.levels.items ≡ replicate (length said + 2) no_level
    → said ≡ map kind_limit (stages f) → ((p : ℕ) → place_level (shaped limits stages) f h p ≡ no_level) → SideIs limits stages f h (side_of places)
empty_side limits stages f h places said el ev is none = record {
  limits_are = el ∙ is;
  long = ap length ev ∙ empty_long (length said + 2) ∙ ap (λ n. n + 2) (ap length is ∙ length-map (stages f) kind_limit);
  levels_are = (let P : List Level → Type 0 = λ v. LevelsFrom (place_level (shaped limits stages) f h) 0 v in subst P (sym ev) (empty_from (place_level (shaped limits stages) f h) 0 (length said + 2) none));
}

-- stages of an exchange of which nothing was said
pub passed_new : (old new : Levels) (x : ℕ) (places : ExchangePlaces) (said : StageLimits) → get nat_cmp old.exchanges x ≡ None → Updates nat_cmp old.exchanges new.exchanges x (Some places)
    → new.limits ≡ old.limits → new.started ≡ old.started → new.conns ≡ old.conns → new.writes ≡ old.writes
    → places.request.limits.items ≡ said.request → places.request.levels.items ≡ replicate (length said.request + 2) no_level
    → places.response.limits.items ≡ said.response → places.response.levels.items ≡ replicate (length said.response + 2) no_level → LevelsPass x old said new
passed_new old new x places said fresh u el es ec ew ql qv rl rv = record {
  goes = λ limits h k. record { limits_are = el ∙ k.limits_are; goes = λ stages a. under limits stages h a (k.goes stages (agree_before stages old new said grow a)) };
  grow = grow;
  says = record { here = λ none. said_here x (itself x); others = same_there };
}
  where
    at : (y : ℕ) (b : Bool) → (x == y) ≡ b → get nat_cmp new.exchanges y ≡ (if b then Some places else get nat_cmp old.exchanges y)
    at y b e = u.0 y ∙ ap (λ (v : Bool). if v then Some places else get nat_cmp old.exchanges y) (numbers_equal x y ∙ e)

    said_here : (y : ℕ) → (x == y) ≡ true → known_limits new y ≡ Some said
    said_here y e =
        ap (λ (o : Option ExchangePlaces). option_map (λ p. let l : StageLimits = record { request = p.request.limits.items; response = p.response.limits.items } in l) o) (at y true e)
        ∙ ap (λ (v : List ℕ). let l : StageLimits = record { request = v; response = places.response.limits.items } in Some l) ql
        ∙ ap (λ (v : List ℕ). let l : StageLimits = record { request = said.request; response = v } in Some l) rl

    same_there : (y : ℕ) → (x == y) ≡ false → known_limits new y ≡ known_limits old y
    same_there y e = ap (λ (o : Option ExchangePlaces). option_map (λ p. let l : StageLimits = record { request = p.request.limits.items; response = p.response.limits.items } in l) o) (at y false e)

    unsaid : (y : ℕ) → (x == y) ≡ true → known_limits old y ≡ None
    unsaid y e = ap (λ (o : Option ExchangePlaces). option_map (λ p. let l : StageLimits = record { request = p.request.limits.items; response = p.response.limits.items } in l) o) (ap (λ v. get nat_cmp old.exchanges v) (sym (number_is x y e)) ∙ fresh)

    stay : (y : ℕ) (l : StageLimits) → known_limits old y ≡ Some l → (b : Bool) → (x == y) ≡ b → known_limits new y ≡ Some l
    stay y l e true t = (let no : None ≡ Some l = sym (unsaid y t) ∙ e in cc)
    stay y l e false t = same_there y t ∙ e

    come : (y : ℕ) → known_limits old y ≡ None → (b : Bool) → (x == y) ≡ b → (known_limits new y ≡ None) ⊎ (known_limits new y ≡ Some said)
    come y e true t = inr (said_here y t)
    come y e false t = inl (same_there y t ∙ e)

    grow : LimitsGrow old new said
    grow = record { stay = λ y l e. stay y l e (x == y) refl; come = λ y e. come y e (x == y) refl }

    itself : (n : ℕ) → (n == n) ≡ true
    itself n = grind (arith, nat_tests)

    here : (limits : BufferLimits) (stages : FlowId → List StageKind) (h : History NoMark) → Agrees stages new → IsUnnoted limits stages x h → ExchangeIs limits stages x h (Some places)
    here limits stages h a none =
        let P : Option StageLimits → Type 0 = λ v. IfSome v (λ l. (l.request ≡ map kind_limit (stages (request x))) × (l.response ≡ map kind_limit (stages (response x)))) in
        let agreed = subst P (said_here x (itself x)) (a x) in
        record {
          request_is = empty_side limits stages (request x) h places.request said.request ql qv agreed.0 none.request_none;
          response_is = empty_side limits stages (response x) h places.response said.response rl rv agreed.1 none.response_none;
        }

    exchanges : (limits : BufferLimits) (stages : FlowId → List StageKind) (h : History NoMark) → Agrees stages new → ((y : ℕ) → ExchangeIs limits stages y h (get nat_cmp old.exchanges y))
        → (y : ℕ) (b : Bool) → (x == y) ≡ b → ExchangeIs limits stages y h (get nat_cmp new.exchanges y)
    exchanges limits stages h a was y true e =
        let P : Option ExchangePlaces → Type 0 = λ v. ExchangeIs limits stages x h v in
        let Q : ℕ → Type 0 = λ v. ExchangeIs limits stages v h (get nat_cmp new.exchanges v) in
        subst Q (number_is x y e) (subst P (sym (at x true (itself x))) (here limits stages h a (subst P fresh (was x))))
    exchanges limits stages h a was y false e = let P : Option ExchangePlaces → Type 0 = λ v. ExchangeIs limits stages y h v in subst P (sym (at y false e)) (was y)

    under : (limits : BufferLimits) (stages : FlowId → List StageKind) (h : History NoMark) → Agrees stages new → LevelsUnder limits stages old h → LevelsUnder limits stages new h
    under limits stages h a u = record {
      started_are = ap (λ v. v.items) es ∙ u.started_are;
      conns_are = ap (λ v. v.items) ec ∙ u.conns_are;
      exchanges_are = λ y. exchanges limits stages h a u.exchanges_are y (x == y) refl;
      writes_are = λ c. ap (λ m. kept_write (get nat_cmp m c)) ew ∙ u.writes_are c;
    }
