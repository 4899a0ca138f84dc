-- The stages of the rows.
use Rattle.flow_rules.specs.declared.ids.BufferId.{BufferId}
use Rattle.flow_rules.specs.declared.ids.FlowId.{FlowId}
use Rattle.flow_notes.specs.Passages.{notes_of_passage}
use Rattle.flow_notes.specs.declared.notes.Note.{Note}
use Rattle.flow_notes.specs.declared.notes.Note.TheVariants as note
use Rattle.flow_notes.specs.declared.passages.Passage.{Passage}
use Rattle.flow_notes.specs.declared.passages.Passage.TheVariants as passage
use Rattle.io_ports.specs.declared.octets.NoMemory.{NoMemory}
use Rattle.proxy_config.specs.declared.routes.Filter.{Filter}
use Rattle.proxy_config.specs.declared.routes.Route.{Route}
use Rattle.std.proofs.Common.{ap, append_assoc, arith, inl, inr, refl, subst, sym, ◌∙◌}
use Rattle.std.proofs.lemmas.Bool.Decides.{nat_tests}
use Rattle.std.proofs.lemmas.List.Folds.{list_any-append}
use Rattle.std.proofs.lemmas.List.{append-nil, map-append}
use Rattle.std.proofs.lemmas.Option.{slice_get_past, slice_get_read}
use Rattle.std.specs.Prelude.{Bool, Err, IfSome, IsSome, List, None, Ok, OnOk, Option, Result, Some, [], false, is_some, length, map, slice_get, suc, true, zero, ℕ, ◌++◌, ◌==◌, ◌||◌, ◌∷◌, ◌≡◌, ◌≤◌, ◌⊎◌}
use Rattle.std.specs.Slice.{IsItemAt}
use Rattle.std.specs.Borrow.{Bor}
use Rattle.tape_laws.specs.Watermark.{kind_limit}
use Rattle.tape_laws.specs.Dispatches.{has}
use Rattle.wire_run.specs.Passing.{PassesAll, begun_in}
use Rattle.wire_run.specs.Rows.{route_stages, stages_of}
use Rattle.wire_run.specs.Stages.{AreStages, Gives, HaveRows, IsRow, IsStages, row_limits}
use Rattle.wire_run.specs.declared.stages.RouteStages.{RouteStages}
use Rattle.wire_state.specs.Marks.{row_in}
use Rattle.wire_state.specs.Ways.{WayHistory}
use Rattle.wire_summary.specs.Levels.{StageLimits, known_limits}
use Rattle.wire_summary.specs.Logging.{WireLogPasses}
use Rattle.wire_summary.specs.declared.levels.Levels.{Levels}
use Rattle.wire_summary.specs.declared.log.WireLog.{WireLog}
use Rattle.proxy_config.specs.declared.routes.Filter.TheVariants as filter

-- ---- filters

-- ---- rows

pub rows_more : (ss : List RouteStages) (rs : List Route) (s : RouteStages) (r : Route) → AreStages ss rs → IsStages s r → AreStages (ss ++ s ∷ []) (rs ++ r ∷ [])
rows_more [] [] s r a i = (i, tt)
rows_more [] (q ∷ rs) s r a i = absurd a
rows_more (t ∷ ss) [] s r a i = absurd a
rows_more (t ∷ ss) (q ∷ rs) s r a i = (a.0, rows_more ss rs s r a.1 i)

-- one more route was taken up
pub rows_taken : (routes done rest after : List Route) (r : Route) (ss more : List RouteStages) (s : RouteStages) → routes ≡ done ++ rest → AreStages ss done → rest ≡ r ∷ after → IsStages s r → more ≡ ss ++ s ∷ []
    → (all : List Route) × (routes ≡ all ++ after) × AreStages more all
rows_taken routes done rest after r ss more s e a k i m =
    let P : List RouteStages → Type 0 = λ v. AreStages v (done ++ r ∷ []) in
    (done ++ r ∷ [], e ∙ ap (λ (v : List Route). done ++ v) k ∙ sym (append_assoc done (r ∷ []) after), subst P (sym m) (rows_more ss done s r a i))

-- what stands at a row
abbrev AtRow : Option RouteStages → Option Route → Type 0
AtRow None None = Unit {0}
AtRow (Some s) (Some r) = IsStages s r
AtRow a b = ⊥

at_row : (ss : List RouteStages) (rs : List Route) (i : ℕ) → AreStages ss rs → AtRow (slice_get ss i) (slice_get rs i)
at_row [] [] i a = tt
at_row [] (r ∷ rs) i a = absurd a
at_row (s ∷ ss) [] i a = absurd a
at_row (s ∷ ss) (r ∷ rs) zero a = a.0
at_row (s ∷ ss) (r ∷ rs) (suc i) a = at_row ss rs i a.1

pub gives_no_row : (rows : List RouteStages) (i : ℕ) (back : Bool) → slice_get rows i ≡ None → Gives rows (Some i) back []
gives_no_row rows i back none = record { goes = λ routes a. by (slice_get rows i) (slice_get routes i) none (at_row rows routes i a) }
  where
    by : (s : Option RouteStages) (r : Option Route) → s ≡ None → AtRow s r → [] ≡ map kind_limit (route_stages r back)
    by None None e k = refl
    by None (Some r) e k = absurd k
    by (Some s) r e k = cc

pub gives_request : (rows : List RouteStages) (i : ℕ) (s : RouteStages) (limits : List ℕ) → slice_get rows i ≡ Some s → limits ≡ s.request.items → Gives rows (Some i) false limits
gives_request rows i s limits some is = record { goes = λ routes a. is ∙ by (slice_get rows i) (slice_get routes i) some (at_row rows routes i a) }
  where
    by : (t : Option RouteStages) (r : Option Route) → t ≡ Some s → AtRow t r → s.request.items ≡ map kind_limit (route_stages r false)
    by None r e k = cc
    by (Some t) None e k = absurd k
    by (Some t) (Some r) e k = let same : t ≡ s = cc in ap (λ v. v.request.items) (sym same) ∙ k.request_is

pub gives_response : (rows : List RouteStages) (i : ℕ) (s : RouteStages) (limits : List ℕ) → slice_get rows i ≡ Some s → limits ≡ s.response.items → Gives rows (Some i) true limits
gives_response rows i s limits some is = record { goes = λ routes a. is ∙ by (slice_get rows i) (slice_get routes i) some (at_row rows routes i a) }
  where
    by : (t : Option RouteStages) (r : Option Route) → t ≡ Some s → AtRow t r → s.response.items ≡ map kind_limit (route_stages r true)
    by None r e k = cc
    by (Some t) None e k = absurd k
    by (Some t) (Some r) e k = let same : t ≡ s = cc in ap (λ v. v.response.items) (sym same) ∙ k.response_is

-- in what was lent of the rows
pub gives_nowhere : (rows lent : List RouteStages) (i : ℕ) (back : Bool) (r : Option (Bor RouteStages)) (limits : List ℕ) → lent ≡ rows → IsItemAt lent i r → ((s : Bor RouteStages) → r ≡ Some s → ⊥) → limits ≡ [] → Gives rows (Some i) back limits
gives_nowhere rows lent i back None limits same at never e =
    let P : List ℕ → Type 0 = λ v. Gives rows (Some i) back v in
    let past : length lent ≤ i = at.3 in
    subst P (sym e) (gives_no_row rows i back (ap (λ (v : List RouteStages). slice_get v i) (sym same) ∙ slice_get_past lent i past))
gives_nowhere rows lent i back (Some s) limits same at never e = absurd (never s refl)

there : (rows lent : List RouteStages) (i : ℕ) (s : Bor RouteStages) → lent ≡ rows → IsItemAt lent i (Some s) → slice_get rows i ≡ Some s.now
there rows lent i s same at = ap (λ (v : List RouteStages). slice_get v i) (sym same) ∙ slice_get_read lent (length lent) i s.now refl at.3.0 at.1

pub gives_lent_request : (rows lent : List RouteStages) (i : ℕ) (back : Bool) (s : Bor RouteStages) (items limits : List ℕ) → lent ≡ rows → IsItemAt lent i (Some s) → back ≡ false → items ≡ s.now.request.items → limits ≡ items → Gives rows (Some i) back limits
gives_lent_request rows lent i back s items limits kept at e is same = let P : Bool → Type 0 = λ b. Gives rows (Some i) b limits in subst P (sym e) (gives_request rows i s.now limits (there rows lent i s kept at) (same ∙ is))

pub gives_lent_response : (rows lent : List RouteStages) (i : ℕ) (back : Bool) (s : Bor RouteStages) (items limits : List ℕ) → lent ≡ rows → IsItemAt lent i (Some s) → back ≡ true → items ≡ s.now.response.items → limits ≡ items → Gives rows (Some i) back limits
gives_lent_response rows lent i back s items limits kept at e is same = let P : Bool → Type 0 = λ b. Gives rows (Some i) b limits in subst P (sym e) (gives_response rows i s.now limits (there rows lent i s kept at) (same ∙ is))

-- ---- what the log learnt
begun_append : (ns ms : List Note) → begun_in (ns ++ ms) ≡ begun_in ns ++ begun_in ms
begun_append [] ms = refl
begun_append (note.Start x c s d ∷ ns) ms = ap (λ (xs : List ℕ). x ∷ xs) (begun_append ns ms)
begun_append (note.Turn k e ∷ ns) ms = begun_append ns ms
begun_append (note.Arrive f octets ∷ ns) ms = begun_append ns ms
begun_append (note.Move f p n ∷ ns) ms = begun_append ns ms
begun_append (note.Frame c f n last ∷ ns) ms = begun_append ns ms
begun_append (note.Out c n ∷ ns) ms = begun_append ns ms
begun_append (note.Pause f b ∷ ns) ms = begun_append ns ms
begun_append (note.Resume f b ∷ ns) ms = begun_append ns ms
begun_append (note.Credit c s n ∷ ns) ms = begun_append ns ms
begun_append (note.Head c s octets ∷ ns) ms = begun_append ns ms
begun_append (note.Answer c octets ∷ ns) ms = begun_append ns ms
begun_append (note.Waste c s n ∷ ns) ms = begun_append ns ms
begun_append (note.Doom x why ∷ ns) ms = begun_append ns ms
begun_append (note.Gone x ∷ ns) ms = begun_append ns ms
begun_append (note.Close c code why ∷ ns) ms = begun_append ns ms
begun_append (note.Fire kind id ∷ ns) ms = begun_append ns ms

has_append : (ns ms : List Note) (x : ℕ) → has (begun_in (ns ++ ms)) x ≡ (has (begun_in ns) x || has (begun_in ms) x)
has_append ns ms x = ap (λ (xs : List ℕ). has xs x) (begun_append ns ms) ∙ list_any-append (λ y. y == x) (begun_in ns) (begun_in ms)

-- what is said of an exchange of which nothing was known
abbrev Said : List Route → (ℕ → Option ℕ) → List Note → ℕ → Option StageLimits → Type 0
Said routes row ns x o = IfSome o (λ l. (has (begun_in ns) x ≡ true) × IsRow routes (row x) l)

pub passes_none : (rows : List RouteStages) (row : ℕ → Option ℕ) (log : WireLog) → PassesAll rows row [] log log
passes_none rows row log = record { goes = λ limits h k. k; stay = λ x l e. e; come = λ routes a x none. subst (Said routes row [] x) (sym none) tt; all = λ x e. cc }

pub passes_more : (rows : List RouteStages) (row : ℕ → Option ℕ) (ns ms : List Note) (a b c : WireLog) → PassesAll rows row ns a b → PassesAll rows row ms b c → PassesAll rows row (ns ++ ms) a c
passes_more rows row ns ms a b c p q = record {
  goes = λ limits h k. q.goes limits h (p.goes limits h k);
  stay = λ x l e. q.stay x l (p.stay x l e);
  come = λ routes t x none. by routes t x none (known_limits b.levels x) refl;
  all = λ x e. each x (or_either (has (begun_in ns) x) (has (begun_in ms) x) (sym (has_append ns ms x) ∙ e));
}
  where
    or_either : (a b : Bool) → (a || b) ≡ true → (a ≡ true) ⊎ (b ≡ true)
    or_either true b e = inl refl
    or_either false b e = inr e

    first : (x : ℕ) → has (begun_in ns) x ≡ true → has (begun_in (ns ++ ms)) x ≡ true
    first x e = has_append ns ms x ∙ ap (λ (v : Bool). v || has (begun_in ms) x) e

    second : (x : ℕ) → has (begun_in ms) x ≡ true → has (begun_in (ns ++ ms)) x ≡ true
    second x e = has_append ns ms x ∙ later (has (begun_in ns) x) (has (begun_in ms) x) e
      where
        later : (a b : Bool) → b ≡ true → (a || b) ≡ true
        later true b e = refl
        later false b e = e

    wider : (routes : List Route) (os : List Note) (x : ℕ) → (has (begun_in os) x ≡ true → has (begun_in (ns ++ ms)) x ≡ true) → (o : Option StageLimits) → Said routes row os x o → Said routes row (ns ++ ms) x o
    wider routes os x f None s = tt
    wider routes os x f (Some l) s = (f s.0, s.1)

    by : (routes : List Route) → AreStages rows routes → (x : ℕ) → known_limits a.levels x ≡ None → (o : Option StageLimits) → known_limits b.levels x ≡ o → Said routes row (ns ++ ms) x (known_limits c.levels x)
    by routes t x none None e = wider routes ms x (second x) (known_limits c.levels x) (q.come routes t x e)
    by routes t x none (Some l) e =
        subst (Said routes row (ns ++ ms) x) (sym (q.stay x l e)) (wider routes ns x (first x) (Some l) (subst (Said routes row ns x) e (p.come routes t x none)))

    kept : (x : ℕ) (o : Option StageLimits) → known_limits b.levels x ≡ o → is_some o ≡ true → IsSome (known_limits c.levels x)
    kept x None e some = cc
    kept x (Some l) e some = ap is_some (q.stay x l e)

    each : (x : ℕ) → (has (begun_in ns) x ≡ true) ⊎ (has (begun_in ms) x ≡ true) → IsSome (known_limits c.levels x)
    each x (inl e) = kept x (known_limits b.levels x) refl (p.all x e)
    each x (inr e) = q.all x e

pub passes_one : (x c s d : ℕ) (rows : List RouteStages) (row : ℕ → Option ℕ) (request response : List ℕ) (old new : WireLog) → Gives rows (row x) false request → Gives rows (row x) true response
    → WireLogPasses x old (record { request = request; response = response }) new → PassesAll rows row (note.Start x c s d ∷ []) old new
passes_one x c s d rows row request response old new q r p = record {
  goes = p.goes;
  stay = p.grow.stay;
  come = λ routes a y none. by routes a y none (x == y) refl;
  all = λ y e. some y (is_number x y (only (x == y) e)) (known_limits old.levels x) refl;
}
  where
    is_number : (x y : ℕ) → (x == y) ≡ true → x ≡ y
    is_number x y e = grind (arith, nat_tests)

    same_number : (x : ℕ) → (x == x) ≡ true
    same_number x = grind (arith, nat_tests)

    only : (b : Bool) → (b || false) ≡ true → b ≡ true
    only true e = refl
    only false e = cc

    said : (routes : List Route) → AreStages rows routes → IsRow routes (row x) (record { request = request; response = response })
    said routes a = record { request_is = q.goes routes a; response_is = r.goes routes a }

    by : (routes : List Route) → AreStages rows routes → (y : ℕ) → known_limits old.levels y ≡ None → (b : Bool) → (x == y) ≡ b → Said routes row (note.Start x c s d ∷ []) y (known_limits new.levels y)
    by routes a y none false e = subst (Said routes row (note.Start x c s d ∷ []) y) (sym (p.says.others y e ∙ none)) tt
    by routes a y none true e =
        let is = is_number x y e in
        subst (λ (z : ℕ). Said routes row (note.Start x c s d ∷ []) z (known_limits new.levels z)) is
        (subst (Said routes row (note.Start x c s d ∷ []) x) (sym (p.says.here (ap (known_limits old.levels) is ∙ none))) (ap (λ (v : Bool). v || false) (same_number x), said routes a))

    some : (y : ℕ) → x ≡ y → (o : Option StageLimits) → known_limits old.levels x ≡ o → IsSome (known_limits new.levels y)
    some y is None e = subst (λ (z : ℕ). IsSome (known_limits new.levels z)) is (ap is_some (p.says.here e))
    some y is (Some l) e = subst (λ (z : ℕ). IsSome (known_limits new.levels z)) is (ap is_some (p.grow.stay x l e))

pub pass_told : (x c s d : ℕ) (n : Note) (r : Result (Unit {0}) NoMemory) (rows : List RouteStages) (row : ℕ → Option ℕ) (t : Option ℕ) (request response : List ℕ) (old new : WireLog) → n ≡ note.Start x c s d → t ≡ row x → Gives rows t false request → Gives rows t true response
    → OnOk r (WireLogPasses x old (record { request = request; response = response }) new) → OnOk r (PassesAll rows row (n ∷ []) old new)
pass_told x c s d n (Ok u) rows row t request response old new is same q v p =
    subst (λ (m : Note). PassesAll rows row (m ∷ []) old new) (sym is)
    (passes_one x c s d rows row request response old new (subst (λ (w : Option ℕ). Gives rows w false request) same q) (subst (λ (w : Option ℕ). Gives rows w true response) same v) p)
pass_told x c s d n (Err y) rows row t request response old new is same q v p = tt

-- a note that starts none
none_begins : (n : Note) → ((x c s d : ℕ) → n ≡ note.Start x c s d → ⊥) → begun_in (n ∷ []) ≡ []
none_begins (note.Start x c s d) other = absurd (other x c s d refl)
none_begins (note.Turn k e) other = refl
none_begins (note.Arrive f octets) other = refl
none_begins (note.Move f p n) other = refl
none_begins (note.Frame c f n last) other = refl
none_begins (note.Out c n) other = refl
none_begins (note.Pause f b) other = refl
none_begins (note.Resume f b) other = refl
none_begins (note.Credit c s n) other = refl
none_begins (note.Head c s octets) other = refl
none_begins (note.Answer c octets) other = refl
none_begins (note.Waste c s n) other = refl
none_begins (note.Doom x why) other = refl
none_begins (note.Gone x) other = refl
none_begins (note.Close c code why) other = refl
none_begins (note.Fire kind id) other = refl

quiet_passes : (rows : List RouteStages) (row : ℕ → Option ℕ) (ns : List Note) (log : WireLog) → begun_in ns ≡ [] → PassesAll rows row ns log log
quiet_passes rows row ns log none = record {
  goes = λ limits h k. k;
  stay = λ x l e. e;
  come = λ routes a x unknown. subst (Said routes row ns x) (sym unknown) tt;
  all = λ x e. let never : has (begun_in ns) x ≡ false = ap (λ (xs : List ℕ). has xs x) none in absurd (cc (never, e));
}

pub other_passes : (rows : List RouteStages) (row : ℕ → Option ℕ) (n : Note) (log : WireLog) → ((x c s d : ℕ) → n ≡ note.Start x c s d → ⊥) → PassesAll rows row (n ∷ []) log log
other_passes rows row n log other = quiet_passes rows row (n ∷ []) log (none_begins n other)

pauses_begin : (fs : List FlowId) (b : BufferId) → begun_in (map (λ f. note.Pause f b) fs) ≡ []
pauses_begin [] b = refl
pauses_begin (f ∷ fs) b = pauses_begin fs b

resumes_begin : (fs : List FlowId) (b : BufferId) → begun_in (map (λ f. note.Resume f b) fs) ≡ []
resumes_begin [] b = refl
resumes_begin (f ∷ fs) b = resumes_begin fs b

-- one note, and a row of pauses or resumes
pub note_passes : (rows : List RouteStages) (row : ℕ → Option ℕ) (p : Passage) (n : Bor Note) (r : Result (Unit {0}) NoMemory) (old new : WireLog) → p ≡ passage.One n → OnOk r (PassesAll rows row (n.now ∷ []) old new) → OnOk r (PassesAll rows row (notes_of_passage p) old new)
note_passes rows row p n r old new is k = subst (λ (v : Passage). OnOk r (PassesAll rows row (notes_of_passage v) old new)) (sym is) k

pub row_passes : (rows : List RouteStages) (row : ℕ → Option ℕ) (p : Passage) (log : WireLog) → ((n : Bor Note) → p ≡ passage.One n → ⊥) → PassesAll rows row (notes_of_passage p) log log
row_passes rows row (passage.One n) log other = absurd (other n refl)
row_passes rows row (passage.Pauses fs b) log other = quiet_passes rows row (map (λ f. note.Pause f b) fs.now) log (pauses_begin fs.now b)
row_passes rows row (passage.Resumes fs b) log other = quiet_passes rows row (map (λ f. note.Resume f b) fs.now) log (resumes_begin fs.now b)

pub all_passed : (rows : List RouteStages) (row : ℕ → Option ℕ) (a b : WireLog) (notes done rest : List Note) → notes ≡ done ++ rest → rest ≡ [] → PassesAll rows row done a b → PassesAll rows row notes a b
all_passed rows row a b notes done rest e none p = subst (λ (ns : List Note). PassesAll rows row ns a b) (sym (e ∙ (ap (λ (v : List Note). done ++ v) none ∙ append-nil done))) p

-- ---- the rows of all exchanges of which stages are known
pub rows_agree : (routes : List Route) (levels : Levels) (marked : WayHistory) → HaveRows routes levels marked → (x : ℕ)
    → IfSome (known_limits levels x) (λ l. (l.request ≡ row_limits routes (row_in x marked) false) × (l.response ≡ row_limits routes (row_in x marked) true))
rows_agree routes levels marked k x = by (known_limits levels x) (k.each x)
  where
    by : (o : Option StageLimits) → IfSome o (IsRow routes (row_in x marked)) → IfSome o (λ l. (l.request ≡ row_limits routes (row_in x marked) false) × (l.response ≡ row_limits routes (row_in x marked) true))
    by None i = tt
    by (Some l) i = (i.request_is, i.response_is)
