-- What is drawn stays, and what is kept of a tape is drawn lane by lane.
use Rattle.std.proofs.Common.{Bor, ap, arith, append_assoc, inl, inr, refl, subst, sym, ◌∙◌}
use Rattle.std.proofs.lemmas.Bool.{eqb-true}
use Rattle.std.proofs.lemmas.List.Elements.{All-contains, All-cons, All-nil, All-push, All-weaker, Contains-append_left, Contains-push}
use Rattle.std.proofs.lemmas.List.{append-nil, get_or-map, get_or_past, length-map}
use Rattle.std.proofs.lemmas.Map.Entries.{place_from_lookup}
use Rattle.std.proofs.lemmas.Option.{get_or_from_slice_get, slice_get_within}
use Rattle.std.specs.BTreeMap.{BTreeMap, get, is_at}
use Rattle.std.specs.List.{Contains, concat}
use Rattle.std.specs.Ordering.{nat_cmp}
use Rattle.std.specs.Prelude.{All, Bool, List, None, Option, Some, [], false, get_or, length, min, slice_index_or, true, ℕ, ◌+◌, ◌++◌, ◌<◌, ◌∷◌, ◌≡◌, ◌≤◌, ◌⊎◌}
use Rattle.flow_rules.specs.declared.ids.FlowId.{FlowId}
use Rattle.tape_plot.proofs.Holding.{lt_or_le}
use Rattle.tape_plot.proofs.Laning.{fits_self}
use Rattle.tape_plot.proofs.Mapping.{at_number}
use Rattle.tape_plot.specs.Flows.{lane_at, lanes_of}
use Rattle.tape_plot.specs.Lanes.{Drawn, Fits, drawn_of, fresh, most_of}
use Rattle.tape_plot.specs.Limits.{known, limit_at, place_limit_at}
use Rattle.tape_plot.specs.Path.{path_text}
use Rattle.tape_plot.specs.Picks.{IsPicked, RankedIn, lane_of, limit_kept}
use Rattle.tape_plot.specs.Sheets.{ExchangeDrawn, FlowDrawn, Grows, Has, LaneDrawn, LevelsDrawn, PlacesDrawn, TextDrawn, WriteDrawn}
use Rattle.tape_plot.specs.Scale.{columns_of, top_of}
use Rattle.tape_plot.specs.Shown.{HasLine, IsDrawn, Within}
use Rattle.tape_plot.specs.Standing.{flow_of, place_lane, places_in, write_lane}
use Rattle.tape_plot.specs.Subjects.{flow_id}
use Rattle.tape_plot.specs.declared.highest.Buffer.{Buffer}
use Rattle.tape_plot.specs.declared.choice.Lanes.{Lanes}
use Rattle.tape_plot.specs.declared.clock.Clock.{Clock}
use Rattle.tape_plot.specs.declared.connection.Connection.{Connection}
use Rattle.tape_plot.specs.declared.draw.frame.Frame.{Frame}
use Rattle.tape_plot.specs.declared.draw.line.Scene.{Scene}
use Rattle.tape_plot.specs.declared.draw.pick.Pick.{Pick}
use Rattle.tape_plot.specs.declared.draw.sheet.Sheet.{Sheet}
use Rattle.tape_plot.specs.declared.exchange.Exchange.{Exchange}
use Rattle.tape_plot.specs.declared.flow.Flow.{Flow}
use Rattle.tape_plot.specs.declared.flow.Place.{Place}
use Rattle.tape_plot.specs.declared.levels.Levels.{Levels}
use Rattle.tape_plot.specs.declared.limits.Limits.{Limits}
use Rattle.flow_rules.specs.declared.ids.BufferId.TheVariants as ids
use Rattle.tape_plot.specs.declared.highest.Buffer.TheVariants as buffer

-- ---- a lane

line_on : (P Q : List ℕ → Type 0) (first end limit : ℕ) (d : Drawn) → ((text : List ℕ) → P text → Q text) → HasLine P first end limit d → HasLine Q first end limit d
line_on P Q first end limit d on l = record {
  scene = l.scene;
  columns = l.columns;
  top = l.top;
  there = on (path_text l.scene d.base d.points) l.there;
}

drawn_on : (P Q : List ℕ → Type 0) (first end limit : ℕ) (d : Drawn) → ((text : List ℕ) → P text → Q text) → IsDrawn P first end limit d → IsDrawn Q first end limit d
drawn_on P Q first end limit d on (inl e) = inl e
drawn_on P Q first end limit d on (inr l) = inr (line_on P Q first end limit d on l)

lane_on : (P Q : List ℕ → Type 0) (first end limit : ℕ) (d : Drawn) → ((text : List ℕ) → P text → Q text) → LaneDrawn P first end limit d → LaneDrawn Q first end limit d
lane_on P Q first end limit d on l = record { fitted = l.fitted; fits = l.fits; drawn = drawn_on P Q first end limit l.fitted on l.drawn }

flat : (P : List ℕ → Type 0) (first end limit : ℕ) (d : Drawn) → most_of d.base d.points ≡ 0 → LaneDrawn P first end limit d
flat P first end limit d e = record { fitted = d; fits = fits_self d; drawn = inl e }

never : (P : List ℕ → Type 0) (first end limit : ℕ) → LaneDrawn P first end limit fresh
never P first end limit = flat P first end limit fresh refl

-- ---- a sheet

pub grows_self : (sheet : Sheet) → Grows sheet sheet
grows_self sheet = record { frame = refl; keeps = λ piece has. has }

pub grows_more : (a b c : Sheet) → Grows a b → Grows b c → Grows a c
grows_more a b c g k = record { frame = k.frame ∙ g.frame; keeps = λ piece has. k.keeps piece (g.keeps piece has) }

pub push_grows : (old new : Sheet) (piece : List ℕ) → new.frame ≡ old.frame → new.pieces.items ≡ old.pieces.items ++ piece ∷ [] → Grows old new
push_grows old new piece e f = record { frame = e; keeps = λ p has. subst (λ (v : List (List ℕ)). Contains v p) (sym f) (Contains-append_left old.pieces.items (piece ∷ []) p has) }

pub push_has : (xs ys : List (List ℕ)) (piece : List ℕ) → ys ≡ xs ++ piece ∷ [] → Contains ys piece
push_has xs ys piece e = subst (λ (v : List (List ℕ)). Contains v piece) (sym e) (Contains-push xs piece)

-- a line is a piece of its own
pub line_pushed : (pieces : List (List ℕ)) (none text line : List ℕ) → none ≡ [] → text ≡ none ++ line → Contains pieces text → Contains pieces line
line_pushed pieces none text line e f has = subst (Contains pieces) (f ∙ ap (λ (v : List ℕ). v ++ line) e) has

has_on : (a b : Sheet) (limit : ℕ) (d : Drawn) → Grows a b → Has a limit d → Has b limit d
has_on a b limit d g h = record {
  lane = subst (λ (f : Frame). LaneDrawn (Contains b.pieces.items) f.first f.end limit d) (sym g.frame) (lane_on (Contains a.pieces.items) (Contains b.pieces.items) a.frame.first a.frame.end limit d g.keeps h.lane);
}

pub has_flat : (sheet : Sheet) (limit : ℕ) (d : Drawn) → most_of d.base d.points ≡ 0 → Has sheet limit d
has_flat sheet limit d e = record { lane = flat (Contains sheet.pieces.items) sheet.frame.first sheet.frame.end limit d e }

-- its line was put on the sheet, fitted to its columns
pub has_line : (a b : Sheet) (limit : ℕ) (d fitted : Drawn) → Grows a b → Fits d fitted → HasLine (Contains b.pieces.items) a.frame.first a.frame.end limit fitted → Has b limit d
has_line a b limit d fitted g fits line = record {
  lane = record {
    fitted = fitted;
    fits = fits;
    drawn = inr (subst (λ (f : Frame). HasLine (Contains b.pieces.items) f.first f.end limit fitted) (sym g.frame) line);
  };
}

-- the line of a scene was put
pub line_put : (P : List ℕ → Type 0) (first end limit : ℕ) (scene : Scene) (d : Drawn) → scene.frame.columns ≡ columns_of first end d.width → scene.top ≡ top_of limit (most_of d.base d.points) → P (path_text scene d.base d.points)
    → HasLine P first end limit d
line_put P first end limit scene d columns top there = record { scene = scene; columns = columns; top = top; there = there }

flow_on : (a b : Sheet) (limits : Limits) (pick : Pick) (f : FlowId) (e : Exchange) → Grows a b → FlowDrawn a limits pick f e → FlowDrawn b limits pick f e
flow_on a b limits pick f e g d =
    let ps = (flow_of e f.back).places.items in
    record { places = λ p less is. has_on a b (known (place_limit_at limits f (length ps) p)) (lane_at (lanes_of ps) p) g (d.places p less is) }

exchange_on : (a b : Sheet) (limits : Limits) (pick : Pick) (x : ℕ) (e : Exchange) → Grows a b → ExchangeDrawn a limits pick x e → ExchangeDrawn b limits pick x e
exchange_on a b limits pick x e g d = record { flows = λ back. flow_on a b limits pick (flow_id x back) e g (d.flows back) }

write_on : (a b : Sheet) (limits : Limits) (pick : Pick) (c : ℕ) (k : Connection) → Grows a b → WriteDrawn a limits pick c k → WriteDrawn b limits pick c k
write_on a b limits pick c k g d = record { lane = λ is. has_on a b (known (limit_at limits (ids.Write c))) (drawn_of k.write.lane) g (d.lane is) }

-- ---- the places of a flow, one after the other

pub places_none : (sheet : Sheet) (limits : Limits) (pick : Pick) (f : FlowId) (ps : List Place) → PlacesDrawn sheet limits pick f ps 0
places_none sheet limits pick f ps = λ p less is. absurd (omega (arith, less))

pub place_next : (a b : Sheet) (limits : Limits) (pick : Pick) (f : FlowId) (ps : List Place) (i n : ℕ) (x : Place) (limit : Option ℕ) (picked : Bool) → i < length ps → n ≡ length ps → Grows a b
    → PlacesDrawn a limits pick f ps i → (IsPicked pick (buffer.Place f i) → picked ≡ true) → limit ≡ place_limit_at limits f n i → x ≡ slice_index_or ps i x → (picked ≡ true → Has b (known limit) (drawn_of x.lane))
    → PlacesDrawn b limits pick f ps (i + 1)
place_next a b limits pick f ps i n x limit picked lt en g all picks el ex one = λ p less is. by p less is (lt_or_le p i)
  where
    its_limit : known limit ≡ known (place_limit_at limits f (length ps) i)
    its_limit = ap known (el ∙ ap (λ (v : ℕ). place_limit_at limits f v i) en)

    its_lane : lane_at (lanes_of ps) i ≡ drawn_of x.lane
    its_lane = get_or-map (λ (p : Place). drawn_of p.lane) ps i x fresh lt ∙ ap (λ (p : Place). drawn_of p.lane) (sym ex)

    here : IsPicked pick (buffer.Place f i) → Has b (known (place_limit_at limits f (length ps) i)) (lane_at (lanes_of ps) i)
    here is = subst (λ (d : Drawn). Has b (known (place_limit_at limits f (length ps) i)) d) (sym its_lane) (subst (λ (v : ℕ). Has b v (drawn_of x.lane)) its_limit (one (picks is)))

    by : (p : ℕ) → p < i + 1 → IsPicked pick (buffer.Place f p) → (p < i) ⊎ (i ≤ p) → Has b (known (place_limit_at limits f (length ps) p)) (lane_at (lanes_of ps) p)
    by p less is (inl earlier) = has_on a b (known (place_limit_at limits f (length ps) p)) (lane_at (lanes_of ps) p) g (all p earlier is)
    by p less is (inr later) =
        let e : i ≡ p = omega (arith, less, later) in
        subst (λ (v : ℕ). IsPicked pick (buffer.Place f v) → Has b (known (place_limit_at limits f (length ps) v)) (lane_at (lanes_of ps) v)) e here is

pub places_done : (sheet : Sheet) (limits : Limits) (pick : Pick) (f : FlowId) (ps : List Place) (i n : ℕ) → n ≡ length ps → n ≤ i → PlacesDrawn sheet limits pick f ps i → PlacesDrawn sheet limits pick f ps (length ps)
places_done sheet limits pick f ps i n e le all = λ p less is. all p (omega (arith, e, le, less)) is

-- ---- what the rows of all exchanges come to

-- both flows of an exchange, one after the other
pub both_drawn : (mid new : Sheet) (limits : Limits) (pick : Pick) (x : ℕ) (e : Exchange) → Grows mid new → FlowDrawn mid limits pick (flow_id x false) e → FlowDrawn new limits pick (flow_id x true) e
    → ExchangeDrawn new limits pick x e
both_drawn mid new limits pick x e g request response = record { flows = by }
  where
    by : (back : Bool) → FlowDrawn new limits pick (flow_id x back) e
    by false = flow_on mid new limits pick (flow_id x false) e g request
    by true = response

-- what holds of each entry of a map holds of what is found
found : {A : Type 0} (P : ℕ × A → Type 0) (m : BTreeMap ℕ A) (x : ℕ) (a : A) → All P m.entries → get nat_cmp m x ≡ Some a → P (x, a)
found {A} P m x a all e =
    let q = place_from_lookup (is_at (nat_cmp x)) m.entries a e in
    let y : ℕ = q.1 in
    let at : get_or m.entries q.0 (x, a) ≡ (y, a) = get_or_from_slice_get m.entries q.0 (y, a) (x, a) q.2 in
    let same : x ≡ y = eqb-true x y (sym (at_number x y) ∙ q.3) in
    let p : P (y, a) = subst (λ (v : ℕ × A). P v) at (all q.0 (x, a) (slice_get_within m.entries q.0 (y, a) q.2)) in
    subst (λ (v : ℕ). P (v, a)) (sym same) p

place_drawn : (sheet : Sheet) (limits : Limits) (pick : Pick) (f : FlowId) (p : ℕ) (o : Option Exchange) → ((e : Exchange) → o ≡ Some e → ExchangeDrawn sheet limits pick f.exchange e) → IsPicked pick (buffer.Place f p)
    → LaneDrawn (Contains sheet.pieces.items) sheet.frame.first sheet.frame.end (known (place_limit_at limits f (places_in o f.back) p)) (place_lane o f.back p)
place_drawn sheet limits pick f p None has is = never (Contains sheet.pieces.items) sheet.frame.first sheet.frame.end (known (place_limit_at limits f 0 p))
place_drawn sheet limits pick f p (Some e) has is = by (lt_or_le p (length ps))
  where
    ps : List Place
    ps = (flow_of e f.back).places.items

    limit : ℕ
    limit = known (place_limit_at limits f (length ps) p)

    by : (p < length ps) ⊎ (length ps ≤ p) → LaneDrawn (Contains sheet.pieces.items) sheet.frame.first sheet.frame.end limit (lane_at (lanes_of ps) p)
    by (inl less) = (((has e refl).flows f.back).places p less is).lane
    by (inr le) =
        subst (LaneDrawn (Contains sheet.pieces.items) sheet.frame.first sheet.frame.end limit) (sym (get_or_past (lanes_of ps) p fresh (omega (arith, le, length-map ps (λ (v : Place). drawn_of v.lane)))))
        (never (Contains sheet.pieces.items) sheet.frame.first sheet.frame.end limit)

write_drawn : (sheet : Sheet) (limits : Limits) (pick : Pick) (c : ℕ) (o : Option Connection) → ((k : Connection) → o ≡ Some k → WriteDrawn sheet limits pick c k) → IsPicked pick (buffer.Write c)
    → LaneDrawn (Contains sheet.pieces.items) sheet.frame.first sheet.frame.end (known (limit_at limits (ids.Write c))) (write_lane o)
write_drawn sheet limits pick c None has is = never (Contains sheet.pieces.items) sheet.frame.first sheet.frame.end (known (limit_at limits (ids.Write c)))
write_drawn sheet limits pick c (Some k) has is = ((has k refl).lane is).lane

pub all_drawn : (old mid new : Sheet) (limits : Limits) (pick : Pick) (levels : Levels) → Grows old mid → Grows mid new → All (λ v. ExchangeDrawn mid limits pick v.0 v.1) levels.exchanges.items.entries
    → All (λ v. WriteDrawn new limits pick v.0 v.1) levels.connections.items.entries → LevelsDrawn (Contains new.pieces.items) old.frame.first old.frame.end limits pick levels
all_drawn old mid new limits pick levels g k xs cs = subst (λ (f : Frame). LevelsDrawn (Contains new.pieces.items) f.first f.end limits pick levels) (k.frame ∙ g.frame) (record { lanes = lanes })
  where
    lanes : (b : Buffer) → IsPicked pick b → LaneDrawn (Contains new.pieces.items) new.frame.first new.frame.end (known (limit_kept b levels limits)) (lane_of b levels)
    lanes (buffer.Place f p) is =
        place_drawn new limits pick f p (get nat_cmp levels.exchanges.items f.exchange)
        (λ e at. exchange_on mid new limits pick f.exchange e k (found (λ v. ExchangeDrawn mid limits pick v.0 v.1) levels.exchanges.items f.exchange e xs at)) is
    lanes (buffer.Write c) is = write_drawn new limits pick c (get nat_cmp levels.connections.items c) (λ e at. found (λ v. WriteDrawn new limits pick v.0 v.1) levels.connections.items c e cs at) is

-- ---- loops

pub exchange_next : (a b : Sheet) (limits : Limits) (pick : Pick) (xs : List (Bor ℕ × Bor Exchange)) (x : Bor ℕ × Bor Exchange) → Grows a b → All (λ v. ExchangeDrawn a limits pick v.0.now v.1.now) xs
    → ExchangeDrawn b limits pick x.0.now x.1.now → All (λ v. ExchangeDrawn b limits pick v.0.now v.1.now) (xs ++ x ∷ [])
exchange_next a b limits pick xs x g all one =
    All-push (λ v. ExchangeDrawn b limits pick v.0.now v.1.now) xs x
    (All-weaker (λ v. ExchangeDrawn a limits pick v.0.now v.1.now) (λ v. ExchangeDrawn b limits pick v.0.now v.1.now) (λ v d. exchange_on a b limits pick v.0.now v.1.now g d) xs all) one

pub write_next : (a b : Sheet) (limits : Limits) (pick : Pick) (xs : List (Bor ℕ × Bor Connection)) (x : Bor ℕ × Bor Connection) → Grows a b → All (λ v. WriteDrawn a limits pick v.0.now v.1.now) xs
    → WriteDrawn b limits pick x.0.now x.1.now → All (λ v. WriteDrawn b limits pick v.0.now v.1.now) (xs ++ x ∷ [])
write_next a b limits pick xs x g all one =
    All-push (λ v. WriteDrawn b limits pick v.0.now v.1.now) xs x
    (All-weaker (λ v. WriteDrawn a limits pick v.0.now v.1.now) (λ v. WriteDrawn b limits pick v.0.now v.1.now) (λ v d. write_on a b limits pick v.0.now v.1.now g d) xs all) one

-- ---- the text

pub pieces_next : (old into new : List ℕ) (all rest after : List (List ℕ)) (piece : List ℕ) → rest ≡ piece ∷ after → new ≡ into ++ piece → into ++ concat rest ≡ old ++ concat all → new ++ concat after ≡ old ++ concat all
pieces_next old into new all rest after piece e f g =
    ap (λ (v : List ℕ). v ++ concat after) f ∙ append_assoc into piece (concat after) ∙ ap (λ (v : List (List ℕ)). into ++ concat v) (sym e) ∙ g

pub pieces_done : (old into : List ℕ) (all rest : List (List ℕ)) → length rest ≡ 0 → into ++ concat rest ≡ old ++ concat all → into ≡ old ++ concat all
pieces_done old into all [] e g = sym (append-nil into) ∙ g
pieces_done old into all (p ∷ ps) e g = absurd (omega (arith, e))

within_all : (front : List ℕ) (xs : List (List ℕ)) (text : List ℕ) → text ≡ front ++ concat xs → All (Within text) xs
within_all front [] text e = All-nil (Within text)
within_all front (x ∷ xs) text e =
    All-cons (Within text) x xs (record { before = front; after = concat xs; is = e }) (within_all (front ++ x) xs text (e ∙ sym (append_assoc front x (concat xs))))

-- pieces that stand behind a text and before another
pub within : (front back text : List ℕ) (xs : List (List ℕ)) (piece : List ℕ) → text ≡ (front ++ concat xs) ++ back → Contains xs piece → Within text piece
within front back text xs piece e has =
    let w : Within (front ++ concat xs) piece = All-contains (Within (front ++ concat xs)) xs piece (within_all front xs (front ++ concat xs) refl) has in record {
      before = w.before;
      after = w.after ++ back;
      is = e ∙ ap (λ (v : List ℕ). v ++ back) w.is ∙ simp append_assoc;
    }

levels_on : (P Q : List ℕ → Type 0) (first end : ℕ) (limits : Limits) (pick : Pick) (levels : Levels) → ((text : List ℕ) → P text → Q text) → LevelsDrawn P first end limits pick levels → LevelsDrawn Q first end limits pick levels
levels_on P Q first end limits pick levels on d = record { lanes = λ b is. lane_on P Q first end (known (limit_kept b levels limits)) (lane_of b levels) on (d.lanes b is) }

pub levels_at : (P : List ℕ → Type 0) (a b first end : ℕ) (limits : Limits) (pick : Pick) (levels : Levels) → a ≡ first → b ≡ end → LevelsDrawn P a b limits pick levels → LevelsDrawn P first end limits pick levels
levels_at P a b first end limits pick levels e f d = subst (λ (v : ℕ). LevelsDrawn P first v limits pick levels) f (subst (λ (v : ℕ). LevelsDrawn P v b limits pick levels) e d)

-- the places of a flow were drawn, and perhaps its bar
pub flow_drawn : (a b : Sheet) (limits : Limits) (pick : Pick) (f : FlowId) (e : Exchange) (flow : Flow) → flow ≡ flow_of e f.back → PlacesDrawn a limits pick f flow.places.items (length flow.places.items) → Grows a b
    → FlowDrawn b limits pick f e
flow_drawn a b limits pick f e flow is d g =
    flow_on a b limits pick f e g (record { places = subst (λ (v : Flow). PlacesDrawn a limits pick f v.places.items (length v.places.items)) is d })

-- the text of a sheet stands behind a head and before an end
pub text_drawn : (xs : List (List ℕ)) (front back mid text : List ℕ) (a b : Clock) (l m : Limits) (lanes : Lanes) (pick : Pick) (old new : Levels) → mid ≡ front ++ concat xs → text ≡ mid ++ back → b ≡ a → m ≡ l → new ≡ old
    → pick.lanes ≡ lanes → RankedIn new m pick → LevelsDrawn (Contains xs) b.first (min b.turn b.last) m pick new → TextDrawn text a.first (min a.turn a.last) l lanes old
text_drawn xs front back mid text a b l m lanes pick old new e f g el en by ranked d =
    subst (λ (v : Clock). TextDrawn text v.first (min v.turn v.last) l lanes old) g
    (subst (λ (v : Limits). TextDrawn text b.first (min b.turn b.last) v lanes old) el
    (subst (λ (v : Levels). TextDrawn text b.first (min b.turn b.last) m lanes v) en
    (record {
      pick = pick;
      by = by;
      ranked = ranked;
      drawn = levels_on (Contains xs) (Within text) b.first (min b.turn b.last) m pick new (λ piece has. within front back text xs piece (f ∙ ap (λ (v : List ℕ). v ++ back) e) has) d;
    })))
