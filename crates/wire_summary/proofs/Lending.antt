-- The places of one exchange, written where they stand or put in.
use Rattle.std.proofs.Common.{ap, refl, subst, sym, ◌∙◌}
use Rattle.std.specs.BTreeMap.{BTreeMap, Updates, WritesThrough, get}
use Rattle.std.specs.Option.{option_map}
use Rattle.std.specs.Ordering.{is_eq, nat_cmp}
use Rattle.std.specs.Prelude.{Bool, Err, IfOk, IsSome, List, None, Ok, OnOk, Option, Result, Some, false, if◌then◌else◌, true, ℕ, ◌+◌, ◌==◌, ◌≡◌}
use Rattle.tape_summary.proofs.Spots.{equal_is, numbers_equal}
use Rattle.wire_summary.specs.Levels.{Frames, SetsSides, SetsWrite, kept_sides, sides_in, write_in, written as after}
use Rattle.wire_summary.specs.Places.{Side, Sides, bare, changed_at, framed, side_at, sides_of}
use Rattle.wire_summary.specs.declared.levels.ExchangePlaces.{ExchangePlaces}
use Rattle.wire_summary.specs.declared.levels.Levels.{Levels}
use Rattle.flow_rules.specs.declared.ids.FlowId.{FlowId}
use Rattle.io_ports.specs.declared.octets.NoMemory.{NoMemory}
use Rattle.wire_summary.specs.declared.places.Change.{Change}
use Rattle.wire_summary.specs.declared.levels.WriteChange.TheVariants as put
use Rattle.wire_summary.specs.declared.places.Change.TheVariants as change

abbrev Map : Type 0
Map = BTreeMap ℕ ExchangePlaces

-- a map in which one key has another value
abbrev HasAt : Map → ℕ → ExchangePlaces → Map → Type 0
HasAt old x w new = (q : ℕ) → get nat_cmp new q ≡ (if is_eq (nat_cmp x q) then Some w else get nat_cmp old q)

sets : (old : Levels) (x : ℕ) (w : ExchangePlaces) (sides : Sides) (m : Map) → HasAt old.exchanges x w m → sides_of w ≡ sides → SetsSides old x sides (record old { exchanges = m })
sets old x w sides m h e = record {
  limits = refl;
  started = refl;
  conns = refl;
  writes = refl;
  here = ap (option_map sides_of) (h x ∙ ap (λ (b : Bool). if b then Some w else get nat_cmp old.exchanges x) (numbers_equal x x ∙ equal_is x x refl)) ∙ ap Some e;
  others = λ y no. h y ∙ ap (λ (b : Bool). if b then Some w else get nat_cmp old.exchanges y) no;
}

written : (old m : Map) (x : ℕ) (v w : ExchangePlaces) → Some v ≡ get nat_cmp old x → WritesThrough nat_cmp (nat_cmp x) old w m → HasAt old x w m
written old m x v w found t q = (t.3 (let P : Option ExchangePlaces → Type 0 = λ o. IsSome o in subst P found refl)).0 q

kept : (old : Levels) (x : ℕ) (v : ExchangePlaces) → Some v ≡ get nat_cmp old.exchanges x → sides_in old x ≡ sides_of v
kept old x v found = ap kept_sides (sym found)

-- what was lent was changed
pub lent_sides : {T E : Type 0} (old : Levels) (x : ℕ) (m : Map) (v w : ExchangePlaces) (F : Sides → Sides) (r : Result T E) → Some v ≡ get nat_cmp old.exchanges x → WritesThrough nat_cmp (nat_cmp x) old.exchanges w m
    → IfOk r (λ n. sides_of w ≡ F (sides_of v)) → IfOk r (λ n. SetsSides old x (F (sides_in old x)) (record old { exchanges = m }))
lent_sides old x m v w F (Ok n) found t e = sets old x w (F (sides_in old x)) m (written old.exchanges m x v w found t) (e ∙ ap F (sym (kept old x v found)))
lent_sides old x m v w F (Err z) found t e = tt

pub lent_all : (old : Levels) (x : ℕ) (m : Map) (v w : ExchangePlaces) (F : Sides → Sides) → Some v ≡ get nat_cmp old.exchanges x → WritesThrough nat_cmp (nat_cmp x) old.exchanges w m → sides_of w ≡ F (sides_of v)
    → SetsSides old x (F (sides_in old x)) (record old { exchanges = m })
lent_all old x m v w F found t e = sets old x w (F (sides_in old x)) m (written old.exchanges m x v w found t) (e ∙ ap F (sym (kept old x v found)))

pub lent_framed : {E : Type 0} (old : Levels) (x : ℕ) (back : Bool) (c : Change) (v : ExchangePlaces) (r : Result ℕ E) → Some v ≡ get nat_cmp old.exchanges x → IfOk r (λ n. n ≡ framed c (side_at back (sides_of v)).levels)
    → IfOk r (λ n. n ≡ framed c (side_at back (sides_in old x)).levels)
lent_framed old x back c v (Ok n) found e = e ∙ ap (λ (s : Sides). framed c (side_at back s).levels) (sym (kept old x v found))
lent_framed old x back c v (Err z) found e = tt

-- what wasn't there was put in
fresh : (old : Levels) (x : ℕ) → None ≡ get nat_cmp old.exchanges x → sides_in old x ≡ bare
fresh old x none = ap kept_sides (sym none)

pub put_sides : (old : Levels) (x : ℕ) (m : Map) (b w : ExchangePlaces) (F : Sides → Sides) → None ≡ get nat_cmp old.exchanges x → Updates nat_cmp old.exchanges m x (Some w) → sides_of b ≡ bare → sides_of w ≡ F (sides_of b)
    → SetsSides old x (F (sides_in old x)) (record old { exchanges = m })
put_sides old x m b w F none u eb e = sets old x w (F (sides_in old x)) m (λ q. u.0 q) (e ∙ ap F (eb ∙ sym (fresh old x none)))

pub put_bare : (old : Levels) (x : ℕ) (m : Map) (w : ExchangePlaces) (F : Sides → Sides) → None ≡ get nat_cmp old.exchanges x → Updates nat_cmp old.exchanges m x (Some w) → sides_of w ≡ bare → F bare ≡ bare
    → SetsSides old x (F (sides_in old x)) (record old { exchanges = m })
put_bare old x m w F none u e f = sets old x w (F (sides_in old x)) m (λ q. u.0 q) (e ∙ sym f ∙ ap F (sym (fresh old x none)))

pub put_framed : (old : Levels) (x : ℕ) (back : Bool) (c : Change) (b : ExchangePlaces) (n : ℕ) → None ≡ get nat_cmp old.exchanges x → sides_of b ≡ bare → n ≡ framed c (side_at back (sides_of b)).levels
    → n ≡ framed c (side_at back (sides_in old x)).levels
put_framed old x back c b n none eb e = e ∙ ap (λ (s : Sides). framed c (side_at back s).levels) (eb ∙ sym (fresh old x none))

-- a frame, with its head
pub frames_done : (old mid new : Levels) (c n k m : ℕ) (f : FlowId) (r : Result (Unit {0}) NoMemory) → SetsSides old f.exchange (changed_at f.back (change.Frame n) (sides_in old f.exchange)) mid
    → k ≡ framed (change.Frame n) (side_at f.back (sides_in old f.exchange)).levels → m ≡ k + 9 → OnOk r (SetsWrite mid c (after (put.Put m) (write_in mid c)) new) → OnOk r (Frames old c f n new)
frames_done old mid new c n k m f (Ok u) s ek em w =
    let P : ℕ → Type 0 = λ v. SetsWrite mid c (after (put.Put v) (write_in mid c)) new in
    record { mid = mid; sides = s; write = subst P (em ∙ ap (λ v. v + 9) ek) w }
frames_done old mid new c n k m f (Err x) s ek em w = tt
