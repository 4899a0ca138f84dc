-- The states of points.
use Rattle.flow_notes.specs.declared.events.Event.{Event}
use Rattle.overload_core.specs.ActionStates.{greatest_of}
use Rattle.overload_core.specs.States.{state_of}
use Rattle.proxy_config.specs.contracts.overload.PointPartialEq.TheImpl as point_eq
use Rattle.proxy_config.specs.declared.overload.Form.{Form}
use Rattle.proxy_config.specs.declared.overload.Point.{Point}
use Rattle.proxy_config.specs.declared.overload.ShedRow.{ShedRow}
use Rattle.shed_points.specs.Shedding.{is_same, point_state, row_state, state_after, state_at}
use Rattle.std.proofs.Common.{Bool, ap, arith, false, refl, sym, true, ℕ, ◌*◌, ◌-◌, ◌/◌, ◌∙◌, ◌≡◌, ◌≤◌}
use Rattle.std.proofs.lemmas.Bool.{leb-false}
use Rattle.std.proofs.lemmas.Nat.{div_below}
use Rattle.std.specs.Prelude.{List, [], cond, filter, if◌then◌else◌, length, map, max, nat_le, slice_index, ◌∷◌}
use Rattle.flow_notes.specs.declared.events.Event.TheVariants as event
use Rattle.proxy_config.specs.declared.overload.Form.TheVariants as form
use Rattle.proxy_config.specs.declared.overload.Point.TheVariants as point

-- what `==` of two points answers
eq_is : (p q : Point) → (point_eq.ghosts).eq p q ≡ is_same p q
eq_is point.Accept point.Accept = refl
eq_is point.Accept point.Read = refl
eq_is point.Accept point.Drain = refl
eq_is point.Read point.Accept = refl
eq_is point.Read point.Read = refl
eq_is point.Read point.Drain = refl
eq_is point.Drain point.Accept = refl
eq_is point.Drain point.Read = refl
eq_is point.Drain point.Drain = refl

-- a row of this point, and one of another
pub own_row : (r : ShedRow) (ps : List ℕ) (p : Point) (n : ℕ) → (point_eq.ghosts).eq r.point p ≡ true → n ≡ row_state r ps → n ≡ state_at r ps p
own_row r ps p n same is = is ∙ sym (ap (λ b. if b then row_state r ps else 0) (sym (eq_is r.point p) ∙ same))

pub other_row : (r : ShedRow) (ps : List ℕ) (p : Point) → (point_eq.ghosts).eq r.point p ≡ false → 0 ≡ state_at r ps p
other_row r ps p other = sym (ap (λ b. if b then row_state r ps else 0) (sym (eq_is r.point p) ∙ other))

picked : (ps : List ℕ) (r : ShedRow) (rest : List ShedRow) (b : Bool) → greatest_of (map (λ (u : ShedRow). row_state u ps) (cond b (r ∷ rest) rest)) ≡ max (if b then row_state r ps else 0) (greatest_of (map (λ (u : ShedRow). row_state u ps) rest))
unfolding greatest_of
picked ps r rest true = refl
picked ps r rest false = omega arith

-- a row more
pub row_more : (r : ShedRow) (rows : List ShedRow) (ps : List ℕ) (p : Point) → point_state (r ∷ rows) ps p ≡ max (state_at r ps p) (point_state rows ps p)
row_more r rows ps p = picked ps r (filter (λ (u : ShedRow). is_same u.point p) rows) (is_same r.point p)

pub no_rows : (ps : List ℕ) (p : Point) → point_state [] ps p ≡ 0
unfolding greatest_of
no_rows ps p = refl

-- the greatest so far, with the next row
pub row_taken : (r : ShedRow) (rest after : List ShedRow) (ps : List ℕ) (p : Point) (most state new whole : ℕ) → rest ≡ r ∷ after → state ≡ state_at r ps p → new ≡ max most state → max most (point_state rest ps p) ≡ whole
    → max new (point_state after ps p) ≡ whole
row_taken r rest after ps p most state new whole is same greater before =
    let k = ap (λ (l : List ShedRow). point_state l ps p) is ∙ row_more r after ps p in
    omega (arith, k, same, greater, before)

pub no_row_left : (rest : List ShedRow) (ps : List ℕ) (p : Point) (most whole : ℕ) → length rest ≡ 0 → max most (point_state rest ps p) ≡ whole → most ≡ whole
no_row_left [] ps p most whole none before = let k = no_rows ps p in omega (arith, k, before)
no_row_left (r ∷ rest) ps p most whole none before = absurd (omega (arith, none))

-- ---- no state is above the whole

bounded : (b : Bool) (m n : ℕ) → m ≤ 1000000 → (b ≡ false → n ≤ 1000000) → cond b m n ≤ 1000000
bounded true m n h k = h
bounded false m n h k = k refl

part_bounded : (scaling saturation pressure : ℕ) → nat_le pressure scaling ≡ false → nat_le saturation pressure ≡ false → (pressure - scaling) * 1000000 / (saturation - scaling) ≤ 1000000
part_bounded scaling saturation pressure f g =
    let above = leb-false pressure scaling f in
    let below = leb-false saturation pressure g in
    let k = div_below ((pressure - scaling) * 1000000) (saturation - scaling) 1000000 (omega (arith, above, below)) (omega (arith, above, below)) in
    omega (arith, k)

form_bounded : (form : Form) (pressure : ℕ) → state_of form pressure ≤ 1000000
form_bounded (form.Threshold value) pressure = bounded (nat_le value pressure) 1000000 0 (omega arith) (λ _. omega arith)
form_bounded (form.Scaled scaling saturation) pressure =
    bounded (nat_le pressure scaling) 0 (cond (nat_le saturation pressure) 1000000 ((pressure - scaling) * 1000000 / (saturation - scaling))) (omega arith)
    (λ f. bounded (nat_le saturation pressure) 1000000 ((pressure - scaling) * 1000000 / (saturation - scaling)) (omega arith) (λ g. part_bounded scaling saturation pressure f g))

point_bounded : (rows : List ShedRow) (ps : List ℕ) (p : Point) → point_state rows ps p ≤ 1000000
point_bounded [] ps p = let k = no_rows ps p in omega (arith, k)
point_bounded (r ∷ rows) ps p =
    let k = row_more r rows ps p in
    let one : state_at r ps p ≤ 1000000 = bounded (is_same r.point p) (row_state r ps) 0 (form_bounded r.form (slice_index ps r.resource)) (λ _. omega arith) in
    let more = point_bounded rows ps p in
    omega (arith, k, one, more)

pub state_bounded : (rows : List ShedRow) (p : Point) (es : List Event) → state_after rows p es ≤ 1000000
state_bounded rows p [] = omega arith
state_bounded rows p (event.Obey v pressures ∷ es) = point_bounded rows pressures p
state_bounded rows p (event.Accept c ∷ es) = state_bounded rows p es
state_bounded rows p (event.Join c k ∷ es) = state_bounded rows p es
state_bounded rows p (event.Read c octets ∷ es) = state_bounded rows p es
state_bounded rows p (event.Gone c ∷ es) = state_bounded rows p es
state_bounded rows p (event.Room c n ∷ es) = state_bounded rows p es
state_bounded rows p (event.Tick now ∷ es) = state_bounded rows p es
state_bounded rows p (event.Post q n job ∷ es) = state_bounded rows p es
state_bounded rows p (event.Plain e ∷ es) = state_bounded rows p es
