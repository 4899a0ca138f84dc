-- As many arrivals are shed as there are wholes in the sum of the states.
use Rattle.flow_notes.specs.declared.events.Event.{Event}
use Rattle.proxy_config.specs.declared.overload.Point.{Point}
use Rattle.proxy_config.specs.declared.overload.ShedRow.{ShedRow}
use Rattle.shed_points.proofs.States.{state_bounded}
use Rattle.shed_points.proofs.Sums.{wholes}
use Rattle.shed_points.specs.Shedding.{Became, Judged, arrives_at, events_of, grows, is_point, is_same, is_shed, is_silent, judged, read_point, share_of, shed_at, standing_of, state_after, sum_at, verdict_at}
use Rattle.shed_points.specs.declared.shedder.Standing.{Standing}
use Rattle.std.proofs.Common.{ap, refl, sym, ◌∙◌}
use Rattle.std.specs.Prelude.{Bool, List, None, Option, Some, [], false, if◌then◌else◌, true, ℕ, ◌+◌, ◌/◌, ◌∷◌, ◌≡◌}
use Rattle.flow_notes.specs.declared.events.Event.TheVariants as event
use Rattle.proxy_config.specs.declared.overload.Point.TheVariants as point
use Rattle.shed_points.specs.declared.shedder.Standing.TheVariants as standing
use Rattle.shed_points.specs.declared.verdict.Verdict.TheVariants as verdict

-- ---- a silent event arrives nowhere

no_read : (o : Option Standing) → is_shed o ≡ true → read_point o ≡ None
no_read None e = refl
no_read (Some standing.Served) e = cc
no_read (Some standing.Shed) e = refl

silent_nowhere : (e : Event) (js : List Judged) → is_silent e js ≡ true → arrives_at e js ≡ None
silent_nowhere (event.Accept c) js e = cc
silent_nowhere (event.Join c k) js e = refl
silent_nowhere (event.Read c octets) js e = no_read (standing_of c js) e
silent_nowhere (event.Gone c) js e = refl
silent_nowhere (event.Room c n) js e = refl
silent_nowhere (event.Tick now) js e = refl
silent_nowhere (event.Post p n job) js e = refl
silent_nowhere (event.Obey v pressures) js e = cc
silent_nowhere (event.Plain f) js e = refl

-- ---- one event more

shed_own : (p : Point) (e : Event) (x : ℕ) (b : Bool) (js : List Judged) → is_same p p ≡ true → shed_at p (Became e (if b then verdict.Shed p x else verdict.Pass) ∷ js) ≡ (if b then shed_at p js + 1 else shed_at p js)
shed_own p e x true js same = ap (λ t. if t then shed_at p js + 1 else shed_at p js) same
shed_own p e x false js same = refl

shed_other : (q p : Point) (e : Event) (x : ℕ) (b : Bool) (js : List Judged) → is_same p q ≡ false → shed_at q (Became e (if b then verdict.Shed p x else verdict.Pass) ∷ js) ≡ shed_at q js
shed_other q p e x true js other = ap (λ t. if t then shed_at q js + 1 else shed_at q js) other
shed_other q p e x false js other = refl

-- the sum with an arrival at this point, if it is one
abbrev sum_with : List ShedRow → Point → Event → List Judged → Option Point → ℕ
sum_with rows p e js o = if is_point p o then sum_at rows p js + state_after rows p (e ∷ events_of js) else sum_at rows p js

module _ (rows : List ShedRow) (p : Point) (e : Event) (js : List Judged) (before : shed_at p js ≡ sum_at rows p js / 1000000) where
  abbrev s : ℕ
  s = sum_at rows p js

  abbrev x : ℕ
  x = state_after rows p (e ∷ events_of js)

  at_own : is_same p p ≡ true → shed_at p (Became e (share_of p s x) ∷ js) ≡ (s + x) / 1000000
  at_own same = shed_own p e x (grows s x) js same ∙ ap (λ n. if grows s x then n + 1 else n) before ∙ sym (wholes s x (state_bounded rows p (e ∷ events_of js)))

  at_other : (q : Point) → is_same q p ≡ false → shed_at p (Became e (share_of q (sum_at rows q js) (state_after rows q (e ∷ events_of js))) ∷ js) ≡ s / 1000000
  at_other q other = shed_other p q e (state_after rows q (e ∷ events_of js)) (grows (sum_at rows q js) (state_after rows q (e ∷ events_of js))) js other ∙ before

by_point : (rows : List ShedRow) (p q : Point) (e : Event) (js : List Judged) → shed_at p js ≡ sum_at rows p js / 1000000
    → shed_at p (Became e (share_of q (sum_at rows q js) (state_after rows q (e ∷ events_of js))) ∷ js) ≡ sum_with rows p e js (Some q) / 1000000
by_point rows point.Accept point.Accept e js before = at_own rows point.Accept e js before refl
by_point rows point.Accept point.Read e js before = at_other rows point.Accept e js before point.Read refl
by_point rows point.Accept point.Drain e js before = at_other rows point.Accept e js before point.Drain refl
by_point rows point.Read point.Accept e js before = at_other rows point.Read e js before point.Accept refl
by_point rows point.Read point.Read e js before = at_own rows point.Read e js before refl
by_point rows point.Read point.Drain e js before = at_other rows point.Read e js before point.Drain refl
by_point rows point.Drain point.Accept e js before = at_other rows point.Drain e js before point.Accept refl
by_point rows point.Drain point.Read e js before = at_other rows point.Drain e js before point.Read refl
by_point rows point.Drain point.Drain e js before = at_own rows point.Drain e js before refl

by_arrival : (rows : List ShedRow) (p : Point) (e : Event) (js : List Judged) (o : Option Point) → shed_at p js ≡ sum_at rows p js / 1000000
    → shed_at p (Became e (verdict_at rows e js o) ∷ js) ≡ sum_with rows p e js o / 1000000
by_arrival rows p e js None before = before
by_arrival rows p e js (Some q) before = by_point rows p q e js before

by_silence : (rows : List ShedRow) (p : Point) (e : Event) (js : List Judged) (b : Bool) → is_silent e js ≡ b → shed_at p js ≡ sum_at rows p js / 1000000
    → shed_at p (Became e (if b then verdict.Silent else verdict_at rows e js (arrives_at e js)) ∷ js) ≡ sum_with rows p e js (arrives_at e js) / 1000000
by_silence rows p e js true is before = before ∙ sym (ap (λ o. sum_with rows p e js o / 1000000) (silent_nowhere e js is))
by_silence rows p e js false is before = by_arrival rows p e js (arrives_at e js) before

pub counted : (rows : List ShedRow) (p : Point) (es : List Event) → shed_at p (judged rows es) ≡ sum_at rows p (judged rows es) / 1000000
counted rows p [] = refl
counted rows p (e ∷ es) = by_silence rows p e (judged rows es) (is_silent e (judged rows es)) refl (counted rows p es)
