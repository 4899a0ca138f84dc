-- Events that a core carried out one after the other.
use Rattle.flow_notes.specs.declared.events.Event.{Event}
use Rattle.flow_notes.specs.declared.notes.Note.{Note}
use Rattle.proxy_config.specs.declared.overload.ShedRow.{ShedRow}
use Rattle.shed_points.specs.Dispatching.{BreaksIn, Carries, CarriesAll, Sheds}
use Rattle.shed_points.specs.ShedList.{as_list, comes_to, instead, keeps, kept}
use Rattle.shed_points.specs.Shedders.{Judges, ShedderIs}
use Rattle.shed_points.specs.Shedding.{Judged, shed_at, verdict_of}
use Rattle.shed_points.specs.declared.shedder.Shedder.{Shedder}
use Rattle.shed_points.specs.declared.verdict.Verdict.{Verdict}
use Rattle.std.proofs.Common.{ap, inl, inr, refl, subst, sym, ◌∙◌}
use Rattle.std.specs.Prelude.{Err, List, Ok, Option, Result, [], false, if◌then◌else◌, true, ℕ, ◌++◌, ◌∷◌, ◌≡◌}
use Rattle.worker_core.specs.Sessions.{BreaksOff, CarriesOut, MayTake, RestsWire}
use Rattle.worker_core.specs.declared.worker.Kind.{Kind}
use Rattle.proxy_config.specs.declared.overload.Point.TheVariants as point
use Rattle.worker_core.specs.declared.worker.Kind.TheVariants as kind

-- one event
pub one_carried : (old new : Kind) (a b : List Note) (e : Event) → CarriesOut old a e new b → CarriesAll old a (e ∷ []) new b
one_carried old new a b e c = (new, b, c, (refl, refl))

pub one_broken : (old : Kind) (a b : List Note) (e : Event) → BreaksOff old a e b → BreaksIn old a (e ∷ []) b
one_broken old a b e k = inl k

-- these and those
pub both_carried : (es fs : List Event) (old mid new : Kind) (a b c : List Note) → CarriesAll old a es mid b → CarriesAll mid b fs new c → CarriesAll old a (es ++ fs) new c
both_carried [] fs old mid new a b c k more =
    let P : Kind → Type 0 = λ v. CarriesAll v b fs new c in
    let Q : List Note → Type 0 = λ v. CarriesAll old v fs new c in
    subst Q k.1 (subst P k.0 more)
both_carried (e ∷ es) fs old mid new a b c k more = (k.0, k.1, k.2, both_carried es fs k.0 mid new k.1 b c k.3 more)

-- memory was refused before the first
pub none_carried : (es : List Event) (old : Kind) (a : List Note) → RestsWire old → BreaksIn old a es a
none_carried [] old a r = refl
none_carried (e ∷ es) (kind.Wire session) a r = inl (inl refl)
none_carried (e ∷ es) (kind.Plain core) a r = absurd r

-- in these, so in these and those
pub broken_before : (es fs : List Event) (old : Kind) (a b : List Note) → RestsWire old → BreaksIn old a es b → BreaksIn old a (es ++ fs) b
broken_before [] fs old a b r k = let P : List Note → Type 0 = λ v. BreaksIn old a fs v in subst P (sym k) (none_carried fs old a r)
broken_before (e ∷ es) fs old a b r (inl k) = inl k
broken_before (e ∷ es) fs (kind.Wire session) a b r (inr (kind.Wire mid, between, c, more)) = inr (kind.Wire mid, between, c, broken_before es fs (kind.Wire mid) between b (c.well, c.sound) more)
broken_before (e ∷ es) fs (kind.Wire session) a b r (inr (kind.Plain mid, between, c, more)) = absurd c
broken_before (e ∷ es) fs (kind.Plain core) a b r (inr k) = absurd r

-- these were carried out, and it was refused in those
pub broken_behind : (es fs : List Event) (old mid : Kind) (a b c : List Note) → CarriesAll old a es mid b → BreaksIn mid b fs c → BreaksIn old a (es ++ fs) c
broken_behind [] fs old mid a b c k more =
    let P : Kind → Type 0 = λ v. BreaksIn v b fs c in
    let Q : List Note → Type 0 = λ v. BreaksIn old v fs c in
    subst Q k.1 (subst P k.0 more)
broken_behind (e ∷ es) fs old mid a b c k more = inr (k.0, k.1, k.2, broken_behind es fs k.0 mid k.1 b c k.3 more)

-- ---- one dispatch

pub may_take : (k : Kind) (notes : List Note) (e : Event) → RestsWire k → MayTake k notes e
may_take (kind.Wire session) notes e r = λ well. r.1
may_take (kind.Plain core) notes e r = absurd r

pub kept_is : (e : Event) (v : Verdict) → keeps v ≡ true → kept e v ≡ e ∷ []
kept_is e v k = ap (λ b. if b then e ∷ [] else []) k

pub kept_none : (e : Event) (v : Verdict) → keeps v ≡ false → kept e v ≡ []
kept_none e v k = ap (λ b. if b then e ∷ [] else []) k

pub carries_as : {A E : Type 0} (k new : Kind) (n m : List Note) (es fs : List Event) (r : Result A E) → fs ≡ es → Carries k n es new m r → Carries k n fs new m r
carries_as k new n m es fs r is c = let P : List Event → Type 0 = λ l. Carries k n l new m r in subst P (sym is) c

-- ---- what an event comes to

module _ (s t : Shedder) (e : Event) (v : Verdict) (k : Kind) (n : List Note) (j : Judges s e t (Ok v)) where
  -- memory was refused in it, or in what is dispatched in its stead
  module _ {E : Type 0} (x : E) (u : Shedder) (new : Kind) (o : List Note) where
    broken_as : (rows : List ShedRow) (js : List Judged) (i : ShedderIs s rows js) → BreaksIn k n (comes_to e v (shed_at point.Drain js)) o → BreaksIn k n (comes_to e (verdict_of rows e js) (shed_at point.Drain js)) o
    broken_as rows js i b = let P : Verdict → Type 0 = λ w. BreaksIn k n (comes_to e w (shed_at point.Drain js)) o in subst P (j.goes rows js i).0 b

    pub kept_broken : RestsWire k → BreaksIn k n (kept e v) o → Sheds {E = E} s k n e u new o (Err x)
    kept_broken r b = record { goes = λ rows js i. broken_as rows js i (broken_before (kept e v) (as_list (instead e v (shed_at point.Drain js))) k n o r b) }

    pub stead_broken : (mid : Kind) (m : List Note) (stead : Option Event) (p : ℕ) → CarriesAll k n (kept e v) mid m → BreaksIn mid m (as_list stead) o → stead ≡ instead e v p → p ≡ s.posts → Sheds {E = E} s k n e u new o (Err x)
    stead_broken mid m stead p c b is posts = record {
      goes = λ rows js i.
          let P : Option Event → Type 0 = λ w. BreaksIn mid m (as_list w) o in
          broken_as rows js i (broken_behind (kept e v) (as_list (instead e v (shed_at point.Drain js))) k mid n m o c (subst P (is ∙ ap (λ q. instead e v q) (posts ∙ i.posts_are)) b));
    }

  pub whole_carried : {E : Type 0} (mid new : Kind) (m o : List Note) (stead : Option Event) (p : ℕ) → CarriesAll k n (kept e v) mid m → CarriesAll mid m (as_list stead) new o → stead ≡ instead e v p → p ≡ s.posts → Sheds {E = E} s k n e t new o (Ok v)
  whole_carried mid new m o stead p c d is posts = record {
    goes = λ rows js i.
        let P : Option Event → Type 0 = λ w. CarriesAll mid m (as_list w) new o in
        let g = j.goes rows js i in
        (g.0, g.2, both_carried (kept e v) (as_list (instead e v (shed_at point.Drain js))) k mid new n m o c (subst P (is ∙ ap (λ q. instead e v q) (posts ∙ i.posts_are)) d));
  }

-- memory was refused before it
pub judge_broken : {E : Type 0} (s u : Shedder) (e : Event) (x : E) (k : Kind) (n : List Note) → RestsWire k → Sheds {E = E} s k n e u k n (Err x)
judge_broken s u e x k n r = record { goes = λ rows js i. none_carried (comes_to e (verdict_of rows e js) (shed_at point.Drain js)) k n r }

-- whatever the refusal and the shedder then are
pub broken_still : {E F : Type 0} (s t u : Shedder) (e : Event) (x : E) (y : F) (k new : Kind) (n o : List Note) → Sheds {E = E} s k n e t new o (Err x) → Sheds {E = F} s k n e u new o (Err y)
broken_still s t u e x y k new n o b = record { goes = b.goes }
