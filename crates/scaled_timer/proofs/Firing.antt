-- One timer fires: what becomes of the lists and of the queue.
use Rattle.std.proofs.Common.{◌≡◌, ℕ, ◌+◌, ◌-◌, ◌<◌, ◌^◌, false, List, [], ◌∷◌, ◌++◌, map, length, refl, sym, ap, ◌∙◌, subst, append_assoc, arith}
use Rattle.std.specs.Prelude.{⊤, Option, None, Some, Result, Ok, Err, MatchOption, OnOk, is_err, is_ok, nat_eq}
use Rattle.std.specs.Bool.{if◌then◌else◌}
use Rattle.std.specs.List.{AllByRecursion}
use Rattle.std.specs.List.Sorted.{IsPermutation}
use denote.RawPtr.{Ptr}
use Rattle.link_lists.specs.Lists.{NodeLists, front_of, pull_from}
use Rattle.link_lists.proofs.Facts.{length-pull_from}
use Rattle.scaled_timer.specs.declared.timers.Entry.{Entry}
use Rattle.scaled_timer.specs.declared.fired.Fired.{Fired}
use Rattle.scaled_timer.specs.declared.fronts.Front.{Front}
use Rattle.scaled_timer.specs.declared.timers.TimerKind.{TimerKind}
use Rattle.scaled_timer.specs.Due.{Armed, due_timers}
use Rattle.scaled_timer.specs.Timing.{FiresFirst}
use Rattle.scaled_timer.specs.Entries.{armed_of, Kept}
use Rattle.scaled_timer.specs.Fronts.{due_front, NoLater}
use Rattle.scaled_timer.specs.Queue.{Queued, TakesFirst}
use Rattle.scaled_timer.specs.Merge.{timing_of, HasFronts, AreKept, FewerKept}
use Rattle.scaled_timer.proofs.Listed.{fronts-early, Kept-pulled}
use Rattle.scaled_timer.proofs.Turning as turning
use Rattle.scaled_timer.proofs.Merging.{all_permuted, none_due, least_due, none_behind, next_behind, other_fronts}

-- one more has fired
pub told_more : {Y : Type 0} (g : Armed → Y) (done more : List Y) (y : Y) (x : Armed) (before behind rest : List Armed) (all : List Y)
    → more ≡ done ++ y ∷ [] → y ≡ g x → before ≡ x ∷ rest → behind ≡ rest → done ++ map g before ≡ all → more ++ map g behind ≡ all
told_more g done more y x before behind rest all d e b r h =
    (λ i. d i ++ map g (r i)) ∙ append_assoc done (y ∷ []) (map g rest) ∙ ap (λ z. done ++ z ∷ map g rest) e ∙ sym (ap (λ l. done ++ map g l) b) ∙ h

pub nil_not_cons : (x : Armed) (xs : List Armed) → [] ≡ x ∷ xs → ⊥
nil_not_cons x xs e = cc

pub went_well : {T E P : Type 0} (r : Result T E) → is_err r ≡ false → OnOk r P → P
went_well (Ok x) e p = p
went_well (Err y) e p = cc

pub took_it : {T E A : Type 0} (a b d : A) (r : Result T E) → is_err r ≡ false → a ≡ (if is_ok r then b else d) → a ≡ b
took_it a b d (Ok x) e p = p
took_it a b d (Err y) e p = cc

module _ (kinds ppm : ℕ) where
  pub fewer_yet : (m s : ℕ) (a b c : List (List (Ptr × Entry))) → s ≡ m + 1 → FewerKept m kinds ppm a b → FewerKept 1 kinds ppm b c → FewerKept s kinds ppm a c
  fewer_yet m s a b c e f g = record {
    kept = λ latest drawn held k.
        let same : held - m - 1 ≡ held - s = omega (arith, e) in
        subst (λ h. Kept kinds ppm latest drawn h c) same (g.kept latest drawn (held - m) (f.kept latest drawn held k));
  }

  pub still_kept : (m : ℕ) (a b : List (List (Ptr × Entry))) → AreKept kinds ppm a → FewerKept m kinds ppm a b → AreKept kinds ppm b
  still_kept m a b k f = record { latest = k.latest; drawn = k.drawn; held = k.held - m; kept = f.kept k.latest k.drawn k.held k.kept }

  pub kept_early : (a : List (List (Ptr × Entry))) → AreKept kinds ppm a → (k : ℕ) → MatchOption (front_of k a) ⊤ (λ n. n.1.at < 2 ^ 60)
  kept_early a k = fronts-early kinds ppm k.latest k.drawn k.held a k.kept

-- an empty queue: no timer is due
pub nothing : (kinds : List TimerKind) (ppm now : ℕ) (ls : List (List (Ptr × Entry))) (fs : List Front) → AreKept (length kinds) ppm ls → HasFronts kinds ppm now ls (length kinds) fs → fs ≡ [] → due_timers kinds ppm now (armed_of ls) ≡ []
nothing kinds ppm now ls fs k h e = turning.nothing-due kinds ppm now ls k.kept.same (none_due kinds ppm now ls (length kinds) (subst (HasFronts kinds ppm now ls (length kinds)) e h)) k.kept.rises

module _ (kinds : List TimerKind) (ppm now : ℕ) (s : NodeLists Entry) (k : AreKept (length kinds) ppm s.lists) (f : Front) (old rest : Queued) (h : HasFronts kinds ppm now s.lists (length kinds) old.fronts) (t : TakesFirst f old rest) where
  abbrev Is : Front → Type 0
  Is g = (g.kind < length kinds) × (due_front kinds ppm now s.lists g.kind ≡ Some g)

  each : AllByRecursion Is (f ∷ rest.fronts)
  each = all_permuted Is old.fronts (f ∷ rest.fronts) t.taken h.each

  pub low : f.kind < length kinds
  low = each.0.0

  pub list_low : f.kind < length s.lists
  list_low = let l = low in let same = k.kept.same in omega (arith, l, same)

  pub at : due_front kinds ppm now s.lists f.kind ≡ Some f
  at = each.0.1

  pub least : (i : ℕ) → i < length kinds → NoLater (Some f) (due_front kinds ppm now s.lists i)
  least = least_due kinds ppm now s.lists (length kinds) f old.fronts h t.first

  abbrev pub node : Ptr × Entry
  node = turning.node kinds ppm now s.lists f k.kept.same low at least k.kept.rises k.kept.apart k.kept.named

  pub node_first : front_of f.kind s.lists ≡ Some node
  node_first = turning.node_first kinds ppm now s.lists f k.kept.same low at least k.kept.rises k.kept.apart k.kept.named

  -- the lists without it
  abbrev pub Left : NodeLists Entry → Type 0
  Left new = new ≡ record { lists = pull_from node.0 s.lists; retired = s.retired ++ node.0 ∷ [] }

  pub taken_is : (r : Option Entry) (new : NodeLists Entry) → MatchOption (front_of f.kind s.lists) ⊤ (λ n. (r ≡ Some n.1) × (new ≡ record { lists = pull_from n.0 s.lists; retired = s.retired ++ n.0 ∷ [] })) → (r ≡ Some node.1) × Left new
  taken_is r new m = subst (λ o. MatchOption o ⊤ (λ n. (r ≡ Some n.1) × (new ≡ record { lists = pull_from n.0 s.lists; retired = s.retired ++ n.0 ∷ [] }))) node_first m

  module _ (new : NodeLists Entry) (is : Left new) where
    lists_are : new.lists ≡ pull_from node.0 s.lists
    lists_are = ap (λ (l : NodeLists Entry). l.lists) is

    pub fewer : FewerKept 1 (length kinds) ppm s.lists new.lists
    fewer = record {
      kept = λ latest drawn held K. subst (Kept (length kinds) ppm latest drawn (held - 1)) (sym lists_are)
          (Kept-pulled (length kinds) ppm latest drawn held s.lists K node.0 (turning.there kinds ppm now s.lists f k.kept.same low at least k.kept.rises k.kept.apart k.kept.named));
    }

    pub new_low : f.kind < length new.lists
    new_low = let l = list_low in let same = ap length lists_are ∙ length-pull_from node.0 s.lists in omega (arith, l, same)

    pub new_early : (i : ℕ) → MatchOption (front_of i new.lists) ⊤ (λ n. n.1.at < 2 ^ 60)
    new_early = kept_early (length kinds) ppm new.lists (still_kept (length kinds) ppm 1 s.lists new.lists k fewer)

    pub fires : (told : Fired) → told ≡ record { kind = f.kind; id = node.1.id } → FiresFirst told now (timing_of kinds ppm s) (timing_of kinds ppm new)
    fires told e = turning.fires_first kinds ppm now s.lists f k.kept.same low at least k.kept.rises k.kept.apart k.kept.named told (timing_of kinds ppm s) (timing_of kinds ppm new)
        refl refl refl refl refl (ap armed_of lists_are) (ap (λ (l : NodeLists Entry). l.retired) is) refl e

    same : (i : ℕ) → nat_eq f.kind i ≡ false → due_front kinds ppm now new.lists i ≡ due_front kinds ppm now s.lists i
    same i d = ap (λ l. due_front kinds ppm now l i) lists_are ∙ other_fronts kinds ppm now f.kind node s.lists node_first k.kept.named i d

    pub last_front : due_front kinds ppm now new.lists f.kind ≡ None → HasFronts kinds ppm now new.lists (length kinds) rest.fronts
    last_front e = none_behind kinds ppm now (length kinds) s.lists new.lists f old.fronts rest.fronts h t.taken same e

    pub next_front : (g : Front) (more : List Front) → due_front kinds ppm now new.lists f.kind ≡ Some g → IsPermutation (g ∷ rest.fronts) more → HasFronts kinds ppm now new.lists (length kinds) more
    next_front g more e p = next_behind kinds ppm now (length kinds) s.lists new.lists f old.fronts rest.fronts h t.taken same g more e p
