-- What each kind of step leaves of what ties the marks.
use Rattle.flow_rules.specs.declared.causes.Cause.{Cause}
use Rattle.flow_notes.specs.declared.notes.Note.TheVariants as note
use Rattle.proxy_config.specs.declared.config.Config.{Config}
use Rattle.std.proofs.Common.{ap, arith, refl, subst, sym, ◌∙◌}
use Rattle.std.proofs.lemmas.Bool.Decides.{nat_tests}
use Rattle.std.proofs.lemmas.List.{length-append}
use Rattle.std.specs.Option.{option_map}
use Rattle.std.specs.Prelude.{Bool, IfSome, List, None, Option, Some, [], false, if◌then◌else◌, is_some, length, true, ℕ, ◌+◌, ◌<◌, ◌==◌, ◌||◌, ◌∷◌, ◌≡◌, ◌≤◌}
use Rattle.tape_laws.specs.Dispatches.{started}
use Rattle.tape_laws.specs.History.{Marked, Noted}
use Rattle.wire_flows.specs.Flows.{Flows}
use Rattle.wire_links.specs.Links.{Links, ends_of, no_links, with_stream}
use Rattle.wire_links.specs.declared.links.exchanges.Ends.{Ends}
use Rattle.wire_state.proofs.Held.{is_number, number_same}
use Rattle.wire_state.specs.Marks.{AreWays, HasMarks, MarksAre, MayOpen, is_opened, side_stages}
use Rattle.wire_state.specs.Noting.{conn_number}
use Rattle.wire_state.specs.Ways.{Opens, Passes, WayHistory, WayStep}

each : {P Q : Ends → Type 0} (o : Option Ends) → ((e : Ends) → P e → Q e) → IfSome o P → IfSome o Q
each None f p = tt
each (Some e) f p = f e p

-- ---- before the first event
pub marks_first : (flows : Flows) (links : Links) → flows.exchanges.last ≡ 0 → links ≡ no_links → MarksAre flows links []
marks_first flows links last none = record {
  numbers = last;
  unopened = λ x above. refl;
  ends = λ x. subst (λ (v : Links). IfSome (ends_of x v) (HasMarks x [])) (sym none) tt;
}

-- ---- no number is given, none is marked, and no ends come or change
pub marks_go : (old new : Flows) (links links' : Links) (h k : WayHistory) → new.exchanges.last ≡ old.exchanges.last → ((x : ℕ) → ends_of x links' ≡ ends_of x links)
    → started k ≡ started h → ((x : ℕ) → is_opened x k ≡ is_opened x h) → MarksAre old links h → MarksAre new links' k
marks_go old new links links' h k last ends same opened m = record {
  numbers = last ∙ (m.numbers ∙ sym count);
  unopened = λ x above. opened x ∙ m.unopened x (subst (λ (v : ℕ). v < x) last above);
  ends = λ x. subst (λ (o : Option Ends). IfSome o (HasMarks x k)) (sym (ends x))
      (each (ends_of x links) (λ e is. record { some = is.some; given = subst (λ (v : ℕ). x ≤ v) (sym count) is.given; opened = is.opened ∙ sym (opened x) }) (m.ends x));
}
  where
    count : length (started k) ≡ length (started h)
    count = ap (λ (xs : List ℕ). length xs) same

-- ---- an exchange is doomed
pub marks_doomed : (x : ℕ) (why : Cause) (old new : Flows) (links links' : Links) (h : WayHistory) → new.exchanges.last ≡ old.exchanges.last → ((y : ℕ) → ends_of y links' ≡ (if x == y then None else ends_of y links))
    → MarksAre old links h → MarksAre new links' (Noted (note.Doom x why) ∷ h)
marks_doomed x why old new links links' h last ends m = record {
  numbers = last ∙ m.numbers;
  unopened = λ y above. m.unopened y (subst (λ (v : ℕ). v < y) last above);
  ends = λ y. subst (λ (o : Option Ends). IfSome o (HasMarks y (Noted (note.Doom x why) ∷ h))) (sym (ends y)) (left y (x == y));
}
  where
    left : (y : ℕ) (b : Bool) → IfSome (if b then None else ends_of y links) (HasMarks y (Noted (note.Doom x why) ∷ h))
    left y true = tt
    left y false = each (ends_of y links) (λ e is. record { some = is.some; given = is.given; opened = is.opened }) (m.ends y)

-- ---- an exchange starts
module _ (config : Config) (x c s d : ℕ) (row to : Option ℕ) (h : WayHistory) where
  abbrev then_ : WayHistory
  then_ = Noted (note.Start x c s d) ∷ Marked (Passes x row to (side_stages config row false) (side_stages config row true)) ∷ h

  more : length (started then_) ≡ length (started h) + 1
  more = length-append (started h) (x ∷ [])

  pub marks_begun : (old new : Flows) (links links' : Links) (e : Ends) → e.cluster_stream ≡ None → x ≡ old.exchanges.last + 1 → new.exchanges.last ≡ x
      → ((y : ℕ) → ends_of y links' ≡ (if x == y then Some e else ends_of y links)) → MarksAre old links h → MarksAre new links' then_
  marks_begun old new links links' e none number last ends m = record {
    numbers = last ∙ (number ∙ (ap (λ (n : ℕ). n + 1) m.numbers ∙ sym more));
    unopened = λ y above. m.unopened y (further y above);
    ends = λ y. subst (λ (o : Option Ends). IfSome o (HasMarks y then_)) (sym (ends y)) (left y (x == y) refl);
  }
    where
      further : (y : ℕ) → new.exchanges.last < y → old.exchanges.last < y
      further y above = omega (arith, last, number, above)

      mine : (y : ℕ) → x ≡ y → HasMarks y then_ e
      mine y is = record {
        some = omega (arith, is, number);
        given = omega (arith, is, number, m.numbers, more);
        opened = ap is_some none ∙ sym (m.unopened y (omega (arith, is, number)));
      }

      other : (y : ℕ) (v : Ends) → HasMarks y h v → HasMarks y then_ v
      other y v was = record { some = was.some; given = omega (arith, was.given, more); opened = was.opened }

      left : (y : ℕ) (b : Bool) → (x == y) ≡ b → IfSome (if b then Some e else ends_of y links) (HasMarks y then_)
      left y true is = mine y (is_number x y is)
      left y false is = each (ends_of y links) (other y) (m.ends y)

  pub ways_begun : (flows : Flows) (links : Links) → x ≡ flows.exchanges.last + 1 → d ≡ conn_number to → IfSome row (λ r. r < length config.routes) → MarksAre flows links h → AreWays config h → AreWays config then_
  ways_begun flows links number goal routed m ways = (record { number = number ∙ ap (λ (n : ℕ). n + 1) m.numbers; same = refl; goal = goal; routed = routed; request = refl; response = refl }, ways)

-- ---- a request gets its stream
pub may_open : (x : ℕ) (flows : Flows) (links : Links) (h : WayHistory) → is_some (ends_of x links) ≡ true → IfSome (ends_of x links) (λ e. e.cluster_stream ≡ None) → MarksAre flows links h → MayOpen x h
may_open x flows links h there none m = at (ends_of x links) there none (m.ends x)
  where
    at : (o : Option Ends) → is_some o ≡ true → IfSome o (λ e. e.cluster_stream ≡ None) → IfSome o (HasMarks x h) → MayOpen x h
    at None e n is = cc
    at (Some v) e n is = record { some = is.some; given = is.given; first = sym is.opened ∙ ap is_some n }

module _ (x s : ℕ) (h : WayHistory) where
  abbrev opening : WayStep
  opening = Marked (Opens x s)

  pub marks_opened : (flows : Flows) (links links' : Links) → MayOpen x h → ((y : ℕ) → ends_of y links' ≡ (if x == y then option_map (with_stream s) (ends_of x links) else ends_of y links))
      → MarksAre flows links h → MarksAre flows links' (opening ∷ h)
  marks_opened flows links links' may ends m = record {
    numbers = m.numbers;
    unopened = λ y above. ap (λ (b : Bool). b || is_opened y h) (apart x y (length (started h)) flows.exchanges.last may.given m.numbers above) ∙ m.unopened y above;
    ends = λ y. subst (λ (o : Option Ends). IfSome o (HasMarks y (opening ∷ h))) (sym (ends y)) (left y (x == y) refl);
  }
    where
      apart : (a b n l : ℕ) → a ≤ n → l ≡ n → l < b → (a == b) ≡ false
      apart a b n l most is above = grind (arith, nat_tests)

      mine : (v : Ends) → HasMarks x h v → HasMarks x (opening ∷ h) (with_stream s v)
      mine v was = record { some = was.some; given = was.given; opened = sym (ap (λ (b : Bool). b || is_opened x h) (number_same x)) }

      other : (y : ℕ) → (x == y) ≡ false → (v : Ends) → HasMarks y h v → HasMarks y (opening ∷ h) v
      other y e v was = record { some = was.some; given = was.given; opened = was.opened ∙ sym (ap (λ (b : Bool). b || is_opened y h) e) }

      mapped : (o : Option Ends) → IfSome o (HasMarks x h) → IfSome (option_map (with_stream s) o) (HasMarks x (opening ∷ h))
      mapped None was = tt
      mapped (Some v) was = mine v was

      left : (y : ℕ) (b : Bool) → (x == y) ≡ b → IfSome (if b then option_map (with_stream s) (ends_of x links) else ends_of y links) (HasMarks y (opening ∷ h))
      left y true is = subst (λ (z : ℕ). IfSome (option_map (with_stream s) (ends_of x links)) (HasMarks z (opening ∷ h))) (is_number x y is) (mapped (ends_of x links) (m.ends x))
      left y false is = each (ends_of y links) (other y is) (m.ends y)

  pub ways_opened : (config : Config) → MayOpen x h → AreWays config h → AreWays config (opening ∷ h)
  ways_opened config may ways = (may, ways)
