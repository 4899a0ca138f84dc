-- A session that breaks no rule is run to its end.
use Rattle.config_tables.specs.Reading.{config_of}
use Rattle.flow_notes.specs.Event.{event_spelling}
use Rattle.flow_notes.specs.Line.{newline}
use Rattle.flow_notes.specs.Name.{AreNames}
use Rattle.flow_notes.specs.declared.events.Event.{Event}
use Rattle.proxy_config.specs.declared.config.Config.{Config}
use Rattle.session_config.specs.ClusterNames.{names_in, resources_in}
use Rattle.session_lines.specs.WireLines.{Behind, NoLine, SpellsNoWire, WireSeen, is_headed, wire_event_lines, wire_header, wire_text}
use Rattle.session_lines.specs.WireOrder.{MayFollowWireAll}
use Rattle.session_run.specs.Ending.{Cut, HasLine, IsRefused, Long, MayNotCome}
use Rattle.session_run.specs.Tells.{Replayed}
use Rattle.session_run.specs.declared.status.Status.{Status}
use Rattle.shed_run.proofs.Retelling.{told_of}
use Rattle.shed_run.specs.Allowed.{Completes, IsAllowedShed}
use Rattle.shed_run.specs.Played.{shed_kind}
use Rattle.shed_run.specs.ShedLines.{IsShedSeen, SpellsNoShed, SpellsOwn, is_own}
use Rattle.std.proofs.Common.{ap, append_assoc, arith, inl, inr, length-append, refl, subst, sym, ◌∙◌}
use Rattle.std.proofs.lemmas.List.{append_cancel_left}
use Rattle.std.specs.List.{AllByRecursion}
use Rattle.std.specs.Prelude.{Bool, List, None, Ok, Option, Result, Some, [], false, length, take, true, ℕ, ◌++◌, ◌∷◌, ◌≡◌}
use Rattle.wire_run.proofs.Completing.{events_in_front, unrefused}
use Rattle.wire_run.specs.Allowed.{IsUnrefused}
use Rattle.session_run.specs.declared.status.Status.TheVariants as status

-- ---- no post of the shedder's is among the lines

last_of_all : (more : List Event) (e : Event) (ds : List Event) → AllByRecursion (λ f. is_own f ≡ false) (more ++ (e ∷ ds)) → is_own e ≡ false
last_of_all [] e ds all = all.0
last_of_all (m ∷ more) e ds all = last_of_all more e ds all.1

unlike : (b : Bool) → b ≡ true → b ≡ false → ⊥
unlike b is isnt = let k : true ≡ false = sym is ∙ isnt in cc

module _ (names : List (List ℕ)) (resources : ℕ) (are : AreNames names) (text read ys rest : List ℕ) (es : List Event) (all : MayFollowWireAll names resources es) (none_own : AllByRecursion (λ e. is_own e ≡ false) es)
    (text_is : text ≡ wire_text names (Behind es)) (split : text ≡ read ++ ys) where
  no_own : (seen : WireSeen) → IsShedSeen names resources seen → read ≡ wire_text names seen ++ rest → (n : ℕ) → HasLine (wire_text names seen) rest n → SpellsOwn names resources seen (take n rest) → ⊥
  no_own NoLine may reads n has own = own.spells.may
  no_own (Behind ds) may reads n has own =
      let k = events_in_front names resources are (own.own ∷ ds) es (has.begins.rest ++ ys) (own.spells.may, may.may) all lines in
      unlike (is_own own.own) own.is (last_of_all k.0 own.own ds (let P : List Event → Type 0 = λ v. AllByRecursion (λ e. is_own e ≡ false) v in subst P k.1 none_own))
    where
      parts : (x y z w : List ℕ) → (x ++ (y ++ newline)) ++ (z ++ w) ≡ (x ++ (y ++ 10 ∷ z)) ++ w
      parts x y z w =
          sym (append_assoc (x ++ (y ++ newline)) z w)
          ∙ ap (λ (v : List ℕ). v ++ w) (append_assoc x (y ++ newline) z ∙ ap (λ (v : List ℕ). x ++ v) (append_assoc y newline z))

      front : List ℕ
      front = wire_header ++ newline

      whole : front ++ ((wire_event_lines names ds ++ (event_spelling names own.own ++ newline)) ++ (has.begins.rest ++ ys)) ≡ front ++ wire_event_lines names es
      whole =
          ap (λ (v : List ℕ). front ++ v) (parts (wire_event_lines names ds) (event_spelling names own.own) has.begins.rest ys)
          ∙ ap (λ (v : List ℕ). front ++ ((wire_event_lines names ds ++ v) ++ ys)) (ap (λ (v : List ℕ). v ++ 10 ∷ has.begins.rest) own.spells.is ∙ sym has.begins.is)
          ∙ sym (append_assoc front (wire_event_lines names ds ++ rest) ys)
          ∙ ap (λ (v : List ℕ). v ++ ys) (sym (append_assoc front (wire_event_lines names ds) rest))
          ∙ ap (λ (v : List ℕ). v ++ ys) (sym reads)
          ∙ sym split
          ∙ text_is

      lines : (wire_event_lines names ds ++ (event_spelling names own.own ++ newline)) ++ (has.begins.rest ++ ys) ≡ wire_event_lines names es
      lines = append_cancel_left front ((wire_event_lines names ds ++ (event_spelling names own.own ++ newline)) ++ (has.begins.rest ++ ys)) (wire_event_lines names es) whole

  -- so the line is refused by the rules of a wire session
  as_wire : (seen : WireSeen) → IsShedSeen names resources seen → read ≡ wire_text names seen ++ rest → IsRefused (SpellsNoShed names resources seen) (is_headed seen) (wire_text names seen) rest (Some ys)
      → IsRefused (SpellsNoWire names resources seen) (is_headed seen) (wire_text names seen) rest (Some ys)
  as_wire seen may reads (MayNotCome n has (inl none)) = MayNotCome n has none
  as_wire seen may reads (MayNotCome n has (inr own)) = absurd (no_own seen may reads n has own)
  as_wire seen may reads (Long broken within) = Long broken within
  as_wire seen may reads (Cut no_line fits unended end) = Cut no_line fits unended end

-- ---- the run

same_config : {E : Type 0} (c d : Config) (r : Result Config E) → r ≡ Ok c → r ≡ Ok d → c ≡ d
same_config c d r e f = let k : Ok c ≡ Ok d = sym e ∙ f in cc

as_configured : (config : Config) (config_text text : List ℕ) (k : Config) → config_of config_text ≡ Ok config → config_of config_text ≡ Ok k → IsAllowedShed config text → IsAllowedShed k text
as_configured config config_text text k e f a = let P : Config → Type 0 = λ v. IsAllowedShed v text in subst P (same_config config k (config_of config_text) e f) a

completed : (how : Status) (config : Config) (config_text text : List ℕ) (left_new out_old out_new : Option (List ℕ)) → config_of config_text ≡ Ok config → (how ≡ status.Usage → ⊥) → (how ≡ status.Config → ⊥)
    → Replayed shed_kind config_text (Some text) left_new out_old out_new how → IsAllowedShed config text → IsUnrefused how
completed status.Done config config_text text left_new out_old out_new c u f r a = tt
completed status.Memory config config_text text left_new out_old out_new c u f r a = tt
completed status.ReadFault config config_text text left_new out_old out_new c u f r a = tt
completed status.WriteFault config config_text text left_new out_old out_new c u f r a = tt
completed status.Usage config config_text text left_new out_old out_new c u f r a = u refl
completed status.Config config config_text text left_new out_old out_new c u f r a = f refl
completed status.Session config config_text text None out_old out_new c u f r a = r.consumes
completed status.Session config config_text text (Some ys) out_old out_new c u f r a =
    let k = r.tells.stands in
    let t = told_of status.Session config_text r.read r.text (Some ys) r.tells in
    let b = as_configured config config_text text t.config c t.configured a in
    let P : Config → Type 0 = λ v. AreNames (names_in v) in
    let named = subst P (same_config k.config t.config (config_of config_text) k.configured t.configured) k.named in
    let names = names_in t.config in
    let resources = resources_in t.config in
    let refused = as_wire names resources named text r.read ys t.rest b.wire.events b.wire.may b.none_own b.wire.is r.consumes t.seen t.may t.reads t.ends in
    unrefused names resources named text r.read ys t.rest t.seen b.wire.events b.wire.may b.wire.is b.wire.short t.may.may r.consumes t.reads refused
completed status.TooLong config config_text text None out_old out_new c u f r a = r.consumes
completed status.TooLong config config_text text (Some ys) out_old out_new c u f r a =
    let t = r.tells in
    let most = a.wire.within in
    let more = t.ends.more in
    let p = ap length r.consumes ∙ length-append r.read ys in
    let q = ap length t.reads ∙ length-append t.lines t.rest in
    omega (arith, most, more, p, q)

pub completes : (config : Config) (config_text : List ℕ) (left_old left_new out_old out_new : Option (List ℕ)) (how : Status) → config_of config_text ≡ Ok config → (how ≡ status.Usage → ⊥) → (how ≡ status.Config → ⊥)
    → Replayed shed_kind config_text left_old left_new out_old out_new how → Completes config left_old how
completes config config_text None left_new out_old out_new how c u f r = tt
completes config config_text (Some text) left_new out_old out_new how c u f r = completed how config config_text text left_new out_old out_new c u f r

pub completes_memory : (config : Config) (left : Option (List ℕ)) (how : Status) → how ≡ status.Memory → Completes config left how
completes_memory config None how e = tt
completes_memory config (Some text) how e = λ k. (let P : Status → Type 0 = λ v. IsUnrefused v in subst P (sym e) tt)
