-- An event that may follow in a wire session may come to a relay, and a line spells one item alone.
use Rattle.flow_notes.proofs.NoteLines.{event_one}
use Rattle.flow_notes.specs.Name.{AreNames}
use Rattle.flow_notes.specs.declared.events.Event.{Event}
use Rattle.proxy_config.specs.declared.config.Config.{Config}
use Rattle.relay_laws.specs.Order.{MayCome, is_new as may_be_new, may_come, named as came}
use Rattle.relay_run.specs.Lines.{SpellsNoRelay, SpellsRelay}
use Rattle.session_config.specs.ClusterNames.{names_in, resources_in}
use Rattle.session_lines.specs.WireLines.{Behind, NoLine, SpellsNoWire, SpellsWire, WireEvent, WireHeader, WireItem, WireSeen}
use Rattle.session_lines.specs.WireOrder.{MayFollowWire, is_new, may_follow_wire, named}
use Rattle.std.proofs.Common.{ap, refl, sym, ◌∙◌}
use Rattle.std.specs.List.{list_all}
use Rattle.std.specs.Prelude.{IsTrue, List, [], nat_lt, ℕ, ◌&&◌, ◌∷◌, ◌≡◌}
use Rattle.flow_notes.specs.declared.events.Event.TheVariants as event

-- ---- connections come in the order of their numbers
same_named : (es : List Event) → named es ≡ came es
same_named [] = refl
same_named (event.Accept c ∷ es) = ap (λ (v : List ℕ). c ∷ v) (same_named es)
same_named (event.Join c j ∷ es) = ap (λ (v : List ℕ). c ∷ v) (same_named es)
same_named (event.Read c o ∷ es) = same_named es
same_named (event.Gone c ∷ es) = same_named es
same_named (event.Room c n ∷ es) = same_named es
same_named (event.Tick t ∷ es) = same_named es
same_named (event.Post p n j ∷ es) = same_named es
same_named (event.Obey v ps ∷ es) = same_named es
same_named (event.Plain p ∷ es) = same_named es

same_new : (es : List Event) (c : ℕ) → is_new es c ≡ may_be_new es c
same_new es c = ap (λ (v : List ℕ). nat_lt 0 c && list_all (λ d. nat_lt d c) v) (same_named es)

may_come_too : (resources : ℕ) (es : List Event) (e : Event) → IsTrue (may_follow_wire resources es e) → IsTrue (may_come es e)
may_come_too resources es (event.Accept c) m = sym (same_new es c) ∙ m
may_come_too resources es (event.Join c j) m = sym (same_new es c) ∙ m
may_come_too resources es (event.Read c o) m = refl
may_come_too resources es (event.Gone c) m = refl
may_come_too resources es (event.Room c n) m = refl
may_come_too resources es (event.Tick t) m = refl
may_come_too resources es (event.Post p n j) m = refl
may_come_too resources es (event.Obey v ps) m = refl
may_come_too resources es (event.Plain p) m = refl

pub comes : (names : List (List ℕ)) (resources : ℕ) (es : List Event) (e : Event) → MayFollowWire names resources es e → MayCome names es e
comes names resources es e m = (m.0, m.1, may_come_too resources es e m.2)

-- ---- a line spells at most one item that may come
pub one_item : (names : List (List ℕ)) (resources : ℕ) (seen : WireSeen) (line : List ℕ) (a b : WireItem) → AreNames names → SpellsWire names resources seen line a → SpellsWire names resources seen line b → a ≡ b
one_item names resources NoLine line WireHeader WireHeader k s t = refl
one_item names resources NoLine line WireHeader (WireEvent f) k s t = absurd t.may
one_item names resources NoLine line (WireEvent e) b k s t = absurd s.may
one_item names resources (Behind es) line WireHeader b k s t = absurd s.may
one_item names resources (Behind es) line (WireEvent e) WireHeader k s t = absurd t.may
one_item names resources (Behind es) line (WireEvent e) (WireEvent f) k s t =
    ap WireEvent (event_one names e f k (s.may.0, s.may.1) (t.may.0, t.may.1) (s.is ∙ sym t.is))

-- ---- what a relay's line spells, a wire session's line spells too
pub spells_wire : (config : Config) (seen : WireSeen) (line : List ℕ) (item : WireItem) → SpellsRelay config seen line item → SpellsWire (names_in config) (resources_in config) seen line item
spells_wire config NoLine line WireHeader s = record { may = tt; is = s.is }
spells_wire config NoLine line (WireEvent e) s = absurd s.may
spells_wire config (Behind es) line WireHeader s = absurd s.may
spells_wire config (Behind es) line (WireEvent e) s = record { may = s.may.wire; is = s.is }

pub spells_none : (config : Config) (seen : WireSeen) (line : List ℕ) → SpellsNoWire (names_in config) (resources_in config) seen line → SpellsNoRelay config seen line
spells_none config seen line none = λ item s. none item (spells_wire config seen line item s)
