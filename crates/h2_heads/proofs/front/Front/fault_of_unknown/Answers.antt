use Rattle.std.proofs.Common.{Some, ap, sym, ◌∙◌}
use Rattle.h2_heads.proofs.Fronts.{late_told, tells_behind, unknown_told}
use Rattle.h2_heads.proofs.Lowest.{name_faulty, value_faulty}
use Rattle.h2_heads.proofs.Pseudos.{unknown_to}
use Rattle.h2_heads.proofs.front.Front.fault_of_unknown.Goals as goal

pub returns-then-not-is_sound_name : goal.returns-then-not-is_sound_name
returns-then-not-is_sound_name c message first =
    let unsound = rw c.requires.name at (sym c.is_sound_name.ensures ∙ c.if-not-is_sound_name.true) in
    let said = rw c.requires.name at c.fault_of_name.ensures in
    record { each = λ before is at. sym (ap Some said ∙ name_faulty message before c.args.field.now unsound) }

pub returns-then-bad_value : goal.returns-then-bad_value
returns-then-bad_value c message first =
    let sound = rw c.requires.name at (sym c.is_sound_name.ensures ∙ c.if-not-is_sound_name.false) in
    let bad = sym c.requires.value ∙ c.if-bad_value.true in
    record { each = λ before is at. sym (value_faulty message before c.args.field.now sound bad) }

pub returns-then-self : goal.returns-then-self
returns-then-self c message first =
    let sound = rw c.requires.name at (sym c.is_sound_name.ensures ∙ c.if-not-is_sound_name.false) in
    let good = sym c.requires.value ∙ c.if-bad_value.false in
    tells_behind message c.args.self.now first c.args.field.now _ sound good c.requires.pseudo (late_told message c.args.self.now c.args.field.now c.if-self.true)

pub returns : goal.returns
returns c message first =
    let sound = rw c.requires.name at (sym c.is_sound_name.ensures ∙ c.if-not-is_sound_name.false) in
    let good = sym c.requires.value ∙ c.if-bad_value.false in
    tells_behind message c.args.self.now first c.args.field.now _ sound good c.requires.pseudo (unknown_told message c.args.self.now c.args.field.now c.if-self.false (unknown_to message c.args.field.now.name c.requires.unknown))
