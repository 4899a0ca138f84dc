use Rattle.std.proofs.Common.{List, Option, Some, ap, sym, ℕ, ◌∙◌}
use Rattle.h2_heads.specs.Passes.{lowest_of_special}
use Rattle.h2_heads.proofs.Lowest.{name_faulty, regular_field, value_faulty}
use Rattle.h2_heads.proofs.front.fault_of_regular.Goals as goal

pub is_sound_regular-requires : goal.is_sound_regular-requires
is_sound_regular-requires c = rw c.requires.name c.requires.regular

pub returns-then-not-is_sound_regular : goal.returns-then-not-is_sound_regular
returns-then-not-is_sound_regular c message front =
    let unsound = rw c.requires.name at (sym c.is_sound_regular.ensures ∙ c.if-not-is_sound_regular.true) in
    let said = rw c.requires.name at c.fault_of_name.ensures in
    record { each = λ before is at. sym (ap Some said ∙ name_faulty message before c.args.field.now unsound) }

pub returns-then-bad_value : goal.returns-then-bad_value
returns-then-bad_value c message front =
    let sound = rw c.requires.name at (sym c.is_sound_regular.ensures ∙ c.if-not-is_sound_regular.false) in
    let bad = sym c.requires.value ∙ c.if-bad_value.true in
    record { each = λ before is at. sym (value_faulty message before c.args.field.now sound bad) }

pub returns : goal.returns
returns c message front =
    let sound = rw c.requires.name at (sym c.is_sound_regular.ensures ∙ c.if-not-is_sound_regular.false) in
    let good = sym c.requires.value ∙ c.if-bad_value.false in
    record {
      each = λ before is at.
          sym (regular_field message before c.args.field.now sound good c.requires.regular)
          ∙ ap (λ (first : Option (List ℕ)). lowest_of_special first c.args.field.now) (sym at)
          ∙ sym c.lowest_of_regular.ensures;
    }
