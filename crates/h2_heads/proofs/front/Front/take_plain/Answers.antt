use Rattle.std.proofs.Common.{ap, not, refl, sym, ◌∙◌}
use Rattle.h2_heads.proofs.Fronts.{takes_regular}
use Rattle.h2_heads.proofs.Lowest.{not_special, regular_field, value_faulty}
use Rattle.h2_heads.proofs.front.Front.take_plain.Goals as goal

pub returns-then-bad_value : goal.returns-then-bad_value
returns-then-bad_value c = λ message place first field plain bad. (
  record { each = λ before is at. sym (value_faulty message before field (ap not plain.sound) (sym bad ∙ c.if-bad_value.true)) },
  tt,
)

pub returns : goal.returns
returns c = λ message place first field plain bad. (
  record {
    each = λ before is at.
        sym (regular_field message before field (ap not plain.sound) (sym bad ∙ c.if-bad_value.false) plain.regular) ∙ sym (not_special _ field plain.usual);
  },
  takes_regular c.args.self.now _ place field plain.regular refl refl,
)
