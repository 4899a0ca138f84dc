use Rattle.h2_session.proofs.Folding.{all_taken, one_taken, with_value, written}
use Rattle.h2_session.proofs.named.values_of.Goals as goal
use Rattle.h2_session.specs.Errors.{settings_of}
use Rattle.h2_session.specs.Values.{no_values}
use Rattle.std.proofs.Common.{ap, arith, get_or, if◌then◌else◌, min, ℕ, ◌==◌, ◌∙◌, ◌≡◌}
use Rattle.std.proofs.lemmas.List.{length-set}

pub loop-rest-preserved : goal.loop-rest-preserved
loop-rest-preserved c = (
  length-set c.loop-rest.values c.from.result c.take.new.self ∙ c.loop-rest.invariant.0,
  λ id less.
      let xs = c.loop-rest.values in
      let s = c.first_setting.result.0 in
      let place : c.from.result ≡ min s.id 6 = c.from.ensures ∙ c.min.ensures in
      let at = written xs c.from.result id s.value _ _ (omega (arith, place, c.loop-rest.invariant.0)) c.take.ensures.last c.take.ensures.least c.take.ensures.greatest in
      one_taken id s _ (settings_of c.first_setting.result.1.now) xs _ _ less c.first_setting.ensures.settings
      (at ∙ ap (λ (p : ℕ). if id == p then with_value s.value (get_or xs id no_values) else get_or xs id no_values) place) (c.loop-rest.invariant.1 id less),
)

pub returns : goal.returns
returns c = λ id less. all_taken id c.loop-rest.rest.now _ _ (c.loop-rest.invariant.1 id less) c.loop-rest-test.false
