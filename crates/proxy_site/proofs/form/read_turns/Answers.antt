-- The word spells no such number.
use Rattle.proxy_site.proofs.Wording.{number_else, number_no}
use Rattle.proxy_site.proofs.form.read_turns.Goals as goal

pub returns-in_default-clause-none : goal.returns-in_default-clause-none
returns-in_default-clause-none c = number_no c.args.word.now c.parse.result c.in_default.not-Ok c.parse.ensures.value.0

pub returns-else-eq-clause-none : goal.returns-else-eq-clause-none
returns-else-eq-clause-none c = number_else c.args.word.now c.format.result.now c.in-Ok.n c.parse.result c.eq.result c.in-Ok.is c.parse.ensures.value.0 c.format.ensures.text c.eq.ensures c.else-eq.either
