use Rattle.config_tables.specs.Kinds.{is_unknown}
use Rattle.config_tables.proofs.Least.{keys_of-view, least_found}
use Rattle.config_tables.proofs.section.least_unknown.Goals as goal

pub returns-in-Some : goal.returns-in-Some
returns-in-Some c =
    let found = rw c.in-Some.is at c.find_unknown.ensures.found in
    let keys = c.args.keys.now in
    rw (c.as_str.ensures.value, keys_of-view c.args.table.now.entries, least_found (is_unknown keys) _ c.find_unknown.ensures.ascending, ← found)

pub returns-in-None : goal.returns-in-None
returns-in-None c =
    let found = rw c.in-None.is at c.find_unknown.ensures.found in
    let keys = c.args.keys.now in
    rw (keys_of-view c.args.table.now.entries, least_found (is_unknown keys) _ c.find_unknown.ensures.ascending, ← found)
