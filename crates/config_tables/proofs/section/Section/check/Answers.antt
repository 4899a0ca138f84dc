use Rattle.std.proofs.Common.{◌∙◌, ◌<◌, ap, sym, map, length, arith, List, Option}
use Rattle.std.proofs.lemmas.List.{at_drop_more}
use Rattle.std.proofs.lemmas.Result.{err_from_is_err_and}
use Rattle.config_tables.specs.Answers.{members_of, first}
use Rattle.config_tables.specs.Keys.{keys_faults}
use Rattle.config_tables.specs.Kinds.{key_of}
use Rattle.config_tables.specs.declared.fault.ConfigFault.{ConfigFault}
use Rattle.config_tables.specs.declared.keys.Key.{Key}
use Rattle.config_tables.proofs.Faults.{first_append}
use Rattle.config_tables.proofs.section.Section.check.Goals as goal

pub returns-in_err-check_key : goal.returns-in_err-check_key
returns-in_err-check_key c =
    let p = err_from_is_err_and c.from_residual.result c.from_residual.ensures.1 in
    let section = c.args.self.now in
    let left : List Key → Option ConfigFault = λ ks. first (keys_faults section.place.now (members_of section.table) (map key_of ks)) in
    let below : c.loop-key.key-index < length c.args.keys.now = omega arith in
    let here = at_drop_more left c.args.keys.now c.loop-key.key-index c.key-item.result below in
    rw (p.1, p.2) (λ known. ap first (sym c.loop-key.invariant) ∙ here ∙ rw (← c.key-item.is) (first_append _ _ _ (c.in_err-check_key.ensures known)))
