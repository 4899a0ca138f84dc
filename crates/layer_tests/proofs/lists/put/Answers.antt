use Rattle.std.proofs.Common.{◌≡◌, true, sym, subst}
use Rattle.std.specs.Prelude.{IfSome}
use Rattle.link_lists.specs.Lists.{has_node}
use Rattle.layer_tests.proofs.Known.{insert_stays, insert_keeps, insert_has}
use Rattle.layer_tests.proofs.lists.put.Goals as goal

pub returns-clause-number : goal.returns-clause-number
returns-clause-number g c = (insert_stays c.args.lists.now c.insert_back.new.self 0 c.args.value c.requires c.insert_back.result (λ e. e.1 ≡ c.args.value) c.insert_back.ensures.ok c.insert_back.ensures.err).0

pub returns-clause-known : goal.returns-clause-known
returns-clause-known g c = (insert_stays c.args.lists.now c.insert_back.new.self 0 c.args.value c.requires c.insert_back.result (λ e. e.1 ≡ c.args.value) c.insert_back.ensures.ok c.insert_back.ensures.err).1

pub returns-clause-listed : goal.returns-clause-listed
returns-clause-listed g c = insert_keeps c.args.lists.now c.insert_back.new.self 0 c.args.value c.requires c.insert_back.result (λ e. e.1 ≡ c.args.value) c.insert_back.ensures.ok c.insert_back.ensures.err

pub returns-clause-node : goal.returns-clause-node
returns-clause-node g c = subst (λ o. IfSome o (λ n. has_node n c.insert_back.new.self.lists ≡ true)) (sym c.ok.ensures.value)
    (insert_has c.args.lists.now c.insert_back.new.self 0 c.args.value c.requires c.insert_back.result c.insert_back.ensures.ok)
