use Rattle.std.proofs.Common.{ap, ◌∙◌, sym, arith}
use Rattle.shared_state.proofs.VersionSteps.{raises}
use Rattle.shared_state.proofs.publisher.Publisher.publish.Goals as goal

pub fetch_add-requires : goal.fetch_add-requires
fetch_add-requires g c =
    let is = ap (λ b. b.word.shared.table_id) c.deref.ensures in let n = c.deref.result.now.words in
    let total = c.args.self.now.total_is in let room = c.if-self-ge-MOST.false in
    (c.args.self.now.seated ∙ sym is, omega arith, raises _ _ _ c.args.self.now.publishes (omega arith))
