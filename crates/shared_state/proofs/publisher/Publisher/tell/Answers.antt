use Rattle.std.proofs.Common.{ap, ◌∙◌, sym, arith}
use Rattle.shared_state.proofs.VersionSteps.{splits}
use Rattle.shared_state.proofs.publisher.Publisher.tell.Goals as goal

pub split_seat-seat-requires : goal.split_seat-seat-requires
split_seat-seat-requires c =
    let is = ap (λ b. b.word.shared.table_id) c.deref.ensures in let n = c.deref.result.now.words in
    (c.args.self.now.seated ∙ sym is, omega arith, splits _ _)
