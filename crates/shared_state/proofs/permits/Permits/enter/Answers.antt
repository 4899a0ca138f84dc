use Rattle.std.proofs.Common.{ap, ◌∙◌, arith}
use Rattle.shared_state.proofs.PermitSteps.{enters, gives}
use Rattle.shared_state.proofs.permits.Permits.enter.Goals as goal

pub fetch_add-found-requires : goal.fetch_add-found-requires
fetch_add-found-requires c = let w = c.args.self.now.words in (c.requires.0, omega arith, enters _ _ _ _ c.requires.2)

pub fetch_sub-requires : goal.fetch_sub-requires
fetch_sub-requires c =
    let w = c.args.self.now.words in let full = c.if-found-self.false in let same = c.requires.1 in
    let is = c.fetch_add-found.ensures.2.1 (omega arith) in
    (c.fetch_add-found.ensures.0 ∙ c.requires.0, omega arith, gives _ _ _ _ (ap (λ v. v.owing) is))
